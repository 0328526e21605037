-- Spans in the order of their labels: what a sort of the references says of what they lead to.
use Rattle.std.proofs.Common.{◌≡◌, ◌∙◌, ◌+◌, ◌<◌, ℕ, ap, refl, sym, subst, length, get_or, append-nil}
use Rattle.std.proofs.Common.{append_assoc, []}
use Rattle.std.proofs.Math.ListN.{get_or-map}
use Rattle.std.proofs.lemmas.List.{map-append}
use Rattle.std.proofs.lemmas.List.Elements.{filter_map-append}
use Rattle.std.proofs.lemmas.List.Sorted.{IsPermutation-map}
use Rattle.std.specs.Prelude.{Bool, true, false, List, ◌∷◌, ◌++◌, cond, filter, map, Option, Some, None, option_map, suc}
use Rattle.std.specs.List.{cons_option}
use Rattle.std.specs.Option.{option_to_list}
use Rattle.std.specs.List.Sorted.{IsPermutation, IsSortedByKey, IsStableByKey, ties}
use Rattle.std.specs.Ordering.{is_lt}
use Rattle.std.specs.declared.ops.Range.{Range}
use Rattle.ariadne.specs.IndexType.{IndexType}
use Rattle.ariadne.specs.Report.{LabelFields, ReportFields}
use Rattle.ariadne_safe.specs.SafeReports.{shown_label}
use Rattle.ariadne_safe.specs.declared.sources.SafeSource.{SafeSource}
use Rattle.ariadne_parse.specs.declared.diagnostic.Span.{Span}
use Rattle.ariadne_parse.specs.declared.diagnostic.Severity.{Severity}
use Rattle.ariadne_show.specs.declared.found.FoundSpan.{FoundSpan}
use Rattle.ariadne_show.specs.FoundSpans.{Files, FoundFields, found_in, found_of}
use Rattle.ariadne_show.specs.FoundLabels.{all_found, key_cmp, label_of, labels_of, span_key, AreOrdered, with_labels}

-- a reference to what stands somewhere
lent : FoundFields → FoundSpan
lent x = record {
  number = x.number;
  caret = x.caret;
  start = x.start;
  end = x.end;
  is_in_text = x.is_in_text;
  span = record { ref_ptr = (0, 0); now = x.span };
}

length_found : (xs : List FoundSpan) → length (map found_of xs) ≡ length xs
length_found [] = refl
length_found (x ∷ xs) = ap suc (length_found xs)

sorted_found : (main : ℕ) (xs : List FoundSpan) → IsSortedByKey (λ it. span_key main (found_of it)) key_cmp xs
    → IsSortedByKey (span_key main) key_cmp (map found_of xs)
unfolding lent
sorted_found main xs up k d low high =
    ap (λ (x : FoundFields). is_lt (key_cmp (span_key main x) (span_key main (get_or (map found_of xs) k d))))
    (get_or-map found_of xs (k + 1) (lent d))
    ∙ ap (λ (y : FoundFields). is_lt (key_cmp (span_key main (found_of (get_or xs (k + 1) (lent d)))) (span_key main y)))
    (get_or-map found_of xs k (lent d))
    ∙ up k (lent d) low (subst (λ (n : ℕ). k + 1 < n) (length_found xs) high)

pick : (b : Bool) (x : FoundSpan) (xs : List FoundSpan)
    → cond b (found_of x ∷ map found_of xs) (map found_of xs) ≡ map found_of (cond b (x ∷ xs) xs)
pick true x xs = refl
pick false x xs = refl

filter_found : (p : FoundFields → Bool) (xs : List FoundSpan)
    → filter p (map found_of xs) ≡ map found_of (filter (λ it. p (found_of it)) xs)
filter_found p [] = refl
filter_found p (x ∷ xs) =
    ap (λ (l : List FoundFields). cond (p (found_of x)) (found_of x ∷ l) l) (filter_found p xs)
    ∙ pick (p (found_of x)) x (filter (λ it. p (found_of it)) xs)

stable_found : (main : ℕ) (xs ys : List FoundSpan)
    → IsStableByKey (λ it. span_key main (found_of it)) key_cmp xs ys
    → IsStableByKey (span_key main) key_cmp (map found_of xs) (map found_of ys)
unfolding lent
stable_found main xs ys same x =
    let test : FoundFields → Bool = ties (λ a b. is_lt (key_cmp (span_key main a) (span_key main b))) x in
    filter_found test ys ∙ ap (map found_of) (same (lent x)) ∙ sym (filter_found test xs)

-- the order of references is one of what they lead to
pub ordered : (files : Files) (main : ℕ) (spans : List Span) (xs ys : List FoundSpan)
    → map found_of xs ≡ all_found files spans → IsPermutation xs ys
    → IsSortedByKey (λ it. span_key main (found_of it)) key_cmp ys
    → IsStableByKey (λ it. span_key main (found_of it)) key_cmp xs ys
    → AreOrdered files main spans (map found_of ys)
ordered files main spans xs ys is same up stable = record {
  same = subst (λ (l : List FoundFields). IsPermutation l (map found_of ys)) is (IsPermutation-map found_of xs ys same);
  sorted = sorted_found main ys up;
  stable = subst (λ (l : List FoundFields). IsStableByKey (span_key main) key_cmp l (map found_of ys)) is
      (stable_found main xs ys stable);
}

-- ---- one span more

as_list : (it : Option FoundSpan) → map found_of (option_to_list it) ≡ cons_option (option_map found_of it) []
as_list None = refl
as_list (Some x) = refl

pub found_more : (files : Files) (xs all : List Span) (x : Span) (found : List FoundSpan) (it : Option FoundSpan)
    → map found_of found ≡ all_found files xs → option_map found_of it ≡ found_in files x → all ≡ xs ++ x ∷ []
    → map found_of (found ++ option_to_list it) ≡ all_found files all
found_more files xs all x found it is one more =
    map-append found_of found (option_to_list it)
    ∙ ap (λ l. l ++ map found_of (option_to_list it)) is
    ∙ ap (λ l. all_found files xs ++ l) (as_list it ∙ ap (λ (o : Option FoundFields). cons_option o []) one)
    ∙ sym (filter_map-append (found_in files) xs (x ∷ []))
    ∙ ap (all_found files) (sym more)

-- ---- one label more

pub no_labels : (r : ReportFields (ℕ × Range ℕ)) → r ≡ with_labels [] r
no_labels r = ap (λ (l : List (LabelFields (ℕ × Range ℕ))). record r { labels = l }) (sym (append-nil r.labels))

labels_more : (r0 r s : ReportFields (ℕ × Range ℕ)) (xs ys : List (LabelFields (ℕ × Range ℕ))) → r ≡ with_labels xs r0
    → s ≡ with_labels ys r → s ≡ with_labels (xs ++ ys) r0
labels_more r0 r s xs ys is more =
    more ∙ ap (with_labels ys) is
    ∙ ap (λ (l : List (LabelFields (ℕ × Range ℕ))). record r0 { labels = l }) (append_assoc r0.labels xs ys)

labels_of_more : (index : IndexType) (sources : List SafeSource) (severity : Severity) (is_compact : Bool) (xs all : List FoundSpan)
    (x : FoundSpan) → all ≡ xs ++ x ∷ []
    → labels_of index sources severity is_compact (map found_of xs) ++ labels_of index sources severity is_compact (found_of x ∷ [])
    ≡ labels_of index sources severity is_compact (map found_of all)
labels_of_more index sources severity is_compact xs all x more =
    sym (map-append (λ (it : FoundFields). shown_label index sources (label_of severity is_compact it)) (map found_of xs) (found_of x ∷ []))
    ∙ ap (labels_of index sources severity is_compact) (sym (map-append found_of xs (x ∷ [])))
    ∙ ap (λ l. labels_of index sources severity is_compact (map found_of l)) (sym more)

pub label_more : (r0 r s : ReportFields (ℕ × Range ℕ)) (under sources : List SafeSource) (severity : Severity) (is_compact : Bool)
    (xs all : List FoundSpan) (x : FoundSpan) (label : LabelFields (ℕ × Range ℕ))
    → r ≡ with_labels (labels_of r0.config.index_type under severity is_compact (map found_of xs)) r0 → sources ≡ under
    → label ≡ label_of severity is_compact (found_of x) → all ≡ xs ++ x ∷ []
    → s ≡ record r { labels = r.labels ++ shown_label r.config.index_type sources label ∷ [] }
    → s ≡ with_labels (labels_of r0.config.index_type under severity is_compact (map found_of all)) r0
label_more r0 r s under sources severity is_compact xs all x label is same look more one =
    let index = r0.config.index_type in
    let as_told : shown_label r.config.index_type sources label ≡ shown_label index under (label_of severity is_compact (found_of x)) =
    ap (λ (q : ReportFields (ℕ × Range ℕ)). shown_label q.config.index_type sources label) is
    ∙ ap (λ (l : List SafeSource). shown_label index l label) same ∙ ap (shown_label index under) look in
    labels_more r0 r s (labels_of index under severity is_compact (map found_of xs)) (labels_of index under severity is_compact (found_of x ∷ [])) is
    (one ∙ ap (λ (l : LabelFields (ℕ × Range ℕ)). record r { labels = r.labels ++ l ∷ [] }) as_told)
    ∙ ap (λ (l : List (LabelFields (ℕ × Range ℕ))). with_labels l r0) (labels_of_more index under severity is_compact xs all x more)
