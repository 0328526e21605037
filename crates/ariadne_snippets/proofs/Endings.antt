-- Ends of texts, and texts that stand in others.
use Rattle.std.proofs.Common.{◌≡◌, ◌∙◌, ap, sym, refl, ℕ, ◌+◌, ◌-◌, Bool, true, false, eqb, cond, List, [], ◌∷◌, ◌++◌, drop, take, length, append_assoc, Option, Some, None, option_map, subst}
use Rattle.std.specs.Prelude.{option_and_then, unwrap_or}
use Rattle.std.proofs.Math.Seq.{drop-length}
use Rattle.std.proofs.lemmas.List.{append-nil, drop-drop, take-append-drop}
use Rattle.std.specs.Str.{IsTrimEnd}
use Rattle.ariadne_snippets.specs.Ends.{IsEnd}
use Rattle.ariadne_snippets.specs.Gutters.{gutter_behind, gutter_in, numbered_in, without, GutterIn}
use Rattle.ariadne_snippets.specs.RowPieces.{behind, digits_in, number_in, past_blanks, IsIn}

-- a text is its own end
pub end_of_all : (text : List ℕ) → IsEnd text text
end_of_all text = record { count = 0; is_rest = refl }

-- and nothing is one
pub end_of_nothing : (text : List ℕ) → IsEnd [] text
end_of_nothing text = record { count = length text; is_rest = sym (drop-length text) }

-- the end of an end is one
pub end_of_end : (text middle line : List ℕ) → IsEnd text middle → IsEnd middle line → IsEnd text line
end_of_end text middle line a b = record {
  count = b.count + a.count;
  is_rest = a.is_rest ∙ ap (λ x. drop a.count x) b.is_rest ∙ drop-drop a.count b.count line;
}

-- what is left of a text is an end
pub end_of_rest : (count : ℕ) (text : List ℕ) → IsEnd (drop count text) text
end_of_rest count text = record { count = count; is_rest = refl }

-- and what stands behind its first character
end_by : (b : Bool) (c : ℕ) (text rest : List ℕ) → cond b (Some text) None ≡ Some rest → IsEnd rest (c ∷ text)
end_by true c text rest e = let is : rest ≡ text = cc in record { count = 1; is_rest = is }
end_by false c text rest e = absurd (cc e)

pub end_behind : (mark : ℕ) (text rest : List ℕ) → behind mark text ≡ Some rest → IsEnd rest text
end_behind mark [] rest e = absurd (cc e)
end_behind mark (c ∷ text) rest e = end_by (eqb c mark) c text rest e

-- an end stands in its text
pub in_by_end : (text line : List ℕ) → IsEnd text line → IsIn text line
in_by_end text line end = record {
  front = take end.count line;
  rest = [];
  is_there = sym (append-nil (take end.count line ++ text) ∙ ap (λ x. take end.count line ++ x) end.is_rest
      ∙ take-append-drop end.count line);
}

-- a text stands where its equal does
pub in_same : (text other line : List ℕ) → text ≡ other → IsIn other line → IsIn text line
in_same text other line e there = let P : List ℕ → Type 0 = λ x. IsIn x line in subst P (sym e) there

-- what stands in what stands in a text stands in it
pub in_further : (text middle line : List ℕ) → IsIn text middle → IsIn middle line → IsIn text line
in_further text middle line a b = record {
  front = b.front ++ a.front;
  rest = a.rest ++ b.rest;
  is_there = b.is_there ∙ rw a.is_there (simp append_assoc);
}

-- so does what is left without white space at its end
pub in_by_trim : (text whole line : List ℕ) → IsTrimEnd whole text → IsIn whole line → IsIn text line
in_by_trim text whole line trimmed there =
    let front : IsIn text whole = record {
      front = [];
      rest = drop trimmed.0 whole;
      is_there = sym (ap (λ x. x ++ drop trimmed.0 whole) trimmed.1 ∙ take-append-drop trimmed.0 whole);
    } in
    in_further text whole line front there

-- and a slice
pub in_slice : (count start : ℕ) (line : List ℕ) → IsIn (take count (drop start line)) line
in_slice count start line = record {
  front = take start line;
  rest = drop count (drop start line);
  is_there = sym (append_assoc (take start line) (take count (drop start line)) (drop count (drop start line))
      ∙ ap (λ x. take start line ++ x) (take-append-drop count (drop start line)) ∙ take-append-drop start line);
}

-- a front is one
pub in_front_of : (count : ℕ) (line : List ℕ) → IsIn (take count line) line
in_front_of count line = record {
  front = [];
  rest = drop count line;
  is_there = sym (take-append-drop count line);
}

-- ---- gutters

-- a text without a character is an end of it
without_by : (mark : ℕ) (text : List ℕ) (o : Option (List ℕ)) → behind mark text ≡ o → IsEnd (unwrap_or o text) text
without_by mark text None e = end_of_all text
without_by mark text (Some rest) e = end_behind mark text rest e

pub end_without : (mark : ℕ) (text : List ℕ) → IsEnd (without mark text) text
end_without mark text = without_by mark text (behind mark text) refl

-- so is what stands behind a number
number_by : (b : Bool) (n : ℕ) (text rest : List ℕ) (found : ℕ × List ℕ) → cond b (Some (n, rest)) None ≡ Some found
    → IsEnd rest text → IsEnd found.1 text
number_by true n text rest found e end =
    let same : (n, rest) ≡ found = cc e in
    let is : rest ≡ found.1 = ap (λ (p : ℕ × List ℕ). p.1) same in
    let P : List ℕ → Type 0 = λ x. IsEnd x text in
    subst P is end
number_by false n text rest found e end = absurd (cc e)

end_number : (text : List ℕ) (found : ℕ × List ℕ) → number_in text ≡ Some found → IsEnd found.1 text
unfolding number_in
end_number text found e = number_by _ _ text (drop (digits_in text) text) found e (end_of_rest (digits_in text) text)

numbered_rest : (text : List ℕ) (o : Option (ℕ × List ℕ)) (found : Option ℕ × List ℕ) → number_in text ≡ o
    → option_map (λ (x : ℕ × List ℕ). (Some x.0, x.1)) o ≡ Some found → IsEnd found.1 text
numbered_rest text None found is e = absurd (cc e)
numbered_rest text (Some x) found is e =
    let same : (Some x.0, x.1) ≡ found = cc e in
    let P : List ℕ → Type 0 = λ rest. IsEnd rest text in
    subst P (ap (λ (p : Option ℕ × List ℕ). p.1) same) (end_number text x is)

numbered_by : (b : Bool) (text : List ℕ) (found : Option ℕ × List ℕ)
    → cond b (Some (None, text)) (option_map (λ (x : ℕ × List ℕ). (Some x.0, x.1)) (number_in text)) ≡ Some found
    → IsEnd found.1 text
numbered_by true text found e =
    let same : (None, text) ≡ found = cc e in
    let P : List ℕ → Type 0 = λ rest. IsEnd rest text in
    subst P (ap (λ (p : Option ℕ × List ℕ). p.1) same) (end_of_all text)
numbered_by false text found e = numbered_rest text (number_in text) found refl e

end_numbered : (text : List ℕ) (found : Option ℕ × List ℕ) → numbered_in text ≡ Some found → IsEnd found.1 text
unfolding numbered_in
end_numbered text found e = numbered_by _ text found e

-- and what stands behind a gutter
bar_by : (line at_bar : List ℕ) (number : Option ℕ) (o : Option (List ℕ)) (gutter : GutterIn) → behind 124 at_bar ≡ o
    → option_map (λ text. record {
      number = number;
      bar = length line - length at_bar;
      text = without 32 text;
    }) o ≡ Some gutter
    → IsEnd gutter.text at_bar
bar_by line at_bar number None gutter is e = absurd (cc e)
bar_by line at_bar number (Some text) gutter is e =
    let same : without 32 text ≡ gutter.text = cc e in
    let P : List ℕ → Type 0 = λ rest. IsEnd rest at_bar in
    subst P same (end_of_end (without 32 text) text at_bar (end_without 32 text) (end_behind 124 at_bar text is))

gutter_by : (line : List ℕ) (o : Option (Option ℕ × List ℕ)) (gutter : GutterIn)
    → numbered_in (past_blanks (without 37 line)) ≡ o → option_and_then (gutter_behind line) o ≡ Some gutter
    → IsEnd gutter.text line
gutter_by line None gutter is e = absurd (cc e)
gutter_by line (Some found) gutter is e =
    let front = without 37 line in
    let at_bar = past_blanks found.1 in
    let text = bar_by line at_bar found.0 (behind 124 at_bar) gutter refl e in
    let bar = end_of_rest _ found.1 in
    let rest = end_numbered (past_blanks front) found is in
    let blanks = end_of_rest _ front in
    end_of_end gutter.text front line
    (end_of_end gutter.text (past_blanks front) front
    (end_of_end gutter.text found.1 (past_blanks front) (end_of_end gutter.text at_bar found.1 text bar) rest) blanks)
    (end_without 37 line)

pub gutter_ends : (line : List ℕ) (gutter : GutterIn) → gutter_in line ≡ Some gutter → IsEnd gutter.text line
unfolding gutter_in
gutter_ends line gutter e = gutter_by line (numbered_in (past_blanks (without 37 line))) gutter refl e
