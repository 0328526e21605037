-- What a line of a group is drawn from: its labels, and how many places its rows have.
use Rattle.std.proofs.Common.{◌≡◌, ◌∙◌, ℕ, ◌+◌, ◌<◌, ◌≤◌, ◌^◌, Bool, not, ◌&&◌, ◌==◌, List, [], ◌∷◌, ◌++◌, length, map, filter, ap, arith}
use Rattle.std.specs.Prelude.{Option, option_to_list, if◌then◌else◌, slice_range}
use Rattle.std.specs.List.{AllByRecursion, list_any}
use Rattle.std.specs.Str.{drop_trailing_whitespace}
use Rattle.std.proofs.lemmas.Bool.{cond_both}
use Rattle.std.proofs.lemmas.List.Sums.{get_or-le-sum_by}
use Rattle.ariadne_base.specs.Locations.{line_offset, line_text}
use Rattle.ariadne_picture.specs.declared.label_info.LabelInfo.{LabelInfo}
use Rattle.ariadne_picture.specs.declared.label_info.LineLabel.{LineLabel}
use Rattle.ariadne_picture.specs.declared.label_info.Side.TheVariants.{Inline}
use Rattle.ariadne_picture.specs.declared.sight.Sight.{Sight}
use Rattle.ariadne_picture.specs.declared.switches.Switches.{Switches}
use Rattle.ariadne_picture.specs.Columns.{Layout, arrow_len, layout_of, places_to_end, sights_of}
use Rattle.ariadne_picture.specs.Groups.{greatest}
use Rattle.ariadne_picture.specs.Lists.{total}
use Rattle.ariadne_picture.specs.Ranks.{Sheet, ends_at, gutter_labels, inline_labels, is_before, is_inline, is_margin, is_on_one_line, is_start}
use Rattle.ariadne_picture.specs.Ranks.{line_labels, margin_label}
use Rattle.ariadne_picture.proofs.Labels.LineLabels.{IsEndAt, ends-are}
use Rattle.ariadne_picture.proofs.Lists.ListFacts.{all-append, all-at, all-filter, all-in_order, all-map, all-weaker}
use Rattle.ariadne_picture.proofs.Rows.RowsThere.{all-gutter-labels}
use Rattle.ariadne_layout.specs.SnippetLabels.{events_at, events_of, labels_of, margin_of, ranked}
use Rattle.ariadne_layout.specs.Snippets.{AreOverLines, IsOverLines}
use Rattle.ariadne_layout.proofs.Events.{labels-at}
use Rattle.ariadne_layout.proofs.Ranking.{margin-found, ranked-found}
use Rattle.ariadne_layout.proofs.SourceLines.{total_is}

-- ---- its labels

-- those of the events that are on it
labels-there : (labels : List LabelInfo) (l from to : ℕ) → slice_range (events_of labels) from to ≡ events_at labels l
    → labels_of labels (slice_range (events_of labels) from to) ≡ ends_at labels l ++ inline_labels labels l
labels-there labels l from to e = ap (labels_of labels) e ∙ labels-at labels l

-- so its margin label is
pub margin-there : (labels : List LabelInfo) (l from to : ℕ) → slice_range (events_of labels) from to ≡ events_at labels l
    → margin_of (labels_of labels (slice_range (events_of labels) from to)) ≡ margin_label labels l
margin-there labels l from to e = margin-found labels l _ (labels-there labels l from to e)

-- and so are its line labels
pub ranked-there : (labels : List LabelInfo) (l from to : ℕ) → slice_range (events_of labels) from to ≡ events_at labels l
    → ranked (labels_of labels (slice_range (events_of labels) from to)) ≡ line_labels labels l
ranked-there labels l from to e = ranked-found labels l _ (labels-there labels l from to e)

-- the layout of a line, by its parts
pub layout-is : (s : Sheet) (l : ℕ) (y : Layout) (margin : Option LineLabel) (labels : List LineLabel) (offset : ℕ) (text : List ℕ) (sights : List Sight)
    → y ≡ record { margin = margin; labels = labels; offset = offset; text = text; sights = sights } → margin ≡ margin_label s.labels l
    → labels ≡ line_labels s.labels l → offset ≡ line_offset length s.lines l → text ≡ line_text s.lines l
    → sights ≡ sights_of s.switches offset (option_to_list margin ++ labels) (drop_trailing_whitespace text) → y ≡ layout_of s l
unfolding layout_of
layout-is s l y margin labels offset text sights e m n o t cut =
    let seen = cut ∙ (λ i. sights_of s.switches (o i) (option_to_list (m i) ++ n i) (drop_trailing_whitespace (t i))) in
    e ∙ (λ i. record { margin = m i; labels = n i; offset = o i; text = t i; sights = seen i })

-- what holds of each label of a group holds of the labels of a line
pub line-label-infos : (P : LabelInfo → Type 0) (s : Sheet) (l : ℕ) → AllByRecursion P s.labels → AllByRecursion (λ x. P x.info) (line_labels s.labels l)
unfolding line_labels inline_labels
line-label-infos P s l h =
    let Q : LineLabel → Type 0 = λ x. P x.info in
    let t : LineLabel → Bool = λ x. not (is_start x.side && is_margin (margin_label s.labels l) x) in
    let ins : List LabelInfo = filter (λ a. is_on_one_line a && (a.start_line == l)) s.labels in
    let make : LabelInfo → LineLabel = λ a. record { info = a; side = Inline; gutter_column = 0; place = a.attach } in
    all-in_order Q is_before (filter t (ends_at s.labels l) ++ map make ins)
    (all-append Q (filter t (ends_at s.labels l)) (map make ins)
    (all-filter Q t (ends_at s.labels l)
    (all-weaker (IsEndAt s l) Q (ends_at s.labels l) (λ x e. all-at P (gutter_labels s.labels) x.gutter_column x.info e.owned (all-gutter-labels P s h))
    (ends-are s l)))
    (all-map Q make ins (all-filter P (λ a. is_on_one_line a && (a.start_line == l)) s.labels h)))

-- ---- how many places its rows have

-- no label ends further behind the line's start than the source does
places-within : (y : Layout) (b : ℕ) (xs : List LineLabel) → AllByRecursion (λ x. x.info.end ≤ b) xs → greatest (map (places_to_end y) xs) ≤ b
unfolding greatest places_to_end
places-within y b [] h = omega arith
places-within y b (x ∷ xs) h = let here = h.0 in let rest = places-within y b xs h.1 in omega arith

-- so the rows have few places more than the source has characters
arrow-within : (switches : Switches) (y : Layout) (b : ℕ) → length y.text ≤ b → AllByRecursion (λ x. x.info.end ≤ b) y.labels
    → arrow_len switches y ≤ b + 2
unfolding arrow_len
arrow-within switches y b short h =
    let last = places-within y b y.labels h in
    cond_both (list_any (λ x. not (is_inline x.side)) y.labels) (length y.text) (greatest (map (places_to_end y) y.labels))
    (λ n. n + (if switches.compact then 1 else 2) ≤ b + 2)
    (λ _. cond_both switches.compact 1 2 (λ m. length y.text + m ≤ b + 2) (λ _. omega arith) (λ _. omega arith))
    (λ _. cond_both switches.compact 1 2 (λ m. greatest (map (places_to_end y) y.labels) + m ≤ b + 2) (λ _. omega arith) (λ _. omega arith))

-- their number fits
pub places-fit : (switches : Switches) (s : Sheet) (l : ℕ) → total length s.lines < 2 ^ 63 → AreOverLines s.lines s.labels → l < length s.lines
    → arrow_len switches (layout_of s l) < 2 ^ 64
unfolding layout_of
places-fit switches s l few over less =
    let b : ℕ = total length s.lines in
    let all = total_is length s.lines in
    let part = get_or-le-sum_by length s.lines l [] less in
    let ends : AllByRecursion (λ x. x.info.end ≤ b) (line_labels s.labels l) =
    line-label-infos (λ a. a.end ≤ b) s l (all-weaker (IsOverLines s.lines) (λ a. a.end ≤ b) s.labels (λ a h. h.ends_inside) over) in
    let within = arrow-within switches (layout_of s l) b (omega arith) ends in
    omega arith
