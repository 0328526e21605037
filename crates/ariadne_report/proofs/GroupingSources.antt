-- The labels of a group are over one source, and lie in its lines.
use Rattle.std.proofs.Common.{◌≡◌, ℕ, suc, ◌+◌, ◌-◌, ◌<◌, ◌||◌, Bool, true, false, max, min, List, [], ◌∷◌, Option, Some, None, refl, sym, ap, ◌∙◌, length, get_or, arith, subst}
use Rattle.std.proofs.Common.{drop}
use Rattle.std.specs.Cmp.{IsEquivalence}
use Rattle.std.specs.HashMap.Eq.{lookup_congr}
use Rattle.std.specs.Prelude.{slice_get, option_and_then, option_map, unwrap_or, nat_lt, not}
use Rattle.std.specs.Prelude.{chars, decimal}
use Rattle.std.specs.List.{AllByRecursion}
use Rattle.std.proofs.lemmas.Option.{slice_get-get_or, slice_get_within}
use Rattle.ariadne_base.proofs.LineLaws.{some_line}
use Rattle.ariadne_base.specs.Cache.{held}
use Rattle.ariadne_base.specs.Listing.{Listing, listed_lines}
use Rattle.ariadne_picture.specs.declared.label_info.LabelInfo.{LabelInfo}
use Rattle.ariadne_picture.specs.Canvas.{label_id, is_same_id, same_source, group_id, group_source, number_width, sheet_of}
use Rattle.ariadne_picture.specs.Groups.{is_cut, group_end_line, greatest, HasNoCut, printed_number}
use Rattle.ariadne_picture.specs.Ranks.{Sheet, last_line}
use Rattle.ariadne_picture.specs.Report.{HaveOneSource, LabelFields, ReportFields, World}
use Rattle.ariadne_picture.proofs.Lists.ListFacts.{all-weaker}
use Rattle.ariadne_picture.specs.Accept.{IsAccepted}
use Rattle.ariadne_layout.specs.Snippets.{AreOverLines, IsOverLines}
use Rattle.ariadne_report.specs.CacheReads.{AreDrawn, AreThere}
use Rattle.ariadne_report.specs.DrawnGroups.{IsGroup}
use Rattle.ariadne_report.proofs.Grouping.{NoCuts, all_at, cut_first, some_label}
use Rattle.ariadne_report.proofs.OverLines.{over-lines}

-- equal ids find one source
pub one_source : {Id : Type 0} (eq : Id → Id → Bool) → IsEquivalence eq → (contents : List (Id × Listing)) (p q : Id) → eq p q ≡ true
    → held eq contents p ≡ held eq contents q
one_source eq laws contents p q t = lookup_congr eq laws.congr contents p q t

-- the last line of a group is a line
pub end_below : (n : ℕ) (group : List LabelInfo) → 0 < n → AllByRecursion (λ a. a.end_line < n) group → group_end_line group < n
unfolding group_end_line greatest
end_below n [] h a = h
end_below n (x ∷ group) h a = let rest : group_end_line group < n = end_below n group h a.1 in omega (arith, a.0)

-- the last line of a group, as it is counted
pub last_told : (s : Sheet) (context size n : ℕ) → s.switches.context_lines ≡ context → length s.lines ≡ size
    → n ≡ group_end_line s.labels + min context (size - suc (group_end_line s.labels)) → n ≡ last_line s
unfolding last_line
last_told s context size n c l e = e ∙ (λ i. group_end_line s.labels + min (sym c i) (sym l i - suc (group_end_line s.labels)))

-- a false test of two has two false parts
or_false : (a b : Bool) → (not a || b) ≡ false → a ≡ true
or_false true b h = refl
or_false false b h = let f : true ≡ false = h in cc

module _ {S Id : Type 0} (w : World S Id) (r : ReportFields S) where
  -- the id of the label at a position
  pub id_is : (k : ℕ) (x : LabelFields S) → slice_get r.labels k ≡ Some x → label_id w r k ≡ Some (w.id_of x.span)
  unfolding label_id
  id_is k x e = ap (option_map (λ label. w.id_of label.span)) e

  -- a label that is there
  pub label_there : (k : ℕ) (labels : List (LabelFields S)) (x : LabelFields S) → labels ≡ r.labels → x ≡ get_or labels k x → k < length r.labels
      → slice_get r.labels k ≡ Some x
  label_there k labels x same e h = slice_get-get_or r.labels k x h ∙ ap Some (ap (λ ls. get_or ls k x) (sym same) ∙ sym e)

  -- when two labels are over one source
  pub same_is : (j k : ℕ) (x y : LabelFields S) → slice_get r.labels j ≡ Some x → slice_get r.labels k ≡ Some y
      → same_source w r j k ≡ w.is_same (w.id_of x.span) (w.id_of y.span)
  unfolding same_source is_same_id
  same_is j k x y e f = ap (λ i. is_same_id w r i (label_id w r k)) (id_is j x e) ∙ ap (λ i. is_same_id w r (Some (w.id_of x.span)) i) (id_is k y f)

  -- their ids tell it
  pub same_by_ids : (j k : ℕ) (x y : LabelFields S) (p q : Id) (n : Bool) → slice_get r.labels j ≡ Some x → slice_get r.labels k ≡ Some y
      → p ≡ w.id_of x.span → q ≡ w.id_of y.span → n ≡ w.is_same p q → n ≡ same_source w r j k
  same_by_ids j k x y p q n first second ex ey e =
      e ∙ ap (λ i. w.is_same i q) ex ∙ ap (λ i. w.is_same (w.id_of x.span) i) ey ∙ sym (same_is j k x y first second)

  module _ (a b : LabelInfo) (n : Bool) (e : n ≡ same_source w r a.position b.position) where
    -- whether a cut stands between them
    cut_is : is_cut (same_source w r) a b ≡ (not n || nat_lt b.end_line a.end_line)
    unfolding is_cut
    cut_is = ap (λ s. not s || nat_lt b.end_line a.end_line) (sym e)

    -- their sources differ
    pub cut_by_sources : n ≡ false → not n ≡ is_cut (same_source w r) a b
    cut_by_sources h = ap not h ∙ sym (cut_is ∙ ap (λ s. not s || nat_lt b.end_line a.end_line) h)

    -- they don't: the lines tell
    pub cut_by_lines : n ≡ true → nat_lt b.end_line a.end_line ≡ is_cut (same_source w r) a b
    cut_by_lines h = sym (cut_is ∙ ap (λ s. not s || nat_lt b.end_line a.end_line) h)

  -- labels that are drawn are there
  pub drawn_there : (infos : List LabelInfo) → AreDrawn w r infos → AreThere r infos
  drawn_there infos d = all-weaker (IsAccepted w r) (λ a. a.position < length r.labels) infos (λ a d. slice_get_within r.labels a.position d.label d.there) d

  -- the first label of a group is there
  pub first_there : (group : List LabelInfo) (d : LabelInfo) → IsGroup w r group → (get_or group 0 d).position < length r.labels
  first_there group d g =
      all_at (λ (a : LabelInfo). a.position < length r.labels) group 0 d (some_label (same_source w r) group g.whole) (drawn_there group g.drawn)

  -- the source of a group is that of its first label
  pub source_is : (a : LabelInfo) (group : List LabelInfo) (d : IsAccepted w r a) → group_source w r (a ∷ group) ≡ d.source
  unfolding group_source group_id
  source_is a group d =
      let none : Listing = record { text = []; display_offset = 0 } in
      ap (λ o. unwrap_or (option_and_then w.source_of o) none) (id_is a.position d.label d.there) ∙ ap (λ o. unwrap_or o none) d.is_held

  module _ (one : HaveOneSource w) where
    -- ids that count as one find one source
    ids_found : (p q : Option Id) → is_same_id w r p q ≡ true → option_and_then w.source_of p ≡ option_and_then w.source_of q
    unfolding is_same_id
    ids_found (Some p) (Some q) e = one p q e
    ids_found (Some p) None e = cc
    ids_found None q e = cc

    -- so groups have one source whose first labels are over one
    pub one_group_source : (a b : LabelInfo) (g h : List LabelInfo) → slice_get g 0 ≡ Some a → slice_get h 0 ≡ Some b
        → same_source w r a.position b.position ≡ true → group_source w r g ≡ group_source w r h
    unfolding group_source group_id same_source
    one_group_source a b [] h ea eb e = cc
    one_group_source a b (x ∷ g) [] ea eb e = cc
    one_group_source a b (x ∷ g) (y ∷ h) ea eb e =
        let none : Listing = record { text = []; display_offset = 0 } in
        let first : x ≡ a = cc in
        let second : y ≡ b = cc in
        let ids : is_same_id w r (label_id w r x.position) (label_id w r y.position) ≡ true =
        (λ i. is_same_id w r (label_id w r (first i).position) (label_id w r (second i).position)) ∙ e in
        ap (λ o. unwrap_or o none) (ids_found (label_id w r x.position) (label_id w r y.position) ids)

    -- labels without a cut lie in the lines of the source of the first
    over_rest : (a : LabelInfo) (group : List LabelInfo) (d : IsAccepted w r a) → AreDrawn w r group → HasNoCut (same_source w r) a group
        → (source : Listing) → d.source ≡ source → AreOverLines (listed_lines source) (a ∷ group)
    unfolding is_cut
    over_rest a [] d ds h source e = (subst (λ s. IsOverLines (listed_lines s) a) e (over-lines w r a d), tt)
    over_rest a (b ∷ group) d ds h source e =
        let same : same_source w r a.position b.position ≡ true = or_false (same_source w r a.position b.position) (nat_lt b.end_line a.end_line) h.0 in
        let next = ds.0 in
        let ids : w.is_same (w.id_of d.label.span) (w.id_of next.label.span) ≡ true =
        sym (same_is a.position b.position d.label next.label d.there next.there) ∙ same in
        let found : Some d.source ≡ Some next.source = sym d.is_held ∙ one (w.id_of d.label.span) (w.id_of next.label.span) ids ∙ next.is_held in
        let equal : next.source ≡ source = cc in
        (subst (λ s. IsOverLines (listed_lines s) a) e (over-lines w r a d), over_rest b group next ds.1 h.1 source equal)

    -- so they lie in those of their source
    over_labels : (group : List LabelInfo) → AreDrawn w r group → NoCuts (same_source w r) group
        → AreOverLines (listed_lines (group_source w r group)) group
    over_labels [] d h = tt
    over_labels (a ∷ group) d h = over_rest a group d.0 d.1 h (group_source w r (a ∷ group)) (sym (source_is a group d.0))

    -- the labels of a group do
    pub over_group : (group : List LabelInfo) → IsGroup w r group → AreOverLines (listed_lines (group_source w r group)) group
    over_group group g = over_labels group g.drawn (cut_first (same_source w r) group [] g.whole)

    -- they end on one of them
    end_inside : (group : List LabelInfo) → IsGroup w r group → group_end_line group < length (listed_lines (group_source w r group))
    end_inside group g =
        let ls = listed_lines (group_source w r group) in
        end_below (length ls) group (some_line (chars (group_source w r group).text))
        (all-weaker (IsOverLines ls) (λ a. a.end_line < length ls) group (λ a o. o.within) (over_group group g))

    -- its last line is one of them
    pub last_inside : (group : List LabelInfo) → IsGroup w r group → last_line (sheet_of w r group) < length (listed_lines (group_source w r group))
    unfolding last_line
    last_inside group g = let ends = end_inside group g in omega (arith, ends)

  -- the source that is found for a label that is drawn
  pub found_source : (a : LabelInfo) (d : IsAccepted w r a) (x : LabelFields S) → slice_get r.labels a.position ≡ Some x → (id : Id) → id ≡ w.id_of x.span
      → (o : Option Listing) → o ≡ w.source_of id → (source : Listing) → o ≡ Some source → d.source ≡ source
  found_source a d x there id is o get source found =
      let label : Some d.label ≡ Some x = sym d.there ∙ there in
      let same : d.label ≡ x = cc in
      let ids : w.id_of d.label.span ≡ id = ap (λ (y : LabelFields S). w.id_of y.span) same ∙ sym is in
      let both : Some d.source ≡ Some source = sym d.is_held ∙ ap w.source_of ids ∙ sym get ∙ found in
      cc

  -- a step of the loop for the width of the numbers of groups
  pub width_step : (gs : List (List LabelInfo)) (i : ℕ) (group : List LabelInfo) → drop i gs ≡ group ∷ drop (suc i) gs → (n width new all : ℕ)
      → n ≡ printed_number (group_source w r group).display_offset (last_line (sheet_of w r group)) → new ≡ max width (length (decimal n))
      → all ≡ max width (number_width w r (drop i gs)) → all ≡ max new (number_width w r (drop (suc i) gs))
  unfolding number_width greatest
  width_step gs i group at n width new all is more so_far =
      let wide : number_width w r (drop i gs) ≡ max (length (decimal n)) (number_width w r (drop (suc i) gs)) =
      ap (number_width w r) at ∙ ap (λ k. max (length (decimal k)) (number_width w r (drop (suc i) gs))) (sym is) in
      omega arith

  -- no group has no width
  pub width_none : number_width w r [] ≡ 0
  unfolding number_width greatest
  width_none = refl
