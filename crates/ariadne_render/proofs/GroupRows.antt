-- Rows of a group, one after another, as a pen writes them.
use Rattle.std.proofs.Common.{ℕ, ◌+◌}
use Rattle.std.proofs.Common.{refl, append_assoc}
use Rattle.std.proofs.Common.{◌≡◌, Bool, true, false, List, [], ◌∷◌, ◌++◌, map, sym, ap, ◌∙◌, subst}
use Rattle.std.specs.Prelude.{if◌then◌else◌}
use Rattle.std.proofs.lemmas.List.{append-nil, map-append}
use Rattle.ariadne_picture.specs.Lists.{joined}
use Rattle.ariadne_picture.specs.Pieces.{section_rows}
use Rattle.ariadne_picture.specs.Pieces.{Section, Texts, group_header_pieces, row_pieces, spacer_pieces, tail_pieces}
use Rattle.ariadne_picture.specs.Ranks.{group_lines}
use Rattle.ariadne_picture.specs.Rows.{line_rows, rows}
use Rattle.ariadne_picture.specs.Rows.{Row, asides, group_header, help, note, spacer, tail}
use Rattle.ariadne_picture.specs.declared.switches.Switches.{Switches}
use Rattle.ariadne_render.specs.Pages.{DrawsRow, DrawsRows, PageFields, PenFields}
use Rattle.ariadne_render.proofs.Drawn.{draws_rows-append, draws_rows_none, draws_rows_one}

module _ (t : Texts) (g : Section) where
  -- the helps and the notes of the last group
  pub both_asides : (old mid new : PenFields) (last : Bool) → g.is_last ≡ last → last ≡ true
      → DrawsRows old mid (map (row_pieces t old.page.number_width g) (asides old.page.switches.compact help t.helps))
      → DrawsRows mid new (map (row_pieces t mid.page.number_width g) (asides mid.page.switches.compact note t.notes))
      → DrawsRows old new (map (row_pieces t old.page.number_width g)
      (if last then asides old.page.switches.compact help t.helps ++ asides old.page.switches.compact note t.notes else []))
  both_asides old mid new last el h d e =
      let f = row_pieces t old.page.number_width g in
      let helps = asides old.page.switches.compact help t.helps in
      let notes = asides old.page.switches.compact note t.notes in
      let page : mid.page ≡ old.page = ap (λ (x : PenFields). x.page) d in
      let behind : DrawsRows mid new (map f notes) =
      subst (DrawsRows mid new) (ap (λ (x : PageFields). map (row_pieces t x.number_width g) (asides x.switches.compact note t.notes)) page) e in
      subst (λ b. DrawsRows old new (map f (if b then helps ++ notes else []))) (sym h)
      (subst (DrawsRows old new) (sym (map-append f helps notes)) (draws_rows-append old mid new (map f helps) (map f notes) d behind))

  -- any other group has none
  pub no_asides : (old new : PenFields) (last : Bool) → last ≡ false → new ≡ old → DrawsRows old new (map (row_pieces t old.page.number_width g)
      (if last then asides old.page.switches.compact help t.helps ++ asides old.page.switches.compact note t.notes else []))
  no_asides old new last h e =
      let f = row_pieces t old.page.number_width g in
      let helps = asides old.page.switches.compact help t.helps in
      let notes = asides old.page.switches.compact note t.notes in
      subst (λ b. DrawsRows old new (map f (if b then helps ++ notes else []))) (sym h) (e ∙ draws_rows_none old)

  -- the rows above the lines, in a compact picture
  pub head_short : (old new : PenFields) (p : PageFields) (sw : Switches) → DrawsRow old new (group_header_pieces g old.page.number_width)
      → p ≡ new.page → sw ≡ p.switches → sw.compact ≡ true
      → DrawsRows old new (map (row_pieces t old.page.number_width g) (group_header ∷ (if old.page.switches.compact then [] else spacer ∷ [])))
  unfolding row_pieces
  head_short old new p sw d ep es h =
      let q : p ≡ old.page = ep ∙ ap (λ (x : PenFields). x.page) d in
      let k : old.page.switches.compact ≡ true =
      ap (λ (x : PageFields). x.switches.compact) (sym q) ∙ ap (λ (s : Switches). s.compact) (sym es) ∙ h in
      subst (λ b. DrawsRows old new (map (row_pieces t old.page.number_width g) (group_header ∷ (if b then [] else spacer ∷ [])))) (sym k)
      (draws_rows_one old new (group_header_pieces g old.page.number_width) d)

  -- and in any other
  pub head_long : (old mid new : PenFields) (p : PageFields) (sw : Switches) → DrawsRow old mid (group_header_pieces g old.page.number_width)
      → p ≡ mid.page → sw ≡ p.switches → sw.compact ≡ false → g.sheet.switches ≡ old.page.switches
      → DrawsRow mid new (spacer_pieces mid.page.switches.char_set mid.page.number_width)
      → DrawsRows old new (map (row_pieces t old.page.number_width g) (group_header ∷ (if old.page.switches.compact then [] else spacer ∷ [])))
  unfolding row_pieces
  head_long old mid new p sw d ep es h gs e =
      let m : mid.page ≡ old.page = ap (λ (x : PenFields). x.page) d in
      let q : p ≡ old.page = ep ∙ m in
      let k : old.page.switches.compact ≡ false =
      ap (λ (x : PageFields). x.switches.compact) (sym q) ∙ ap (λ (s : Switches). s.compact) (sym es) ∙ h in
      let same : spacer_pieces mid.page.switches.char_set mid.page.number_width ≡ spacer_pieces g.sheet.switches.char_set old.page.number_width =
      ap (λ (x : PageFields). spacer_pieces x.switches.char_set x.number_width) m
      ∙ ap (λ (s : Switches). spacer_pieces s.char_set old.page.number_width) (sym gs) in
      let below : DrawsRow mid new (spacer_pieces g.sheet.switches.char_set old.page.number_width) = subst (DrawsRow mid new) same e in
      subst (λ b. DrawsRows old new (map (row_pieces t old.page.number_width g) (group_header ∷ (if b then [] else spacer ∷ [])))) (sym k)
      (draws_rows-append old mid new (group_header_pieces g old.page.number_width ∷ []) (spacer_pieces g.sheet.switches.char_set old.page.number_width ∷ [])
      (draws_rows_one old mid (group_header_pieces g old.page.number_width) d)
      (draws_rows_one mid new (spacer_pieces g.sheet.switches.char_set old.page.number_width) below))

  -- the tail behind some rows, in a compact picture
  pub foot_short : (old new : PenFields) (rows : List Row) (p : PageFields) (sw : Switches)
      → DrawsRows old new (map (row_pieces t old.page.number_width g) rows)
      → p ≡ new.page → sw ≡ p.switches → sw.compact ≡ true
      → DrawsRows old new (map (row_pieces t old.page.number_width g) (rows ++ (if old.page.switches.compact then [] else tail ∷ [])))
  foot_short old new rows p sw d ep es h =
      let q : p ≡ old.page = ep ∙ ap (λ (x : PenFields). x.page) d in
      let k : old.page.switches.compact ≡ true =
      ap (λ (x : PageFields). x.switches.compact) (sym q) ∙ ap (λ (s : Switches). s.compact) (sym es) ∙ h in
      let f = row_pieces t old.page.number_width g in
      subst (λ b. DrawsRows old new (map f (rows ++ (if b then [] else tail ∷ [])))) (sym k)
      (subst (λ (rs : List Row). DrawsRows old new (map f rs)) (sym (append-nil rows)) d)

  -- and in any other
  pub foot_long : (old mid new : PenFields) (rows : List Row) (p : PageFields) (sw : Switches) (last : Bool)
      → DrawsRows old mid (map (row_pieces t old.page.number_width g) rows) → p ≡ mid.page → sw ≡ p.switches → sw.compact ≡ false
      → g.sheet.switches ≡ old.page.switches → g.is_last ≡ last → DrawsRow mid new (tail_pieces mid.page.switches.char_set mid.page.number_width last)
      → DrawsRows old new (map (row_pieces t old.page.number_width g) (rows ++ (if old.page.switches.compact then [] else tail ∷ [])))
  unfolding row_pieces
  foot_long old mid new rows p sw last d ep es h gs el e =
      let m : mid.page ≡ old.page = ap (λ (x : PenFields). x.page) d in
      let q : p ≡ old.page = ep ∙ m in
      let k : old.page.switches.compact ≡ false =
      ap (λ (x : PageFields). x.switches.compact) (sym q) ∙ ap (λ (s : Switches). s.compact) (sym es) ∙ h in
      let same : tail_pieces mid.page.switches.char_set mid.page.number_width last
      ≡ tail_pieces g.sheet.switches.char_set old.page.number_width g.is_last =
      ap (λ (x : PageFields). tail_pieces x.switches.char_set x.number_width last) m
      ∙ (λ i. tail_pieces (sym gs i).char_set old.page.number_width (sym el i)) in
      let below : DrawsRow mid new (tail_pieces g.sheet.switches.char_set old.page.number_width g.is_last) = subst (DrawsRow mid new) same e in
      let f = row_pieces t old.page.number_width g in
      subst (λ b. DrawsRows old new (map f (rows ++ (if b then [] else tail ∷ [])))) (sym k)
      (subst (DrawsRows old new) (sym (map-append f rows (tail ∷ [])))
      (draws_rows-append old mid new (map f rows) (tail_pieces g.sheet.switches.char_set old.page.number_width g.is_last ∷ []) d
      (draws_rows_one mid new (tail_pieces g.sheet.switches.char_set old.page.number_width g.is_last) below)))

-- ---- all of them

module _ (t : Texts) (g : Section) where
  -- the rows of a group, where the picture is compact or not and the group is the last or not
  parts : Bool → Bool → List Row
  parts compact last =
      group_header ∷ (if compact then [] else spacer ∷ []) ++ joined (line_rows g.sheet) (group_lines g.sheet)
      ++ (if last then asides compact help t.helps ++ asides compact note t.notes else []) ++ (if compact then [] else tail ∷ [])

  -- they are all its rows
  parts_are : (width : ℕ) → section_rows t width g ≡ map (row_pieces t width g) (parts g.sheet.switches.compact g.is_last)
  unfolding section_rows rows parts
  parts_are width = refl

  -- those above the lines, those of the lines, and those below them
  parts_split : (compact last : Bool) → parts compact last
      ≡ (group_header ∷ (if compact then [] else spacer ∷ [])) ++ (joined (line_rows g.sheet) (group_lines g.sheet)
      ++ ((if last then asides compact help t.helps ++ asides compact note t.notes else []) ++ (if compact then [] else tail ∷ [])))
  unfolding parts
  parts_split compact last = simp append_assoc

  -- the rows above the lines, the lines and the rows below them, one after another
  pub whole_group : (old one two new : PenFields) (last : Bool) → g.sheet.switches ≡ old.page.switches → g.is_last ≡ last
      → DrawsRows old one (map (row_pieces t old.page.number_width g) (group_header ∷ (if old.page.switches.compact then [] else spacer ∷ [])))
      → DrawsRows one two (map (row_pieces t one.page.number_width g) (joined (line_rows g.sheet) (group_lines g.sheet)))
      → DrawsRows two new (map (row_pieces t two.page.number_width g)
      ((if last then asides two.page.switches.compact help t.helps ++ asides two.page.switches.compact note t.notes else [])
      ++ (if two.page.switches.compact then [] else tail ∷ [])))
      → DrawsRows old new (section_rows t old.page.number_width g)
  whole_group old one two new last sw el above lines below =
      let f = row_pieces t old.page.number_width g in
      let compact : Bool = old.page.switches.compact in
      let page_one : one.page ≡ old.page = ap (λ (x : PenFields). x.page) above in
      let page_two : two.page ≡ old.page = ap (λ (x : PenFields). x.page) lines ∙ page_one in
      let a = group_header ∷ (if compact then [] else spacer ∷ []) in
      let b = joined (line_rows g.sheet) (group_lines g.sheet) in
      let d = (if last then asides compact help t.helps ++ asides compact note t.notes else []) ++ (if compact then [] else tail ∷ []) in
      let second : DrawsRows one two (map f b) =
      subst (DrawsRows one two) (ap (λ (p : PageFields). map (row_pieces t p.number_width g) b) page_one) lines in
      let third : DrawsRows two new (map f d) =
      subst (DrawsRows two new) (ap (λ (p : PageFields). map (row_pieces t p.number_width g)
      ((if last then asides p.switches.compact help t.helps ++ asides p.switches.compact note t.notes else [])
      ++ (if p.switches.compact then [] else tail ∷ []))) page_two) below in
      let all : DrawsRows old new (map f a ++ (map f b ++ map f d)) =
      draws_rows-append old one new (map f a) (map f b ++ map f d) above (draws_rows-append one two new (map f b) (map f d) second third) in
      let joins : section_rows t old.page.number_width g ≡ map f a ++ (map f b ++ map f d) =
      parts_are old.page.number_width ∙ (λ i. map f (parts (sw i).compact (el i))) ∙ ap (map f) (parts_split compact last)
      ∙ map-append f a (b ++ d) ∙ ap (λ z. map f a ++ z) (map-append f b d) in
      subst (DrawsRows old new) (sym joins) all
