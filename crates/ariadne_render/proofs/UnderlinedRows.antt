-- The row that has the underlines, stretch by stretch: a stretch reaches to its end, and behind the last none is seen.
use Rattle.std.proofs.Common.{◌≡◌, ℕ, ◌+◌, ◌<◌, ◌≤◌, cond, List, length, get_or, drop, Option, None, sym, ap, ◌∙◌, arith}
use Rattle.std.proofs.lemmas.Bool.{lt-ltb, le-ltb}
use Rattle.std.proofs.lemmas.List.{at_drop_more, at_drop_all}
use Rattle.ariadne_layout.specs.declared.stretches.Stretch.{Stretch}
use Rattle.ariadne_layout.specs.declared.table.LineTable.{LineTable}
use Rattle.ariadne_layout.specs.Tables.{seen_vertical, shown_at}
use Rattle.ariadne_render.specs.Pages.{PenFields}
use Rattle.ariadne_render.specs.declared.area.Backdrop.{Backdrop}
use Rattle.ariadne_render.specs.Areas.{DrawsOver, DrawsPlaces, seen_ink, underlined_ink, underlined_or}
use Rattle.ariadne_render.proofs.Areas.{draws_more, draws_row}

-- what the stretches from number n on show at place k
abbrev shown_from : List Stretch → ℕ → ℕ → Option ℕ
shown_from stretches n k = shown_at (drop n stretches) k

-- before the end of stretch n its own label is shown
stretch_here : (stretches : List Stretch) (n k : ℕ) (d : Stretch) → n < length stretches → k < (get_or stretches n d).end
    → shown_from stretches n k ≡ (get_or stretches n d).position
unfolding shown_at
stretch_here stretches n k d there h =
    let s : Stretch = get_or stretches n d in
    at_drop_more (λ (xs : List Stretch). shown_at xs k) stretches n d there
    ∙ ap (λ b. cond b s.position (shown_from stretches (n + 1) k)) (lt-ltb k s.end h)

-- from there on the others tell
pub stretch_later : (stretches : List Stretch) (n k : ℕ) (d : Stretch) → n < length stretches → (get_or stretches n d).end ≤ k
    → shown_from stretches n k ≡ shown_from stretches (n + 1) k
unfolding shown_at
stretch_later stretches n k d there h =
    let s : Stretch = get_or stretches n d in
    at_drop_more (λ (xs : List Stretch). shown_at xs k) stretches n d there
    ∙ ap (λ b. cond b s.position (shown_from stretches (n + 1) k)) (le-ltb k s.end h)

-- behind the last stretch no label is shown
stretch_none : (stretches : List Stretch) (n k : ℕ) → length stretches ≤ n → shown_from stretches n k ≡ None
unfolding shown_at
stretch_none stretches n k h = at_drop_all (λ (xs : List Stretch). shown_at xs k) stretches n h

module _ (a b c : PenFields) (table : LineTable) (blank backdrop : Backdrop) (stretches : List Stretch) (n place : ℕ)
    (shown : (k : ℕ) → place ≤ k → k < table.len → shown_at table.underlines.items k ≡ shown_from stretches n k)
    (drawn : DrawsPlaces a b table (underlined_ink table blank) 0 place) where
  -- places behind them, at which one underline or none is seen
  underlined_behind : (end : ℕ) → place ≤ end → end ≤ table.len
      → ((k : ℕ) → place ≤ k → k < end → backdrop ≡ underlined_or blank (shown_from stretches n k))
      → DrawsOver b c table backdrop place end → DrawsPlaces a c table (underlined_ink table blank) 0 end
  unfolding underlined_ink
  underlined_behind end order within same d =
      draws_more a b c table (underlined_ink table blank) 0 place end (omega arith) order drawn
      (draws_row b c table backdrop (underlined_ink table blank) place end
      (λ k low high. ap (λ o. seen_ink o (seen_vertical table.verticals k))
      (ap (underlined_or blank) (shown k low (omega arith)) ∙ sym (same k low high)))
      d)

  -- those of stretch n
  pub underlined_more : (d : Stretch) (end : ℕ) → n < length stretches → place ≤ end → end ≤ table.len → end ≤ (get_or stretches n d).end
      → backdrop ≡ underlined_or blank (get_or stretches n d).position
      → DrawsOver b c table backdrop place end → DrawsPlaces a c table (underlined_ink table blank) 0 end
  underlined_more d end there order within long same =
      underlined_behind end order within
      (λ k low high. same ∙ ap (underlined_or blank) (sym (stretch_here stretches n k d there (omega arith))))

  -- those behind the last stretch
  pub underlined_rest : length stretches ≤ n → place ≤ table.len → backdrop ≡ blank
      → DrawsOver b c table backdrop place table.len → DrawsPlaces a c table (underlined_ink table blank) 0 table.len
  unfolding underlined_or
  underlined_rest past order same =
      underlined_behind table.len order (omega arith) (λ k low high. same ∙ ap (underlined_or blank) (sym (stretch_none stretches n k past)))
