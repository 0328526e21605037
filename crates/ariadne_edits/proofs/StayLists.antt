-- The pieces that changes leave, change by change.
use Rattle.std.proofs.Common.{◌≡◌, ◌∙◌, ap, sym, refl, subst, ℕ, ◌+◌, ◌-◌, ◌<◌, ◌≤◌, List, [], ◌∷◌, ◌++◌, drop, get_or, length, arith, append_assoc, length-append, length-drop}
use Rattle.std.specs.Prelude.{slice_range}
use Rattle.std.proofs.lemmas.List.{drop_more, at_drop_all, length-take}
use Rattle.ariadne_edits.specs.declared.change.Change.{Change}
use Rattle.ariadne_edits.specs.declared.hints.Stay.{Stay}
use Rattle.ariadne_edits.specs.Changes.{edited_from, edited_text, Fit, FitsBehind}
use Rattle.ariadne_edits.specs.Stays.{AreStays, IsStay}

-- the pieces of the first changes: the last one ends where a change does, but for some bytes behind that
-- change which the next piece has
pub record AreSoFar (text : List ℕ) (total : ℕ) (all rest : List Change) (at to back : ℕ) (stays : List Stay) : Type 0 where
  pub low : ℕ
  pub new_low : ℕ
  pub room : low + back ≤ at
  pub new_room : new_low + back ≤ to
  pub within : at ≤ length text
  pub fit : Fit text at rest
  pub left : to + length (edited_from text at rest) ≡ total
  pub go : (ss : List Stay) → AreStays (length text) total low new_low at to rest ss → AreStays (length text) total 0 0 0 0 all (stays ++ ss)

pub none_so_far : (text : List ℕ) (total : ℕ) (all : List Change) → Fit text 0 all → length (edited_text text all) ≡ total → AreSoFar text total all all 0 0 0 []
none_so_far text total all fit size = record {
  low = 0;
  new_low = 0;
  room = omega arith;
  new_room = omega arith;
  within = omega arith;
  fit = fit;
  left = omega arith;
  go = λ ss h. h;
}

pub size_between : (text : List ℕ) (a b : ℕ) → a ≤ b → b ≤ length text → length (slice_range text a b) ≡ b - a
size_between text a b h w = omega (arith, length-take (b - a) (drop a text), length-drop a text)

left_more : (text : List ℕ) (at : ℕ) (c : Change) (cs : List Change) → FitsBehind text at c
    → length (edited_from text at (c ∷ cs)) ≡ (c.start - at) + (length c.text.now + length (edited_from text c.end cs))
unfolding edited_from
left_more text at c cs f =
    let rises = f.rises in
    let within = f.within in
    let e : edited_from text at (c ∷ cs) ≡ (slice_range text at c.start ++ c.text.now) ++ edited_from text c.end cs = refl in
    omega (
      arith,
      ap length e,
      length-append (slice_range text at c.start ++ c.text.now) (edited_from text c.end cs),
      length-append (slice_range text at c.start) c.text.now,
      size_between text at c.start f.behind (omega arith),
    )

left_end : (text : List ℕ) (at : ℕ) → at ≤ length text → at + length (edited_from text at []) ≡ length text
unfolding edited_from
left_end text at h = let e : edited_from text at [] ≡ drop at text = refl in omega (arith, ap length e, length-drop at text)

module _ (text : List ℕ) (total : ℕ) (all : List Change) (at to back : ℕ) (stays : List Stay) where
  -- the piece in front of a change
  pub stay_of : Change → ℕ → Stay
  stay_of c front = record { start = at - back; end = c.start + front; to = to - back }

  so_far_next : (c : Change) (cs : List Change) (front next : ℕ) → AreSoFar text total all (c ∷ cs) at to back stays
      → c.start + (front + next) ≤ c.end → front + next ≤ length c.text.now
      → AreSoFar text total all cs c.end (to + (c.start - at + length c.text.now)) next
      (stays ++ (record { start = at - back; end = c.start + front; to = to - back }) ∷ [])
  so_far_next c cs front next h old new =
      let s : Stay = record { start = at - back; end = c.start + front; to = to - back } in
      let f : FitsBehind text at c = h.fit.0 in
      let behind = f.behind in
      let room = h.room in
      let new_room = h.new_room in
      let left = h.left in
      let more = left_more text at c cs f in
      let is : IsStay total h.low h.new_low at to c.start s = record {
        rises = omega arith;
        behind = omega arith;
        new_behind = omega arith;
        starts = omega arith;
        ends = omega arith;
        moved = omega arith;
        within = omega arith;
      } in
      record {
        low = s.end;
        new_low = s.to + (s.end - s.start);
        room = omega arith;
        new_room = omega arith;
        within = f.within;
        fit = h.fit.1;
        left = omega arith;
        go = λ ss a. subst (AreStays (length text) total 0 0 0 0 all) (sym (append_assoc stays (s ∷ []) ss)) (h.go (s ∷ ss) (is, a));
      }

  pub so_far_more : (changes : List Change) (k : ℕ) (d : Change) (front next : ℕ) → k < length changes → AreSoFar text total all (drop k changes) at to back stays
      → (get_or changes k d).start + (front + next) ≤ (get_or changes k d).end → front + next ≤ length (get_or changes k d).text.now
      → AreSoFar text total all (drop (k + 1) changes) (get_or changes k d).end
      (to + ((get_or changes k d).start - at + length (get_or changes k d).text.now)) next
      (stays ++ (record { start = at - back; end = (get_or changes k d).start + front; to = to - back }) ∷ [])
  so_far_more changes k d front next lt h old new =
      so_far_next (get_or changes k d) (drop (k + 1) changes) front next
      (subst (λ cs. AreSoFar text total all cs at to back stays) (drop_more changes k d lt) h) old new

  -- a change fits, and the edited text has room for what it makes
  pub change_fits : (changes : List Change) (k : ℕ) (d : Change) → k < length changes → AreSoFar text total all (drop k changes) at to back stays
      → FitsBehind text at (get_or changes k d)
  change_fits changes k d lt h = (subst (Fit text at) (drop_more changes k d lt) h.fit).0

  pub change_room : (changes : List Change) (k : ℕ) (d : Change) → k < length changes → AreSoFar text total all (drop k changes) at to back stays
      → to + ((get_or changes k d).start - at + length (get_or changes k d).text.now) ≤ total
  change_room changes k d lt h =
      let c = get_or changes k d in
      let f = change_fits changes k d lt h in
      let more = left_more text at c (drop (k + 1) changes) f in
      let left : to + length (edited_from text at (c ∷ drop (k + 1) changes)) ≡ total =
      ap (λ cs. to + length (edited_from text at cs)) (sym (drop_more changes k d lt)) ∙ h.left in
      omega arith

  -- the piece behind the last change
  so_far_last : AreSoFar text total all [] at to back stays
      → AreStays (length text) total 0 0 0 0 all (stays ++ (record { start = at - back; end = length text; to = to - back }) ∷ [])
  so_far_last h =
      let s : Stay = record { start = at - back; end = length text; to = to - back } in
      let room = h.room in
      let new_room = h.new_room in
      let within = h.within in
      let left = h.left in
      let end = left_end text at h.within in
      let is : IsStay total h.low h.new_low at to (length text) s = record {
        rises = omega arith;
        behind = omega arith;
        new_behind = omega arith;
        starts = omega arith;
        ends = omega arith;
        moved = omega arith;
        within = omega arith;
      } in
      h.go (s ∷ []) (is, refl)

  pub so_far_end : (changes : List Change) (k : ℕ) → length changes ≤ k → AreSoFar text total all (drop k changes) at to back stays
      → AreStays (length text) total 0 0 0 0 all (stays ++ (record { start = at - back; end = length text; to = to - back }) ∷ [])
  so_far_end changes k end h =
      so_far_last (subst (λ cs. AreSoFar text total all cs at to back stays) (at_drop_all (λ (cs : List Change). cs) changes k end) h)
