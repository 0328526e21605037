-- Where an accepted label lies: its ends among the lines of its source, and all places of its strokes among those that the rows below a line have.
use Rattle.std.proofs.Common.{◌≡◌, ℕ, ◌+◌, ◌-◌, ◌<◌, ◌≤◌, List, length, refl, sym, ap, ◌∙◌, subst, arith, sum_by, inl, inr, ◌⊎◌}
use Rattle.std.proofs.lemmas.Bool.{cases_lt}
use Rattle.ariadne_base.specs.Locations.{line_at, column_at, line_offset, line_text}
use Rattle.ariadne_base.specs.Ranges.{last_offset}
use Rattle.ariadne_base.proofs.LocationLemmas.{offset_up, offset_more, offset_all, IsLineAt, line_at_is}
use Rattle.ariadne_picture.specs.declared.switches.LabelAttach.{LabelAttach}
use Rattle.ariadne_picture.specs.declared.switches.LabelAttach.TheVariants.{Start, Middle, End}
use Rattle.ariadne_picture.specs.declared.label_info.LabelInfo.{LabelInfo}
use Rattle.ariadne_picture.specs.Report.{LabelFields}
use Rattle.ariadne_picture.specs.Accept.{attach_offset, info_of}

-- ---- a label

-- a label lies in lines as its numbers say
pub record IsPlaced (ls : List (List ℕ)) (a : LabelInfo) : Type 0 where
  pub some : 0 < length ls
  pub forward : a.start ≤ a.end
  pub within : a.end ≤ sum_by length ls
  pub starts : a.start_line ≡ line_at length ls a.start
  pub ends : a.end_line ≡ line_at length ls (last_offset a.start a.end)
  pub start_place : a.start_place ≡ a.start - line_offset length ls a.start_line
  pub end_place : a.end_place ≡ last_offset a.start a.end - line_offset length ls a.end_line
  pub attach_to : a.attach ≤ last_offset a.start a.end - line_offset length ls a.start_line

-- the attach offset is none behind the last
attach-last : (k : LabelAttach) (start end : ℕ) → start ≤ end → attach_offset k start end ≤ last_offset start end
unfolding attach_offset
attach-last Start start end h = omega arith
attach-last Middle start end h = omega arith
attach-last End start end h = omega arith

-- so is a label over characters of its source
pub info-placed : {S : Type 0} (k : LabelAttach) (ls : List (List ℕ)) (n : ℕ) (label : LabelFields S) (start end : ℕ) → 0 < length ls → start ≤ end
    → end ≤ sum_by length ls → IsPlaced ls (info_of k ls n label start end)
unfolding info_of column_at
info-placed k ls n label start end some h j = record {
  some = some;
  forward = h;
  within = j;
  starts = refl;
  ends = refl;
  start_place = refl;
  end_place = refl;
  attach_to = let last = attach-last k start end h in omega arith;
}

-- ---- its lines

-- a line strictly between the two begins inside the label
pub covers : (ls : List (List ℕ)) (a : LabelInfo) (l : ℕ) → IsPlaced ls a → a.start_line < l → l < a.end_line → (a.start ≤ line_offset length ls l)
    × (line_offset length ls l < a.end)
covers ls a l h low high =
    let starts = h.starts in
    let ends = h.ends in
    let first : IsLineAt length ls a.start (line_at length ls a.start) = line_at_is length ls a.start h.some in
    let last : IsLineAt length ls (last_offset a.start a.end) (line_at length ls (last_offset a.start a.end)) = line_at_is length ls
    (last_offset a.start a.end) h.some in
    let few = last.there in
    let begins = last.begins in
    let up = offset_up length ls l (line_at length ls (last_offset a.start a.end)) (omega arith) in
    let late : a.start < line_offset length ls l = elim (cases_lt a.start (line_offset length ls l)) [
      | inl k ↦ k
      | inr k ↦ let no = first.last l (omega arith) k in absurd (omega arith)
    ] in
    (omega arith, omega arith)

-- an offset of a text lies in its line, or behind the last character of the last line
offset-in-line : (ls : List (List ℕ)) (o : ℕ) → 0 < length ls → o ≤ sum_by length ls
    → (o < line_offset length ls (line_at length ls o) + length (line_text ls (line_at length ls o)))
    ⊎ ((o ≡ line_offset length ls (line_at length ls o) + length (line_text ls (line_at length ls o))) × (o ≡ sum_by length ls))
offset-in-line ls o some h =
    let n : ℕ = line_at length ls o in
    let at : IsLineAt length ls o (line_at length ls o) = line_at_is length ls o some in
    let more = offset_more length ls n at.there in
    let few = at.there in
    elim (cases_lt (n + 1) (length ls)) [
      | inl k ↦ elim (cases_lt o (line_offset length ls (n + 1))) [
        | inl less ↦ inl (omega arith)
        | inr late ↦ let up = at.last (n + 1) k late in absurd (omega arith)
      ]
      | inr k ↦
          let last : n + 1 ≡ length ls = omega arith in
          let all : line_offset length ls (n + 1) ≡ sum_by length ls = ap (line_offset length ls) last ∙ offset_all length ls in
          elim (cases_lt o (sum_by length ls)) [
            | inl less ↦ inl (omega arith)
            | inr late ↦ inr (omega arith, omega arith)
          ]
    ]

module _ (ls : List (List ℕ)) (a : LabelInfo) (h : IsPlaced ls a) where
  -- its first offset lies in its line
  first-in-line : a.start ≤ line_offset length ls a.start_line + length (line_text ls a.start_line)
  first-in-line =
      let forward = h.forward in
      let within = h.within in
      subst (λ n. a.start ≤ line_offset length ls n + length (line_text ls n)) (sym h.starts)
      (elim (offset-in-line ls a.start h.some (omega arith)) [ inl k ↦ omega arith | inr k ↦ let e = k.0 in omega arith ])

  -- and so does its last
  last-within : last_offset a.start a.end ≤ sum_by length ls
  last-within = let forward = h.forward in let within = h.within in omega arith

  -- all its characters lie in its last line, or in lines before that
  end-in-line : a.end ≤ line_offset length ls a.end_line + length (line_text ls a.end_line)
  end-in-line =
      let forward = h.forward in
      let within = h.within in
      subst (λ n. a.end ≤ line_offset length ls n + length (line_text ls n)) (sym h.ends)
      (elim (offset-in-line ls (last_offset a.start a.end) h.some last-within)
      [ inl k ↦ omega arith | inr k ↦ let e = k.0 in let f = k.1 in omega arith ])

  last-in-line : last_offset a.start a.end ≤ line_offset length ls a.end_line + length (line_text ls a.end_line)
  last-in-line =
      subst (λ n. last_offset a.start a.end ≤ line_offset length ls n + length (line_text ls n)) (sym h.ends)
      (elim (offset-in-line ls (last_offset a.start a.end) h.some last-within) [ inl k ↦ omega arith | inr k ↦ let e = k.0 in omega arith ])

  -- so its columns are places of their lines
  pub start-place : a.start_place ≤ length (line_text ls a.start_line)
  start-place = let e = h.start_place in let k = first-in-line in omega arith

  pub end-place : a.end_place ≤ length (line_text ls a.end_line)
  end-place = let e = h.end_place in let k = last-in-line in omega arith

  -- its attach place is none behind its end
  pub attach-before-end : a.attach ≤ a.end - line_offset length ls a.start_line
  attach-before-end = let to = h.attach_to in let forward = h.forward in omega arith

  -- all its text on its last line lies in that line
  pub last-text : a.end - line_offset length ls a.end_line ≤ length (line_text ls a.end_line)
  last-text = let k = end-in-line in omega arith
