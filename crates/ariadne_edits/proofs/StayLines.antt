-- A line that lies in a piece that stays, with its borders, is a line of the edited text.
use Rattle.std.proofs.Common.{◌≡◌, ◌∙◌, ap, sym, refl, subst, ℕ, zero, suc, ◌+◌, ◌-◌, ◌<◌, ◌≤◌, List, [], ◌∷◌, ◌++◌, ◌⊎◌, inl, inr, drop, take, get_or, length, arith}
use Rattle.std.specs.Prelude.{slice_range}
use Rattle.std.specs.Str.{chars, IsUtf8, IsCharBoundary}
use Rattle.std.proofs.lemmas.Bool.{cases_lt}
use Rattle.std.proofs.lemmas.List.{drop_more, drop_all, length-append, length-drop, length-take, length-take-le, take-append-drop, take_at, get_or_at, get_or_append_left, get_or-append-add, nil_from_length}
use Rattle.std.proofs.lemmas.List.Folds.{drop_split}
use Rattle.std.proofs.lemmas.Str.{chars-append, chars-nil, encodes-chars, IsUtf8-between, IsUtf8-nil, IsUtf8-take, IsCharBoundary-start}
use Rattle.ariadne_base.specs.Lines.{lines_of, AreFullLines, AreLinesOf, empty_line, full_lines}
use Rattle.ariadne_base.specs.Locations.{byte_len, line_at, line_offset, line_text}
use Rattle.ariadne_base.proofs.LineLaws.{are_lines, joined_byte_len, lines_byte_len, lines_joined}
use Rattle.ariadne_base.proofs.LocationLemmas.{offset_all, offset_more, offset_up, line_at_only}
use Rattle.ariadne_edits.specs.KeptLines.{IsClosed}
use Rattle.ariadne_edits.proofs.SameLines.{joined, line_stays, HasLine, IsSome, some_full_line}

-- line i of one text stands as a line of another, which begins at a byte
pub record StandsAt (old new : List (List ℕ)) (i to : ℕ) : Type 0 where
  pub other : ℕ
  pub there : other < length new
  pub same : line_text old i ≡ line_text new other
  pub line : line_at byte_len new to ≡ other
  pub begins : line_offset byte_len new other ≡ to

-- ---- lines of some bytes

-- the lines of a text that isn't empty are full
full_of : (t : List ℕ) (ls : List (List ℕ)) → AreLinesOf t ls → IsSome t → AreFullLines ls
full_of [] ls empty_line s = absurd s
full_of t ls (full_lines a e) s = a

pub lines_full : (t : List ℕ) → IsSome t → AreFullLines (lines_of t)
lines_full t s = full_of t (lines_of t) (are_lines t) s

-- so each has some bytes
pub line_some : (t : List ℕ) (n : ℕ) → IsSome t → n < length (lines_of t) → 0 < byte_len (line_text (lines_of t) n)
line_some t n s lt = some_full_line (lines_of t) n (lines_full t s) lt

offset_is_size : (ls : List (List ℕ)) (n : ℕ) → line_offset byte_len ls n ≡ byte_len (joined (take n ls))
unfolding line_offset
offset_is_size ls n = joined_byte_len (take n ls)

-- where a line stands between others
stands_there : (old ls : List (List ℕ)) (i at : ℕ) (l : List ℕ) → line_text old i ≡ l → 0 < byte_len l → HasLine ls l at → StandsAt old ls i at
stands_there old ls i at l is some h =
    let n = length h.front in
    let text : line_text ls n ≡ l = ap (λ ls. get_or ls n []) h.is ∙ get_or_at h.front l h.behind [] n refl in
    let lt : n < length ls = omega (arith, ap length h.is, length-append h.front (l ∷ h.behind)) in
    let begins : line_offset byte_len ls n ≡ at =
    offset_is_size ls n ∙ ap (λ ls. byte_len (joined (take n ls))) h.is ∙ ap (λ f. byte_len (joined f)) (take_at h.front (l ∷ h.behind) n refl) ∙ h.begins in
    record {
      other = n;
      there = lt;
      same = is ∙ sym text;
      line = line_at_only byte_len ls at n (record {
        there = lt;
        begins = omega arith;
        last = λ k few before. elim (cases_lt n k) [
          | inl less ↦ absurd (omega (arith, offset_more byte_len ls n lt, ap byte_len text, offset_up byte_len ls (n + 1) k (omega arith), some, before, begins))
          | inr more ↦ more
        ];
      });
      begins = begins;
    }

-- the line of an empty text
stands_alone : (ls : List (List ℕ)) (i to : ℕ) → length ls ≡ 1 → i < length ls → to ≡ line_offset byte_len ls i → StandsAt ls ls i to
stands_alone ls i to one lt e = record {
  other = i;
  there = lt;
  same = refl;
  line = line_at_only byte_len ls to i (record { there = lt; begins = omega arith; last = λ k few before. omega arith });
  begins = sym e;
}

pub one_line : length (lines_of []) ≡ 1
unfolding lines_of
one_line = refl

pub empty_or_some : (t : List ℕ) → (t ≡ []) ⊎ IsSome t
empty_or_some [] = inl refl
empty_or_some (c ∷ t) = inr tt

line_of_none : (i : ℕ) → line_text (lines_of []) i ≡ []
unfolding lines_of
line_of_none zero = refl
line_of_none (suc i) = refl

-- a line ends within a piece, or with both texts, or with the piece, where it ends whatever follows
abbrev pub EndsWithin : ℕ → ℕ → List ℕ → List ℕ → List ℕ → Type 0
EndsWithin next end text rest line = (next < end) ⊎ (((end ≡ length text) × (rest ≡ [])) ⊎ ((next ≡ end) × IsClosed line))

-- ---- a piece of a text in another

module _ (text new front rest : List ℕ) (at end : ℕ) (text_utf8 : IsUtf8 text) (new_utf8 : IsUtf8 new) (at_whole : IsCharBoundary text at)
    (end_whole : IsCharBoundary text end) (rises : at ≤ end) (new_is : new ≡ front ++ (slice_range text at end ++ rest)) where
  piece : List ℕ
  piece = slice_range text at end

  piece_utf8 : IsUtf8 (slice_range text at end)
  piece_utf8 = IsUtf8-between text at end text_utf8 rises at_whole end_whole

  front_utf8 : IsUtf8 (take at text)
  front_utf8 = IsUtf8-take text at text_utf8 at_whole

  text_parts : text ≡ take at text ++ (slice_range text at end ++ drop end text)
  text_parts = sym (take-append-drop at text) ∙ ap (λ x. take at text ++ x) (drop_split text at end rises)

  text_chars : chars text ≡ chars (take at text) ++ (chars (slice_range text at end) ++ chars (drop end text))
  text_chars =
      ap chars text_parts ∙ chars-append (take at text) (slice_range text at end ++ drop end text) front_utf8
      ∙ ap (λ x. chars (take at text) ++ x) (chars-append (slice_range text at end) (drop end text) piece_utf8)

  size_of_piece : length (slice_range text at end) ≡ end - at
  size_of_piece = omega (arith, length-take (end - at) (drop at text), length-drop at text, at_whole.0, end_whole.0, rises)

  chars_size : (bs : List ℕ) → IsUtf8 bs → byte_len (chars bs) ≡ length bs
  chars_size bs u = ap length (encodes-chars bs u)

  -- the other text may be cut where the piece begins
  new_whole : 0 < end - at → IsCharBoundary new (length front)
  new_whole some =
      let size : length new ≡ length front + length (slice_range text at end ++ rest) = ap length new_is ∙ length-append front (slice_range text at end ++ rest) in
      let start = IsCharBoundary-start (slice_range text at end) piece_utf8 in
      let there : 0 < length (slice_range text at end) = omega (arith, size_of_piece) in
      let first : get_or new (length front) 0 ≡ get_or (slice_range text at end) 0 0 =
      ap (λ bs. get_or bs (length front) 0) new_is
      ∙ ap (λ n. get_or (front ++ (slice_range text at end ++ rest)) n 0) (let e : length front ≡ length front + 0 = omega arith in e)
      ∙ get_or-append-add front (slice_range text at end ++ rest) 0 0
      ∙ get_or_append_left (slice_range text at end) rest 0 0 there in
      (omega arith, λ lt high. omega (arith, first, start.1 there (omega (arith, first, high))))

  new_front_utf8 : 0 < end - at → IsUtf8 front
  new_front_utf8 some =
      subst IsUtf8 (ap (take (length front)) new_is ∙ take_at front (slice_range text at end ++ rest) (length front) refl)
      (IsUtf8-take new (length front) new_utf8 (new_whole some))

  module _ (i : ℕ) (there : i < length (lines_of (chars text)))
      (before : (at < line_offset byte_len (lines_of (chars text)) i) ⊎ ((at ≡ 0) × (front ≡ [])))
      (after : EndsWithin (line_offset byte_len (lines_of (chars text)) (i + 1)) end text rest (line_text (lines_of (chars text)) i))
      (to : ℕ) (place : to + at ≡ length front + line_offset byte_len (lines_of (chars text)) i) where
    up_to_end : line_offset byte_len (lines_of (chars text)) (i + 1) ≤ length text
    up_to_end =
        omega (
          arith,
          offset_up byte_len (lines_of (chars text)) (i + 1) (length (lines_of (chars text))) (omega arith),
          offset_all byte_len (lines_of (chars text)),
          lines_byte_len (chars text),
          chars_size text text_utf8,
        )

    up_to_next : line_offset byte_len (lines_of (chars text)) (i + 1) ≡ line_offset byte_len (lines_of (chars text)) i + byte_len (line_text (lines_of (chars text)) i)
    up_to_next = offset_more byte_len (lines_of (chars text)) i there

    -- a line with some bytes
    full_stands : IsSome (chars text) → StandsAt (lines_of (chars text)) (lines_of (chars new)) i to
    full_stands s =
        let ls = lines_of (chars text) in
        let f = take i ls in
        let l = line_text ls i in
        let g = drop (i + 1) ls in
        let split : ls ≡ f ++ l ∷ g = sym (take-append-drop i ls) ∙ ap (λ x. take i ls ++ x) (drop_more ls i [] there) in
        let full : AreFullLines (f ++ l ∷ g) = subst AreFullLines split (lines_full (chars text) s) in
        let a = chars (take at text) in
        let m = chars (slice_range text at end) in
        let b = chars (drop end text) in
        let a' = chars front in
        let b' = chars rest in
        let whole : joined (f ++ l ∷ g) ≡ a ++ (m ++ b) = ap joined (sym split) ∙ lines_joined (chars text) ∙ text_chars in
        let some : 0 < byte_len l = line_some (chars text) i s there in
        let size_a : byte_len a ≡ at = chars_size (take at text) front_utf8 ∙ length-take-le at text at_whole.0 in
        let size_m : byte_len m ≡ end - at = chars_size (slice_range text at end) piece_utf8 ∙ size_of_piece in
        let size_f : line_offset byte_len ls i ≡ byte_len (joined f) = offset_is_size ls i in
        let next = up_to_next in
        let last = up_to_end in
        let front_text : IsUtf8 front = elim before [
          | inl h ↦ new_front_utf8 (elim after [ inl k ↦ omega arith | inr k ↦ elim k [ inl q ↦ omega (arith, q.0) | inr q ↦ omega (arith, q.0) ] ])
          | inr h ↦ subst IsUtf8 (sym h.1) IsUtf8-nil
        ] in
        let size_a' : byte_len a' ≡ length front = chars_size front front_text in
        let new_chars : chars new ≡ a' ++ (m ++ b') =
        ap chars new_is ∙ chars-append front (slice_range text at end ++ rest) front_text ∙ ap (λ x. a' ++ x) (chars-append (slice_range text at end) rest piece_utf8) in
        let before' : (byte_len a < byte_len (joined f)) ⊎ ((a ≡ []) × (a' ≡ [])) = elim before [
          | inl h ↦ inl (omega (arith, size_a, size_f, h))
          | inr h ↦ inr (ap (λ n. chars (take n text)) h.0 ∙ chars-nil, ap chars h.1 ∙ chars-nil)
        ] in
        let after' : (byte_len (joined f) + byte_len l < byte_len a + byte_len m)
        ⊎ (((b ≡ []) × (b' ≡ [])) ⊎ ((byte_len (joined f) + byte_len l ≤ byte_len a + byte_len m) × IsClosed l)) = elim after [
          | inl h ↦ inl (omega (arith, size_a, size_m, size_f, next, rises, h))
          | inr h ↦ inr (elim h [
            | inl k ↦ inl (ap chars (drop_all end text (omega (arith, k.0))) ∙ chars-nil, ap chars k.1 ∙ chars-nil)
            | inr k ↦ inr (omega (arith, size_a, size_m, size_f, next, rises, k.0), k.1)
          ])
        ] in
        let found : HasLine (lines_of (a' ++ (m ++ b'))) l to =
        line_stays a m b a' b' f l g full whole before' after' to (omega (arith, size_a, size_a', size_f, place)) in
        stands_there ls (lines_of (chars new)) i to l refl some (subst (λ t. HasLine (lines_of t) l to) (sym new_chars) found)

    -- the line of an empty text
    empty_stands : chars text ≡ [] → StandsAt (lines_of (chars text)) (lines_of (chars new)) i to
    empty_stands e =
        let none : length text ≡ 0 = sym (chars_size text text_utf8) ∙ ap byte_len e in
        let last = up_to_end in
        let up = offset_up byte_len (lines_of (chars text)) i (i + 1) (omega arith) in
        let within = end_whole.0 in
        let front_none : front ≡ [] = elim before [ inl h ↦ absurd (omega arith) | inr h ↦ h.1 ] in
        let rest_none : rest ≡ [] = elim after [
          | inl h ↦ absurd (omega arith)
          | inr h ↦ elim h [
            | inl k ↦ k.1
            | inr k ↦ absurd (subst IsClosed (ap (λ t. line_text (lines_of t) i) e ∙ line_of_none i) k.1)
          ]
        ] in
        let piece_none : slice_range text at end ≡ [] = nil_from_length (slice_range text at end) (omega (arith, size_of_piece)) in
        let text_none : text ≡ [] = nil_from_length text none in
        let same : new ≡ text =
        new_is ∙ ap (λ x. x ++ (slice_range text at end ++ rest)) front_none ∙ ap (λ x. x ++ rest) piece_none ∙ rest_none ∙ sym text_none in
        let one : length (lines_of (chars text)) ≡ 1 = ap (λ t. length (lines_of t)) e ∙ one_line in
        subst (λ t. StandsAt (lines_of (chars text)) (lines_of (chars t)) i to) (sym same)
        (stands_alone (lines_of (chars text)) i to one there (omega (arith, place, ap length front_none, at_whole.0)))

    pub line_stands : StandsAt (lines_of (chars text)) (lines_of (chars new)) i to
    line_stands = elim (empty_or_some (chars text)) [ inl e ↦ empty_stands e | inr s ↦ full_stands s ]
