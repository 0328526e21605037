-- The starts of the lines of a text: one line more, what stands at a number, and what a search by halving finds.
use Rattle.std.proofs.Common.{◌≡◌, ℕ, zero, suc, ◌+◌, ◌-◌, ◌<◌, ◌≤◌, true, false, List, [], ◌∷◌, ◌++◌, length, take, map, refl, sym, ap, ◌∙◌, subst}
use Rattle.std.proofs.Common.{arith, sum_by, nat_le, get_or, inl, inr, Some, None, add-one}
use Rattle.std.specs.List.{range_with_len, slice_get}
use Rattle.std.specs.List.Sorted.{IsNonDecreasingBy, IsPartitionPoint}
use Rattle.std.proofs.lemmas.Bool.{leb-true, le-leb, cases_lt}
use Rattle.std.proofs.lemmas.List.{length_push, take-append-le, take_at}
use Rattle.std.proofs.lemmas.List.FromFn.{map-range_with_len_more, length-map-range_with_len, get_or-map-range_with_len}
use Rattle.std.proofs.lemmas.List.Sums.{sum_by_push}
use Rattle.std.proofs.lemmas.Option.{slice_get_past, slice_get-get_or}
use Rattle.ariadne_base.specs.Lines.{lines_of}
use Rattle.ariadne_base.specs.Listing.{Listing, listed_lines}
use Rattle.ariadne_base.specs.Locations.{byte_len, line_offset, line_text, line_at, column_at}
use Rattle.ariadne_base.specs.Starts.{line_start, line_begins, line_starts, extent, extents, Rise}
use Rattle.ariadne_base.specs.Table.{LineExtent, line_extent, line_table, location_of}
use Rattle.ariadne_base.specs.declared.source.start.Start.{Start}
use Rattle.ariadne_base.proofs.LineLaws.{some_line, lines_length}
use Rattle.ariadne_base.proofs.LocationLemmas.{offset_none, offset_more, offset_up, offset_all, IsLineAt, line_at_only, get_or-line_table}
use Rattle.ariadne_base.proofs.TableLemmas.{length-line_table}

-- a start
abbrev pub start : ℕ → ℕ → Start
start c b = record { chars = c; bytes = b }

-- starts with the same parts
pub same_start : {c b c' b' : ℕ} → c ≡ c' → b ≡ b' → start c b ≡ start c' b'
same_start e f = rw (e, f) refl

-- ---- one line more

-- two functions that agree on a run of numbers
map_same : {X : Type 0} (f g : ℕ → X) (a n : ℕ) → ((k : ℕ) → k < a + n → f k ≡ g k) → map f (range_with_len a n) ≡ map g (range_with_len a n)
map_same f g a zero h = refl
map_same f g a (suc n) h =
    let first : f a ≡ g a = h a (omega arith) in
    let others = map_same f g (a + 1) n (λ k l. h k (omega arith)) in
    ap (λ x. x ∷ map f (range_with_len (a + 1) n)) first ∙ ap (λ xs. g a ∷ xs) others

-- the first lines begin where they do in front of further ones
start-append : (ls ms : List (List ℕ)) (n : ℕ) → n ≤ length ls → line_start (ls ++ ms) n ≡ line_start ls n
unfolding line_start line_offset
start-append ls ms n h = rw (take-append-le n ls ms h) refl

-- behind all lines the text ends
start-all : (ls : List (List ℕ)) → line_start ls (length ls) ≡ start (sum_by length ls) (sum_by byte_len ls)
unfolding line_start
start-all ls = same_start (offset_all length ls) (offset_all byte_len ls)

-- with a line more each line before it begins where it did, and it begins where the text ended
begins_push : (ls : List (List ℕ)) (l : List ℕ) → line_begins (ls ++ l ∷ []) ≡ line_starts ls
unfolding line_starts line_begins
begins_push ls l =
    let more = ls ++ l ∷ [] in
    ap (λ n. map (line_start more) (range_with_len 0 n)) (length_push ls l)
    ∙ map-range_with_len_more (line_start more) 0 (length ls) (length ls) (omega arith)
    ∙ ap (λ xs. xs ++ line_start more (length ls) ∷ [])
    (map_same (line_start more) (line_start ls) 0 (length ls) (λ k h. start-append ls (l ∷ []) k (omega arith)))
    ∙ ap (λ x. map (line_start ls) (range_with_len 0 (length ls)) ++ x ∷ []) (start-append ls (l ∷ []) (length ls) (omega arith))

-- a line more is a start more
pub starts_push : (ls : List (List ℕ)) (l : List ℕ)
    → line_starts (ls ++ l ∷ []) ≡ line_starts ls ++ start (sum_by length ls + length l) (sum_by byte_len ls + byte_len l) ∷ []
unfolding line_starts
starts_push ls l =
    ap (λ xs. xs ++ line_start (ls ++ l ∷ []) (length (ls ++ l ∷ [])) ∷ []) (begins_push ls l)
    ∙ ap (λ x. line_starts ls ++ x ∷ []) (start-all (ls ++ l ∷ []) ∙ same_start (sum_by_push length ls l) (sum_by_push byte_len ls l))

-- without lines the text ends where it begins
pub starts-nil : line_starts [] ≡ start 0 0 ∷ []
unfolding line_starts line_begins line_start line_offset
starts-nil = refl

-- ---- what stands at a number

-- a line begins for each, and the text ends
length-begins : (ls : List (List ℕ)) → length (line_begins ls) ≡ length ls
unfolding line_begins
length-begins ls = length-map-range_with_len (line_start ls) 0 (length ls)

pub length-starts : (ls : List (List ℕ)) → length (line_starts ls) ≡ length ls + 1
unfolding line_starts
length-starts ls = length_push (line_begins ls) (line_start ls (length ls)) ∙ ap (λ n. n + 1) (length-begins ls)

-- the starts by their numbers
starts_map : (ls : List (List ℕ)) → line_starts ls ≡ map (line_start ls) (range_with_len 0 (length ls + 1))
unfolding line_starts line_begins
starts_map ls = sym (map-range_with_len_more (line_start ls) 0 (length ls) (length ls) (omega arith))

get_or-starts : (ls : List (List ℕ)) (n : ℕ) (d : Start) → n ≤ length ls → get_or (line_starts ls) n d ≡ line_start ls n
get_or-starts ls n d h =
    ap (λ xs. get_or xs n d) (starts_map ls) ∙ get_or-map-range_with_len (line_start ls) 0 (length ls + 1) n n d (omega arith) (omega arith)

-- all but the last are those of the lines
pub take-starts : (ls : List (List ℕ)) (n : ℕ) → n ≡ length ls → take n (line_starts ls) ≡ line_begins ls
unfolding line_starts
take-starts ls n e = take_at (line_begins ls) (line_start ls (length ls) ∷ []) n (length-begins ls ∙ sym e)

-- a line lies between its start and the next
extent_is : (ls : List (List ℕ)) (n : ℕ) → n < length ls → extent (line_start ls n) (line_start ls (n + 1)) ≡ line_extent ls n
unfolding line_start line_extent
extent_is ls n h =
    let more = offset_more length ls n h in
    let byte_more = offset_more byte_len ls n h in
    let len : line_offset length ls (n + 1) - line_offset length ls n ≡ length (line_text ls n) = omega arith in
    let bytes : line_offset byte_len ls (n + 1) - line_offset byte_len ls n ≡ byte_len (line_text ls n) = omega arith in
    rw (len, bytes) refl

-- no line begins before the one in front of it
start_up : (ls : List (List ℕ)) (n : ℕ) → ((line_start ls n).chars ≤ (line_start ls (n + 1)).chars) × ((line_start ls n).bytes ≤ (line_start ls (n + 1)).bytes)
unfolding line_start
start_up ls n = (offset_up length ls n (n + 1) (omega arith), offset_up byte_len ls n (n + 1) (omega arith))

-- ---- the lines between starts

-- the lines between the starts from number a on
extents_from : (ls : List (List ℕ)) (a n : ℕ) → a + n ≡ length ls
    → extents (map (line_start ls) (range_with_len a (suc n))) ≡ map (line_extent ls) (range_with_len a n)
extents_from ls a zero e = refl
extents_from ls a (suc n) e =
    let first : extent (line_start ls a) (line_start ls (a + 1)) ≡ line_extent ls a = extent_is ls a (omega arith) in
    let others = extents_from ls (a + 1) n (omega arith) in
    ap (λ x. x ∷ extents (map (line_start ls) (range_with_len (a + 1) (suc n)))) first ∙ ap (λ xs. line_extent ls a ∷ xs) others

-- those starts rise
rise_from : (ls : List (List ℕ)) (a n : ℕ) → Rise (map (line_start ls) (range_with_len a (suc n)))
rise_from ls a zero = tt
rise_from ls a (suc n) = let up = start_up ls a in (up.0, up.1, rise_from ls (a + 1) n)

-- the starts by their numbers, of which there is a first
starts_some : (ls : List (List ℕ)) → line_starts ls ≡ map (line_start ls) (range_with_len 0 (suc (length ls)))
starts_some ls = starts_map ls ∙ ap (λ n. map (line_start ls) (range_with_len 0 n)) (add-one (length ls))

-- the lines between all starts are the table
pub extents-starts : (ls : List (List ℕ)) → extents (line_starts ls) ≡ line_table ls
unfolding line_table
extents-starts ls = ap extents (starts_some ls) ∙ extents_from ls 0 (length ls) (omega arith)

-- all starts rise
pub rise-starts : (ls : List (List ℕ)) → Rise (line_starts ls)
rise-starts ls = subst Rise (sym (starts_some ls)) (rise_from ls 0 (length ls))

-- there is a line between each two
pub length-extents : (starts : List Start) → length (extents starts) ≡ length starts - 1
length-extents [] = refl
length-extents (s ∷ []) = refl
length-extents (s ∷ e ∷ t) = let n = length-extents (e ∷ t) in omega arith

-- ---- the table

-- row n of the table, where there are so many
pub slice_get-table : (ls : List (List ℕ)) (n : ℕ) → n < length ls → slice_get (line_table ls) n ≡ Some (line_extent ls n)
slice_get-table ls n h =
    let rows = length-line_table ls in
    slice_get-get_or (line_table ls) n (line_extent ls n) (omega arith) ∙ ap Some (get_or-line_table ls n (line_extent ls n) h)

-- or there are not so many
pub slice_get-table_past : (ls : List (List ℕ)) (n : ℕ) → length ls ≤ n → slice_get (line_table ls) n ≡ None
slice_get-table_past ls n h = let rows = length-line_table ls in slice_get_past (line_table ls) n (omega arith)

-- ---- what a source keeps

-- the starts that it keeps are those of its lines
pub kept_starts : {s t : Listing} {starts : List Start} → s ≡ t → starts ≡ line_starts (listed_lines s) → starts ≡ line_starts (listed_lines t)
kept_starts h e = e ∙ ap (λ (s : Listing). line_starts (listed_lines s)) h

-- there is one more than lines
pub kept_count : {s t : Listing} {starts : List Start} → s ≡ t → starts ≡ line_starts (listed_lines s) → length starts ≡ length (listed_lines t) + 1
kept_count h e = ap length (kept_starts h e) ∙ length-starts _

-- what stands at a number
start_found : (ls : List (List ℕ)) (starts : List Start) (n : ℕ) (s : Start) → starts ≡ line_starts ls → n ≤ length ls → s ≡ get_or starts n s
    → s ≡ line_start ls n
start_found ls starts n s e h at = at ∙ ap (λ xs. get_or xs n s) e ∙ get_or-starts ls n s h

-- behind the lines of a text it ends
pub kept_end : (t : List ℕ) (starts : List Start) (n : ℕ) (s : Start) → starts ≡ line_starts (lines_of t) → n ≡ length (lines_of t)
    → s ≡ get_or starts n s → s.chars ≡ length t
kept_end t starts n s e m at =
    let ls = lines_of t in
    let found : s ≡ line_start ls (length ls) = start_found ls starts (length ls) s e (omega arith) (at ∙ ap (λ n. get_or starts n s) m) in
    ap (λ (s : Start). s.chars) (found ∙ start-all ls) ∙ lines_length t

-- two starts that follow each other
module _ (ls : List (List ℕ)) (starts : List Start) (n : ℕ) (s e : Start) (kept : starts ≡ line_starts ls) (few : n < length ls)
    (first : s ≡ get_or starts n s) (next : e ≡ get_or starts (n + 1) e) where
  s_is : s ≡ line_start ls n
  s_is = start_found ls starts n s kept (omega arith) first

  e_is : e ≡ line_start ls (n + 1)
  e_is = start_found ls starts (n + 1) e kept (omega arith) next

  -- the second is not before the first
  pub kept_up : (s.chars ≤ e.chars) × (s.bytes ≤ e.bytes)
  kept_up = rw (s_is, e_is) (start_up ls n)

  -- and the line lies between them
  pub kept_line : extent s e ≡ line_extent ls n
  kept_line = ap (λ (s : Start). extent s e) s_is ∙ ap (λ (e : Start). extent (line_start ls n) e) e_is ∙ extent_is ls n few

-- ---- a search by halving

-- the start of a line in characters
pub chars_is : (ls : List (List ℕ)) (n : ℕ) → (line_start ls n).chars ≡ line_offset length ls n
unfolding line_start
chars_is ls n = refl

-- the same in bytes
pub bytes_is : (ls : List (List ℕ)) (n : ℕ) → (line_start ls n).bytes ≡ line_offset byte_len ls n
unfolding line_start
bytes_is ls n = refl

module _ (size : List ℕ → ℕ) (begin : Start → ℕ) (ls : List (List ℕ))
    (is_offset : (n : ℕ) → begin (line_start ls n) ≡ line_offset size ls n) where
  -- where line n begins
  begin_at : (n : ℕ) (d : Start) → n < length ls → begin (get_or (line_begins ls) n d) ≡ line_offset size ls n
  unfolding line_begins
  begin_at n d h = ap begin (get_or-map-range_with_len (line_start ls) 0 (length ls) n n d h (omega arith)) ∙ is_offset n

  -- the lines begin one after another
  pub begins_rise : IsNonDecreasingBy begin (line_begins ls)
  begins_rise i j d h l =
      let rows = length-begins ls in
      let a = begin_at i d (omega arith) in
      let b = begin_at j d (omega arith) in
      let up = offset_up size ls i j h in
      omega arith

  -- whether line n begins at o or before it
  begins_by : (o n : ℕ) → n < length ls → nat_le (begin (get_or (line_begins ls) n (line_start ls n))) o ≡ nat_le (line_offset size ls n) o
  begins_by o n h = ap (λ b. nat_le b o) (begin_at n (line_start ls n) h)

  -- what halves the starts finds the line
  pub found : (o i : ℕ) → 0 < length ls → i ≤ length ls
      → IsPartitionPoint (λ r. nat_le (begin r) o ≡ true) (λ r. nat_le (begin r) o ≡ false) (line_begins ls) i → (1 ≤ i) × IsLineAt size ls o (i - 1)
  found o i some h parts =
      let rows = length-begins ls in
      let zero_begins = offset_none size ls in
      let early : (k : ℕ) → k < i → line_offset size ls k ≤ o = λ k l. leb-true _ _
      (sym (begins_by o k (omega arith)) ∙ parts.0 k (line_start ls k) (omega arith) l) in
      let late : (k : ℕ) → i ≤ k → k < length ls → line_offset size ls k ≤ o → ⊥ = λ k l m b. let f = sym (begins_by o k m)
      ∙ parts.1 k (line_start ls k) l (omega arith) in let t = le-leb (line_offset size ls k) o b in let z : false ≡ true = sym f ∙ t in cc in
      let first : 1 ≤ i = elim (cases_lt 0 i) [ inl l ↦ omega arith | inr l ↦ absurd (late 0 (omega arith) some (omega arith)) ] in (
        first,
        record {
          there = omega arith;
          begins = early (i - 1) (omega arith);
          last = λ k l b. elim (cases_lt k i) [ inl m ↦ omega arith | inr m ↦ absurd (late k (omega arith) l b) ];
        },
      )

-- what a look-up in the starts of the lines of a text returns: i is the number of lines that begin at o or before it
module _ (size : List ℕ → ℕ) (begin : Start → ℕ) (is_offset : (ls : List (List ℕ)) (n : ℕ) → begin (line_start ls n) ≡ line_offset size ls n)
    (t : List ℕ) (starts : List Start) (o i : ℕ) (e : starts ≡ line_begins (lines_of t)) (low : i ≤ length starts)
    (parts : IsPartitionPoint (λ r. nat_le (begin r) o ≡ true) (λ r. nat_le (begin r) o ≡ false) starts i) where
  -- the line found is the line of the offset
  pub found_line : (1 ≤ i) × IsLineAt size (lines_of t) o (i - 1)
  found_line =
      found size begin (lines_of t) (is_offset (lines_of t)) o i (some_line t) (let n = ap length e ∙ length-begins (lines_of t) in omega arith)
      (subst (λ xs. IsPartitionPoint (λ r. nat_le (begin r) o ≡ true) (λ r. nat_le (begin r) o ≡ false) xs i) e parts)

  -- some line begins at the offset or before it
  pub found_some : 1 ≤ i
  found_some = found_line.0

  -- the number found is that of a line
  pub found_there : i - 1 < length (lines_of t)
  found_there = found_line.1.there

  -- it begins at the offset or before it
  pub found_begins : line_offset size (lines_of t) (i - 1) ≤ o
  found_begins = found_line.1.begins

  -- line, number and column are the location of the offset
  pub found_location : (r : LineExtent) (b : ℕ) → r ≡ line_extent (lines_of t) (i - 1) → b ≡ line_offset size (lines_of t) (i - 1)
      → (r, i - 1, o - b) ≡ location_of size (lines_of t) o
  unfolding location_of column_at
  found_location r b row begins =
      let n : line_at size (lines_of t) o ≡ i - 1 = line_at_only size (lines_of t) o (i - 1) found_line.1 in
      rw (n, begins, ← row) refl
