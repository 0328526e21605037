-- The scan of a text: the lines that it has closed, the one that is open, and what is left of the text.
use Rattle.std.proofs.Common.{◌≡◌, ◌≢◌, ℕ, suc, subst, take, drop, take-append-drop, ◌+◌, ◌-◌, ◌<◌, ◌≤◌, true, false, cond, List, [], ◌∷◌, ◌++◌, length, refl, sym, ap, ◌∙◌, arith, get_or}
use Rattle.std.proofs.Common.{sum_by, ◌==◌, inl, inr, ◌⊎◌, length-append}
use Rattle.std.specs.Str.{chars, IsUtf8, IsCharBoundary, NonePass, encode_utf8_all}
use Rattle.std.specs.Char.{encode_utf8, len_utf8}
use Rattle.std.proofs.lemmas.Bool.{cond-true, cond-false, cases_Bool, eq-eqb, eqb-true, false_from_ne_true}
use Rattle.std.proofs.lemmas.List.{append_assoc, append-nil, length_push, nil_from_length}
use Rattle.std.proofs.lemmas.List.Sums.{sum_by_push}
use Rattle.std.proofs.lemmas.Str.{chars_past_char, IsUtf8-past_char, chars_from_encodes, encodes-append, length-encode, len_utf8_bounds}
use Rattle.std.proofs.lemmas.Str.{byte_from_char, char_from_byte, chars-nil, encodes-chars, IsUtf8-take}
use Rattle.ariadne_base.specs.Lines.{is_separator, ends_line, begins_with_line_feed, in_front, full_lines_of, lines_of}
use Rattle.ariadne_base.specs.Locations.{byte_len}
use Rattle.ariadne_base.specs.Starts.{line_starts}
use Rattle.ariadne_base.specs.declared.source.start.Start.{Start}
use Rattle.ariadne_base.proofs.StartLemmas.{start, same_start, starts_push, starts-nil, length-starts}

-- two tests for LF that hold together
same_test : (c b : ℕ) → (c ≡ 10 → b ≡ 10) → (b ≡ 10 → c ≡ 10) → (b == 10) ≡ (c == 10)
same_test c b f g = elim (cases_Bool (c == 10)) [
  | inl t ↦ eq-eqb b 10 (f (eqb-true c 10 t)) ∙ sym t
  | inr n ↦ false_from_ne_true (b == 10) (λ t. let e = eq-eqb c 10 (g (eqb-true b 10 t)) in cc) ∙ sym n
]

-- a text with a byte that is not 0 in front is not empty
some_bytes : (bs : List ℕ) → get_or bs 0 0 ≡ 10 → 0 < length bs
some_bytes [] h = absurd (omega arith)
some_bytes (b ∷ bs) h = omega arith

-- the first byte and the first character are LF together
first_of : (cs bs : List ℕ) → bs ≡ encode_utf8_all cs → (get_or bs 0 0 == 10) ≡ begins_with_line_feed cs
unfolding begins_with_line_feed
first_of [] bs e = rw e refl
first_of (c ∷ cs) bs e =
    same_test c (get_or bs 0 0)
    (λ h. byte_from_char bs (encode_utf8_all cs) c e (omega arith) ∙ h)
    (λ h. char_from_byte bs (encode_utf8_all cs) c e (omega arith) (some_bytes bs h) ∙ h)

-- whether the first byte of a text is LF says whether its first character is
pub first_byte : (bs : List ℕ) → IsUtf8 bs → (get_or bs 0 0 == 10) ≡ begins_with_line_feed (chars bs)
first_byte bs u = first_of u.0 bs (sym (u.1.1)) ∙ ap begins_with_line_feed (chars_from_encodes u.0 bs u u.1.1)

-- the lines of an open line and of the text behind it
pub before : List ℕ → List (List ℕ) → List (List ℕ)
before [] ls = ls
before (c ∷ t) [] = (c ∷ t) ∷ []
before (c ∷ t) (l ∷ ls) = ((c ∷ t) ++ l) ∷ ls

-- a line that ends with c takes what is open in front of it
before_ended : (o : List ℕ) (c : ℕ) (ls : List (List ℕ)) → before o ((c ∷ []) ∷ ls) ≡ (o ++ c ∷ []) ∷ ls
unfolding before
before_ended [] c ls = refl
before_ended (d ∷ o) c ls = refl

-- a character in front of the lines makes what is open longer
before-in_front : (o : List ℕ) (c : ℕ) (ls : List (List ℕ)) → before o (in_front c ls) ≡ before (o ++ c ∷ []) ls
unfolding before in_front
before-in_front [] c [] = refl
before-in_front [] c (l ∷ ls) = refl
before-in_front (d ∷ o) c [] = refl
before-in_front (d ∷ o) c (l ∷ ls) = ap (λ m. (d ∷ m) ∷ ls) (sym (append_assoc o (c ∷ []) l))

-- the scan has closed some lines and opened another, and the rest is before it
pub record IsScanned (text rest : List ℕ) (starts : List Start) (begun at : ℕ) : Type 0 where
  pub done : List (List ℕ)
  pub opened : List ℕ
  pub lines : full_lines_of (chars text) ≡ done ++ before opened (full_lines_of (chars rest))
  pub kept : starts ≡ line_starts done
  pub begun_is : begun ≡ sum_by length done
  pub at_is : at ≡ begun + length opened
  pub bytes : sum_by byte_len done + byte_len opened + length rest ≡ length text
  pub count : at + length rest ≤ length text
  pub utf8 : IsUtf8 rest

-- at the start nothing is closed and nothing is open
pub scan_start : (text : List ℕ) → IsUtf8 text → IsScanned text text (start 0 0 ∷ []) 0 0
unfolding before
scan_start text u = record {
  done = [];
  opened = [];
  lines = refl;
  kept = sym starts-nil;
  begun_is = refl;
  at_is = refl;
  bytes = omega arith;
  count = omega arith;
  utf8 = u;
}

-- the size of an open line with a character more
byte_len_push : (o : List ℕ) (c : ℕ) → byte_len (o ++ c ∷ []) ≡ byte_len o + len_utf8 c
byte_len_push o c =
    ap length (encodes-append o (c ∷ []))
    ∙ length-append (encode_utf8_all o) (encode_utf8_all (c ∷ []))
    ∙ ap (λ bs. byte_len o + length bs) (append-nil (encode_utf8 c))
    ∙ ap (λ n. byte_len o + n) (length-encode c)

-- a character ends its line, or stands in front of what follows
full_lines-cons : (c : ℕ) (t : List ℕ) → full_lines_of (c ∷ t) ≡ cond (ends_line c t) ((c ∷ []) ∷ full_lines_of t) (in_front c (full_lines_of t))
unfolding full_lines_of
full_lines-cons c t = refl

-- what is no separator ends no line
no_end : (c : ℕ) (t : List ℕ) → is_separator c ≡ false → ends_line c t ≡ false
unfolding ends_line
no_end c t h = rw h refl

module _ (text rest left : List ℕ) (c : ℕ) (starts : List Start) (begun at : ℕ) (s : IsScanned text rest starts begun at)
    (e : rest ≡ encode_utf8 c ++ left) where
  -- what a character takes of the rest
  cut : length rest ≡ len_utf8 c + length left
  cut = ap length e ∙ length-append (encode_utf8 c) left ∙ ap (λ n. n + length left) (length-encode c)

  -- the full lines of the rest, by its first character
  cut_chars : full_lines_of (chars rest) ≡ cond (ends_line c (chars left)) ((c ∷ []) ∷ full_lines_of (chars left))
      (in_front c (full_lines_of (chars left)))
  cut_chars = ap full_lines_of (chars_past_char rest left c s.utf8 e) ∙ full_lines-cons c (chars left)

  -- a character that ends its line closes it
  pub scan_closed : ends_line c (chars left) ≡ true
      → IsScanned text left (starts ++ start (at + 1) (length text - length left) ∷ []) (at + 1) (at + 1)
  unfolding before
  scan_closed h =
      let wide = len_utf8_bounds c in
      let longer = length_push s.opened c in
      let wider = byte_len_push s.opened c in
      let cs = cut in
      let at_is = s.at_is in
      let bytes = s.bytes in
      let count = s.count in
      let begun_is = s.begun_is in
      let total = sum_by_push length s.done (s.opened ++ c ∷ []) in
      let byte_total = sum_by_push byte_len s.done (s.opened ++ c ∷ []) in
      let chars_are : at + 1 ≡ sum_by length s.done + length (s.opened ++ c ∷ []) = omega arith in
      let bytes_are : length text - length left ≡ sum_by byte_len s.done + byte_len (s.opened ++ c ∷ []) = omega arith in
      record {
        done = s.done ++ (s.opened ++ c ∷ []) ∷ [];
        opened = [];
        lines = s.lines ∙ ap (λ ls. s.done ++ before s.opened ls) (cut_chars ∙ cond-true _ _ _ h)
            ∙ ap (λ ls. s.done ++ ls) (before_ended s.opened c (full_lines_of (chars left)))
            ∙ sym (append_assoc s.done ((s.opened ++ c ∷ []) ∷ []) (full_lines_of (chars left)));
        kept = ap (λ xs. xs ++ start (at + 1) (length text - length left) ∷ []) s.kept
            ∙ ap (λ x. line_starts s.done ++ x ∷ []) (same_start chars_are bytes_are)
            ∙ sym (starts_push s.done (s.opened ++ c ∷ []));
        begun_is = omega arith;
        at_is = omega arith;
        bytes = omega arith;
        count = omega arith;
        utf8 = IsUtf8-past_char rest left c s.utf8 e;
      }

  -- any other makes it longer
  pub scan_open : ends_line c (chars left) ≡ false → IsScanned text left starts begun (at + 1)
  scan_open h =
      let wide = len_utf8_bounds c in
      let longer = length_push s.opened c in
      let wider = byte_len_push s.opened c in
      let cs = cut in
      let at_is = s.at_is in
      let bytes = s.bytes in
      let count = s.count in
      record {
        done = s.done;
        opened = s.opened ++ c ∷ [];
        lines =
            s.lines ∙ ap (λ ls. s.done ++ before s.opened ls) (cut_chars ∙ cond-false _ _ _ h)
            ∙ ap (λ ls. s.done ++ ls) (before-in_front s.opened c (full_lines_of (chars left)));
        kept = s.kept;
        begun_is = s.begun_is;
        at_is = omega arith;
        bytes = omega arith;
        count = omega arith;
        utf8 = IsUtf8-past_char rest left c s.utf8 e;
      }

-- characters that are no separators make the open line longer
pub scan_run : (text rest left run : List ℕ) (starts : List Start) (begun at : ℕ) → IsScanned text rest starts begun at
    → rest ≡ encode_utf8_all run ++ left → NonePass (λ c. is_separator c) run → IsScanned text left starts begun (at + length run)
scan_run text rest left [] starts begun at s e none = rw (← e) (let same : at + 0 ≡ at = omega arith in rw same s)
scan_run text rest left (c ∷ run) starts begun at s e none =
    let behind = encode_utf8_all run ++ left in
    let first : rest ≡ encode_utf8 c ++ behind = e ∙ append_assoc (encode_utf8 c) (encode_utf8_all run) left in
    let stays : ends_line c (chars behind) ≡ false = no_end c (chars behind) none.0 in
    let next = scan_run text behind left run starts begun (at + 1) (scan_open text rest behind c starts begun at s first stays) refl none.1 in
    let same : at + 1 + length run ≡ at + suc (length run) = omega arith in
    subst (λ n. IsScanned text left starts begun n) same next

-- so does a first part of the rest without separators
pub scan_jump : (text rest : List ℕ) (starts : List Start) (begun at n m : ℕ) → IsScanned text rest starts begun at
    → IsCharBoundary rest n → NonePass (λ c. is_separator c) (chars (take n rest)) → m ≡ length (chars (take n rest))
    → IsScanned text (drop n rest) starts begun (at + m)
scan_jump text rest starts begun at n m s cut none count =
    let parts : rest ≡ encode_utf8_all (chars (take n rest)) ++ drop n rest =
    sym (take-append-drop n rest) ∙ ap (λ bs. bs ++ drop n rest) (sym (encodes-chars (take n rest) (IsUtf8-take rest n s.utf8 cut))) in
    subst (λ k. IsScanned text (drop n rest) starts begun (at + k)) (sym count)
    (scan_run text rest (drop n rest) (chars (take n rest)) starts begun at s parts none)

-- a text that is not empty has full lines
lines_of-full : (t : List ℕ) → full_lines_of t ≢ [] → lines_of t ≡ full_lines_of t
unfolding lines_of full_lines_of
lines_of-full [] h = absurd (h refl)
lines_of-full (c ∷ t) h = refl

-- lines with a character in front are not none
in_front_some : (c : ℕ) (ls : List (List ℕ)) → in_front c ls ≢ []
unfolding in_front
in_front_some c [] h = cc
in_front_some c (l ∷ ls) h = cc

-- only the empty text has no full line
full_lines-none : (t : List ℕ) → full_lines_of t ≡ [] → t ≡ []
unfolding full_lines_of
full_lines-none [] h = refl
full_lines-none (c ∷ t) h = elim (cases_Bool (ends_line c t)) [
  | inl on ↦ let e = sym (cond-true _ _ _ on) ∙ h in cc
  | inr off ↦ absurd (in_front_some c (full_lines_of t) (sym (cond-false _ _ _ off) ∙ h))
]

-- a list with one more at its end is not empty
push_some : {X : Type 0} (xs : List X) (x : X) → xs ++ x ∷ [] ≢ []
push_some [] x h = cc
push_some (y ∷ xs) x h = cc

-- what is open at the end is the last line, also where the text is empty
last_line : (done : List (List ℕ)) (o t : List ℕ) → full_lines_of t ≡ done ++ before o [] → (0 < length o) ⊎ (done ≡ []) → lines_of t ≡ done ++ o ∷ []
unfolding before lines_of
last_line done [] t e (inl h) = absurd (omega arith)
last_line done [] t e (inr h) = ap lines_of (full_lines-none t (e ∙ append-nil done ∙ h)) ∙ rw h refl
last_line done (c ∷ o) t e h = lines_of-full t (λ n. push_some done (c ∷ o) (sym e ∙ n)) ∙ e

module _ (text rest : List ℕ) (starts : List Start) (begun at : ℕ) (s : IsScanned text rest starts begun at)
    (over : length rest ≡ 0) where
  -- at the end the lines are those closed and the open one
  at_end : full_lines_of (chars text) ≡ s.done ++ before s.opened []
  unfolding full_lines_of
  at_end =
      s.lines ∙ ap (λ bs. s.done ++ before s.opened (full_lines_of (chars bs))) (nil_from_length rest over)
      ∙ ap (λ cs. s.done ++ before s.opened (full_lines_of cs)) chars-nil

  -- there is a start for each closed line, and one more
  closed : length starts ≡ length s.done + 1
  closed = ap length s.kept ∙ length-starts s.done

  -- nothing is open, and some line is closed
  pub scan_whole : at ≤ begun → length starts ≢ 1 → starts ≡ line_starts (lines_of (chars text))
  unfolding before
  scan_whole h some =
      let n = closed in
      let a = s.at_is in
      let none : s.opened ≡ [] = nil_from_length s.opened (omega arith) in
      let whole : full_lines_of (chars text) ≡ s.done = at_end ∙ ap (λ o. s.done ++ before o []) none ∙ append-nil s.done in
      let full : full_lines_of (chars text) ≢ [] = λ e. let z : length s.done ≡ 0 = ap length (sym whole ∙ e) in some (omega arith) in
      s.kept ∙ ap line_starts (sym whole ∙ sym (lines_of-full (chars text) full))

  -- the open line is the last
  pub scan_last : (begun < at) ⊎ (length starts ≡ 1) → starts ++ start at (length text) ∷ [] ≡ line_starts (lines_of (chars text))
  scan_last h =
      let n = closed in
      let a = s.at_is in
      let b = s.bytes in
      let begun_is = s.begun_is in
      let case : (0 < length s.opened) ⊎ (s.done ≡ []) = elim h [ inl l ↦ inl (omega arith) | inr z ↦ inr (nil_from_length s.done (omega arith)) ] in
      let chars_are : at ≡ sum_by length s.done + length s.opened = omega arith in
      let bytes_are : length text ≡ sum_by byte_len s.done + byte_len s.opened = omega arith in
      ap (λ xs. xs ++ start at (length text) ∷ []) s.kept
      ∙ ap (λ x. line_starts s.done ++ x ∷ []) (same_start chars_are bytes_are)
      ∙ sym (starts_push s.done s.opened)
      ∙ ap line_starts (sym (last_line s.done s.opened (chars text) at_end case))
