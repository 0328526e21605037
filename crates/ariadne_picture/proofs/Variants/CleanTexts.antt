-- What holds of the texts of a picture: of those that are written beside the texts that are handed in, and of texts that are
-- joined. Such is that a text has no control byte, as the one that begins an escape sequence, or a line feed.
use Rattle.std.proofs.Common.{◌≡◌, ◌≢◌, ℕ, zero, suc, ◌+◌, ◌-◌, ◌/◌, ◌%◌, ◌<◌, ◌≤◌, Bool, true, false, not, ◌&&◌, cond, List, [], ◌∷◌, ◌++◌, take, length, replicate}
use Rattle.std.proofs.Common.{refl, sym, ap, ◌∙◌, subst, arith, ◌==◌, nat_lt, nat_le}
use Rattle.std.specs.Prelude.{slice_index, slice_index_or, decimal, flat_map, encode_utf8}
use Rattle.std.specs.Char.{is_whitespace}
use Rattle.std.specs.Fmt.{digits, digits_onto, digit_glyph}
use Rattle.std.specs.List.{AllByRecursion, list_all, range_with_len, slice_split, onto_first}
use Rattle.std.specs.Str.{drop_trailing_whitespace}
use Rattle.std.specs.Str.Lines.{lines, lines_of_parts, strip_carriage_return}
use Rattle.std.proofs.lemmas.Bool.{cond_both, cond-true, true≢false, and_from, and_parts, eq-eqb, ne_eqb, le-leb, lt-ltb, leb-true}
use Rattle.ariadne_base.specs.Lines.{lines_of}
use Rattle.ariadne_base.proofs.LineLaws.{lines_joined}
use Rattle.ariadne_picture.specs.declared.switches.CharSet.{CharSet}
use Rattle.ariadne_picture.specs.declared.switches.CharSet.TheVariants.{Unicode, Ascii}
use Rattle.ariadne_picture.specs.declared.cell.Glyph.{Glyph}
use Rattle.ariadne_picture.specs.declared.cell.Glyph.TheVariants.{Blank}
use Rattle.ariadne_picture.specs.Cells.{glyph_code}
use Rattle.ariadne_picture.specs.Lists.{joined}
use Rattle.ariadne_picture.specs.Pieces.{spaces, glyph_text, shown_text, mark_text}
use Rattle.ariadne_picture.proofs.Lists.ListFacts.{all-append, all-weaker}
use Rattle.ariadne_picture.proofs.Lists.Elements.{list_all-true}
use Rattle.ariadne_picture.proofs.Cells.RowCells.{all-replicate}

-- ---- parts of lists

module _ {X : Type 0} (P : X → Type 0) where
  -- the first of two lists that are joined
  pub all-front : (xs ys : List X) → AllByRecursion P (xs ++ ys) → AllByRecursion P xs
  all-front [] ys a = tt
  all-front (x ∷ xs) ys a = (a.0, all-front xs ys a.1)

  -- and the second
  pub all-back : (xs ys : List X) → AllByRecursion P (xs ++ ys) → AllByRecursion P ys
  all-back [] ys a = a
  all-back (x ∷ xs) ys a = all-back xs ys a.1

  -- the first elements
  pub all-take : (n : ℕ) (xs : List X) → AllByRecursion P xs → AllByRecursion P (take n xs)
  all-take zero xs a = tt
  all-take (suc n) [] a = tt
  all-take (suc n) (x ∷ xs) a = (a.0, all-take n xs a.1)

  -- an element that there is
  pub all-in : (xs : List X) (k : ℕ) (d : X) → k < length xs → AllByRecursion P xs → P (slice_index_or xs k d)
  all-in [] k d h a = absurd (omega arith)
  all-in (x ∷ xs) zero d h a = a.0
  all-in (x ∷ xs) (suc k) d h a = all-in xs k d (omega (arith, h)) a.1

  -- an element, or what stands for one past the end
  pub all-or : (xs : List X) (k : ℕ) (d : X) → P d → AllByRecursion P xs → P (slice_index_or xs k d)
  all-or [] k d h a = h
  all-or (x ∷ xs) zero d h a = a.0
  all-or (x ∷ xs) (suc k) d h a = all-or xs k d h a.1

  -- lists that every element gives, joined
  pub all-parts : {Y : Type 0} (f : Y → List X) → ((y : Y) → AllByRecursion P (f y)) → (ys : List Y)
      → AllByRecursion P (joined f ys)
  unfolding joined
  all-parts f h [] = tt
  all-parts f h (y ∷ ys) = all-append P (f y) (joined f ys) (h y) (all-parts f h ys)

  -- lists that each number below an end gives, joined
  pub all-below : (f : ℕ → List X) (a n : ℕ) → ((k : ℕ) → k < a + n → AllByRecursion P (f k))
      → AllByRecursion P (joined f (range_with_len a n))
  unfolding joined
  all-below f a zero h = tt
  all-below f a (suc n) h =
      all-append P (f a) (joined f (range_with_len (a + 1) n)) (h a (omega arith)) (all-below f (a + 1) n (λ k less. h k (omega (arith, less))))

  -- lists whose joined elements it holds of
  pub all-flat : (ls : List (List X)) → AllByRecursion P (flat_map (λ l. l) ls) → AllByRecursion (AllByRecursion P) ls
  all-flat [] a = tt
  all-flat (l ∷ ls) a = (all-front l (flat_map (λ l. l) ls) a, all-flat ls (all-back l (flat_map (λ l. l) ls) a))

  -- lists whose first has one element more
  all-onto_first : (x : X) (parts : List (List X)) → P x → AllByRecursion (AllByRecursion P) parts
      → AllByRecursion (AllByRecursion P) (onto_first x parts)
  all-onto_first x [] h a = ((h, tt), tt)
  all-onto_first x (part ∷ parts) h a = ((h, a.0), a.1)

  -- the parts of a list between some of its elements
  pub all-split : (test : X → Bool) (xs : List X) → AllByRecursion P xs → AllByRecursion (AllByRecursion P) (slice_split test xs)
  all-split test [] a = (tt, tt)
  all-split test (x ∷ xs) a =
      let rest = all-split test xs a.1 in
      cond_both (test x) ([] ∷ slice_split test xs) (onto_first x (slice_split test xs)) (AllByRecursion (AllByRecursion P))
      (λ _. (tt, rest)) (λ _. all-onto_first x (slice_split test xs) a.0 rest)

-- ---- what holds of every text of a picture

-- printable ASCII
abbrev pub is_plain : ℕ → Bool
is_plain c = nat_le 32 c && nat_lt c 127

-- it holds of printable ASCII, of strokes, of the mark, and of texts that are joined
pub record IsKept (P : List ℕ → Type 0) : Type 0 where
  pub append : (s t : List ℕ) → P s → P t → P (s ++ t)
  pub plain : (t : List ℕ) → list_all is_plain t ≡ true → P t
  pub glyph : (set : CharSet) (glyph : Glyph) → P (glyph_text set glyph)
  pub mark : (set : CharSet) → P (mark_text set)

-- between 32 and 126
plain-from : (c : ℕ) → 32 ≤ c → c < 127 → is_plain c ≡ true
plain-from c least less = and_from (nat_le 32 c) (nat_lt c 127) (le-leb 32 c least) (lt-ltb c 127 less)

-- blanks
plain-spaces : (n : ℕ) → list_all is_plain (spaces n) ≡ true
unfolding spaces
plain-spaces n = list_all-true is_plain (replicate n 32) (all-replicate (λ c. is_plain c ≡ true) n 32 refl)

-- digits in front of others
plain-digits : (k n : ℕ) (t : List ℕ) → AllByRecursion (λ c. is_plain c ≡ true) t
    → AllByRecursion (λ c. is_plain c ≡ true) (digits_onto k 10 false n t)
plain-digits zero n t a = a
plain-digits (suc k) n t a =
    let d = digit_glyph false (n % 10) in
    let small : n % 10 < 10 = omega arith in
    let is : d ≡ 48 + n % 10 = cond-true (nat_lt (n % 10) 10) (48 + n % 10) (87 + n % 10) (lt-ltb (n % 10) 10 small) in
    let h : is_plain d ≡ true = plain-from d (omega (arith, is, small)) (omega (arith, is, small)) in
    cond_both (n / 10 == 0) (d ∷ t) (digits_onto k 10 false (n / 10) (d ∷ t)) (AllByRecursion (λ c. is_plain c ≡ true))
    (λ _. (h, a)) (λ _. plain-digits k (n / 10) (d ∷ t) (h, a))

-- a number
plain-decimal : (n : ℕ) → list_all is_plain (decimal n) ≡ true
unfolding digits
plain-decimal n = list_all-true is_plain (decimal n) (plain-digits 64 n [] tt)

module _ (P : List ℕ → Type 0) (kept : IsKept P) where
  -- no text
  pub kept-nil : P []
  kept-nil = kept.plain [] refl

  -- blanks
  pub kept-spaces : (n : ℕ) → P (spaces n)
  kept-spaces n = kept.plain (spaces n) (plain-spaces n)

  -- a number
  pub kept-decimal : (n : ℕ) → P (decimal n)
  kept-decimal n = kept.plain (decimal n) (plain-decimal n)

  -- texts that every element gives
  pub kept-joined : {X : Type 0} (f : X → List ℕ) → ((x : X) → P (f x)) → (xs : List X) → P (joined f xs)
  unfolding joined
  kept-joined f h [] = kept-nil
  kept-joined f h (x ∷ xs) = kept.append (f x) (joined f xs) (h x) (kept-joined f h xs)

-- ---- texts without a byte

-- none of these bytes or characters is this one
abbrev pub IsClean : ℕ → List ℕ → Type 0
IsClean b text = AllByRecursion (λ c. c ≢ b) text

-- a text passes the test for it
abbrev pub HasNo : ℕ → List ℕ → Type 0
HasNo b text = list_all (λ c. not (c == b)) text ≡ true

-- a byte of control
pub record IsControl (b : ℕ) : Type 0 where
  pub some : 0 < b
  pub low : b < 32

module _ (b : ℕ) where
  -- a text that passes the test has none
  pub clean-from : (t : List ℕ) → HasNo b t → IsClean b t
  clean-from [] h = tt
  clean-from (c ∷ t) h =
      let p = and_parts (not (c == b)) (list_all (λ c. not (c == b)) t) h in
      (λ e. true≢false (sym p.0 ∙ ap not (eq-eqb c b e)), clean-from t p.1)

  -- and one that has none passes it
  pub clean-test : (t : List ℕ) → IsClean b t → HasNo b t
  clean-test t a =
      list_all-true (λ c. not (c == b)) t (all-weaker (λ c. c ≢ b) (λ c. not (c == b) ≡ true) t (λ c h. ap not (ne_eqb c b h)) a)

  -- two texts, one behind the other
  pub clean-append : (s t : List ℕ) → IsClean b s → IsClean b t → IsClean b (s ++ t)
  clean-append s t m n = all-append (λ c. c ≢ b) s t m n

module _ (b : ℕ) (control : IsControl b) where
  -- ---- what is written beside the texts that are handed in

  -- bytes from 32 on
  clean-printable : (t : List ℕ) → list_all (λ c. nat_le 32 c) t ≡ true → IsClean b t
  clean-printable [] h = tt
  clean-printable (c ∷ t) h =
      let low = control.low in
      let p = and_parts (nat_le 32 c) (list_all (λ c. nat_le 32 c) t) h in
      let least = leb-true 32 c p.0 in
      (λ e. omega arith, clean-printable t p.1)

  -- printable ASCII
  clean-plain : (t : List ℕ) → list_all is_plain t ≡ true → IsClean b t
  clean-plain [] h = tt
  clean-plain (c ∷ t) h =
      let low = control.low in
      let p = and_parts (is_plain c) (list_all is_plain t) h in
      let q = and_parts (nat_le 32 c) (nat_lt c 127) p.0 in
      let least = leb-true 32 c q.0 in
      (λ e. omega arith, clean-plain t p.1)

  -- a stroke, in either set of characters
  clean-glyph : (set : CharSet) (glyph : Glyph) → IsClean b (glyph_text set glyph)
  unfolding glyph_text glyph_code lib.Utf8.encode
  clean-glyph set glyph = clean-printable (glyph_text set glyph) (test set glyph)
    where
      test : (set : CharSet) (glyph : Glyph) → list_all (λ c. nat_le 32 c) (glyph_text set glyph) ≡ true
      test Unicode Blank = refl
      test Ascii Blank = refl
      test Unicode glyph = refl
      test Ascii glyph = refl

  -- the mark
  clean-mark : (set : CharSet) → IsClean b (mark_text set)
  unfolding mark_text lib.Utf8.encode
  clean-mark Unicode = clean-printable (mark_text Unicode) refl
  clean-mark Ascii = clean-printable (mark_text Ascii) refl

  -- so texts without it are kept
  pub clean-kept : IsKept (IsClean b)
  clean-kept = record { append = clean-append b; plain = clean-plain; glyph = clean-glyph; mark = clean-mark }

  -- ---- characters

  -- a character's bytes: its own below 128, and else none below 128
  pub clean-encode : (c : ℕ) → c ≢ b → IsClean b (encode_utf8 c)
  unfolding lib.Utf8.encode
  clean-encode c h =
      let low = control.low in
      let next = λ (n : ℕ). 128 + n % 64 in
      let past : (n : ℕ) → next n ≢ b = λ n e. omega arith in
      let two = (192 + c / 64) ∷ next c ∷ [] in
      let three = (224 + c / 4096) ∷ next (c / 64) ∷ next c ∷ [] in
      let four = (240 + c / 262144) ∷ next (c / 4096) ∷ next (c / 64) ∷ next c ∷ [] in
      let long = cond (nat_lt c 65536) three four in
      cond_both (nat_lt c 128) (c ∷ []) (cond (nat_lt c 2048) two long) (IsClean b) (λ _. (h, tt))
      (λ _. cond_both (nat_lt c 2048) two long (IsClean b) (λ _. (λ e. omega arith, (past c, tt)))
      (λ _. cond_both (nat_lt c 65536) three four (IsClean b) (λ _. (λ e. omega arith, (past (c / 64), (past c, tt))))
      (λ _. (λ e. omega arith, (past (c / 4096), (past (c / 64), (past c, tt)))))))

  -- a character is shown by its bytes, or as a blank
  pub clean-shown : (c : ℕ) → (is_whitespace c ≡ false → c ≢ b) → IsClean b (shown_text c)
  unfolding shown_text
  clean-shown c h =
      let low = control.low in
      cond_both (is_whitespace c) (32 ∷ []) (encode_utf8 c) (IsClean b) (λ _. (λ e. omega arith, tt)) (λ black. clean-encode c (h black))

-- what holds of characters holds of those before the white space at their end
pub all-trimmed : (P : ℕ → Type 0) (cs : List ℕ) → AllByRecursion P cs → AllByRecursion P (drop_trailing_whitespace cs)
all-trimmed P [] a = tt
all-trimmed P (c ∷ cs) a =
    cond_both (is_whitespace c && length (drop_trailing_whitespace cs) == 0) [] (c ∷ drop_trailing_whitespace cs) (AllByRecursion P)
    (λ _. tt) (λ _. (a.0, all-trimmed P cs a.1))

-- ---- lines

-- the lines of a source, which join to its characters
pub all-lines_of : (P : ℕ → Type 0) (t : List ℕ) → AllByRecursion P t → AllByRecursion (AllByRecursion P) (lines_of t)
all-lines_of P t a = all-flat P (lines_of t) (subst (AllByRecursion P) (sym (lines_joined t)) a)

-- a line without its carriage return
clean-stripped : (b : ℕ) (l : List ℕ) → IsClean b l → IsClean b (strip_carriage_return l)
clean-stripped b l a =
    let n = length l - 1 in
    cond_both (slice_index l n == 13) (take n l) l (IsClean b) (λ _. all-take (λ c. c ≢ b) n l a) (λ _. a)

-- the lines in the parts of a text between line feeds
clean-parts : (b : ℕ) (parts : List (List ℕ)) → AllByRecursion (IsClean b) parts → AllByRecursion (IsClean b) (lines_of_parts parts)
clean-parts b [] a = tt
clean-parts b (x ∷ []) a = cond_both (length x == 0) [] (x ∷ []) (AllByRecursion (IsClean b)) (λ _. tt) (λ _. a)
clean-parts b (x ∷ y ∷ parts) a = (clean-stripped b x a.0, clean-parts b (y ∷ parts) a.1)

-- the lines of a help or a note, in bytes
pub clean-lines : (b : ℕ) (t : List ℕ) → IsClean b t → AllByRecursion (IsClean b) (lines t)
clean-lines b t a = clean-parts b (slice_split (λ c. c == 10) t) (all-split (λ c. c ≢ b) (λ c. c == 10) t a)

-- none has a line feed
pub fed-lines : (t : List ℕ) → AllByRecursion (IsClean 10) (lines t)
fed-lines t = clean-parts 10 (slice_split (λ c. c == 10) t) (split t)
  where
    split : (t : List ℕ) → AllByRecursion (IsClean 10) (slice_split (λ c. c == 10) t)
    split [] = (tt, tt)
    split (c ∷ t) =
        let rest = split t in
        cond_both (c == 10) ([] ∷ slice_split (λ c. c == 10) t) (onto_first c (slice_split (λ c. c == 10) t)) (AllByRecursion (IsClean 10))
        (λ _. (tt, rest)) (λ f. all-onto_first (λ c. c ≢ 10) c _ (λ e. true≢false (sym (eq-eqb c 10 e) ∙ f)) rest)
