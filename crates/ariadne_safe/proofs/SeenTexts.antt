-- Texts without a hidden character: what a picture is made of beside the texts that are handed in, and which texts that hide
-- nothing are such as they are shown.
use Rattle.std.proofs.Common.{◌≡◌, ℕ, ◌-◌, ◌<◌, Bool, true, false, List, [], ◌∷◌, ◌++◌, take, length}
use Rattle.std.proofs.Common.{refl, sym, ap, ◌∙◌, subst, arith, ◌==◌, nat_lt, nat_le, inl, inr}
use Rattle.std.specs.Prelude.{codes, encode_utf8, encode_utf8_all, slice_index}
use Rattle.std.specs.Char.{is_whitespace}
use Rattle.std.specs.Bool.{MatchBool}
use Rattle.std.specs.List.{AllByRecursion, AllWithin, HoldsAt, list_all, slice_split, onto_first}
use Rattle.std.specs.Str.{chars, is_utf8, NonePass, NoCharPasses}
use Rattle.std.specs.Str.Lines.{lines, lines_of_parts, strip_carriage_return}
use Rattle.std.proofs.lemmas.Bool.{cond_both, and_parts, cases_Bool, eqb-true, ne_eqb, eq-eqb, leb-true, ltb-true, true≢false}
use Rattle.std.proofs.lemmas.List.{append-nil}
use Rattle.std.proofs.lemmas.List.Folds.{list_all_at}
use Rattle.std.proofs.lemmas.List.Sums.{list_all-from_AllPass}
use Rattle.std.proofs.lemmas.Str.{encode_ascii, encodes-chars, IsUtf8-from_is_utf8, NoCharPasses-nil, NoCharPasses-append, NoCharPasses-byte}
use Rattle.ariadne_base.specs.Listing.{Listing, listed_lines}
use Rattle.ariadne_picture.specs.declared.switches.CharSet.{CharSet}
use Rattle.ariadne_picture.specs.declared.switches.CharSet.TheVariants.{Unicode, Ascii}
use Rattle.ariadne_picture.specs.declared.cell.Glyph.{Glyph}
use Rattle.ariadne_picture.specs.declared.cell.Glyph.TheVariants.{Blank}
use Rattle.ariadne_picture.specs.Cells.{glyph_code}
use Rattle.ariadne_picture.specs.Pieces.{glyph_text, mark_text, shown_text}
use Rattle.ariadne_picture.proofs.Variants.CleanTexts.{IsKept, is_plain, IsClean, IsControl, clean-encode, all-lines_of}
use Rattle.ariadne_picture.proofs.Variants.CleanPieces.{AreShownClean}
use Rattle.ariadne_safe.specs.declared.text.TextKind.TheVariants.{OneRow, Aside, Lines}
use Rattle.ariadne_safe.specs.Visible.{is_hidden, is_seen_in, is_shown}
use Rattle.ariadne_safe.proofs.Signs.{plain_is_seen, not_hidden}

-- what an iterator says of all characters holds of the text
pub all_decide : (p : ℕ → Bool) (t : List ℕ) (r : Bool)
    → MatchBool r (AllWithin (λ c. p c ≡ true) t 0 (length t)) ((k : ℕ) × (k < length t) × HoldsAt (λ c. p c ≡ false) t k)
    → r ≡ list_all p t
all_decide p t true h = sym (list_all-from_AllPass p t (λ k d less. h k d (omega arith) less))
all_decide p t false h = sym (list_all_at p t h.0 0 h.1 (h.2 0))

-- no character of these bytes is hidden
abbrev pub IsSeen : List ℕ → Type 0
IsSeen bytes = NoCharPasses is_hidden bytes

-- a character that is not
pub one_seen : (c : ℕ) → is_hidden c ≡ false → IsSeen (encode_utf8 c)
one_seen c e = (c ∷ [], append-nil (encode_utf8 c), (e, tt))

-- ---- what a picture is made of

-- printable ASCII
plain_seen : (t : List ℕ) → list_all is_plain t ≡ true → IsSeen t
plain_seen [] h = NoCharPasses-nil is_hidden
plain_seen (c ∷ t) h =
    let p = and_parts (is_plain c) (list_all is_plain t) h in
    let q = and_parts (nat_le 32 c) (nat_lt c 127) p.0 in
    let less = ltb-true c 127 q.1 in
    let one : IsSeen (c ∷ []) = subst IsSeen (encode_ascii c (omega (arith, less))) (one_seen c (plain_is_seen c (leb-true 32 c q.0) less)) in
    NoCharPasses-append is_hidden (c ∷ []) t one (plain_seen t p.1)

-- strokes
glyph_seen : (set : CharSet) (glyph : Glyph) → IsSeen (glyph_text set glyph)
unfolding glyph_text glyph_code is_hidden
glyph_seen set glyph = one_seen (glyph_code set glyph) (test set glyph)
  where
    test : (set : CharSet) (glyph : Glyph) → is_hidden (glyph_code set glyph) ≡ false
    test Unicode Blank = refl
    test Ascii Blank = refl
    test Unicode glyph = refl
    test Ascii glyph = refl

-- the mark in place of what is cut
mark_seen : (set : CharSet) → IsSeen (mark_text set)
unfolding mark_text is_hidden
mark_seen Unicode = one_seen 0x2026 refl
mark_seen Ascii = plain_seen (codes "...") refl

-- and texts that are joined
pub kept_seen : IsKept IsSeen
kept_seen = record { append = NoCharPasses-append is_hidden; plain = plain_seen; glyph = glyph_seen; mark = mark_seen }

-- ---- texts that rows show whole

none_pass : (cs : List ℕ) → list_all (is_seen_in OneRow) cs ≡ true → NonePass is_hidden cs
none_pass [] h = tt
none_pass (c ∷ cs) h =
    let p = and_parts (is_seen_in OneRow c) (list_all (is_seen_in OneRow) cs) h in
    (not_hidden (is_hidden c) false refl p.0, none_pass cs p.1)

pub row_seen : (text : List ℕ) → is_shown OneRow text ≡ true → IsSeen text
row_seen text h =
    let p = and_parts (is_utf8 text) (list_all (is_seen_in OneRow) (chars text)) h in
    (chars text, encodes-chars text (IsUtf8-from_is_utf8 text p.0), none_pass (chars text) p.1)

-- ---- the characters of a source row

char_seen : (c : ℕ) → is_seen_in Lines c ≡ true → IsSeen (shown_text c)
unfolding shown_text
char_seen c h =
    cond_both (is_whitespace c) (32 ∷ []) (encode_utf8 c) IsSeen (λ _. plain_seen (32 ∷ []) refl)
    (λ black. one_seen c (not_hidden (is_hidden c) (is_whitespace c) black h))

chars_seen : (cs : List ℕ) → list_all (is_seen_in Lines) cs ≡ true → AllByRecursion (λ c. IsSeen (shown_text c)) cs
chars_seen [] h = tt
chars_seen (c ∷ cs) h =
    let p = and_parts (is_seen_in Lines c) (list_all (is_seen_in Lines) cs) h in
    (char_seen c p.0, chars_seen cs p.1)

pub source_seen : (source : Listing) → is_shown Lines source.text ≡ true → AreShownClean IsSeen (listed_lines source)
source_seen source h =
    let p = and_parts (is_utf8 source.text) (list_all (is_seen_in Lines) (chars source.text)) h in
    all-lines_of (λ c. IsSeen (shown_text c)) (chars source.text) (chars_seen (chars source.text) p.1)

-- ---- the lines of a help or a note

-- lists whose first has these elements more
glue : List ℕ → List (List ℕ) → List (List ℕ)
glue s [] = s ∷ []
glue s (part ∷ parts) = (s ++ part) ∷ parts

glue_onto : (b : ℕ) (s : List ℕ) (parts : List (List ℕ)) → onto_first b (glue s parts) ≡ glue (b ∷ s) parts
unfolding glue
glue_onto b s [] = refl
glue_onto b s (part ∷ parts) = refl

glue_none : (part : List ℕ) (parts : List (List ℕ)) → glue [] (part ∷ parts) ≡ part ∷ parts
unfolding glue
glue_none part parts = refl

-- the parts of a text between line feeds: there is a first one
has_parts : (t : List ℕ) → (part : List ℕ) × (parts : List (List ℕ)) × (slice_split (λ b. b == 10) t ≡ part ∷ parts)
has_parts [] = ([], [], refl)
has_parts (b ∷ t) =
    let rest = has_parts t in
    elim (cases_Bool (b == 10)) [
      | inl feed ↦ ([], slice_split (λ b. b == 10) t, rw feed refl)
      | inr other ↦ (b ∷ rest.0, rest.1, rw (other, rest.2) refl)
    ]

-- a text without line feed belongs to the first part
split_glued : (s t : List ℕ) → IsClean 10 s → slice_split (λ b. b == 10) (s ++ t) ≡ glue s (slice_split (λ b. b == 10) t)
split_glued [] t a = let p = has_parts t in p.2 ∙ sym (ap (glue []) p.2 ∙ glue_none p.0 p.1)
split_glued (b ∷ s) t a =
    let f : (b == 10) ≡ false = ne_eqb b 10 a.0 in
    rw (f, split_glued s t a.1) (glue_onto b s (slice_split (λ b. b == 10) t))

glued_seen : (s : List ℕ) (parts : List (List ℕ)) → IsSeen s → AllByRecursion IsSeen parts → AllByRecursion IsSeen (glue s parts)
unfolding glue
glued_seen s [] h a = (h, tt)
glued_seen s (part ∷ parts) h a = (NoCharPasses-append is_hidden s part h a.0, a.1)

-- a character of a help or a note is a line feed, or not hidden
parts_seen : (cs : List ℕ) → list_all (is_seen_in Aside) cs ≡ true
    → AllByRecursion IsSeen (slice_split (λ b. b == 10) (encode_utf8_all cs))
parts_seen [] h = (NoCharPasses-nil is_hidden, tt)
parts_seen (c ∷ cs) h =
    let p = and_parts (is_seen_in Aside c) (list_all (is_seen_in Aside) cs) h in
    let rest = parts_seen cs p.1 in
    elim (cases_Bool (c == 10)) [
      | inl feed ↦
          let is : encode_utf8_all (c ∷ cs) ≡ 10 ∷ encode_utf8_all cs =
          ap (λ d. encode_utf8 d ++ encode_utf8_all cs) (eqb-true c 10 feed) ∙ ap (λ t. t ++ encode_utf8_all cs) (encode_ascii 10 (omega arith)) in
          subst (λ t. AllByRecursion IsSeen (slice_split (λ b. b == 10) t)) (sym is) (NoCharPasses-nil is_hidden, rest)
      | inr other ↦
          let control : IsControl 10 = record { some = omega arith; low = omega arith } in
          let clean = clean-encode 10 control c (λ e. true≢false (sym (eq-eqb c 10 e) ∙ other)) in
          subst (AllByRecursion IsSeen) (sym (split_glued (encode_utf8 c) (encode_utf8_all cs) clean))
          (glued_seen (encode_utf8 c) (slice_split (λ b. b == 10) (encode_utf8_all cs))
          (one_seen c (not_hidden (is_hidden c) (c == 10) other p.0)) rest)
    ]

-- a carriage return is hidden
return_is_hidden : is_hidden 13 ≡ true
unfolding is_hidden
return_is_hidden = refl

-- so none ends such a part
stripped_seen : (l : List ℕ) → IsSeen l → IsSeen (strip_carriage_return l)
stripped_seen [] h = h
stripped_seen (x ∷ l) h =
    let n = length (x ∷ l) - 1 in
    cond_both (slice_index (x ∷ l) n == 13) (take n (x ∷ l)) (x ∷ l) IsSeen
    (λ t. let is = eqb-true (slice_index (x ∷ l) n) 13 t in
    let none = NoCharPasses-byte is_hidden (x ∷ l) n h (omega arith) (omega (arith, is)) in
    absurd (true≢false (sym return_is_hidden ∙ sym (ap is_hidden is) ∙ none)))
    (λ _. h)

of_parts_seen : (parts : List (List ℕ)) → AllByRecursion IsSeen parts → AllByRecursion IsSeen (lines_of_parts parts)
of_parts_seen [] a = tt
of_parts_seen (x ∷ []) a = cond_both (length x == 0) [] (x ∷ []) (AllByRecursion IsSeen) (λ _. tt) (λ _. a)
of_parts_seen (x ∷ y ∷ parts) a = (stripped_seen x a.0, of_parts_seen (y ∷ parts) a.1)

pub aside_seen : (text : List ℕ) → is_shown Aside text ≡ true → AllByRecursion IsSeen (lines text)
aside_seen text h =
    let p = and_parts (is_utf8 text) (list_all (is_seen_in Aside) (chars text)) h in
    let is = encodes-chars text (IsUtf8-from_is_utf8 text p.0) in
    of_parts_seen (slice_split (λ b. b == 10) text)
    (subst (λ t. AllByRecursion IsSeen (slice_split (λ b. b == 10) t)) is (parts_seen (chars text) p.1))
