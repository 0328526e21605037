-- The lines of a text meet the condition on whole lists, and no other list does.
use Rattle.std.proofs.Common.{◌≡◌, ℕ, Bool, true, false, not, ◌&&◌, List, [], ◌∷◌, ◌++◌, length, refl, sym, ap, ◌∙◌, ◌==◌, cond, inl, inr, sum_by}
use Rattle.std.proofs.Common.{subst, arith, ◌+◌, ◌<◌}
use Rattle.std.specs.List.{flat_map}
use Rattle.std.specs.Str.{encode_utf8_all}
use Rattle.std.proofs.lemmas.List.{append-nil, length-append}
use Rattle.std.proofs.lemmas.List.Concat.{length-flat_map}
use Rattle.std.proofs.lemmas.List.Sums.{sum_by-cons}
use Rattle.std.proofs.lemmas.Str.{encodes-append}
use Rattle.std.proofs.lemmas.Bool.{cond_both, cond-true, cond-false, eq-eqb, eqb-true, cases_Bool, not_from_false, and_parts, false_from_ne_true}
use Rattle.ariadne_base.specs.Lines.{is_separator, begins_with_line_feed, ends_line, in_front, full_lines_of, lines_of, HasNoSeparatorInside, EndsIn}
use Rattle.ariadne_base.specs.Lines.{BeginsIn, CutsCrLf, AreFullLines, AreLinesOf, empty_line, full_lines}
use Rattle.ariadne_base.specs.Locations.{byte_len}

-- ---- where a line ends

-- a separator inside a line is the CR of its last CR LF, which doesn't end it
inner_stays : (c d : ℕ) (t : List ℕ) → (is_separator c ≡ true → (c ≡ 13) × (d ≡ 10) × (t ≡ [])) → (u : List ℕ) → ends_line c (d ∷ u) ≡ false
unfolding ends_line begins_with_line_feed
inner_stays c d t h u = elim (cases_Bool (is_separator c)) [
  | inl on ↦ let facts = h on in rw (on, eq-eqb c 13 facts.0, eq-eqb d 10 facts.1) refl
  | inr off ↦ rw off refl
]

-- a separator ends a line, unless it is a CR before LF
ends_here : (c : ℕ) (rest : List ℕ) → is_separator c ≡ true → ¬ ((c ≡ 13) × BeginsIn (λ d. d ≡ 10) rest) → ends_line c rest ≡ true
unfolding ends_line begins_with_line_feed
ends_here c [] e n = rw e (case (c == 13))
  where
    case : (b : Bool) → not (b && false) ≡ true
    case true = refl
    case false = refl
ends_here c (d ∷ rest) e n =
    rw e (not_from_false ((c == 13) && (d == 10)) (false_from_ne_true ((c == 13) && (d == 10))
    (λ t. let h = and_parts (c == 13) (d == 10) t in n (eqb-true c 13 h.0, eqb-true d 10 h.1))))

-- what ends its line is a separator, and no CR before LF
separator_from_end : (c : ℕ) (t : List ℕ) → ends_line c t ≡ true → is_separator c ≡ true
unfolding ends_line
separator_from_end c t h = (and_parts _ _ h).0

-- a CR before LF does not end its line
no_cut_from_end : (c d : ℕ) (t : List ℕ) → ends_line c (d ∷ t) ≡ true → c ≡ 13 → d ≡ 10 → ⊥
unfolding ends_line begins_with_line_feed
no_cut_from_end c d t h e f =
    let tests : not ((c == 13) && (d == 10)) ≡ true = (and_parts (is_separator c) (not ((c == 13) && (d == 10))) h).1 in
    let both : not ((c == 13) && (d == 10)) ≡ false = rw (eq-eqb c 13 e, eq-eqb d 10 f) refl in
    cc

-- a separator that doesn't end its line is the CR of a CR LF
cr_lf_from_inside : (c d : ℕ) (t : List ℕ) → ends_line c (d ∷ t) ≡ false → is_separator c ≡ true → (c ≡ 13) × (d ≡ 10)
unfolding ends_line begins_with_line_feed
cr_lf_from_inside c d t h e = elim (cases_Bool ((c == 13) && (d == 10))) [
  | inl on ↦ let p = and_parts (c == 13) (d == 10) on in (eqb-true c 13 p.0, eqb-true d 10 p.1)
  | inr off ↦ let f : ((is_separator c && not ((c == 13) && (d == 10))) ≡ false) = h in
      let g : ((is_separator c && not ((c == 13) && (d == 10))) ≡ true) = rw (e, off) refl in absurd (let z : true ≡ false = sym g ∙ f in cc)
]

-- ---- the only such list

-- a line that ends in a separator, before more text
cut_line : (l rest : List ℕ) → HasNoSeparatorInside l → EndsIn (λ c. is_separator c ≡ true) l → ¬ (CutsCrLf l rest) → full_lines_of (l ++ rest) ≡ l
    ∷ full_lines_of rest
unfolding full_lines_of in_front
cut_line [] rest i e n = absurd e
cut_line (c ∷ []) rest i e n = cond-true (ends_line c rest) ((c ∷ []) ∷ full_lines_of rest) (in_front c (full_lines_of rest)) (ends_here c rest e n)
cut_line (c ∷ d ∷ t) rest i e n =
    cond-false (ends_line c (d ∷ (t ++ rest))) ((c ∷ []) ∷ full_lines_of (d ∷ (t ++ rest))) (in_front c (full_lines_of (d ∷ (t ++ rest))))
    (inner_stays c d t i.0 (t ++ rest))
    ∙ ap (in_front c) (cut_line (d ∷ t) rest i.1 e n)

-- the last line
cut_last : (c : ℕ) (t : List ℕ) → HasNoSeparatorInside (c ∷ t) → full_lines_of (c ∷ t) ≡ (c ∷ t) ∷ []
unfolding full_lines_of in_front
cut_last c [] i = cond_both (ends_line c []) ((c ∷ []) ∷ []) ((c ∷ []) ∷ []) (λ r. r ≡ (c ∷ []) ∷ []) (λ _. refl) (λ _. refl)
cut_last c (d ∷ t) i =
    cond-false (ends_line c (d ∷ t)) ((c ∷ []) ∷ full_lines_of (d ∷ t)) (in_front c (full_lines_of (d ∷ t))) (inner_stays c d t i.0 t)
    ∙ ap (in_front c) (cut_last d t i.1)

-- what the joined lines begin with, the first line begins with
begins_alone : (P : ℕ → Type 0) (m : List ℕ) (ls : List (List ℕ)) → BeginsIn (λ c. Unit {0}) m → BeginsIn P (flat_map (λ l. l) (m ∷ ls))
    → BeginsIn P m
begins_alone P [] ls b h = absurd b
begins_alone P (c ∷ m) ls b h = h

-- a first full line is not empty
not_empty : (m : List ℕ) (ls : List (List ℕ)) → AreFullLines (m ∷ ls) → BeginsIn (λ c. Unit {0}) m
not_empty [] [] a = a.1
not_empty (c ∷ m) [] a = tt
not_empty [] (n ∷ ls) a = absurd a.1
not_empty (c ∷ m) (n ∷ ls) a = tt

-- full lines are cut from their joined text as they were
cut_joined : (ls : List (List ℕ)) → AreFullLines ls → full_lines_of (flat_map (λ l. l) ls) ≡ ls
cut_joined [] a = absurd a
cut_joined ([] ∷ []) a = absurd a.1
cut_joined ((c ∷ t) ∷ []) a = ap full_lines_of (append-nil (c ∷ t)) ∙ cut_last c t a.0
cut_joined (l ∷ m ∷ ls) a =
    cut_line l (flat_map (λ l. l) (m ∷ ls)) a.0 a.1 (λ h. a.2 (h.0, begins_alone (λ c. c ≡ 10) m ls (not_empty m ls a.3) h.1))
    ∙ ap (λ r. l ∷ r) (cut_joined (m ∷ ls) a.3)

-- a text that is not empty has its full lines alone
lines_of-some : (t : List ℕ) → BeginsIn (λ c. Unit {0}) t → lines_of t ≡ full_lines_of t
unfolding lines_of
lines_of-some [] h = absurd h
lines_of-some (c ∷ t) h = refl

-- a text with a beginning keeps it before more text
begins-append : (l u : List ℕ) → BeginsIn (λ c. Unit {0}) l → BeginsIn (λ c. Unit {0}) (l ++ u)
begins-append [] u h = absurd h
begins-append (c ∷ l) u h = tt

-- full lines join to a text that is not empty
joined_begins : (ls : List (List ℕ)) → AreFullLines ls → BeginsIn (λ c. Unit {0}) (flat_map (λ l. l) ls)
joined_begins [] a = absurd a
joined_begins (m ∷ ls) a = begins-append m (flat_map (λ l. l) ls) (not_empty m ls a)

-- the empty text has one empty line
lines_of-nil : lines_of [] ≡ [] ∷ []
unfolding lines_of
lines_of-nil = refl

-- whatever meets the condition is the lines of the text
pub only_lines : (t : List ℕ) (ls : List (List ℕ)) → AreLinesOf t ls → ls ≡ lines_of t
only_lines t ls empty_line = sym lines_of-nil
only_lines t ls (full_lines a e) = sym (cut_joined ls a) ∙ sym (lines_of-some (flat_map (λ l. l) ls) (joined_begins ls a)) ∙ ap lines_of e

-- ---- that they meet it

-- a character ends its line, or stands in front of what follows
full_lines_of-cons : (c : ℕ) (t : List ℕ) → full_lines_of (c ∷ t) ≡ cond (ends_line c t) ((c ∷ []) ∷ full_lines_of t) (in_front c (full_lines_of t))
unfolding full_lines_of
full_lines_of-cons c t = refl

-- a character in front of the lines is in front of their text
in_front_joined : (c : ℕ) (ls : List (List ℕ)) → flat_map (λ l. l) (in_front c ls) ≡ c ∷ flat_map (λ l. l) ls
unfolding in_front
in_front_joined c [] = refl
in_front_joined c (l ∷ ls) = refl

-- the full lines of a text join to it
full_lines_of-joined : (t : List ℕ) → flat_map (λ l. l) (full_lines_of t) ≡ t
unfolding full_lines_of
full_lines_of-joined [] = refl
full_lines_of-joined (c ∷ t) =
    cond_both (ends_line c t) ((c ∷ []) ∷ full_lines_of t) (in_front c (full_lines_of t)) (λ r. flat_map (λ l. l) r ≡ c ∷ t)
    (λ _. ap (λ u. c ∷ u) (full_lines_of-joined t))
    (λ _. in_front_joined c (full_lines_of t) ∙ ap (λ u. c ∷ u) (full_lines_of-joined t))

-- the lines of a text that is not empty: the first begins as the text does
record FirstLine (d : ℕ) (t : List ℕ) : Type 0 where
  tail : List ℕ
  others : List (List ℕ)
  is : full_lines_of (d ∷ t) ≡ (d ∷ tail) ∷ others

-- lines with a character in front have a first one, which begins with it
begun : (c : ℕ) (ls : List (List ℕ)) → (tail : List ℕ) × (others : List (List ℕ)) × (in_front c ls ≡ (c ∷ tail) ∷ others)
unfolding in_front
begun c [] = ([], [], refl)
begun c (l ∷ ls) = (l, ls, refl)

-- a text that is not empty has a first line
first_line : (d : ℕ) (t : List ℕ) → FirstLine d t
first_line d t = elim (cases_Bool (ends_line d t)) [
  | inl on ↦ record { tail = []; others = full_lines_of t; is = full_lines_of-cons d t ∙ cond-true _ _ _ on }
  | inr off ↦ let b = begun d (full_lines_of t) in record { tail = b.0; others = b.1; is = full_lines_of-cons d t ∙ cond-false _ _ _ off ∙ b.2 }
]

-- LF is a separator, so nothing stands behind it in its line
alone : (m : List ℕ) → HasNoSeparatorInside (10 ∷ m) → m ≡ []
unfolding is_separator
alone [] h = refl
alone (e ∷ m) h = let z : ◌≡◌ {A = ℕ} 10 13 = (h.0 refl).0 in absurd (omega arith)

-- the same of a character that is LF
alone_at : (d : ℕ) (m : List ℕ) → d ≡ 10 → HasNoSeparatorInside (d ∷ m) → m ≡ []
alone_at d m e h = alone m (subst (λ d. HasNoSeparatorInside (d ∷ m)) e h)

-- a character that doesn't end its line makes the first line longer
longer : (c d : ℕ) (m : List ℕ) (ls : List (List ℕ)) → (is_separator c ≡ true → (c ≡ 13) × (d ≡ 10)) → AreFullLines ((d ∷ m) ∷ ls)
    → AreFullLines ((c ∷ d ∷ m) ∷ ls)
longer c d m [] h a = ((λ s. let p = h s in (p.0, p.1, alone_at d m p.1 a.0), a.0), tt)
longer c d m (n ∷ ls) h a = ((λ s. let p = h s in (p.0, p.1, alone_at d m p.1 a.0), a.0), a.1, a.2, a.3)

-- a text that is not empty is cut into full lines
are_full_lines : (c : ℕ) (t : List ℕ) → AreFullLines (full_lines_of (c ∷ t))
unfolding full_lines_of in_front
are_full_lines c [] = cond_both (ends_line c []) ((c ∷ []) ∷ []) ((c ∷ []) ∷ []) AreFullLines (λ _. (tt, tt)) (λ _. (tt, tt))
are_full_lines c (d ∷ t) =
    let f = first_line d t in
    let a : AreFullLines ((d ∷ f.tail) ∷ f.others) = subst AreFullLines f.is (are_full_lines d t) in
    subst AreFullLines (sym (full_lines_of-cons c (d ∷ t)))
    (cond_both (ends_line c (d ∷ t)) ((c ∷ []) ∷ full_lines_of (d ∷ t)) (in_front c (full_lines_of (d ∷ t))) AreFullLines
    (λ on. subst (λ ls. AreFullLines ((c ∷ []) ∷ ls)) (sym f.is) (tt, separator_from_end c (d ∷ t) on, (λ h. no_cut_from_end c d t on h.0 h.1), a))
    (λ off. subst (λ ls. AreFullLines (in_front c ls)) (sym f.is) (longer c d f.tail f.others (cr_lf_from_inside c d t off) a)))

-- the lines of a text are such lines
pub are_lines : (t : List ℕ) → AreLinesOf t (lines_of t)
unfolding lines_of
are_lines [] = empty_line
are_lines (c ∷ t) = full_lines (are_full_lines c t) (full_lines_of-joined (c ∷ t))

-- ---- their sizes

-- the lines of a text join to it
pub lines_joined : (t : List ℕ) → flat_map (λ l. l) (lines_of t) ≡ t
unfolding lines_of
lines_joined [] = refl
lines_joined (c ∷ t) = full_lines_of-joined (c ∷ t)

-- their lengths add up to its length
pub lines_length : (t : List ℕ) → sum_by length (lines_of t) ≡ length t
lines_length t = sym (length-flat_map (λ l. l) (lines_of t)) ∙ ap length (lines_joined t)

-- the bytes of lines add up to those of their joined text
pub joined_byte_len : (ls : List (List ℕ)) → sum_by byte_len ls ≡ byte_len (flat_map (λ l. l) ls)
joined_byte_len [] = refl
joined_byte_len (l ∷ ls) =
    sum_by-cons byte_len l ls
    ∙ ap (λ n. byte_len l + n) (joined_byte_len ls)
    ∙ sym (length-append (encode_utf8_all l) (encode_utf8_all (flat_map (λ l. l) ls)))
    ∙ sym (ap length (encodes-append l (flat_map (λ l. l) ls)))

-- so the bytes of the lines of a text add up to its bytes
pub lines_byte_len : (t : List ℕ) → sum_by byte_len (lines_of t) ≡ byte_len t
lines_byte_len t = joined_byte_len (lines_of t) ∙ ap byte_len (lines_joined t)

-- there is some line
pub some_line : (t : List ℕ) → 0 < length (lines_of t)
unfolding lines_of
some_line [] = omega arith
some_line (c ∷ t) = let e = ap length (first_line c t).is in omega arith
