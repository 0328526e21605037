-- A line whose borders stay is a line of the other text too.
use Rattle.std.proofs.Common.{◌≡◌, ◌∙◌, ap, sym, refl, subst, ℕ, zero, suc, ◌+◌, ◌<◌, ◌≤◌, Bool, true, false, ◌&&◌, not, ◌==◌, cond, List, [], ◌∷◌, ◌++◌, ◌⊎◌, inl, inr, get_or, length, arith, append_assoc}
use Rattle.std.specs.List.{flat_map}
use Rattle.std.specs.Str.{encode_utf8_all}
use Rattle.std.proofs.lemmas.Bool.{cond-true, cond-false, cond_both, cases_Bool, eq-eqb, eqb-true, not_from_false, and_parts, false_from_ne_true}
use Rattle.std.proofs.lemmas.List.{append-nil, length-append}
use Rattle.std.proofs.lemmas.Grind.{flat_map-append}
use Rattle.std.proofs.lemmas.Str.{encodes-append, length-le-encodes}
use Rattle.ariadne_base.specs.Lines.{is_separator, begins_with_line_feed, ends_line, in_front, full_lines_of, lines_of, HasNoSeparatorInside, EndsIn, BeginsIn, CutsCrLf, AreFullLines}
use Rattle.ariadne_base.specs.Locations.{byte_len}
use Rattle.ariadne_edits.specs.KeptLines.{IsClosed}

-- the text of lines
abbrev pub joined : List (List ℕ) → List ℕ
joined ls = flat_map (λ l. l) ls

abbrev pub IsSome : List ℕ → Type 0
IsSome t = BeginsIn (λ c. Unit {0}) t

-- a line ends between two texts
abbrev pub IsCut : List ℕ → List ℕ → Type 0
IsCut [] u = Unit {0}
IsCut (c ∷ []) u = ends_line c u ≡ true
IsCut (c ∷ d ∷ t) u = IsCut (d ∷ t) u

-- ---- where it ends by the characters beside it alone

-- whether a character ends its line turns on the next one alone
ends_next : (c d : ℕ) (t u : List ℕ) → ends_line c (d ∷ t) ≡ ends_line c (d ∷ u)
unfolding ends_line begins_with_line_feed
ends_next c d t u = refl

cut_next : (a : List ℕ) (d : ℕ) (t u : List ℕ) → IsCut a (d ∷ t) → IsCut a (d ∷ u)
cut_next [] d t u h = tt
cut_next (c ∷ []) d t u h = ends_next c d u t ∙ h
cut_next (c ∷ e ∷ a) d t u h = cut_next (e ∷ a) d t u h

-- what stands in front of one text more does not matter
cut_behind : (x y u : List ℕ) → IsSome y → IsCut y u → IsCut (x ++ y) u
cut_behind [] y u s h = h
cut_behind (c ∷ []) [] u s h = absurd s
cut_behind (c ∷ []) (d ∷ y) u s h = h
cut_behind (c ∷ e ∷ x) y u s h = cut_behind (e ∷ x) y u s h

cut_ahead : (x y u : List ℕ) → IsSome y → IsCut (x ++ y) u → IsCut y u
cut_ahead [] y u s h = h
cut_ahead (c ∷ []) [] u s h = absurd s
cut_ahead (c ∷ []) (d ∷ y) u s h = h
cut_ahead (c ∷ e ∷ x) y u s h = cut_ahead (e ∷ x) y u s h

-- ---- lines of two texts between which one ends

-- a character goes in front of the first line
in_front_append : (c : ℕ) (f g : List (List ℕ)) → 0 < length f → in_front c (f ++ g) ≡ in_front c f ++ g
unfolding in_front
in_front_append c [] g h = absurd (omega arith)
in_front_append c (l ∷ f) g h = refl

some_in_front : (c : ℕ) (f : List (List ℕ)) → 0 < length (in_front c f)
unfolding in_front
some_in_front c [] = omega arith
some_in_front c (l ∷ f) = omega arith

-- one character more
full_more : (c : ℕ) (t : List ℕ) → full_lines_of (c ∷ t) ≡ cond (ends_line c t) ((c ∷ []) ∷ full_lines_of t) (in_front c (full_lines_of t))
unfolding full_lines_of
full_more c t = refl

some_full : (c : ℕ) (t : List ℕ) → 0 < length (full_lines_of (c ∷ t))
some_full c t = subst (λ ls. 0 < length ls) (sym (full_more c t))
    (cond_both (ends_line c t) ((c ∷ []) ∷ full_lines_of t) (in_front c (full_lines_of t)) (λ ls. 0 < length ls) (λ _. omega arith) (λ _. some_in_front c (full_lines_of t)))

full_one : (c : ℕ) → full_lines_of (c ∷ []) ≡ (c ∷ []) ∷ []
unfolding full_lines_of in_front
full_one c = cond_both (ends_line c []) ((c ∷ []) ∷ []) ((c ∷ []) ∷ []) (λ r. r ≡ (c ∷ []) ∷ []) (λ _. refl) (λ _. refl)

-- the lines of both, one behind the other
cut_lines : (a u : List ℕ) → IsCut a u → full_lines_of (a ++ u) ≡ full_lines_of a ++ full_lines_of u
unfolding full_lines_of
cut_lines [] u h = refl
cut_lines (c ∷ []) u h =
    full_more c u ∙ cond-true (ends_line c u) ((c ∷ []) ∷ full_lines_of u) (in_front c (full_lines_of u)) h ∙ ap (λ ls. ls ++ full_lines_of u) (sym (full_one c))
cut_lines (c ∷ d ∷ t) u h =
    let f = full_lines_of (d ∷ t) in
    let g = full_lines_of u in
    let both = full_lines_of (d ∷ (t ++ u)) in
    let e : both ≡ f ++ g = cut_lines (d ∷ t) u h in
    full_more c (d ∷ (t ++ u))
    ∙ ap (λ ls. cond (ends_line c (d ∷ (t ++ u))) ((c ∷ []) ∷ ls) (in_front c ls)) e
    ∙ ap (λ b. cond b ((c ∷ []) ∷ (f ++ g)) (in_front c (f ++ g))) (ends_next c d (t ++ u) t)
    ∙ ap (λ ls. cond (ends_line c (d ∷ t)) ((c ∷ []) ∷ (f ++ g)) ls) (in_front_append c f g (some_full d t))
    ∙ spread_over (ends_line c (d ∷ t)) ((c ∷ []) ∷ f) (in_front c f) g
    ∙ ap (λ ls. ls ++ g) (sym (full_more c (d ∷ t)))
  where
    spread_over : (b : Bool) (x y g : List (List ℕ)) → cond b (x ++ g) (y ++ g) ≡ cond b x y ++ g
    spread_over true x y g = refl
    spread_over false x y g = refl

-- ---- a text's own lines

-- a terminator ends its line, unless it is a CR before LF
ends_here : (c : ℕ) (u : List ℕ) → is_separator c ≡ true → ¬ ((c ≡ 13) × BeginsIn (λ d. d ≡ 10) u) → ends_line c u ≡ true
unfolding ends_line begins_with_line_feed
ends_here c [] e n = rw e (never (c == 13))
  where
    never : (b : Bool) → not (b && false) ≡ true
    never true = refl
    never false = refl
ends_here c (d ∷ u) e n =
    rw e (not_from_false ((c == 13) && (d == 10)) (false_from_ne_true ((c == 13) && (d == 10))
    (λ t. let h = and_parts (c == 13) (d == 10) t in n (eqb-true c 13 h.0, eqb-true d 10 h.1))))

-- so a line ends behind each of its terminators
end_cut : (x u : List ℕ) → EndsIn (λ c. is_separator c ≡ true) x → ¬ (CutsCrLf x u) → IsCut x u
end_cut [] u e n = tt
end_cut (c ∷ []) u e n = ends_here c u e n
end_cut (c ∷ d ∷ t) u e n = end_cut (d ∷ t) u e n

-- a closed line ends whatever follows
closed_cut : (l u : List ℕ) → IsClosed l → IsCut l u
closed_cut [] u e = tt
closed_cut (c ∷ []) u e = ends_here c u e.0 (λ h. e.1 h.0)
closed_cut (c ∷ d ∷ t) u e = closed_cut (d ∷ t) u e

begins_alone : (P : ℕ → Type 0) (m u : List ℕ) → IsSome m → BeginsIn P (m ++ u) → BeginsIn P m
begins_alone P [] u s h = absurd s
begins_alone P (c ∷ m) u s h = h

some_first : (l : List ℕ) (g : List (List ℕ)) → AreFullLines (l ∷ g) → IsSome l
some_first [] [] a = a.1
some_first (c ∷ l) [] a = tt
some_first [] (m ∷ g) a = absurd a.1
some_first (c ∷ l) (m ∷ g) a = tt

some_append : (x y : List ℕ) → IsSome x → IsSome (x ++ y)
some_append [] y s = absurd s
some_append (c ∷ x) y s = tt

-- the lines from one on
from_line : (f : List (List ℕ)) (l : List ℕ) (g : List (List ℕ)) → AreFullLines (f ++ l ∷ g) → AreFullLines (l ∷ g)
from_line [] l g a = a
from_line (x ∷ []) l g a = a.3
from_line (x ∷ y ∷ f) l g a = from_line (y ∷ f) l g a.3

cut_first : (l m : List ℕ) (g : List (List ℕ)) → AreFullLines (l ∷ m ∷ g) → IsCut l (joined (m ∷ g))
cut_first l m g a =
    end_cut l (joined (m ∷ g)) a.1 (λ h. a.2 (h.0, begins_alone (λ c. c ≡ 10) m (joined g) (some_first m g a.3) h.1))

-- a line ends between two lines
cut_of : (f : List (List ℕ)) (l : List ℕ) (g : List (List ℕ)) → AreFullLines (f ++ l ∷ g) → IsCut (joined f) (joined (l ∷ g))
cut_of [] l g a = tt
cut_of (x ∷ []) l g a = subst (λ t. IsCut t (joined (l ∷ g))) (sym (append-nil x)) (cut_first x l g a)
cut_of (x ∷ y ∷ f) l g a =
    cut_behind x (joined (y ∷ f)) (joined (l ∷ g)) (some_append y (joined f) (some_first y (f ++ l ∷ g) a.3)) (cut_of (y ∷ f) l g a.3)

-- a line alone
stays_inside : (c d : ℕ) (t : List ℕ) → (is_separator c ≡ true → (c ≡ 13) × (d ≡ 10) × (t ≡ [])) → ends_line c (d ∷ t) ≡ false
unfolding ends_line begins_with_line_feed
stays_inside c d t h = elim (cases_Bool (is_separator c)) [
  | inl on ↦ let facts = h on in rw (on, eq-eqb c 13 facts.0, eq-eqb d 10 facts.1) refl
  | inr off ↦ rw off refl
]

line_alone : (c : ℕ) (t : List ℕ) → HasNoSeparatorInside (c ∷ t) → full_lines_of (c ∷ t) ≡ (c ∷ t) ∷ []
unfolding in_front
line_alone c [] i = full_one c
line_alone c (d ∷ t) i =
    full_more c (d ∷ t)
    ∙ cond-false (ends_line c (d ∷ t)) ((c ∷ []) ∷ full_lines_of (d ∷ t)) (in_front c (full_lines_of (d ∷ t))) (stays_inside c d t i.0)
    ∙ ap (in_front c) (line_alone d t i.1)

inside_first : (l : List ℕ) (g : List (List ℕ)) → AreFullLines (l ∷ g) → HasNoSeparatorInside l
inside_first l [] a = a.0
inside_first l (m ∷ g) a = a.0

alone : (l : List ℕ) → IsSome l → HasNoSeparatorInside l → full_lines_of l ≡ l ∷ []
alone [] s i = absurd s
alone (c ∷ l) s i = line_alone c l i

-- lines join to their text
in_front_joined : (c : ℕ) (ls : List (List ℕ)) → joined (in_front c ls) ≡ c ∷ joined ls
unfolding in_front
in_front_joined c [] = refl
in_front_joined c (l ∷ ls) = refl

full_joined : (t : List ℕ) → joined (full_lines_of t) ≡ t
unfolding full_lines_of
full_joined [] = refl
full_joined (c ∷ t) =
    cond_both (ends_line c t) ((c ∷ []) ∷ full_lines_of t) (in_front c (full_lines_of t)) (λ r. joined r ≡ c ∷ t)
    (λ _. ap (λ u. c ∷ u) (full_joined t)) (λ _. in_front_joined c (full_lines_of t) ∙ ap (λ u. c ∷ u) (full_joined t))

some_lines : (t : List ℕ) → IsSome t → lines_of t ≡ full_lines_of t
unfolding lines_of
some_lines [] s = absurd s
some_lines (c ∷ t) s = refl

-- ---- texts that are the same

pub size_append : (x y : List ℕ) → byte_len (x ++ y) ≡ byte_len x + byte_len y
size_append x y = ap length (encodes-append x y) ∙ length-append (encode_utf8_all x) (encode_utf8_all y)

size_some : (c : ℕ) (t : List ℕ) → 0 < byte_len (c ∷ t)
size_some c t = omega (arith, length-le-encodes (c ∷ t))

some_of_size : (t : List ℕ) → 0 < byte_len t → IsSome t
some_of_size [] h = absurd (omega arith)
some_of_size (c ∷ t) h = tt

size_more : (c : ℕ) (t : List ℕ) → byte_len (c ∷ t) ≡ byte_len (c ∷ []) + byte_len t
size_more c t = size_append (c ∷ []) t

-- of two cuts of a text the later has what lies between
pub record Between (x y z w : List ℕ) : Type 0 where
  pub middle : List ℕ
  pub front : z ≡ x ++ middle
  pub behind : y ≡ middle ++ w

pub between : (x y z w : List ℕ) → x ++ y ≡ z ++ w → byte_len x ≤ byte_len z → Between x y z w
between [] y z w e h = record { middle = z; front = refl; behind = e }
between (c ∷ x) y [] w e h = absurd (omega (arith, size_some c x))
between (c ∷ x) y (d ∷ z) w e h =
    let head : c ≡ d = cc in
    let tail : x ++ y ≡ z ++ w = cc in
    let size : byte_len (d ∷ z) ≡ byte_len (c ∷ []) + byte_len z = size_more d z ∙ ap (λ d. byte_len (d ∷ []) + byte_len z) (sym head) in
    let b = between x y z w tail (omega (arith, size_more c x, size, h)) in
    record { middle = b.middle; front = ap (λ d. d ∷ z) (sym head) ∙ ap (λ z. c ∷ z) b.front; behind = b.behind }

-- ---- the line in the other text

pub record HasLine (ls : List (List ℕ)) (l : List ℕ) (at : ℕ) : Type 0 where
  pub front : List (List ℕ)
  pub behind : List (List ℕ)
  pub is : ls ≡ front ++ l ∷ behind
  pub begins : byte_len (joined front) ≡ at

nothing_behind : (l : List ℕ) → l ∷ full_lines_of [] ≡ l ∷ []
unfolding full_lines_of
nothing_behind l = refl

some_behind : (x y : List ℕ) → IsSome y → IsSome (x ++ y)
some_behind [] y s = s
some_behind (c ∷ x) y s = tt

-- a text with a line between two others, that ends a line in front of it, and ends this one
cut_out : (x l y : List ℕ) → IsSome l → HasNoSeparatorInside l → IsCut x (l ++ y) → IsCut l y ⊎ (y ≡ [])
    → HasLine (lines_of (x ++ (l ++ y))) l (byte_len x)
cut_out x l y s i before after =
    let whole : full_lines_of (l ++ y) ≡ l ∷ full_lines_of y = elim after [
      | inl h ↦ cut_lines l y h ∙ ap (λ ls. ls ++ full_lines_of y) (alone l s i)
      | inr h ↦ ap (λ y. full_lines_of (l ++ y)) h ∙ ap full_lines_of (append-nil l) ∙ alone l s i ∙ sym (ap (λ y. l ∷ full_lines_of y) h ∙ nothing_behind l)
    ] in
    record {
      front = full_lines_of x;
      behind = full_lines_of y;
      is = some_lines (x ++ (l ++ y)) (some_behind x (l ++ y) (some_append l y s)) ∙ cut_lines x (l ++ y) before ∙ ap (λ ls. full_lines_of x ++ ls) whole;
      begins = ap byte_len (full_joined x);
    }

-- what stands between a text's cut and its end, after one more cut
cut_here : (x m y : List ℕ) → IsCut x (m ++ y) → IsSome m → (z : List ℕ) → IsCut x (m ++ z)
cut_here x [] y h s z = absurd s
cut_here x (c ∷ m) y h s z = cut_next x c (m ++ y) (m ++ z) h

-- a piece m of a text is a piece of another; a line of the first lies in it, and so do its borders
module _ (a m b a' b' : List ℕ) (f : List (List ℕ)) (l : List ℕ) (g : List (List ℕ)) (full : AreFullLines (f ++ l ∷ g))
    (whole : joined (f ++ l ∷ g) ≡ a ++ (m ++ b)) where
  parts : joined f ++ (l ++ joined g) ≡ a ++ (m ++ b)
  parts = sym (flat_map-append (λ l. l) f (l ∷ g)) ∙ whole

  line_some : IsSome l
  line_some = some_first l g (from_line f l g full)

  sizes : byte_len (joined f) + (byte_len l + byte_len (joined g)) ≡ byte_len a + (byte_len m + byte_len b)
  sizes =
      ap (λ n. byte_len (joined f) + n) (sym (size_append l (joined g))) ∙ sym (size_append (joined f) (l ++ joined g)) ∙ ap byte_len parts
      ∙ size_append a (m ++ b) ∙ ap (λ n. byte_len a + n) (size_append m b)

  -- what of the piece stands in front of the line and behind it
  pub record Sides : Type 0 where
    pub left : List ℕ
    pub right : List ℕ
    pub front : joined f ≡ a ++ left
    pub piece : m ≡ (left ++ l) ++ right
    pub behind : joined g ≡ right ++ b

  pub sides : byte_len a ≤ byte_len (joined f) → byte_len (joined f) + byte_len l ≤ byte_len a + byte_len m → Sides
  sides low high =
      let p = between a (m ++ b) (joined f) (l ++ joined g) (sym parts) low in
      let q = between (p.middle ++ l) (joined g) m b (append_assoc p.middle l (joined g) ∙ sym p.behind)
      (omega (arith, size_append p.middle l, size_append a p.middle, ap byte_len p.front, low, high)) in
      record { left = p.middle; right = q.middle; front = p.front; piece = q.front; behind = q.behind }

  cut_before : (s : Sides) → IsCut (a ++ s.left) (l ++ joined g)
  cut_before s = subst (λ t. IsCut t (l ++ joined g)) s.front (cut_of f l g full)

  cut_after : (c : ℕ) (t : List ℕ) → joined g ≡ c ∷ t → IsCut l (joined g)
  cut_after c t e = by_lines g full e
    where
      by_lines : (g : List (List ℕ)) → AreFullLines (f ++ l ∷ g) → joined g ≡ c ∷ t → IsCut l (joined g)
      by_lines [] full e = absurd (let no : ⊥ = cc in no)
      by_lines (n ∷ g) full e = cut_first l n g (from_line f l (n ∷ g) full)

  -- both borders stay
  from_sides : Sides → (byte_len a < byte_len (joined f)) ⊎ ((a ≡ []) × (a' ≡ []))
      → (byte_len (joined f) + byte_len l < byte_len a + byte_len m)
      ⊎ (((b ≡ []) × (b' ≡ [])) ⊎ ((byte_len (joined f) + byte_len l ≤ byte_len a + byte_len m) × IsClosed l))
      → (at : ℕ) → at + byte_len a ≡ byte_len a' + byte_len (joined f)
      → HasLine (lines_of (a' ++ (m ++ b'))) l at
  from_sides s before after at e =
      let x = a' ++ s.left in
      let y = s.right ++ b' in
      let ahead : IsCut x (l ++ y) = elim before [
        | inl h ↦ cut_behind a' s.left (l ++ y) (some_of_size s.left (omega (arith, size_append a s.left, ap byte_len s.front, h)))
            (cut_ahead a s.left (l ++ y) (some_of_size s.left (omega (arith, size_append a s.left, ap byte_len s.front, h)))
            (cut_here (a ++ s.left) l (joined g) (cut_before s) line_some y))
        | inr h ↦ subst (λ a'. IsCut (a' ++ s.left) (l ++ y)) (h.0 ∙ sym h.1) (cut_here (a ++ s.left) l (joined g) (cut_before s) line_some y)
      ] in
      let end : IsCut l y ⊎ (y ≡ []) = elim after [
        | inl h ↦
            ending s.right s.behind
            (inl (omega (arith, size_append (s.left ++ l) s.right, size_append s.left l, ap byte_len s.piece, size_append a s.left, ap byte_len s.front, h)))
        | inr h ↦ elim h [ inl k ↦ ending s.right s.behind (inr k) | inr k ↦ inl (closed_cut l y k.1) ]
      ] in
      let found = cut_out x l y line_some (inside_first l g (from_line f l g full)) ahead end in
      let text : x ++ (l ++ y) ≡ a' ++ (m ++ b') =
      append_assoc a' s.left (l ++ y) ∙ ap (λ t. a' ++ t) (sym (append_assoc s.left l y) ∙ sym (append_assoc (s.left ++ l) s.right b') ∙ ap (λ m. m ++ b') (sym s.piece)) in
      let place : byte_len x ≡ at = omega (arith, size_append a' s.left, size_append a s.left, ap byte_len s.front, e) in
      subst (λ at. HasLine (lines_of (a' ++ (m ++ b'))) l at) place (subst (λ t. HasLine (lines_of t) l (byte_len x)) text found)
    where
      ending : (r : List ℕ) → joined g ≡ r ++ b → (0 < byte_len r) ⊎ ((b ≡ []) × (b' ≡ [])) → IsCut l (r ++ b') ⊎ (r ++ b' ≡ [])
      ending [] e (inl h) = absurd (let none : byte_len [] ≡ 0 = refl in omega arith)
      ending [] e (inr h) = inr h.1
      ending (c ∷ r) e h = inl (cut_next l c (r ++ b) (r ++ b') (subst (IsCut l) e (cut_after c (r ++ b) e)))

  -- so the line stands in the other text
  pub line_stays : (byte_len a < byte_len (joined f)) ⊎ ((a ≡ []) × (a' ≡ []))
      → (byte_len (joined f) + byte_len l < byte_len a + byte_len m)
      ⊎ (((b ≡ []) × (b' ≡ [])) ⊎ ((byte_len (joined f) + byte_len l ≤ byte_len a + byte_len m) × IsClosed l))
      → (at : ℕ) → at + byte_len a ≡ byte_len a' + byte_len (joined f)
      → HasLine (lines_of (a' ++ (m ++ b'))) l at
  line_stays before after at e =
      let none : byte_len [] ≡ 0 = refl in
      let low : byte_len a ≤ byte_len (joined f) = elim before [ inl h ↦ omega arith | inr h ↦ omega (arith, ap byte_len h.0, none) ] in
      let high : byte_len (joined f) + byte_len l ≤ byte_len a + byte_len m = elim after [
        | inl h ↦ omega arith
        | inr h ↦ elim h [ inl k ↦ omega (arith, ap byte_len k.0, none, sizes) | inr k ↦ k.0 ]
      ] in
      from_sides (sides low high) before after at e

-- each full line has some bytes
pub some_full_line : (ls : List (List ℕ)) (n : ℕ) → AreFullLines ls → n < length ls → 0 < byte_len (get_or ls n [])
some_full_line [] n a lt = absurd (omega arith)
some_full_line (l ∷ ls) zero a lt = size_of_some l (some_first l ls a)
  where
    size_of_some : (l : List ℕ) → IsSome l → 0 < byte_len l
    size_of_some [] s = absurd s
    size_of_some (c ∷ l) s = size_some c l
some_full_line (l ∷ []) (suc n) a lt = absurd (omega arith)
some_full_line (l ∷ m ∷ ls) (suc n) a lt = some_full_line (m ∷ ls) n a.3 (omega arith)
