-- What is found of a line: its shown text, whether each character of it is printable ASCII, and where the last of its labels ends.
use Rattle.std.proofs.Common.{◌==◌, ◌≡◌, ℕ, ◌+◌, ◌-◌, ◌<◌, ◌≤◌, max, zero, suc, Bool, true, ◌&&◌, nat_le, eqb, List, [], ◌∷◌, ◌++◌, length, map, fold, take, get_or}
use Rattle.std.proofs.Common.{encode_utf8, encode_utf8_all, refl, sym, ap, ap₂, ◌∙◌, subst, arith, drop, cond}
use Rattle.std.proofs.Common.{◌≢◌, ◌%◌, ◌^◌, false, not, replicate, Option, None, Some, MatchOption, Bor, inl, inr, lit≤, w8}
use lib.Lanes.{zip2, top}
use Rattle.std.specs.Char.{is_whitespace}
use Rattle.std.specs.Option.{unwrap_or}
use Rattle.std.specs.Simd.Lanes.{mask_l}
use Rattle.std.proofs.lemmas.Simd.{bitmask_splat, get_or-chunk, length-chunk, none_from_empty_mask}
use Rattle.std.proofs.lemmas.Bool.Decides.{nat_tests}
use Rattle.std.specs.List.{AllByRecursion}
use Rattle.std.specs.Str.{chars, all_scalars, drop_trailing_whitespace, trim_end, IsAscii, IsCharBoundary, IsUtf8}
use Rattle.std.proofs.lemmas.Bool.{cases_lt, cond_both, and_parts, and_from, le-leb, leb-true, ne_eqb, true≢false}
use Rattle.std.proofs.lemmas.List.{take_more, map-append, length-append, get_or-drop, length-drop, take-append-drop, take-append-le, take_all}
use Rattle.std.proofs.lemmas.List.Recursion.{max_push}
use Rattle.std.proofs.lemmas.Str.{chars-append, encodes-append, IsCharBoundary-from_take, IsUtf8-take, chars-encodes, chars-IsAscii, encodes-chars, scalars-chars, length-encode, encode_ascii, length-le-encodes, len_utf8_bounds}
use Rattle.std.proofs.lemmas.List.FromFn.{length-map-range_with_len}
use Rattle.ariadne_base.specs.Locations.{upto}
use Rattle.ariadne_picture.specs.declared.sight.Part.{Part}
use Rattle.ariadne_picture.specs.declared.sight.Sight.{Sight}
use Rattle.ariadne_picture.specs.declared.label_info.LineLabel.{LineLabel}
use Rattle.ariadne_picture.specs.Columns.{Layout, places_to_end, sight_in}
use Rattle.ariadne_picture.specs.Groups.{greatest}
use Rattle.ariadne_layout.specs.Cuts.{sights_in}
use Rattle.ariadne_layout.specs.Ends.{shown_bytes}

-- ---- printable ASCII

-- a test of each byte, one after another, passes only where each is in range
fold-printable : (all : Bool) (bs : List ℕ) → fold (λ a b. a && (nat_le 32 b && nat_le b 126)) all bs ≡ true
    → (all ≡ true) × AllByRecursion (λ c. (32 ≤ c) × (c ≤ 126)) bs
fold-printable all [] e = (e, tt)
fold-printable all (b ∷ bs) e =
    let rest = fold-printable (all && (nat_le 32 b && nat_le b 126)) bs e in
    let both = and_parts all (nat_le 32 b && nat_le b 126) rest.0 in
    let ends = and_parts (nat_le 32 b) (nat_le b 126) both.1 in
    (both.0, ((leb-true 32 b ends.0, leb-true b 126 ends.1), rest.1))

-- bytes in that range are ASCII
ascii-printable : (bs : List ℕ) → AllByRecursion (λ c. (32 ≤ c) × (c ≤ 126)) bs → IsAscii bs
ascii-printable [] a i = omega arith
ascii-printable (b ∷ bs) a zero = let high = a.0.1 in omega (arith, high)
ascii-printable (b ∷ bs) a (suc i) = ascii-printable bs a.1 i

-- so they are the characters
pub printable-chars : (bs : List ℕ) → fold (λ a b. a && (nat_le 32 b && nat_le b 126)) true bs ≡ true
    → AllByRecursion (λ c. (32 ≤ c) × (c ≤ 126)) (chars bs)
printable-chars bs e =
    let each = (fold-printable true bs e).1 in
    subst (AllByRecursion (λ c. (32 ≤ c) × (c ≤ 126))) (sym (chars-IsAscii bs (ascii-printable bs each))) each

-- where each byte is in that range the test passes
fold-passes : (bs : List ℕ) → AllByRecursion (λ c. (32 ≤ c) × (c ≤ 126)) bs → fold (λ a b. a && (nat_le 32 b && nat_le b 126)) true bs ≡ true
fold-passes [] each = refl
fold-passes (b ∷ bs) each =
    let here : (nat_le 32 b && nat_le b 126) ≡ true = and_from (nat_le 32 b) (nat_le b 126) (le-leb 32 b each.0.0) (le-leb b 126 each.0.1) in
    ap (λ a. fold (λ a b. a && (nat_le 32 b && nat_le b 126)) a bs) here ∙ fold-passes bs each.1

-- characters in that range are their bytes
printable-bytes : (cs : List ℕ) → AllByRecursion (λ c. (32 ≤ c) × (c ≤ 126)) cs → encode_utf8_all cs ≡ cs
printable-bytes [] each = refl
printable-bytes (c ∷ cs) each =
    let high = each.0.1 in
    (λ i. encode_ascii c (omega (arith, high)) i ++ printable-bytes cs each.1 i)

-- so where each character is, the test passes
pub chars-printable : (bs : List ℕ) → IsUtf8 bs → AllByRecursion (λ c. (32 ≤ c) × (c ≤ 126)) (chars bs)
    → fold (λ a b. a && (nat_le 32 b && nat_le b 126)) true bs ≡ true
chars-printable bs u each =
    ap (fold (λ a b. a && (nat_le 32 b && nat_le b 126)) true) (sym (encodes-chars bs u) ∙ printable-bytes (chars bs) each)
    ∙ fold-passes (chars bs) each

-- ---- the shown text

-- characters stay characters without the white space at the end
scalars-shown : (cs : List ℕ) → all_scalars cs ≡ true → all_scalars (drop_trailing_whitespace cs) ≡ true
scalars-shown [] e = refl
scalars-shown (c ∷ cs) e =
    let parts = and_parts _ (all_scalars cs) e in
    let shown = drop_trailing_whitespace cs in
    cond_both (is_whitespace c && eqb (length shown) 0) [] (c ∷ shown) (λ t. all_scalars t ≡ true) (λ _. refl)
    (λ _. and_from _ (all_scalars shown) parts.0 (scalars-shown cs parts.1))

-- white space at the end is dropped with what stands before it
pub shown-append : (cs ws : List ℕ) → drop_trailing_whitespace ws ≡ [] → drop_trailing_whitespace (cs ++ ws) ≡ drop_trailing_whitespace cs
shown-append [] ws e = e
shown-append (c ∷ cs) ws e = ap (λ t. cond (is_whitespace c && eqb (length t) 0) [] (c ∷ t)) (shown-append cs ws e)

-- blanks are ASCII
ascii_blanks : (ws : List ℕ) → ((k : ℕ) → k < length ws → get_or ws k 0 ≡ 32) → IsAscii ws
ascii_blanks [] h i = omega arith
ascii_blanks (w ∷ ws) h zero = let e : w ≡ 32 = h 0 (omega arith) in omega arith
ascii_blanks (w ∷ ws) h (suc i) = ascii_blanks ws (λ k l. h (suc k) (omega arith)) i

-- and nothing of them is shown
shown_blanks : (ws : List ℕ) → ((k : ℕ) → k < length ws → get_or ws k 0 ≡ 32) → drop_trailing_whitespace ws ≡ []
shown_blanks [] h = refl
shown_blanks (w ∷ ws) h =
    ap₂ (λ c t. cond (is_whitespace c && eqb (length t) 0) [] (c ∷ t)) (h 0 (omega arith)) (shown_blanks ws (λ k l. h (suc k) (omega arith)))

-- one block of blanks before others
pub blanks_before : (bs : List ℕ) (at n : ℕ) → n ≡ 64 → 64 ≤ at → at ≤ length bs → ((k : ℕ) → k < 64 → get_or (take n (drop (at - 64) bs)) k 0 ≡ 32)
    → ((k : ℕ) → at ≤ k → k < length bs → get_or bs k 0 ≡ 32) → (k : ℕ) → at - 64 ≤ k → k < length bs → get_or bs k 0 ≡ 32
blanks_before bs at n e room within block behind k low high = elim (cases_lt k at) [
  | inl before ↦
      let j : ℕ = k - (at - 64) in
      let here : k ≡ at - 64 + j = omega arith in
      let there : get_or (take n (drop (at - 64) bs)) j 0 ≡ get_or bs (at - 64 + j) 0 = get_or-chunk (at - 64) n bs j 0 (omega arith) in
      ap (λ i. get_or bs i 0) here ∙ sym there ∙ block j (omega arith)
  | inr after ↦ behind k after high
]

-- a text can be cut where only blanks follow
pub blanks_cut : (bs : List ℕ) (n : ℕ) → n ≤ length bs → ((k : ℕ) → n ≤ k → k < length bs → get_or bs k 0 ≡ 32) → IsCharBoundary bs n
blanks_cut bs n le h = (le, λ l high. let e : get_or bs n 0 ≡ 32 = h n (omega arith) l in absurd (omega arith))

-- and what is shown of it stays
pub blanks_behind : (bs : List ℕ) (n : ℕ) → IsUtf8 bs → n ≤ length bs → ((k : ℕ) → n ≤ k → k < length bs → get_or bs k 0 ≡ 32)
    → drop_trailing_whitespace (chars (take n bs)) ≡ drop_trailing_whitespace (chars bs)
blanks_behind bs n u le h =
    let ws : List ℕ = drop n bs in
    let long : length ws ≡ length bs - n = length-drop n bs in
    let each : (k : ℕ) → k < length ws → get_or ws k 0 ≡ 32 = λ k l. get_or-drop n bs k 0 ∙ h (n + k) (omega arith) (omega arith) in
    let plain : chars ws ≡ ws = chars-IsAscii ws (ascii_blanks ws each) in
    let parts : chars bs ≡ chars (take n bs) ++ ws =
    ap chars (sym (take-append-drop n bs)) ∙ chars-append (take n bs) ws (IsUtf8-take bs n u (blanks_cut bs n le h))
    ∙ ap (λ t. chars (take n bs) ++ t) plain in
    sym (ap drop_trailing_whitespace parts ∙ shown-append (chars (take n bs)) ws (shown_blanks ws each))

-- a text of one ASCII character
one_ascii : (c : ℕ) → c < 128 → IsAscii (c ∷ [])
one_ascii c small zero = small
one_ascii c small (suc i) = omega arith

-- what is shown of a text stays without an ASCII character of white space at its end
pub end_dropped : (bs front : List ℕ) (c : ℕ) → IsUtf8 front → bs ≡ front ++ (c ∷ []) → c < 128 → is_whitespace c ≡ true
    → drop_trailing_whitespace (chars front) ≡ drop_trailing_whitespace (chars bs)
end_dropped bs front c u e small white =
    let one : chars (c ∷ []) ≡ c ∷ [] = chars-IsAscii (c ∷ []) (one_ascii c small) in
    let parts : chars bs ≡ chars front ++ (c ∷ []) = ap chars e ∙ chars-append front (c ∷ []) u ∙ ap (λ t. chars front ++ t) one in
    let none : drop_trailing_whitespace (c ∷ []) ≡ [] = ap (λ t. cond (t && true) [] (c ∷ [])) white in
    sym (ap drop_trailing_whitespace parts ∙ shown-append (chars front) (c ∷ []) none)

-- the same, where that character is cut if it is there
pub end_cut : (bs : List ℕ) (r : Option (Bor (List ℕ))) (d x : Bor (List ℕ)) (c : ℕ) → IsUtf8 x.now → x ≡ unwrap_or r d → d.now ≡ bs
    → MatchOption r ((front : List ℕ) → bs ≢ front ++ (c ∷ [])) (λ y. bs ≡ y.now ++ (c ∷ [])) → c < 128 → is_whitespace c ≡ true
    → drop_trailing_whitespace (chars x.now) ≡ drop_trailing_whitespace (chars bs)
end_cut bs None d x c u e same m small white = ap (λ y. drop_trailing_whitespace (chars y.now)) e ∙ ap (λ t. drop_trailing_whitespace (chars t)) same
end_cut bs (Some y) d x c u e same m small white = end_dropped bs x.now c u (m ∙ ap (λ z. z.now ++ (c ∷ [])) (sym e)) small white

-- a byte that does not differ from a blank
blank-not_other : (x : ℕ) → not (eqb x 32) ≡ false → x ≡ 32
blank-not_other x e = grind (arith, nat_tests)

-- where a block has no mark of a byte that is no blank, each is one
pub blanks_from_mask : (bs : List ℕ) → length bs ≡ 64 → mask_l (map (λ x. not (eqb x 32)) (take 64 bs)) ≡ 0 → (k : ℕ) → k < 64 → get_or bs k 0 ≡ 32
blanks_from_mask bs long none k l =
    blank-not_other (get_or bs k 0)
    (none_from_empty_mask (λ x. not (eqb x 32)) bs 0 64 0 (omega arith) none k (omega arith) (omega arith))

-- the mask of the bytes that are no blanks, as it is found
pub other_mask : (bs : List ℕ) → length bs ≡ 64
    → mask_l (map (top 7) (zip2 (λ a b. cond (not (eqb a b)) 255 0) (take 64 bs) (replicate 64 32))) % 2 ^ 64 ≡ mask_l (map (λ x. not (eqb x 32)) (take 64 bs))
other_mask bs long = bitmask_splat w8 (λ a b. not (eqb a b)) (take 64 bs) 64 32 (length-chunk 0 64 bs (omega arith)) (lit≤ tt)

-- so those of the trimmed text are those that are shown
pub chars-trim_end : (bs : List ℕ) → IsUtf8 bs → chars (trim_end bs) ≡ drop_trailing_whitespace (chars bs)
unfolding trim_end
chars-trim_end bs u = chars-encodes (drop_trailing_whitespace (chars bs)) (scalars-shown (chars bs) (scalars-chars bs u))

-- texts of which the same is shown are trimmed to the same
pub trim_same_end : (xs ys : List ℕ) → drop_trailing_whitespace (chars xs) ≡ drop_trailing_whitespace (chars ys) → trim_end xs ≡ trim_end ys
unfolding trim_end
trim_same_end xs ys e = ap encode_utf8_all e

-- the shown characters are the first of a line
shown_first : (cs : List ℕ) → (ws : List ℕ) × (cs ≡ drop_trailing_whitespace cs ++ ws)
shown_first [] = ([], refl)
shown_first (c ∷ cs) =
    let rest = shown_first cs in
    let shown = drop_trailing_whitespace cs in
    cond_both (is_whitespace c && eqb (length shown) 0) [] (c ∷ shown) (λ t. (ws : List ℕ) × (c ∷ cs ≡ t ++ ws)) (λ _. (c ∷ cs, refl))
    (λ _. (rest.0, ap (λ t. c ∷ t) rest.1))

-- so are the bytes of the trimmed text
trim_first : (bs : List ℕ) → IsUtf8 bs → (ws : List ℕ) × (bs ≡ trim_end bs ++ ws)
unfolding trim_end
trim_first bs u =
    let rest = shown_first (chars bs) in (
      encode_utf8_all rest.0,
      sym (encodes-chars bs u) ∙ ap encode_utf8_all rest.1 ∙ encodes-append (drop_trailing_whitespace (chars bs)) rest.0,
    )

-- they are as many as are shown
trim_size : (bs : List ℕ) → length (trim_end bs) ≡ shown_bytes (chars bs)
unfolding trim_end
trim_size bs = refl

-- so a text that is cut behind so many bytes is the trimmed one
pub trim_cut : (bs : List ℕ) (n : ℕ) → IsUtf8 bs → n ≡ shown_bytes (chars bs) → take n bs ≡ trim_end bs
trim_cut bs n u e =
    let parts = trim_first bs u in
    let size : length (trim_end bs) ≡ n = trim_size bs ∙ sym e in
    ap (take n) parts.1 ∙ take-append-le n (trim_end bs) parts.0 (omega arith) ∙ take_all n (trim_end bs) (omega arith)

-- the trimmed text is UTF-8
utf8-trim_end : (bs : List ℕ) → IsUtf8 bs → IsUtf8 (trim_end bs)
unfolding trim_end
utf8-trim_end bs u = (drop_trailing_whitespace (chars bs), (scalars-shown (chars bs) (scalars-chars bs u), refl))

-- it can be cut there
pub shown_boundary : (bs : List ℕ) (n : ℕ) → IsUtf8 bs → n ≡ shown_bytes (chars bs) → IsCharBoundary bs n
shown_boundary bs n u e =
    let parts = trim_first bs u in
    let size : length (trim_end bs) ≡ n = trim_size bs ∙ sym e in
    let long = length-append (trim_end bs) parts.0 in
    let whole = ap length parts.1 in
    IsCharBoundary-from_take bs n u (omega (arith, size, long, whole)) (subst IsUtf8 (sym (trim_cut bs n u e)) (utf8-trim_end bs u))

-- where a text has as many bytes as characters, so has what is shown of it
length-shown : (cs : List ℕ) → length (encode_utf8_all cs) ≡ length cs
    → length (encode_utf8_all (drop_trailing_whitespace cs)) ≡ length (drop_trailing_whitespace cs)
length-shown [] e = e
length-shown (c ∷ cs) e =
    let shown = drop_trailing_whitespace cs in
    let joined = length-append (encode_utf8 c) (encode_utf8_all cs) in
    let least = length-le-encodes cs in
    let first = length-encode c in
    let some = (len_utf8_bounds c).0 in
    let one : length (encode_utf8 c) ≡ 1 = omega (arith, e, joined, least, first, some) in
    let rest : length (encode_utf8_all cs) ≡ length cs = omega (arith, e, joined, one) in
    let tail = length-shown cs rest in
    let front = length-append (encode_utf8 c) (encode_utf8_all shown) in
    cond_both (is_whitespace c && eqb (length shown) 0) [] (c ∷ shown) (λ t. length (encode_utf8_all t) ≡ length t) (λ _. refl)
    (λ _. omega (arith, front, one, tail))

-- the same of the texts
pub length-trim_end : (bs : List ℕ) → IsUtf8 bs → length bs ≡ length (chars bs) → length (trim_end bs) ≡ length (chars (trim_end bs))
unfolding trim_end
length-trim_end bs u e =
    length-shown (chars bs) (ap length (encodes-chars bs u) ∙ e) ∙ sym (ap length (chars-trim_end bs u))

-- ---- where labels end

-- the greatest of some numbers and one more
greatest_push : (ns : List ℕ) (n : ℕ) → greatest (ns ++ n ∷ []) ≡ max (greatest ns) n
unfolding greatest
greatest_push = max_push greatest (λ n. n) refl (λ n ns. refl)

-- the greatest end of the first labels of a line and of one more
pub greatest_end_more : (y : Layout) (xs : List LineLabel) (i : ℕ) (d : LineLabel) (g r o : ℕ) → i < length xs → o ≡ y.offset
    → g ≡ greatest (map (places_to_end y) (take i xs)) → r ≡ (get_or xs i d).info.end - o
    → max g r ≡ greatest (map (places_to_end y) (take (i + 1) xs))
unfolding places_to_end
greatest_end_more y xs i d g r o h start sofar one =
    let x = get_or xs i d in
    let ends = places_to_end y in
    (λ j. max (sofar j) ((one ∙ ap (λ t. x.info.end - t) start) j))
    ∙ sym (ap (λ t. greatest (map ends t)) (take_more xs i d h) ∙ ap greatest (map-append ends (take i xs) (x ∷ []))
    ∙ greatest_push (map ends (take i xs)) (ends x))

-- ---- what is seen

-- a line without parts is shown whole
pub whole-is : (parts : List Part) (n : ℕ) (sights : List Sight) → sights_in parts n ≡ sights → (length parts == 0) ≡ true → sights ≡ []
unfolding sights_in
whole-is [] n sights seen none = sym seen
whole-is (p ∷ parts) n sights seen none = absurd (true≢false (sym none ∙ ne_eqb (suc (length parts)) 0 (λ e. omega (arith, e))))

-- so is one of which nothing is shown
pub empty-is : (parts : List Part) (n m : ℕ) (sights : List Sight) → sights_in parts n ≡ sights → m ≡ n → m ≤ 0 → sights ≡ []
unfolding sights_in
empty-is [] n m sights seen same none = sym seen
empty-is (p ∷ parts) zero m sights seen same none = sym seen
empty-is (p ∷ parts) (suc n) m sights seen same none = absurd (omega (arith, same, none))

-- another is not
pub cut-is : (parts : List Part) (n m : ℕ) (sights : List Sight) → sights_in parts n ≡ sights → m ≡ n → (length parts == 0) ≡ false → 0 < m
    → sights ≡ [] → ⊥
unfolding sights_in
cut-is [] n m sights seen same some more none = true≢false some
cut-is (p ∷ parts) n m sights seen same some more none =
    let size : length (map (sight_in (p ∷ parts)) (upto n)) ≡ n = length-map-range_with_len (sight_in (p ∷ parts)) 0 n in
    let zero_of = ap length (seen ∙ none) in
    omega (arith, size, zero_of, same, more)
