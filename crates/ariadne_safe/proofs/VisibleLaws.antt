-- Laws of what is shown of a text: characters stay one for one, what is seen stays, and twice is once.
use Rattle.std.proofs.Common.{◌≡◌, ◌≢◌, ℕ, suc, ◌+◌, ◌-◌, ◌/◌, ◌%◌, ◌<◌, ◌≤◌, Bool, true, false, not, ◌&&◌, ◌||◌, cond, List, [], ◌∷◌, length}
use Rattle.std.proofs.Common.{refl, sym, ap, ◌∙◌, subst, arith, ◌==◌, nat_lt, inl, inr, ◌⊎◌}
use Rattle.std.specs.Prelude.{encode_utf8, encode_utf8_all}
use Rattle.std.specs.List.{AllByRecursion, list_all}
use Rattle.std.specs.Str.{chars, IsUtf8, NonePass}
use Rattle.std.proofs.lemmas.Bool.{cond_both, cond-true, and_parts, eqb-true, ne_eqb, ltb-true, lt-ltb, true≢false, false_from_ne_true}
use Rattle.std.proofs.lemmas.Str.{chars_from_encodes}
use Rattle.ariadne_base.specs.Lines.{begins_with_line_feed}
use Rattle.ariadne_picture.proofs.Lists.ListFacts.{all-append}
use Rattle.ariadne_safe.specs.declared.text.TextKind.{TextKind}
use Rattle.ariadne_safe.specs.declared.text.TextKind.TheVariants.{OneRow, Aside, Lines, CompilerLines}
use Rattle.ariadne_safe.specs.Visible.{is_hidden, symbol_of, stays, stays_anywhere, shown_code, visible_text}
use Rattle.ariadne_safe.specs.Pictures.{is_hidden_in_row, HidesNothing, HasNoControl}
use Rattle.ariadne_safe.proofs.Signs.{or_weaker, sign_is_seen}

-- one sign for each character
pub length_visible : (kind : TextKind) (t : List ℕ) → length (visible_text kind t) ≡ length t
unfolding visible_text
length_visible kind [] = refl
length_visible kind (c ∷ t) = ap suc (length_visible kind t)

-- so bytes that are those of the signs are as many characters
pub bytes_count : (kind : TextKind) (t bytes : List ℕ) → IsUtf8 bytes → bytes ≡ encode_utf8_all (visible_text kind t)
    → length (chars bytes) ≡ length t
bytes_count kind t bytes u e = ap length (sym (chars_from_encodes (visible_text kind t) bytes u (sym e))) ∙ length_visible kind t

-- what stays before any character stays before a line feed too
pub stays_before : (kind : TextKind) (c : ℕ) (b : Bool) → stays kind c false ≡ true → stays kind c b ≡ true
stays_before OneRow c b h = h
stays_before Aside c b h = h
stays_before Lines c b h = h
stays_before CompilerLines c b h =
    or_weaker ((c == 9) || (c == 10)) ((c == 13) && false) ((c == 13) && b)
    (λ e. absurd (true≢false (sym ((and_parts (c == 13) false e).1)))) h

-- what is not hidden is its own, and so is what stays wherever it stands
pub seen_stays : (kind : TextKind) (t : List ℕ) → list_all (stays_anywhere kind) t ≡ true → visible_text kind t ≡ t
unfolding visible_text
seen_stays kind [] h = refl
seen_stays kind (c ∷ t) h =
    let p = and_parts (stays_anywhere kind c) (list_all (stays_anywhere kind) t) h in
    let b = begins_with_line_feed t in
    let own : shown_code kind c b ≡ c =
    cond-true (not (is_hidden c) || stays kind c b) c (symbol_of c)
    (or_weaker (not (is_hidden c)) (stays kind c false) (stays kind c b) (stays_before kind c b) p.0) in
    ap (λ d. d ∷ visible_text kind t) own ∙ ap (λ u. c ∷ u) (seen_stays kind t p.1)

-- ---- twice

feed_is_hidden : is_hidden 10 ≡ true
unfolding is_hidden
feed_is_hidden = refl

-- no sign is a line feed
sign_is_no_feed : (c : ℕ) → (symbol_of c == 10) ≡ false
sign_is_no_feed c =
    ne_eqb (symbol_of c) 10 (λ e. true≢false (sym feed_is_hidden ∙ ap is_hidden (sym e) ∙ sign_is_seen c))

-- where compilers count lines, the line feeds of a text are those of what is shown
feed_stays : (t : List ℕ) → begins_with_line_feed (visible_text CompilerLines t) ≡ begins_with_line_feed t
unfolding visible_text begins_with_line_feed
feed_stays [] = refl
feed_stays (c ∷ t) =
    let b = begins_with_line_feed t in
    let test = not (is_hidden c) || stays CompilerLines c b in
    cond_both test c (symbol_of c) (λ d. (d == 10) ≡ (c == 10)) (λ _. refl)
    (λ f. sign_is_no_feed c ∙ sym (false_from_ne_true (c == 10) (λ t. true≢false (sym (kept t) ∙ f))))
  where
    ten : (x : Bool) → (x || true) ≡ true
    ten true = refl
    ten false = refl

    kept : (c == 10) ≡ true → (not (is_hidden c) || stays CompilerLines c (begins_with_line_feed t)) ≡ true
    kept e = subst (λ d. (not (is_hidden d) || stays CompilerLines d (begins_with_line_feed t)) ≡ true) (sym (eqb-true c 10 e)) (ten (not (is_hidden 10)))

-- so the same characters stay
same_stays : (kind : TextKind) (c : ℕ) (t : List ℕ)
    → stays kind c (begins_with_line_feed (visible_text kind t)) ≡ stays kind c (begins_with_line_feed t)
same_stays OneRow c t = refl
same_stays Aside c t = refl
same_stays Lines c t = refl
same_stays CompilerLines c t = ap (stays CompilerLines c) (feed_stays t)

pub twice_is_once : (kind : TextKind) (t : List ℕ) → visible_text kind (visible_text kind t) ≡ visible_text kind t
unfolding visible_text
twice_is_once kind [] = refl
twice_is_once kind (c ∷ t) =
    let b = begins_with_line_feed t in
    let after = begins_with_line_feed (visible_text kind t) in
    let again : shown_code kind (shown_code kind c b) after ≡ shown_code kind c b =
    cond_both (not (is_hidden c) || stays kind c b) c (symbol_of c) (λ d. shown_code kind d after ≡ d)
    (λ h. cond-true (not (is_hidden c) || stays kind c after) c (symbol_of c) (ap (λ s. not (is_hidden c) || s) (same_stays kind c t) ∙ h))
    (λ _. cond-true (not (is_hidden (symbol_of c)) || stays kind (symbol_of c) after) (symbol_of c) (symbol_of (symbol_of c))
    (ap (λ h. not h || stays kind (symbol_of c) after) (sign_is_seen c))) in
    ap (λ d. d ∷ visible_text kind (visible_text kind t)) again ∙ ap (λ u. shown_code kind c b ∷ u) (twice_is_once kind t)

-- ---- symbols

-- what a symbol stands for
of_symbol : ℕ → ℕ
of_symbol s = cond (s == 0x2421) 0x7F (cond (s == 0x2424) 0x85 (s - 0x2400))

symbol_back : (c : ℕ) → symbol_of c ≢ 0xFFFD → of_symbol (symbol_of c) ≡ c
unfolding of_symbol
symbol_back c =
    let Back : ℕ → Type 0 = λ s. s ≢ 0xFFFD → of_symbol s ≡ c in
    let del : ℕ = cond (c == 0x7F) 0x2421 (cond (c == 0x85) 0x2424 0xFFFD) in
    cond_both (nat_lt c 32) (0x2400 + c) del Back
    (λ t n. let less = ltb-true c 32 t in
    let first : (0x2400 + c == 0x2421) ≡ false = ne_eqb (0x2400 + c) 0x2421 (λ e. omega (arith, e, less)) in
    let second : (0x2400 + c == 0x2424) ≡ false = ne_eqb (0x2400 + c) 0x2424 (λ e. omega (arith, e, less)) in
    let same : 0x2400 + c - 0x2400 ≡ c = omega arith in
    rw (first, second) same)
    (λ _. cond_both (c == 0x7F) 0x2421 (cond (c == 0x85) 0x2424 0xFFFD) Back (λ t n. sym (eqb-true c 0x7F t))
    (λ _. cond_both (c == 0x85) 0x2424 0xFFFD Back (λ t n. sym (eqb-true c 0x85 t)) (λ _ n. absurd (n refl))))

pub symbols_tell : (c d : ℕ) → symbol_of c ≡ symbol_of d → symbol_of c ≢ 0xFFFD → c ≡ d
symbols_tell c d e n =
    sym (symbol_back c n) ∙ ap of_symbol e ∙ symbol_back d (λ x. n (e ∙ x))

-- ---- bytes

-- a byte that is no control but a line feed
abbrev IsFree : ℕ → Type 0
IsFree b = (b < 32 ⊎ b ≡ 127) → b ≡ 10

-- controls of ASCII are hidden
control_is_hidden : (c : ℕ) → (c < 32 ⊎ c ≡ 127) → is_hidden c ≡ true
unfolding is_hidden
control_is_hidden c (inl less) = rw (lt-ltb c 32 less) refl
control_is_hidden c (inr del) = subst (λ d. is_hidden d ≡ true) (sym del) refl

-- a character that is not hidden in a row, or its bytes
free_char : (c : ℕ) → is_hidden_in_row c ≡ false → IsFree c
free_char c h u =
    eqb-true c 10 (not_false (c == 10) (sym (ap (λ x. x && not (c == 10)) (control_is_hidden c u)) ∙ h))
  where
    not_false : (b : Bool) → not b ≡ false → b ≡ true
    not_false true e = refl
    not_false false e = absurd (true≢false e)

free_encode : (c : ℕ) → is_hidden_in_row c ≡ false → AllByRecursion IsFree (encode_utf8 c)
unfolding lib.Utf8.encode
free_encode c h =
    let high : (n : ℕ) → 128 ≤ n → IsFree n =
    λ n least u. elim u [ inl less ↦ absurd (omega (arith, least, less)) | inr del ↦ absurd (omega (arith, least, del)) ] in
    let next = λ (n : ℕ). 128 + n % 64 in
    let past : (n : ℕ) → IsFree (next n) = λ n. high (next n) (omega arith) in
    let two = (192 + c / 64) ∷ next c ∷ [] in
    let three = (224 + c / 4096) ∷ next (c / 64) ∷ next c ∷ [] in
    let four = (240 + c / 262144) ∷ next (c / 4096) ∷ next (c / 64) ∷ next c ∷ [] in
    let long = cond (nat_lt c 65536) three four in
    cond_both (nat_lt c 128) (c ∷ []) (cond (nat_lt c 2048) two long) (AllByRecursion IsFree) (λ _. (free_char c h, tt))
    (λ _. cond_both (nat_lt c 2048) two long (AllByRecursion IsFree) (λ _. (high (192 + c / 64) (omega arith), (past c, tt)))
    (λ _. cond_both (nat_lt c 65536) three four (AllByRecursion IsFree) (λ _. (high (224 + c / 4096) (omega arith), (past (c / 64), (past c, tt))))
    (λ _. (high (240 + c / 262144) (omega arith), (past (c / 4096), (past (c / 64), (past c, tt)))))))

free_bytes : (cs : List ℕ) → NonePass is_hidden_in_row cs → AllByRecursion IsFree (encode_utf8_all cs)
free_bytes [] n = tt
free_bytes (c ∷ cs) n = all-append IsFree (encode_utf8 c) (encode_utf8_all cs) (free_encode c n.0) (free_bytes cs n.1)

pub no_control : (picture : List ℕ) → HidesNothing picture → HasNoControl picture
no_control picture h = subst (AllByRecursion IsFree) h.1 (free_bytes h.0 h.2)
