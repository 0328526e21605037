-- The signs of a text: which characters are not hidden, and what has been pushed so far.
use Rattle.std.proofs.Common.{◌≡◌, ℕ, ◌+◌, ◌<◌, ◌≤◌, Bool, true, false, not, ◌&&◌, ◌||◌, cond, List, [], ◌∷◌, ◌++◌, length}
use Rattle.std.proofs.Common.{refl, sym, ap, ◌∙◌, subst, arith, ◌==◌, nat_lt, append_assoc}
use Rattle.std.specs.Prelude.{encode_utf8, encode_utf8_all}
use Rattle.std.specs.Char.{is_whitespace}
use Rattle.std.specs.List.{list_all}
use Rattle.std.specs.Str.{chars, IsUtf8, is_utf8}
use Rattle.std.proofs.lemmas.Bool.{cond_both, and_from, and_parts, eqb-true, ltb-true, ne_eqb, le-ltb, lt-leb, true≢false}
use Rattle.std.proofs.lemmas.List.{append-nil, nil_from_length}
use Rattle.std.proofs.lemmas.Str.{chars_past_char, IsUtf8-past_char, chars_from_encodes, encodes-append, chars-nil, is_utf8-from_IsUtf8}
use Rattle.ariadne_base.specs.Lines.{begins_with_line_feed}
use Rattle.ariadne_safe.specs.declared.text.TextKind.{TextKind}
use Rattle.ariadne_safe.specs.declared.text.TextKind.TheVariants.{OneRow, Aside, Lines, CompilerLines}
use Rattle.ariadne_safe.specs.Visible.{is_between, is_control, is_direction_mark, is_joiner, is_blank_letter, is_tag, is_notation_control, is_hidden}
use Rattle.ariadne_safe.specs.Visible.{symbol_of, stays, shown_code, visible_text, is_layout, is_seen_in, is_shown}

-- ---- tests

-- neither of two tests
pub neither : {a b : Bool} → a ≡ false → b ≡ false → (a || b) ≡ false
neither {a} {b} e f = ap (λ x. x || b) e ∙ f

-- one of two tests
pub one_of : (a b : Bool) (Q : Type 0) → (a ≡ true → Q) → (b ≡ true → Q) → (a || b) ≡ true → Q
one_of true b Q f g h = f refl
one_of false b Q f g h = g h

-- a test that another one gives
pub or_weaker : (a s m : Bool) → (s ≡ true → m ≡ true) → (a || s) ≡ true → (a || m) ≡ true
or_weaker true s m f h = refl
or_weaker false s m f h = f h

-- what the second of two tests doesn't hold of, the first does
pub not_hidden : (h m : Bool) → m ≡ false → (not h || m) ≡ true → h ≡ false
not_hidden false m e s = refl
not_hidden true m e s = absurd (true≢false (sym s ∙ e))

-- ---- characters that are not hidden

-- below a range
below : (low high c : ℕ) → c < low → is_between low high c ≡ false
below low high c h = ap (λ b. b && Rattle.std.proofs.Common.nat_le c high) (lt-leb low c h)

-- above it
above : (low high c : ℕ) → high < c → is_between low high c ≡ false
above low high c h = and_false (Rattle.std.proofs.Common.nat_le low c) (lt-leb c high h)
  where
    and_false : (a : Bool) {b : Bool} → b ≡ false → (a && b) ≡ false
    and_false true e = e
    and_false false e = refl

-- printable ASCII
pub plain_is_seen : (c : ℕ) → 32 ≤ c → c < 127 → is_hidden c ≡ false
unfolding is_hidden
plain_is_seen c least less =
    let control : is_control c ≡ false = neither (le-ltb c 32 least) (below 0x7F 0x9F c less) in
    let marks : is_direction_mark c ≡ false =
    neither (neither (neither (ne_eqb c 0x61C (λ e. omega (arith, e, less))) (below 0x200E 0x200F c (omega (arith, less))))
    (below 0x202A 0x202E c (omega (arith, less)))) (below 0x2066 0x2069 c (omega (arith, less))) in
    let joiners : is_joiner c ≡ false =
    neither (neither (neither (neither (neither (ne_eqb c 0xAD (λ e. omega (arith, e, less)))
    (ne_eqb c 0x34F (λ e. omega (arith, e, less)))) (below 0x180B 0x180F c (omega (arith, less))))
    (below 0x200B 0x200D c (omega (arith, less)))) (below 0x2028 0x2029 c (omega (arith, less))))
    (below 0x2060 0x2065 c (omega (arith, less))) in
    let blanks : is_blank_letter c ≡ false =
    neither (neither (neither (neither (neither (neither (below 0x115F 0x1160 c (omega (arith, less)))
    (below 0x17B4 0x17B5 c (omega (arith, less)))) (ne_eqb c 0x2800 (λ e. omega (arith, e, less))))
    (ne_eqb c 0x3164 (λ e. omega (arith, e, less)))) (ne_eqb c 0xFFA0 (λ e. omega (arith, e, less))))
    (ne_eqb c 0x16FE4 (λ e. omega (arith, e, less)))) (ne_eqb c 0x1D159 (λ e. omega (arith, e, less))) in
    let tags : is_tag c ≡ false =
    neither (neither (neither (neither (below 0x206A 0x206F c (omega (arith, less)))
    (below 0xFE00 0xFE0D c (omega (arith, less)))) (ne_eqb c 0xFEFF (λ e. omega (arith, e, less))))
    (below 0xFFF0 0xFFFB c (omega (arith, less)))) (below 0xE0000 0xE0FFF c (omega (arith, less))) in
    let controls : is_notation_control c ≡ false =
    neither (neither (below 0x13430 0x1345F c (omega (arith, less))) (below 0x1BCA0 0x1BCA3 c (omega (arith, less))))
    (below 0x1D173 0x1D17A c (omega (arith, less))) in
    neither (neither (neither (neither (neither control marks) joiners) blanks) tags) controls

-- symbols
symbols_are_seen : (c : ℕ) → 0x206F < c → c < 0x2800 → is_hidden c ≡ false
unfolding is_hidden
symbols_are_seen c least less =
    let control : is_control c ≡ false = neither (le-ltb c 32 (omega (arith, least))) (above 0x7F 0x9F c (omega (arith, least))) in
    let marks : is_direction_mark c ≡ false =
    neither (neither (neither (ne_eqb c 0x61C (λ e. omega (arith, e, least))) (above 0x200E 0x200F c (omega (arith, least))))
    (above 0x202A 0x202E c (omega (arith, least)))) (above 0x2066 0x2069 c (omega (arith, least))) in
    let joiners : is_joiner c ≡ false =
    neither (neither (neither (neither (neither (ne_eqb c 0xAD (λ e. omega (arith, e, least)))
    (ne_eqb c 0x34F (λ e. omega (arith, e, least)))) (above 0x180B 0x180F c (omega (arith, least))))
    (above 0x200B 0x200D c (omega (arith, least)))) (above 0x2028 0x2029 c (omega (arith, least))))
    (above 0x2060 0x2065 c (omega (arith, least))) in
    let blanks : is_blank_letter c ≡ false =
    neither (neither (neither (neither (neither (neither (above 0x115F 0x1160 c (omega (arith, least)))
    (above 0x17B4 0x17B5 c (omega (arith, least)))) (ne_eqb c 0x2800 (λ e. omega (arith, e, less))))
    (ne_eqb c 0x3164 (λ e. omega (arith, e, less)))) (ne_eqb c 0xFFA0 (λ e. omega (arith, e, less))))
    (ne_eqb c 0x16FE4 (λ e. omega (arith, e, less)))) (ne_eqb c 0x1D159 (λ e. omega (arith, e, less))) in
    let tags : is_tag c ≡ false =
    neither (neither (neither (neither (above 0x206A 0x206F c least) (below 0xFE00 0xFE0D c (omega (arith, less))))
    (ne_eqb c 0xFEFF (λ e. omega (arith, e, less)))) (below 0xFFF0 0xFFFB c (omega (arith, less))))
    (below 0xE0000 0xE0FFF c (omega (arith, less))) in
    let controls : is_notation_control c ≡ false =
    neither (neither (below 0x13430 0x1345F c (omega (arith, less))) (below 0x1BCA0 0x1BCA3 c (omega (arith, less))))
    (below 0x1D173 0x1D17A c (omega (arith, less))) in
    neither (neither (neither (neither (neither control marks) joiners) blanks) tags) controls

-- the replacement character
replacement_is_seen : is_hidden 0xFFFD ≡ false
unfolding is_hidden
replacement_is_seen = refl

-- so the sign of every hidden character
pub sign_is_seen : (c : ℕ) → is_hidden (symbol_of c) ≡ false
sign_is_seen c =
    let Seen : ℕ → Type 0 = λ s. is_hidden s ≡ false in
    let del : ℕ = cond (c == 0x7F) 0x2421 (cond (c == 0x85) 0x2424 0xFFFD) in
    cond_both (nat_lt c 32) (0x2400 + c) del Seen
    (λ t. let less = ltb-true c 32 t in symbols_are_seen (0x2400 + c) (omega arith) (omega (arith, less)))
    (λ _. cond_both (c == 0x7F) 0x2421 (cond (c == 0x85) 0x2424 0xFFFD) Seen (λ _. symbols_are_seen 0x2421 (omega arith) (omega arith))
    (λ _. cond_both (c == 0x85) 0x2424 0xFFFD Seen (λ _. symbols_are_seen 0x2424 (omega arith) (omega arith)) (λ _. replacement_is_seen)))

-- ---- what is pushed for a character

-- a character that stays lays the text out
stays_as_layout : (kind : TextKind) (c : ℕ) (before_line_feed : Bool) → stays kind c before_line_feed ≡ true → is_layout kind c ≡ true
stays_as_layout OneRow c b h = h
stays_as_layout Aside c b h = h
stays_as_layout Lines c b h = h
stays_as_layout CompilerLines c b h =
    let White : ℕ → Type 0 = λ x. is_whitespace x ≡ true in
    let at : (x : ℕ) → White x → (c == x) ≡ true → White c = λ x w t. subst White (sym (eqb-true c x t)) w in
    one_of ((c == 9) || (c == 10)) ((c == 13) && b) (White c)
    (λ t. one_of (c == 9) (c == 10) (White c) (at 9 refl) (at 10 refl) t)
    (λ t. at 13 refl ((and_parts (c == 13) b t).0)) h

-- what stands for a character may be shown
pub shown_is_seen : (kind : TextKind) (c : ℕ) (before_line_feed : Bool) → is_seen_in kind (shown_code kind c before_line_feed) ≡ true
shown_is_seen kind c b =
    let Seen : ℕ → Type 0 = λ d. is_seen_in kind d ≡ true in
    cond_both (not (is_hidden c) || stays kind c b) c (symbol_of c) Seen
    (λ t. or_weaker (not (is_hidden c)) (stays kind c b) (is_layout kind c) (stays_as_layout kind c b) t)
    (λ _. ap (λ h. not h || is_layout kind (symbol_of c)) (sign_is_seen c))

-- so may the signs of a text
pub signs_are_seen : (kind : TextKind) (t : List ℕ) → list_all (is_seen_in kind) (visible_text kind t) ≡ true
unfolding visible_text
signs_are_seen kind [] = refl
signs_are_seen kind (c ∷ t) =
    and_from (is_seen_in kind (shown_code kind c (begins_with_line_feed t))) (list_all (is_seen_in kind) (visible_text kind t))
    (shown_is_seen kind c (begins_with_line_feed t)) (signs_are_seen kind t)

-- and bytes that are those of the signs
pub bytes_are_shown : (kind : TextKind) (t bytes : List ℕ) → IsUtf8 bytes → bytes ≡ encode_utf8_all (visible_text kind t)
    → is_shown kind bytes ≡ true
bytes_are_shown kind t bytes u e =
    and_from (is_utf8 bytes) (list_all (is_seen_in kind) (chars bytes)) (is_utf8-from_IsUtf8 bytes u)
    (subst (λ cs. list_all (is_seen_in kind) cs ≡ true) (chars_from_encodes (visible_text kind t) bytes u (sym e)) (signs_are_seen kind t))

-- ---- what is pushed so far

-- the signs of a text are those so far and those of the rest
pub record IsSigned (kind : TextKind) (text rest shown : List ℕ) : Type 0 where
  pub done : List ℕ
  pub signs : visible_text kind (chars text) ≡ done ++ visible_text kind (chars rest)
  pub bytes : shown ≡ encode_utf8_all done
  pub utf8 : IsUtf8 rest

-- at the start there are none
pub signed_start : (kind : TextKind) (text : List ℕ) → IsUtf8 text → IsSigned kind text text []
signed_start kind text u = record { done = []; signs = refl; bytes = refl; utf8 = u }

-- one sign more
pub signed_next : (kind : TextKind) (text rest left shown pushed : List ℕ) (c sign : ℕ) → IsSigned kind text rest shown
    → rest ≡ encode_utf8 c ++ left → sign ≡ shown_code kind c (begins_with_line_feed (chars left))
    → pushed ≡ shown ++ encode_utf8 sign → IsSigned kind text left pushed
unfolding visible_text
signed_next kind text rest left shown pushed c sign s cut is push =
    let more = visible_text kind (chars left) in
    let first : visible_text kind (chars rest) ≡ sign ∷ more =
    ap (visible_text kind) (chars_past_char rest left c s.utf8 cut) ∙ ap (λ d. d ∷ more) (sym is) in
    record {
      done = s.done ++ sign ∷ [];
      signs = s.signs ∙ ap (λ t. s.done ++ t) first ∙ sym (append_assoc s.done (sign ∷ []) more);
      bytes = push ∙ ap (λ t. t ++ encode_utf8 sign) s.bytes ∙ ap (λ t. encode_utf8_all s.done ++ t) (sym (append-nil (encode_utf8 sign)))
          ∙ sym (encodes-append s.done (sign ∷ []));
      utf8 = IsUtf8-past_char rest left c s.utf8 cut;
    }

-- at the end all have been pushed
pub signed_end : (kind : TextKind) (text rest shown : List ℕ) → IsSigned kind text rest shown → length rest ≡ 0
    → shown ≡ encode_utf8_all (visible_text kind (chars text))
unfolding visible_text
signed_end kind text rest shown s over =
    let none : visible_text kind (chars rest) ≡ [] =
    ap (λ bs. visible_text kind (chars bs)) (nil_from_length rest over) ∙ ap (visible_text kind) chars-nil in
    s.bytes ∙ ap encode_utf8_all (sym (s.signs ∙ ap (λ t. s.done ++ t) none ∙ append-nil s.done))
