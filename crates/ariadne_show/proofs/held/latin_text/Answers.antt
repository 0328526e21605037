use Rattle.std.proofs.Common.{◌≡◌, ◌∙◌, ◌+◌, ◌<◌, ◌++◌, ◌∷◌, ℕ, [], List, ap, append-nil, arith, get_or, length, refl, sym, take}
use Rattle.std.proofs.lemmas.List.{take_more}
use Rattle.std.proofs.lemmas.Str.{IsUtf8-encode, IsUtf8-string_bytes, chars-append, chars-nil, chars_past_char}
use Rattle.std.specs.Char.{IsScalar}
use Rattle.std.specs.Prelude.{chars, encode_utf8, string_bytes}
use Rattle.std.specs.Str.{IsUtf8}
use lib.Utf8.{low_scalar}
use Rattle.ariadne_show.proofs.held.latin_text.Goals as goal

-- one character
one_char : (c : ℕ) → IsScalar c → chars (encode_utf8 c) ≡ c ∷ []
one_char c is =
    chars_past_char (encode_utf8 c) [] c (IsUtf8-encode c is) (sym (append-nil (encode_utf8 c))) ∙ ap (λ t. c ∷ t) chars-nil

-- one byte more
one_more : (text more bytes : List ℕ) (i c : ℕ) → IsUtf8 text → i < length bytes → IsScalar c → c ≡ get_or bytes i 0
    → more ≡ text ++ encode_utf8 c → chars text ≡ take i bytes → chars more ≡ take (i + 1) bytes
one_more text more bytes i c is within scalar byte added before =
    ap chars added ∙ chars-append text (encode_utf8 c) is ∙ ap (λ t. t ++ chars (encode_utf8 c)) before
    ∙ ap (λ t. take i bytes ++ t) (one_char c scalar ∙ ap (λ b. b ∷ []) byte) ∙ sym (take_more bytes i 0 within)

-- none at first
pub loop-byte-init : goal.loop-byte-init
loop-byte-init c = ap chars c.new-text.ensures.bytes ∙ chars-nil

-- one more in each turn
pub loop-byte-preserved : goal.loop-byte-preserved
loop-byte-preserved c =
    one_more (string_bytes c.loop-byte.text) (string_bytes c.push.new.self) c.args.bytes.now c.loop-byte.byte-index _
    (IsUtf8-string_bytes c.loop-byte.text) c.loop-byte-test.true
    (low_scalar (get_or c.args.bytes.now c.loop-byte.byte-index 0) (omega (arith, c.type_inv.bytes c.loop-byte.byte-index))) refl c.in_ok-push.ensures.bytes c.loop-byte.invariant
