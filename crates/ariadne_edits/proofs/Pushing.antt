-- Texts that are appended one after another.
use Rattle.std.proofs.Common.{◌≡◌, ◌∙◌, ap, sym, subst, ℕ, List, [], ◌∷◌, ◌++◌, length, append_assoc, append-nil}
use Rattle.std.specs.Prelude.{encode_utf8, encode_utf8_all}
use Rattle.std.specs.Str.{chars, IsUtf8}
use Rattle.std.proofs.lemmas.List.{nil_from_length}
use Rattle.std.proofs.lemmas.Str.{chars_past_char, IsUtf8-past_char, encodes-append, chars-nil}

-- one more
pub then_pushed : (out x y before behind : List ℕ) → before ≡ out ++ x → behind ≡ before ++ y → behind ≡ out ++ (x ++ y)
then_pushed out x y before behind e f = f ∙ ap (λ z. z ++ y) e ∙ append_assoc out x y

-- what is appended for a text: what has been, and what will be for the rest of it
pub record IsAppended (of_rest : List ℕ → List ℕ) (rest out whole : List ℕ) : Type 0 where
  pub utf8 : IsUtf8 rest
  pub so_far : out ++ encode_utf8_all (of_rest (chars rest)) ≡ whole

-- a character more
pub appended_more : (f g : List ℕ → List ℕ) (rest left out behind whole sign : List ℕ) (c : ℕ) → IsAppended f rest out whole
    → rest ≡ encode_utf8 c ++ left → f (c ∷ chars left) ≡ sign ++ g (chars left) → behind ≡ out ++ encode_utf8_all sign
    → IsAppended g left behind whole
appended_more f g rest left out behind whole sign c h cut parts pushed =
    let more = encode_utf8_all (g (chars left)) in
    let now : encode_utf8_all (f (chars rest)) ≡ encode_utf8_all sign ++ more =
    ap (λ t. encode_utf8_all (f t)) (chars_past_char rest left c h.utf8 cut) ∙ ap encode_utf8_all parts ∙ encodes-append sign (g (chars left)) in
    record {
      utf8 = IsUtf8-past_char rest left c h.utf8 cut;
      so_far = ap (λ x. x ++ more) pushed ∙ append_assoc out (encode_utf8_all sign) more
          ∙ sym (ap (λ x. out ++ x) now) ∙ h.so_far;
    }

-- and all
pub appended_all : (f : List ℕ → List ℕ) (rest out whole : List ℕ) → IsAppended f rest out whole → f [] ≡ [] → length rest ≡ 0 → out ≡ whole
appended_all f rest out whole h none over =
    let end : encode_utf8_all (f (chars rest)) ≡ [] =
    ap (λ bs. encode_utf8_all (f (chars bs))) (nil_from_length rest over) ∙ ap (λ t. encode_utf8_all (f t)) chars-nil ∙ ap encode_utf8_all none in
    sym (append-nil out) ∙ ap (λ x. out ++ x) (sym end) ∙ h.so_far

-- at the start nothing is
pub appended_none : (f : List ℕ → List ℕ) (text rest out : List ℕ) → IsUtf8 text → rest ≡ text
    → IsAppended f rest out (out ++ encode_utf8_all (f (chars text)))
appended_none f text rest out u e = record {
  utf8 = subst IsUtf8 (sym e) u;
  so_far = ap (λ bs. out ++ encode_utf8_all (f (chars bs))) e;
}
