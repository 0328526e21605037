-- Texts that have a piece more than others.
use Rattle.std.proofs.Common.{◌≡◌, ◌∙◌, ap, sym, append_assoc, List, ℕ, ◌++◌, Option, Some, None, Bor, IfSome}
use Rattle.std.specs.Prelude.{MatchOption}
use Rattle.std.specs.Str.{IsTrimStart}
use Rattle.std.specs.Str.Pattern.{FindsTextPrefix, FindsTextSuffix, StripsPrefix, StripsSuffix}
use Rattle.ariadne_snippets.specs.RowPieces.{IsIn}
use Rattle.ariadne_snippets.specs.Puts.{HaveOneEnd, IsMoreByTwo, IsMoreThan}
use Rattle.ariadne_snippets.specs.declared.put.TwoPieces.{TwoPieces}
use Rattle.ariadne_snippets.proofs.Endings.{in_by_end, in_further}

-- a text is what it begins with, and what is left of it
strips_front : (n s x : List ℕ) → StripsPrefix (FindsTextPrefix n) s x → s ≡ n ++ x
strips_front n s x h = h.1.1 ∙ ap (λ t. n ++ t) (sym h.2)

strips_end : (n s x : List ℕ) → StripsSuffix (FindsTextSuffix n) s x → s ≡ x ++ n
strips_end n s x h = h.1.1 ∙ ap (λ t. t ++ n) (sym h.2)

-- `strip_prefix` of both, and `strip_suffix`
pub more_by : (text source front rest behind : List ℕ) (r : Option (Bor (List ℕ)))
    → StripsPrefix (FindsTextPrefix front) source rest → StripsPrefix (FindsTextPrefix front) text behind
    → MatchOption r (FindsTextSuffix rest behind None) (λ x. StripsSuffix (FindsTextSuffix rest) behind x.now)
    → IfSome r (λ piece. IsMoreThan text source front piece.now)
more_by text source front rest behind None a b h = tt
more_by text source front rest behind (Some x) a b h = record {
  rest = rest;
  without = strips_front front source rest a;
  with_piece = strips_front front text behind b ∙ ap (λ t. front ++ t) (strips_end rest behind x.now h)
      ∙ sym (append_assoc front x.now rest);
}

-- the piece stands in a text with white space in front
pub more_in : (text trimmed source front piece : List ℕ) → IsTrimStart text trimmed
    → IsMoreThan trimmed source front piece → IsIn piece text
more_in text trimmed source front piece trim more =
    in_further piece trimmed text (record { front = front; rest = more.rest; is_there = more.with_piece })
    (in_by_end trimmed text (record { count = trim.0; is_rest = trim.1 }))

-- two pieces that a text has more than a source stand in it
pub first_in : (text source : List ℕ) (two : TwoPieces) → IsMoreByTwo text source two → IsIn two.first.now text
first_in text source two more =
    let front = two.front.now ++ two.first.now in
    let rest = two.second.now ++ more.rest in record {
      front = two.front.now;
      rest = two.middle.now ++ rest;
      is_there = more.with_pieces ∙ append_assoc (front ++ two.middle.now) two.second.now more.rest
          ∙ append_assoc front two.middle.now rest;
    }

pub second_in : (text source : List ℕ) (two : TwoPieces) → IsMoreByTwo text source two → IsIn two.second.now text
second_in text source two more = record {
  front = two.front.now ++ two.first.now ++ two.middle.now;
  rest = more.rest;
  is_there = more.with_pieces;
}

-- a piece of a text without the white space in front stands in it
pub trimmed_in : (piece text trimmed : List ℕ) → IsTrimStart text trimmed → IsIn piece trimmed → IsIn piece text
trimmed_in piece text trimmed trim within =
    in_further piece trimmed text within (in_by_end trimmed text (record { count = trim.0; is_rest = trim.1 }))

-- `strip_prefix` of both, one end of both, and `split_once`
pub more_by_two : (text source : List ℕ) (two : TwoPieces) (behind rest inner : List ℕ)
    → StripsPrefix (FindsTextPrefix two.front.now) text behind → StripsPrefix (FindsTextPrefix two.front.now) source rest
    → HaveOneEnd behind rest inner two.middle.now → inner ≡ two.first.now ++ (two.middle.now ++ two.second.now)
    → IsMoreByTwo text source two
more_by_two text source two behind rest inner a b one split =
    let front = two.front.now in
    let first = two.first.now in
    let middle = two.middle.now in
    let second = two.second.now in record {
      rest = one.end;
      without = strips_front front source rest b ∙ ap (λ t. front ++ t) one.of_source
          ∙ sym (append_assoc front middle one.end);
      with_pieces = strips_front front text behind a
          ∙ ap (λ t. front ++ t) (one.of_text ∙ ap (λ t. t ++ one.end) split)
          ∙ sym (append_assoc front (first ++ (middle ++ second)) one.end)
          ∙ ap (λ t. t ++ one.end)
          (sym (append_assoc front first (middle ++ second)) ∙ sym (append_assoc (front ++ first) middle second));
    }
