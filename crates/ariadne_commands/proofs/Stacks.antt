-- The closing brackets that a text waits for, the next one first.
use Rattle.std.proofs.Common.{◌≡◌, refl, ◌∙◌, append_assoc, append-nil}
use Rattle.std.specs.Prelude.{ℕ, Bool, true, false, nat_eq, if◌then◌else◌, List, [], ◌∷◌, ◌++◌, length, take, drop, map}
use Rattle.std.specs.Prelude.{Option, Some, None, option_and_then}
use Rattle.std.proofs.lemmas.Bool.{eq-eqb}
use Rattle.std.proofs.lemmas.List.{take-append-drop}
use Rattle.ariadne_commands.specs.declared.offence.OpenBracket.{OpenBracket}
use Rattle.ariadne_commands.specs.Brackets.{closing_of, is_closing, IsPlain, IsBalanced, BeginsBalanced, empty, plain, enclosed, joined}

-- ---- brackets

-- a bracket that closes one of some kind
pub record Closes (c : ℕ) : Type 0 where
  pub opens_none : closing_of c ≡ None
  pub closes_one : is_closing c ≡ true

-- by the tests for the three opening brackets
closes_by : (a b d : Bool) (c : ℕ) → if a then Some 41 else (if b then Some 93 else (if d then Some 125 else None)) ≡ Some c → Closes c
unfolding closing_of is_closing
closes_by true b d c is = let same : c ≡ 41 = cc in rw same (record { opens_none = refl; closes_one = refl })
closes_by false true d c is = let same : c ≡ 93 = cc in rw same (record { opens_none = refl; closes_one = refl })
closes_by false false true c is = let same : c ≡ 125 = cc in rw same (record { opens_none = refl; closes_one = refl })
closes_by false false false c is = absurd cc

-- what closes an opening bracket is a closing one, and opens nothing
pub closes : (opening closing : ℕ) → closing_of opening ≡ Some closing → Closes closing
unfolding closing_of
closes opening closing pair = closes_by (nat_eq opening 40) (nat_eq opening 91) (nat_eq opening 123) closing pair

-- ---- the closing brackets that are waited for, the next one first

-- a closing bracket has to be the next one
popped : List ℕ → ℕ → Option (List ℕ)
popped [] c = None
popped (closing ∷ waiting) c = if nat_eq closing c then Some waiting else None

-- a character, by what it opens and whether it closes
after_kind : Option ℕ → Bool → List ℕ → ℕ → Option (List ℕ)
after_kind (Some closing) closes waiting c = Some (closing ∷ waiting)
after_kind None true waiting c = popped waiting c
after_kind None false waiting c = Some waiting

-- what is waited for behind a text
pub waited : List ℕ → List ℕ → Option (List ℕ)
waited waiting [] = Some waiting
waited waiting (c ∷ cs) =
    option_and_then (λ next. waited next cs) (after_kind (closing_of c) (is_closing c) waiting c)

-- one step behind another
then_then : (f g h : List ℕ → Option (List ℕ)) (k : Option (List ℕ)) → ((x : List ℕ) → f x ≡ option_and_then g (h x))
    → option_and_then f k ≡ option_and_then g (option_and_then h k)
then_then f g h (Some x) same = same x
then_then f g h None same = refl

-- behind two texts
pub waited-append : (waiting first second : List ℕ)
    → waited waiting (first ++ second) ≡ option_and_then (λ next. waited next second) (waited waiting first)
unfolding waited
waited-append waiting [] second = refl
waited-append waiting (c ∷ cs) second = then_then _ _ _ _ (λ next. waited-append next cs second)

-- an opening bracket
pub waited-opening : (waiting : List ℕ) (opening closing : ℕ) (rest : List ℕ) → closing_of opening ≡ Some closing
    → waited waiting (opening ∷ rest) ≡ waited (closing ∷ waiting) rest
unfolding waited after_kind
waited-opening waiting opening closing rest pair = rw pair refl

-- any character that opens and closes nothing
waited-plain : (waiting : List ℕ) (c : ℕ) (rest : List ℕ) → IsPlain c → waited waiting (c ∷ rest) ≡ waited waiting rest
unfolding waited after_kind
waited-plain waiting c rest is = rw (is.opens_none, is.closes_none) refl

-- the closing bracket that is waited for
waited-closing : (waiting : List ℕ) (opening closing : ℕ) (rest : List ℕ) → closing_of opening ≡ Some closing
    → waited (closing ∷ waiting) (closing ∷ rest) ≡ waited waiting rest
unfolding waited after_kind popped
waited-closing waiting opening closing rest pair =
    let is = closes opening closing pair in
    rw (is.opens_none, is.closes_one, eq-eqb closing closing refl) refl

-- a balanced text leaves what was waited for
pub waited-balanced : (text : List ℕ) → IsBalanced text → (waiting : List ℕ) → waited waiting text ≡ Some waiting
unfolding waited
waited-balanced text empty waiting = refl
waited-balanced text (plain c is) waiting = waited-plain waiting c [] is
waited-balanced text (enclosed opening closing inside pair is) waiting =
    waited-opening waiting opening closing _ pair ∙ waited-append (closing ∷ waiting) inside (closing ∷ [])
    ∙ (rw (waited-balanced inside is (closing ∷ waiting)) (waited-closing waiting opening closing [] pair))
waited-balanced text (joined first second is_first is_second) waiting =
    waited-append waiting first second
    ∙ (rw (waited-balanced first is_first waiting) (waited-balanced second is_second waiting))

-- ---- what begins no balanced text

-- a text behind which nothing can be waited for begins no balanced text
pub stuck : (text : List ℕ) → waited [] text ≡ None → ¬ BeginsBalanced text
stuck text none begins =
    let whole = waited-balanced _ begins.1 [] in
    let both = waited-append [] text begins.0 in
    let left : waited [] (text ++ begins.0) ≡ None = both ∙ (rw none refl) in
    cc

-- a text that waits for a bracket is not balanced
pub waiting_unbalanced : (text : List ℕ) (closing : ℕ) (waiting : List ℕ) → waited [] text ≡ Some (closing ∷ waiting) → ¬ IsBalanced text
waiting_unbalanced text closing waiting some is = let none = waited-balanced text is [] in cc

-- a closing bracket, by what is waited for
closing_waited : (waiting : List ℕ) (c : ℕ) → closing_of c ≡ None → is_closing c ≡ true → waited waiting (c ∷ []) ≡ option_and_then (λ next. Some next) (popped waiting c)
unfolding waited after_kind
closing_waited waiting c none one = rw (none, one) refl

-- a closing bracket where none is waited for
pub stuck_unopened : (text : List ℕ) (c : ℕ) → closing_of c ≡ None → is_closing c ≡ true → waited [] text ≡ Some [] → waited [] (text ++ c ∷ []) ≡ None
unfolding popped
stuck_unopened text c none one some = waited-append [] text (c ∷ []) ∙ (rw some (closing_waited [] c none one))

-- and where another one is
pub stuck_mismatched : (text : List ℕ) (c closing : ℕ) (waiting : List ℕ) → closing_of c ≡ None → is_closing c ≡ true → nat_eq closing c ≡ false
    → waited [] text ≡ Some (closing ∷ waiting) → waited [] (text ++ c ∷ []) ≡ None
unfolding popped
stuck_mismatched text c closing waiting none one other some =
    waited-append [] text (c ∷ []) ∙ (rw some (closing_waited (closing ∷ waiting) c none one ∙ (rw other refl)))

-- ---- texts with open brackets

-- the text ends in an open bracket and a balanced text, and what is before has some other ones open
pub record EndsOpen (bracket : OpenBracket) (text : List ℕ) (Before : List ℕ → Type 0) : Type 0 where
  pub before : List ℕ
  pub opening : ℕ
  pub inside : List ℕ
  pub text_is : text ≡ before ++ opening ∷ inside
  pub pair : closing_of opening ≡ Some bracket.closing
  pub stands : bracket.offset ≡ length before
  pub balanced : IsBalanced inside
  pub others : Before before

-- these brackets are open behind the text, the last one first
unfoldable pub IsOpen : List OpenBracket → List ℕ → Type 0
IsOpen [] text = IsBalanced text
IsOpen (bracket ∷ brackets) text = EndsOpen bracket text (IsOpen brackets)

-- then these are waited for
pub open_waited : (brackets : List OpenBracket) (text : List ℕ) → IsOpen brackets text → waited [] text ≡ Some (map (λ b. b.closing) brackets)
unfolding IsOpen
open_waited [] text is = waited-balanced text is []
open_waited (bracket ∷ brackets) text is =
    let first = open_waited brackets is.before is.others in
    rw is.text_is
    (waited-append [] is.before (is.opening ∷ is.inside)
    ∙ (rw first (waited-opening _ is.opening bracket.closing is.inside is.pair ∙ waited-balanced is.inside is.balanced _)))

-- a balanced text more leaves them open
pub open_balanced : (brackets : List OpenBracket) (text more : List ℕ) → IsOpen brackets text → IsBalanced more → IsOpen brackets (text ++ more)
unfolding IsOpen
open_balanced [] text more is balanced = joined text more is balanced
open_balanced (bracket ∷ brackets) text more is balanced = record {
  before = is.before;
  opening = is.opening;
  inside = is.inside ++ more;
  text_is = rw is.text_is (append_assoc is.before (is.opening ∷ is.inside) more);
  pair = is.pair;
  stands = is.stands;
  balanced = joined is.inside more is.balanced balanced;
  others = is.others;
}

-- an opening bracket is one more
pub open_opening : (brackets : List OpenBracket) (text : List ℕ) (c closing : ℕ) → IsOpen brackets text → closing_of c ≡ Some closing
    → IsOpen ((record { offset = length text; closing = closing }) ∷ brackets) (text ++ c ∷ [])
unfolding IsOpen
open_opening brackets text c closing is pair = record {
  before = text;
  opening = c;
  inside = [];
  text_is = refl;
  pair = pair;
  stands = refl;
  balanced = empty;
  others = is;
}

-- its closing bracket is one less
pub open_closing : (bracket : OpenBracket) (brackets : List OpenBracket) (text : List ℕ) → IsOpen (bracket ∷ brackets) text
    → IsOpen brackets (text ++ bracket.closing ∷ [])
unfolding IsOpen
open_closing bracket brackets text is =
    let whole : text ++ bracket.closing ∷ [] ≡ is.before ++ (is.opening ∷ is.inside ++ bracket.closing ∷ []) =
    rw is.text_is (append_assoc is.before (is.opening ∷ is.inside) (bracket.closing ∷ [])) in
    rw whole (open_balanced brackets is.before _ is.others (enclosed is.opening bracket.closing is.inside is.pair is.balanced))

-- with the brackets closed the text is balanced
pub open_begins : (brackets : List OpenBracket) (text : List ℕ) → IsOpen brackets text → BeginsBalanced text
unfolding IsOpen
open_begins [] text is = ([], rw append-nil is)
open_begins (bracket ∷ brackets) text is =
    let closed = open_begins brackets _ (open_closing bracket brackets text is) in
    (bracket.closing ∷ closed.0, rw append_assoc at closed.1)

-- a beginning of what begins a balanced text begins one
pub begins_less : (text : List ℕ) (n : ℕ) → BeginsBalanced text → BeginsBalanced (take n text)
begins_less text n begins =
    (drop n text ++ begins.0, rw (← append_assoc (take n text) (drop n text) begins.0, take-append-drop n text) begins.1)
