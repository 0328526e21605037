-- What a span says, behind what is said.
use Rattle.std.proofs.Common.{◌≡◌, ◌∙◌, ap, refl, sym, ℕ, List, [], ◌++◌, append_assoc, codes}
use Rattle.std.proofs.lemmas.List.{append-nil}
use Rattle.std.specs.Prelude.{Option, Some, None, option_map, unwrap_or}
use Rattle.std.specs.Option.{option_or}
use Rattle.serde_json.specs.Data.{Data}
use Rattle.ariadne_parse.specs.Fixes.{joint_words}
use Rattle.ariadne_parse.specs.Members.{span_value_start, text_at}
use Rattle.ariadne_parse.specs.Suggested.{first_behind, part_behind, part_words, said_behind}
use Rattle.ariadne_parse.specs.declared.diagnostic.Location.{Location}

-- ---- one that puts in no text

pub says_nothing : (first : Option Location) (d : Data) (said : List ℕ) → text_at (codes "suggested_replacement") d ≡ None
    → said ≡ said ++ said_behind first d
says_nothing first d said none =
    sym (ap (λ (o : Option (List ℕ)). said ++ unwrap_or (option_map (part_behind first d) o) []) none ∙ append-nil said)

or_none : (o : Option Location) → option_or o None ≡ o
or_none None = refl
or_none (Some at) = refl

pub first_stays : (first : Option Location) (d : Data) → text_at (codes "suggested_replacement") d ≡ None
    → first ≡ first_behind first d
first_stays first d none =
    sym (ap (λ (o : Option (List ℕ)). option_or first (option_map (λ text. span_value_start d) o)) none ∙ or_none first)

-- ---- one that does

-- a joint and what the part says were pushed
pub says_part : (first : Option Location) (d : Data) (text said joint part middle after : List ℕ)
    → text_at (codes "suggested_replacement") d ≡ Some text → joint ≡ joint_words first (span_value_start d) → part ≡ part_words d text
    → middle ≡ said ++ joint → after ≡ middle ++ part → after ≡ said ++ said_behind first d
says_part first d text said joint part middle after is as_joint as_part e f =
    f
    ∙ ap (λ xs. xs ++ part) e
    ∙ append_assoc said joint part
    ∙ ap (λ xs. said ++ (xs ++ part)) as_joint
    ∙ ap (λ xs. said ++ (joint_words first (span_value_start d) ++ xs)) as_part
    ∙ ap (λ (o : Option (List ℕ)). said ++ unwrap_or (option_map (part_behind first d) o) []) (sym is)

pub first_begins : (first : Option Location) (d : Data) (text : List ℕ) → text_at (codes "suggested_replacement") d ≡ Some text
    → option_or first (Some (span_value_start d)) ≡ first_behind first d
first_begins first d text is =
    ap (λ (o : Option (List ℕ)). option_or first (option_map (λ text. span_value_start d) o)) (sym is)
