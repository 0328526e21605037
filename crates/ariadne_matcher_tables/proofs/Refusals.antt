-- Refusals of a text by its parser.
use Rattle.std.proofs.Common.{◌≡◌, ◌∙◌, ℕ, ◌≤◌, List, length, Option, Some, None, inl, subst, sym}
use Rattle.std.specs.Prelude.{MatchOption}
use Rattle.toml.specs.Data.{table, Members}
use Rattle.toml.specs.Errors.{IsMemory}
use Rattle.toml.specs.Parse.{parse_document}
use Rattle.toml.specs.declared.de.error.Error.{Error}
use Rattle.ariadne_matcher_tables.specs.TableRefusals.{line_at, IsInLine, IsOfText, IsOfToml}
use Rattle.ariadne_matcher_tables.specs.MatcherTables.{IsOfTable, IsRefusalOf}
use Rattle.ariadne_matcher_tables.specs.declared.refusal.Refusal.{Refusal}
use Rattle.ariadne_matcher_tables.specs.declared.refusal.Refusal.TheVariants.{Memory, Text, Whole, Entry}

-- the line is that of a place in the text
pub in_text : (text : List ℕ) (error : Error) (place line : ℕ) (what : List ℕ) (it : Refusal) → (IsMemory error → ⊥)
    → place ≤ length text → line ≡ line_at text place → IsInLine line what it → IsOfToml text error it
in_text text error place line what (Memory none) other within same h = tt
in_text text error place line what (Text told said) other within same h = (other, (place, within, h.0 ∙ same))
in_text text error place line what (Whole fault) other within same h = h
in_text text error place line what (Entry name fault) other within same h = h

-- memory may be wanting in any text
no_memory : (text : List ℕ) (given : Option Members) (none : _)
    → MatchOption given (IsOfText text (Memory none)) (λ members. IsOfTable (table members) (Memory none))
no_memory text None none = tt
no_memory text (Some those) none = inl tt

-- a text that its parser refuses
pub of_text : (text : List ℕ) (error : Error) (it : Refusal) → ((IsMemory error → ⊥) → parse_document text ≡ None)
    → IsOfToml text error it → IsRefusalOf text it
of_text text error (Memory none) refused h = no_memory text (parse_document text) none
of_text text error (Text line what) refused h =
    subst (λ (given : Option Members). MatchOption given (IsOfText text (Text line what)) (λ members. IsOfTable (table members) (Text line what)))
    (sym (refused h.0)) h.1
of_text text error (Whole fault) refused h = absurd h
of_text text error (Entry name fault) refused h = absurd h
