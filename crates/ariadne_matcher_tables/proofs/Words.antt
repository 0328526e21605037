-- The tools of an entry, and the words of a table.
use Rattle.std.proofs.Common.{◌≡◌, ◌∙◌, ℕ, List, [], ◌∷◌, map, Some, None, refl, ap, sym, String, Global, string_bytes}
use Rattle.std.specs.Option.{option_and_then, unwrap_or}
use Rattle.std.specs.Prelude.{codes}
use Rattle.toml.specs.Data.{as_array, as_str, get, string, integer, float, boolean, datetime, array, table, Data}
use Rattle.ariadne_matcher_tables.specs.TableMembers.{texts_at, texts_in}
use Rattle.ariadne_matcher_tables.specs.MatcherTables.{tools_in, word_told, words_for}
use Rattle.ariadne_matchers.specs.declared.entry.Severity.{Severity}
use Rattle.ariadne_matchers.specs.declared.entry.Word.{Word}

-- one tool
pub tool_alone : (value : Data) (tool : List ℕ) → Some tool ≡ as_str value → Some (tool ∷ []) ≡ tools_in value
tool_alone (string text) tool is = let same : tool ≡ text = cc in ap (λ t. Some (t ∷ [])) same
tool_alone (integer value) tool is = absurd cc
tool_alone (float value) tool is = absurd cc
tool_alone (boolean value) tool is = absurd cc
tool_alone (datetime value) tool is = absurd cc
tool_alone (array items) tool is = absurd cc
tool_alone (table those) tool is = absurd cc

-- those of a list
in_list : (value : Data) → None ≡ as_str value → option_and_then texts_in (as_array value) ≡ tools_in value
in_list (string text) none = absurd cc
in_list (integer value) none = refl
in_list (float value) none = refl
in_list (boolean value) none = refl
in_list (datetime value) none = refl
in_list (array items) none = refl
in_list (table those) none = refl

pub tools_listed : (given value : Data) → Some value ≡ get (codes "tool") given → None ≡ as_str value
    → texts_at (codes "tool") given ≡ option_and_then tools_in (get (codes "tool") given)
tools_listed given value there none =
    ap (λ o. option_and_then texts_in (option_and_then as_array o)) (sym there) ∙ in_list value none ∙ ap (option_and_then tools_in) there

-- texts as words for a severity
abbrev pub word_of : Severity → String Global → Word
word_of severity text = record { text = text; severity = severity }

as_words : (severity : Severity) (texts : List (String Global))
    → map word_told (map (word_of severity) texts) ≡ map (λ text. (text, severity)) (map string_bytes texts)
as_words severity [] = refl
as_words severity (text ∷ texts) = ap (λ words. (string_bytes text, severity) ∷ words) (as_words severity texts)

pub words_given : (severity : Severity) (name : List ℕ) (given : Data) (texts : List (String Global))
    → Some (map string_bytes texts) ≡ texts_at name given → map word_told (map (word_of severity) texts) ≡ words_for severity name given
words_given severity name given texts is =
    as_words severity texts ∙ ap (λ those. map (λ text. (text, severity)) (unwrap_or those [])) is
