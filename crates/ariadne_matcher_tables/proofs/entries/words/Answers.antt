use Rattle.std.proofs.Common.{◌∙◌, [], ap, sym, inl, inr, Some}
use Rattle.std.proofs.lemmas.Result.{IfErr-weaker, IfOk-weaker}
use Rattle.std.specs.Option.{option_map, unwrap_or}
use Rattle.toml.specs.View.{view}
use Rattle.ariadne_matcher_tables.specs.EntryFaults.{is_a}
use Rattle.ariadne_matcher_tables.specs.MatcherTables.{words_in}
use Rattle.ariadne_matcher_tables.specs.declared.refusal.Wanted.TheVariants as kind
use Rattle.ariadne_matcher_tables.proofs.entries.words.Goals as goal

-- they are no table
pub returns-then-not-is_table-clause-fault : goal.returns-then-not-is_table-clause-fault
returns-then-not-is_table-clause-fault c =
    inl (ap (option_map (is_a kind.Table)) (sym c.in-Some.ensures) ∙ ap Some (sym c.if-not-is_table.ensures))

-- what is wrong with them
pub returns-clause-fault : goal.returns-clause-fault
returns-clause-fault c =
    IfErr-weaker c.known_words.result _ _ (λ x h. inr (view c.in-Some.value.now, sym c.in-Some.ensures, h)) c.known_words.ensures.fault

-- they are those that are given
pub returns-clause-words : goal.returns-clause-words
returns-clause-words c =
    IfOk-weaker c.known_words.result _ _ (λ x h. h ∙ ap (λ those. unwrap_or (option_map words_in those) []) c.in-Some.ensures)
    c.known_words.ensures.words
