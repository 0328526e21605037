use Rattle.std.proofs.Common.{Option, sym, subst}
use Rattle.std.proofs.lemmas.Result.{IfErr-weaker, IfOk-weaker}
use Rattle.toml.proofs.Views.{view-Table}
use Rattle.toml.specs.Data.{table, Data, Members}
use Rattle.toml.specs.View.{members_view}
use Rattle.ariadne_matcher_tables.specs.TableRefusals.{IsOfText}
use Rattle.ariadne_matcher_tables.specs.MatcherTables.{IsOfTable, IsTableOfData}
use Rattle.std.specs.Prelude.{MatchOption}
use Rattle.ariadne_matcher_tables.proofs.Refusals.{of_text}
use Rattle.ariadne_matcher_tables.proofs.tables.table_from_toml.Goals as goal

-- the table that it is
pub returns-in-Ok-clause-table : goal.returns-in-Ok-clause-table
returns-in-Ok-clause-table c =
    IfOk-weaker c.table_of.result _ _
    (λ x h. record {
      members = members_view c.in-Ok.members.entries;
      read = c.in-Ok.ensures.ok;
      is_table = subst (λ (given : Data). IsTableOfData given x) (view-Table c.in-Ok.members) h;
    }) c.table_of.ensures.table

-- what is wrong with it
pub returns-in-Ok-clause-refusal : goal.returns-in-Ok-clause-refusal
returns-in-Ok-clause-refusal c =
    IfErr-weaker c.table_of.result _ _
    (λ x h. subst (λ (given : Option Members). MatchOption given (IsOfText c.args.text.now x) (λ members. IsOfTable (table members) x))
    (sym c.in-Ok.ensures.ok) (subst (λ (given : Data). IsOfTable given x) (view-Table c.in-Ok.members) h)) c.table_of.ensures.refusal

-- it is no TOML
pub returns-in-Err-clause-refusal : goal.returns-in-Err-clause-refusal
returns-in-Err-clause-refusal c =
    of_text c.args.text.now c.in-Err.error c.of_toml.result c.in-Err.ensures.refused c.of_toml.ensures
