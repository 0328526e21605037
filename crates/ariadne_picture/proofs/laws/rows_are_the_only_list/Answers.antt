use Rattle.ariadne_picture.proofs.Rows.OnlyRows.{row-members, only-rows}
use Rattle.ariadne_picture.proofs.laws.rows_are_the_only_list.Goals as goal

pub returns-clause-members : goal.returns-clause-members
returns-clause-members c s is_last helps notes x = row-members s is_last helps notes x

pub returns-clause-only : goal.returns-clause-only
returns-clause-only c s is_last helps notes xs pairs members = only-rows s is_last helps notes xs pairs members
