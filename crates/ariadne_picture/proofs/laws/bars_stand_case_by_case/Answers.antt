use Rattle.ariadne_picture.proofs.Rows.BarCases.{bars-source, bars-gap, bars-alternate, bars-arrow, bars-of-lines, hidden-off-margin}
use Rattle.ariadne_picture.proofs.laws.bars_stand_case_by_case.Goals as goal

pub returns-clause-source : goal.returns-clause-source
returns-clause-source c s i l a m = bars-source s i a m l

pub returns-clause-gap : goal.returns-clause-gap
returns-clause-gap c s i l a m hidden = bars-gap s i a m l (hidden-off-margin s l i hidden)

pub returns-clause-alternate : goal.returns-clause-alternate
returns-clause-alternate c s i l r a m = bars-alternate s i a m l r

pub returns-clause-arrow : goal.returns-clause-arrow
returns-clause-arrow c s i l r a m = bars-arrow s i a m l r

pub returns-clause-elsewhere : goal.returns-clause-elsewhere
returns-clause-elsewhere c = bars-of-lines
