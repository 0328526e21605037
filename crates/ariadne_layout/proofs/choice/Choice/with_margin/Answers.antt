use Rattle.std.proofs.Common.{subst, sym, option_to_list, option_copied}
use Rattle.ariadne_layout.specs.Choices.{Considers, infos_of}
use Rattle.ariadne_layout.proofs.Choices.{considers_none}
use Rattle.ariadne_layout.proofs.choice.Choice.with_margin.Goals as goal

-- one label is considered
pub returns-in-Some : goal.returns-in-Some
unfolding infos_of
returns-in-Some c = subst (λ m. Considers c.args.self c.consider.new.self (infos_of (option_to_list (option_copied m)))) (sym c.in-Some.is) c.consider.ensures

-- there is none
pub returns-in_default : goal.returns-in_default
unfolding infos_of
returns-in_default c = subst (λ m. Considers c.args.self c.args.self (infos_of (option_to_list (option_copied m)))) (sym c.in_default.is) (considers_none c.args.self)
