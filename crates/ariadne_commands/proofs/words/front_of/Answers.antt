-- The words that are told apart.
use Rattle.std.proofs.Common.{refl}
use Rattle.ariadne_commands.specs.Words.{front_of}
use Rattle.ariadne_commands.proofs.Fronts.{front_message, front_unknown}
use Rattle.ariadne_commands.proofs.words.front_of.Goals as goal

pub returns-in-text : goal.returns-in-text
unfolding front_of
returns-in-text c = rw c.in-text.is refl

pub returns-in-text-2 : goal.returns-in-text-2
unfolding front_of
returns-in-text-2 c = rw c.in-text-2.is refl

pub returns-in-text-3 : goal.returns-in-text-3
unfolding front_of
returns-in-text-3 c = rw c.in-text-3.is refl

pub returns-in-text-4 : goal.returns-in-text-4
unfolding front_of
returns-in-text-4 c = rw c.in-text-4.is refl

pub returns-in-text-5 : goal.returns-in-text-5
unfolding front_of
returns-in-text-5 c = rw c.in-text-5.is refl

pub returns-in-text-6 : goal.returns-in-text-6
unfolding front_of
returns-in-text-6 c = rw c.in-text-6.is refl

pub returns-in_default : goal.returns-in_default
returns-in_default c =
    let d = c.in_default in
    front_unknown _ d.not-text d.not-text-2 d.not-text-3 d.not-text-4 d.not-text-5 d.not-text-6 _ c.if-starts_with.ensures.cases.1.1

pub returns-in_default-2 : goal.returns-in_default-2
returns-in_default-2 c =
    let d = c.in_default in
    front_message _ d.not-text d.not-text-2 d.not-text-3 d.not-text-4 d.not-text-5 d.not-text-6 c.if-starts_with.ensures.cases
