-- What is UTF-8 has no fault; other bytes have one.
use Rattle.std.proofs.Common.{refl}
use Rattle.ariadne_calls.proofs.texts.text.Goals as goal

pub returns-in-Some-clause-sound : goal.returns-in-Some-clause-sound
returns-in-Some-clause-sound c = rw c.in-Some.ensures.some refl

pub returns-in-None-clause-err : goal.returns-in-None-clause-err
returns-in-None-clause-err c = rw (c.in-None.ensures.none refl) refl
