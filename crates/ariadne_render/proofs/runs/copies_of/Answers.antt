use Rattle.std.proofs.Common.{refl}
use Rattle.ariadne_picture.specs.Lists.{joined}
use Rattle.ariadne_picture.specs.Pieces.{repeated}
use Rattle.ariadne_render.proofs.runs.copies_of.Goals as goal

-- 128 blanks
pub returns-in-32 : goal.returns-in-32
unfolding repeated joined lib.Utf8.encode
returns-in-32 c = rw c.in-32.is refl

-- 128 horizontals in ASCII
pub returns-in-45 : goal.returns-in-45
unfolding repeated joined lib.Utf8.encode
returns-in-45 c = rw c.in-45.is refl

-- 128 underlines in ASCII
pub returns-in-94 : goal.returns-in-94
unfolding repeated joined lib.Utf8.encode
returns-in-94 c = rw c.in-94.is refl

-- 128 horizontals as box drawing characters
pub returns-in-9472 : goal.returns-in-9472
unfolding repeated joined lib.Utf8.encode
returns-in-9472 c = rw c.in-9472.is refl
