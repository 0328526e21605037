use Rattle.std.specs.Prelude.{codes}
use Rattle.std.proofs.lemmas.Str.Pattern.{ends_text}
use Rattle.ariadne_parse.proofs.telling.is_of_rust.Goals as goal

-- it ends so
pub returns : goal.returns
returns c = ends_text c.ends_with.result (codes ".rs") c.args.file.now c.ends_with.ensures.cases
