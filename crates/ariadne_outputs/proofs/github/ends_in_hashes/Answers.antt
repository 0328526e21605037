use Rattle.std.specs.Prelude.{codes}
use Rattle.std.proofs.lemmas.Str.Pattern.{ends_text}
use Rattle.ariadne_outputs.proofs.github.ends_in_hashes.Goals as goal

-- as std tests it
pub returns : goal.returns
returns c = ends_text c.ends_with.result (codes "##") c.args.text.now c.ends_with.ensures.cases
