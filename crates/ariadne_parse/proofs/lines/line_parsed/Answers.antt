use Rattle.std.proofs.Common.{◌∙◌, ap, codes}
use Rattle.ariadne_parse.specs.Heads.{head_in, head_of_line}
use Rattle.ariadne_parse.proofs.Texts.{strips_front, strips_none}
use Rattle.ariadne_parse.proofs.lines.line_parsed.Goals as goal

-- what stands behind go vet's name
pub returns-in-Some : goal.returns-in-Some
unfolding head_of_line
returns-in-Some c =
    let vet = strips_front (codes "vet: ") c.args.line.now c.in-Some.rest.now c.in-Some.ensures.cases in
    rw vet.0 (c.parsed_at_colon.ensures ∙ ap head_in vet.1)

pub returns-in-None : goal.returns-in-None
unfolding head_of_line
returns-in-None c =
    rw (strips_none (codes "vet: ") c.args.line.now c.in-None.ensures.cases) c.parsed_at_colon-in-None.ensures
