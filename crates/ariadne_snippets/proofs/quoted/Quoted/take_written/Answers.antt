use Rattle.std.specs.Prelude.{All}
use Rattle.std.proofs.lemmas.List.Elements.{All-same}
use Rattle.ariadne_snippets.specs.Snippets.{IsPartOf}
use Rattle.ariadne_snippets.specs.declared.rows.Part.{Part}
use Rattle.ariadne_snippets.proofs.quoted.Quoted.take_written.Goals as goal

-- they are those of its parts
pub returns-clause-marks : goal.returns-clause-marks
returns-clause-marks c =
    let P : Part → Type 0 = IsPartOf c.args.self.now.moved c.args.row.now in
    let stand : All P c.as_slice.result.now = All-same P c.as_slice.result.now c.in_ok-parts.parts.items c.as_slice.ensures.value c.in_ok-parts.ensures in
    c.take_parts.ensures.marks c.args.row.now stand
