use Rattle.std.proofs.Common.{[], refl}
use Rattle.std.proofs.lemmas.List.Elements.{All-cons, All-nil}
use Rattle.ariadne_snippets.specs.Snippets.{IsPartOf}
use Rattle.ariadne_snippets.specs.declared.rows.Part.{Part}
use Rattle.ariadne_snippets.proofs.Parts.{part_of_all}
use Rattle.ariadne_snippets.proofs.quoted.Quoted.take_marks.Goals as goal

-- the row is one part
pub returns-clause-marks : goal.returns-clause-marks
returns-clause-marks c =
    let P : Part → Type 0 = IsPartOf c.args.self.now.moved c.args.row.now in
    c.take_parts.ensures.marks c.args.row.now
    (All-cons P _ [] (part_of_all c.args.self.now.moved _ refl) (All-nil P))
