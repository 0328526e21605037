-- Every picture can be read, this clause too.
use Rattle.ariadne_picture.proofs.Reading.EveryReport.{every-traced}
use Rattle.ariadne_picture.proofs.laws.lone_lines_are_underlined.Goals as goal

pub returns : goal.returns
returns g c w r infos accepted law forward =
    let all = every-traced w r infos accepted forward law in
    (all.placing, all.reads.rows_belong_together, all.lines_without_messages_are_underlined)
