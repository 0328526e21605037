-- Every picture can be read, this clause too.
use Rattle.ariadne_picture.proofs.Reading.EveryReport.{every-traced}
use Rattle.ariadne_picture.proofs.laws.messages_have_rows_of_their_own.Goals as goal

pub returns : goal.returns
returns g c w r infos accepted law forward =
    let all = every-traced w r infos accepted forward law in
    (all.placing, all.reads.rows_belong_together, all.reads.each_message_has_one_row_of_its_own)
