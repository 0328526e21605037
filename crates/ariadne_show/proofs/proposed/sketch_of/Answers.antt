use Rattle.std.specs.Prelude.{None, Some}
use Rattle.ariadne_show.specs.FoundSpans.{files_of}
use Rattle.ariadne_show.specs.ReadFiles.{sources_in}
use Rattle.ariadne_show.proofs.Proposing.{file_unread, sketched_by}
use Rattle.ariadne_show.proofs.proposed.sketch_of.Goals as goal

-- its file was not read
pub returns-in_default : goal.returns-in_default
returns-in_default c =
    file_unread c.args.room (files_of c.args.shelf.now) (sources_in c.args.shelf.now) c.args.proposal.now
    c.as_str.result.now c.as_str.ensures.value (rw c.in_default.is at c.page_of.ensures)

-- its ways can't be shown
pub returns-in_default-2 : goal.returns-in_default-2
returns-in_default-2 c =
    sketched_by c.args.room (files_of c.args.shelf.now) (sources_in c.args.shelf.now) c.args.proposal.now
    c.as_str.result.now c.in-Some.held.now c.in-Some.source.now None c.as_str.ensures.value
    (rw c.in-Some.is at c.page_of.ensures) (rw c.in_default-2.is at c.in_ok-texts.ensures)

-- they can
pub returns : goal.returns
returns c =
    sketched_by c.args.room (files_of c.args.shelf.now) (sources_in c.args.shelf.now) c.args.proposal.now
    c.as_str.result.now c.in-Some.held.now c.in-Some.source.now (Some c.in-Some-2.texts) c.as_str.ensures.value
    (rw c.in-Some.is at c.page_of.ensures) (rw c.in-Some-2.is at c.in_ok-texts.ensures)
