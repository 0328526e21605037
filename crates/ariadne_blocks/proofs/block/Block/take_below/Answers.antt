use Rattle.std.proofs.Common.{◌≡◌, Some, true}
use Rattle.std.specs.Prelude.{option_map}
use Rattle.std.proofs.lemmas.Result.{IfOk-weaker}
use Rattle.ariadne_blocks.specs.Blocks.{file_span, of_event, of_file, of_frame, of_no_span, of_snippet, view_of, with_text, IsRow, IsRowOf}
use Rattle.ariadne_blocks.specs.Events.{event_in, frame, in_file, quoting, telling}
use Rattle.ariadne_blocks.specs.Files.{file_of}
use Rattle.ariadne_blocks.specs.declared.block.Aside.TheVariants as aside
use Rattle.ariadne_blocks.proofs.block.Block.take_below.Goals as goal

-- a row of events tells nothing
pub returns-in-Some-Frame-clause-row : goal.returns-in-Some-Frame-clause-row
returns-in-Some-Frame-clause-row c =
    let parsed : event_in c.args.line.text.now ≡ Some frame = rw c.in-Some-Frame.field-0-is at c.in-Some-Frame.ensures in
    IfOk-weaker c.take_frame.result
    (λ is_row. is_row ≡ true
    → IsRowOf (option_map file_of c.args.file) c.args.line.text.now c.args.self.now c.take_frame.new.self)
    (λ is_row. is_row ≡ true → IsRow (option_map file_of c.args.file) c.args.line c.args.self.now c.take_frame.new.self)
    (λ is_row row yes. of_snippet (of_frame parsed) (row yes))
    c.take_frame.ensures.row

-- or names a file
pub returns-in-Some-File-clause-row : goal.returns-in-Some-File-clause-row
returns-in-Some-File-clause-row c =
    let path = c.in-Some-File.path.now in
    let parsed : event_in c.args.line.text.now ≡ Some (in_file path) = rw c.in-Some-File.field-0-is at c.in-Some-File.ensures in
    IfOk-weaker c.take_file.result
    (λ is_row. is_row ≡ true
    → view_of c.take_file.new.self ≡ record (view_of c.args.self.now) { named = Some (file_span path) })
    (λ is_row. is_row ≡ true → IsRow (option_map file_of c.args.file) c.args.line c.args.self.now c.take_file.new.self)
    (λ is_row named yes. of_file parsed (named yes))
    c.take_file.ensures.file

-- or tells an event that is at no span
pub returns-in-Some-Telling-clause-row : goal.returns-in-Some-Telling-clause-row
returns-in-Some-Telling-clause-row c =
    let event = c.in-Some-Telling.event.now in
    let parsed : event_in c.args.line.text.now ≡ Some (telling event) = rw c.in-Some-Telling.field-0-is at c.in-Some-Telling.ensures in
    IfOk-weaker c.take_event.result
    (λ is_row. is_row ≡ true → view_of c.take_event.new.self ≡ with_text aside.Note event (view_of c.args.self.now))
    (λ is_row. is_row ≡ true → IsRow (option_map file_of c.args.file) c.args.line c.args.self.now c.take_event.new.self)
    (λ is_row noted yes. of_no_span parsed (noted yes))
    c.take_event.ensures.parsed

-- or stands behind a bar
pub returns-in-Some-Quoting-clause-row : goal.returns-in-Some-Quoting-clause-row
returns-in-Some-Quoting-clause-row c =
    let row = c.in-Some-Quoting.row.now in
    let parsed : event_in c.args.line.text.now ≡ Some (quoting row) = rw c.in-Some-Quoting.field-0-is at c.in-Some-Quoting.ensures in
    IfOk-weaker c.take_text.result
    (λ is_row. is_row ≡ true → IsRowOf (option_map file_of c.args.file) row c.args.self.now c.take_text.new.self)
    (λ is_row. is_row ≡ true → IsRow (option_map file_of c.args.file) c.args.line c.args.self.now c.take_text.new.self)
    (λ is_row taken yes. of_snippet (of_event parsed) (taken yes))
    c.take_text.ensures.row
