use Rattle.std.proofs.Common.{◌∙◌, ap, sym}
use Rattle.std.proofs.lemmas.Result.{on_ok_weaker}
use Rattle.ariadne_parse.specs.FixRows.{fix_row_parsed}
use Rattle.ariadne_blocks.specs.Blocks.{view_of}
use Rattle.ariadne_blocks.specs.FixChanges.{is_parsed_in}
use Rattle.ariadne_blocks.proofs.Changed.{help_is, parsed_already, parsed_now}
use Rattle.ariadne_blocks.proofs.block.Block.add_help_of_row.Goals as goal

-- a row above told it
pub returns-then-is_parsed : goal.returns-then-is_parsed
returns-then-is_parsed c =
    let row = fix_row_parsed c.args.row.now in
    let fix = c.fix_of-fix.result in
    parsed_already row (view_of c.args.self.now) fix.kind fix.text.now c.args.text.now
    c.fix_of-fix.ensures.kind
    (sym (c.is_parsed.ensures ∙ ap (λ cs. is_parsed_in cs fix.at.line fix.kind fix.text.now) c.as_slice.ensures.value
    ∙ ap (λ n. is_parsed_in c.args.self.now.changes.items n fix.kind fix.text.now) c.fix_of-fix.ensures.line)
    ∙ c.if-is_parsed.true)

-- or none did
pub returns : goal.returns
returns c =
    let row = fix_row_parsed c.args.row.now in
    let fix = c.fix_of-fix.result in
    on_ok_weaker c.add_change.result
    (λ view. view
    ∙ help_is row fix.kind fix.text.now _ _ (view_of c.add_reason.new.self) (view_of c.args.self.now) _
    (c.in_ok-change.ensures) c.fix_of-fix.ensures.line c.column_of.ensures c.in_ok-add_reason.ensures.view
    ∙ parsed_now row (view_of c.args.self.now) fix.kind fix.text.now c.args.text.now
    c.fix_of-fix.ensures.kind
    (sym (c.is_parsed.ensures ∙ ap (λ cs. is_parsed_in cs fix.at.line fix.kind fix.text.now) c.as_slice.ensures.value
    ∙ ap (λ n. is_parsed_in c.args.self.now.changes.items n fix.kind fix.text.now) c.fix_of-fix.ensures.line)
    ∙ c.if-is_parsed.false))
    c.add_change.ensures.view
