use Rattle.std.proofs.Common.{sym}
use Rattle.std.proofs.lemmas.Str.{chars_from_encodes}
use Rattle.ariadne_base.specs.Listing.{listed_lines}
use Rattle.ariadne_base.specs.Locations.{line_text}
use Rattle.ariadne_edits.proofs.LineTexts.{found_there, found_is, missed_empty, some_and, of_some}
use Rattle.ariadne_edits.proofs.line.text_of.Goals as goal

-- a line of the source has its text
pub unwrap-requires : goal.unwrap-requires
unwrap-requires c =
    let ls = listed_lines c.args.source.now in
    let n = c.args.number in
    some_and c.get_line_text.result _
    (c.get_line_text.ensures.own n (found_there c.line.result ls n c.in-Some.line c.line.ensures c.in-Some.is)
    (found_is c.line.result ls n c.in-Some.line c.line.ensures c.in-Some.is))

pub returns-in-None : goal.returns-in-None
returns-in-None c = missed_empty c.line.result (listed_lines c.args.source.now) c.args.number c.line.ensures c.in-None.is

pub returns-in-Some : goal.returns-in-Some
returns-in-Some c =
    let ls = listed_lines c.args.source.now in
    let n = c.args.number in
    sym (chars_from_encodes (line_text ls n) c.unwrap.result.now c.unwrap.utf8
    (sym (of_some c.get_line_text.result _ c.unwrap.result
    (c.get_line_text.ensures.own n (found_there c.line.result ls n c.in-Some.line c.line.ensures c.in-Some.is)
    (found_is c.line.result ls n c.in-Some.line c.line.ensures c.in-Some.is)) c.unwrap.ensures)))
