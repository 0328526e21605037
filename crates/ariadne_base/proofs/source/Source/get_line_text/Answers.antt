use Rattle.std.proofs.Common.{ap, ◌∙◌, subst}
use Rattle.std.specs.Str.{IsUtf8}
use Rattle.ariadne_base.specs.Listing.{listed_lines}
use Rattle.ariadne_base.specs.Locations.{line_text}
use Rattle.ariadne_base.proofs.CutOut.{IsMiddle, line_middle}
use Rattle.ariadne_base.proofs.source.Source.get_line_text.Goals as goal
use Rattle.ariadne_base.proofs.source.Source.get_line_text.Goals.{else-is_char_boundary-via-then-is_char_boundary+else-is_char_boundary-2}
use Rattle.ariadne_base.proofs.source.Source.get_line_text.Goals.{else-is_char_boundary-via-else-is_char_boundary}

-- the bytes of a line are its text
pub returns-then-is_char_boundary-2-clause-own : goal.returns-then-is_char_boundary-2-clause-own
returns-then-is_char_boundary-2-clause-own g c = λ n h e.
    let utf8 : IsUtf8 c.args.self.now.text = subst IsUtf8 c.text-text.ensures c.text-text.utf8 in
    let line = c.line.view_is ∙ e in
    let at : IsMiddle c.text-text.result.now c.line.inside.byte_offset c.line.inside.byte_len (line_text (listed_lines c.args.self.now) n) =
    rw (c.text-text.ensures, ap (λ r. r.byte_offset) line, ap (λ r. r.byte_len) line) (line_middle c.args.self.now.text utf8 n h) in
    c.range.ensures.value ∙ at.is

-- the bytes of a line are whole characters, so neither test fails
pub returns-else-is_char_boundary-clause-own : goal.returns-else-is_char_boundary-clause-own
returns-else-is_char_boundary-clause-own g c = λ n h e.
    let utf8 : IsUtf8 c.args.self.now.text = subst IsUtf8 c.text-text.ensures c.text-text.utf8 in
    let line = c.line.view_is ∙ e in
    let at : IsMiddle c.text-text.result.now c.line.inside.byte_offset c.line.inside.byte_len (line_text (listed_lines c.args.self.now) n) =
    rw (c.text-text.ensures, ap (λ r. r.byte_offset) line, ap (λ r. r.byte_len) line) (line_middle c.args.self.now.text utf8 n h) in
    elim c.else-is_char_boundary.branch [
      | else-is_char_boundary-via-then-is_char_boundary+else-is_char_boundary-2 w ↦
          let t = w.is_char_boundary-then-is_char_boundary.ensures.test.1 at.whole.1 in
          let f = w.if-is_char_boundary-2.false in cc
      | else-is_char_boundary-via-else-is_char_boundary w ↦ let t = c.is_char_boundary.ensures.test.1 at.whole.0 in
          let f = w.if-is_char_boundary.false in cc
    ]
