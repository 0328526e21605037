use Rattle.std.proofs.Common.{arith, refl}
use Rattle.std.proofs.lemmas.Str.{IsCharBoundary-start}
use Rattle.ariadne_parse.specs.Heads.{head_behind, head_in}
use Rattle.ariadne_parse.specs.ParsedLines.{head_parsed}
use Rattle.ariadne_parse.proofs.Texts.{read_later, read_there}
use Rattle.ariadne_parse.proofs.lines.parsed_at_colon.Goals as goal

pub loop-turn-init : goal.loop-turn-init
unfolding head_in
loop-turn-init c = record { is_boundary = IsCharBoundary-start c.args.line.now c.utf8.line; same = refl }

-- the line tells something at this colon
pub returns-in-Some : goal.returns-in-Some
returns-in-Some c =
    read_there head_behind c.args.line.now c.in_ok-file.file.now c.in_ok-file.text.now c.loop-turn.from c.in_ok-file.next c.loop-turn.turn
    (head_in c.args.line.now) (head_parsed c.in-Some.parsed) c.in_ok-file.ensures (omega arith) c.loop-turn.invariant.same c.in-Some.ensures

-- it tells nothing there
pub loop-turn-preserved : goal.loop-turn-preserved
loop-turn-preserved c = record {
  is_boundary = c.in_ok-file.ensures.is_boundary;
  same = read_later head_behind c.args.line.now c.in_ok-file.file.now c.in_ok-file.text.now c.loop-turn.from c.in_ok-file.next
      c.loop-turn.turn (head_in c.args.line.now) c.in_ok-file.ensures (omega arith) c.loop-turn.invariant.same c.in-None.ensures;
}
