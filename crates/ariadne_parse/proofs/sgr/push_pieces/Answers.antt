use Rattle.std.proofs.Common.{rules}
use Rattle.std.specs.Prelude.{string_bytes}
use Rattle.std.specs.Str.{IsUtf8}
use Rattle.ariadne_parse.proofs.Outcomes.{on_ok}
use Rattle.ariadne_parse.proofs.Splits.{last_piece, one_piece, split_shorter}
use Rattle.ariadne_parse.proofs.sgr.push_pieces.Goals as goal

pub loop-piece-smaller : goal.loop-piece-smaller
loop-piece-smaller c = split_shorter 27 c.loop-piece.rest.now c.in-Some.piece.now c.in-Some.behind.now c.in-Some.ensures

pub loop-piece-preserved : goal.loop-piece-preserved
loop-piece-preserved c =
    let text : IsUtf8 c.in-Some.behind.now = search rules in
    record {
      is_text = text;
      same = one_piece (string_bytes c.loop-piece.bare) (string_bytes c.push_piece.new.bare) c.loop-piece.rest.now c.in-Some.piece.now
          c.in-Some.behind.now _ c.in-Some.ensures c.in_ok-push_piece.ensures c.loop-piece.invariant.same;
    }

-- the last piece
pub returns : goal.returns
returns c =
    on_ok c.push_piece-2.result _ _
    (λ pushed.
    last_piece (string_bytes c.loop-piece.bare) (string_bytes c.push_piece-2.new.bare) c.loop-piece.rest.now _ c.in_default.ensures pushed
    c.loop-piece.invariant.same)
    c.push_piece-2.ensures
