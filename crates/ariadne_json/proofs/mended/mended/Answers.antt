use Rattle.std.proofs.Common.{◌∙◌, ap, arith, sym}
use Rattle.ariadne_json.specs.Pieces.{piece_len}
use Rattle.ariadne_json.proofs.Parts.{depth_low, piece_end, piece_on}
use Rattle.ariadne_json.proofs.mended.mended.Goals as goal

-- one piece more in each turn
pub loop-first-preserved : goal.loop-first-preserved
loop-first-preserved c =
    let begun = c.in-Some.ensures.cases.0 in
    let long = c.in-Some.ensures.cases.1 in record {
      written = piece_on c.loop-first.out.items c.loop-first.rest.now _ c.loop-first.depth c.loop-first.invariant.written
          c.push_piece.new.out.items c.split_at.result.0.now c.split_at.result.1.now c.in-Some.others.now c.in-Some.first.now
          c.depth_behind-depth.result c.piece_len.result c.in_ok-push_piece.ensures c.split_at.ensures.front c.split_at.ensures.back
          (c.piece_len.ensures.len ∙ ap piece_len (sym begun)) begun c.depth_behind-depth.ensures;
      low = omega (arith, c.depth_behind-depth.ensures, depth_low c.loop-first.depth c.in-Some.first.now, c.split_at.ensures.back_len, c.piece_len.ensures.some);
    }

-- nothing is left at the end
pub returns : goal.returns
returns c =
    piece_end c.loop-first.out.items c.loop-first.rest.now _ c.loop-first.depth c.loop-first.invariant.written c.in_default.ensures.cases
