use Rattle.std.proofs.Common.{◌∙◌, ap, map}
use Rattle.std.proofs.lemmas.List.Elements.{All-append, All-same}
use Rattle.ariadne_snippets.specs.Snippets.{covered, Covers}
use Rattle.ariadne_snippets.specs.declared.quoted.Quoted.{Quoted}
use Rattle.ariadne_snippets.specs.declared.taken.Mark.{Mark}
use Rattle.ariadne_snippets.proofs.Covering.{marks_by_extents}
use Rattle.ariadne_snippets.proofs.Parts.{extents_pushed, runs_all, runs_pushed}
use Rattle.ariadne_snippets.proofs.quoted.Quoted.take_parts.Goals as goal

-- those of one more part
pub loop-part-preserved : goal.loop-part-preserved
loop-part-preserved c =
    let self = c.args.self.now in
    let own = c.in-Some.own.items in
    let P : Mark → Type 0 = Covers self in
    let extents = (c.in_ok-covered.ensures).marks ∙ ap (map (covered self)) c.as_slice.ensures.value in (
      runs_pushed self.unit c.args.parts.now c.loop-part.part-index _ c.loop-part-test.true c.loop-part.runs.items own _
          (rw c.in-Some.is at (c.in_ok-own.ensures).runs) (c.in_ok-append-2.ensures).items c.loop-part.invariant.0,
      extents_pushed self c.loop-part.runs.items own _ c.loop-part.marks.items c.in_ok-covered.covered.items _
          (c.in_ok-append-2.ensures).items (c.in_ok-append.ensures).items c.loop-part.invariant.1 extents,
      All-same P c.append.new.self.items _ (c.in_ok-append.ensures).items
          (All-append P c.loop-part.marks.items c.in_ok-covered.covered.items c.loop-part.invariant.2 (c.in_ok-covered.ensures).cover),
    )

-- they are those of the runs of all parts
pub returns-clause-marks : goal.returns-clause-marks
returns-clause-marks c =
    λ row stand.
    let quoted : Quoted = record {
      number = c.args.self.now.number;
      quote = c.args.self.now.quote;
      unit = c.args.self.now.unit;
      moved = c.args.self.now.moved;
      runs = c.loop-part.runs;
      bars = c.clear.new.self;
    } in record {
      parts = c.args.parts.now;
      stand = stand;
      runs = runs_all c.args.self.now.unit c.args.parts.now c.loop-part.part-index c.loop-part-test.false c.loop-part.runs.items c.loop-part.invariant.0;
      each = marks_by_extents quoted c.loop-part.runs.items c.loop-part.marks.items c.loop-part.invariant.1;
      cover = λ k d lt. let is = c.loop-part.invariant.2 k d lt in record { some = is.some; line = is.line; bound = is.bound };
    }
