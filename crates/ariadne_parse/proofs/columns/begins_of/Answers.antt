use Rattle.ariadne_parse.proofs.LineBegins.{begins_pushed, begins_kept, begins_whole}
use Rattle.ariadne_parse.proofs.columns.begins_of.Goals as goal
use Rattle.ariadne_parse.proofs.columns.begins_of.Goals.{then-c-eq10+in_ok-push, else-c-eq10}

-- one more behind a line feed
pub loop-span-preserved : goal.loop-span-preserved
loop-span-preserved c =
    elim c.if-c-eq10.branch [
      | then-c-eq10+in_ok-push w ↦
          rw w.begins-is (begins_pushed c.args.text.now c.loop-span.span c.index-text-span.result c.loop-span-test.true c.index-text-span.is
          c.loop-span.begins.items c.loop-span.invariant w.push.new.self.items w.if-c-eq10.true (w.in_ok-push.ensures).items)
      | else-c-eq10 w ↦
          rw w.begins-is (begins_kept c.args.text.now c.loop-span.span c.index-text-span.result c.loop-span-test.true c.index-text-span.is
          c.loop-span.begins.items c.loop-span.invariant w.if-c-eq10.false)
    ]

-- none is left at the end
pub returns : goal.returns
returns c = begins_whole c.args.text.now c.loop-span.span c.loop-span.begins.items c.loop-span-test.false c.loop-span.invariant
