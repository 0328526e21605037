use Rattle.serde_json.specs.View.{view}
use Rattle.ariadne_parse.specs.ParsedDiagnostics.{is_of_cargo, reads_rustc}
use Rattle.ariadne_parse.proofs.Handed.{again, both, not_first, not_second, nothing, now, others}
use Rattle.ariadne_parse.proofs.telling.parsed_by_value.Goals as goal
use Rattle.ariadne_parse.proofs.telling.parsed_by_value.Goals.{then-reads_rustc+else-is_of_cargo, else-reads_rustc}

-- a message that was handed on before
pub returns-then-branch : goal.returns-then-branch
returns-then-branch c =
    again c.args.format (view c.args.value.now) c.args.sent.now c.is_again.new.sent (c.in_ok-is_again.ensures.again c.if-branch.true)
    (c.in_ok-is_again.ensures.same c.if-branch.true)

-- diagnostics
pub returns-in-Some : goal.returns-in-Some
returns-in-Some c =
    now c.args.format (view c.args.value.now) c.args.sent.now c.is_again.new.sent c.in_ok-all.field-0 c.in-Some.all c.in-Some.is
    c.in_ok-all.ensures.parsed c.in_ok-all.ensures.all (c.in_ok-is_again.ensures.new c.if-branch.false)

-- none, of cargo's own
pub returns-in-None : goal.returns-in-None
returns-in-None c =
    others c.args.format (view c.args.value.now) c.args.sent.now c.is_again.new.sent c.in_ok-all.field-0 c.in-None.is
    c.in_ok-all.ensures.parsed (c.in_ok-is_again.ensures.new c.if-branch.false)
    (both (reads_rustc c.args.format) (is_of_cargo (view c.args.value.now)) c.reads_rustc.result c.is_of_cargo.result c.reads_rustc.ensures
    c.is_of_cargo.ensures c.if-reads_rustc.true c.if-is_of_cargo.true)

-- and of others
pub returns-in-None-2 : goal.returns-in-None-2
returns-in-None-2 c =
    elim c.if-reads_rustc.branch [
      | then-reads_rustc+else-is_of_cargo w ↦
          nothing c.args.format (view c.args.value.now) c.args.sent.now c.is_again.new.sent c.in_ok-all.field-0 c.in-None-2.is
          c.in_ok-all.ensures.parsed (c.in_ok-is_again.ensures.new c.if-branch.false)
          (not_second (reads_rustc c.args.format) (is_of_cargo (view c.args.value.now)) w.is_of_cargo.result w.is_of_cargo.ensures w.if-is_of_cargo.false)
      | else-reads_rustc w ↦
          nothing c.args.format (view c.args.value.now) c.args.sent.now c.is_again.new.sent c.in_ok-all.field-0 c.in-None-2.is
          c.in_ok-all.ensures.parsed (c.in_ok-is_again.ensures.new c.if-branch.false)
          (not_first (reads_rustc c.args.format) (is_of_cargo (view c.args.value.now)) c.reads_rustc.result c.reads_rustc.ensures w.if-reads_rustc.false)
    ]
