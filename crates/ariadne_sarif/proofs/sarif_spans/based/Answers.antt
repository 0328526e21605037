use Rattle.std.proofs.Common.{◌∙◌, ◌+◌, ◌-◌, ap, arith, sym, List, ℕ}
use Rattle.std.specs.Prelude.{codes, string_bytes}
use Rattle.serde_json.specs.View.{view}
use Rattle.ariadne_parse.specs.Members.{words_at}
use Rattle.ariadne_sarif.specs.SarifSpans.{based as followed}
use Rattle.ariadne_sarif.specs.Uris.{joined}
use Rattle.ariadne_sarif.proofs.Based.{based_end, based_last, based_next}
use Rattle.ariadne_sarif.proofs.sarif_spans.based.Goals as goal

-- no base is named
pub returns-in_default : goal.returns-in_default
returns-in_default c =
    sym (based_last (8 - c.loop-turn.turn) (view c.args.run.now) (view c.loop-turn.at.now) (string_bytes c.loop-turn.uri) (sym c.in_default.ensures))
    ∙ c.loop-turn.invariant

-- one is
pub loop-turn-preserved : goal.loop-turn-preserved
loop-turn-preserved c =
    let left : ℕ = 8 - (c.loop-turn.turn + 1) in
    ap (λ (u : List ℕ). followed left (view c.args.run.now) (view c.in-Some.base.now) u)
    (c.in_ok-uri-2.ensures
    ∙ ap (λ (b : List ℕ). joined b c.as_str.result.now) c.words-in-loop-turn.ensures
    ∙ ap (λ (u : List ℕ). joined (words_at (codes "uri") (view c.in-Some.base.now)) u) c.as_str.ensures.value)
    ∙ sym (based_next (8 - c.loop-turn.turn) left (view c.args.run.now) (view c.loop-turn.at.now) (view c.in-Some.base.now)
    (string_bytes c.loop-turn.uri) (omega arith) (sym c.in-Some.ensures))
    ∙ c.loop-turn.invariant

-- no more are followed
pub returns : goal.returns
returns c =
    sym (based_end (8 - c.loop-turn.turn) (view c.args.run.now) (view c.loop-turn.at.now) (string_bytes c.loop-turn.uri) (omega arith))
    ∙ c.loop-turn.invariant
