use Rattle.std.specs.Prelude.{◌≡◌, drop}
use Rattle.serde_json.specs.View.{items_view}
use Rattle.ariadne_sarif.specs.SarifLogs.{rule_with}
use Rattle.ariadne_sarif.proofs.sarif_rules.rule_with.Given as goal

-- the first of those that are left is the first of all
abbrev pub invariant-loop-rule : goal.invariant-loop-rule
invariant-loop-rule l =
    rule_with l.id (items_view (drop l.rule-index l.rules)) ≡ rule_with l.fn.id (items_view l.fn.rules)
