use Rattle.std.proofs.Common.{◌∙◌, ap, sym, refl, inl, inr, Some}
use Rattle.serde_json.specs.View.{view}
use Rattle.ariadne_matcher_tables.specs.Editors.{IsOfRow}
use Rattle.ariadne_matcher_tables.proofs.RowFaults.{handed_on}
use Rattle.ariadne_matcher_tables.proofs.editor.row.Goals as goal

-- there is no text
pub returns-in_err-regexp-clause-fault : goal.returns-in_err-regexp-clause-fault
returns-in_err-regexp-clause-fault c =
    handed_on (IsOfRow (view c.args.given.now)) c.from_residual.result c.in_err-regexp.field-0.0 c.from_residual.ensures.1
    (inl c.in_err-regexp.ensures.fault)

-- it is no regular expression
pub returns-in_err-pattern-clause-fault : goal.returns-in_err-pattern-clause-fault
returns-in_err-pattern-clause-fault c =
    handed_on (IsOfRow (view c.args.given.now)) c.from_residual-in_err-pattern.result c.in_err-pattern.field-0.0
    c.from_residual-in_err-pattern.ensures.1
    (inr (inl (c.in_ok-regexp.field-0.now, sym c.in_ok-regexp.ensures.text, c.in_err-pattern.ensures.fault)))

-- a group is wrong
pub returns-in_err-groups-clause-fault : goal.returns-in_err-groups-clause-fault
returns-in_err-groups-clause-fault c =
    let source = c.in_ok-pattern.ensures.pattern in
    handed_on (IsOfRow (view c.args.given.now)) c.from_residual-in_err-groups.result c.in_err-groups.field-0.0
    c.from_residual-in_err-groups.ensures.1
    (inr (inr (
      c.in_ok-pattern.pattern,
      sym c.in_ok-regexp.ensures.text ∙ ap Some (sym source.source),
      record { source = refl; config = source.config; read = source.read },
      c.in_err-groups.ensures.fault,
    )))
