use Rattle.std.proofs.Common.{◌≡◌, ◌∙◌, ap, arith}
use Rattle.std.proofs.lemmas.Str.{IsCharBoundary-end, IsCharBoundary-start}
use Rattle.ariadne_snippets.specs.RowPieces.{digits_in}
use Rattle.ariadne_snippets.proofs.Texts.{digits_boundary, no_number, a_number}
use Rattle.ariadne_snippets.proofs.pieces.number.Goals as goal

pub returns-in_err-get : goal.returns-in_err-get
returns-in_err-get c =
    let end : c.digits-end.result ≡ digits_in c.args.text.now = c.digits-end.ensures ∙ ap digits_in c.as_bytes.ensures.value in
    absurd
    (c.in_err-get.ensures.cases (omega arith) (IsCharBoundary-start c.args.text.now c.utf8.text)
    (digits_boundary c.args.text.now c.digits-end.result end c.utf8.text))

pub returns-in_err-number : goal.returns-in_err-number
returns-in_err-number c =
    let end : c.digits-end.result ≡ digits_in c.args.text.now = c.digits-end.ensures ∙ ap digits_in c.as_bytes.ensures.value in
    rw c.from_residual-in_err-number.ensures
    (no_number c.args.text.now c.in_ok-get.field-0.now c.digits-end.result c.parse.result end c.in_ok-get.ensures.cases.0
    c.parse.ensures.value.0 c.in_err-number.ensures.value)

pub returns-in_err-get-2 : goal.returns-in_err-get-2
returns-in_err-get-2 c =
    let end : c.digits-end.result ≡ digits_in c.args.text.now = c.digits-end.ensures ∙ ap digits_in c.as_bytes.ensures.value in
    let boundary = digits_boundary c.args.text.now c.digits-end.result end c.utf8.text in
    absurd (c.in_err-get-2.ensures.cases boundary.0 boundary (IsCharBoundary-end c.args.text.now))

pub returns : goal.returns
returns c =
    let end : c.digits-end.result ≡ digits_in c.args.text.now = c.digits-end.ensures ∙ ap digits_in c.as_bytes.ensures.value in
    a_number c.args.text.now c.in_ok-get.field-0.now c.in_ok-get-2.field-0.now c.digits-end.result c.in_ok-number.number
    c.parse.result end c.in_ok-get.ensures.cases.0 c.in_ok-get-2.ensures.cases.0 c.parse.ensures.value.0
    c.in_ok-number.ensures.value
