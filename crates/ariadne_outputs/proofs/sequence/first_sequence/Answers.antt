use Rattle.std.proofs.Common.{ap, sym, subst, ◌∙◌, ◌≡◌, take, drop, arith, lit<, Some}
use Rattle.std.specs.Prelude.{option_map}
use Rattle.std.specs.List.{prefix_len}
use Rattle.std.specs.Str.{IsUtf8}
use Rattle.std.proofs.lemmas.Str.{IsCharBoundary-start}
use Rattle.std.proofs.lemmas.Str.Pattern.{strip_prefix_char}
use Rattle.ariadne_outputs.specs.SequenceViews.{sequence_of}
use Rattle.ariadne_outputs.specs.Sequences.{ended, is_of_parameters}
use Rattle.ariadne_outputs.proofs.CharLemmas.{back_is, front_is, run_boundary}
use Rattle.ariadne_outputs.proofs.CharSequences.{of_parameters_low}
use Rattle.ariadne_outputs.proofs.SequenceLemmas.{behind_bracket, no_bracket}
use Rattle.ariadne_outputs.proofs.sequence.first_sequence.Goals as goal

-- no bracket stands there
pub returns-in_err-inner : goal.returns-in_err-inner
unfolding lib.Utf8.encode
returns-in_err-inner c =
    ap (option_map sequence_of) c.from_residual.ensures ∙ sym (no_bracket c.args.text.now c.in_err-inner.ensures.cases)

-- parameters may be cut off
pub returns-in_err-get : goal.returns-in_err-get
returns-in_err-get c =
    let end : c.parameters_length-end.result ≡ prefix_len is_of_parameters c.in_ok-inner.inner.now =
    c.parameters_length-end.ensures ∙ ap (prefix_len is_of_parameters) c.as_bytes.ensures.value in
    let u : IsUtf8 c.in_ok-inner.inner.now = subst IsUtf8 c.as_bytes.ensures.value c.as_bytes.ensures.utf8 in
    absurd
    (c.in_err-get.ensures.cases (omega arith) (IsCharBoundary-start c.in_ok-inner.inner.now u)
    (run_boundary is_of_parameters of_parameters_low c.in_ok-inner.inner.now c.parameters_length-end.result end u))

-- what stands behind the bracket is a sequence, or none is
pub returns : goal.returns
returns c =
    let inner = c.in_ok-inner.inner.now in
    let end : c.parameters_length-end.result ≡ prefix_len is_of_parameters inner =
    c.parameters_length-end.ensures ∙ ap (prefix_len is_of_parameters) c.as_bytes.ensures.value in
    let front : c.in_ok-get.field-0.now ≡ take (prefix_len is_of_parameters inner) inner =
    c.in_ok-get.ensures.cases.0 ∙ front_is inner c.parameters_length-end.result ∙ ap (λ n. take n inner) end in
    let back : c.in_ok-get-2.field-0.now ≡ drop (prefix_len is_of_parameters inner) inner =
    c.in_ok-get-2.ensures.cases.0 ∙ back_is inner c.parameters_length-end.result ∙ ap (λ n. drop n inner) end in
    c.ended.ensures ∙ ap (λ t. ended t c.in_ok-get-2.field-0.now) front
    ∙ ap (λ t. ended (take (prefix_len is_of_parameters inner) inner) t) back
    ∙ behind_bracket c.args.text.now inner
    (strip_prefix_char 91 c.args.text.now (Some c.in_ok-inner.inner) c.in_ok-inner.ensures.cases (lit< tt))
