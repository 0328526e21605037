use Rattle.std.proofs.Common.{◌≡◌, ◌∙◌, ◌-◌, ◌/◌, ◌≤◌, ◌<◌, ◌++◌, ap, drop, length, take, subst, string_bytes}
use Rattle.std.specs.Prelude.{encode_utf8_all, max, OnOk}
use Rattle.ariadne_edits.specs.Views.{columns_in, common_len, cut_behind, cut_in_front, front_shown}
use Rattle.ariadne_edits.proofs.Cuts.{fitted_parts, fitted_whole, rest_is, two_written}
use Rattle.ariadne_edits.proofs.cut.push_fitted.Goals as goal

-- both texts fit
pub returns-then-max-width : goal.returns-then-max-width
returns-then-max-width c =
    let most : c.max.result ≡ max (columns_in c.args.text.now) (columns_in c.args.other.now) =
    c.max.ensures ∙ ap (λ n. max n c.in_ok-columns_in-2.field-0) c.in_ok-columns_in.ensures ∙ ap (max (columns_in c.args.text.now)) c.in_ok-columns_in-2.ensures in
    rw (fitted_whole c.args.set c.args.width c.args.text.now c.args.other.now (subst (λ n. n ≤ c.args.width) most c.if-max-width.true)) c.push_chars.ensures

-- or one doesn't
pub returns : goal.returns
returns c =
    let set = c.args.set in
    let width = c.args.width in
    let text = c.args.text.now in
    let other = c.args.other.now in
    let k = common_len text other in
    let most : c.max.result ≡ max (columns_in text) (columns_in other) =
    c.max.ensures ∙ ap (λ n. max n c.in_ok-columns_in-2.field-0) c.in_ok-columns_in.ensures ∙ ap (max (columns_in text)) c.in_ok-columns_in-2.ensures in
    let same : c.common_len-common.result ≡ k = c.common_len-common.ensures.common in
    let front : string_bytes c.push_cut_in_front.new.out ≡ string_bytes c.args.out.now ++ encode_utf8_all (front_shown set width text other) =
    c.in_ok-columns.ensures.bytes ∙ ap (λ n. string_bytes c.args.out.now ++ encode_utf8_all (cut_in_front set (width / 2) (take n text))) same in
    let columns : c.in_ok-columns.columns ≡ columns_in (front_shown set width text other) =
    c.in_ok-columns.ensures.columns ∙ ap (λ n. columns_in (cut_in_front set (width / 2) (take n text))) same in
    let rest : take (length text - c.common_len-common.result) (drop c.common_len-common.result text) ≡ drop k text =
    rest_is text c.common_len-common.result ∙ ap (λ n. drop n text) same in
    let behind : cut_behind set (width - c.in_ok-columns.columns) (take (length text - c.common_len-common.result) (drop c.common_len-common.result text))
    ≡ cut_behind set (width - columns_in (front_shown set width text other)) (drop k text) =
    ap (λ n. cut_behind set (width - n) (take (length text - c.common_len-common.result) (drop c.common_len-common.result text))) columns
    ∙ ap (cut_behind set (width - columns_in (front_shown set width text other))) rest in
    rw (fitted_parts set width text other (subst (λ n. width < n) most c.if-max-width.false))
    (subst (λ x. OnOk c.push_cut_behind.result (string_bytes c.push_cut_behind.new.out ≡ x))
    (ap (λ x. string_bytes c.push_cut_in_front.new.out ++ encode_utf8_all x) behind
    ∙ two_written (string_bytes c.args.out.now) (front_shown set width text other) (cut_behind set (width - columns_in (front_shown set width text other)) (drop k text)) (string_bytes c.push_cut_in_front.new.out) front)
    c.push_cut_behind.ensures)
