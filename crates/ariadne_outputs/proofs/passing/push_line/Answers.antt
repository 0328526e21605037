use Rattle.std.proofs.Common.{◌≡◌, ◌∙◌, ◌++◌, OnOk, Some, None, [], ap, append-nil, cond, codes, ◌∷◌, lit<, string_bytes, subst, sym}
use Rattle.std.proofs.lemmas.Str.Pattern.{split_parts}
use Rattle.ariadne_outputs.proofs.Passed.{line_added, line_of_text}
use Rattle.ariadne_outputs.proofs.passing.push_line.Goals as goal

-- a line that has no escape character
pub returns-in_default : goal.returns-in_default
returns-in_default c =
    let none = split_parts 27 c.args.line.now None c.in_default.ensures.cases (lit< tt) in
    subst (λ t. OnOk c.push_visible.result (string_bytes c.push_visible.new.shown ≡ string_bytes c.args.shown.now ++ t))
    (sym (line_of_text c.args.colors c.args.line.now c.utf8.line none)) c.push_visible.ensures

-- one that would leave letters painted
pub returns-in_ok-push_str : goal.returns-in_ok-push_str
returns-in_ok-push_str c =
    let parts = split_parts 27 c.args.line.now (Some (c.in-Some.front, c.in-Some.behind)) c.in-Some.ensures.cases (lit< tt) in
    line_added c.args.colors c.args.line.now c.in-Some.front.now c.in-Some.behind.now (string_bytes c.args.shown.now)
    (string_bytes c.push_visible-2.new.shown) (string_bytes c.push_parts.new.shown) (string_bytes c.push_str.new.self)
    c.in_ok-push_parts.field-0 c.utf8.line parts.0 parts.1 c.in_ok-push_visible.ensures c.in_ok-push_parts.ensures
    (c.in_ok-push_str.ensures.bytes
    ∙ ap (λ b. string_bytes c.push_parts.new.shown ++ cond b (27 ∷ codes "[0m") []) (sym c.if-branch.true))

-- one that leaves none
pub returns-else-branch : goal.returns-else-branch
returns-else-branch c =
    let parts = split_parts 27 c.args.line.now (Some (c.in-Some.front, c.in-Some.behind)) c.in-Some.ensures.cases (lit< tt) in
    line_added c.args.colors c.args.line.now c.in-Some.front.now c.in-Some.behind.now (string_bytes c.args.shown.now)
    (string_bytes c.push_visible-2.new.shown) (string_bytes c.push_parts.new.shown) (string_bytes c.push_parts.new.shown)
    c.in_ok-push_parts.field-0 c.utf8.line parts.0 parts.1 c.in_ok-push_visible.ensures c.in_ok-push_parts.ensures
    (sym (append-nil (string_bytes c.push_parts.new.shown))
    ∙ ap (λ b. string_bytes c.push_parts.new.shown ++ cond b (27 ∷ codes "[0m") []) (sym c.if-branch.false))
