use Rattle.std.proofs.Common.{◌≡◌, ◌∙◌, ◌++◌, ap, sym, rules, false, string_bytes}
use Rattle.std.specs.Prelude.{encode_utf8_all}
use Rattle.ariadne_base.specs.Lines.{is_separator}
use Rattle.ariadne_edits.proofs.Bodies.{blanks_encoded, tab_shown}
use Rattle.ariadne_edits.proofs.body.push_shown.Goals as goal

-- a tab is spread
pub returns-in_ok-push_blanks-clause-bytes : goal.returns-in_ok-push_blanks-clause-bytes
returns-in_ok-push_blanks-clause-bytes c =
    let inside : is_separator c.args.c ≡ false = search rules in
    let tab : c.args.c ≡ 9 = search rules in
    c.in_ok-push_blanks.ensures
    ∙ ap (λ x. string_bytes c.args.out.now ++ x) (sym (blanks_encoded _) ∙ ap encode_utf8_all (sym (tab_shown c.args.tab_width c.args.column c.args.c inside tab)))
