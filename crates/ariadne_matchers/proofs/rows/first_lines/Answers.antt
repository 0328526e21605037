use Rattle.std.proofs.Common.{◌≡◌, ◌∙◌, ap, length, min, rules, sym, take}
use Rattle.std.proofs.lemmas.List.{take-map, take_min}
use Rattle.ariadne_matchers.specs.MatchedRows.{texts}
use Rattle.ariadne_matchers.proofs.rows.first_lines.Goals as goal

-- the first of them look like the first of what the lines look like
pub returns : goal.returns
returns c =
    let at : c.min.result ≡ min 64 (length c.args.lines.now) = search rules in
    ap (λ n. texts (take n c.args.lines.now)) at ∙ ap texts (take_min 64 c.args.lines.now)
    ∙ sym (take-map (λ line. line.now) 64 c.args.lines.now)
