use Rattle.std.proofs.Common.{◌∙◌, ◌++◌, [], ◌∷◌, map, sym, ap, append-nil}
use Rattle.std.proofs.lemmas.Bool.{cond-true, cond-false}
use Rattle.ariadne_layout.specs.Cuts.{label_part}
use Rattle.ariadne_layout.proofs.cuts.push_part.Goals as goal

-- another label has no part
pub returns-then-not-is_asked : goal.returns-then-not-is_asked
returns-then-not-is_asked c =
    let off = sym c.is_asked.ensures ∙ c.if-not-is_asked.true in
    sym (append-nil c.args.list.now.items)
    ∙ ap (λ xs. c.args.list.now.items ++ map (label_part c.args.spans c.args.offset) xs) (sym (cond-false _ (c.args.label.now ∷ []) [] off))

-- one that is asked for has its own
pub returns : goal.returns
returns c =
    let on = sym c.is_asked.ensures ∙ c.if-not-is_asked.false in
    (c.in_ok-push.ensures).items
    ∙ (λ i. c.args.list.now.items ++ c.in_ok-part.ensures i ∷ [])
    ∙ ap (λ xs. c.args.list.now.items ++ map (label_part c.args.spans c.args.offset) xs) (sym (cond-true _ (c.args.label.now ∷ []) [] on))
