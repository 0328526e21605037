use Rattle.std.proofs.Common.{◌∙◌, ◌++◌, ◌∷◌, [], ap, append-nil, refl, rules, sym}
use Rattle.ariadne_show.specs.TextDiagnostics.{said_texts}
use Rattle.ariadne_show.proofs.Said.{no_span, one_span, texts_more}
use Rattle.ariadne_show.proofs.texts.push_span.Goals as goal

-- a span that says nothing adds nothing
pub returns-then-is_empty : goal.returns-then-is_empty
returns-then-is_empty c =
    sym (append-nil (said_texts c.args.texts.now.items))
    ∙ ap (λ l. said_texts c.args.texts.now.items ++ l) (sym (no_span c.args.span.now (search rules)))

-- another adds its text
pub returns : goal.returns
returns c =
    texts_more c.args.texts.now.items c.push.new.self.items _ _ c.in_ok-push.ensures.items refl
    ∙ ap (λ t. said_texts c.args.texts.now.items ++ t ∷ []) (search rules)
    ∙ ap (λ l. said_texts c.args.texts.now.items ++ l) (sym (one_span c.args.span.now (search rules)))
