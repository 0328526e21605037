use Rattle.std.proofs.Common.{◌∙◌, ◌++◌, [], ◌∷◌, ap, sym, refl, map, append-nil, string_bytes}
use Rattle.std.specs.Prelude.{encode_utf8}
use Rattle.ariadne_edits.specs.Bodies.{mark_of}
use Rattle.ariadne_edits.proofs.Pushing.{appended_more, appended_all}
use Rattle.ariadne_edits.proofs.body.push_marked.Goals as goal

-- one sign more
pub loop-c-preserved : goal.loop-c-preserved
loop-c-preserved c =
    let out = string_bytes c.loop-c.out in
    appended_more (map mark_of) (map mark_of) _ _ _ _ _ (mark_of c.in-Some.c ∷ []) c.in-Some.c c.loop-c.invariant c.in-Some.ensures.steps.0 refl
    (c.in_ok-push.ensures.bytes ∙ ap (λ d. out ++ encode_utf8 d) c.mark_of.ensures ∙ ap (λ x. out ++ x) (sym (append-nil (encode_utf8 (mark_of c.in-Some.c)))))

pub returns : goal.returns
returns c = appended_all (map mark_of) _ _ _ c.loop-c.invariant refl c.in_default.ensures.steps.0.0
