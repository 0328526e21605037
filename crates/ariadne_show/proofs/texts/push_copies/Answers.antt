use Rattle.std.proofs.Common.{◌≡◌, ◌∙◌, ◌+◌, ◌++◌, ◌∷◌, [], ap, append-nil, refl, sym, take}
use Rattle.std.proofs.lemmas.List.{take_more}
use Rattle.std.specs.Prelude.{string_bytes}
use Rattle.ariadne_show.specs.TextDiagnostics.{said_texts}
use Rattle.ariadne_show.proofs.Said.{and_more, texts_more}
use Rattle.ariadne_show.proofs.texts.push_copies.Goals as goal

-- none at first
pub loop-text-init : goal.loop-text-init
loop-text-init c = sym (append-nil (said_texts c.args.texts.now.items))

-- one text more in each turn
pub loop-text-preserved : goal.loop-text-preserved
loop-text-preserved c =
    let i = c.loop-text.text-index in
    let all = c.args.all.now in
    let text = c.text-item.result in
    let copy = c.in_ok-clone.field-0 in
    let more : take (i + 1) all ≡ take i all ++ text ∷ [] =
    take_more all i text c.loop-text-test.true ∙ ap (λ x. take i all ++ x ∷ []) (sym c.text-item.is) in
    and_more (said_texts c.args.texts.now.items) (said_texts c.loop-text.texts.items) (said_texts c.push.new.self.items)
    (said_texts (take i all)) (string_bytes copy ∷ []) (said_texts (take (i + 1) all)) c.loop-text.invariant
    (texts_more c.loop-text.texts.items c.push.new.self.items copy (string_bytes copy) c.in_ok-push.ensures.items refl)
    (sym (texts_more (take i all) (take (i + 1) all) text (string_bytes copy) more c.in_ok-clone.ensures.cases))
