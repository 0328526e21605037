use Rattle.std.proofs.Common.{◌∙◌, false, true, refl, sym, arith}
use Rattle.ariadne_blocks.proofs.Said.{said_beside, said_own, text_empty}
use Rattle.std.specs.Prelude.{string_bytes}
use Rattle.ariadne_blocks.proofs.spans.say_at.Goals as goal

-- nothing was said yet
pub returns-then-is_empty-2 : goal.returns-then-is_empty-2
returns-then-is_empty-2 c =
    let x = c.index_mut.result.now in
    said_own (string_bytes c.args.text) c.args.number c.args.spans.now.items c.index.result.now x
    (record x { text = c.args.text }) (text_empty c.args.text false (sym c.is_empty.ensures ∙ c.if-is_empty.false))
    (let inside = c.args.spans.now.ok.0 in omega arith) c.index.ensures c.index_mut.ensures.value
    (text_empty c.index.result.now.text true (sym c.is_empty-2.ensures ∙ c.if-is_empty-2.true)) refl

-- something was
pub returns : goal.returns
returns c =
    said_beside (string_bytes c.args.text) c.args.number c.args.spans.now.items c.push.new.self.items c.index.result.now
    c.index-2.result.now c.in_ok-beside.beside (text_empty c.args.text false (sym c.is_empty.ensures ∙ c.if-is_empty.false))
    (let inside = c.args.spans.now.ok.0 in omega arith) c.index.ensures c.index-2.ensures
    (text_empty c.index.result.now.text false (sym c.is_empty-2.ensures ∙ c.if-is_empty-2.false)) c.in_ok-beside.ensures
    c.in_ok-push.ensures.items
