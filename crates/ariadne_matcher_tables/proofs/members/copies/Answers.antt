use Rattle.std.proofs.Common.{◌≡◌, ◌∙◌, ◌+◌, ◌++◌, ◌∷◌, [], ap, drop, map, string_bytes, sym, Some}
use Rattle.std.proofs.lemmas.List.{map-append}
use Rattle.toml.specs.Data.{as_str}
use Rattle.toml.specs.View.{items_view, view}
use Rattle.ariadne_matcher_tables.specs.TableMembers.{texts_in}
use Rattle.ariadne_matcher_tables.proofs.Texts.{texts_all, texts_behind, texts_more, texts_none}
use Rattle.ariadne_matcher_tables.proofs.members.copies.Goals as goal

-- one is no text
pub returns-in-None : goal.returns-in-None
returns-in-None c =
    texts_none c.args.given.now (map string_bytes c.loop-value.all.items) c.loop-value.value-index c.loop-value.invariant c.value-item.result
    c.loop-value-test.true (c.in-None.ensures ∙ ap (λ v. as_str (view v)) c.value-item.is)

-- one more
pub loop-value-preserved : goal.loop-value-preserved
loop-value-preserved c =
    let s = c.in_ok-from_str-in-Some.field-0 in
    let items : map string_bytes c.push.new.self.items ≡ map string_bytes c.loop-value.all.items ++ string_bytes s ∷ [] =
    ap (map string_bytes) c.in_ok-push-in-Some.ensures.items ∙ map-append string_bytes c.loop-value.all.items (s ∷ []) in
    texts_more c.args.given.now (map string_bytes c.loop-value.all.items) c.loop-value.value-index c.loop-value.invariant c.value-item.result
    (string_bytes s) c.loop-value-test.true
    (ap Some c.in_ok-from_str-in-Some.ensures.ok ∙ c.in-Some.ensures ∙ ap (λ v. as_str (view v)) c.value-item.is)
    ∙ ap (λ texts. texts_behind texts (texts_in (items_view (drop (c.loop-value.value-index + 1) c.args.given.now)))) (sym items)

-- all of them
pub returns : goal.returns
returns c = texts_all c.args.given.now (map string_bytes c.loop-value.all.items) c.loop-value.value-index c.loop-value.invariant c.loop-value-test.false
