use Rattle.std.proofs.Common.{◌∙◌, ap, sym, refl, option_map, cond, Some, None, [], ◌∷◌, ◌++◌, length, arith, rules, length-drop}
use Rattle.ariadne_snippets.proofs.Beginning.{begins_nowhere, begins_pushed, begun_by, ends_at, none_begun, width_is}
use Rattle.ariadne_snippets.proofs.quote.push_begins.Goals as goal

-- nothing stands for a character
pub returns-then-width-eq0 : goal.returns-then-width-eq0
returns-then-width-eq0 c =
    none_begun c.args.start c.args.line.now _ c.args.begins.now.items
    (sym c.loop-place.invariant.1 ∙ begins_nowhere c.loop-place.at c.args.line.now c.args.quote.now c.loop-place.place c.index-line-place.result c.shown_width-width.result
    c.loop-place-test.true c.index-line-place.is (width_is c.index-line-place.result c.shown_width-width.result _ _ _ _ c.rest_of.ensures c.rest_of-in-loop-place.ensures c.shown_width-width.ensures.width) c.loop-place.begins.items _ refl c.if-width-eq0.true)

-- something does
pub loop-place-preserved : goal.loop-place-preserved
loop-place-preserved c = (
  (let le = c.loop-place.invariant.0 in let wide = c.shown_width-width.ensures.bound in let rest = ap length c.rest_of-in-loop-place.ensures in
      omega (arith, le, wide, rest, length-drop c.loop-place.at c.args.quote.now)),
  begins_pushed c.loop-place.at c.args.line.now c.args.quote.now c.loop-place.place c.index-line-place.result c.shown_width-width.result
      c.loop-place-test.true c.index-line-place.is (width_is c.index-line-place.result c.shown_width-width.result _ _ _ _ c.rest_of.ensures c.rest_of-in-loop-place.ensures c.shown_width-width.ensures.width) c.loop-place.begins.items _ c.loop-place.invariant.1 _ c.if-width-eq0.false (c.in_ok-push.ensures).items,
)

-- the line ends
pub returns : goal.returns
returns c =
    begun_by c.is_all_white.result c.args.start c.loop-place.at c.args.line.now _ c.args.begins.now.items c.loop-place.begins.items c.push-2.new.self.items
    (c.in_ok-push-2.ensures).items
    (ap (λ b. option_map (λ ys. c.loop-place.begins.items ++ ys) (cond b (Some (c.loop-place.at ∷ [])) None)) (search rules)
    ∙ ap (λ o. option_map (λ ys. c.loop-place.begins.items ++ ys) o) (sym (ends_at c.loop-place.at c.args.line.now c.args.quote.now c.loop-place.place c.loop-place-test.false))
    ∙ c.loop-place.invariant.1)
