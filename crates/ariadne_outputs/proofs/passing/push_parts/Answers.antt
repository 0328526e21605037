use Rattle.std.proofs.Common.{Some, None, lit<, string_bytes}
use Rattle.std.proofs.lemmas.Result.{IfOk-weaker}
use Rattle.std.proofs.lemmas.Str.Pattern.{split_parts}
use Rattle.ariadne_outputs.proofs.CharLemmas.{cut_texts}
use Rattle.ariadne_outputs.proofs.Passed.{passed_end, passed_next}
use Rattle.ariadne_outputs.proofs.passing.push_parts.Goals as goal

-- a part more was added
pub loop-part-preserved : goal.loop-part-preserved
loop-part-preserved c =
    let part = c.in-Some.part.now in
    let behind = c.in-Some.behind.now in
    let parts = split_parts 27 c.loop-part.rest.now (Some (c.in-Some.part, c.in-Some.behind)) c.in-Some.ensures.cases (lit< tt) in
    let texts = cut_texts c.loop-part.rest.now part behind c.loop-part.invariant.utf8 parts.0 in
    passed_next c.args.colors c.args.text.now c.loop-part.rest.now part behind (string_bytes c.args.shown.now)
    (string_bytes c.loop-part.shown) (string_bytes c.push_part.new.shown) c.loop-part.is_painted c.in_ok-is_painted.is_painted
    c.loop-part.invariant texts.front_text texts.behind_text parts.0 parts.1 c.in_ok-is_painted.ensures

-- and the last
pub returns : goal.returns
returns c =
    let none = split_parts 27 c.loop-part.rest.now None c.in_default.ensures.cases (lit< tt) in
    IfOk-weaker c.push_part-2.result _ _
    (λ painted added.
    passed_end c.args.colors c.args.text.now c.loop-part.rest.now (string_bytes c.args.shown.now)
    (string_bytes c.loop-part.shown) (string_bytes c.push_part-2.new.shown) c.loop-part.is_painted painted
    c.loop-part.invariant none added)
    c.push_part-2.ensures
