use Rattle.std.proofs.Common.{◌∙◌, ap, rules}
use Rattle.std.specs.Prelude.{string_bytes}
use Rattle.ariadne_blocks.specs.Uncolored.{without_last}
use Rattle.ariadne_blocks.proofs.Bared.{bare_last, bare_next}
use Rattle.ariadne_blocks.proofs.colors.without_gcc_colors.Goals as goal

-- one piece more
pub loop-front-preserved : goal.loop-front-preserved
loop-front-preserved c =
    let cut = c.in-Some.ensures.cases in
    record {
      utf8 = search rules;
      bared = λ more left.
          bare_next c.args.text.now c.loop-front.rest.now c.in-Some.behind.now (string_bytes c.loop-front.bare)
          (string_bytes c.push_str.new.self) more c.without_last_sequence.result.now cut.0 cut.1
          c.loop-front.invariant.bared cut.2 cut.4 (c.without_last_sequence.ensures ∙ ap without_last cut.3)
          c.in_ok-push_str.ensures.bytes left;
    }

-- and the last
pub returns : goal.returns
returns c =
    bare_last c.args.text.now c.loop-front.rest.now (string_bytes c.loop-front.bare) (string_bytes c.push_str-2.new.self)
    c.loop-front.invariant.bared c.in_default.ensures.cases c.in_ok-push_str-2.ensures.bytes
