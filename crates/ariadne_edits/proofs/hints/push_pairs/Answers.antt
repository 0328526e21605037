use Rattle.std.proofs.Common.{◌∙◌, ◌++◌, ◌+◌, ap, sym, append-nil, append_assoc, arith, length, drop}
use Rattle.ariadne_base.specs.Listing.{listed_lines}
use Rattle.ariadne_edits.specs.Stays.{pairs_in}
use Rattle.ariadne_edits.proofs.PairLists.{inside_at, no_stay, pairs_more, pairs_stop, pairs_end}
use Rattle.ariadne_edits.proofs.hints.push_pairs.Goals as goal

-- the pieces behind begin behind the line
pub returns-then-stay-begin : goal.returns-then-stay-begin
returns-then-stay-begin c =
    let stop = pairs_stop (listed_lines c.args.new.now) c.args.i c.args.begin c.args.stays.now c.loop-stay.stay-index no_stay c.loop-stay-test.true c.if-stay-begin.true in
    sym (append-nil c.loop-stay.pairs.items) ∙ ap (λ ps. c.loop-stay.pairs.items ++ ps) (sym stop) ∙ c.loop-stay.invariant.1

pub overflow_add-stay : goal.overflow_add-stay
overflow_add-stay c =
    let inside = (inside_at (length c.args.new.now.text) c.args.begin c.args.stays.now c.loop-stay.stay-index no_stay c.loop-stay-test.true c.loop-stay.invariant.0).0 in
    omega (arith, inside, c.requires.fits, c.if-stay-begin.false)

pub push_pair-requires : goal.push_pair-requires
push_pair-requires c =
    let inside = (inside_at (length c.args.new.now.text) c.args.begin c.args.stays.now c.loop-stay.stay-index no_stay c.loop-stay-test.true c.loop-stay.invariant.0).0 in
    omega (arith, inside, c.if-stay-begin.false)

pub loop-stay-preserved : goal.loop-stay-preserved
loop-stay-preserved c =
    let new = listed_lines c.args.new.now in
    let inside = inside_at (length c.args.new.now.text) c.args.begin c.args.stays.now c.loop-stay.stay-index no_stay c.loop-stay-test.true c.loop-stay.invariant.0 in
    let more = pairs_more new c.args.i c.args.begin c.args.stays.now c.loop-stay.stay-index no_stay c.loop-stay-test.true c.if-stay-begin.false in
    let rest = pairs_in new c.args.i c.args.begin (drop (c.loop-stay.stay-index + 1) c.args.stays.now) in (
      inside.1,
      ap (λ ps. ps ++ rest) c.in_ok-push_pair.ensures ∙ append_assoc c.loop-stay.pairs.items _ rest
          ∙ ap (λ ps. c.loop-stay.pairs.items ++ ps) (sym more) ∙ c.loop-stay.invariant.1,
    )

pub returns : goal.returns
returns c =
    let end = pairs_end (listed_lines c.args.new.now) c.args.i c.args.begin c.args.stays.now c.loop-stay.stay-index c.loop-stay-test.false in
    sym (append-nil c.loop-stay.pairs.items) ∙ ap (λ ps. c.loop-stay.pairs.items ++ ps) (sym end) ∙ c.loop-stay.invariant.1
