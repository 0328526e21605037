use Rattle.std.proofs.Common.{◌≡◌, ◌+◌, ◌∙◌, arith, subst, sym, take}
use Rattle.std.proofs.lemmas.List.{take_all}
use Rattle.ariadne_layout.specs.Choices.{infos_of, inline_infos, shown_position}
use Rattle.ariadne_layout.specs.Tables.{shown_at}
use Rattle.ariadne_layout.proofs.Apart.{Apart, apart_all, apart_more, apart_none, inline_more, inline_same}
use Rattle.ariadne_layout.proofs.stretches.take_apart.Goals as goal
use Rattle.ariadne_layout.proofs.stretches.take_apart.Goals.{then-is_inline+in-Some+in_ok-push+in_ok-push-2, else-is_inline}

-- at first there is no stretch
pub loop-label-init : goal.loop-label-init
unfolding inline_infos infos_of
loop-label-init c =
    subst (Apart _ c.args.offset 0) (sym (c.reserve_exact.ensures.items ∙ c.clear.ensures.items)) (apart_none c.args.offset)

-- a label adds two
pub loop-label-preserved : goal.loop-label-preserved
loop-label-preserved c =
    let labels = c.args.labels.now in
    let n = c.loop-label.label-index in
    let offset = c.args.offset in
    elim c.if-is_inline.branch [
      | then-is_inline+in-Some+in_ok-push+in_ok-push-2 w ↦
          rw (
            w.list-is,
            w.place-is,
            inline_more labels n _ c.loop-label-test.true (sym w.if-is_inline.ensures),
            w.in_ok-push-2.ensures.items,
            w.in_ok-push.ensures.items,
          )
          (apart_more (inline_infos (take n labels)) _ offset c.loop-label.place w.in-Some.start w.in-Some.end c.loop-label.list.items
          c.loop-label.invariant w.in-Some.ensures.start w.in-Some.ensures.behind w.in-Some.ensures.end)
      | else-is_inline w ↦
          rw (w.list-is, w.place-is, inline_same labels n _ c.loop-label-test.true (sym w.if-is_inline.ensures)) c.loop-label.invariant
    ]

-- at the end they are those of all labels
pub returns : goal.returns
returns c = λ yes k.
    subst (λ t. shown_at c.loop-label.list.items k ≡ shown_position (inline_infos t) (c.args.offset + k))
    (take_all c.loop-label.label-index c.args.labels.now (omega arith))
    (apart_all _ c.args.offset c.loop-label.place c.loop-label.list.items k c.loop-label.invariant)
