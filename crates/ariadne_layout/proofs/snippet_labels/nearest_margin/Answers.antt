-- One label more is the nearest where it stands nearer than the nearest so far.
use Rattle.std.proofs.Common.{Bool, ap, not, refl, sym, ◌∙◌}
use Rattle.ariadne_picture.specs.declared.label_info.LineLabel.{LineLabel}
use Rattle.ariadne_picture.specs.Lists.{best}
use Rattle.ariadne_picture.specs.Ranks.{is_inline, is_nearer_margin}
use Rattle.ariadne_layout.specs.SnippetLabels.{margin_of}
use Rattle.ariadne_layout.proofs.Ranking.{best-taken, best-kept, best-passed, tested-true, tested-false}
use Rattle.ariadne_layout.proofs.snippet_labels.nearest_margin.Goals as goal
use Rattle.ariadne_layout.proofs.snippet_labels.nearest_margin.Goals.{then-not-is_inline+then-stands_nearer, else-not-is_inline, else-not-is_inline-via-then-not-is_inline+else-stands_nearer, else-not-is_inline-via-else-not-is_inline}

pub loop-label-init : goal.loop-label-init
unfolding margin_of best
loop-label-init c = refl

pub loop-label-preserved : goal.loop-label-preserved
unfolding margin_of
loop-label-preserved c =
    let xs = c.args.labels.now in
    let i = c.loop-label.label-index in
    let now = c.loop-label.nearest in
    let h = c.loop-label-test.true in
    let test : LineLabel → Bool = λ x. not (is_inline x.side) in
    elim c.if-not-is_inline.branch [
      | then-not-is_inline+then-stands_nearer w ↦
          w.nearest-is
          ∙ best-taken is_nearer_margin test xs i _ now h c.loop-label.invariant
          (ap not (sym c.is_inline.ensures ∙ w.if-not-is_inline.true))
          (tested-true (is_nearer_margin _) now w.stands_nearer.result w.stands_nearer.ensures w.if-stands_nearer.true)
      | else-not-is_inline w ↦ elim w.else-not-is_inline.branch [
        | else-not-is_inline-via-then-not-is_inline+else-stands_nearer v ↦
            w.nearest-is
            ∙ best-kept is_nearer_margin test xs i _ now h c.loop-label.invariant
            (ap not (sym c.is_inline.ensures ∙ v.if-not-is_inline.true))
            (tested-false (is_nearer_margin _) now v.stands_nearer.result v.stands_nearer.ensures v.if-stands_nearer.false)
        | else-not-is_inline-via-else-not-is_inline v ↦
            w.nearest-is
            ∙ best-passed is_nearer_margin test xs i _ now h c.loop-label.invariant
            (ap not (sym c.is_inline.ensures ∙ v.if-not-is_inline.false))
      ]
    ]
