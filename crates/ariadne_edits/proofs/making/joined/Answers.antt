use Rattle.std.proofs.Common.{◌∙◌, ◌++◌, ap, refl, [], arith}
use Rattle.std.specs.Prelude.{string_bytes}
use Rattle.std.proofs.lemmas.Str.{IsCharBoundary-at_seam}
use Rattle.ariadne_edits.specs.Changes.{edited_from, edited_text}
use Rattle.ariadne_edits.proofs.Texts.{made_more, changes_end}
use Rattle.ariadne_edits.proofs.making.joined.Goals as goal

pub loop-change-init : goal.loop-change-init
loop-change-init c =
    let t = c.args.text.now in (
      omega arith,
      IsCharBoundary-at_seam t [] t refl c.utf8.text,
      c.requires,
      ap (λ out. out ++ edited_from t 0 c.args.changes.now) c.new-out.ensures.bytes,
    )

pub loop-change-preserved : goal.loop-change-preserved
loop-change-preserved c =
    made_more c.args.text.now c.loop-change.at c.args.changes.now c.loop-change.change-index _ (string_bytes c.loop-change.out) (string_bytes c.push_str.new.self)
    (string_bytes c.push_str-in-loop-change.new.self) (edited_text c.args.text.now c.args.changes.now) c.loop-change.invariant c.loop-change-test.true
    ((c.in_ok-push_str.ensures).bytes ∙ ap (λ x. string_bytes c.loop-change.out ++ x) c.range.ensures.value)
    (c.in_ok-push_str-2.ensures).bytes

pub returns : goal.returns
returns c =
    let t = c.args.text.now in
    changes_end t c.loop-change.at c.args.changes.now c.loop-change.change-index (string_bytes c.loop-change.out) (string_bytes c.push_str-2.new.self) (edited_text t c.args.changes.now)
    c.loop-change-test.false c.loop-change.invariant.3
    ((c.in_ok-push_str-3.ensures).bytes ∙ ap (λ x. string_bytes c.loop-change.out ++ x) c.range_from.ensures.value)
