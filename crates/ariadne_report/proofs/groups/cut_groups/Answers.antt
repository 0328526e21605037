-- One group more stands behind those so far.
use Rattle.std.proofs.Common.{◌∙◌, List, ap, map, Bor}
use Rattle.std.proofs.lemmas.List.{map-append}
use Rattle.ariadne_picture.specs.declared.label_info.LabelInfo.{LabelInfo}
use Rattle.ariadne_report.proofs.Grouping.{all_cut, one_cut}
use Rattle.ariadne_report.proofs.groups.cut_groups.Goals as goal

-- one more is cut off
pub loop-start-preserved : goal.loop-start-preserved
loop-start-preserved g c = record {
  within = c.group_end-end.ensures.within;
  cut = λ names contents.
      let now = λ (x : Bor (List LabelInfo)). x.now in
      one_cut _ c.args.infos.now c.loop-start.start c.group_end-end.result (map now c.loop-start.groups.items) (map now c.push.new.self.items)
      (c.group_end-end.ensures.groups names contents)
      (ap (map now) c.in_ok-push.ensures.ok ∙ map-append now c.loop-start.groups.items _) (c.loop-start.invariant.cut names contents);
}

-- no label is left
pub returns : goal.returns
returns g c = λ names contents.
    all_cut _ c.args.infos.now c.loop-start.start _ c.loop-start-test.false (c.loop-start.invariant.cut names contents)
