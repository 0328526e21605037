-- so far the first labels have their columns, without bars, and there is room for the others
use Rattle.std.proofs.Common.{◌≡◌, ◌≤◌, map, take, replicate, length, false, vec_capacity}
use Rattle.ariadne_picture.specs.declared.label_info.LabelInfo.{LabelInfo}
use Rattle.ariadne_render.proofs.gutter.Gutter.begin.Given as goal

abbrev pub invariant-loop-label : goal.invariant-loop-label
invariant-loop-label l = record {
  positions : l.self-inside.positions.items ≡ map (λ (a : LabelInfo). a.position) (take l.label-index l.labels);
  positions_room : length l.labels ≤ vec_capacity l.self-inside.positions;
  bars : l.self-inside.bars.items ≡ replicate l.label-index false;
  bars_room : length l.labels ≤ vec_capacity l.self-inside.bars;
  page : l.self-inside.page ≡ l.initial.self-inside.page;
  text : l.self-inside.text ≡ l.initial.self-inside.text;
  starts : l.self-inside.starts ≡ l.initial.self-inside.starts;
}
