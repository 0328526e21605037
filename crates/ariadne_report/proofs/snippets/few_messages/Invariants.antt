use Rattle.std.proofs.Common.{◌≡◌, ◌≤◌, [], length, map, take}
use Rattle.std.specs.Prelude.{unwrap_or}
use Rattle.ariadne_picture.specs.Report.{LabelFields}
use Rattle.ariadne_report.proofs.snippets.few_messages.Given as goal

-- the messages of the labels so far, and there is room for the others
abbrev pub invariant-loop-label : goal.invariant-loop-label
invariant-loop-label g l = record {
  told : map (λ m. m.now) l.messages.items ≡ map (λ (label : LabelFields _). unwrap_or label.message []) (take l.label-index l.label-items);
  len : length l.messages.items ≡ l.label-index;
  room : length l.label-items ≤ l.messages.capacity;
}
