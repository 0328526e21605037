-- The edits so far are the given ones, and their texts are UTF-8.
use Rattle.std.proofs.Common.{◌≡◌, map, take, drop}
use Rattle.ariadne_calls.specs.Suggesting.{asked_edit, first_unread, made_edit}
use Rattle.ariadne_calls.proofs.suggesting.edits_of.Given as goal

abbrev pub invariant-loop-number : goal.invariant-loop-number
invariant-loop-number l = record {
  asked : map made_edit l.edits.items ≡ map asked_edit (take l.number l.given);
  same : first_unread 0 l.given ≡ first_unread l.number (drop l.number l.given);
}
