use Rattle.std.proofs.Common.{sym, map, inl, inr}
use Rattle.std.proofs.lemmas.Result.{IfErr-weaker, IfOk-weaker}
use Rattle.toml.specs.View.{view}
use Rattle.ariadne_matcher_tables.proofs.EachEntry.{of_whole}
use Rattle.ariadne_matcher_tables.proofs.entries.entries.Goals as goal

-- those of the list
pub returns-in-Ok-clause-entries : goal.returns-in-Ok-clause-entries
returns-in-Ok-clause-entries c =
    IfOk-weaker c.each_entry.result _ _
    (λ x h. record { values = map view c.in-Ok.values.now; listed = sym c.in-Ok.ensures.items; entries_are = h }) c.each_entry.ensures.entries

-- one of them is refused
pub returns-in-Ok-clause-refusal : goal.returns-in-Ok-clause-refusal
returns-in-Ok-clause-refusal c =
    IfErr-weaker c.each_entry.result _ _ (λ x h. inr (map view c.in-Ok.values.now, sym c.in-Ok.ensures.items, h)) c.each_entry.ensures.refusal

-- there is no list
pub returns-in-Err-clause-refusal : goal.returns-in-Err-clause-refusal
returns-in-Err-clause-refusal c =
    rw c.of_whole.ensures (of_whole (view c.args.given.now) c.in-Err.fault (inr (inl c.in-Err.ensures.fault)))
