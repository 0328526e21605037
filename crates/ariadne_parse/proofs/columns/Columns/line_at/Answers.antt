use Rattle.std.proofs.Common.{rules, ◌≡◌, ◌∙◌, ℕ, Bool, ap, subst, sym}
use Rattle.std.specs.Prelude.{count_by, nat_le}
use Rattle.std.specs.List.Sorted.{IsPartitionedBy}
use Rattle.std.proofs.lemmas.List.Sorted.{IsPartitionPoint-from_clause}
use Rattle.ariadne_parse.specs.Columns.{line_begins}
use Rattle.ariadne_parse.proofs.OffsetLines.{counted, up_to_first}
use Rattle.ariadne_parse.proofs.columns.Columns.line_at.Goals as goal

-- the lines that begin up to there are the first
pub returns : goal.returns
returns c =
    let up : ℕ → Bool = λ begin. nat_le begin c.args.offset in
    let begins : c.deref.result.now ≡ line_begins c.args.self.now =
    c.deref.ensures.value ∙ c.self.invariant ∙ ap line_begins c.self.view_is in
    counted up c.deref.result.now c.partition_point.result c.partition_point.ensures.bound
    (IsPartitionPoint-from_clause up c.deref.result.now c.partition_point.result c.partition_point.ensures.partitioned
    (subst (IsPartitionedBy up) (sym begins) (up_to_first c.args.self.now c.args.offset)) (λ a r f' called. search rules))
    ∙ ap (count_by up) begins
