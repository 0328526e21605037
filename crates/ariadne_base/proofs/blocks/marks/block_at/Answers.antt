use Rattle.std.proofs.Common.{sym, ap, ◌∙◌}
use Rattle.std.specs.Int.{bit_at}
use Rattle.std.specs.Int.RustNames.{bit_or}
use Rattle.ariadne_base.proofs.BlockMarks.{ascii_separators, ascii_starts, mixed_separators}
use Rattle.ariadne_base.proofs.blocks.marks.block_at.Goals as goal

pub returns-then-high-eq0-clause-separators : goal.returns-then-high-eq0-clause-separators
returns-then-high-eq0-clause-separators c k l =
    ap (λ m. bit_at m k) c.controls-controls.ensures
    ∙ ascii_separators c.args.bytes.now c.args.at c.requires (sym c.high.ensures ∙ c.if-high-eq0.true) k l

pub returns-then-high-eq0-clause-starts : goal.returns-then-high-eq0-clause-starts
returns-then-high-eq0-clause-starts c = ascii_starts c.args.bytes.now c.args.at c.requires (sym c.high.ensures ∙ c.if-high-eq0.true)

pub returns-clause-separators : goal.returns-clause-separators
returns-clause-separators c k l =
    ap (λ m. bit_at (bit_or m c.wide_separators.result) k) c.controls-controls.ensures
    ∙ mixed_separators c.args.bytes.now c.args.at c.requires c.wide_separators.result c.wide_separators.ensures k l
