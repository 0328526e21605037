use Rattle.std.proofs.Common.{◌∙◌, ◌≡◌, List, ℕ, subst, sym, true}
use Rattle.std.specs.Prelude.{option_map}
use Rattle.std.proofs.lemmas.Result.{IfOk-weaker}
use Rattle.ariadne_blocks.specs.Blocks.{of_snippet, without_colors, without_own, IsRow, IsRowOf}
use Rattle.ariadne_blocks.specs.Uncolored.{IsBare}
use Rattle.ariadne_blocks.specs.Files.{file_of}
use Rattle.ariadne_blocks.proofs.block.Block.take_whole.Goals as goal

-- without any colours
pub returns-then-not-keeps_escapes-clause-row : goal.returns-then-not-keeps_escapes-clause-row
returns-then-not-keeps_escapes-clause-row c =
    IfOk-weaker c.take_text.result
    (λ is_row. is_row ≡ true
    → IsRowOf (option_map file_of c.args.file) c.args.line.text.now c.args.self.now c.take_text.new.self)
    (λ is_row. is_row ≡ true → IsRow (option_map file_of c.args.file) c.args.line c.args.self.now c.take_text.new.self)
    (λ is_row row yes. of_snippet (without_colors (sym c.keeps_escapes.ensures ∙ c.if-not-keeps_escapes.true)) (row yes))
    c.take_text.ensures.row

-- or without gcc's own
pub returns-clause-row : goal.returns-clause-row
returns-clause-row c =
    IfOk-weaker c.take_text-2.result
    (λ is_row. is_row ≡ true
    → IsRowOf (option_map file_of c.args.file) c.as_str.result.now c.args.self.now c.take_text-2.new.self)
    (λ is_row. is_row ≡ true → IsRow (option_map file_of c.args.file) c.args.line c.args.self.now c.take_text-2.new.self)
    (λ is_row row yes. of_snippet (without_own (sym c.keeps_escapes.ensures ∙ c.if-not-keeps_escapes.false)
    (subst (λ (t : List ℕ). IsBare c.args.line.whole.now t) (sym c.as_str.ensures.value) c.in_ok-bare.ensures)) (row yes))
    c.take_text-2.ensures.row
