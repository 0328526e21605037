use Rattle.std.proofs.Common.{◌∙◌, ◌++◌, ◌∷◌, [], ap, refl, subst, sym, ℕ}
use Rattle.std.specs.Prelude.{map}
use Rattle.ariadne_snippets.specs.Snippets.{IsUnread}
use Rattle.ariadne_blocks.specs.Blocks.{bytes_of, held_of, lines_behind, view_of, with_more, HeldLine}
use Rattle.ariadne_blocks.specs.declared.goes_on.GoesOn.TheVariants.{Cut}
use Rattle.ariadne_blocks.proofs.Lists.{pushed}
use Rattle.ariadne_blocks.proofs.Viewed.{same_view}
use Rattle.ariadne_blocks.proofs.block.Block.take_more.Goals as goal

-- the line stands last behind it
pub returns-clause-held : goal.returns-clause-held
returns-clause-held c = λ yes.
    let old = c.args.self.now in
    record {
      may = sym c.may_go_on.ensures ∙ c.if-not-may_go_on.false;
      awaits = subst (λ (line : ℕ). IsUnread line old.caret c.new-2.result) c.first_line.ensures c.new-2.ensures;
      parsed = refl;
      behind = pushed bytes_of old.more.items c.push.new.self.items c.in_ok-more.more c.in_ok-push.ensures.items
          ∙ ap (λ (h : HeldLine). lines_behind old ++ h.bytes ∷ []) c.in_ok-more.ensures;
      view = same_view _ (with_more c.args.line.bytes.now c.args.line.text.now (view_of old)) refl refl refl refl
          (pushed held_of old.more.items c.push.new.self.items c.in_ok-more.more c.in_ok-push.ensures.items
          ∙ ap (λ h. map held_of old.more.items ++ h ∷ []) c.in_ok-more.ensures)
          (ap (λ n. Cut n) c.width_of.ensures) refl refl refl refl refl refl;
    }
