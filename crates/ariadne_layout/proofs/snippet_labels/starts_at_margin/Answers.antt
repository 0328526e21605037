-- By the side of the label, where there is a margin label.
use Rattle.std.proofs.Common.{◌∙◌, ◌≡◌, sym, refl, rules, false}
use Rattle.std.proofs.lemmas.Bool.{and_left, true≢false}
use Rattle.ariadne_picture.specs.declared.label_info.Side.{Side}
use Rattle.ariadne_picture.specs.declared.label_info.Side.TheVariants.{Inline, Starts, Ends}
use Rattle.ariadne_picture.specs.Ranks.{is_inline, is_margin, is_of_gutter_label, is_start}
use Rattle.ariadne_layout.proofs.snippet_labels.starts_at_margin.Goals as goal
use Rattle.ariadne_layout.proofs.snippet_labels.starts_at_margin.Goals.{in-Starts, in_default}

-- no other side is a start
no-start : (side : Side) → (side ≡ Starts → ⊥) → is_start side ≡ false
unfolding is_start
no-start Inline n = refl
no-start Starts n = absurd (n refl)
no-start Ends n = refl

pub returns-then-matches : goal.returns-then-matches
unfolding is_inline is_margin is_of_gutter_label is_start
returns-then-matches c = elim c.match-matches.branch [
  | in-Starts w ↦ rw (c.in-Some.is, w.in-Starts.is) refl
  | in_default w ↦ absurd (true≢false (sym c.if-matches.true ∙ w.matches-is))
]

pub returns-else-matches : goal.returns-else-matches
returns-else-matches c = elim c.match-matches.branch [
  | in-Starts w ↦ absurd (true≢false (sym w.matches-is ∙ c.if-matches.false))
  | in_default w ↦ w.matches-is ∙ sym (and_left _ _ (no-start c.args.label.now.side w.in_default.not-Starts))
]

pub returns-in-None : goal.returns-in-None
unfolding is_inline is_margin is_of_gutter_label is_start
returns-in-None c = search rules
