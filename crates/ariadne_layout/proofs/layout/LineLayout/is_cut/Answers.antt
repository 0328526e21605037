use Rattle.std.proofs.Common.{◌≡◌, ◌∙◌, ap, inl, inr, length, not, sym}
use Rattle.std.specs.Str.{drop_trailing_whitespace}
use Rattle.std.proofs.lemmas.Bool.{cases_lt, lt-ltb, le-ltb, true≢false}
use Rattle.ariadne_picture.specs.Columns.{Layout, shown}
use Rattle.ariadne_layout.proofs.Layouts.{cut-is, empty-is, whole-is}
use Rattle.ariadne_layout.proofs.layout.LineLayout.is_cut.Goals as goal

-- a line with parts is cut, if any of it is shown
pub returns-then-not-is_empty : goal.returns-then-not-is_empty
unfolding shown
returns-then-not-is_empty c =
    let seen = ap (λ (y : Layout). y.sights) c.self.view_is in
    let text = c.self.inside.text.now in
    let n = length (drop_trailing_whitespace text) in
    let size : c.shown_len.result ≡ n = c.shown_len.ensures ∙ sym (ap (λ (y : Layout). length (shown y)) c.self.view_is) in (
      λ off. elim (cases_lt 0 c.shown_len.result) [
        | inl some ↦ absurd (true≢false (sym (lt-ltb 0 c.shown_len.result some) ∙ off))
        | inr past ↦ empty-is c.self.inside.parts.now n c.shown_len.result c.args.self.now.sights seen size past
      ],
      λ none. elim (cases_lt 0 c.shown_len.result) [
        | inl some ↦
            absurd (cut-is c.self.inside.parts.now n c.shown_len.result c.args.self.now.sights seen size (sym (c.if-not-is_empty.ensures {u = tt})) some none)
        | inr past ↦ le-ltb 0 c.shown_len.result past
      ],
    )

-- one without is not
pub returns-else-not-is_empty : goal.returns-else-not-is_empty
returns-else-not-is_empty c =
    let seen = ap (λ (y : Layout). y.sights) c.self.view_is in
    let n = length (drop_trailing_whitespace c.self.inside.text.now) in (
      λ off. whole-is c.self.inside.parts.now n c.args.self.now.sights seen (sym (c.if-not-is_empty.ensures {u = tt})),
      λ none. ap not c.if-not-is_empty.false,
    )
