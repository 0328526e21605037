use Rattle.std.proofs.Common.{◌≡◌, ◌∙◌, refl, sym, true, true≢false}
use Rattle.std.specs.Prelude.{codes}
use Rattle.std.specs.Str.{chars, is_utf8}
use Rattle.ariadne_safe.specs.Visible.{is_hidden, is_shown}
use Rattle.ariadne_safe.specs.declared.text.TextKind.TheVariants.{OneRow}
use Rattle.ariadne_show.proofs.drawing.note_kind.Goals as goal

-- the name of notes can be shown
note_shown : is_shown OneRow (codes "Note") ≡ true
unfolding is_utf8 chars is_hidden lib.Utf8.encode
note_shown = refl

-- so it is the name of a kind
pub returns-in-None : goal.returns-in-None
returns-in-None c = absurd (true≢false (sym note_shown ∙ c.new.ensures.none.0 c.in-None.is))
