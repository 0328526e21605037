-- The first span is where the diagnostic points.
use Rattle.std.proofs.Common.{◌≡◌, ◌∙◌, List, [], ◌∷◌, true, not, ap, refl}
use Rattle.std.specs.Prelude.{map, None, Some}
use Rattle.std.specs.List.{slice_get}
use Rattle.serde_json.specs.Data.{Data}
use Rattle.serde_json.specs.View.{view}
use Rattle.ariadne_parse.specs.Gcc.{is_away, is_caret_of}
use Rattle.ariadne_parse.specs.Spans.{seen}
use Rattle.ariadne_parse.specs.declared.diagnostic.Span.{Span}
use Rattle.ariadne_parse.proofs.gcc.is_away.Goals as goal

away_from_first : (spans : List Span) (first : Span) (caret : Data) → Some first ≡ slice_get spans 0
    → not (is_caret_of (seen first) caret) ≡ is_away (map seen spans) caret
away_from_first [] first caret e = absurd (cc e)
away_from_first (span ∷ spans) first caret e = cc e

away_from_none : (spans : List Span) (caret : Data) → None ≡ slice_get spans 0 → true ≡ is_away (map seen spans) caret
away_from_none [] caret e = refl
away_from_none (span ∷ spans) caret e = absurd (cc e)

pub returns-in-Some : goal.returns-in-Some
returns-in-Some c =
    ap not c.is_caret_of.ensures
    ∙ away_from_first c.args.spans.now c.in-Some.first.now (view c.args.caret.now) c.in-Some.ensures.value

pub returns-in-None : goal.returns-in-None
returns-in-None c = away_from_none c.args.spans.now (view c.args.caret.now) c.in-None.ensures.value
