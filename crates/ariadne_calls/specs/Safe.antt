-- A call whose texts are shown by signs: what is read of its sources, and the report that is drawn. A
-- sign stands for each hidden character, character for character.
-- Offsets are those of the given texts.
use Rattle.std.specs.Prelude.{◌≡◌, ℕ, ⊤, List, [], ◌∷◌, map, option_map}
use Rattle.std.specs.declared.ops.Range.{Range}
use Rattle.ariadne.specs.Building.{filled_code}
use Rattle.ariadne.specs.Canvas.{kind_name}
use Rattle.ariadne.specs.Report.{Kind, ReportFields, error, warning, advice, custom}
use Rattle.ariadne_safe.specs.Visible.{visible_bytes}
use Rattle.ariadne_safe.specs.declared.text.TextKind.TheVariants.{Aside, OneRow}
use Rattle.ariadne_safe.specs.declared.sources.LineEnds.TheVariants.{All}
use Rattle.ariadne_safe.specs.declared.sources.SafeSource.{SafeSource}
use Rattle.ariadne_safe.specs.Sources.{given_of, line_ends_of, listing_of as listing_in, name_of as name_in}
use Rattle.ariadne_safe.specs.SafeReports.{shown_label, shown_place}
use Rattle.ariadne_calls.specs.declared.given.GivenSource.{GivenSource}
use Rattle.ariadne_calls.specs.CallSources.{given_text, shown_listing}

-- a safe source is the given one, by signs
pub record IsSafe (s : GivenSource) (safe : SafeSource) : Type 0 where
  pub name : name_in safe ≡ option_map (visible_bytes OneRow) (given_text s.name)
  pub shown : listing_in safe ≡ shown_listing s
  -- (offsets are found by the given text, and by what ends its lines)
  pub given : given_of safe ≡ s.text.bytes.now
  pub ends : line_ends_of safe ≡ All

-- safe sources are the given ones, in order
abbrev pub AreSafe : List GivenSource → List SafeSource → Type 0
AreSafe [] [] = ⊤
AreSafe [] (x ∷ safe) = ⊥
AreSafe (s ∷ sources) [] = ⊥
AreSafe (s ∷ sources) (x ∷ safe) = IsSafe s x × AreSafe sources safe

-- the kind, under this name where it is a custom one
abbrev pub under : List ℕ → Kind → Kind
under name error = error
under name warning = warning
under name advice = advice
under name (custom given color) = custom name color

-- the kind, where the name of a custom one is shown by signs
abbrev pub shown_kind : Kind → Kind
shown_kind kind = under (visible_bytes OneRow (kind_name kind)) kind

-- the report that stands for one over these sources: its texts are shown by signs, and its offsets are
-- found in what is shown
abbrev pub shown_report : List SafeSource → ReportFields (ℕ × Range ℕ) → ReportFields (ℕ × Range ℕ)
shown_report sources r = record {
  kind = shown_kind r.kind;
  code = option_map (λ code. filled_code (visible_bytes OneRow code)) r.code;
  message = option_map (visible_bytes OneRow) r.message;
  span = shown_place r.config.index_type sources r.span;
  labels = map (shown_label r.config.index_type sources) r.labels;
  notes = map (visible_bytes Aside) r.notes;
  helps = map (visible_bytes Aside) r.helps;
  config = r.config;
}
