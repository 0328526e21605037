-- The report that a call asks for. Of what is faulty (specs/Faults.antt) it says nothing.
use Rattle.std.specs.Prelude.{ℕ, ◌==◌, Bool, if◌then◌else◌, List, map, Option}
use Rattle.std.specs.Prelude.{Some, option_map, unwrap_or}
use Rattle.std.specs.Borrow.{Bor}
use Rattle.std.specs.declared.ops.Range.{Range}
use Rattle.ariadne.specs.Color.TheVariants.{Primary}
use Rattle.ariadne.specs.LabelAttach.{LabelAttach}
use Rattle.ariadne.specs.LabelAttach.TheVariants.{Start, Middle, End}
use Rattle.ariadne.specs.Report.{ConfigFields, Kind, LabelFields, ReportFields}
use Rattle.ariadne.specs.Report.{error, warning, advice, custom}
use Rattle.ariadne.specs.Building.{filled_code}
use Rattle.ariadne_calls.specs.declared.given.GivenLabel.{GivenLabel}
use Rattle.ariadne_calls.specs.declared.given.GivenReport.{GivenReport}
use Rattle.ariadne_calls.specs.declared.given.Text.{Text}
use Rattle.ariadne_calls.specs.ColorNumbers.{color_of}
use Rattle.ariadne_calls.specs.Flag as flag
use Rattle.ariadne_calls.specs.CallSources.{given_text}

-- its texts are drawn as they are, and not by signs
abbrev pub is_as_it_is : GivenReport → Bool
is_as_it_is r = flag.has r.flags flag.raw

-- where strokes are attached
abbrev pub attach_of : ℕ → LabelAttach
attach_of attach = if attach == 1 then Start else (if attach == 2 then End else Middle)

-- how many columns stand from one tab stop to the next
abbrev pub columns_of_tab : ℕ → ℕ
columns_of_tab tab_width = if tab_width == 0 then 4 else tab_width

-- the configuration that the flags and the numbers of a report ask for
abbrev pub config_of : GivenReport → ConfigFields
config_of r = record (flag.config_of r.flags) {
  label_attach = attach_of r.attach;
  tab_width = columns_of_tab r.tab_width;
  context_lines = r.context_lines;
  width = r.width;
}

-- the kind with the report's own name and colour
abbrev pub custom_of : GivenReport → Kind
custom_of r = custom r.kind_name.bytes.now (unwrap_or (color_of r.kind_color) Primary)

-- the kind of a report
abbrev pub kind_of : GivenReport → Kind
kind_of r =
    if r.kind == 0 then error else (if r.kind == 1 then warning
    else (if r.kind == 2 then advice else custom_of r))

-- a code, filled to two characters
abbrev pub code_of : Option (Bor (List ℕ)) → Option (List ℕ)
code_of code = option_map (λ text. filled_code text.now) code

-- a label
abbrev pub label_of : GivenLabel → LabelFields (ℕ × Range ℕ)
label_of l = record {
  span = (l.source, record { start = l.start; end = l.end });
  message = given_text l.message;
  color = color_of l.color;
  order = l.order;
  priority = l.priority;
}

-- the report
abbrev pub report_of : GivenReport → ReportFields (ℕ × Range ℕ)
report_of r = record {
  kind = kind_of r;
  code = option_map filled_code (given_text r.code);
  message = Some r.message.bytes.now;
  span = (r.source, record { start = r.start; end = r.start });
  labels = map label_of r.labels.now;
  notes = map (λ (t : Text). t.bytes.now) r.notes.now;
  helps = map (λ (t : Text). t.bytes.now) r.helps.now;
  config = config_of r;
}
