-- A report as a record of fields, as its calls set them, and what the picture reads of the outside:
-- ids, names and sources. Texts are their bytes in UTF-8.
use Rattle.std.specs.Prelude.{◌≡◌, ℕ, ◌≤◌, ℤ, pos, Bool, true, false, if◌then◌else◌, List, []}
use Rattle.std.specs.Prelude.{Option, Some, None, codes}
use Rattle.std.specs.Str.{bytes_eq}
use Rattle.std.specs.List.{AllByRecursion}
use Rattle.ariadne_base.specs.Listing.{Listing}
use Rattle.ariadne_color.specs.declared.color.Color.{Color}
use Rattle.ariadne_picture.specs.declared.switches.LabelAttach.{LabelAttach}
use Rattle.ariadne_picture.specs.declared.switches.LabelAttach.TheVariants.{Middle}
use Rattle.ariadne_picture.specs.declared.switches.CharSet.{CharSet}
use Rattle.ariadne_picture.specs.declared.switches.CharSet.TheVariants.{Unicode}
use Rattle.ariadne_picture.specs.declared.switches.IndexType.{IndexType}
use Rattle.ariadne_picture.specs.declared.switches.IndexType.TheVariants.{Char}
use Rattle.ariadne_picture.specs.declared.switches.Switches.{Switches}

-- the switches of a configuration
pub record ConfigFields : Type 0 where
  pub cross_gap : Bool
  pub label_attach : LabelAttach
  pub compact : Bool
  pub underlines : Bool
  pub lone_underlines : Bool
  pub multiline_arrows : Bool
  pub color : Bool
  pub tab_width : ℕ
  pub context_lines : ℕ
  pub width : ℕ
  pub char_set : CharSet
  pub index_type : IndexType

-- the configuration of a report that is given none
abbrev pub default_config : ConfigFields
default_config = record {
  cross_gap = true;
  label_attach = Middle;
  compact = false;
  underlines = true;
  lone_underlines = false;
  multiline_arrows = true;
  color = true;
  tab_width = 4;
  context_lines = 0;
  width = 0;
  char_set = Unicode;
  index_type = Char;
}

-- a configuration with the switch of this name on or off, if a switch has the name
abbrev pub switched : ConfigFields → List ℕ → Bool → Option ConfigFields
switched config name is_on =
    if bytes_eq name (codes "cross_gap") then Some (record config { cross_gap = is_on }) else
    (if bytes_eq name (codes "compact") then Some (record config { compact = is_on }) else
    (if bytes_eq name (codes "underlines") then Some (record config { underlines = is_on }) else
    (if bytes_eq name (codes "lone_underlines") then Some (record config { lone_underlines = is_on }) else
    (if bytes_eq name (codes "multiline_arrows") then Some (record config { multiline_arrows = is_on }) else
    (if bytes_eq name (codes "color") then Some (record config { color = is_on }) else
    None)))))

-- what a report is: one of three, or of a name and a colour of its own
pub data Kind : Type 0 where
  error : Kind
  warning : Kind
  advice : Kind
  custom : List ℕ → Color → Kind

-- a label over a span of type S
pub record LabelFields (S : Type 0) : Type 0 where
  pub span : S
  pub message : Option (List ℕ)
  pub color : Option Color
  pub order : ℤ
  pub priority : ℤ

-- a label as it is made
abbrev pub new_label : {S : Type 0} → S → LabelFields S
new_label span =
    record { span = span; message = None; color = None; order = pos 0; priority = pos 0 }

-- a report over spans of type S
pub record ReportFields (S : Type 0) : Type 0 where
  pub kind : Kind
  pub code : Option (List ℕ)
  pub message : Option (List ℕ)
  pub span : S
  pub labels : List (LabelFields S)
  pub notes : List (List ℕ)
  pub helps : List (List ℕ)
  pub config : ConfigFields

-- a report as it is begun
abbrev pub new_report : {S : Type 0} → Kind → S → ReportFields S
new_report kind span = record {
  kind = kind;
  code = None;
  message = None;
  span = span;
  labels = [];
  notes = [];
  helps = [];
  config = default_config;
}

-- how spans of type S are read, which ids are the same, what each id is called, and the source that
-- is held under it
pub record World (S Id : Type 0) : Type 0 where
  pub id_of : S → Id
  pub start_of : S → ℕ
  pub end_of : S → ℕ
  pub is_same : Id → Id → Bool
  pub name_of : Id → Option (List ℕ)
  pub source_of : Id → Option Listing

-- ids that count as one have one source: so it is where sources are looked up by their ids
abbrev pub HaveOneSource : {S Id : Type 0} → World S Id → Type 0
HaveOneSource {S} {Id} w = (id other : Id) → w.is_same id other ≡ true → w.source_of id ≡ w.source_of other

-- each label starts at most at its end
abbrev pub AreForward : {S Id : Type 0} → World S Id → ReportFields S → Type 0
AreForward w r = AllByRecursion (λ label. w.start_of label.span ≤ w.end_of label.span) r.labels

-- ---- what the layout reads of a configuration: neither colours nor what offsets count

-- the switches of a configuration
abbrev pub switches_of : ConfigFields → Switches
switches_of config = record {
  cross_gap = config.cross_gap;
  compact = config.compact;
  underlines = config.underlines;
  lone_underlines = config.lone_underlines;
  tab_width = config.tab_width;
  context_lines = config.context_lines;
  width = config.width;
  char_set = config.char_set;
}
