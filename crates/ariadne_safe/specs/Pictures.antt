-- Pictures that hide nothing on a terminal which reads UTF-8: outside of the colours no character
-- is hidden (`Visible`), but the line feeds at the ends of rows. Each of the colours is the
-- library's own, since no text of a cell has an escape. All this speaks of characters: a byte of
-- one may be what a terminal of 8 bits obeys.
use Rattle.std.specs.Prelude.{ℕ, ◌≡◌, ◌<◌, ◌⊎◌, Bool, true, false, not, ◌&&◌, ◌==◌, List, Option}
use Rattle.std.specs.Prelude.{Some, None, IfSome}
use Rattle.std.specs.List.{list_all, AllByRecursion}
use Rattle.std.specs.Str.{NoCharPasses}
use Rattle.std.specs.Io.KnownBytes.{Appends}
use Rattle.ariadne_picture.specs.declared.label_info.LabelInfo.{LabelInfo}
use Rattle.ariadne_picture.specs.Report.{LabelFields, ReportFields, World}
use Rattle.ariadne_picture.specs.Canvas.{Cell, canvas, kind_name}
use Rattle.ariadne_picture.specs.Print.{printed, unescaped}
use Rattle.ariadne_picture.specs.Sent.{HaveNoLineFeeds}
use Rattle.ariadne_picture.specs.Variants.{HasNoEscape, HaveNoEscapes}
use Rattle.ariadne_safe.specs.Visible.{is_hidden, is_shown}
use Rattle.ariadne_safe.specs.declared.text.TextKind.TheVariants.{OneRow, Aside, Lines}

-- a hidden character that ends no row
abbrev pub is_hidden_in_row : ℕ → Bool
is_hidden_in_row c = is_hidden c && not (c == 10)

-- what is left of a picture without its escape sequences, ESC [ digits and semicolons m, is a text
-- in which line feeds alone are hidden
abbrev pub HidesNothing : List ℕ → Type 0
HidesNothing picture = NoCharPasses is_hidden_in_row (unescaped picture)

-- no text of a cell has a hidden character. Beside its text a cell is printed as the sequences of
-- its colour, so each escape of a picture is one of these
abbrev pub AreCellsShown : List (List Cell) → Type 0
AreCellsShown rows = AllByRecursion (AllByRecursion (λ (c : Cell). NoCharPasses is_hidden c.text)) rows

-- what a writer got, where its bytes are known, hides nothing
abbrev pub GotNothingHidden : Option (List ℕ) → Option (List ℕ) → Type 0
GotNothingHidden before after = (bytes : List ℕ) × HidesNothing bytes × Appends before after bytes

-- a text that there may be
abbrev pub is_shown_if_any : Option (List ℕ) → Bool
is_shown_if_any None = true
is_shown_if_any (Some text) = is_shown OneRow text

-- each text of a report hides nothing
abbrev pub is_shown_report : {S : Type 0} → ReportFields S → Bool
is_shown_report {S} r =
    is_shown OneRow (kind_name r.kind) && is_shown_if_any r.code && is_shown_if_any r.message
    && list_all (λ (label : LabelFields S). is_shown_if_any label.message) r.labels
    && list_all (is_shown Aside) r.notes && list_all (is_shown Aside) r.helps

-- nor do the names and the sources that it is drawn with
pub record HideNothing {S Id : Type 0} (w : World S Id) (r : ReportFields S) : Type 0 where
  pub texts : is_shown_report r ≡ true
  pub names : (q : Id) → is_shown_if_any (w.name_of q) ≡ true
  pub sources : (q : Id) → IfSome (w.source_of q) (λ source. is_shown Lines source.text ≡ true)

-- a report is drawn safely, whatever labels of it are drawn. The texts that it is drawn of have no
-- escapes, and no line feeds where a row shows them whole, so its rows are the lines that are sent
pub record IsDrawnSafely {S Id : Type 0} (w : World S Id) (r : ReportFields S) : Type 0 where
  pub cells_hide_nothing : (infos : List LabelInfo) → AreCellsShown (canvas w r infos)
  pub pictures_hide_nothing : (infos : List LabelInfo) → HidesNothing (printed (canvas w r infos))
  pub without_colors_no_escape : r.config.color ≡ false → (infos : List LabelInfo)
      → HasNoEscape (printed (canvas w r infos))
  pub texts_have_no_escapes : HaveNoEscapes w r
  pub nor_line_feeds : HaveNoLineFeeds w r

-- outside of the sequences no byte is a control of ASCII, or DEL, but the line feeds
abbrev pub HasNoControl : List ℕ → Type 0
HasNoControl picture = AllByRecursion (λ b. (b < 32 ⊎ b ≡ 127) → b ≡ 10) (unescaped picture)
