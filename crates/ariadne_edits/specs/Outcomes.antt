-- What comes of edits of a source.
use Rattle.std.specs.Prelude.{ℕ, ◌≡◌, List, length, map, Some, None, chars, ⊤}
use Rattle.ariadne_base.specs.Lines.{lines_of}
use Rattle.ariadne_picture.specs.declared.switches.IndexType.{IndexType}
use Rattle.ariadne_edits.specs.Changes.{AreInOrder, edited_text, in_bytes}
use Rattle.ariadne_edits.specs.Counterparts.{HaveCounterparts}
use Rattle.ariadne_edits.specs.HelpTexts.{drawn_text, number_width}
use Rattle.ariadne_edits.specs.KeptLines.{KeepUntouched}
use Rattle.ariadne_edits.specs.Refusals.{refusal_of}
use Rattle.ariadne_edits.specs.SuggestionRows.{Tell}
use Rattle.ariadne_edits.specs.declared.change.Change.{Change}
use Rattle.ariadne_edits.specs.declared.cut.View.{View}
use Rattle.ariadne_edits.specs.declared.edit.BadEdit.{BadEdit}
use Rattle.ariadne_edits.specs.declared.edit.Edit.{Edit}
use Rattle.ariadne_edits.specs.declared.edit.EditError.{EditError}
use Rattle.ariadne_edits.specs.declared.edit.EditError.TheVariants.{Memory, Refused}
use Rattle.ariadne_edits.specs.declared.rows.Row.{Row}

-- edits of a text are made: in order nothing is wrong with them, and these are they in bytes
pub record Accepts (counts : IndexType) (text : List ℕ) (edits : List Edit) (made : List Change)
    : Type 0 where
  pub changes : List Change
  pub in_order : AreInOrder edits changes
  pub sound : refusal_of counts text changes ≡ None
  pub made_are : made ≡ map (in_bytes counts text) changes

-- edits of a text are refused: in order this is wrong with them
pub record Refuses (counts : IndexType) (text : List ℕ) (edits : List Edit) (bad : BadEdit)
    : Type 0 where
  pub changes : List Change
  pub in_order : AreInOrder edits changes
  pub wrong : refusal_of counts text changes ≡ Some bad

abbrev pub RefusedAs : IndexType → List ℕ → List Edit → EditError → Type 0
RefusedAs counts text edits (Memory _) = ⊤
RefusedAs counts text edits (Refused bad) = Refuses counts text edits bad

-- a text is that which edits make of another
pub record IsEdited (counts : IndexType) (text : List ℕ) (edits : List Edit) (out : List ℕ)
    : Type 0 where
  pub made : List Change
  pub accepted : Accepts counts text edits made
  pub is : out ≡ edited_text text made

-- a text shows which lines edits of a source change: rows tell how the lines of the source become those
-- of the edited text, each line that no edit touches is kept, those that change have their counterparts,
-- and all rows are drawn
pub record IsSuggestion (counts : IndexType) (view : View) (offset : ℕ) (text : List ℕ)
    (edits : List Edit) (help : List ℕ) : Type 0 where
  pub after : List ℕ
  pub edited : IsEdited counts text edits after
  pub rows : List Row
  pub told : Tell (lines_of (chars text)) (lines_of (chars after)) rows
  pub kept : KeepUntouched text edited.made rows
  pub counterparts : HaveCounterparts (0, 0)
      (length (lines_of (chars text)), length (lines_of (chars after))) rows
  pub drawn : help ≡ drawn_text
      (record { width = number_width offset rows; offset = offset; view = view })
      (lines_of (chars text)) (lines_of (chars after)) rows
