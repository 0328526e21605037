-- Reports that draw the same picture: one without colours draws what is left where the colours are
-- taken away, and one whose offsets count bytes draws as the one with the same offsets in
-- characters.
use Rattle.std.specs.Prelude.{ℕ, ◌≡◌, true, false, not, ◌==◌, min, List, [], map, Option, Some}
use Rattle.std.specs.Prelude.{None, IfSome, is_some, unwrap_or, option_map, option_and_then, chars}
use Rattle.std.specs.Prelude.{slice_get}
use Rattle.std.specs.List.{list_all, AllByRecursion}
use Rattle.ariadne_color.specs.declared.color.Color.TheVariants.{Primary}
use Rattle.ariadne_picture.specs.declared.switches.IndexType.TheVariants.{Char}
use Rattle.ariadne_picture.specs.declared.verdict.Verdict.{Verdict}
use Rattle.ariadne_picture.specs.declared.verdict.Verdict.TheVariants.{Accepted}
use Rattle.ariadne_picture.specs.declared.label_info.LabelInfo.{LabelInfo}
use Rattle.ariadne_picture.specs.Report.{Kind, custom, LabelFields}
use Rattle.ariadne_picture.specs.Report.{ReportFields, World}
use Rattle.ariadne_picture.specs.Accept.{text_len, offset_in_chars, verdict_in}
use Rattle.ariadne_picture.specs.Canvas.{canvas, kind_name, is_same_id, group_id, groups}
use Rattle.ariadne_picture.specs.Print.{printed, erased, unescaped}

-- ---- without colours

-- a kind without a colour of its own
abbrev pub plain_kind : Kind → Kind
plain_kind (custom name color) = custom name Primary
plain_kind kind = kind

-- the report without colours
abbrev pub colorless : {S : Type 0} → ReportFields S → ReportFields S
colorless {S} r = record r {
  kind = plain_kind r.kind;
  labels = map (λ (label : LabelFields S). record label { color = None }) r.labels;
  config = record r.config { color = false };
}

-- bytes, or characters, without the one that begins an escape sequence
abbrev pub HasNoEscape : List ℕ → Type 0
HasNoEscape text = list_all (λ b. not (b == 27)) text ≡ true

-- no text that was handed in has it: neither the report's own nor what is held under its labels'
-- ids. Of a source its characters count, since these are shown
pub record HaveNoEscapes {S Id : Type 0} (w : World S Id) (r : ReportFields S) : Type 0 where
  pub kind : HasNoEscape (kind_name r.kind)
  pub code : IfSome r.code HasNoEscape
  pub message : IfSome r.message HasNoEscape
  pub labels : AllByRecursion (λ label. IfSome label.message HasNoEscape) r.labels
  pub notes : AllByRecursion HasNoEscape r.notes
  pub helps : AllByRecursion HasNoEscape r.helps
  pub names : AllByRecursion (λ label. IfSome (w.name_of (w.id_of label.span)) HasNoEscape) r.labels
  pub sources : AllByRecursion (λ label. IfSome (w.source_of (w.id_of label.span))
      (λ source. HasNoEscape (chars source.text))) r.labels

-- Colours move nothing. What is left of the canvas without its colours is the canvas of the report
-- without colours. What is left of the bytes without escape sequences is the print of that canvas.
pub record ColorsMoveNothing {S Id : Type 0} (w : World S Id) (r : ReportFields S)
    (infos : List LabelInfo) : Type 0 where
  pub cells : erased (canvas w r infos) ≡ canvas w (colorless r) infos
  pub bytes : HaveNoEscapes w r
      → unescaped (printed (canvas w r infos)) ≡ printed (canvas w (colorless r) infos)

-- ---- offsets in characters

-- what becomes of the label at a position, where its source is held
abbrev pub verdict_at : {S Id : Type 0} → World S Id → ReportFields S → ℕ → Option Verdict
verdict_at w r k =
    option_and_then (λ label. option_map (verdict_in w r.config k label) (w.source_of (w.id_of label.span)))
    (slice_get r.labels k)

module _ {S Id : Type 0} (w : World S Id) (r : ReportFields S) where
  -- the text of the source that a span is of
  unfoldable pub text_of : S → List ℕ
  text_of span = chars (unwrap_or (option_map (λ source. source.text) (w.source_of (w.id_of span))) [])

  -- an offset of this text in characters, if it lies inside none
  unfoldable pub in_chars : S → ℕ → Option ℕ
  in_chars span o = offset_in_chars r.config.index_type (text_of span) o

  -- the same world, whose offsets are in characters. An end past the end of its source is taken as
  -- that one, and an offset inside a character stays as it is
  abbrev pub char_world : World S Id
  char_world = record w {
    start_of = λ span. unwrap_or (in_chars span (w.start_of span)) (w.start_of span);
    end_of = λ span.
        let end = min (w.end_of span) (text_len r.config.index_type (text_of span)) in
        unwrap_or (in_chars span end) (w.end_of span);
  }

  -- the report whose offsets are in characters
  abbrev pub char_report : ReportFields S
  char_report = record r { config = record r.config { index_type = Char } }

  -- wherever a group is over the source of the report's own span, the own start lies inside no
  -- character of it
  abbrev pub OwnStartIsBoundary : List LabelInfo → Type 0
  OwnStartIsBoundary infos =
      AllByRecursion (λ group. is_same_id w r (group_id w r group) (Some (w.id_of r.span)) ≡ true
      → is_some (in_chars r.span (w.start_of r.span)) ≡ true) (groups w r infos)

  -- bytes draw as characters: each drawn label is accepted there as the same, and where the own
  -- start is a boundary the canvas is the same
  pub record BytesDrawAsCharacters (infos : List LabelInfo) : Type 0 where
    pub labels : AllByRecursion
        (λ a. verdict_at char_world char_report a.position ≡ Some (Accepted a)) infos
    pub cells : OwnStartIsBoundary infos → canvas w r infos ≡ canvas char_world char_report infos
