-- Reports whose pictures the placing of their rows' names doesn't read, since they break a premise: two
-- ids that count as one have two sources, or a label starts behind its end. And a source whose bytes hold no escape, but whose picture does.
use Rattle.std.proofs.Common.{◌≡◌, ℕ, true, false, List, [], ◌∷◌, None, refl, get_or}
use Rattle.std.specs.Str.{chars}
use Rattle.ariadne_picture.specs.declared.label_info.LabelInfo.{LabelInfo}
use Rattle.ariadne_picture.specs.Report.{World, ReportFields}
use Rattle.ariadne_picture.specs.Canvas.{canvas, sections, texts_of}
use Rattle.ariadne_picture.specs.Pieces.{message_at}
use Rattle.ariadne_picture.specs.Placing.Cells.{no_cell}
use Rattle.ariadne_picture.specs.Placing.Together.{is_placing}
use Rattle.ariadne_picture.specs.Placing.MessageRows.{has_message_rows}
use Rattle.ariadne_picture.specs.Placing.InlineTraces.{has_inline_traces}
use Rattle.ariadne_picture.proofs.Rows.RowPlacing.{row_placing}
use Rattle.ariadne_worked.proofs.Sample.{Span, Entry, world, reasons, accepted, report, label_in, silent_label_in, utf8, ascii_config, drawn}
use Rattle.ariadne_picture.specs.declared.switches.LabelAttach.TheVariants.{Start}

held : List Entry
held =
    record { id = utf8 "b"; name = None; listing = record { text = utf8 "b\nb\nb"; display_offset = 0 } }
    ∷ record { id = utf8 "a"; name = None; listing = record { text = utf8 "x\naaaaaaaaaa"; display_offset = 0 } } ∷ []

-- all ids are told to be the same
one_id : World Span (List ℕ)
one_id = record (world held) { is_same = λ p q. true }

-- label 0 over two lines of source b, label 1 in the second line of source a
two_labels : ReportFields Span
two_labels = report (label_in "b" 0 3 "over b" ∷ label_in "a" 9 10 "over a" ∷ [])

infos : List LabelInfo
infos = accepted one_id two_labels

both_are_accepted : reasons one_id two_labels ≡ None ∷ None ∷ []
unfolding drawn held one_id two_labels
both_are_accepted = refl

-- placed, with message rows and aligned, but the inline label's attach character has no place
placed : is_placing (canvas one_id two_labels infos) (sections one_id two_labels infos)
    (row_placing (texts_of two_labels) (sections one_id two_labels infos)) ≡ true
unfolding drawn held one_id two_labels infos
placed = refl

messages : has_message_rows (canvas one_id two_labels infos) (sections one_id two_labels infos)
    (row_placing (texts_of two_labels) (sections one_id two_labels infos)) (message_at (texts_of two_labels)) ≡ true
unfolding drawn held one_id two_labels infos
messages = refl

untraced : has_inline_traces (canvas one_id two_labels infos) (sections one_id two_labels infos)
    (row_placing (texts_of two_labels) (sections one_id two_labels infos)) ≡ false
unfolding drawn held one_id two_labels infos
untraced = refl

-- ---- a span whose start is behind its end

back : ReportFields Span
back = record (report (label_in "b" 4 1 "back" ∷ [])) { config = record ascii_config { compact = true; label_attach = Start } }

one_line : List Entry
one_line = record { id = utf8 "b"; name = None; listing = record { text = utf8 "bbbbbbbb"; display_offset = 0 } } ∷ []

back_infos : List LabelInfo
back_infos = accepted (world one_line) back

-- it is accepted
back_accepted : reasons (world one_line) back ≡ None ∷ []
unfolding drawn one_line back
back_accepted = refl

-- but its attach character has no place
back_untraced : has_inline_traces (canvas (world one_line) back back_infos) (sections (world one_line) back back_infos)
    (row_placing (texts_of back) (sections (world one_line) back back_infos)) ≡ false
unfolding drawn one_line back back_infos
back_untraced = refl

-- ---- bytes that are no text, and are read as the character that begins an escape sequence

no_text : List ℕ
no_text = 192 ∷ 155 ∷ []

read_as_escape : chars no_text ≡ 27 ∷ []
unfolding chars no_text
read_as_escape = refl

over_no_text : List Entry
over_no_text = record { id = utf8 "b"; name = None; listing = record { text = no_text; display_offset = 0 } } ∷ []

silent : ReportFields Span
silent = report (silent_label_in "b" 0 1 ∷ [])

-- its label is accepted, and its source row shows the escape
shows_escape : get_or (get_or (canvas (world over_no_text) silent (accepted (world over_no_text) silent)) 3 []) 3 no_cell
    ≡ record { text = 27 ∷ []; color = None; columns = 1 }
unfolding drawn no_text over_no_text silent chars
shows_escape = refl
