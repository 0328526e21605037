-- Placings that finished pictures are read by, and reports that draw the same, by computation. Each worked
-- picture is read too, by the placing that the names of its rows give.
use Rattle.std.specs.Prelude.{ℕ, ◌≡◌, ◌==◌, Bool, true, if◌then◌else◌, refl, codes, [], ◌∷◌, List}
use Rattle.ariadne_color.specs.declared.color.Color.TheVariants.{Blue}
use Rattle.ariadne_picture.specs.declared.switches.IndexType.TheVariants.{Byte}
use Rattle.ariadne_picture.specs.declared.label_info.LabelInfo.{LabelInfo}
use Rattle.ariadne_picture.specs.Report.{ReportFields, custom}
use Rattle.ariadne_picture.specs.Pieces.{Section}
use Rattle.ariadne_picture.specs.Canvas.{Cell, canvas, sections, texts_of}
use Rattle.ariadne_picture.specs.Print.{erased, unescaped, printed}
use Rattle.ariadne_picture.specs.Placing.Rows.{Placing}
use Rattle.ariadne_picture.specs.Variants.{colorless, text_of, in_chars, char_world, char_report}
use Rattle.ariadne_picture.proofs.Rows.RowPlacing.{is_read}
use Rattle.ariadne_worked.proofs.Sample.{Span, Entry, world, accepted, ascii_config, one, label, report, drawn}

unfoldable pub infos : List Entry → ReportFields Span → List LabelInfo
infos entries r = accepted (world entries) r

unfoldable pub cells_of : List Entry → ReportFields Span → List (List Cell)
cells_of entries r = canvas (world entries) r (infos entries r)

unfoldable pub parts_of : List Entry → ReportFields Span → List Section
parts_of entries r = sections (world entries) r (infos entries r)

unfoldable pub is_read_by : Placing → List Entry → ReportFields Span → Bool
is_read_by p entries r = is_read (cells_of entries r) (parts_of entries r) (texts_of r) p

unfoldable pub choose : ℕ → ℕ → ℕ → ℕ
choose a b k = if k == 0 then a else b

unfoldable pub nested : ReportFields Span
nested = report (label 1 4 "mid" ∷ label 0 8 "all" ∷ [])

-- the inner label's message stands in row 8, its head in row 5; the outer one's in rows 11 and 3
unfoldable pub nested_placing : Placing
nested_placing = record {
  start = λ g. if g == 0 then 1 else 13;
  source_row = λ g l. if l == 0 then 3 else if l == 1 then 6 else 9;
  block_len = λ g l. 2;
  places = λ g l. if l == 2 then 4 else 5;
  message_row = choose 8 11;
  head_row = λ g i. if i == 0 then 3 else 5;
}

nested_labels_are_read : is_read_by nested_placing (one "aa\nbb\ncc") nested ≡ true
unfolding drawn infos cells_of parts_of is_read_by choose nested nested_placing
nested_labels_are_read = refl

-- ---- two groups over the same lines, with a gap row

unfoldable pub apart : ReportFields Span
apart = report (label 0 8 "all" ∷ label 1 4 "mid" ∷ [])

unfoldable pub apart_placing : Placing
apart_placing = record {
  start = λ g. if g == 0 then 1 else if g == 1 then 9 else 16;
  source_row = λ g l. if g == 0 then choose 3 5 l else choose 11 12 l;
  block_len = λ g l. if g == 0 then choose 0 2 l else choose 0 2 l;
  places = λ g l. if g == 0 then 4 else 5;
  message_row = choose 7 14;
  head_row = λ g i. choose 3 11 g;
}

labels_in_two_groups_are_read : is_read_by apart_placing (one "aa\nbb\ncc") apart ≡ true
unfolding drawn infos cells_of parts_of is_read_by choose apart apart_placing
labels_in_two_groups_are_read = refl

-- ---- a wide character under a tab

unfoldable pub wide : ReportFields Span
wide = report (label 1 2 "w" ∷ [])

unfoldable pub wide_placing : Placing
wide_placing = record {
  start = λ g. if g == 0 then 1 else 7;
  source_row = λ g l. 3;
  block_len = λ g l. 2;
  places = λ g l. 4;
  message_row = λ k. 5;
  head_row = λ g i. 0;
}

a_wide_character_is_read : is_read_by wide_placing (one "\t漢x") wide ≡ true
unfolding drawn infos cells_of parts_of is_read_by choose wide wide_placing
a_wide_character_is_read = refl

-- ---- reports that draw the same

unfoldable pub painted_report : ReportFields Span
painted_report = record nested { kind = custom (codes "Hint") Blue; config = record ascii_config { color = true } }

colors_move_nothing_here : erased (cells_of (one "aa\nbb\ncc") painted_report) ≡ cells_of (one "aa\nbb\ncc") (colorless painted_report)
unfolding drawn infos nested cells_of painted_report
colors_move_nothing_here = refl

escapes_are_all_that_is_taken_away : unescaped (printed (cells_of (one "aa\nbb\ncc") painted_report)) ≡ printed
    (erased (cells_of (one "aa\nbb\ncc") painted_report))
unfolding drawn infos nested cells_of painted_report
escapes_are_all_that_is_taken_away = refl

unfoldable pub byte_report : ReportFields Span
byte_report = record (report (label 3 4 "m" ∷ [])) { config = record ascii_config { index_type = Byte } }

bytes_draw_as_characters_here : cells_of (one "é\nb") byte_report
    ≡ canvas (char_world (world (one "é\nb")) byte_report) (char_report (world (one "é\nb")) byte_report)
    (infos (one "é\nb") byte_report)
unfolding drawn infos cells_of byte_report text_of in_chars
bytes_draw_as_characters_here = refl
