-- The premises of the promise. Each is met by a report in colours, so none is a condition that nothing meets. And each text
-- that two of them name is needed: an escape sequence in that text alone goes, where all sequences are taken away, and a line
-- feed in that text alone cuts a row.
use Rattle.std.specs.Prelude.{ℕ, ◌≡◌, ◌+◌, ◌<◌, ◌^◌, Bool, true, false, cond, not, [], ◌∷◌, ◌++◌, length, map, Some, None, List, refl, nat_eq, option_map}
use Rattle.std.specs.Str.{chars}
use Rattle.std.specs.Cmp.Lexicographic.{pointwise}
use Rattle.std.proofs.Common.{sym, subst, arith}
use Rattle.std.proofs.lemmas.Bool.{true≢false}
use Rattle.ariadne_color.specs.declared.color.Color.TheVariants.{Primary}
use Rattle.ariadne_base.specs.Lines.{lines_of}
use Rattle.ariadne_base.specs.Listing.{Listing, listed_lines}
use Rattle.ariadne_picture.specs.declared.switches.IndexType.TheVariants.{Byte}
use Rattle.ariadne_picture.specs.Report.{ReportFields, custom}
use Rattle.ariadne_picture.specs.Canvas.{canvas}
use Rattle.ariadne_picture.specs.Print.{printed, unescaped}
use Rattle.ariadne_picture.specs.Sent.{row_text, lines_sent, HaveNoLineFeeds}
use Rattle.ariadne_picture.specs.ReadBack.{HaveShortNumbers, HaveWholeLines}
use Rattle.ariadne_picture.specs.Variants.{HaveNoEscapes, OwnStartIsBoundary, colorless, text_of, in_chars, char_world, char_report}
use Rattle.ariadne_worked.proofs.Sample.{Span, Entry, world, utf8, named, one, report, label, silent_label, label_in, ascii_config, color_config, byte_config, drawn}
use Rattle.ariadne_worked.proofs.Readings.{infos, cells_of}

-- ---- a report in colours that has all texts

-- a source that is called as its id, and one that no label is in, whose name and text are an escape
unfoldable pub sources : List Entry
sources =
    named "a" "x\ny"
    ∷ record { id = utf8 "b"; name = Some (27 ∷ []); listing = record { text = 27 ∷ []; display_offset = 0 } } ∷ []

unfoldable pub colored : ReportFields Span
colored = record (report (label_in "a" 0 1 "m" ∷ [])) {
  code = Some (utf8 "7");
  message = Some (utf8 "t");
  notes = utf8 "n\no" ∷ [];
  helps = utf8 "h" ∷ [];
  config = color_config;
}

pub no_text_has_an_escape : HaveNoEscapes (world sources) colored
unfolding drawn sources colored chars
no_text_has_an_escape = record {
  kind = refl;
  code = refl;
  message = refl;
  labels = (refl, tt);
  notes = (refl, tt);
  helps = (refl, tt);
  names = (refl, tt);
  sources = (refl, tt);
}

-- a source and a note may have line feeds
pub no_row_is_cut : HaveNoLineFeeds (world sources) colored
unfolding drawn sources colored
no_row_is_cut = record { kind = refl; code = refl; message = refl; labels = (refl, tt); names = (refl, tt) }

-- the numbers of its lines are small
pub lines_have_short_numbers : HaveShortNumbers (world sources)
unfolding drawn sources chars lines_of
lines_have_short_numbers id source = short (pointwise nat_eq (utf8 "a") id) (pointwise nat_eq (utf8 "b") id)
  where
    first : Listing
    first = record { text = utf8 "x\ny"; display_offset = 0 }

    second : Listing
    second = record { text = 27 ∷ []; display_offset = 0 }

    short : (is_first is_second : Bool)
        → option_map (λ (e : Entry). e.listing) (cond is_first (Some (named "a" "x\ny"))
        (cond is_second (Some (record { id = utf8 "b"; name = Some (27 ∷ []); listing = second })) None)) ≡ Some source
        → length (listed_lines source) + source.display_offset < 2 ^ 64
    short true is_second e =
        let same : first ≡ source = cc in
        let two : length (listed_lines first) ≡ 2 = refl in
        subst (λ s. length (listed_lines s) + s.display_offset < 2 ^ 64) same (omega (arith, two))
    short false true e =
        let same : second ≡ source = cc in
        let one : length (listed_lines second) ≡ 1 = refl in
        subst (λ s. length (listed_lines s) + s.display_offset < 2 ^ 64) same (omega (arith, one))
    short false false e = absurd cc

-- ---- a report in bytes whose own start is a boundary of its source, behind a character of two bytes

unfoldable pub in_bytes : ReportFields Span
in_bytes = record (report (label 2 3 "m" ∷ [])) {
  span = record { id = utf8 ""; start = 2; end = 3 };
  config = record color_config { index_type = Byte };
}

pub its_own_start_is_a_boundary : OwnStartIsBoundary (world (one "éb")) in_bytes (infos (one "éb") in_bytes)
unfolding drawn infos in_bytes text_of in_chars chars
its_own_start_is_a_boundary = ((λ same. refl), tt)

-- where it lies inside a character, its header names no place, and that of the report in characters does
unfoldable inside : ReportFields Span
inside = record (report (label 0 2 "m" ∷ [])) { span = record { id = utf8 ""; start = 1; end = 1 }; config = byte_config }

unfoldable is_alike : List Entry → ReportFields Span → Bool
is_alike entries r =
    let w = world entries in
    let labels = infos entries r in
    pointwise nat_eq (printed (canvas w r labels)) (printed (canvas (char_world w r) (char_report w r) labels))

a_boundary_moves_nothing : is_alike (one "éb") in_bytes ≡ true
unfolding drawn infos in_bytes text_of in_chars is_alike
a_boundary_moves_nothing = refl

an_own_start_inside_a_character : (is_alike (one "é") inside ≡ false) × (OwnStartIsBoundary (world (one "é")) inside (infos (one "é") inside) → ⊥)
unfolding drawn infos inside text_of in_chars is_alike chars
an_own_start_inside_a_character = (refl, λ h. let e = h.0 refl in cc)

-- ---- an escape sequence in one text alone

-- what is left of the bytes isn't the print of the report without colours
unfoldable is_moved : List Entry → ReportFields Span → Bool
is_moved entries r = not (pointwise nat_eq (unescaped (printed (cells_of entries r))) (printed (cells_of entries (colorless r))))

-- a report that breaks the premise, and whose bytes are moved
abbrev IsNeeded : List Entry → ReportFields Span → Type 0
IsNeeded entries r = (is_moved entries r ≡ true) × (HaveNoEscapes (world entries) r → ⊥)

-- the sequence that ends all colours
abbrev sequence : List ℕ
sequence = 27 ∷ 91 ∷ 109 ∷ []

unfoldable simple : ReportFields Span
simple = report (label 0 1 "m" ∷ [])

unfoldable moved : Unit {0}
unfolding drawn infos cells_of is_moved simple
moved = tt

without_one_nothing_moves : is_moved (one "x") simple ≡ false
unfolding moved
without_one_nothing_moves = refl

in_the_kind : IsNeeded (one "x") (record simple { kind = custom sequence Primary })
unfolding moved
in_the_kind = (refl, λ h. true≢false (sym h.kind))

in_the_code : IsNeeded (one "x") (record simple { code = Some sequence })
unfolding moved
in_the_code = (refl, λ h. true≢false (sym h.code))

in_the_message : IsNeeded (one "x") (record simple { message = Some sequence })
unfolding moved
in_the_message = (refl, λ h. true≢false (sym h.message))

in_the_message_of_a_label : IsNeeded (one "x")
    (report (record (silent_label 0 1) { message = Some sequence } ∷ []))
unfolding moved
in_the_message_of_a_label = (refl, λ h. true≢false (sym h.labels.0))

in_a_note : IsNeeded (one "x") (record simple { notes = sequence ∷ [] })
unfolding moved
in_a_note = (refl, λ h. true≢false (sym h.notes.0))

in_a_help : IsNeeded (one "x") (record simple { helps = sequence ∷ [] })
unfolding moved
in_a_help = (refl, λ h. true≢false (sym h.helps.0))

in_a_name : IsNeeded (record { id = []; name = Some sequence; listing = record { text = utf8 "x"; display_offset = 0 } } ∷ []) simple
unfolding moved
in_a_name = (refl, λ h. true≢false (sym h.names.0))

in_a_source : IsNeeded (record { id = []; name = None; listing = record { text = sequence; display_offset = 0 } } ∷ []) simple
unfolding moved chars
in_a_source = (refl, λ h. true≢false (sym h.sources.0))

-- ---- a line feed in one text alone

-- the lines that are sent aren't the texts of the rows
unfoldable is_cut : List Entry → ReportFields Span → Bool
is_cut entries r =
    let cells = cells_of entries r in
    not (pointwise (pointwise nat_eq) (lines_sent (unescaped (printed cells))) (map row_text cells ++ [] ∷ []))

-- a report that breaks the premise, and of which a row is cut
abbrev IsFed : List Entry → ReportFields Span → Type 0
IsFed entries r = (is_cut entries r ≡ true) × (HaveNoLineFeeds (world entries) r → ⊥)

-- two lines
abbrev fed : List ℕ
fed = 97 ∷ 10 ∷ 98 ∷ []

unfoldable cut : Unit {0}
unfolding moved is_cut row_text
cut = tt

without_one_no_row_is_cut : is_cut (one "x") simple ≡ false
unfolding cut
without_one_no_row_is_cut = refl

fed_in_the_kind : IsFed (one "x") (record simple { kind = custom fed Primary })
unfolding cut
fed_in_the_kind = (refl, λ h. true≢false (sym h.kind))

fed_in_the_code : IsFed (one "x") (record simple { code = Some fed })
unfolding cut
fed_in_the_code = (refl, λ h. true≢false (sym h.code))

fed_in_the_message : IsFed (one "x") (record simple { message = Some fed })
unfolding cut
fed_in_the_message = (refl, λ h. true≢false (sym h.message))

fed_in_the_message_of_a_label : IsFed (one "x") (report (record (silent_label 0 1) { message = Some fed } ∷ []))
unfolding cut
fed_in_the_message_of_a_label = (refl, λ h. true≢false (sym h.labels.0))

fed_in_a_name : IsFed (record { id = []; name = Some fed; listing = record { text = utf8 "x"; display_offset = 0 } } ∷ []) simple
unfolding cut
fed_in_a_name = (refl, λ h. true≢false (sym h.names.0))

-- ---- a line that is cut

unfoldable cut_line : ReportFields Span
cut_line = record simple { labels = label 7 8 "h" ∷ []; config = record ascii_config { width = 9 } }

-- it breaks the premise of reading back without the gutters
a_line_that_is_cut : let w = world (one "abcdefghijklmnop") in
    HaveWholeLines w cut_line (infos (one "abcdefghijklmnop") cut_line) → ⊥
unfolding moved cut_line
a_line_that_is_cut h = true≢false (h.0 0)
