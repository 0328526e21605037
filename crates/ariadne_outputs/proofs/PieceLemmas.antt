-- What a line is cut into, and what is shown of it.
use Rattle.std.proofs.Common.{◌≡◌, ◌∙◌, ℕ, Bool, true, false, not, ◌&&◌, eqb, cond, List, [], ◌∷◌, ◌++◌, map, refl, ap, sym, codes, Option, Some, None, append-nil}
use Rattle.std.specs.List.{flat_map, fold, join_with_byte, list_all, slice_split}
use Rattle.std.proofs.lemmas.Bool.{and_from, and_parts, cond_both, not-false}
use Rattle.std.proofs.lemmas.List.Concat.{flat_map-append}
use Rattle.std.proofs.lemmas.List.Folds.{list_all-append}
use Rattle.std.proofs.lemmas.List.Splits.{join_with_byte-slice_split}
use Rattle.std.proofs.lemmas.List.Sums.{fold-append}
use Rattle.ariadne_outputs.specs.Passing.{Piece, text_piece, kept_piece, dropped_piece, hides_nothing, is_painted_behind, line_code, passing_text, piece_text, pieces_behind, pieces_beside, pieces_of, pieces_of_parts, pieces_with, sequence_piece, shown_piece}
use Rattle.ariadne_outputs.specs.Sequences.{Sequence, are_kept, behind_charset, is_kept, is_of_parameters, is_reset, parts_of, sequence_in}
use Rattle.ariadne_outputs.specs.Terminal.{look_behind, plain, step}
use Rattle.ariadne_outputs.specs.declared.sequence.Awaited.TheVariants.{Attribute}
use Rattle.ariadne_outputs.proofs.Codes.{clear_text_stays, codes_clear, no_escape, is_clear}
use Rattle.ariadne_outputs.proofs.SequenceLemmas.{IsFirst, charset_first, found_first, last_of}
use Rattle.ariadne_outputs.proofs.TerminalLemmas.{at_rest, kept_behind, reset_behind_look, reset_clears, text_behind}

-- ---- lists of pieces

-- whether letters are painted behind two lists
pub painted_append : (before : Bool) (xs ys : List Piece)
    → is_painted_behind before (xs ++ ys) ≡ is_painted_behind (is_painted_behind before xs) ys
painted_append before [] ys = refl
painted_append before (text_piece t ∷ xs) ys = painted_append before xs ys
painted_append before (kept_piece ps ∷ xs) ys = painted_append (not (is_reset ps)) xs ys
painted_append before (dropped_piece s ∷ xs) ys = painted_append before xs ys

-- ---- a terminal behind them

-- what is shown of pieces leaves a terminal at rest, with no look where it tells that letters aren't painted
record LeavesAtRest (look : List ℕ) (before : Bool) (pieces : List Piece) : Type 0 where
  last : List ℕ
  shown : fold step (at_rest look) (flat_map shown_piece pieces) ≡ at_rest last
  plainly : is_painted_behind before pieces ≡ false → last ≡ []

-- text does
text_leaves : (look : List ℕ) (before : Bool) (t : List ℕ) → (before ≡ false → look ≡ [])
    → LeavesAtRest look before (text_piece t ∷ [])
text_leaves look before t rests = record {
  last = look;
  shown = ap (λ xs. fold step (at_rest look) xs) (append-nil (map line_code t)) ∙ text_behind look t;
  plainly = rests;
}

-- a sequence and text do
sequence_leaves : (colors : Bool) (look : List ℕ) (before : Bool) (s : Sequence)
    → list_all is_of_parameters s.parameters ≡ true → (before ≡ false → look ≡ [])
    → LeavesAtRest look before (sequence_piece colors s ∷ text_piece s.behind ∷ [])
sequence_leaves colors look before s all rests =
    cond_both (colors && is_kept s) (kept_piece s.parameters) (dropped_piece (27 ∷ 91 ∷ s.parameters ++ last_of s))
    (λ piece. LeavesAtRest look before (piece ∷ text_piece s.behind ∷ []))
    (λ e.
    let is = (and_parts s.is_paint (are_kept s.parameters) (and_parts colors (is_kept s) e).1).1 in
    let next = look_behind Attribute (parts_of s.parameters) look in
    let behind = text_leaves next (not (is_reset s.parameters)) s.behind
    (λ painted. reset_clears look s.parameters (not-false (is_reset s.parameters) painted)) in
    record {
      last = behind.last;
      shown = fold-append step (at_rest look) (27 ∷ 91 ∷ s.parameters ++ codes "m") (map line_code s.behind ++ [])
          ∙ ap (λ terminal. fold step terminal (map line_code s.behind ++ [])) (kept_behind look s.parameters all is)
          ∙ behind.shown;
      plainly = behind.plainly;
    })
    (λ e. let behind = text_leaves look before s.behind rests in
    record { last = behind.last; shown = behind.shown; plainly = behind.plainly })

-- what stands behind an escape character does, where it begins with no sequence
beside_leaves : (look : List ℕ) (before : Bool) (part : List ℕ) (o : Option (List ℕ)) → (before ≡ false → look ≡ [])
    → LeavesAtRest look before (pieces_beside part o)
beside_leaves look before part None rests = text_leaves look before (27 ∷ part) rests
beside_leaves look before part (Some behind) rests =
    let text = text_leaves look before behind rests in
    record { last = text.last; shown = text.shown; plainly = text.plainly }

-- and where it begins with one
part_leaves_with : (colors : Bool) (look : List ℕ) (before : Bool) (part : List ℕ) (o : Option Sequence)
    → ((s : Sequence) → o ≡ Some s → IsFirst part s) → (before ≡ false → look ≡ [])
    → LeavesAtRest look before (pieces_with colors part o)
part_leaves_with colors look before part None first rests = beside_leaves look before part (behind_charset part) rests
part_leaves_with colors look before part (Some s) first rests =
    sequence_leaves colors look before s (first s refl).parameters rests

part_leaves : (colors : Bool) (look : List ℕ) (before : Bool) (part : List ℕ) → (before ≡ false → look ≡ [])
    → LeavesAtRest look before (pieces_behind colors part)
part_leaves colors look before part rests =
    part_leaves_with colors look before part (sequence_in part) (found_first part) rests

-- two lists, one behind the other
both_leave : (look : List ℕ) (before : Bool) (xs ys : List Piece) (first : LeavesAtRest look before xs)
    → LeavesAtRest first.last (is_painted_behind before xs) ys → LeavesAtRest look before (xs ++ ys)
both_leave look before xs ys first second = record {
  last = second.last;
  shown = ap (λ t. fold step (at_rest look) t) (flat_map-append shown_piece xs ys)
      ∙ fold-append step (at_rest look) (flat_map shown_piece xs) (flat_map shown_piece ys)
      ∙ ap (λ terminal. fold step terminal (flat_map shown_piece ys)) first.shown ∙ second.shown;
  plainly = λ painted. second.plainly (sym (painted_append before xs ys) ∙ painted);
}

-- all parts do
parts_leave : (colors : Bool) (look : List ℕ) (before : Bool) (parts : List (List ℕ)) → (before ≡ false → look ≡ [])
    → LeavesAtRest look before (flat_map (pieces_behind colors) parts)
parts_leave colors look before [] rests = record { last = look; shown = refl; plainly = rests }
parts_leave colors look before (part ∷ parts) rests =
    let first = part_leaves colors look before part rests in
    both_leave look before (pieces_behind colors part) (flat_map (pieces_behind colors) parts) first
    (parts_leave colors first.last (is_painted_behind before (pieces_behind colors part)) parts first.plainly)

line_leaves : (colors : Bool) (parts : List (List ℕ)) → LeavesAtRest [] false (pieces_of_parts colors parts)
unfolding text_leaves
line_leaves colors [] = record { last = []; shown = refl; plainly = λ e. refl }
line_leaves colors (front ∷ parts) =
    let first = text_leaves [] false front (λ e. refl) in
    both_leave [] false (text_piece front ∷ []) (flat_map (pieces_behind colors) parts) first
    (parts_leave colors [] false parts (λ e. refl))

-- and with the reset behind them it is plain
pub line_leaves_plain : (colors : Bool) (line : List ℕ) → fold step plain (passing_text colors line) ≡ plain
unfolding passing_text
line_leaves_plain colors line =
    let pieces = pieces_of colors line in
    let leaves = line_leaves colors (slice_split (λ c. eqb c 27) line) in
    let shown = flat_map shown_piece pieces in
    cond_both (is_painted_behind false pieces) (27 ∷ codes "[0m") [] (λ end. fold step plain (shown ++ end) ≡ plain)
    (λ e. fold-append step plain shown (27 ∷ codes "[0m")
    ∙ ap (λ terminal. fold step terminal (27 ∷ codes "[0m")) leaves.shown ∙ reset_behind_look leaves.last)
    (λ e. ap (λ t. fold step plain t) (append-nil shown) ∙ leaves.shown ∙ ap at_rest (leaves.plainly e))

-- ---- without colours

-- nothing is hidden in what is shown of a part, and it paints no letters
record IsBare (before : Bool) (pieces : List Piece) : Type 0 where
  clear : hides_nothing (flat_map shown_piece pieces) ≡ true
  painted : is_painted_behind before pieces ≡ before

bare_text : (before : Bool) (t : List ℕ) → IsBare before (text_piece t ∷ [])
bare_text before t = record {
  clear = ap hides_nothing (append-nil (map line_code t)) ∙ codes_clear t;
  painted = refl;
}

bare_beside : (before : Bool) (part : List ℕ) (o : Option (List ℕ)) → IsBare before (pieces_beside part o)
bare_beside before part None = bare_text before (27 ∷ part)
bare_beside before part (Some behind) =
    let text = bare_text before behind in record { clear = text.clear; painted = text.painted }

bare_with : (before : Bool) (part : List ℕ) (o : Option Sequence) → IsBare before (pieces_with false part o)
bare_with before part None = bare_beside before part (behind_charset part)
bare_with before part (Some s) =
    let behind = bare_text before s.behind in record { clear = behind.clear; painted = behind.painted }

bare_both : (before : Bool) (xs ys : List Piece) → IsBare before xs → IsBare before ys → IsBare before (xs ++ ys)
bare_both before xs ys first second = record {
  clear = ap hides_nothing (flat_map-append shown_piece xs ys)
      ∙ list_all-append is_clear (flat_map shown_piece xs) (flat_map shown_piece ys)
      ∙ and_from (hides_nothing (flat_map shown_piece xs)) (hides_nothing (flat_map shown_piece ys)) first.clear second.clear;
  painted = painted_append before xs ys ∙ ap (λ b. is_painted_behind b ys) first.painted ∙ second.painted;
}

bare_parts : (before : Bool) (parts : List (List ℕ)) → IsBare before (flat_map (pieces_behind false) parts)
bare_parts before [] = record { clear = refl; painted = refl }
bare_parts before (part ∷ parts) =
    bare_both before (pieces_behind false part) (flat_map (pieces_behind false) parts)
    (bare_with before part (sequence_in part)) (bare_parts before parts)

bare_line : (parts : List (List ℕ)) → IsBare false (pieces_of_parts false parts)
bare_line [] = record { clear = refl; painted = refl }
bare_line (front ∷ parts) =
    bare_both false (text_piece front ∷ []) (flat_map (pieces_behind false) parts) (bare_text false front) (bare_parts false parts)

pub bare_is_clear : (line : List ℕ) → hides_nothing (passing_text false line) ≡ true
unfolding passing_text
bare_is_clear line =
    let bare = bare_line (slice_split (λ c. eqb c 27) line) in
    let shown = flat_map shown_piece (pieces_of false line) in
    ap (λ b. hides_nothing (shown ++ cond b (27 ∷ codes "[0m") [])) bare.painted
    ∙ ap hides_nothing (append-nil shown) ∙ bare.clear

-- ---- the pieces are the line

-- a sequence and what stands behind it
sequence_whole : (colors : Bool) (part : List ℕ) (s : Sequence) → IsFirst part s
    → flat_map piece_text (sequence_piece colors s ∷ text_piece s.behind ∷ []) ≡ 27 ∷ part
sequence_whole colors part s first =
    let whole : (27 ∷ 91 ∷ (s.parameters ++ last_of s)) ++ (s.behind ++ []) ≡ 27 ∷ part =
    ap (λ t. 27 ∷ 91 ∷ ((s.parameters ++ last_of s) ++ t)) (append-nil s.behind) ∙ ap (λ t. 27 ∷ t) (sym first.whole) in
    cond_both (colors && is_kept s) (kept_piece s.parameters) (dropped_piece (27 ∷ 91 ∷ s.parameters ++ last_of s))
    (λ piece. piece_text piece ++ (s.behind ++ []) ≡ 27 ∷ part)
    (λ e.
    let paint = (and_parts s.is_paint (are_kept s.parameters) (and_parts colors (is_kept s) e).1).0 in
    ap (λ b. (27 ∷ 91 ∷ (s.parameters ++ cond b (codes "m") (codes "K"))) ++ (s.behind ++ [])) (sym paint) ∙ whole)
    (λ e. whole)

beside_whole : (part : List ℕ) (o : Option (List ℕ)) → ((behind : List ℕ) → o ≡ Some behind → part ≡ 40 ∷ 66 ∷ behind)
    → flat_map piece_text (pieces_beside part o) ≡ 27 ∷ part
beside_whole part None first = append-nil (27 ∷ part)
beside_whole part (Some behind) first =
    ap (λ t. 27 ∷ 40 ∷ 66 ∷ t) (append-nil behind) ∙ ap (λ t. 27 ∷ t) (sym (first behind refl))

part_whole_with : (colors : Bool) (part : List ℕ) (o : Option Sequence)
    → ((s : Sequence) → o ≡ Some s → IsFirst part s) → flat_map piece_text (pieces_with colors part o) ≡ 27 ∷ part
part_whole_with colors part None first = beside_whole part (behind_charset part) (charset_first part)
part_whole_with colors part (Some s) first = sequence_whole colors part s (first s refl)

-- each part, with its escape character
parts_whole : (colors : Bool) (parts : List (List ℕ))
    → flat_map piece_text (flat_map (pieces_behind colors) parts) ≡ flat_map (λ part. 27 ∷ part) parts
parts_whole colors [] = refl
parts_whole colors (part ∷ parts) =
    flat_map-append piece_text (pieces_behind colors part) (flat_map (pieces_behind colors) parts)
    ∙ ap (λ t. t ++ flat_map piece_text (flat_map (pieces_behind colors) parts))
    (part_whole_with colors part (sequence_in part) (found_first part))
    ∙ ap (λ t. (27 ∷ part) ++ t) (parts_whole colors parts)

-- parts that are joined by it
joined_parts : (front : List ℕ) (parts : List (List ℕ))
    → front ++ flat_map (λ part. 27 ∷ part) parts ≡ join_with_byte 27 (front ∷ parts)
joined_parts front [] = append-nil front
joined_parts front (part ∷ parts) = ap (λ t. front ++ (27 ∷ t)) (joined_parts part parts)

line_whole : (colors : Bool) (parts : List (List ℕ))
    → flat_map piece_text (pieces_of_parts colors parts) ≡ join_with_byte 27 parts
line_whole colors [] = refl
line_whole colors (front ∷ parts) = ap (λ t. front ++ t) (parts_whole colors parts) ∙ joined_parts front parts

pub pieces_are_line : (colors : Bool) (line : List ℕ) → flat_map piece_text (pieces_of colors line) ≡ line
pieces_are_line colors line =
    line_whole colors (slice_split (λ c. eqb c 27) line) ∙ join_with_byte-slice_split 27 line

-- ---- what hides nothing

-- it has no escape character
clear_whole : (line : List ℕ) → hides_nothing line ≡ true → slice_split (λ c. eqb c 27) line ≡ line ∷ []
clear_whole [] clear = refl
clear_whole (c ∷ line) clear =
    let both = and_parts (is_clear c) (hides_nothing line) clear in
    rw (no_escape c both.0, clear_whole line both.1) refl

pub clear_stays_whole : (colors : Bool) (line : List ℕ) → hides_nothing line ≡ true → passing_text colors line ≡ line
unfolding passing_text
clear_stays_whole colors line clear =
    rw (clear_whole line clear)
    (append-nil (map line_code line ++ []) ∙ append-nil (map line_code line) ∙ clear_text_stays line clear)
