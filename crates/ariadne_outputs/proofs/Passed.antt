-- What was added for the parts of a line.
use Rattle.std.proofs.Common.{◌≡◌, ◌∙◌, ℕ, Bool, true, false, not, ◌&&◌, cond, List, [], ◌∷◌, ◌++◌, map, refl, ap, sym, subst, lit<, append_assoc, append-nil, codes, Option, Some, None, option_map, Result, Ok, Err, IfOk, OnOk}
use Rattle.std.specs.Prelude.{chars, encode_utf8, encode_utf8_all}
use Rattle.std.specs.List.{flat_map, list_all}
use Rattle.std.specs.Str.{IsUtf8}
use Rattle.std.proofs.lemmas.Bool.{and_parts, cond-false, cond-true}
use Rattle.std.proofs.lemmas.List.Concat.{flat_map-append}
use Rattle.std.proofs.lemmas.Str.{encode_ascii, encodes-append}
use Rattle.ariadne_outputs.specs.Passing.{HasPassed, HavePassed, Piece, text_piece, kept_piece, dropped_piece, is_painted_behind, line_code, passing_text, pieces_behind, pieces_behind_all, pieces_beside, pieces_with, shown_piece}
use Rattle.ariadne_outputs.specs.Sequences.{Sequence, behind_charset, is_kept, is_of_parameters, is_reset, sequence_in}
use Rattle.ariadne_outputs.proofs.CharLemmas.{HasNoEscapeByte, cut_chars, cut_texts, more_parts, no_escape_chars, one_part}
use Rattle.ariadne_outputs.proofs.CharSequences.{charset_chars, of_parameters_low, sequence_chars, with_chars}
use Rattle.ariadne_outputs.proofs.PieceLemmas.{painted_append}
use Rattle.ariadne_outputs.proofs.Pushed.{shown_bytes}
use Rattle.ariadne_outputs.proofs.SequenceLemmas.{found_first, last_of}

-- the bytes of what is shown of pieces
abbrev pub pieces_bytes : List Piece → List ℕ
pieces_bytes pieces = encode_utf8_all (flat_map shown_piece pieces)

-- those of two lists are those of both
bytes_append : (xs ys : List Piece) → pieces_bytes (xs ++ ys) ≡ pieces_bytes xs ++ pieces_bytes ys
bytes_append xs ys =
    ap encode_utf8_all (flat_map-append shown_piece xs ys) ∙ encodes-append (flat_map shown_piece xs) (flat_map shown_piece ys)

-- those of text
text_bytes : (t : List ℕ) → pieces_bytes (text_piece (chars t) ∷ []) ≡ shown_bytes t
text_bytes t = ap encode_utf8_all (append-nil (map line_code (chars t)))

-- ---- one part

-- letters are painted behind it as before
beside_painted : (before : Bool) (part : List ℕ) (o : Option (List ℕ)) → before ≡ is_painted_behind before (pieces_beside part o)
beside_painted before part None = refl
beside_painted before part (Some behind) = refl

-- one that begins with no sequence
pub none_passed : (colors : Bool) (part : List ℕ) (before : Bool) (old new : List ℕ) → IsUtf8 part → sequence_in part ≡ None
    → new ≡ old ++ pieces_bytes (pieces_beside (chars part) (behind_charset (chars part)))
    → HasPassed colors (chars part) before old new before
none_passed colors part before old new u none added =
    let found : sequence_in (chars part) ≡ None = sequence_chars part u ∙ ap (option_map with_chars) none in
    let pieces : pieces_behind colors (chars part) ≡ pieces_beside (chars part) (behind_charset (chars part)) =
    ap (pieces_with colors (chars part)) found in
    record {
      bytes = added ∙ ap (λ ps. old ++ pieces_bytes ps) (sym pieces);
      painted = beside_painted before (chars part) (behind_charset (chars part)) ∙ ap (is_painted_behind before) (sym pieces);
    }

-- text behind `(B`
pub charset_added_if : {T E : Type 0} (r : Result T E) (part behind old new : List ℕ) → IsUtf8 part → behind_charset part ≡ Some behind
    → OnOk r (new ≡ old ++ shown_bytes behind)
    → OnOk r (new ≡ old ++ pieces_bytes (pieces_beside (chars part) (behind_charset (chars part))))
charset_added_if (Ok x) part behind old new u is added =
    let found : behind_charset (chars part) ≡ Some (chars behind) = charset_chars part u ∙ ap (option_map chars) is in
    added ∙ ap (λ t. old ++ t) (sym (text_bytes behind))
    ∙ ap (λ o. old ++ pieces_bytes (pieces_beside (chars part) o)) (sym found)
charset_added_if (Err e) part behind old new u is added = tt

-- text alone
pub text_added_if : {T E : Type 0} (r : Result T E) (part old mid new : List ℕ) → IsUtf8 part → behind_charset part ≡ None
    → mid ≡ old ++ encode_utf8 (line_code 27) → OnOk r (new ≡ mid ++ shown_bytes part)
    → OnOk r (new ≡ old ++ pieces_bytes (pieces_beside (chars part) (behind_charset (chars part))))
text_added_if (Ok x) part old mid new u none first rest =
    let found : behind_charset (chars part) ≡ None = charset_chars part u ∙ ap (option_map chars) none in
    rest ∙ ap (λ t. t ++ shown_bytes part) first ∙ append_assoc old (encode_utf8 (line_code 27)) (shown_bytes part)
    ∙ ap (λ t. old ++ t) (sym (ap encode_utf8_all (append-nil (map line_code (27 ∷ chars part)))))
    ∙ ap (λ o. old ++ pieces_bytes (pieces_beside (chars part) o)) (sym found)
text_added_if (Err e) part old mid new u none first rest = tt

-- the pieces of a part that begins with a sequence
module _ (colors : Bool) (part : List ℕ) (s : Sequence) (u : IsUtf8 part) (is : sequence_in part ≡ Some s) where
  found_chars : sequence_in (chars part) ≡ Some (with_chars s)
  found_chars = sequence_chars part u ∙ ap (option_map with_chars) is

  kept_pieces : (colors && is_kept s) ≡ true
      → pieces_behind colors (chars part) ≡ kept_piece s.parameters ∷ text_piece (chars s.behind) ∷ []
  kept_pieces kept =
      ap (pieces_with colors (chars part)) found_chars
      ∙ ap (λ piece. piece ∷ text_piece (chars s.behind) ∷ []) (cond-true (colors && is_kept s) _ _ kept)

  dropped_pieces : (colors && is_kept s) ≡ false
      → pieces_behind colors (chars part)
      ≡ dropped_piece (27 ∷ 91 ∷ s.parameters ++ last_of s) ∷ text_piece (chars s.behind) ∷ []
  dropped_pieces kept =
      ap (pieces_with colors (chars part)) found_chars
      ∙ ap (λ piece. piece ∷ text_piece (chars s.behind) ∷ []) (cond-false (colors && is_kept s) _ _ kept)

  -- a sequence that is dropped, and text
  pub dropped_passed : (before : Bool) (old new : List ℕ) → (colors && is_kept s) ≡ false → new ≡ old ++ shown_bytes s.behind
      → HasPassed colors (chars part) before old new before
  dropped_passed before old new kept added =
      let pieces = dropped_pieces kept in
      record {
        bytes = added ∙ ap (λ t. old ++ t) (sym (text_bytes s.behind)) ∙ ap (λ ps. old ++ pieces_bytes ps) (sym pieces);
        painted = ap (is_painted_behind before) (sym pieces);
      }

-- parameters are ASCII
low_bytes : (ps : List ℕ) → list_all is_of_parameters ps ≡ true → encode_utf8_all ps ≡ ps
low_bytes [] all = refl
low_bytes (c ∷ ps) all =
    let both = and_parts (is_of_parameters c) (list_all is_of_parameters ps) all in
    ap (λ t. t ++ encode_utf8_all ps) (encode_ascii c (of_parameters_low c both.0)) ∙ ap (λ t. c ∷ t) (low_bytes ps both.1)

kept_bytes : (ps : List ℕ) → list_all is_of_parameters ps ≡ true
    → encode_utf8_all (27 ∷ 91 ∷ ps ++ codes "m") ≡ 27 ∷ 91 ∷ ps ++ codes "m"
kept_bytes ps all =
    let end : encode_utf8_all (codes "m") ≡ codes "m" =
    ap (λ t. t ++ []) (encode_ascii 109 (lit< tt)) in
    let inner : encode_utf8_all (ps ++ codes "m") ≡ ps ++ codes "m" =
    encodes-append ps (codes "m") ∙ ap (λ t. t ++ encode_utf8_all (codes "m")) (low_bytes ps all) ∙ ap (λ t. ps ++ t) end in
    ap (λ t. t ++ (encode_utf8 91 ++ encode_utf8_all (ps ++ codes "m"))) (encode_ascii 27 (lit< tt))
    ∙ ap (λ t. 27 ∷ (t ++ encode_utf8_all (ps ++ codes "m"))) (encode_ascii 91 (lit< tt))
    ∙ ap (λ t. 27 ∷ 91 ∷ t) inner

-- a sequence that is kept, and text
pub kept_passed : (colors : Bool) (part : List ℕ) (s : Sequence) (before : Bool) (old new : List ℕ) → IsUtf8 part
    → sequence_in part ≡ Some s → (colors && is_kept s) ≡ true
    → new ≡ old ++ (27 ∷ 91 ∷ s.parameters ++ codes "m") ++ shown_bytes s.behind
    → HasPassed colors (chars part) before old new (not (is_reset s.parameters))
kept_passed colors part s before old new u is kept added =
    let pieces = kept_pieces colors part s u is kept in
    let sequence = 27 ∷ 91 ∷ s.parameters ++ codes "m" in
    let whole : pieces_bytes (kept_piece s.parameters ∷ text_piece (chars s.behind) ∷ []) ≡ sequence ++ shown_bytes s.behind =
    encodes-append sequence (map line_code (chars s.behind) ++ [])
    ∙ ap (λ t. t ++ encode_utf8_all (map line_code (chars s.behind) ++ [])) (kept_bytes s.parameters (found_first part s is).parameters)
    ∙ ap (λ t. sequence ++ t) (text_bytes s.behind) in
    record {
      bytes = added ∙ append_assoc old sequence (shown_bytes s.behind) ∙ ap (λ t. old ++ t) (sym whole)
          ∙ ap (λ ps. old ++ pieces_bytes ps) (sym pieces);
      painted = ap (is_painted_behind before) (sym pieces);
    }

-- so where this was added
pub kept_result : {E : Type 0} (colors : Bool) (part : List ℕ) (s : Sequence) (before : Bool) (old new : List ℕ)
    (r : Result Bool E) → IsUtf8 part → sequence_in part ≡ Some s → (colors && is_kept s) ≡ true
    → OnOk r (new ≡ old ++ (27 ∷ 91 ∷ s.parameters ++ codes "m") ++ shown_bytes s.behind)
    → IfOk r (λ painted. painted ≡ not (is_reset s.parameters))
    → IfOk r (λ painted. HasPassed colors (chars part) before old new painted)
kept_result colors part s before old new (Ok painted) u is kept added reset =
    subst (λ b. HasPassed colors (chars part) before old new b) (sym reset) (kept_passed colors part s before old new u is kept added)
kept_result colors part s before old new (Err e) u is kept added reset = tt

-- ---- all parts

-- the parts so far were added, and the others stand in the rest
pub record ArePassed (colors : Bool) (text rest old shown : List ℕ) (painted : Bool) : Type 0 where
  pub done : List Piece
  pub pieces : pieces_behind_all colors (chars text) ≡ done ++ pieces_behind_all colors (chars rest)
  pub bytes : shown ≡ old ++ pieces_bytes done
  pub is_painted : painted ≡ is_painted_behind false done
  pub utf8 : IsUtf8 rest

-- at first none was
pub passed_start : (colors : Bool) (text old : List ℕ) → IsUtf8 text → ArePassed colors text text old old false
passed_start colors text old u =
    record { done = []; pieces = refl; bytes = sym (append-nil old); is_painted = refl; utf8 = u }

-- a part more
with_part : (colors : Bool) (done : List Piece) (part old shown new : List ℕ) (painted behind : Bool)
    → shown ≡ old ++ pieces_bytes done → painted ≡ is_painted_behind false done
    → HasPassed colors (chars part) painted shown new behind
    → (new ≡ old ++ pieces_bytes (done ++ pieces_behind colors (chars part)))
    × (behind ≡ is_painted_behind false (done ++ pieces_behind colors (chars part)))
with_part colors done part old shown new painted behind so_far is added =
    let pieces = pieces_behind colors (chars part) in (
      added.bytes ∙ ap (λ t. t ++ pieces_bytes pieces) so_far ∙ append_assoc old (pieces_bytes done) (pieces_bytes pieces)
          ∙ ap (λ t. old ++ t) (sym (bytes_append done pieces)),
      added.painted ∙ ap (λ b. is_painted_behind b pieces) is ∙ sym (painted_append false done pieces),
    )

pub passed_next : (colors : Bool) (text rest part behind old shown new : List ℕ) (painted after : Bool)
    → ArePassed colors text rest old shown painted → IsUtf8 part → IsUtf8 behind → rest ≡ part ++ 27 ∷ behind
    → HasNoEscapeByte part → HasPassed colors (chars part) painted shown new after
    → ArePassed colors text behind old new after
passed_next colors text rest part behind old shown new painted after so_far u v cut none added =
    let both = with_part colors so_far.done part old shown new painted after so_far.bytes so_far.is_painted added in
    let split : pieces_behind_all colors (chars rest)
    ≡ pieces_behind colors (chars part) ++ pieces_behind_all colors (chars behind) =
    ap (λ t. pieces_behind_all colors t) (cut_chars rest part behind u v cut)
    ∙ ap (flat_map (pieces_behind colors)) (more_parts (chars part) (chars behind) (no_escape_chars part u none)) in
    record {
      done = so_far.done ++ pieces_behind colors (chars part);
      pieces = so_far.pieces ∙ ap (λ ps. so_far.done ++ ps) split
          ∙ sym (append_assoc so_far.done (pieces_behind colors (chars part)) (pieces_behind_all colors (chars behind)));
      bytes = both.0;
      is_painted = both.1;
      utf8 = v;
    }

-- the last one
pub passed_end : (colors : Bool) (text rest old shown new : List ℕ) (painted after : Bool)
    → ArePassed colors text rest old shown painted → HasNoEscapeByte rest
    → HasPassed colors (chars rest) painted shown new after
    → HavePassed colors (chars text) old new after
passed_end colors text rest old shown new painted after so_far none added =
    let both = with_part colors so_far.done rest old shown new painted after so_far.bytes so_far.is_painted added in
    let last : pieces_behind_all colors (chars rest) ≡ pieces_behind colors (chars rest) =
    ap (flat_map (pieces_behind colors)) (one_part (chars rest) (no_escape_chars rest so_far.utf8 none))
    ∙ append-nil (pieces_behind colors (chars rest)) in
    let whole : pieces_behind_all colors (chars text) ≡ so_far.done ++ pieces_behind colors (chars rest) =
    so_far.pieces ∙ ap (λ ps. so_far.done ++ ps) last in
    record {
      bytes = both.0 ∙ ap (λ ps. old ++ pieces_bytes ps) (sym whole);
      painted = both.1 ∙ ap (is_painted_behind false) (sym whole);
    }

-- ---- a line

-- the reset is ASCII
reset_bytes : (painted : Bool)
    → encode_utf8_all (cond painted (27 ∷ codes "[0m") []) ≡ cond painted (27 ∷ codes "[0m") []
unfolding lib.Utf8.encode
reset_bytes true = refl
reset_bytes false = refl

-- one without escape characters
pub line_of_text : (colors : Bool) (line : List ℕ) → IsUtf8 line → HasNoEscapeByte line
    → encode_utf8_all (passing_text colors (chars line)) ≡ shown_bytes line
unfolding passing_text
line_of_text colors line u none =
    rw (one_part (chars line) (no_escape_chars line u none))
    (ap encode_utf8_all (append-nil (map line_code (chars line) ++ []) ∙ append-nil (map line_code (chars line))))

-- one that is cut: its parts, and the reset
pub line_of_parts : (colors : Bool) (line front behind : List ℕ) → IsUtf8 front → IsUtf8 behind → line ≡ front ++ 27 ∷ behind
    → HasNoEscapeByte front
    → encode_utf8_all (passing_text colors (chars line))
    ≡ shown_bytes front ++ pieces_bytes (pieces_behind_all colors (chars behind))
    ++ cond (is_painted_behind false (pieces_behind_all colors (chars behind))) (27 ∷ codes "[0m") []
unfolding passing_text
line_of_parts colors line front behind u v cut none =
    let pieces = pieces_behind_all colors (chars behind) in
    let painted = is_painted_behind false pieces in
    let reset = cond painted (27 ∷ codes "[0m") [] in
    rw (cut_chars line front behind u v cut, more_parts (chars front) (chars behind) (no_escape_chars front u none))
    (encodes-append (map line_code (chars front) ++ flat_map shown_piece pieces) reset
    ∙ ap (λ t. t ++ encode_utf8_all reset) (encodes-append (map line_code (chars front)) (flat_map shown_piece pieces))
    ∙ ap (λ t. shown_bytes front ++ pieces_bytes pieces ++ t) (reset_bytes painted))

-- what is added of it, one after the other
pub line_added : (colors : Bool) (line front behind old mid last new : List ℕ) (painted : Bool) → IsUtf8 line
    → line ≡ front ++ 27 ∷ behind → HasNoEscapeByte front → mid ≡ old ++ shown_bytes front
    → HavePassed colors (chars behind) mid last painted → new ≡ last ++ cond painted (27 ∷ codes "[0m") []
    → new ≡ old ++ encode_utf8_all (passing_text colors (chars line))
line_added colors line front behind old mid last new painted u cut none first parts end =
    let texts = cut_texts line front behind u cut in
    let pieces = pieces_behind_all colors (chars behind) in
    let reset = cond (is_painted_behind false pieces) (27 ∷ codes "[0m") [] in
    end ∙ ap (λ b. last ++ cond b (27 ∷ codes "[0m") []) parts.painted
    ∙ ap (λ t. t ++ reset) (parts.bytes ∙ ap (λ t. t ++ pieces_bytes pieces) first)
    ∙ ap (λ t. t ++ reset) (append_assoc old (shown_bytes front) (pieces_bytes pieces))
    ∙ append_assoc old (shown_bytes front ++ pieces_bytes pieces) reset
    ∙ ap (λ t. old ++ t) (sym (line_of_parts colors line front behind texts.front_text texts.behind_text cut none))
