-- What is shown of a text as it is: plain bytes, characters without a sign, and runs of both.
use Rattle.std.proofs.Common.{◌≡◌, ◌≢◌, ℕ, suc, ◌+◌, ◌<◌, Bool, true, false, not, ◌&&◌, ◌||◌, ◌==◌, List, [], ◌∷◌, ◌++◌, length, get_or, take, drop}
use Rattle.std.proofs.Common.{refl, sym, ap, ap₂, subst, ◌∙◌, inl, inr, arith, append_assoc, zero-add}
use Rattle.std.specs.Prelude.{encode_utf8}
use Rattle.std.specs.List.{list_all}
use Rattle.std.specs.Char.{len_utf8}
use Rattle.std.specs.Str.{chars, is_utf8, IsUtf8, IsAscii, IsCharBoundary}
use Rattle.std.proofs.Math.Seq.{take-add}
use Rattle.std.proofs.lemmas.Bool.{agree_below_at, and_from, and_parts, cases_lt, cond-true, eq-eqb, false_from_ne_true, ne_eqb}
use Rattle.std.proofs.lemmas.List.{append_cancel_left, append_cancel_right, drop-drop, get_or-take, take-append-drop, length-drop, length-take-le, nil_from_length}
use Rattle.std.proofs.lemmas.List.Elements.{All-from_get_or}
use Rattle.std.proofs.lemmas.Str.Ascii.{IsAscii-from_all}
use Rattle.std.proofs.lemmas.Str.{chars-append, chars-IsAscii, chars-nil, is_utf8-from_IsUtf8, IsUtf8-from_ascii, IsUtf8-take, IsUtf8-drop, IsCharBoundary-from_take, IsCharBoundary-start, IsCharBoundary-from_rest}
use Rattle.std.proofs.lemmas.Str.{chars_past_char, IsCharBoundary-past_char, drop_past_char, encodes-chars, encodes-append}
use Rattle.ariadne_base.specs.Lines.{begins_with_line_feed}
use Rattle.ariadne_safe.specs.declared.text.TextKind.{TextKind}
use Rattle.ariadne_safe.specs.declared.text.TextKind.TheVariants.{OneRow, Aside, Lines, CompilerLines}
use Rattle.ariadne_safe.specs.Visible.{is_hidden, stays, stays_anywhere, shown_code, symbol_of, visible_text, is_seen_in, is_shown}
use Rattle.ariadne_safe.specs.Kept.{is_plain, first_kept, last_kept, IsKept, IsPlainRun}
use Rattle.ariadne_safe.proofs.Signs.{or_weaker, signs_are_seen, IsSigned}
use Rattle.ariadne_safe.proofs.VisibleLaws.{stays_before, seen_stays}

-- ---- plain bytes

-- a plain byte is ASCII
plain_is_ascii : (kind : TextKind) (b : ℕ) → is_plain (first_kept kind) (last_kept kind) b ≡ true → b < 128
unfolding is_plain
plain_is_ascii OneRow b h = grind arith
plain_is_ascii Aside b h = grind arith
plain_is_ascii Lines b h = grind arith
plain_is_ascii CompilerLines b h = grind arith

-- and a character that stays
plain_stays : (kind : TextKind) (b : ℕ) → is_plain (first_kept kind) (last_kept kind) b ≡ true → stays_anywhere kind b ≡ true
unfolding is_plain is_hidden
plain_stays OneRow b h =
    (and_parts (is_plain 32 32 b) (stays_anywhere OneRow b)
    (agree_below_at (λ x. is_plain 32 32 x && stays_anywhere OneRow x) (is_plain 32 32) 128 b refl (plain_is_ascii OneRow b h) ∙ h)).1
plain_stays Aside b h =
    (and_parts (is_plain 10 10 b) (stays_anywhere Aside b)
    (agree_below_at (λ x. is_plain 10 10 x && stays_anywhere Aside x) (is_plain 10 10) 128 b refl (plain_is_ascii Aside b h) ∙ h)).1
plain_stays Lines b h =
    (and_parts (is_plain 9 13 b) (stays_anywhere Lines b)
    (agree_below_at (λ x. is_plain 9 13 x && stays_anywhere Lines x) (is_plain 9 13) 128 b refl (plain_is_ascii Lines b h) ∙ h)).1
plain_stays CompilerLines b h =
    (and_parts (is_plain 9 10 b) (stays_anywhere CompilerLines b)
    (agree_below_at (λ x. is_plain 9 10 x && stays_anywhere CompilerLines x) (is_plain 9 10) 128 b refl (plain_is_ascii CompilerLines b h) ∙ h)).1

-- so it is its own sign
own_sign : (kind : TextKind) (c : ℕ) (b : Bool) → stays_anywhere kind c ≡ true → shown_code kind c b ≡ c
own_sign kind c b h =
    cond-true (not (is_hidden c) || stays kind c b) c (symbol_of c)
    (or_weaker (not (is_hidden c)) (stays kind c false) (stays kind c b) (stays_before kind c b) h)

-- characters that stay in front of others are their own signs
stays_in_front : (kind : TextKind) (front t : List ℕ) → ((k : ℕ) → k < length front → stays_anywhere kind (get_or front k 0) ≡ true)
    → visible_text kind (front ++ t) ≡ front ++ visible_text kind t
unfolding visible_text
stays_in_front kind [] t h = refl
stays_in_front kind (c ∷ front) t h =
    let b = begins_with_line_feed (front ++ t) in
    ap₂ (λ d u. d ∷ u) (own_sign kind c b (h 0 (omega arith))) (stays_in_front kind front t (λ k l. h (suc k) (omega (arith, l))))

-- ---- runs

-- a text before and behind a place
pub cut_chars : (text : List ℕ) (n : ℕ) → IsUtf8 text → IsCharBoundary text n → chars text ≡ chars (take n text) ++ chars (drop n text)
cut_chars text n u cut =
    ap chars (sym (take-append-drop n text)) ∙ chars-append (take n text) (drop n text) (IsUtf8-take text n u cut)

pub kept_none : (kind : TextKind) (text : List ℕ) → IsUtf8 text → IsKept kind text 0
kept_none kind text u = record { cut = IsCharBoundary-start text u; shown = ap (λ cs. cs ++ visible_text kind (chars text)) (sym chars-nil) }

-- plain bytes
pub kept_plain : (kind : TextKind) (text : List ℕ) (n : ℕ) → IsUtf8 text → IsPlainRun (first_kept kind) (last_kept kind) text n → IsKept kind text n
kept_plain kind text n u run =
    let long : length (take n text) ≡ n = length-take-le n text run.fits in
    let byte : (k : ℕ) → k < n → is_plain (first_kept kind) (last_kept kind) (get_or (take n text) k 0) ≡ true =
    λ k l. ap (is_plain (first_kept kind) (last_kept kind)) (get_or-take n text k 0 l) ∙ run.plain k l in
    let ascii : IsAscii (take n text) = IsAscii-from_all (take n text) (All-from_get_or (λ b. b < 128) (take n text) 0
    (λ k l. plain_is_ascii kind (get_or (take n text) k 0) (byte k (omega (arith, l, long))))) in
    let own = chars-IsAscii (take n text) ascii in
    let cut = IsCharBoundary-from_take text n u run.fits (IsUtf8-from_ascii (take n text) ascii) in
    record {
      cut = cut;
      shown = ap (visible_text kind) (cut_chars text n u cut ∙ ap (λ cs. cs ++ chars (drop n text)) own)
          ∙ stays_in_front kind (take n text) (chars (drop n text)) (λ k l. plain_stays kind (get_or (take n text) k 0) (byte k (omega (arith, l, long))))
          ∙ ap (λ cs. cs ++ visible_text kind (chars (drop n text))) (sym own);
    }

-- a character that is its own sign
pub kept_char : (kind : TextKind) (text rest : List ℕ) (c : ℕ) → IsUtf8 text → text ≡ encode_utf8 c ++ rest
    → shown_code kind c (begins_with_line_feed (chars rest)) ≡ c → IsKept kind text (len_utf8 c)
unfolding visible_text
kept_char kind text rest c u is own =
    let cut = subst (IsCharBoundary text) (zero-add (len_utf8 c)) (IsCharBoundary-past_char text rest 0 c (omega arith) u is) in
    let behind : drop (len_utf8 c) text ≡ rest = ap (λ n. drop n text) (sym (zero-add (len_utf8 c))) ∙ drop_past_char text rest 0 c is in
    let whole = chars_past_char text rest c u is in
    let front : chars (take (len_utf8 c) text) ≡ c ∷ [] =
    append_cancel_right (chars (take (len_utf8 c) text)) (c ∷ []) (chars rest)
    (ap (λ bs. chars (take (len_utf8 c) text) ++ chars bs) (sym behind) ∙ sym (cut_chars text (len_utf8 c) u cut) ∙ whole) in
    record {
      cut = cut;
      shown = ap (visible_text kind) whole ∙ ap (λ d. d ∷ visible_text kind (chars rest)) own
          ∙ ap₂ (λ cs bs. cs ++ visible_text kind (chars bs)) (sym front) (sym behind);
    }

-- one run behind another
pub kept_more : (kind : TextKind) (text : List ℕ) (n m : ℕ) → IsUtf8 text → IsKept kind text n → IsKept kind (drop n text) m
    → IsKept kind text (n + m)
kept_more kind text n m u first second =
    let rest = drop n text in
    let front : chars (take (n + m) text) ≡ chars (take n text) ++ chars (take m rest) =
    ap chars (take-add n m text) ∙ chars-append (take n text) (take m rest) (IsUtf8-take text n u first.cut) in
    let tail = visible_text kind (chars (drop m rest)) in
    record {
      cut = IsCharBoundary-from_rest text n m first.cut.0 second.cut;
      shown = first.shown ∙ ap (λ t. chars (take n text) ++ t) second.shown
          ∙ sym (append_assoc (chars (take n text)) (chars (take m rest)) tail)
          ∙ ap₂ (λ cs bs. cs ++ visible_text kind (chars bs)) (sym front) (drop-drop m n text);
    }

-- a text is other than its signs where what follows such a run is
pub other_behind : (kind : TextKind) (text : List ℕ) (n : ℕ) → IsUtf8 text → IsKept kind text n
    → visible_text kind (chars (drop n text)) ≢ chars (drop n text) → visible_text kind (chars text) ≢ chars text
other_behind kind text n u kept other e =
    other (append_cancel_left (chars (take n text)) (visible_text kind (chars (drop n text))) (chars (drop n text))
    (sym kept.shown ∙ e ∙ cut_chars text n u kept.cut))

-- and where its first character is
pub other_char : (kind : TextKind) (text rest : List ℕ) (c : ℕ) → IsUtf8 text → text ≡ encode_utf8 c ++ rest
    → shown_code kind c (begins_with_line_feed (chars rest)) ≢ c → visible_text kind (chars text) ≢ chars text
unfolding visible_text
other_char kind text rest c u is other e =
    let whole = chars_past_char text rest c u is in
    other (ap (λ cs. get_or cs 0 0) (sym (ap (visible_text kind) whole) ∙ e ∙ whole))

-- ---- signs behind a run

-- the signs of a run are its own characters
pub signed_kept : (kind : TextKind) (text rest shown : List ℕ) (n : ℕ) → IsSigned kind text rest shown → IsKept kind rest n
    → IsSigned kind text (drop n rest) (shown ++ take n rest)
signed_kept kind text rest shown n s kept =
    let front = chars (take n rest) in
    let more = visible_text kind (chars (drop n rest)) in
    record {
      done = s.done ++ front;
      signs = s.signs ∙ ap (λ t. s.done ++ t) kept.shown ∙ sym (append_assoc s.done front more);
      bytes = ap₂ (λ a b. a ++ b) s.bytes (sym (encodes-chars (take n rest) (IsUtf8-take rest n s.utf8 kept.cut))) ∙ sym (encodes-append s.done front);
      utf8 = IsUtf8-drop rest n s.utf8 kept.cut;
    }

-- ---- whole texts

-- what is kept to its end is its own signs
whole_own : (text : List ℕ) (n : ℕ) → IsUtf8 text → IsKept OneRow text n → drop n text ≡ [] → visible_text OneRow (chars text) ≡ chars text
unfolding visible_text
whole_own text n u kept none =
    kept.shown ∙ ap (λ cs. chars (take n text) ++ visible_text OneRow cs) (ap chars none ∙ chars-nil)
    ∙ sym (cut_chars text n u kept.cut ∙ ap (λ cs. chars (take n text) ++ cs) (ap chars none ∙ chars-nil))

-- what may be shown of one row stays
row_stays : (cs : List ℕ) → list_all (is_seen_in OneRow) cs ≡ true → list_all (stays_anywhere OneRow) cs ≡ true
row_stays cs h = h

-- a text of one row is kept whole where nothing of it is hidden, and else not
pub kept_decides : (text : List ℕ) (n : ℕ) → IsUtf8 text → IsKept OneRow text n
    → (n < length text → visible_text OneRow (chars text) ≢ chars text) → (n == length text) ≡ is_shown OneRow text
kept_decides text n u kept end =
    elim (cases_lt n (length text)) [
      | inl less ↦
          ne_eqb n (length text) (λ e. omega (arith, e, less))
          ∙ sym (false_from_ne_true (is_shown OneRow text) (λ shown. end less (seen_stays OneRow (chars text)
          (row_stays (chars text) ((and_parts (is_utf8 text) (list_all (is_seen_in OneRow) (chars text)) shown).1)))))
      | inr past ↦
          let whole : n ≡ length text = omega (arith, past, kept.cut.0) in
          let none : drop n text ≡ [] = nil_from_length (drop n text) (omega (arith, length-drop n text, whole)) in
          let own : visible_text OneRow (chars text) ≡ chars text = whole_own text n u kept none in
          eq-eqb n (length text) whole
          ∙ sym (and_from (is_utf8 text) (list_all (is_seen_in OneRow) (chars text)) (is_utf8-from_IsUtf8 text u)
          (subst (λ cs. list_all (is_seen_in OneRow) cs ≡ true) own (signs_are_seen OneRow (chars text))))
    ]
