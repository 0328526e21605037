-- What is said of spans, and what marks give them.
use Rattle.std.proofs.Common.{◌≡◌, ◌∙◌, ℕ, ◌<◌, arith, List, [], ◌∷◌, ◌++◌, length, get_or, set, ap, sym}
use Rattle.std.specs.Prelude.{Bool, true, false, cond, ◌==◌, map, slice_get, Option, Some, String, string_bytes, string_len}
use Rattle.std.specs.declared.alloc.Global.{Global}
use Rattle.std.proofs.lemmas.List.{map-set}
use Rattle.ariadne_snippets.specs.declared.taken.Mark.{Mark}
use Rattle.ariadne_snippets.specs.declared.taken.Point.{Point}
use Rattle.ariadne_parse.specs.Spans.{seen, Seen}
use Rattle.ariadne_parse.specs.declared.diagnostic.Span.{Span}
use Rattle.ariadne_blocks.specs.Files.{File}
use Rattle.ariadne_blocks.specs.MarkMeanings.{begun_if, begun_in, begun_span, beside, given_at, given_to, said_at, said_by, with_range}
use Rattle.ariadne_blocks.specs.Notes.{as_beside, note_spans}
use Rattle.ariadne_blocks.proofs.Lists.{get_mapped, pushed, same_read}

-- a text is empty where it has no bytes
pub text_empty : (text : String Global) (b : Bool) → (string_len text == 0) ≡ b → (length (string_bytes text) == 0) ≡ b
text_empty text b is = ap (λ n. n == 0) (sym text.bytes.ok.0) ∙ is

-- a span that is written
pub set_seen : (ps : List Span) (n : ℕ) (y : Span) (s : Seen) → seen y ≡ s
    → map seen (set ps n y) ≡ set (map seen ps) n s
set_seen ps n y s is = map-set seen ps n y ∙ ap (set (map seen ps) n) is

-- a text that is said of a span that is there
said_got : (text : List ℕ) (n : ℕ) (ss : List Seen) (s : Seen) → (length text == 0) ≡ false
    → slice_get ss n ≡ Some s
    → said_at text n ss ≡ cond (length s.text == 0) (set ss n (record s { text = text })) (ss ++ beside text s ∷ [])
said_got text n ss s some is =
    ap (λ b. cond b ss (said_by text n ss (slice_get ss n))) some ∙ ap (said_by text n ss) is

-- it is said of that, where nothing is yet
pub said_own : (text : List ℕ) (n : ℕ) (ps : List Span) (z x y : Span) → (length text == 0) ≡ false → n < length ps
    → z ≡ get_or ps n z → x ≡ get_or ps n x → (length (string_bytes z.text) == 0) ≡ true
    → seen y ≡ record (seen x) { text = text } → map seen (set ps n y) ≡ said_at text n (map seen ps)
said_own text n ps z x y some h was is empty wrote =
    let none : (length (string_bytes x.text) == 0) ≡ true =
    ap (λ (p : Span). length (string_bytes p.text) == 0) (same_read ps n x z h is was) ∙ empty in
    set_seen ps n y (record (seen x) { text = text }) wrote
    ∙ sym
    (said_got text n (map seen ps) (seen x) some (get_mapped seen ps n x h is)
    ∙ ap
    (λ b. cond b (set (map seen ps) n (record (seen x) { text = text })) (map seen ps ++ beside text (seen x) ∷ []))
    none)

-- and else of one beside
pub said_beside : (text : List ℕ) (n : ℕ) (ps all : List Span) (z x y : Span) → (length text == 0) ≡ false
    → n < length ps → z ≡ get_or ps n z → x ≡ get_or ps n x → (length (string_bytes z.text) == 0) ≡ false
    → seen y ≡ beside text (seen x) → all ≡ ps ++ y ∷ [] → map seen all ≡ said_at text n (map seen ps)
said_beside text n ps all z x y some h was is filled wrote push =
    let full : (length (string_bytes x.text) == 0) ≡ false =
    ap (λ (p : Span). length (string_bytes p.text) == 0) (same_read ps n x z h is was) ∙ filled in
    pushed seen ps all y push ∙ ap (λ s. map seen ps ++ s ∷ []) wrote
    ∙ sym
    (said_got text n (map seen ps) (seen x) some (get_mapped seen ps n x h is)
    ∙ ap
    (λ b. cond b (set (map seen ps) n (record (seen x) { text = text })) (map seen ps ++ beside text (seen x) ∷ []))
    full)

-- a span that is given a range
pub given_own : (file : Option File) (mark : Mark) (n : ℕ) (ps : List Span) (x y : Span) → n < length ps
    → x ≡ get_or ps n x → seen y ≡ with_range file mark (seen x)
    → map seen (set ps n y) ≡ given_at file mark n (map seen ps)
given_own file mark n ps x y h is wrote =
    set_seen ps n y (with_range file mark (seen x)) wrote
    ∙ ap (given_to file mark n (map seen ps)) (sym (get_mapped seen ps n x h is))

-- a span whose range begins further in front
pub begun_own : (is_own : Bool) (start : Point) (n : ℕ) (ps : List Span) (x y : Span) → n < length ps
    → x ≡ get_or ps n x → seen y ≡ begun_span is_own start (seen x)
    → map seen (set ps n y) ≡ begun_in is_own start n (map seen ps)
begun_own is_own start n ps x y h is wrote =
    set_seen ps n y (begun_span is_own start (seen x)) wrote
    ∙ ap (begun_if is_own start n (map seen ps)) (sym (get_mapped seen ps n x h is))

-- ---- the spans of a note

-- the first says what the note says
pub first_says : (message : List ℕ) (olds : List Seen) (ps : List Span) (x y : Span)
    → map seen ps ≡ map as_beside olds → 0 < length ps → x ≡ get_or ps 0 x
    → seen y ≡ record (seen x) { text = message } → map seen (set ps 0 y) ≡ note_spans message olds
first_says message olds [] x y same h is wrote = absurd (omega arith)
first_says message [] (p ∷ ps) x y same h is wrote = absurd (cc same)
first_says message (o ∷ olds) (p ∷ ps) x y same h is wrote =
    let first : seen p ≡ as_beside o = cc same in
    let others : map seen ps ≡ map as_beside olds = cc same in
    ap (λ s. s ∷ map seen ps)
    (wrote ∙ ap (λ (q : Span). record (seen q) { text = message }) is ∙ ap (λ (s : Seen). record s { text = message }) first)
    ∙ ap (λ l. record o { text = message; is_primary = false } ∷ l) others

-- or there is none
pub none_says : (message : List ℕ) (olds : List Seen) (ps : List Span) → map seen ps ≡ map as_beside olds
    → length ps ≡ 0 → map seen ps ≡ note_spans message olds
none_says message [] ps same h = same
none_says message (o ∷ olds) [] same h = absurd (cc same)
none_says message (o ∷ olds) (p ∷ ps) same h = absurd (omega arith)
