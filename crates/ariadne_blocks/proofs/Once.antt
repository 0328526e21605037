-- Spans that repeat others.
use Rattle.std.proofs.Common.{◌≡◌, ◌∙◌, ◌-◌, ◌++◌, ◌∷◌, [], List, ap, length, map, sym, drop}
use Rattle.std.specs.Prelude.{Bool, true, false, cond}
use Rattle.std.specs.List.{list_any}
use Rattle.std.proofs.lemmas.List.{drop-map, length-map, map-append}
use Rattle.ariadne_parse.specs.Spans.{seen}
use Rattle.ariadne_parse.specs.declared.diagnostic.Span.{Span}
use Rattle.ariadne_blocks.specs.Repeats.{is_repeat, last_of, once, says_same, with_span}
use Rattle.ariadne_blocks.proofs.Lists.{any_mapped, fold_more, pushed}

-- the last of spans, as they are read
pub last_seen : (spans : List Span) → map seen (drop (length spans - 256) spans) ≡ last_of (map seen spans)
last_seen spans =
    sym (drop-map seen (length spans - 256) spans)
    ∙ ap (λ n. drop (n - 256) (map seen spans)) (sym (length-map spans seen))

-- what is said at one of spans
pub said_in : (front : List Span) (span : Span)
    → list_any (λ other. says_same (seen other) (seen span)) front
    ≡ list_any (λ other. says_same other (seen span)) (map seen front)
said_in front span = any_mapped seen (λ other. says_same other (seen span)) front

-- a span repeats one of the last
pub repeats_last : (all given last : List Span) (span : Span) (is : Bool) → given ≡ all
    → last ≡ drop (length given - 256) given → is ≡ is_repeat (map seen last) (seen span)
    → is ≡ is_repeat (last_of (map seen all)) (seen span)
repeats_last all given last span is same cut found =
    found
    ∙ ap (λ l. is_repeat (map seen l) (seen span)) (cut ∙ ap (λ g. drop (length g - 256) g) same)
    ∙ ap (λ front. is_repeat front (seen span)) (last_seen all)

-- one that does is left out
pub left_out : (spans : List Span) (span : Span) (is : Bool)
    → is ≡ is_repeat (last_of (map seen spans)) (seen span) → is ≡ true
    → map seen spans ≡ with_span (map seen spans) (seen span)
left_out spans span is found so =
    sym (ap (λ b. cond b (map seen spans) (map seen spans ++ seen span ∷ [])) (sym found ∙ so))

-- any other stands behind them
pub put_behind : (spans more : List Span) (span : Span) (is : Bool)
    → is ≡ is_repeat (last_of (map seen spans)) (seen span) → is ≡ false → more ≡ spans ++ span ∷ []
    → map seen more ≡ with_span (map seen spans) (seen span)
put_behind spans more span is found not_so push =
    pushed seen spans more span push
    ∙ sym (ap (λ b. cond b (map seen spans) (map seen spans ++ seen span ∷ [])) (sym found ∙ not_so))

-- one more of them
pub once_more : (yielded : List Span) (span : Span) (spans more : List Span)
    → map seen spans ≡ once (map seen yielded) → map seen more ≡ with_span (map seen spans) (seen span)
    → map seen more ≡ once (map seen (yielded ++ span ∷ []))
once_more yielded span spans more so_far step =
    step ∙ ap (λ front. with_span front (seen span)) so_far
    ∙ sym
    (ap once (map-append seen yielded (span ∷ []))
    ∙ fold_more with_span [] (map seen yielded) (seen span))
