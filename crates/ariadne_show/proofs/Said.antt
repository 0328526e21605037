-- What is said in lines, one after the other.
use Rattle.std.proofs.Common.{◌≡◌, ◌∙◌, ℕ, ap, subst, sym, append_assoc, []}
use Rattle.std.proofs.lemmas.List.{map-append}
use Rattle.std.proofs.lemmas.List.Elements.{filter-append}
use Rattle.std.specs.Prelude.{Bool, true, false, not, cond, ◌==◌, List, ◌∷◌, ◌++◌, Option, filter, length, map, take, String, string_bytes}
use Rattle.std.specs.declared.alloc.Global.{Global}
use Rattle.ariadne_parse.specs.declared.diagnostic.Span.{Span}
use Rattle.ariadne_show.specs.declared.options.Style.{Style}
use Rattle.ariadne_show.specs.Asides.{location_text}
use Rattle.ariadne_show.specs.Drawn.{AreSaid, IsSaid, one_said_more}
use Rattle.ariadne_show.specs.TextDiagnostics.{said_spans, said_texts, says_something}

-- one text more
pub texts_more : (xs all : List (String Global)) (x : String Global) (text : List ℕ) → all ≡ xs ++ x ∷ []
    → text ≡ string_bytes x → said_texts all ≡ said_texts xs ++ text ∷ []
texts_more xs all x text more same =
    ap said_texts more ∙ map-append (λ (t : String Global). string_bytes t) xs (x ∷ [])
    ∙ ap (λ t. said_texts xs ++ t ∷ []) (sym same)

pub said_more : (style : Style) (xs all : List (String Global)) (x : String Global) (text : List ℕ) (o p q : Option (List ℕ)) → all ≡ xs ++ x ∷ []
    → text ≡ string_bytes x → AreSaid style (said_texts xs) o p → IsSaid style text p q → AreSaid style (said_texts all) o q
said_more style xs all x text o p q more same before now =
    subst (λ (texts : List (List ℕ)). AreSaid style texts o q) (sym (texts_more xs all x text more same)) (one_said_more before text now)

-- some, and some more
pub and_more : (r0 r s xs ys zs : List (List ℕ)) → r ≡ r0 ++ xs → s ≡ r ++ ys → xs ++ ys ≡ zs → s ≡ r0 ++ zs
and_more r0 r s xs ys zs is more all = more ∙ ap (λ l. l ++ ys) is ∙ append_assoc r0 xs ys ∙ ap (λ l. r0 ++ l) all

-- ---- spans

said_of : Span → List ℕ
said_of span = location_text span (string_bytes span.text)

pub spans_more : (xs all : List Span) (x : Span) → all ≡ xs ++ x ∷ []
    → said_spans xs ++ said_spans (x ∷ []) ≡ said_spans all
unfolding said_of
spans_more xs all x more =
    sym (map-append said_of (filter says_something xs) (filter says_something (x ∷ [])))
    ∙ ap (map said_of) (sym (filter-append says_something xs (x ∷ [])))
    ∙ ap said_spans (sym more)

pub no_span : (x : Span) → (length (string_bytes x.text) == 0) ≡ true → said_spans (x ∷ []) ≡ []
unfolding said_of
no_span x empty = ap (λ (b : Bool). map said_of (cond (not b) (x ∷ []) [])) empty

pub one_span : (x : Span) → (length (string_bytes x.text) == 0) ≡ false
    → said_spans (x ∷ []) ≡ location_text x (string_bytes x.text) ∷ []
unfolding said_of
one_span x filled = ap (λ (b : Bool). map said_of (cond (not b) (x ∷ []) [])) filled

-- ---- all of them

pub all_lines : (a b c d e spans notes helps why : List (List ℕ)) → a ≡ [] → b ≡ a ++ spans → c ≡ b ++ notes → d ≡ c ++ helps
    → e ≡ d ++ why → e ≡ spans ++ notes ++ helps ++ why
all_lines a b c d e spans notes helps why none one two three four =
    four ∙ ap (λ l. l ++ why) (three ∙ ap (λ l. l ++ helps) (two ∙ ap (λ l. l ++ notes) (one ∙ ap (λ l. l ++ spans) none)))

pub all_said : (style : Style) (xs : List (String Global)) (i : ℕ) (lines : List (List ℕ)) (o q : Option (List ℕ)) → take i xs ≡ xs
    → said_texts xs ≡ lines → AreSaid style (said_texts (take i xs)) o q → AreSaid style lines o q
all_said style xs i lines o q whole is before =
    subst (λ (texts : List (List ℕ)). AreSaid style texts o q) (ap said_texts whole ∙ is) before
