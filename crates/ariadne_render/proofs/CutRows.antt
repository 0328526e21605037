-- The text of a source row whose line is cut: places of which nothing is seen add nothing, and of printable ASCII the places are the bytes.
use Rattle.std.proofs.Common.{◌≡◌, ℕ, zero, suc, ◌+◌, ◌-◌, ◌<◌, ◌≤◌, List, [], ◌∷◌, ◌++◌, encode_utf8_all, slice_index}
use Rattle.std.proofs.Common.{refl, sym, ap, subst, ◌∙◌, arith, add-zero}
use Rattle.std.specs.List.{AllByRecursion}
use Rattle.std.specs.Str.{chars, IsUtf8}
use Rattle.std.proofs.lemmas.List.{append-nil}
use Rattle.std.proofs.lemmas.Str.{encode_ascii, encodes-chars}
use Rattle.ariadne_base.specs.Locations.{upto}
use Rattle.ariadne_picture.specs.declared.cell.Paint.{Paint}
use Rattle.ariadne_picture.specs.declared.sight.Sight.TheVariants.{Unseen}
use Rattle.ariadne_picture.specs.declared.switches.Switches.{Switches}
use Rattle.ariadne_picture.specs.Columns.{Layout, shown, sight_of}
use Rattle.ariadne_picture.specs.Lists.{joined}
use Rattle.ariadne_picture.proofs.Lists.Joined.{joined-upto_more}
use Rattle.ariadne_render.specs.Pages.{Draws, PenFields}
use Rattle.ariadne_render.specs.ShownTexts.{place_in}
use Rattle.ariadne_render.proofs.ShownRows.{unseen_place}

-- ---- places of which nothing is seen

-- such a place has no pieces
place_unseen : (s : Switches) (y : Layout) (q : ℕ → Paint) (k : ℕ) → sight_of y k ≡ Unseen → place_in s y q k ≡ []
unfolding place_in
place_unseen s y q k e = sym (unseen_place s (q k) y k (slice_index (shown y) k) e)

-- so those below the last of them have the pieces of those below the first
joined_unseen : (s : Switches) (y : Layout) (q : ℕ → Paint) (n d : ℕ) → ((k : ℕ) → n ≤ k → k < n + d → sight_of y k ≡ Unseen)
    → joined (place_in s y q) (upto (n + d)) ≡ joined (place_in s y q) (upto n)
joined_unseen s y q n zero unseen = ap (λ m. joined (place_in s y q) (upto m)) (add-zero n)
joined_unseen s y q n (suc d) unseen =
    let f = place_in s y q in
    let e : n + suc d ≡ (n + d) + 1 = omega arith in
    ap (λ m. joined f (upto m)) e ∙ joined-upto_more f (n + d)
    ∙ ap (λ t. joined f (upto (n + d)) ++ t) (place_unseen s y q (n + d) (unseen (n + d) (omega arith) (omega arith)))
    ∙ append-nil (joined f (upto (n + d)))
    ∙ joined_unseen s y q n d (λ k h l. unseen k h (omega (arith, l)))

-- and where those below the first are written, those below the last are
pub draws_unseen : (a b : PenFields) (y : Layout) (q : ℕ → Paint) (n m : ℕ) → n ≤ m → ((k : ℕ) → n ≤ k → k < m → sight_of y k ≡ Unseen)
    → Draws a b (joined (place_in a.page.switches y q) (upto n)) → Draws a b (joined (place_in a.page.switches y q) (upto m))
draws_unseen a b y q n m up unseen h =
    let f = place_in a.page.switches y q in
    let e : n + (m - n) ≡ m = omega (arith, up) in
    subst (Draws a b)
    (sym (joined_unseen a.page.switches y q n (m - n) (λ k from below. unseen k from (omega (arith, below, e))))
    ∙ ap (λ j. joined f (upto j)) e) h

-- ---- printable ASCII

-- it is written by its codes
printable_codes : (cs : List ℕ) → AllByRecursion (λ c. (32 ≤ c) × (c ≤ 126)) cs → encode_utf8_all cs ≡ cs
printable_codes [] all = refl
printable_codes (c ∷ cs) all =
    ap (λ t. t ++ encode_utf8_all cs) (encode_ascii c (let h = all.0 in omega (arith, h))) ∙ ap (λ t. c ∷ t) (printable_codes cs all.1)

-- so its bytes are its characters
pub printable_bytes : (text cs : List ℕ) → IsUtf8 text → chars text ≡ cs → AllByRecursion (λ c. (32 ≤ c) × (c ≤ 126)) cs → text ≡ cs
printable_bytes text cs u e all = sym (encodes-chars text u) ∙ ap encode_utf8_all e ∙ printable_codes cs all
