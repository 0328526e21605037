-- The places of a cut line of which anything is seen, by the parts that are shown of it.
use Rattle.std.proofs.Common.{◌≡◌, ◌≢◌, ◌∙◌, ℕ, ◌+◌, ◌-◌, ◌<◌, ◌≤◌, List, [], ◌∷◌, None, Some, get_or, length, slice_get, take, sym, ap, refl, arith}
use Rattle.std.specs.Prelude.{unwrap_or}
use Rattle.std.proofs.lemmas.List.{take_all}
use Rattle.std.proofs.lemmas.List.FromFn.{get_or-map-range_with_len}
use Rattle.std.proofs.lemmas.Option.{get_or_from_slice_get, none-some, slice_get-get_or, slice_get_within, unwrap_or-slice_get}
use Rattle.ariadne_picture.specs.declared.sight.Part.{Part}
use Rattle.ariadne_picture.specs.declared.sight.Sight.{Sight}
use Rattle.ariadne_picture.specs.declared.sight.Sight.TheVariants.{Seen, Marked, Unseen}
use Rattle.ariadne_picture.specs.Columns.{Layout, sight_in, sight_of}
use Rattle.ariadne_layout.specs.Cuts.{AreApart, end_of, sights_in}
use Rattle.ariadne_layout.proofs.PartSights.{end-more, marked-before, marked-behind, seen-within, unseen-before, unseen-behind, unseen-none}
use Rattle.ariadne_render.specs.Seen.{IsSeenNext}

-- ---- what is seen of a line

-- of a cut line its parts tell what is seen of each place
pub sight-in : (y : Layout) (parts : List Part) (n k : ℕ) → y.sights ≡ sights_in parts n → y.sights ≢ [] → k < n → sight_of y k ≡ sight_in parts k
unfolding sight_of sights_in
sight-in y [] n k e cut below = absurd (cut e)
sight-in y (p ∷ parts) n k e cut below =
    let z : 0 + k ≡ k = omega arith in
    ap (λ (sights : List Sight). unwrap_or (slice_get sights k) Seen) e ∙ unwrap_or-slice_get (sights_in (p ∷ parts) n) k Seen
    ∙ get_or-map-range_with_len (sight_in (p ∷ parts)) 0 n k k Seen below z

-- ---- part by part

-- the parts that are passed end by a place, so those with one more do where that ends by it
pub passed-more : (parts : List Part) (i place : ℕ) (d : Part) → i < length parts → (get_or parts i d).to ≤ place → end_of 0 (take (i + 1) parts) ≤ place
passed-more parts i place d below ends = let e = end-more 0 parts i d below in omega (arith, e, ends)

-- a part reaches behind a place, as its number does
pub part-reaches : (parts : List Part) (i place : ℕ) (p d : Part) → slice_get parts i ≡ Some p → place < (get_or parts i d).to → place < p.to
part-reaches parts i place p d there h = let e = ap (λ (q : Part). q.to) (get_or_from_slice_get parts i p d there) in omega (arith, e, h)

-- a mark is something that is seen, and so is a character
no-mark : Marked ≡ Unseen → ⊥
no-mark h = cc

no-char : Seen ≡ Unseen → ⊥
no-char h = cc

-- before a part stands a mark
pub next-mark : (parts : List Part) (i place : ℕ) (p : Part) → AreApart parts → slice_get parts i ≡ Some p → end_of 0 (take i parts) ≤ place → place < p.from
    → IsSeenNext parts place (record { place = p.from - 1; sight = Marked; part = i })
next-mark parts i place p apart there low before =
    let below = slice_get_within parts i p there in
    let begin : (get_or parts i p).from ≡ p.from = ap (λ (q : Part). q.from) (get_or_from_slice_get parts i p p there) in
    record {
      onward = omega (arith, before);
      sight = marked-before parts i p (p.from - 1) apart below (omega (arith, low, before)) (omega (arith, before, begin));
      shows = no-mark;
      unseen = λ k h l. unseen-before parts i p k apart below (omega (arith, low, h)) (omega (arith, l, begin));
      passed = omega (arith, low, before);
    }

-- a place of a part is seen
pub next-char : (parts : List Part) (i place : ℕ) (p : Part) → slice_get parts i ≡ Some p → end_of 0 (take i parts) ≤ place → p.from ≤ place
    → place < p.to → IsSeenNext parts place (record { place = place; sight = Seen; part = i })
next-char parts i place p there low from to =
    let below = slice_get_within parts i p there in
    let begin : (get_or parts i p).from ≡ p.from = ap (λ (q : Part). q.from) (get_or_from_slice_get parts i p p there) in
    let end : (get_or parts i p).to ≡ p.to = ap (λ (q : Part). q.to) (get_or_from_slice_get parts i p p there) in
    record {
      onward = omega arith;
      sight = seen-within parts i p place below (omega (arith, from, begin)) (omega (arith, to, end));
      shows = no-char;
      unseen = λ k h l. absurd (omega (arith, h, l));
      passed = low;
    }

-- ---- behind all parts

-- the parts all end where the last does
pub end-last : (parts : List Part) (d : Part) → 0 < length parts → end_of 0 parts ≡ (get_or parts (length parts - 1) d).to
end-last parts d some =
    let n : (length parts - 1) + 1 ≡ length parts = omega (arith, some) in
    ap (end_of 0) (sym (ap (λ m. take m parts) n ∙ take_all (length parts) parts (omega arith)))
    ∙ end-more 0 parts (length parts - 1) d (omega (arith, some))

-- where there is no last there is none
pub none-last : (parts : List Part) → slice_get parts (length parts - 1) ≡ None → length parts ≡ 0
none-last [] none = refl
none-last (p ∷ parts) none =
    absurd (none-some _ (sym none ∙ slice_get-get_or (p ∷ parts) (length (p ∷ parts) - 1) p (omega arith)))

-- right behind them stands a mark
pub next-end : (parts : List Part) (place : ℕ) → AreApart parts → 0 < length parts → place ≡ end_of 0 parts
    → IsSeenNext parts place (record { place = place; sight = Marked; part = length parts })
next-end parts place apart some is =
    let all = ap (end_of 0) (take_all (length parts) parts (omega arith)) in
    record {
      onward = omega arith;
      sight = marked-behind parts place apart some is;
      shows = no-mark;
      unseen = λ k h l. absurd (omega (arith, h, l));
      passed = omega (arith, all, is);
    }

-- later nothing is seen
pub none-later : (parts : List Part) (place : ℕ) → AreApart parts → end_of 0 parts < place → (k : ℕ) → place ≤ k → sight_in parts k ≡ Unseen
none-later parts place apart later k h = unseen-behind parts k apart (omega (arith, later, h))

-- nor is anything where no parts are shown
pub none-shown : (parts : List Part) → length parts ≡ 0 → (k : ℕ) → sight_in parts k ≡ Unseen
none-shown [] none k = unseen-none k
none-shown (p ∷ parts) none k = absurd (omega (arith, none))
