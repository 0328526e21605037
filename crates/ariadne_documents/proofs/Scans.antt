-- The states behind parts of a text of JSON: that behind two parts is that of both.
use Rattle.std.proofs.Common.{◌≡◌, ◌∙◌, ap, sym, refl, ℕ, ◌+◌, ◌≤◌, cond, List, [], ◌∷◌, ◌++◌, length, arith}
use Rattle.std.proofs.lemmas.List.Folds.{list_all-append}
use Rattle.std.proofs.lemmas.List.Sums.{count_by-le-length, sum_by-append}
use Rattle.std.specs.Prelude.{Bool, true, false, ◌&&◌}
use Rattle.std.specs.List.{count_by, list_all}
use Rattle.ariadne_json.specs.Mended.{closes, opens}
use Rattle.ariadne_documents.specs.Brackets.{is_outside, may_stand, outside, scanned, within_all, within_behind}
use Rattle.ariadne_documents.specs.declared.scan.Scan.{Scan}
use Rattle.ariadne_documents.specs.declared.scan.Within.{Within}

pub within_append : (at : Within) (a b : List ℕ) → within_all at (a ++ b) ≡ within_all (within_all at a) b
within_append at [] b = refl
within_append at (x ∷ a) b = within_append (within_behind at x) a b

-- the bytes outside of texts are those of the parts
one_outside : (is : Bool) (x : ℕ) (a b : List ℕ) → cond is (x ∷ (a ++ b)) (a ++ b) ≡ cond is (x ∷ a) a ++ b
one_outside true x a b = refl
one_outside false x a b = refl

pub outside_append : (at : Within) (a b : List ℕ) → outside at (a ++ b) ≡ outside at a ++ outside (within_all at a) b
outside_append at [] b = refl
outside_append at (x ∷ a) b =
    ap (λ t. cond (is_outside at x) (x ∷ t) t) (outside_append (within_behind at x) a b)
    ∙ one_outside (is_outside at x) x (outside (within_behind at x) a) (outside (within_all (within_behind at x) a) b)

-- they are no more than all
one_more : (is : Bool) (x : ℕ) (t : List ℕ) (n : ℕ) → length t ≤ n → length (cond is (x ∷ t) t) ≤ n + 1
one_more true x t n le = omega arith
one_more false x t n le = omega arith

pub outside_bound : (at : Within) (t : List ℕ) → length (outside at t) ≤ length t
outside_bound at [] = omega arith
outside_bound at (x ∷ t) =
    let le = one_more (is_outside at x) x (outside (within_behind at x) t) (length t) (outside_bound (within_behind at x) t) in
    omega (arith, le)

-- brackets of both parts
pub count_append : (p : ℕ → Bool) (a b : List ℕ) → count_by p (a ++ b) ≡ count_by p a + count_by p b
count_append p a b = sum_by-append (λ x. cond (p x) 1 0) a b

pub counted : (p : ℕ → Bool) (at : Within) (a b : List ℕ)
    → count_by p (outside at a) + count_by p (outside (within_all at a) b) ≡ count_by p (outside at (a ++ b))
counted p at a b =
    sym (count_append p (outside at a) (outside (within_all at a) b)) ∙ ap (count_by p) (sym (outside_append at a b))

pub count_bound : (p : ℕ → Bool) (at : Within) (t : List ℕ) → count_by p (outside at t) ≤ length t
count_bound p at t = omega (arith, count_by-le-length p (outside at t), outside_bound at t)

-- and no other bytes in both
pub passed : (p : ℕ → Bool) (at : Within) (a b : List ℕ)
    → (list_all p (outside at a) && list_all p (outside (within_all at a) b)) ≡ list_all p (outside at (a ++ b))
passed p at a b =
    sym (list_all-append p (outside at a) (outside (within_all at a) b)) ∙ ap (list_all p) (sym (outside_append at a b))

and_assoc : (a b c : Bool) → ((a && b) && c) ≡ (a && (b && c))
and_assoc true b c = refl
and_assoc false b c = refl

-- two states are the same where their parts are
abbrev state : Within → ℕ → ℕ → Bool → Scan
state w o c j = record { within = w; opened = o; closed = c; is_json = j }

same_scan : (w v : Within) (o p c d : ℕ) (j k : Bool) → w ≡ v → o ≡ p → c ≡ d → j ≡ k → state w o c j ≡ state v p d k
same_scan w v o p c d j k a e f g = ap (λ w. state w o c j) a ∙ ap (λ o. state v o c j) e ∙ ap (λ c. state v p c j) f ∙ ap (state v p d) g

pub scanned_append : (scan : Scan) (a b : List ℕ) → scanned (scanned scan a) b ≡ scanned scan (a ++ b)
scanned_append scan a b =
    same_scan _ _ _ _ _ _ _ _ (sym (within_append scan.within a b))
    (let e = counted opens scan.within a b in omega (arith, e))
    (let e = counted closes scan.within a b in omega (arith, e))
    (and_assoc scan.is_json _ _ ∙ ap (λ p. scan.is_json && p) (passed may_stand scan.within a b))

-- a byte more is one bracket at most
pub next_opened : (scan next : Scan) (b : ℕ) → next ≡ scanned scan (b ∷ []) → next.opened ≤ scan.opened + 1
next_opened scan next b is =
    let le = count_bound opens scan.within (b ∷ []) in
    let e : next.opened ≡ (scanned scan (b ∷ [])).opened = ap (λ (s : Scan). s.opened) is in omega (arith, le, e)

pub next_closed : (scan next : Scan) (b : ℕ) → next ≡ scanned scan (b ∷ []) → next.closed ≤ scan.closed + 1
next_closed scan next b is =
    let le = count_bound closes scan.within (b ∷ []) in
    let e : next.closed ≡ (scanned scan (b ∷ [])).closed = ap (λ (s : Scan). s.closed) is in omega (arith, le, e)
