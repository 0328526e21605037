-- The files that were checked so far, and one more.
use Rattle.std.proofs.Common.{◌≡◌, refl, sym, ap, ◌∙◌, append_assoc, add-one, get_or}
use Rattle.std.specs.Prelude.{ℕ, suc, ◌+◌, ◌<◌, ◌||◌, Bool, true, false, cond, not, List, [], ◌∷◌, ◌++◌, length, drop, map}
use Rattle.std.specs.Borrow.{Bor}
use Rattle.std.specs.List.{list_any}
use Rattle.std.specs.Str.{bytes_eq}
use Rattle.std.proofs.Math.Seq.{drop-cons}
use Rattle.std.proofs.lemmas.Cmp.{nat_list_eq_equiv}
use Rattle.std.proofs.lemmas.List.{map-append}
use Rattle.std.proofs.lemmas.List.Folds.{list_any-append}
use Rattle.ariadne.specs.Cache.{held, KeepsOtherIds}
use Rattle.ariadne.specs.Listing.{Listing}
use Rattle.ariadne_commands.specs.Linted.{named_after, same_path}
use Rattle.ariadne_commands.specs.Linting.{AreOutcomes}
use Rattle.ariadne_commands.specs.Outcomes.{IsOutcome}
use Rattle.ariadne_commands.specs.declared.checked.Checked.{Checked}

-- ---- words

-- the texts of words from one on
pub words_from : {W : Type 0} (text : W → List ℕ) (words : List W) (i : ℕ) (word : W) → i < length words → word ≡ get_or words i word
    → map text (drop i words) ≡ text word ∷ map text (drop (i + 1) words)
words_from text words i word inside is =
    rw add-one (ap (map text) (drop-cons words i word inside ∙ ap (λ w. w ∷ drop (suc i) words) (sym is)))

-- a path is among those of the files where a file has it
among : (path : Bor (List ℕ)) (checked : List Checked)
    → list_any (bytes_eq path.now) (map (λ c. c.path.now) checked) ≡ list_any (λ c. same_path path c.path) checked
among path [] = refl
among path (c ∷ checked) = ap (λ b. same_path path c.path || b) (among path checked)

-- a word that was seen is passed over
pub named_again : (seen words : List (List ℕ)) (word : List ℕ) → list_any (bytes_eq word) seen ≡ true → named_after seen (word ∷ words) ≡ named_after seen words
named_again seen words word is = rw is refl

-- any other is the next
named_next : (seen words : List (List ℕ)) (word : List ℕ) → list_any (bytes_eq word) seen ≡ false
    → seen ++ named_after seen (word ∷ words) ≡ (seen ++ word ∷ []) ++ named_after (seen ++ word ∷ []) words
named_next seen words word is = rw (is, append_assoc) refl

-- the paths of files
abbrev pub paths : List Checked → List (List ℕ)
paths files = map (λ c. c.path.now) files

module _ (checked : List Checked) (path : Bor (List ℕ)) (words all : List (List ℕ)) where
  -- the path of a file that was checked
  pub paths_again : list_any (λ c. same_path path c.path) checked ≡ true → paths checked ++ named_after (paths checked) (path.now ∷ words) ≡ all
      → paths checked ++ named_after (paths checked) words ≡ all
  paths_again seen is = ap (λ rest. paths checked ++ rest) (sym (named_again (paths checked) words path.now (among path checked ∙ seen))) ∙ is

  -- the path of one more
  pub paths_next : (c : Checked) → c.path ≡ path → list_any (λ d. same_path path d.path) checked ≡ false
      → paths checked ++ named_after (paths checked) (path.now ∷ words) ≡ all
      → paths (checked ++ c ∷ []) ++ named_after (paths (checked ++ c ∷ [])) words ≡ all
  paths_next c same unseen is =
      let last : paths (c ∷ []) ≡ path.now ∷ [] = rw same refl in
      let more : paths (checked ++ c ∷ []) ≡ paths checked ++ path.now ∷ [] = map-append (λ d. d.path.now) checked (c ∷ []) ∙ ap (λ p. paths checked ++ p) last in
      rw more (sym (named_next (paths checked) words path.now (among path checked ∙ unseen)) ∙ is)

-- ---- paths that were seen

-- what is added was absent, and what is not was there
pub was_absent : (had added : Bool) → added ≡ not had → added ≡ true → had ≡ false
was_absent false added is so = refl
was_absent true added is so = cc

pub was_present : (had added : Bool) → added ≡ not had → added ≡ false → had ≡ true
was_present true added is so = refl
was_present false added is so = cc

-- where the first is not, the second decides
cond_or : (b had : Bool) → cond b true had ≡ (had || (b || false))
cond_or true true = refl
cond_or true false = refl
cond_or false true = refl
cond_or false false = refl

-- a path is among those of one file more where it is that file's, or was among them
pub seen_next : (path : Bor (List ℕ)) (checked : List Checked) (c : Checked) → c.path ≡ path
    → (q : Bor (List ℕ)) (had : Bool) → had ≡ list_any (λ d. same_path q d.path) checked
    → cond (same_path path q) true had ≡ list_any (λ d. same_path q d.path) (checked ++ c ∷ [])
seen_next path checked c same q had is =
    let turned : same_path path q ≡ same_path q c.path = nat_list_eq_equiv.symm path.now q.now ∙ ap (same_path q) (sym same) in
    cond_or (same_path path q) had
    ∙ ap (λ b. had || (b || false)) turned
    ∙ ap (λ b. b || (same_path q c.path || false)) is
    ∙ sym (list_any-append (λ d. same_path q d.path) checked (c ∷ []))

-- ---- outcomes

-- neither test is passed
neither : (a b : Bool) → (a || b) ≡ false → (a ≡ false) × (b ≡ false)
neither false false is = (refl, refl)
neither false true is = absurd cc
neither true b is = absurd cc

-- what is held of other files stays, so that their outcomes are still so, and that of one more is
pub outcomes_next : (old new : List (Bor (List ℕ) × Listing)) (path : Bor (List ℕ)) → KeepsOtherIds same_path path old new
    → (checked : List Checked) (c : Checked) → list_any (λ d. same_path path d.path) checked ≡ false → AreOutcomes old checked
    → IsOutcome (held same_path new c.path) c.outcome → AreOutcomes new (checked ++ c ∷ [])
outcomes_next old new path keeps [] c unseen are is = (is, tt)
outcomes_next old new path keeps (d ∷ checked) c unseen are is =
    let parts = neither (same_path path d.path) (list_any (λ e. same_path path e.path) checked) unseen in
    (rw (keeps d.path parts.0) are.0, outcomes_next old new path keeps checked c parts.1 are.1 is)
