-- What a word is that none of the options is.
use Rattle.std.proofs.Common.{◌≡◌, ◌≢◌, sym, refl, ◌∙◌}
use Rattle.std.specs.Prelude.{ℕ, Bool, true, false, List, ◌∷◌, codes, take, drop}
use Rattle.std.specs.Str.{bytes_eq}
use Rattle.std.specs.Cmp.Lexicographic.{bytes_decides}
use Rattle.std.proofs.lemmas.List.{take-append-drop}
use Rattle.ariadne_commands.specs.declared.words.Front.TheVariants.{Unknown, Message}
use Rattle.ariadne_commands.specs.Words.{front_of}

-- a test that is not passed fails
not_true : (b : Bool) → (b ≡ true → ⊥) → b ≡ false
not_true true none = absurd (none refl)
not_true false none = refl

-- texts that differ are not taken for the same
pub differ : (xs ys : List ℕ) → xs ≢ ys → bytes_eq xs ys ≡ false
differ xs ys ne = not_true (bytes_eq xs ys) (λ same. ne ((bytes_decides xs ys).0 same))

-- a word that begins with two dashes
begins : (word rest : List ℕ) → word ≡ 45 ∷ 45 ∷ rest → bytes_eq (take 2 word) (codes "--") ≡ true
begins word rest is = rw is refl

-- and one that doesn't
begins_not : (word : List ℕ) → ((rest : List ℕ) → word ≢ 45 ∷ 45 ∷ rest) → bytes_eq (take 2 word) (codes "--") ≡ false
begins_not word none =
    differ (take 2 word) (codes "--") (λ is. none (drop 2 word) (sym (take-append-drop 2 word) ∙ (rw is refl)))

module _ (word : List ℕ) (ascii : word ≢ codes "--ascii") (plain : word ≢ codes "--plain")
    (compact : word ≢ codes "--compact") (bytes : word ≢ codes "--bytes") (file : word ≢ codes "--file")
    (dashes : word ≢ codes "--") where
  -- any other word that begins with two dashes is no option
  pub front_unknown : (rest : List ℕ) → word ≡ 45 ∷ 45 ∷ rest → Unknown ≡ front_of word
  unfolding front_of
  front_unknown rest is =
      rw (differ _ _ ascii, differ _ _ plain, differ _ _ compact, differ _ _ bytes, differ _ _ file, differ _ _ dashes, begins word rest is) refl

  -- any other word is the message
  pub front_message : ((rest : List ℕ) → word ≢ 45 ∷ 45 ∷ rest) → Message ≡ front_of word
  unfolding front_of
  front_message none =
      rw (differ _ _ ascii, differ _ _ plain, differ _ _ compact, differ _ _ bytes, differ _ _ file, differ _ _ dashes, begins_not word none) refl
