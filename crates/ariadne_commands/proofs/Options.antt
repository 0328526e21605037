-- What is asked for behind an option.
use Rattle.std.proofs.Common.{◌≡◌, refl}
use Rattle.std.specs.Prelude.{ℕ, Bool, true, false, List, [], ◌∷◌, Some, None}
use Rattle.ariadne_commands.specs.declared.words.Front.TheVariants.{Ascii, Plain, Compact, Bytes, File}
use Rattle.ariadne_commands.specs.declared.words.Front.TheVariants.{Dashes, Unknown, Message}
use Rattle.ariadne_commands.specs.Words.{AskingOptions, asking_after, asking_behind, front_of}

-- behind no word nothing is asked for
pub after_none : (is_path : Bool) (o : AskingOptions) → asking_after is_path o [] ≡ None
unfolding asking_after
after_none is_path o = refl

module _ (o : AskingOptions) (word : List ℕ) (words : List (List ℕ)) where
  -- each word, by what it is
  pub after_ascii : front_of word ≡ Ascii → asking_after false o (word ∷ words) ≡ asking_after false (record o { ascii = true }) words
  unfolding asking_after
  after_ascii is = rw (is, asking_after) refl

  pub after_plain : front_of word ≡ Plain → asking_after false o (word ∷ words) ≡ asking_after false (record o { plain = true }) words
  unfolding asking_after
  after_plain is = rw (is, asking_after) refl

  pub after_compact : front_of word ≡ Compact → asking_after false o (word ∷ words) ≡ asking_after false (record o { compact = true }) words
  unfolding asking_after
  after_compact is = rw (is, asking_after) refl

  pub after_bytes : front_of word ≡ Bytes → asking_after false o (word ∷ words) ≡ asking_after false (record o { bytes = true }) words
  unfolding asking_after
  after_bytes is = rw (is, asking_after) refl

  pub after_file : (path : List ℕ) → front_of word ≡ File
      → asking_after false o (word ∷ path ∷ words) ≡ asking_after false (record o { path = Some path }) words
  unfolding asking_after
  after_file path is = rw (is, asking_after) refl

  pub after_dashes : front_of word ≡ Dashes → asking_after false o (word ∷ words) ≡ asking_behind o words
  unfolding asking_after
  after_dashes is = rw (is, asking_after) refl

  pub after_unknown : front_of word ≡ Unknown → asking_after false o (word ∷ words) ≡ None
  unfolding asking_after
  after_unknown is = rw (is, asking_after) refl

  pub after_message : front_of word ≡ Message → asking_after false o (word ∷ words) ≡ asking_behind o (word ∷ words)
  unfolding asking_after
  after_message is = rw (is, asking_after) refl

-- `--file` without a path
pub after_file_alone : (o : AskingOptions) (word : List ℕ) → front_of word ≡ File → asking_after false o (word ∷ []) ≡ None
unfolding asking_after
after_file_alone o word is = rw (is, asking_after) refl
