-- What `--plain` before words changes of what they ask for.
use Rattle.std.proofs.Common.{◌≡◌, String, Global, refl, sym, ap, ◌∙◌}
use Rattle.std.specs.Prelude.{ℕ, Bool, true, false, List, [], ◌∷◌, insert, map, codes, string_bytes}
use Rattle.std.specs.Prelude.{Option, Some, None, option_map}
use Rattle.ariadne_commands.specs.declared.words.Front.{Front}
use Rattle.ariadne_commands.specs.declared.words.Front.TheVariants.{Ascii, Plain, Compact, Bytes, File}
use Rattle.ariadne_commands.specs.declared.words.Front.TheVariants.{Dashes, Unknown, Message}
use Rattle.ariadne_commands.specs.Words.{Asking, AskingLabel, AskingOptions, asking_after, asking_behind, asking_of}
use Rattle.ariadne_commands.specs.Words.{front_of, labels_of, no_options, colorless}
use Rattle.ariadne_commands.proofs.Options.{after_ascii, after_bytes, after_compact, after_dashes, after_message}
use Rattle.ariadne_commands.proofs.Options.{after_plain, after_unknown}

-- options that ask for no colours
abbrev plain : AskingOptions → AskingOptions
plain o = record o { plain = true }

-- what a message and its labels ask for behind options
abbrev asking_with : AskingOptions → List ℕ → List AskingLabel → Asking
asking_with o message labels = record { options = o; message = message; labels = labels }

-- if there are labels to ask for
with_labels : (o : AskingOptions) (message : List ℕ) (labels : Option (List AskingLabel))
    → option_map (asking_with (plain o) message) labels ≡ option_map colorless (option_map (asking_with o message) labels)
with_labels o message (Some labels) = refl
with_labels o message None = refl

-- behind the last option
behind : (o : AskingOptions) (words : List (List ℕ))
    → asking_behind (plain o) words ≡ option_map colorless (asking_behind o words)
behind o [] = refl
behind o (message ∷ words) = with_labels o message (labels_of words)

-- behind `--file` a path comes
after_file_comes : (o : AskingOptions) (word : List ℕ) (words : List (List ℕ))
    → front_of word ≡ File → asking_after false o (word ∷ words) ≡ asking_after true o words
unfolding asking_after
after_file_comes o word words is = rw (is, asking_after) refl

-- where it is so of the words behind a word, it is so of that word before them
abbrev Keeps : Bool → AskingOptions → List (List ℕ) → Type 0
Keeps is_path o words =
    asking_after is_path (plain o) words ≡ option_map colorless (asking_after is_path o words)

module _ (o : AskingOptions) (word : List ℕ) (words : List (List ℕ))
    (again : (is_path : Bool) (o : AskingOptions) → Keeps is_path o words) where
  -- by what the two ask for
  joined : (x y : Option Asking) → asking_after false (plain o) (word ∷ words) ≡ x
      → asking_after false o (word ∷ words) ≡ y → x ≡ option_map colorless y → Keeps false o (word ∷ words)
  joined x y first second same = first ∙ same ∙ ap (λ asks. option_map colorless asks) (sym second)

  one_more : (front : Front) → front_of word ≡ front → Keeps false o (word ∷ words)
  one_more Ascii is = joined _ _ (after_ascii (plain o) word words is) (after_ascii o word words is) (again false (record o { ascii = true }))
  one_more Plain is = joined _ _ (after_plain (plain o) word words is) (after_plain o word words is) (again false (plain o))
  one_more Compact is = joined _ _ (after_compact (plain o) word words is) (after_compact o word words is) (again false (record o { compact = true }))
  one_more Bytes is = joined _ _ (after_bytes (plain o) word words is) (after_bytes o word words is) (again false (record o { bytes = true }))
  one_more File is = joined _ _ (after_file_comes (plain o) word words is) (after_file_comes o word words is) (again true o)
  one_more Dashes is = joined _ _ (after_dashes (plain o) word words is) (after_dashes o word words is) (behind o words)
  one_more Unknown is = joined _ _ (after_unknown (plain o) word words is) (after_unknown o word words is) refl
  one_more Message is = joined _ _ (after_message (plain o) word words is) (after_message o word words is) (behind o (word ∷ words))

-- at any place among the options
keeps : (words : List (List ℕ)) (is_path : Bool) (o : AskingOptions) → Keeps is_path o words
unfolding asking_after
keeps [] is_path o = refl
keeps (path ∷ words) true o = keeps words false (record o { path = Some path })
keeps (word ∷ words) false o = one_more o word words (keeps words) (front_of word) refl

-- the word itself
is_plain : front_of (codes "--plain") ≡ Plain
unfolding front_of
is_plain = refl

-- before all words
pub plain_first : (words : List (List ℕ)) → asking_of (codes "--plain" ∷ words) ≡ option_map colorless (asking_of words)
plain_first words = after_plain no_options (codes "--plain") words is_plain ∙ keeps words false no_options

-- where the word was put in front
pub plain_inserted : (words new : List (String Global)) (word : String Global)
    → new ≡ insert words 0 word → string_bytes word ≡ codes "--plain"
    → asking_of (map string_bytes new) ≡ option_map colorless (asking_of (map string_bytes words))
plain_inserted words new word is text = rw (is, text) (plain_first (map string_bytes words))
