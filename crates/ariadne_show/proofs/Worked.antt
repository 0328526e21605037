-- Words, and what `clap` finds in them: worked out by hand from its documentation, and computed.
use Rattle.std.proofs.Common.{◌≡◌, refl, true, false, List, ℕ, [], ◌∷◌, Some, None, codes, unwrap_or}
use Rattle.clap.proofs.OnLiterals.{clap_on_literals}
use Rattle.clap.specs.Words.{all_of}
use Rattle.clap.specs.declared.error.ErrorKind.TheVariants.{DisplayHelp, TooManyValues, UnknownArgument, ValueValidation}
use Rattle.ariadne_show.specs.CommandWords.{Names, entries, refusals}
use Rattle.ariadne_show.specs.OptionMeanings.{is_on, paths_named, value}

abbrev line : List (List ℕ)
line = codes "--max" ∷ codes "3" ∷ codes "a.log" ∷ codes "--short" ∷ codes "-" ∷ codes "--max=5" ∷ codes "--" ∷ codes "--raw" ∷ []

nothing_is_wrong : (names : Names) → refusals names line ≡ []
unfolding clap_on_literals
nothing_is_wrong names = refl

the_last_option_counts : (names : Names) → value (entries names line) (codes "max") ≡ Some (codes "5")
unfolding clap_on_literals
the_last_option_counts names = refl

a_switch_is_on : (names : Names) → is_on (entries names line) (codes "short") ≡ true
unfolding clap_on_literals
a_switch_is_on names = refl

behind_two_hyphens_are_no_options : (names : Names) → is_on (entries names line) (codes "raw") ≡ false
unfolding clap_on_literals
behind_two_hyphens_are_no_options names = refl

inputs_stand_anywhere : (names : Names)
    → paths_named (unwrap_or (all_of (codes "file") (entries names line)) []) ≡ Some (codes "a.log") ∷ None ∷ Some (codes "--raw") ∷ []
unfolding clap_on_literals
inputs_stand_anywhere names = refl

no_input_is_standard_input : (names : Names) → paths_named (unwrap_or (all_of (codes "file") (entries names [])) []) ≡ None ∷ []
unfolding clap_on_literals
no_input_is_standard_input names = refl

a_switch_has_no_value : (names : Names) → refusals names (codes "--ascii=yes" ∷ []) ≡ TooManyValues ∷ []
unfolding clap_on_literals
a_switch_has_no_value names = refl

a_word_is_no_number : (names : Names) → refusals names (codes "--context=two" ∷ []) ≡ ValueValidation ∷ []
unfolding clap_on_literals
a_word_is_no_number names = refl

another_word_is_unknown : (names : Names) → refusals names (codes "--odd" ∷ []) ≡ UnknownArgument ∷ []
unfolding clap_on_literals
another_word_is_unknown names = refl

the_first_request_counts : (names : Names) → refusals names (codes "-h" ∷ codes "--odd" ∷ []) ≡ DisplayHelp ∷ []
unfolding clap_on_literals
the_first_request_counts names = refl
