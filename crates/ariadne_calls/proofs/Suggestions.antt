-- What a call that suggests edits leaves by its ending is what it leaves by the numbers that C sees.
use Rattle.std.proofs.Common.{refl, arith}
use Rattle.std.specs.Prelude.{ℕ, ◌≤◌, List}
use Rattle.ariadne_edits.specs.declared.edit.BadEdit.TheVariants.{Reversed, Overlaps, PastSource}
use Rattle.ariadne_edits.specs.declared.edit.BadEdit.TheVariants.{CutsCharacter}
use Rattle.ariadne_calls.specs.declared.given.GivenSuggestion.{GivenSuggestion}
use Rattle.ariadne_calls.specs.declared.suggestion.Misgiven.{Misgiven}
use Rattle.ariadne_calls.specs.declared.suggestion.Misgiven.TheVariants.{Flags, SourceText, SourceLines}
use Rattle.ariadne_calls.specs.declared.suggestion.Misgiven.TheVariants.{EditText, Edits}
use Rattle.ariadne_calls.specs.declared.suggestion.Suggested.{Suggested}
use Rattle.ariadne_calls.specs.declared.suggestion.Suggested.TheVariants.{Told, TooShort, Refused}
use Rattle.ariadne_calls.specs.declared.suggestion.Unsuggested.TheVariants.{NoMemory, Faulty}
use Rattle.ariadne_calls.specs.Suggesting.{Gives, GivesNumber, number_of, status_of, len_of, count_of}

-- what is wrong has a number from 4 to 24
in_reach : (fault : Misgiven) → (4 ≤ number_of fault) × (number_of fault ≤ 24)
in_reach Flags = (omega arith, omega arith)
in_reach SourceText = (omega arith, omega arith)
in_reach SourceLines = (omega arith, omega arith)
in_reach (EditText k) = (omega arith, omega arith)
in_reach (Edits (Reversed k)) = (omega arith, omega arith)
in_reach (Edits (Overlaps k)) = (omega arith, omega arith)
in_reach (Edits (PastSource k)) = (omega arith, omega arith)
in_reach (Edits (CutsCharacter k)) = (omega arith, omega arith)

pub numbered : (s : GivenSuggestion) (old new : List ℕ) (e : Suggested) → Gives s old new e
    → GivesNumber s old new (len_of e) (count_of e) (status_of e)
numbered s old new (Told len) h = record {
  told = λ _. h.1;
  too_short = λ e. absurd (omega (arith, e));
  sound = λ _. h.0;
  faulty = λ e. absurd (omega (arith, e));
  unchanged = λ e. absurd (omega (arith, e));
  no_len = λ e. absurd (omega (arith, e));
  no_count = λ _. refl;
  not_left_out = λ e. omega (arith, e);
  in_range = omega arith;
}
numbered s old new (TooShort len) h = record {
  told = λ e. absurd (omega (arith, e));
  too_short = λ _. h.2;
  sound = λ _. h.0;
  faulty = λ e. absurd (omega (arith, e));
  unchanged = λ _. h.1;
  no_len = λ e. absurd (omega (arith, e));
  no_count = λ _. refl;
  not_left_out = λ e. omega (arith, e);
  in_range = omega arith;
}
numbered s old new (Refused NoMemory) h = record {
  told = λ e. absurd (omega (arith, e));
  too_short = λ e. absurd (omega (arith, e));
  sound = λ e. absurd (omega (arith, e));
  faulty = λ e. absurd (omega (arith, e));
  unchanged = λ _. h.0;
  no_len = λ _. refl;
  no_count = λ _. refl;
  not_left_out = λ e. omega (arith, e);
  in_range = omega arith;
}
numbered s old new (Refused (Faulty fault)) h =
    let low : 4 ≤ number_of fault = (in_reach fault).0 in
    let high : number_of fault ≤ 24 = (in_reach fault).1 in
    record {
      told = λ e. absurd (omega (arith, e, low));
      too_short = λ e. absurd (omega (arith, e, low));
      sound = λ e. absurd (omega (arith, e, low));
      faulty = λ _. record { fault = fault; wrong = h.1; number_is = refl; place_is = refl };
      unchanged = λ _. h.0;
      no_len = λ _. refl;
      no_count = λ e. absurd (omega (arith, e, low));
      not_left_out = λ e. omega (arith, e, low);
      in_range = high;
    }
