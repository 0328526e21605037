-- The text of a line that a source has, and of one that it hasn't.
use Rattle.std.proofs.Common.{◌≡◌, ◌∙◌, ap, sym, refl, subst, ℕ, ◌<◌, true, List, [], ◌++◌, length, drop, Option, Some, None, inl, inr, arith}
use Rattle.std.specs.Prelude.{IsSomeAnd, encode_utf8_all}
use Rattle.std.specs.Option.{IsSome}
use Rattle.std.specs.List.{slice_get, list_all}
use Rattle.std.specs.Str.{chars, IsUtf8}
use Rattle.std.specs.Str.Pattern.{FindsTextPrefix, StripsPrefix}
use Rattle.std.proofs.lemmas.Bool.{cases_lt}
use Rattle.std.proofs.lemmas.Option.{slice_get_within}
use Rattle.std.proofs.lemmas.List.{get_or_past}
use Rattle.std.proofs.lemmas.Str.{chars-nil, chars_from_encodes, encodes-append, encodes-chars, IsUtf8-drop}
use Rattle.ariadne_base.specs.Lines.{is_separator}
use Rattle.ariadne_base.specs.Locations.{line_text}
use Rattle.ariadne_base.specs.Table.{LineExtent, line_extent, line_table}
use Rattle.ariadne_base.proofs.StartLemmas.{slice_get-table}
use Rattle.ariadne_base.proofs.TableLemmas.{length-line_table}
use Rattle.ariadne_edits.specs.SuggestionRows.{IsTerminated}

-- a line that was found is there
pub found_there : (o : Option LineExtent) (ls : List (List ℕ)) (n : ℕ) (e : LineExtent) → o ≡ slice_get (line_table ls) n → o ≡ Some e → n < length ls
found_there o ls n e a b =
    let rows = length-line_table ls in
    let lt = slice_get_within (line_table ls) n e (sym a ∙ b) in omega arith

pub found_is : (o : Option LineExtent) (ls : List (List ℕ)) (n : ℕ) (e : LineExtent) → o ≡ slice_get (line_table ls) n → o ≡ Some e → e ≡ line_extent ls n
found_is o ls n e a b = let there = slice_get-table ls n (found_there o ls n e a b) in cc

-- one that was not is empty
pub missed_empty : (o : Option LineExtent) (ls : List (List ℕ)) (n : ℕ) → o ≡ slice_get (line_table ls) n → o ≡ None → chars [] ≡ line_text ls n
missed_empty o ls n a b =
    elim (cases_lt n (length ls)) [
      | inl h ↦ let there = slice_get-table ls n h in absurd (let no : ⊥ = grind arith in no)
      | inr h ↦ chars-nil ∙ sym (get_or_past ls n [] h)
    ]

pub some_and : {T : Type 0} (o : Option T) (P : T → Type 0) → IsSomeAnd o P → IsSome o
some_and None P h = absurd h
some_and (Some x) P h = refl

pub of_some : {T : Type 0} (o : Option T) (P : T → Type 0) (x : T) → IsSomeAnd o P → o ≡ Some x → P x
of_some o P x h e = subst (λ o. IsSomeAnd o P) e h

-- ---- a line that is another and a terminator

module _ (bare whole rest : List ℕ) (whole_text : IsUtf8 whole) (cut : StripsPrefix (FindsTextPrefix bare) whole rest) where
  pub rest_text : IsUtf8 rest
  rest_text =
      subst IsUtf8 (sym cut.2) (subst (λ n. IsUtf8 (drop n whole)) (sym cut.1.0) (IsUtf8-drop whole (length bare) whole_text cut.1.2))

  pub terminated : IsUtf8 bare → list_all is_separator (chars rest) ≡ true → IsTerminated (chars bare) (chars whole)
  terminated u ends =
      let parts : whole ≡ bare ++ rest = cut.1.1 ∙ ap (λ t. bare ++ t) (sym cut.2) in
      record {
        terminator = chars rest;
        is = sym (chars_from_encodes (chars bare ++ chars rest) whole whole_text
            (encodes-append (chars bare) (chars rest) ∙ ap (λ x. x ++ encode_utf8_all (chars rest)) (encodes-chars bare u)
            ∙ ap (λ x. bare ++ x) (encodes-chars rest rest_text) ∙ sym parts));
        ends = ends;
      }

-- texts of the same characters
pub same_text : (a b : List ℕ) → IsUtf8 a → IsUtf8 b → chars a ≡ chars b → a ≡ b
same_text a b u v e = sym (encodes-chars a u) ∙ ap encode_utf8_all e ∙ encodes-chars b v
