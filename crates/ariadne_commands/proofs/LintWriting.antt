-- All labels of the report are drawn: the source of each is held, and each lies inside it.
use Rattle.std.proofs.Common.{◌≡◌, refl, sym, ap, arith, tests}
use Rattle.std.specs.Prelude.{ℕ, ◌+◌, ◌≤◌, ⊤, Bool, true, false, ◌||◌, nat_lt, List, [], ◌∷◌, ◌++◌, length, codes, chars, suc, min}
use Rattle.std.specs.Prelude.{Option, Some, None, IsSome}
use Rattle.std.specs.Borrow.{Bor}
use Rattle.std.specs.Cmp.Lexicographic.{bytes_decides}
use Rattle.std.specs.List.{AllByRecursion, flat_map, list_any}
use Rattle.std.specs.Map.{lookup}
use Rattle.std.specs.Str.{bytes_eq}
use Rattle.std.specs.declared.ops.Range.{Range}
use Rattle.ariadne.specs.Cache.{held}
use Rattle.ariadne.specs.Listing.{Listing, listed_lines}
use Rattle.ariadne.specs.FileError.{FileError}
use Rattle.ariadne.specs.Accept.{info_of, offset_in_chars, text_len, verdict, within}
use Rattle.ariadne.specs.Report.{ConfigFields, LabelFields, ReportFields, error, new_report}
use Rattle.ariadne.specs.IndexType.TheVariants.{Char}
use Rattle.ariadne.specs.LabelInfo.{LabelInfo}
use Rattle.ariadne.specs.Verdict.TheVariants.{Accepted, CutsCharacter as cuts, PastSource as past}
use Rattle.ariadne.specs.Judging.{AreJudged, GrowsFor, IsJudged, Outcome as LabelOutcome, drawn_as, is_drawn, left_out_for, listed}
use Rattle.ariadne.specs.Written.{IsCutOff, IsPicture, IsWritten}
use Rattle.ariadne.specs.LeftOut.{LeftOut}
use Rattle.ariadne.specs.Reason.TheVariants.{Unfetched, PastSource, CutsCharacter}
use Rattle.ariadne_commands.specs.Brackets.{IsFirstOffence}
use Rattle.ariadne_commands.specs.Linted.{IsCut, Prints, files, labels_of, labels_of_offence, labels_of_outcome, plain_config, report_of, report_with, same_path}
use Rattle.ariadne_commands.specs.Linting.{AreOutcomes}
use Rattle.ariadne_commands.specs.Outcomes.{IsOutcome}
use Rattle.ariadne_commands.specs.declared.checked.Checked.{Checked}
use Rattle.ariadne_commands.specs.declared.checked.Outcome.{Outcome}
use Rattle.ariadne_commands.specs.declared.checked.Outcome.TheVariants.{Balanced, Offends, Unread}
use Rattle.ariadne_commands.specs.declared.offence.Offence.{Offence}
use Rattle.ariadne_commands.specs.declared.offence.Offence.TheVariants.{Unopened, Mismatched, Unclosed}
use Rattle.ariadne_commands.proofs.Bounds.{offence_within}

abbrev pub Place : Type 0
Place = Bor (List ℕ) × Range ℕ

abbrev pub Contents : Type 0
Contents = List (Bor (List ℕ) × Listing)

-- ---- labels and their sources

-- the source of a label is held, and the label lies inside it
pub record IsInside (contents : Contents) (label : LabelFields Place) : Type 0 where
  pub source : Listing
  pub is_held : held same_path contents label.span.0 ≡ Some source
  pub starts : label.span.1.start ≤ length (chars source.text)
  pub ends : label.span.1.end ≤ length (chars source.text) + 1

-- what holds of all of two lists holds of all
all_append : {A : Type 0} (P : A → Type 0) (xs ys : List A) → AllByRecursion P xs → AllByRecursion P ys → AllByRecursion P (xs ++ ys)
all_append P [] ys first second = second
all_append P (x ∷ xs) ys first second = (first.0, all_append P xs ys first.1 second)

module _ (contents : Contents) where
  -- the labels of an offence
  inside_offence : (path : Bor (List ℕ)) (source : Listing) (offence : Offence) → held same_path contents path ≡ Some source
      → IsFirstOffence (chars source.text) (Some offence) → AllByRecursion (IsInside contents) (labels_of_offence path offence)
  inside_offence path source (Unopened p) there is =
      let below = offence_within (chars source.text) (Unopened p) is in
      (record { source = source; is_held = there; starts = omega arith; ends = omega arith }, tt)
  inside_offence path source (Mismatched o p) there is =
      let below = offence_within (chars source.text) (Mismatched o p) is in
      let before = is.before in (
        record { source = source; is_held = there; starts = omega arith; ends = omega arith },
        (record { source = source; is_held = there; starts = omega arith; ends = omega arith }, tt),
      )
  inside_offence path source (Unclosed o) there is =
      let below = offence_within (chars source.text) (Unclosed o) is in
      (record { source = source; is_held = there; starts = omega arith; ends = omega arith }, tt)

  -- those of an outcome, by what is held
  inside_outcome : (path : Bor (List ℕ)) (outcome : Outcome) (there : Option Listing) → held same_path contents path ≡ there → IsOutcome there outcome
      → AllByRecursion (IsInside contents) (labels_of_outcome path outcome)
  inside_outcome path Balanced there same is = tt
  inside_outcome path Unread there same is = tt
  inside_outcome path (Offends offence) (Some source) same is = inside_offence path source offence same is
  inside_outcome path (Offends offence) None same is = absurd cc

  -- those of all files
  pub inside_all : (checked : List Checked) → AreOutcomes contents checked → AllByRecursion (IsInside contents) (flat_map labels_of checked)
  inside_all [] are = tt
  inside_all (c ∷ checked) are =
      all_append (IsInside contents) (labels_of c) (flat_map labels_of checked)
      (inside_outcome c.path c.outcome (held same_path contents c.path) refl are.0) (inside_all checked are.1)

-- ---- what is held stays

-- the same path finds the same
held_same : (contents : Contents) (p q : Bor (List ℕ)) → same_path p q ≡ true → held same_path contents p ≡ held same_path contents q
held_same contents p q same =
    ap (λ (bytes : List ℕ). lookup (λ r. bytes_eq bytes r.now) contents) ((bytes_decides p.now q.now).0 same)

-- the path of a label is held, or that of a later one is
first_or_later : (contents : Contents) (label : LabelFields Place) (q : Bor (List ℕ)) (same later : Bool) → same_path label.span.0 q ≡ same
    → IsInside contents label → (same || later) ≡ true → (later ≡ true → IsSome (held same_path contents q)) → IsSome (held same_path contents q)
first_or_later contents label q true later is inside either rest = rw (← held_same contents label.span.0 q is, inside.is_held) refl
first_or_later contents label q false later is inside either rest = rest either

-- the path of some label is held
held_some : (contents : Contents) (labels : List (LabelFields Place)) (q : Bor (List ℕ)) → AllByRecursion (IsInside contents) labels
    → list_any (λ label. same_path label.span.0 q) labels ≡ true → IsSome (held same_path contents q)
held_some contents [] q all some = absurd cc
held_some contents (label ∷ labels) q all some =
    first_or_later contents label q (same_path label.span.0 q) (list_any (λ other. same_path other.span.0 q) labels) refl all.0 some
    (held_some contents labels q all.1)

-- where the sources of all labels are held nothing is new
pub nothing_new : (labels : List (LabelFields Place)) (old new : Contents) → AllByRecursion (IsInside old) labels
    → GrowsFor (λ s. s.0) same_path labels old new → (q : Bor (List ℕ)) → held same_path new q ≡ held same_path old q
nothing_new labels old new all grows q = by (list_any (λ label. same_path label.span.0 q) labels) refl
  where
    by : (b : Bool) → list_any (λ label. same_path label.span.0 q) labels ≡ b → held same_path new q ≡ held same_path old q
    by true some = grows.kept q (held_some old labels q all some)
    by false none = grows.only q none

-- so the outcomes are still so
pub outcomes_same : (old new : Contents) (checked : List Checked) → ((q : Bor (List ℕ)) → held same_path new q ≡ held same_path old q)
    → AreOutcomes old checked → AreOutcomes new checked
outcomes_same old new [] same are = tt
outcomes_same old new (c ∷ checked) same are = (rw (same c.path) are.0, outcomes_same old new checked same are.1)

-- ---- verdicts

-- what is not greater is not below
not_below : (a b : ℕ) → b ≤ a → nat_lt a b ≡ false
not_below a b le = grind (arith, tests)

-- a label inside its source is drawn
pub accepted : (config : ConfigFields) (source : Listing) (k : ℕ) (label : LabelFields Place) (start end : ℕ) → config.index_type ≡ Char
    → start ≤ length (chars source.text) → end ≤ length (chars source.text) + 1
    → (info : LabelInfo) × (verdict config source k label start end ≡ Accepted info)
unfolding verdict text_len offset_in_chars within
accepted config source k label start end is_char starts ends =
    let size = length (chars source.text) in
    (info_of config.label_attach (listed_lines source) k label start (min end size), rw (is_char, not_below size start starts, not_below (size + 1) end ends) refl)

-- ---- no label is left out

module _ (old new : Contents) (config : ConfigFields) where
  -- a label that lies inside its source is drawn
  drawn_first : (k : ℕ) (label : LabelFields Place) (outcome : LabelOutcome FileError) → config.index_type ≡ Char → IsInside old label → IsInside new label
      → IsJudged {E = FileError} (λ id e. ⊤) (files old) (files new) config k label outcome
      → (is_drawn outcome ≡ true) × IsJudged {E = FileError} (λ id e. ⊤) (files new) (files new) config k label outcome
  drawn_first k label (drawn_as info) is_char before after is = (refl, is)
  drawn_first k label (left_out_for PastSource) is_char before after is =
      let drawn = accepted config after.source k label label.span.1.start label.span.1.end is_char after.starts after.ends in
      let other : verdict config after.source k label label.span.1.start label.span.1.end ≡ past = rw after.is_held at is in
      absurd (cc (drawn.1, other))
  drawn_first k label (left_out_for CutsCharacter) is_char before after is =
      let drawn = accepted config after.source k label label.span.1.start label.span.1.end is_char after.starts after.ends in
      let other : verdict config after.source k label label.span.1.start label.span.1.end ≡ cuts = rw after.is_held at is in
      absurd (cc (drawn.1, other))
  drawn_first k label (left_out_for (Unfetched e)) is_char before after is = absurd (cc (is.0, before.is_held))

  -- so each of these labels is
  drawn_judged : (k : ℕ) (labels : List (LabelFields Place)) (outcomes : List (LabelOutcome FileError)) → config.index_type ≡ Char
      → AllByRecursion (IsInside old) labels → AllByRecursion (IsInside new) labels
      → AreJudged {E = FileError} (λ id e. ⊤) (files old) (files new) config k labels outcomes
      → AllByRecursion (λ outcome. is_drawn outcome ≡ true) outcomes × AreJudged {E = FileError} (λ id e. ⊤) (files new) (files new) config k labels outcomes
  drawn_judged k [] [] is_char before after judged = (tt, tt)
  drawn_judged k [] (outcome ∷ outcomes) is_char before after judged = elim judged [ ]
  drawn_judged k (label ∷ labels) [] is_char before after judged = elim judged [ ]
  drawn_judged k (label ∷ labels) (outcome ∷ outcomes) is_char before after judged =
      let first = drawn_first k label outcome is_char before.0 after.0 judged.0 in
      let rest = drawn_judged (suc k) labels outcomes is_char before.1 after.1 judged.1 in
      ((first.0, rest.0), (first.1, rest.1))

-- labels that are drawn are not listed
none_listed : (n : ℕ) (outcomes : List (LabelOutcome FileError)) → AllByRecursion (λ outcome. is_drawn outcome ≡ true) outcomes → listed n outcomes ≡ []
none_listed n [] drawn = refl
none_listed n (drawn_as info ∷ outcomes) drawn = none_listed (n + 1) outcomes drawn.1
none_listed n (left_out_for reason ∷ outcomes) drawn = absurd (let off : false ≡ true = drawn.0 in cc)

module _ (old new : Contents) (r : ReportFields Place) (is_char : r.config.index_type ≡ Char) (before : AllByRecursion (IsInside old) r.labels)
    (after : AllByRecursion (IsInside new) r.labels) (sent_before sent_after : Option (List ℕ)) where
  -- the picture is that of all labels
  pictured : (bytes : List ℕ) (list : List (LeftOut FileError)) → IsPicture {E = FileError} (λ id e. ⊤) (files old) (files new) r bytes list
      → IsPicture {E = FileError} (λ id e. ⊤) (files new) (files new) r bytes []
  pictured bytes list is =
      let drawn = drawn_judged old new r.config 0 r.labels is.outcomes is_char before after is.are_outcomes.judged in
      record {
        outcomes = is.outcomes;
        are_outcomes = record { judged = drawn.1; stay_fetched = is.are_outcomes.stay_fetched };
        left_out = sym (none_listed 0 is.outcomes drawn.0);
        drawn = is.drawn;
      }

  -- all was written, with all labels
  pub written_whole : (list : List (LeftOut FileError)) → IsWritten {E = FileError} (λ id e. ⊤) (files old) (files new) r list sent_before sent_after
      → IsWritten {E = FileError} (λ id e. ⊤) (files new) (files new) r [] sent_before sent_after
  written_whole list is =
      record { bytes = is.bytes; picture = pictured is.bytes list is.picture; sent = is.sent }

  -- the first bytes were, of a picture with all labels
  pub written_part : (sent : ℕ) → IsCutOff {E = FileError} (λ id e. ⊤) (files old) (files new) r sent sent_before sent_after
      → IsCutOff {E = FileError} (λ id e. ⊤) (files new) (files new) r sent sent_before sent_after
  written_part sent is =
      record { bytes = is.bytes; list = []; picture = pictured is.bytes is.list is.picture; has_more = is.has_more; sent = is.sent }

-- ---- the report of the offences

-- its labels are these, and its offsets count characters
report_fields : (labels : List (LabelFields Place)) (report : ReportFields Place) → Some report ≡ report_with labels
    → (report.labels ≡ labels) × (report.config.index_type ≡ Char)
report_fields [] report is = absurd cc
report_fields (label ∷ labels) report is =
    let whole : report ≡ record (new_report error label.span) { message = Some (codes "unbalanced brackets"); labels = label ∷ labels; config = plain_config } = cc in
    rw whole (refl, refl)

module _ (checked : List Checked) (report : ReportFields Place) (whole : Some report ≡ report_of checked) (old new : Contents)
    (are : AreOutcomes old checked) (grows : GrowsFor (λ s. s.0) same_path report.labels old new) where
  fields : (report.labels ≡ flat_map labels_of checked) × (report.config.index_type ≡ Char)
  fields = report_fields (flat_map labels_of checked) report whole

  inside_before : AllByRecursion (IsInside old) report.labels
  inside_before = rw fields.0 (inside_all old checked are)

  -- writing it leaves the outcomes as they are
  pub outcomes_after : AreOutcomes new checked
  outcomes_after = outcomes_same old new checked (nothing_new report.labels old new inside_before grows) are

  inside_after : AllByRecursion (IsInside new) report.labels
  inside_after = rw fields.0 (inside_all new checked outcomes_after)

  -- all of it was written, with all its labels
  pub wrote_whole : (before after : Option (List ℕ)) (list : List (LeftOut FileError))
      → IsWritten {E = FileError} (λ id e. ⊤) (files old) (files new) report list before after → Prints new before after (report_of checked)
  wrote_whole before after list is = rw (← whole) (written_whole old new report fields.1 inside_before inside_after before after list is)

  -- or its first bytes were
  pub wrote_part : (before after : Option (List ℕ)) (sent : ℕ)
      → IsCutOff {E = FileError} (λ id e. ⊤) (files old) (files new) report sent before after → IsCut new before after sent (report_of checked)
  wrote_part before after sent is = rw (← whole) (written_part old new report fields.1 inside_before inside_after before after sent is)
