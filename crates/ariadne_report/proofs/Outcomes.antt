-- Which labels are drawn by their outcomes: they are accepted, none stands twice, and which they are hangs on where outcomes are such alone.
use Rattle.std.proofs.Common.{◌≡◌, ◌≢◌, ℕ, zero, suc, ◌+◌, ◌≤◌, true, false, List, [], ◌∷◌, map, Option, Some, None, refl, sym, ap, ◌∙◌}
use Rattle.std.proofs.Common.{subst, arith, Contains, slice_get}
use Rattle.std.specs.Prelude.{IsSomeAnd}
use Rattle.std.specs.List.{AllByRecursion}
use Rattle.std.proofs.lemmas.Bool.{true≢false}
use Rattle.ariadne_base.specs.Listing.{Listing}
use Rattle.ariadne_picture.specs.declared.label_info.LabelInfo.{LabelInfo}
use Rattle.ariadne_picture.specs.declared.verdict.Verdict.TheVariants.{Accepted}
use Rattle.ariadne_picture.specs.Report.{LabelFields, ReportFields, World}
use Rattle.ariadne_picture.specs.Accept.{AreAccepted, IsAccepted, verdict_in}
use Rattle.ariadne_picture.proofs.Lists.ListFacts.{Increasing, increasing-pairs, none≢some, all-at, all-weaker}
use Rattle.ariadne_picture.proofs.Lists.Elements.{Has, has-first, has-later}
use Rattle.ariadne_picture.proofs.Labels.GroupLines.{has-place, contained}
use Rattle.ariadne_picture.proofs.Variants.CharLabels.{accepted-position}
use Rattle.ariadne_report.specs.declared.accept.Reason.{Reason}
use Rattle.ariadne_report.specs.Judging.{AreJudged, AreOutcomes, HasVerdict, Outcome, drawn_as, drawn_labels, is_drawn, left_out_for}

module _ {S Id E : Type 0} (fails : Id → E → Type 0) (before w : World S Id) (r : ReportFields S) where
  -- the labels from position k on
  abbrev AreFrom : ℕ → List (LabelFields S) → Type 0
  AreFrom k labels = (j : ℕ) → slice_get labels j ≡ slice_get r.labels (k + j)

  -- the first of them
  first-from : (k : ℕ) (label : LabelFields S) (labels : List (LabelFields S)) → AreFrom k (label ∷ labels) → slice_get r.labels k ≡ Some label
  first-from k label labels at = let z : k + 0 ≡ k = omega arith in ap (slice_get r.labels) (sym z) ∙ sym (at 0)

  -- the others
  rest-from : (k : ℕ) (label : LabelFields S) (labels : List (LabelFields S)) → AreFrom k (label ∷ labels) → AreFrom (suc k) labels
  rest-from k label labels at = λ j. let z : k + suc j ≡ suc k + j = omega arith in at (suc j) ∙ ap (slice_get r.labels) z

  -- ---- what is drawn is accepted

  -- a label over a source that is held
  held-accepted : (k : ℕ) (label : LabelFields S) (a : LabelInfo) → slice_get r.labels k ≡ Some label → (o : Option Listing)
      → w.source_of (w.id_of label.span) ≡ o → IsSomeAnd o (λ source. verdict_in w r.config k label source ≡ Accepted a)
      → IsAccepted w r a × (a.position ≡ k)
  held-accepted k label a there None e h = absurd h
  held-accepted k label a there (Some source) e h =
      let same = accepted-position r.config source k label (w.start_of label.span) (w.end_of label.span) a h in (
        record {
          label = label;
          there = ap (slice_get r.labels) same ∙ there;
          source = source;
          is_held = e;
          accepted = ap (λ n. verdict_in w r.config n label source) same ∙ h;
        },
        same,
      )

  -- one that is drawn
  one-accepted : (k : ℕ) (label : LabelFields S) (a : LabelInfo) → slice_get r.labels k ≡ Some label
      → HasVerdict fails before w r.config k label (Accepted a) → IsAccepted w r a × (a.position ≡ k)
  one-accepted k label a there h = held-accepted k label a there (w.source_of (w.id_of label.span)) refl h

  -- those of the labels from position k on
  accepted-from : (k : ℕ) (labels : List (LabelFields S)) (outcomes : List (Outcome E)) → AreFrom k labels
      → AreJudged fails before w r.config k labels outcomes → AllByRecursion (λ a. IsAccepted w r a × (k ≤ a.position)) (drawn_labels outcomes)
  accepted-from k [] [] at h = tt
  accepted-from k [] (outcome ∷ outcomes) at h = absurd h
  accepted-from k (label ∷ labels) [] at h = absurd h
  accepted-from k (label ∷ labels) (left_out_for reason ∷ outcomes) at h =
      all-weaker (λ a. IsAccepted w r a × (suc k ≤ a.position)) (λ a. IsAccepted w r a × (k ≤ a.position)) (drawn_labels outcomes)
      (λ a d. let low = d.1 in (d.0, omega arith)) (accepted-from (suc k) labels outcomes (rest-from k label labels at) h.1)
  accepted-from k (label ∷ labels) (drawn_as info ∷ outcomes) at h =
      let here = one-accepted k label info (first-from k label labels at) h.0 in
      let same = here.1 in (
        (here.0, omega arith),
        all-weaker (λ a. IsAccepted w r a × (suc k ≤ a.position)) (λ a. IsAccepted w r a × (k ≤ a.position)) (drawn_labels outcomes)
            (λ a d. let low = d.1 in (d.0, omega arith)) (accepted-from (suc k) labels outcomes (rest-from k label labels at) h.1),
      )

  -- none of them stands twice
  apart-from : (k : ℕ) (labels : List (LabelFields S)) (outcomes : List (Outcome E)) → AreFrom k labels
      → AreJudged fails before w r.config k labels outcomes → Increasing (λ (a b : LabelInfo). a.position ≢ b.position) (drawn_labels outcomes)
  apart-from k [] [] at h = tt
  apart-from k [] (outcome ∷ outcomes) at h = absurd h
  apart-from k (label ∷ labels) [] at h = absurd h
  apart-from k (label ∷ labels) (left_out_for reason ∷ outcomes) at h = apart-from (suc k) labels outcomes (rest-from k label labels at) h.1
  apart-from k (label ∷ labels) (drawn_as info ∷ outcomes) at h =
      let same = (one-accepted k label info (first-from k label labels at) h.0).1 in (
        all-weaker (λ a. IsAccepted w r a × (suc k ≤ a.position)) (λ b. info.position ≢ b.position) (drawn_labels outcomes)
            (λ b d e. let low = d.1 in omega arith) (accepted-from (suc k) labels outcomes (rest-from k label labels at) h.1),
        apart-from (suc k) labels outcomes (rest-from k label labels at) h.1,
      )

  -- all labels
  all-from-start : AreFrom 0 r.labels
  all-from-start = λ j. let z : j ≡ 0 + j = omega arith in ap (slice_get r.labels) z

  -- so the labels of a report that are drawn are accepted
  pub are-accepted : (outcomes : List (Outcome E)) → AreOutcomes fails before w r.config r.labels outcomes → AreAccepted w r (drawn_labels outcomes)
  are-accepted outcomes are = record {
    each = all-weaker (λ a. IsAccepted w r a × (0 ≤ a.position)) (IsAccepted w r) (drawn_labels outcomes) (λ a d. d.0)
        (accepted-from 0 r.labels outcomes all-from-start are.judged);
    none_twice = increasing-pairs (λ (a b : LabelInfo). a.position ≢ b.position) (drawn_labels outcomes)
        (apart-from 0 r.labels outcomes all-from-start are.judged);
  }

  -- ---- a label that is left out is not drawn

  left-out-from : (k : ℕ) (labels : List (LabelFields S)) (outcomes : List (Outcome E)) (j : ℕ) (reason : Reason E) → AreFrom k labels
      → AreJudged fails before w r.config k labels outcomes → slice_get outcomes j ≡ Some (left_out_for reason)
      → AllByRecursion (λ (a : LabelInfo). a.position ≢ k + j) (drawn_labels outcomes)
  left-out-from k [] [] j reason at h e = tt
  left-out-from k [] (outcome ∷ outcomes) j reason at h e = absurd h
  left-out-from k (label ∷ labels) [] j reason at h e = absurd h
  left-out-from k (label ∷ labels) (drawn_as info ∷ outcomes) zero reason at h e = absurd (cc)
  left-out-from k (label ∷ labels) (left_out_for first ∷ outcomes) zero reason at h e =
      all-weaker (λ a. IsAccepted w r a × (suc k ≤ a.position)) (λ a. a.position ≢ k + 0) (drawn_labels outcomes)
      (λ a d same. let low = d.1 in omega arith) (accepted-from (suc k) labels outcomes (rest-from k label labels at) h.1)
  left-out-from k (label ∷ labels) (left_out_for first ∷ outcomes) (suc j) reason at h e =
      all-weaker (λ (a : LabelInfo). a.position ≢ suc k + j) (λ a. a.position ≢ k + suc j) (drawn_labels outcomes)
      (λ a other same. other (omega arith)) (left-out-from (suc k) labels outcomes j reason (rest-from k label labels at) h.1 e)
  left-out-from k (label ∷ labels) (drawn_as info ∷ outcomes) (suc j) reason at h e =
      let own = (one-accepted k label info (first-from k label labels at) h.0).1 in (
        λ same. omega arith,
        all-weaker (λ (a : LabelInfo). a.position ≢ suc k + j) (λ a. a.position ≢ k + suc j) (drawn_labels outcomes)
            (λ a other same. other (omega arith)) (left-out-from (suc k) labels outcomes j reason (rest-from k label labels at) h.1 e),
      )

  pub left-out-apart : (outcomes : List (Outcome E)) (k : ℕ) (reason : Reason E) (a : LabelInfo)
      → AreOutcomes fails before w r.config r.labels outcomes → slice_get outcomes k ≡ Some (left_out_for reason)
      → Contains (drawn_labels outcomes) a → a.position ≢ k
  left-out-apart outcomes k reason a are e c same =
      let h = has-place (drawn_labels outcomes) a c in
      all-at (λ (a : LabelInfo). a.position ≢ 0 + k) (drawn_labels outcomes) h.place a h.there
      (left-out-from 0 r.labels outcomes k reason all-from-start are.judged e) (omega arith)

  -- ---- one that is not is drawn as what its source accepts

  -- a source accepts a label as one alone
  held-same : (k : ℕ) (label : LabelFields S) (source : Listing) (info a : LabelInfo) → w.source_of (w.id_of label.span) ≡ Some source
      → verdict_in w r.config k label source ≡ Accepted a → HasVerdict fails before w r.config k label (Accepted info) → info ≡ a
  held-same k label source info a held accepts h =
      let own : verdict_in w r.config k label source ≡ Accepted info =
      subst (λ o. IsSomeAnd o (λ s. verdict_in w r.config k label s ≡ Accepted info)) held h in
      let both : Accepted info ≡ Accepted a = sym own ∙ accepts in
      cc

  there-from : (k : ℕ) (labels : List (LabelFields S)) (outcomes : List (Outcome E)) (j : ℕ) (label : LabelFields S) (source : Listing)
      (info a : LabelInfo) → AreJudged fails before w r.config k labels outcomes → slice_get labels j ≡ Some label
      → slice_get outcomes j ≡ Some (drawn_as info) → w.source_of (w.id_of label.span) ≡ Some source
      → verdict_in w r.config (k + j) label source ≡ Accepted a → Has (drawn_labels outcomes) a
  there-from k [] outcomes j label source info a h there e held accepts = absurd (none≢some label there)
  there-from k (first ∷ labels) [] j label source info a h there e held accepts = absurd h
  there-from k (first ∷ labels) (left_out_for reason ∷ outcomes) zero label source info a h there e held accepts = absurd (cc)
  there-from k (first ∷ labels) (drawn_as own ∷ outcomes) zero label source info a h there e held accepts =
      let mine : first ≡ label = cc in
      let z : k + 0 ≡ k = omega arith in
      let here : HasVerdict fails before w r.config k label (Accepted own) =
      subst (λ l. HasVerdict fails before w r.config k l (Accepted own)) mine h.0 in
      let same : own ≡ a = held-same k label source own a held (ap (λ k. verdict_in w r.config k label source) (sym z) ∙ accepts) here in
      subst (λ b. Has (own ∷ drawn_labels outcomes) b) same (has-first own (drawn_labels outcomes))
  there-from k (first ∷ labels) (left_out_for reason ∷ outcomes) (suc j) label source info a h there e held accepts =
      let z : k + suc j ≡ suc k + j = omega arith in
      there-from (suc k) labels outcomes j label source info a h.1 there e held
      (ap (λ k. verdict_in w r.config k label source) (sym z) ∙ accepts)
  there-from k (first ∷ labels) (drawn_as own ∷ outcomes) (suc j) label source info a h there e held accepts =
      let z : k + suc j ≡ suc k + j = omega arith in
      has-later own (drawn_labels outcomes) a
      (there-from (suc k) labels outcomes j label source info a h.1 there e held
      (ap (λ k. verdict_in w r.config k label source) (sym z) ∙ accepts))

  pub drawn-there : (outcomes : List (Outcome E)) (k : ℕ) (label : LabelFields S) (source : Listing) (info a : LabelInfo)
      → AreOutcomes fails before w r.config r.labels outcomes → slice_get r.labels k ≡ Some label
      → slice_get outcomes k ≡ Some (drawn_as info) → w.source_of (w.id_of label.span) ≡ Some source
      → verdict_in w r.config k label source ≡ Accepted a → Contains (drawn_labels outcomes) a
  drawn-there outcomes k label source info a are there e held accepts =
      let z : k ≡ 0 + k = omega arith in
      contained (drawn_labels outcomes) a
      (there-from 0 r.labels outcomes k label source info a are.judged there e held
      (ap (λ k. verdict_in w r.config k label source) (sym z) ∙ accepts))

  -- ---- which labels are drawn hangs on where they are

  -- what is held under an id accepts a label as one alone
  verdicts-same : (k : ℕ) (label : LabelFields S) (a b : LabelInfo) (o : Option Listing)
      → IsSomeAnd o (λ s. verdict_in w r.config k label s ≡ Accepted a) → IsSomeAnd o (λ s. verdict_in w r.config k label s ≡ Accepted b) → a ≡ b
  verdicts-same k label a b None h i = absurd h
  verdicts-same k label a b (Some source) h i = let both : Accepted a ≡ Accepted b = sym h ∙ i in cc

  pub all-same : (k : ℕ) (labels : List (LabelFields S)) (outcomes others : List (Outcome E)) → AreJudged fails before w r.config k labels outcomes
      → AreJudged fails before w r.config k labels others → map is_drawn outcomes ≡ map is_drawn others
      → drawn_labels outcomes ≡ drawn_labels others
  all-same k [] [] [] h i e = refl
  all-same k [] [] (other ∷ others) h i e = absurd i
  all-same k [] (outcome ∷ outcomes) others h i e = absurd h
  all-same k (label ∷ labels) [] others h i e = absurd h
  all-same k (label ∷ labels) (outcome ∷ outcomes) [] h i e = absurd i
  all-same k (label ∷ labels) (drawn_as a ∷ outcomes) (drawn_as b ∷ others) h i e =
      let rest : map is_drawn outcomes ≡ map is_drawn others = cc in
      let first : a ≡ b = verdicts-same k label a b (w.source_of (w.id_of label.span)) h.0 i.0 in
      let more = all-same (suc k) labels outcomes others h.1 i.1 rest in
      λ n. first n ∷ more n
  all-same k (label ∷ labels) (left_out_for p ∷ outcomes) (left_out_for q ∷ others) h i e =
      let rest : map is_drawn outcomes ≡ map is_drawn others = cc in all-same (suc k) labels outcomes others h.1 i.1 rest
  all-same k (label ∷ labels) (drawn_as a ∷ outcomes) (left_out_for q ∷ others) h i e = let off : true ≡ false = cc in absurd (true≢false off)
  all-same k (label ∷ labels) (left_out_for p ∷ outcomes) (drawn_as b ∷ others) h i e = let off : false ≡ true = cc in absurd (true≢false (sym off))
