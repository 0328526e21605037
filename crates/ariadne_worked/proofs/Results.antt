-- What `Written` says of the bytes and of the list, by examples: what a result tells of a report with one label, which is past
-- its source, and results that one condition alone refuses.
use Rattle.std.proofs.Common.{◌≡◌, ◌∙◌, ℕ, ◌<◌, List, [], ◌∷◌, Option, Some, None, refl, ap, arith, take}
use Rattle.std.specs.Prelude.{codes, nat_eq, Vec, Ok, Err, Result}
use Rattle.std.specs.Cmp.Lexicographic.{pointwise}
use Rattle.std.specs.declared.alloc.Global.{Global}
use Rattle.std.specs.Str.{chars}
use Rattle.ariadne_base.specs.Listing.{Listing}
use Rattle.ariadne_picture.specs.Report.{World, ReportFields}
use Rattle.ariadne_picture.specs.Headline.{Headline}
use Rattle.ariadne_worked.proofs.Sample.{Span, report, label, utf8, drawn}
use Rattle.ariadne_report.specs.declared.accept.LeftOut.{LeftOut}
use Rattle.ariadne_report.specs.declared.accept.Reason.TheVariants.{Unfetched, PastSource, CutsCharacter}
use Rattle.ariadne_report.specs.CacheReads.{world}
use Rattle.ariadne_report.specs.Judging.{AreOutcomes, Outcome, drawn_as, left_out_for, listed}
use Rattle.ariadne.specs.declared.write_error.WriteError.{WriteError}
use Rattle.ariadne.specs.declared.write_error.WriteError.TheVariants.{Memory, Io}
use Rattle.ariadne.specs.Written.{IsPicture, Written}

-- ---- a report whose only label is past its source, over a cache that is what it holds, before and after

abbrev Held : Type 0
Held = List (List ℕ × Listing)

unfoldable held : Held
held = ([], record { text = codes "x"; display_offset = 0 }) ∷ []

-- an id is without a name
abbrev reads : (List ℕ → Option (List ℕ)) → Held → World Span (List ℕ)
reads = world (λ (s : Span). s.id) (λ s. s.start) (λ s. s.end) (pointwise nat_eq)

unfoldable past : ReportFields Span
past = report (label 4 5 "m" ∷ [])

abbrev Fails : List ℕ → ℕ → Type 0
Fails id e = e ≡ 7

-- what a result tells of a writer that had nothing, and has these bytes
abbrev Tells : List ℕ → Result (Vec (LeftOut ℕ) Global) WriteError → Type 0
Tells bytes result = Written Fails (reads (λ id. None) held) (reads (λ id. None) held) past (Some []) (Some bytes) result

abbrev Outcomes : Type 0
Outcomes = List (Outcome ℕ)

abbrev one_outcome : Outcomes
one_outcome = left_out_for PastSource ∷ []

unfoldable computed : Unit {0}
unfolding drawn held past chars
computed = tt

-- this is the only one that it may have
only_outcomes : (outcomes : Outcomes)
    → AreOutcomes Fails (reads (λ id. None) held) (reads (λ id. None) held) past.config past.labels outcomes → outcomes ≡ one_outcome
unfolding computed
only_outcomes [] h = absurd h.judged
only_outcomes (drawn_as info ∷ outcomes) h = let e = h.judged.0 in cc
only_outcomes (left_out_for PastSource ∷ []) h = refl
only_outcomes (left_out_for PastSource ∷ outcome ∷ outcomes) h = absurd h.judged.1
only_outcomes (left_out_for CutsCharacter ∷ outcomes) h = let e = h.judged.0 in cc
only_outcomes (left_out_for (Unfetched e) ∷ outcomes) h = let z = h.judged.0.0 in cc

-- ---- the picture that is made before it is sent

module _ (bytes : List ℕ) (list : List (LeftOut ℕ)) where
  abbrev IsMade : Type 0
  IsMade = IsPicture Fails (reads (λ id. None) held) (reads (λ id. None) held) past bytes list

  its_label_is_listed : IsMade → list ≡ record { label = 0; reason = PastSource } ∷ []
  unfolding computed
  its_label_is_listed h = h.left_out ∙ ap (listed 0) (only_outcomes h.outcomes h.are_outcomes)

  -- it can be read
  its_headline : IsMade → Headline (reads (λ id. None) held) past [] bytes
  unfolding computed
  its_headline h = rw (only_outcomes h.outcomes h.are_outcomes) at h.drawn

  -- the header of a report without message ends in a blank
  its_bytes_are_the_header : IsMade → bytes ≡ utf8 "Error: \n"
  unfolding computed
  its_bytes_are_the_header h = (its_headline h).they_are_exactly_the_printed_canvas

-- ---- all was written

the_label_is_listed : (bytes : List ℕ) (list : Vec (LeftOut ℕ) Global) → Tells bytes (Ok list)
    → list.items ≡ record { label = 0; reason = PastSource } ∷ []
the_label_is_listed bytes list h = its_label_is_listed h.bytes list.items h.picture

the_header_is_sent : (bytes : List ℕ) (list : Vec (LeftOut ℕ) Global) → Tells bytes (Ok list) → bytes ≡ utf8 "Error: \n"
the_header_is_sent bytes list h = h.sent ∙ its_bytes_are_the_header h.bytes list.items h.picture

-- ---- nothing was written

nothing_is_sent_without_memory : (bytes : List ℕ) → Tells bytes (Err (Memory (record {}))) → bytes ≡ []
nothing_is_sent_without_memory bytes h = h

-- ---- the first bytes were written

-- eight bytes are all of them
a_fault_behind_the_last_byte : (bytes : List ℕ) (fault : _) → Tells bytes (Err (Io 8 fault)) → ⊥
unfolding computed
a_fault_behind_the_last_byte bytes fault h =
    let z : 8 < 8 = rw (its_bytes_are_the_header h.bytes h.list h.picture) at h.has_more in
    omega arith

three_bytes_are_the_first_ones : (bytes : List ℕ) (fault : _) → Tells bytes (Err (Io 3 fault)) → bytes ≡ codes "Err"
unfolding computed
three_bytes_are_the_first_ones bytes fault h = h.sent ∙ ap (take 3) (its_bytes_are_the_header h.bytes h.list h.picture)
