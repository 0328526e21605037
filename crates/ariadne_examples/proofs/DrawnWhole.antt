-- A report whose one label lies within its text is drawn whole.
use Rattle.std.proofs.Common.{◌≡◌, refl, sym, ◌∙◌, arith, tests}
use Rattle.std.specs.Prelude.{ℕ, ◌+◌, ◌≤◌, ⊤, true, false, nat_lt, List, [], ◌∷◌, length, chars, min, Option, Some, None, Result, Ok, Err, IfOk, OnOk, Vec}
use Rattle.std.specs.declared.alloc.Global.{Global}
use Rattle.std.specs.Io.KnownBytes.{Appends}
use Rattle.std.specs.declared.ops.Range.{Range}
use Rattle.ariadne.specs.Accept.{info_of, offset_in_chars, text_len, verdict, within}
use Rattle.ariadne.specs.Cache.{listing_of}
use Rattle.ariadne.specs.CacheReads.{world}
use Rattle.ariadne.specs.Judging.{AreJudged, GrowsFor, Outcome, drawn_as, left_out_for}
use Rattle.ariadne.specs.LabelInfo.{LabelInfo}
use Rattle.ariadne.specs.LeftOut.{LeftOut}
use Rattle.ariadne.specs.Lines.{lines_of}
use Rattle.ariadne.specs.Listing.{Listing}
use Rattle.ariadne.specs.Reason.TheVariants.{Unfetched, PastSource, CutsCharacter}
use Rattle.ariadne.specs.Report.{ReportFields, World}
use Rattle.ariadne.specs.Verdict.TheVariants.{Accepted}
use Rattle.ariadne.specs.declared.write_error.WriteError.{WriteError}
use Rattle.ariadne.specs.Written.{IsWritten, Written}
use Rattle.ariadne_examples.specs.Calling.{MessagesHaveRows, here, over, picture, unknown_name}

-- what is read of a source
abbrev holding : Listing → World (Range ℕ) ⊤
holding source = world (λ it. tt) (λ it. it.start) (λ it. it.end) (λ p q. true) (λ id. None) ((tt, source) ∷ [])

-- what is not greater is not below
not_below : (a b : ℕ) → b ≤ a → nat_lt a b ≡ false
not_below a b le = grind (arith, tests)

module _ (text : List ℕ) (place : Range ℕ) (forward : place.start ≤ place.end) (inside : place.end ≤ length (chars text)) where
  -- the label as it is drawn
  abbrev info : LabelInfo
  info = info_of (unknown_name place).config.label_attach (lines_of (chars text)) 0 (here place) place.start place.end

  -- it is accepted as that
  accepted : verdict (unknown_name place).config (listing_of text) 0 (here place) place.start place.end ≡ Accepted info
  unfolding verdict text_len offset_in_chars within
  accepted =
      let size = length (chars text) in
      let whole : min place.end size ≡ place.end = omega arith in
      rw (not_below size place.start (omega arith), not_below (size + 1) place.end (omega arith), whole) refl

  -- so it is drawn
  one_drawn : (outcomes : List (Outcome ⊤)) → AreJudged (λ id e. ⊥) (over text) (over text) (unknown_name place).config 0 (here place ∷ []) outcomes → outcomes ≡ drawn_as info ∷ []
  one_drawn [] judged = elim judged [ ]
  one_drawn (drawn_as own ∷ []) judged = let both : Accepted own ≡ Accepted info = sym judged.0 ∙ accepted in cc
  one_drawn (drawn_as own ∷ (x ∷ xs)) judged = elim judged.1 [ ]
  one_drawn (left_out_for PastSource ∷ xs) judged = absurd (cc (accepted, judged.0))
  one_drawn (left_out_for CutsCharacter ∷ xs) judged = absurd (cc (accepted, judged.0))
  one_drawn (left_out_for (Unfetched e) ∷ xs) judged = absurd (cc judged.0.0)

  -- and all is drawn
  pub drawn_whole : (list : List (LeftOut ⊤)) (before after : Option (List ℕ)) → IsWritten (λ id e. ⊥) (over text) (over text) (unknown_name place) list before after
      → (list ≡ []) × Appends before after (picture text (unknown_name place)) × MessagesHaveRows text (unknown_name place)
  drawn_whole list before after is =
      let one = one_drawn is.picture.outcomes is.picture.are_outcomes.judged in
      let drawn = rw one at is.picture.drawn in
      let traced = drawn.each_message_is_traced in
      (rw one at is.picture.left_out, rw drawn.they_are_exactly_the_printed_canvas at is.sent, (traced.placing, traced.reads.rows_belong_together, traced.reads.each_message_has_one_row_of_its_own))

  -- the text stays held
  pub still_held : (new : Listing) → GrowsFor {Id = ⊤} (λ (it : Range ℕ). tt) (λ p q. true) (unknown_name place).labels ((tt, listing_of text) ∷ []) ((tt, new) ∷ []) → new ≡ listing_of text
  still_held new grows = let same : Some new ≡ Some (listing_of text) = grows.kept tt refl in cc

  -- what is promised of each result
  pub told : (result : Result (Vec (LeftOut ⊤) Global) WriteError) (before after : Option (List ℕ))
      → Written {E = ⊤} (λ id e. ⊥) (over text) (over text) (unknown_name place) before after result
      → IfOk result (λ left_out. left_out.items ≡ []) × OnOk result (Appends before after (picture text (unknown_name place)))
      × OnOk result (MessagesHaveRows text (unknown_name place))
  told (Ok list) before after is = drawn_whole list.items before after is
  told (Err error) before after is = (tt, tt, tt)

  -- so it is promised of what `write` returns, over a source of the text
  pub promised : (report : ReportFields (Range ℕ)) (old new : Listing) (result : Result (Vec (LeftOut ⊤) Global) WriteError) (before after : Option (List ℕ))
      → report ≡ unknown_name place → old ≡ listing_of text
      → GrowsFor {Id = ⊤} (λ (it : Range ℕ). tt) (λ p q. true) report.labels ((tt, old) ∷ []) ((tt, new) ∷ [])
      → Written {E = ⊤} (λ id e. ⊥) (holding old) (holding new) report before after result
      → IfOk result (λ left_out. left_out.items ≡ []) × OnOk result (Appends before after (picture text (unknown_name place)))
      × OnOk result (MessagesHaveRows text (unknown_name place))
  promised report old new result before after same text_is grows is =
      let stays = still_held new (rw (same, text_is) at grows) in
      told result before after (rw (same, text_is, stays) at is)
