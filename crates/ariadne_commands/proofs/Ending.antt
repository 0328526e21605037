-- How a run ends, by what the words ask for.
use Rattle.std.proofs.Common.{◌≡◌, refl, ◌∙◌, ap, inl, inr}
use Rattle.std.specs.Prelude.{ℕ, Bool, true, List, [], ◌∷◌, Option, Some, None, IfSome, IsSome, ⊤, alloc_error}
use Rattle.std.specs.Borrow.{Bor}
use Rattle.std.specs.Io.KnownBytes.{Keeps}
use Rattle.std.specs.Str.{IsUtf8, bytes_eq}
use Rattle.std.specs.declared.ops.Range.{Range}
use Rattle.ariadne.specs.Report.{World}
use Rattle.ariadne.specs.Cache.{Grows, KeepsOtherIds, held, listing_of}
use Rattle.ariadne.specs.Listing.{Listing}
use Rattle.ariadne.specs.FileError.{FileError}
use Rattle.ariadne_commands.specs.declared.fault.Fault.{Fault}
use Rattle.ariadne_commands.specs.declared.fault.Fault.TheVariants.{Writer, Memory, Usage, Unread, NotUtf8}
use Rattle.ariadne_commands.specs.declared.fault.Status.{Status}
use Rattle.ariadne_commands.specs.ReadWords.{IsFaultOfWords}
use Rattle.ariadne_commands.specs.Drawn.{Ended, EndedOver, Leaves, OverFile, OverInput, files, report_of, sources}
use Rattle.ariadne_commands.specs.Faults.{IsFaultOfInput, status_of}
use Rattle.ariadne_commands.specs.Words.{Asking}

-- bytes that nothing was done to stay
keeps_same : (bytes : Option (List ℕ)) → Keeps bytes bytes
keeps_same (Some bytes) = refl
keeps_same None = tt

module _ (has_failed : Bool) (input before : Option (List ℕ)) where
  -- there was no memory, before anything was looked at: by the path
  no_memory_over : (path : Option (List ℕ)) (asking : Asking) → EndedOver path asking has_failed input before before (status_of (Memory alloc_error))
  no_memory_over None asking = inl (keeps_same before)
  no_memory_over (Some path) asking = record {
    id = record { ref_ptr = (0, 0); now = path };
    is_path = refl;
    contents = [];
    hold_at_most = λ q other. refl;
    leaves = inl (keeps_same before);
  }

  -- and by the words
  no_memory : (asks : Option Asking) → Ended asks has_failed input before before (status_of (Memory alloc_error))
  no_memory (Some asking) = no_memory_over asking.options.path asking
  no_memory None = keeps_same before

  -- the input could not be read
  pub ended_by_input : (asking : Asking) (fault : Fault) → IsFaultOfInput has_failed input fault
      → EndedOver None asking has_failed input before before (status_of fault)
  ended_by_input asking (Usage line) none = elim none [ ]
  ended_by_input asking Unread failed = inl (inl failed, keeps_same before)
  ended_by_input asking NotUtf8 no_text = inl (inr no_text, keeps_same before)
  ended_by_input asking (Writer sent) none = elim none [ ]
  ended_by_input asking (Memory refused) any = no_memory_over None asking

  -- the words were refused
  pub ended_by_words : (asks : Option Asking) (fault : Fault) → IsFaultOfWords asks fault → Ended asks has_failed input before before (status_of fault)
  ended_by_words asks (Usage line) none = rw none (keeps_same before)
  ended_by_words asks Unread none = elim none [ ]
  ended_by_words asks NotUtf8 none = elim none [ ]
  ended_by_words asks (Writer sent) none = elim none [ ]
  ended_by_words asks (Memory refused) any = no_memory asks

-- one source alone
abbrev alone : Listing → List (Unit {0} × Listing)
alone source = (tt, source) ∷ []

-- and what is read of it
abbrev only : Listing → World (Unit {0} × Range ℕ) (Unit {0})
only source = sources (λ p q. true) (λ id. None) (alone source)

module _ (asking : Asking) (before after : Option (List ℕ)) (ended : Status) where
  -- the file at a path was drawn over
  pub over_file : (path : Bor (List ℕ)) (old new : List (Bor (List ℕ) × Listing)) → old ≡ []
      → KeepsOtherIds (λ p q. bytes_eq p.now q.now) path old new
      → Leaves {E = FileError} (λ id e. ⊤) (files old) (files new) (report_of path asking) before after ended
      → OverFile asking path.now before after ended
  over_file path old new none others leaves = record {
    id = path;
    is_path = refl;
    contents = new;
    hold_at_most = λ q other. rw none at (others q other);
    leaves = rw none at leaves;
  }

  -- a text is the only source, before and after
  over_same : (old new text : Listing) → old ≡ text → new ≡ text
      → Leaves {E = Unit {0}} (λ id e. ⊥) (only old) (only new) (report_of tt asking) before after ended
      → Leaves {E = Unit {0}} (λ id e. ⊥) (only text) (only text) (report_of tt asking) before after ended
  over_same old new text first then leaves = rw (first, then) at leaves

  -- the text of the input was drawn over
  pub over_input : (input : Option (List ℕ)) (old new : Listing) → IsUtf8 old.text → IfSome input (λ bytes. old.text ≡ bytes) → old.display_offset ≡ 0
      → Grows (λ p q. true) (alone old) (alone new)
      → Leaves {E = Unit {0}} (λ id e. ⊥) (only old) (only new) (report_of tt asking) before after ended
      → OverInput asking input before after ended
  over_input input old new is_text read first grows leaves =
      let id : Unit {0} = tt in
      let there : IsSome (held (λ p q. true) (alone old) id) = refl in
      let kept : Some new ≡ Some old = grows id there in
      let same : new ≡ old = cc in
      let text : old ≡ listing_of old.text = ap (λ n. let s : Listing = record { text = old.text; display_offset = n } in s) first in
      record { text = old.text; is_text = is_text; read = read; leaves = over_same old new _ text (same ∙ text) leaves }

  -- the report was drawn over what the options name
  pub ended_over : (asks : Option Asking) (path : Option (List ℕ)) (has_failed : Bool) (input : Option (List ℕ))
      → asks ≡ Some asking → asking.options.path ≡ path
      → EndedOver path asking has_failed input before after ended → Ended asks has_failed input before after ended
  ended_over asks path has_failed input is has over = rw is (rw (← has) at over)
