-- Texts that were cut short: what is one of a front is one of the whole, and so is one behind a front.
use Rattle.std.proofs.Common.{◌≡◌, ℕ, List, ◌++◌, Option, Some, None, append_assoc, sym, ◌∙◌, ap, Result, Ok, Err, OnErr, is_ok, if◌then◌else◌}
use Rattle.std.proofs.lemmas.List.{append-nil}
use Rattle.ariadne_color.specs.declared.color.Color.{Color}
use Rattle.ariadne_color.specs.Colors.{painted}
use Rattle.ariadne_color.specs.Escapes.{closed, opened, IsCutShort}

-- what holds anyhow holds on an error
pub on_err-intro : {T E P : Type 0} (told : Result T E) → P → OnErr told P
on_err-intro (Ok _) fact = tt
on_err-intro (Err _) fact = fact

-- a beginning of a front is one of the whole
pub of_front : (before front rest more after : List ℕ) → more ≡ front ++ rest → IsCutShort before front after → IsCutShort before more after
of_front before front rest more after parted short = record {
  part = short.part;
  rest = short.rest ++ rest;
  begins = parted ∙ ap (λ f. f ++ rest) short.begins ∙ append_assoc short.part short.rest rest;
  follows = short.follows;
}

-- behind a front that followed whole a beginning of the rest makes one of the whole
pub behind : (before front rest more middle after : List ℕ) → more ≡ front ++ rest → middle ≡ before ++ front → IsCutShort middle rest after
    → IsCutShort before more after
behind before front rest more middle after parted stood short = record {
  part = front ++ short.part;
  rest = short.rest;
  begins = parted ∙ ap (λ r. front ++ r) short.begins ∙ sym (append_assoc front short.part short.rest);
  follows = short.follows ∙ ap (λ m. m ++ short.part) stood ∙ append_assoc before front short.part;
}

-- where the last part may not follow, what stood before it is a beginning of the whole
pub before_last : {T E : Type 0} (told : Result T E) (before front last more middle after : List ℕ) → more ≡ front ++ last
    → middle ≡ before ++ front → after ≡ (if is_ok told then middle ++ last else middle) → OnErr told (IsCutShort before more after)
before_last (Ok _) before front last more middle after parted stood stays = tt
before_last (Err _) before front last more middle after parted stood stays =
    record { part = front; rest = last; begins = parted; follows = stays ∙ stood }

-- a painted text is what stands before it, itself, and what stands behind it
pub painted_parts : (color : Option Color) (text : List ℕ) → painted color text ≡ opened color ++ (text ++ closed color)
painted_parts None text = sym (append-nil text)
painted_parts (Some color) text = simp append_assoc
