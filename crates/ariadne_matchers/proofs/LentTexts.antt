-- Texts that may be lent.
use Rattle.std.proofs.Common.{◌≡◌, ◌∙◌, refl, ap}
use Rattle.std.specs.Borrow.{Bor}
use Rattle.std.specs.Option.{option_copied}
use Rattle.std.specs.Prelude.{Option, Some, None, option_map, string_bytes, String}
use Rattle.std.specs.declared.alloc.Global.{Global}

own_seen : (lent : Option (Bor (String Global)))
    → option_map (λ own. string_bytes own.now) lent ≡ option_map string_bytes (option_copied lent)
own_seen None = refl
own_seen (Some text) = refl

-- a text that is lent
pub own_text : (lent : Option (Bor (String Global))) (own : Option (String Global)) → option_copied lent ≡ own
    → option_map (λ own. string_bytes own.now) lent ≡ option_map string_bytes own
own_text lent own is = own_seen lent ∙ ap (option_map string_bytes) is
