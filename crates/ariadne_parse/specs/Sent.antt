-- The messages that cargo has handed on in a run, so that one that it hands on again is known. They are
-- held by their texts: a message was handed on before where a text that reads as it is held.
use Rattle.std.specs.Prelude.{ℕ, ◌≡◌, Bool, true, false, ◌||◌, List, Some}
use Rattle.std.specs.HashSet.{contains_text}
use Rattle.std.specs.Str.{bytes_eq}
use Rattle.serde_json.specs.Data.{Data}
use Rattle.serde_json.specs.Read.{read}
use Rattle.serde_json.specs.Written.{compact_text, has_float}
use Rattle.ariadne_parse.specs.declared.sent.Sent.{Sent}

-- a text is that of a message: it reads as the message. It is the compact one, where the message has no
-- number with a point, as cargo's have none
pub record IsTextOf (message : Data) (text : List ℕ) : Type 0 where
  pub reads : read text ≡ Some message
  pub compact : has_float message ≡ false → text ≡ compact_text message

-- a text is held
abbrev pub has_text : Sent → List ℕ → Bool
has_text sent text = contains_text sent.texts text

-- a message was handed on before
pub record WasSent (sent : Sent) (message : Data) : Type 0 where
  pub text : List ℕ
  pub own : IsTextOf message text
  pub held : has_text sent text ≡ true

-- a message was not, and is held from now on, beside those that were
pub record IsHeldNow (first last : Sent) (message : Data) : Type 0 where
  pub text : List ℕ
  pub own : IsTextOf message text
  pub is_new : has_text first text ≡ false
  pub added : (other : List ℕ) → has_text last other ≡ (bytes_eq text other || has_text first other)
