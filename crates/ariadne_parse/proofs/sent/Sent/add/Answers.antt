use Rattle.std.proofs.Common.{◌≡◌, ◌∙◌, Bool, true, false, ◌||◌, cond, List, ℕ, ap, refl, sym}
use Rattle.std.proofs.lemmas.Map.Text.{hash_set_updates_text}
use Rattle.std.specs.HashSet.{contains_text}
use Rattle.std.specs.Prelude.{string_bytes}
use Rattle.std.specs.Str.{bytes_eq}
use Rattle.ariadne_parse.proofs.sent.Sent.add.Goals as goal

one_more : (b held : Bool) → cond b true held ≡ (b || held)
one_more true held = refl
one_more false held = refl

-- a text of the message is held, which was not
pub returns-clause-new : goal.returns-clause-new
returns-clause-new c =
    let text : List ℕ = string_bytes c.in_ok-text.text in λ on. record {
      text = text;
      own = record { reads = c.in_ok-text.ensures.reads_back c.requires; compact = c.in_ok-text.ensures.text };
      is_new = ap (contains_text c.args.self.now.texts) (sym c.as_str.ensures.value) ∙ sym c.contains.ensures ∙ c.if-contains.false;
      added = λ other.
          hash_set_updates_text text c.args.self.now.texts c.insert.new.self true c.in_ok-insert.ensures.updates other
          ∙ one_more (bytes_eq text other) (contains_text c.args.self.now.texts other);
    }
