use Rattle.std.proofs.Common.{◌≡◌, ◌∙◌, ◌++◌, ◌∷◌, [], ap, append_assoc, lit<, refl, ℕ, string_bytes, sym}
use Rattle.std.proofs.lemmas.Bool.{true≢false}
use Rattle.std.proofs.lemmas.List.{map-append}
use Rattle.std.specs.Prelude.{List, Vec, false}
use Rattle.std.specs.declared.alloc.Global.{Global}
use Rattle.ariadne_show.specs.WaitingLines.{bytes_in, is_head_role}
use Rattle.ariadne_show.specs.declared.front.Role.{Role}
use Rattle.ariadne_show.specs.declared.front.Role.TheVariants as role
use Rattle.ariadne_show.specs.declared.front.WaitingHead.{WaitingHead}
use Rattle.ariadne_show.proofs.front.WaitingLine.add_row.Goals.{in-Head+in_ok-push+in_ok-push_str, in_default}
use Rattle.ariadne_show.proofs.front.WaitingLine.add_row.Goals as goal

-- what isn't a head is none
no-head : (given : Role) → ((head : WaitingHead) → given ≡ role.Head head → ⊥) → is_head_role given ≡ false
no-head (role.Span span) none = refl
no-head (role.Head head) none = absurd (none head refl)
no-head role.Scope none = refl

-- the lines of a head, with that which has a row more
with-line : (before after : List (Vec ℕ Global)) (bytes : Vec ℕ Global) (line : List ℕ)
    → after ≡ before ++ bytes ∷ [] → bytes.items ≡ line → bytes_in after ≡ bytes_in before ++ line ∷ []
with-line before after bytes line more same =
    ap bytes_in more ∙ map-append (λ (l : Vec ℕ Global). l.items) before (bytes ∷ [])
    ∙ ap (λ b. bytes_in before ++ b ∷ []) same

-- a head has the row, and the line that has it
pub returns : goal.returns
returns c = elim c.match-self.branch [
  | in-Head+in_ok-push+in_ok-push_str w ↦ record {
    shorter = w.in-Head.head;
    longer = record w.in-Head.head { parsed = record w.in-Head.head.parsed { message = w.push_str.new.self } };
    was = w.in-Head.is;
    is = ap (λ line. line.role) w.self-is;
    message = w.in_ok-push_str.ensures.bytes
        ∙ ap (λ text. text ++ c.args.row.now)
        (w.in_ok-push.ensures.bytes
        ∙ ap (λ fed. string_bytes w.in-Head.head.parsed.message ++ fed) (w.in_ok-push.ensures.ascii (lit< tt)))
        ∙ append_assoc (string_bytes w.in-Head.head.parsed.message) (10 ∷ []) c.args.row.now;
    others = refl;
    lines = with-line c.args.self.now.lines.items c.push-2.new.self.items c.in_ok-bytes_of_line.field-0 c.args.line.now
        (c.in_ok-push-2.ensures.items ∙ ap (λ line. line.lines.items ++ c.in_ok-bytes_of_line.field-0 ∷ []) w.self-is)
        c.in_ok-bytes_of_line.ensures;
  }
  | in_default w ↦
      absurd (true≢false (sym c.requires ∙ no-head c.args.self.now.role (λ head e. w.in_default.not-Head head e)))
]
