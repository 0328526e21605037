-- What is told of a value that cargo may have handed on.
use Rattle.std.proofs.Common.{◌≡◌, ◌∙◌, ap, refl, sym, subst, Bool, true, false, ◌&&◌, ◌||◌, cond, Vec}
use Rattle.std.specs.Prelude.{Option, Some, None, IsSomeAnd, IfSome, is_some, codes}
use Rattle.std.specs.declared.alloc.Global.{Global}
use Rattle.std.proofs.lemmas.Bool.{false≢true}
use Rattle.std.proofs.lemmas.Option.{none-some}
use Rattle.serde_json.specs.Data.{Data}
use Rattle.ariadne_parse.specs.Sent.{WasSent}
use Rattle.ariadne_parse.specs.Members.{text_at}
use Rattle.ariadne_parse.specs.ParsedDiagnostics.{drops_value, handed_in, is_report, rustc_in, tells_gcc, tells_value, AreParsed}
use Rattle.ariadne_parse.specs.ParsedDiagnostics.{IsHeldIfAny, IsParsedOfValue, parsed_before, parsed_now, parsed_nothing, parsed_others}
use Rattle.ariadne_parse.specs.declared.diagnostic.Diagnostic.{Diagnostic}
use Rattle.ariadne_parse.specs.declared.sent.Sent.{Sent}
use Rattle.ariadne_parse.specs.declared.telling.Answer.TheVariants.{Nothing, Dropped, Diagnostics}
use Rattle.ariadne_parse.specs.declared.telling.Format.{Format}
use Rattle.ariadne_parse.specs.declared.telling.Format.TheVariants.{Auto, Rustc, Gcc, Lines, Report}

-- a value that hands a message on tells it
rustc_some : (b : Bool) (d m : Data) → cond b (rustc_in d) None ≡ Some m → is_some (rustc_in d) ≡ true
rustc_some true d m is = ap is_some is
rustc_some false d m is = absurd (none-some m is)

one_is : (a b c : Bool) → a ≡ true → (a || b || c) ≡ true
one_is a b c is = ap (λ x. x || b || c) is

handed_tells : (format : Format) (d m : Data) → handed_in format d ≡ Some m → tells_value format d ≡ true
handed_tells Auto d m is =
    one_is (is_some (rustc_in d)) (tells_gcc d) (is_report d) (rustc_some (is_some (text_at (codes "reason") d)) d m is)
handed_tells Rustc d m is = rustc_some (is_some (text_at (codes "reason") d)) d m is
handed_tells Gcc d m is = absurd (none-some m is)
handed_tells Lines d m is = absurd (none-some m is)
handed_tells Report d m is = absurd (none-some m is)

module _ (format : Format) (d : Data) (first last : Sent) where
  -- so one that tells nothing hands none on
  same_sent : (o : Option Data) → handed_in format d ≡ o → tells_value format d ≡ false → IsHeldIfAny o first last → last ≡ first
  same_sent None is none held = held
  same_sent (Some m) is none held = absurd (false≢true (sym none ∙ handed_tells format d m is))

  again_by : (o : Option Data) → handed_in format d ≡ o → IsSomeAnd o (WasSent first) → last ≡ first
      → IsParsedOfValue format d first last Dropped
  again_by None is was same = absurd was
  again_by (Some m) is was same = parsed_before m is was same

  -- a message that was handed on before
  pub again : IsSomeAnd (handed_in format d) (WasSent first) → last ≡ first → IsParsedOfValue format d first last Dropped
  again was same = again_by (handed_in format d) refl was same

  -- diagnostics
  pub now : (all : Option (Vec Diagnostic Global)) (some : Vec Diagnostic Global) → all ≡ Some some
      → is_some all ≡ tells_value format d → IfSome all (λ list. AreParsed d list.items) → IsHeldIfAny (handed_in format d) first last
      → IsParsedOfValue format d first last (Diagnostics some)
  now all some is parsed filled held =
      parsed_now some (sym parsed ∙ ap is_some is)
      (subst (λ (o : Option (Vec Diagnostic Global)). IfSome o (λ list. AreParsed d list.items)) is filled) held

  -- none
  pub others : (all : Option (Vec Diagnostic Global)) → all ≡ None → is_some all ≡ tells_value format d
      → IsHeldIfAny (handed_in format d) first last → drops_value format d ≡ true → IsParsedOfValue format d first last Dropped
  others all is parsed held drops =
      let none : tells_value format d ≡ false = sym parsed ∙ ap is_some is in
      parsed_others none drops (same_sent (handed_in format d) refl none held)

  pub nothing : (all : Option (Vec Diagnostic Global)) → all ≡ None → is_some all ≡ tells_value format d
      → IsHeldIfAny (handed_in format d) first last → drops_value format d ≡ false → IsParsedOfValue format d first last Nothing
  nothing all is parsed held kept =
      let none : tells_value format d ≡ false = sym parsed ∙ ap is_some is in
      parsed_nothing none kept (same_sent (handed_in format d) refl none held)

-- what cargo writes for other programs
pub both : (a b x y : Bool) → x ≡ a → y ≡ b → x ≡ true → y ≡ true → (a && b) ≡ true
both a b x y e f p q = ap (λ t. t && b) (sym e ∙ p) ∙ sym f ∙ q

pub not_second : (a b y : Bool) → y ≡ b → y ≡ false → (a && b) ≡ false
not_second true b y f q = sym f ∙ q
not_second false b y f q = refl

pub not_first : (a b x : Bool) → x ≡ a → x ≡ false → (a && b) ≡ false
not_first a b x e p = ap (λ t. t && b) (sym e ∙ p)
