use Rattle.std.proofs.Common.{◌≡◌, take}
use Rattle.std.specs.Prelude.{map, string_bytes}
use Rattle.ariadne_safe.specs.SafeBuilding.{made_of, sources_under}
use Rattle.ariadne_safe.specs.Visible.{visible_bytes}
use Rattle.ariadne_safe.specs.declared.text.TextKind.TheVariants.{Aside}
use Rattle.ariadne_show.specs.Asides.{with_helps}
use Rattle.ariadne_show.proofs.asides.with_texts.Given as goal

-- those that are passed are in the report
abbrev pub invariant-loop-text : goal.invariant-loop-text
invariant-loop-text l = record {
  report : made_of l.builder
      ≡ with_helps (map (λ text. visible_bytes Aside (string_bytes text)) (take l.text-index l.texts)) (made_of l.fn.builder);
  sources : sources_under l.builder ≡ sources_under l.fn.builder;
}
