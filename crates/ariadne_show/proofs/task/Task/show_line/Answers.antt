use Rattle.std.proofs.Common.{◌≡◌, ◌∙◌, Option, ap, refl, subst, sym}
use Rattle.std.specs.Prelude.{String, option_map, string_bytes, unwrap_or}
use Rattle.std.specs.declared.alloc.Global.{Global}
use Rattle.ariadne_parse.specs.Sgr.{bare_line}
use Rattle.ariadne_show.proofs.Answered.{line_if}
use Rattle.ariadne_show.proofs.task.Task.show_line.Goals as goal

-- without its colours
pub returns-in-Some-clause-shown : goal.returns-in-Some-clause-shown
returns-in-Some-clause-shown g c =
    line_if c.show_read.result c.args.self.now.options.now c.args.bytes.now _ _ _
    (record {
      bytes_read = refl;
      whole = c.as_str-in-Some.ensures.value ∙ c.in_ok-whole.ensures;
      text = c.as_str-in-Some-2.ensures.value
          ∙ subst (λ (o : Option (String Global)). unwrap_or (option_map string_bytes o) c.as_str.result.now
          ≡ bare_line c.as_str.result.now) c.in-Some.is c.in_ok-bare.ensures
          ∙ ap bare_line (c.as_str.ensures.value ∙ c.in_ok-whole.ensures);
    }) c.show_read.ensures.shown

-- it has none
pub returns-clause-shown : goal.returns-clause-shown
returns-clause-shown g c =
    line_if c.show_read-in-None.result c.args.self.now.options.now c.args.bytes.now _ _ _
    (record {
      bytes_read = refl;
      whole = c.as_str-in-None.ensures.value ∙ c.in_ok-whole.ensures;
      text = c.as_str-in-None-2.ensures.value ∙ sym c.as_str.ensures.value
          ∙ subst (λ (o : Option (String Global)). unwrap_or (option_map string_bytes o) c.as_str.result.now
          ≡ bare_line c.as_str.result.now) c.in-None.is c.in_ok-bare.ensures
          ∙ ap bare_line (c.as_str.ensures.value ∙ c.in_ok-whole.ensures);
    }) c.show_read-in-None.ensures.shown
