use Rattle.std.proofs.Common.{◌∙◌, ap, sym}
use Rattle.ariadne_snippets.specs.Quotes.{goes_on_white}
use Rattle.ariadne_snippets.proofs.units.byte_begins.Goals as goal
use Rattle.ariadne_snippets.proofs.units.byte_begins.Goals.{then-goes_on_white, else-goes_on_white}

-- a text has the bytes of the line where it begins with them, and has nothing but white space behind
pub returns : goal.returns
returns c =
    elim c.if-goes_on_white.branch [
      | then-goes_on_white w ↦
          rw w.result-is (record {
            begin = (c.in_ok-chars.ensures).begins;
            in_quote = ap (λ xs. goes_on_white c.args.quote.now xs)
                (sym (c.as_slice.ensures.value ∙ (c.in_ok-chars.ensures).chars))
                ∙ sym c.goes_on_white.ensures ∙ w.if-goes_on_white.true;
          })
      | else-goes_on_white w ↦ rw w.result-is tt
    ]
