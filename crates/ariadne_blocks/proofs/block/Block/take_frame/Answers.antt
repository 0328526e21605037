use Rattle.std.proofs.Common.{ap, refl, rules, option_map}
use Rattle.ariadne_snippets.specs.Snippets.{kept}
use Rattle.ariadne_snippets.specs.declared.snippet.Snippet.{Snippet}
use Rattle.ariadne_snippets.specs.declared.taken.Taken.TheVariants.{Nothing}
use Rattle.ariadne_blocks.proofs.block.Block.take_frame.Goals as goal

-- it was taken in, and tells nothing
pub returns-clause-row : goal.returns-clause-row
returns-clause-row c = λ _. record {
  taken = Nothing;
  of_snippet = refl;
  gained = record {
    source = option_map (λ s. s.now) c.source.result;
    of_file = search rules;
    quotes = kept (ap (λ (it : Snippet). it.quoted) c.in_ok-tell.ensures.snippet);
    tells = tt;
    view = search rules;
  };
}
