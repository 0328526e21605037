-- What a row tells is told of the snippet that took it: telling it changes no snippet.
use Rattle.std.proofs.Common.{rules, option_map, subst, sym}
use Rattle.ariadne_snippets.specs.Snippets.{QuotesNext, TellsOf}
use Rattle.ariadne_snippets.specs.declared.snippet.Snippet.{Snippet}
use Rattle.ariadne_blocks.proofs.block.Block.take_text.Goals as goal

pub returns : goal.returns
returns c = record {
  row = λ _. record {
    taken = c.in_ok-taken.taken;
    of_snippet = search rules;
    gained = record {
      source = option_map (λ s. s.now) c.source-source.result;
      of_file = search rules;
      quotes = subst (λ (it : Snippet). QuotesNext c.args.text.now (option_map (λ s. s.now) c.source-source.result)
          c.args.self.now.rows.snippet.quoted it.quoted) (sym c.in_ok-tell.ensures.snippet) c.in_ok-taken.ensures.quotes;
      tells = subst (λ (it : Snippet). TellsOf it.quoted c.args.text.now c.in_ok-taken.taken)
          (sym c.in_ok-tell.ensures.snippet) c.in_ok-taken.ensures.tells;
      view = search rules;
    };
  };
  none = search rules;
  ends = search rules;
  over = search rules;
}
