use Rattle.std.proofs.Common.{◌∙◌, ◌++◌, ap}
use Rattle.ariadne_show.proofs.asides.location_text.Goals as goal

-- what is said stands at the end
pub returns : goal.returns
returns c = record {
  text = c.in_ok-push_str.ensures.bytes ∙ ap (λ name. name ++ c.args.said.now) c.in_ok-text.ensures;
  behind = (_, c.in_ok-push_str.ensures.bytes);
}
