use Rattle.ariadne_parse.proofs.Feeds.{feeds_are}
use Rattle.ariadne_parse.proofs.suggested.before_feeds.Goals as goal

-- as many line feeds as there are come off
pub returns : goal.returns
returns c = feeds_are c.args.text.now c.trim_end_matches.result.now c.trim_end_matches.ensures.matches
