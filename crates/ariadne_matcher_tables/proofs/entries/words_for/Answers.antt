use Rattle.std.proofs.Common.{◌∙◌, ap, map}
use Rattle.toml.specs.View.{view}
use Rattle.ariadne_matcher_tables.specs.MatcherTables.{word_told}
use Rattle.ariadne_matcher_tables.proofs.Words.{words_given}
use Rattle.ariadne_matcher_tables.proofs.entries.words_for.Goals as goal

-- those that are given
pub returns-clause-words : goal.returns-clause-words
returns-clause-words c =
    ap (map word_told) c.in_ok-words_of.ensures
    ∙ words_given c.args.severity c.args.member.now (view c.args.given.now) c.in_ok-texts.field-0.items c.in_ok-texts.ensures.texts
