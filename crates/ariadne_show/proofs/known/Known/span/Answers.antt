use Rattle.std.proofs.Common.{rules, ◌≡◌, ◌++◌, ◌∷◌, []}
use Rattle.ariadne_parse.specs.ArrowsParsed.{arrow_parsed}
use Rattle.ariadne_show.proofs.Waiting.{placed_at_if}
use Rattle.ariadne_show.proofs.known.Known.span.Goals as goal

-- it is the last line that waited
pub returns-in-Some : goal.returns-in-Some
returns-in-Some c =
    let waited : c.args.self.now.front.items ≡ c.pop.new.self.items ++ c.in-Some.waiting ∷ [] = search rules in
    placed_at_if c.placed_head.result (arrow_parsed c.args.arrow) c.args.self.now c.pop.new.self c.in-Some.waiting waited
    c.placed_head.ensures
