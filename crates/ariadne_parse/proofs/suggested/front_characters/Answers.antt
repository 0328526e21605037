use Rattle.std.proofs.Common.{◌≡◌, Some}
use Rattle.ariadne_parse.specs.TextPieces.{in_front_of_text}
use Rattle.ariadne_parse.specs.Suggested.{front_chars}
use Rattle.ariadne_parse.proofs.Characters.{in_front_is}
use Rattle.ariadne_parse.proofs.suggested.front_characters.Goals as goal

-- what stands in front of the rest
pub returns-in-Some : goal.returns-in-Some
returns-in-Some c =
    let front : in_front_of_text c.behind_characters.result.now c.args.text.now ≡ Some (front_chars c.args.count c.args.text.now) =
    in_front_is c.args.count c.args.text.now c.behind_characters.result.now c.utf8.text c.behind_characters.ensures in
    cc c.in-Some.ensures

-- the rest ends the text
pub returns-in-None : goal.returns-in-None
returns-in-None c =
    let front : in_front_of_text c.behind_characters.result.now c.args.text.now ≡ Some (front_chars c.args.count c.args.text.now) =
    in_front_is c.args.count c.args.text.now c.behind_characters.result.now c.utf8.text c.behind_characters.ensures in
    absurd (cc c.in-None.ensures)
