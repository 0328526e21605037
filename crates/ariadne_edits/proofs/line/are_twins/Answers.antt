use Rattle.std.proofs.Common.{◌≡◌, ◌∙◌, sym, rules, string_bytes}
use Rattle.std.specs.Str.{chars}
use Rattle.std.proofs.lemmas.Str.{encodes_same}
use Rattle.ariadne_edits.specs.SuggestionRows.{seen_of}
use Rattle.ariadne_edits.proofs.line.are_twins.Goals as goal

-- the same bytes are the same characters
pub returns : goal.returns
returns c = λ t.
    let same : string_bytes c.in_ok-a.a ≡ string_bytes c.in_ok-b.b = search rules in
    encodes_same (seen_of (chars c.args.line.now)) (seen_of (chars c.args.other.now)) (sym c.in_ok-a.ensures ∙ same ∙ c.in_ok-b.ensures)
