use Rattle.std.specs.Prelude.{◌≡◌, ◌++◌, drop, map}
use Rattle.serde_json.specs.View.{items_view}
use Rattle.ariadne_parse.specs.Read.{as_quoted}
use Rattle.ariadne_parse.specs.Rustc.{quotes_from}
use Rattle.ariadne_parse.proofs.labels.push_lines.Given as goal

-- the lines so far and those that are still to come are all
abbrev pub invariant-loop-line : goal.invariant-loop-line
invariant-loop-line l =
    map as_quoted l.quoted.items ++ quotes_from l.fn.file l.number (items_view (drop l.line-index l.lines))
    ≡ map as_quoted l.initial.quoted.items ++ quotes_from l.fn.file l.fn.first (items_view l.fn.lines)
