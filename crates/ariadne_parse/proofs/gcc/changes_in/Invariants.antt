use Rattle.std.specs.Prelude.{◌≡◌, ◌++◌, drop, map, string_bytes}
use Rattle.serde_json.specs.View.{items_view}
use Rattle.ariadne_parse.specs.GccFixes.{changes_of}
use Rattle.ariadne_parse.proofs.gcc.changes_in.Given as goal

-- the changes so far and those that are still to come are all
abbrev pub invariant-loop-fix : goal.invariant-loop-fix
invariant-loop-fix l =
    map string_bytes l.changes.items ++ changes_of (items_view (drop l.fix-index l.all)) ≡ changes_of (items_view l.fn.all)
