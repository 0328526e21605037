use Rattle.std.proofs.Common.{◌≡◌, take, true}
use Rattle.regex.specs.Names.{names_of}
use Rattle.std.specs.List.{list_all}
use Rattle.ariadne_matcher_tables.specs.Patterns.{is_known}
use Rattle.ariadne_matcher_tables.proofs.patterns.check_groups.Given as goal

-- the names so far are known
abbrev pub invariant-loop-name : goal.invariant-loop-name
invariant-loop-name l = list_all is_known (names_of (take l.name-index l.names)) ≡ true
