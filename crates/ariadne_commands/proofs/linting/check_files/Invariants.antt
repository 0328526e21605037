-- the files so far, and then those that the rest of the words names, are those that all words name;
-- the paths that were seen are those of the files
use Rattle.std.proofs.Common.{◌≡◌, map, drop, string_bytes}
use Rattle.std.specs.Prelude.{◌++◌, [], ℕ, List}
use Rattle.std.specs.Borrow.{Bor}
use Rattle.std.specs.HashSet.{contains}
use Rattle.std.specs.List.{list_any}
use Rattle.ariadne.specs.Files.{by_text}
use Rattle.ariadne_commands.specs.Linted.{named_after, same_path}
use Rattle.ariadne_commands.specs.Linting.{AreOutcomes}
use Rattle.ariadne_commands.proofs.linting.check_files.Given as goal

abbrev pub invariant-loop-word : goal.invariant-loop-word
invariant-loop-word g l =
    let paths = map (λ c. c.path.now) l.checked.items in
    record {
      paths : paths ++ named_after paths (map string_bytes (drop l.word-index l.words)) ≡ named_after [] (map string_bytes l.words);
      seen : (q : Bor (List ℕ)) → contains same_path l.seen q ≡ list_any (λ c. same_path q c.path) l.checked.items;
      outcomes : AreOutcomes (by_text l.cache) l.checked.items;
    }
