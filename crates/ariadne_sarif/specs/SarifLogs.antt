-- What a log of SARIF 2.1.0 becomes: an object with `runs`, each with `results`. Those that passed, that don't apply, or
-- that are gone or suppressed, tell nothing.
use Rattle.std.specs.Prelude.{ℕ, Bool, true, false, not, ◌&&◌, ◌||◌, if◌then◌else◌, List, [], ◌∷◌, ◌++◌, codes}
use Rattle.std.specs.Prelude.{Option, Some, None, is_some, option_and_then, option_map, unwrap_or}
use Rattle.std.specs.Option.{option_or}
use Rattle.std.specs.Str.{bytes_eq}
use Rattle.serde_json.specs.Data.{Data, Items, no_items, item}
use Rattle.serde_json.specs.Find.{at, get}
use Rattle.ariadne_parse.specs.Members.{all_items, flat_items, has_none, has_words, items_in, list_at, number_at, text_at, words_at}
use Rattle.ariadne_parse.specs.Spans.{Seen}
use Rattle.ariadne_parse.specs.Proposed.{Edit}
use Rattle.ariadne_parse.specs.Read.{Read}
use Rattle.ariadne_parse.specs.TextPieces.{begins_with, contains}
use Rattle.ariadne_parse.specs.declared.diagnostic.Severity.{Severity}
use Rattle.ariadne_parse.specs.declared.diagnostic.Severity.TheVariants.{Error, Warning, Note}
use Rattle.ariadne_sarif.specs.DocumentParts.{bare, coded, edits_of, is_list_of, number_within, text_within, with_fix}
use Rattle.ariadne_sarif.specs.SarifFlows.{step_spans, steps_of}
use Rattle.ariadne_sarif.specs.SarifMessages.{message_in, message_text, said}
use Rattle.ariadne_sarif.specs.SarifSpans.{file_path, spans_at, replacement_edit, rows_at, unit_of}

-- ---- which values are one

-- a result has a message; a run may have no results
abbrev pub is_result : Data → Bool
is_result d = is_some (get (codes "message") d)

abbrev pub results_of : Data → Items
results_of run = items_in (list_at (codes "results") run)

abbrev pub is_run : Data → Bool
is_run run = is_some (get (codes "tool") run) && all_items is_result (results_of run)

-- a log names the version, or a schema of SARIF
abbrev pub has_version : Data → Bool
has_version d =
    begins_with (codes "2.1.") (words_at (codes "version") d) || contains (codes "sarif") (words_at (codes "$schema") d)

abbrev pub is_sarif : Data → Bool
is_sarif d = has_version d && is_list_of (codes "runs") is_run d

-- ---- rules

-- the component of a run's tool that a result's rule is of: the driver, or the extension that the result names
abbrev pub driver_of : Data → Option Data
driver_of run = option_and_then (get (codes "driver")) (get (codes "tool") run)

abbrev pub extension_of : Data → ℕ → Option Data
extension_of run n =
    option_and_then (at n) (option_and_then (get (codes "extensions")) (get (codes "tool") run))

abbrev pub extension_number : Data → Option ℕ
extension_number d =
    option_and_then (number_within (codes "toolComponent") (codes "index")) (get (codes "rule") d)

abbrev pub component_by : Data → Option ℕ → Option Data
component_by run None = driver_of run
component_by run (Some n) = extension_of run n

abbrev pub component_of : Data → Data → Option Data
component_of run d = component_by run (extension_number d)

-- its rules
abbrev pub rules_of : Data → Data → Items
rules_of run d = items_in (option_and_then (list_at (codes "rules")) (component_of run d))

-- the first with an identifier
abbrev pub rule_with : List ℕ → Items → Option Data
rule_with id no_items = None
rule_with id (item d items) = if has_words (codes "id") id d then Some d else rule_with id items

-- what a result says of its rule, by members of its own or of its `rule`
abbrev pub rule_number : Data → Option ℕ
rule_number d =
    option_or (number_at (codes "ruleIndex") d) (number_within (codes "rule") (codes "index") d)

abbrev pub named_rule : Data → Option (List ℕ)
named_rule d = option_or (text_at (codes "ruleId") d) (text_within (codes "rule") (codes "id") d)

-- its rule: that with its number, or with its identifier
abbrev pub numbered_rule : Data → Data → Option Data
numbered_rule run d =
    option_and_then (λ n. option_and_then (at n) (option_and_then (get (codes "rules")) (component_of run d))) (rule_number d)

abbrev pub rule_of : Data → Data → Option Data
rule_of run d =
    option_or (numbered_rule run d) (option_and_then (λ id. rule_with id (rules_of run d)) (named_rule d))

-- its code: the rule's identifier
abbrev pub code_of : Data → Data → Option (List ℕ)
code_of run d = option_or (named_rule d) (option_and_then (text_at (codes "id")) (rule_of run d))

-- ---- levels

abbrev pub severity_named : Option (List ℕ) → Severity
severity_named None = Warning
severity_named (Some name) =
    if bytes_eq name (codes "error") then Error
    else (if bytes_eq name (codes "note") || bytes_eq name (codes "none") then Note else Warning)

-- it tells of a failure, as one that names no kind does
abbrev pub is_failure : Data → Bool
is_failure d = unwrap_or (option_map (λ kind. bytes_eq kind (codes "fail")) (text_at (codes "kind") d)) true

-- its own, or that of its rule, or none where it tells of no failure
abbrev pub rule_level : Data → Data → Option (List ℕ)
rule_level run d =
    option_and_then (text_within (codes "defaultConfiguration") (codes "level")) (rule_of run d)

abbrev pub level_of : Data → Data → Option (List ℕ)
level_of run d =
    option_or (text_at (codes "level") d) (if is_failure d then rule_level run d else Some (codes "none"))

abbrev pub severity_of : Data → Data → Severity
severity_of run d = severity_named (level_of run d)

-- ---- messages

-- what its message says
abbrev pub text_of : Data → Data → List ℕ
text_of run d =
    unwrap_or (option_map (λ message. said message (message_text (rule_of run d) message)) (get (codes "message") d)) []

-- ---- which results are told

-- it is of an earlier run, and not there any more
abbrev pub is_gone : Data → Bool
is_gone d = has_words (codes "baselineState") (codes "absent") d

-- it passed, or doesn't apply
abbrev pub has_passed : Data → Bool
has_passed d = has_words (codes "kind") (codes "pass") d || has_words (codes "kind") (codes "notApplicable") d

-- one of its suppressions counts, if it isn't one to be decided or that was rejected
abbrev pub is_accepted : Data → Bool
is_accepted d =
    not (has_words (codes "status") (codes "underReview") d) && not (has_words (codes "status") (codes "rejected") d)

abbrev pub are_suppressing : Items → Bool
are_suppressing items = not (has_none items) && all_items is_accepted items

abbrev pub is_suppressed : Data → Bool
is_suppressed d = are_suppressing (items_in (list_at (codes "suppressions") d))

abbrev pub is_parsed : Data → Bool
is_parsed d = not (is_gone d) && not (has_passed d) && not (is_suppressed d)

-- ---- fixes

-- the changes of one artifact
abbrev pub why_of : Data → List ℕ
why_of fix = message_in (codes "description") fix

abbrev pub changed_path : Data → Data → List ℕ
changed_path run d = unwrap_or (option_map (file_path run) (get (codes "artifactLocation") d)) []

abbrev pub edits_in : Data → List Edit
edits_in d = edits_of replacement_edit (items_in (list_at (codes "replacements") d))

abbrev pub with_change : Data → List ℕ → Data → Read → Read
with_change run why d parsed =
    with_fix why (changed_path run d) (unit_of run)
    (edits_in d) parsed

abbrev pub with_changes : Data → List ℕ → Items → Read → Read
with_changes run why no_items parsed = parsed
with_changes run why (item d items) parsed = with_changes run why items (with_change run why d parsed)

-- a fix, and several
abbrev pub with_one : Data → Data → Read → Read
with_one run fix parsed =
    with_changes run (why_of fix) (items_in (list_at (codes "artifactChanges") fix)) parsed

abbrev pub with_fixes : Data → Items → Read → Read
with_fixes run no_items parsed = parsed
with_fixes run (item fix fixes) parsed = with_fixes run fixes (with_one run fix parsed)

-- ---- results

abbrev pub own_of : Data → Items
own_of d = items_in (list_at (codes "locations") d)

abbrev pub related_of : Data → Items
related_of d = items_in (list_at (codes "relatedLocations") d)

-- the spans of its locations
abbrev pub located_spans : Data → Data → List Seen
located_spans run d = spans_at run true (own_of d) ++ spans_at run false (related_of d)

-- and those of its steps
abbrev pub all_spans : Data → Data → List Seen
all_spans run d = located_spans run d ++ step_spans run 1 (steps_of d)

-- a row for each location without a span
abbrev pub all_rows : Data → Data → List (List ℕ)
all_rows run d = rows_at run (own_of d) ++ rows_at run (related_of d)

-- a result without them
abbrev pub unlocated : Data → Data → Read
unlocated run d = coded (code_of run d) (bare (severity_of run d) (text_of run d))

-- with them, in front of its fixes
abbrev pub unfixed : Data → Data → Read
unfixed run d = record (unlocated run d) { spans = all_spans run d; notes = all_rows run d }

abbrev pub result_read : Data → Data → Read
result_read run d = with_fixes run (items_in (list_at (codes "fixes") d)) (unfixed run d)

abbrev pub result_parsed : Data → Data → List Read
result_parsed run d = if is_parsed d then result_read run d ∷ [] else []

abbrev pub run_parsed : Data → List Read
run_parsed run = flat_items (result_parsed run) (results_of run)

abbrev pub sarif_parsed : Data → List Read
sarif_parsed d = flat_items run_parsed (items_in (list_at (codes "runs") d))
