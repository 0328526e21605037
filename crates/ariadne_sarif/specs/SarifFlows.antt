-- The steps that lead to a result of SARIF: those of the first thread of its first code flow. A step that has a span is a
-- label, which says the number of the step, from 1, and its message.
use Rattle.std.specs.Prelude.{ℕ, ◌+◌, false, List, [], ◌++◌, codes, decimal, Option, option_and_then, option_map}
use Rattle.std.specs.List.{cons_option}
use Rattle.serde_json.specs.Data.{Data, Items, no_items, item}
use Rattle.serde_json.specs.Find.{at, get}
use Rattle.ariadne_parse.specs.Members.{items_in, list_at}
use Rattle.ariadne_parse.specs.Spans.{Seen}
use Rattle.ariadne_sarif.specs.SarifSpans.{span_at}

-- the first item of a list in a member
abbrev pub first_at : List ℕ → Data → Option Data
first_at name d = option_and_then (at 0) (get name d)

abbrev pub thread_of : Data → Option Data
thread_of d = option_and_then (first_at (codes "threadFlows")) (first_at (codes "codeFlows") d)

abbrev pub steps_of : Data → Items
steps_of d = items_in (option_and_then (list_at (codes "locations")) (thread_of d))

-- a span says the number of its step in front of its message
abbrev pub step_text : ℕ → List ℕ → List ℕ
step_text number message = codes "(" ++ decimal number ++ codes ") " ++ message

abbrev pub numbered : ℕ → Seen → Seen
numbered number span = record span { text = step_text number span.text }

abbrev pub step_span : Data → ℕ → Data → Option Seen
step_span run number d =
    option_map (numbered number) (option_and_then (span_at run false) (get (codes "location") d))

-- the spans of steps, of which the first has this number
abbrev pub step_spans : Data → ℕ → Items → List Seen
step_spans run number no_items = []
step_spans run number (item d items) =
    cons_option (step_span run number d) (step_spans run (number + 1) items)
