use Rattle.std.specs.Prelude.{◌≡◌, ◌+◌, ◌++◌, drop, map, string_bytes}
use Rattle.serde_json.specs.View.{items_view}
use Rattle.ariadne_parse.specs.Gcc.{event_notes, event_spans}
use Rattle.ariadne_parse.specs.Spans.{seen}
use Rattle.ariadne_parse.proofs.gcc.push_events.Given as goal

-- the events so far and those that are still to come are all
abbrev pub invariant-loop-event : goal.invariant-loop-event
invariant-loop-event l = record {
  counted : l.number ≡ l.event-index + 1;
  spans : map seen l.parsed.spans.items ++ event_spans l.number (items_view (drop l.event-index l.events))
      ≡ map seen l.initial.parsed.spans.items ++ event_spans 1 (items_view l.fn.events);
  notes : map string_bytes l.parsed.notes.items ++ event_notes l.number (items_view (drop l.event-index l.events))
      ≡ map string_bytes l.initial.parsed.notes.items ++ event_notes 1 (items_view l.fn.events);
  others : l.parsed ≡ record l.initial.parsed { spans = l.parsed.spans; notes = l.parsed.notes };
}
