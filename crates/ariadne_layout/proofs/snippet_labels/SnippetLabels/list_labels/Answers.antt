-- The events are there; each turn appends the label of one of them.
use Rattle.std.proofs.Common.{◌≤◌, ap, sym, subst, ◌∙◌, length, rules, Some, None}
use Rattle.std.specs.Prelude.{slice_range}
use Rattle.std.proofs.lemmas.List.{append-nil, take_all}
use Rattle.ariadne_layout.specs.SnippetLabels.{labels_of}
use Rattle.ariadne_layout.proofs.Ranking.{labels-more, labels-none}
use Rattle.ariadne_layout.proofs.snippet_labels.SnippetLabels.list_labels.Goals as goal
use Rattle.ariadne_layout.proofs.snippet_labels.SnippetLabels.list_labels.Goals.{After-events, in-Some+in_ok-push, in_default}

-- the events are there
all-there : (c : After-events) → c.args.to ≤ length c.events.result.now
all-there c = subst (λ es. c.args.to ≤ length es) (sym c.events.ensures) c.requires.within

pub offset_bounds-events-from : goal.offset_bounds-events-from
offset_bounds-events-from c = let h = all-there c in search rules

pub slice_bounds-event-items-end : goal.slice_bounds-event-items-end
slice_bounds-event-items-end c = let h = all-there (goal.at.slice_bounds-event-items-end c).After-events in search rules

pub loop-event-init : goal.loop-event-init
loop-event-init c = c.reserve.ensures.items ∙ c.clear.ensures.items ∙ sym (labels-none c.args.self.now.labels)

pub loop-event-preserved : goal.loop-event-preserved
loop-event-preserved c =
    let own = c.args.self.now.labels in
    let xs = slice_range c.events.result.now c.args.from c.args.to in
    let so_far = c.loop-event.invariant in
    let is = c.label.ensures in
    elim c.match-label.branch [
      | in-Some+in_ok-push w ↦
          labels-more own xs c.loop-event.event-index _ c.loop-event.list.items c.match-label.list.items (Some w.in-Some.label) c.loop-event-test.true
          so_far (sym w.in-Some.is ∙ is) (ap (λ v. v.items) w.list-is ∙ w.in_ok-push.ensures.items)
      | in_default w ↦
          labels-more own xs c.loop-event.event-index _ c.loop-event.list.items c.match-label.list.items None c.loop-event-test.true
          so_far (sym w.in_default.is ∙ is) (ap (λ v. v.items) w.list-is ∙ sym (append-nil c.loop-event.list.items))
    ]

pub returns : goal.returns
returns c =
    let own = c.args.self.now.labels in
    let xs = slice_range c.events.result.now c.args.from c.args.to in
    c.loop-event.invariant ∙ ap (labels_of own) (take_all c.loop-event.event-index xs c.loop-event-test.false)
    ∙ ap (λ es. labels_of own (slice_range es c.args.from c.args.to)) c.events.ensures
