-- The first event is there; the events that follow on its line are counted one after another.
use Rattle.std.proofs.Common.{◌≡◌, ◌<◌, ap, sym, subst, ◌∙◌, arith, inl, inr, length, rules, Some}
use Rattle.std.specs.Prelude.{slice_get}
use Rattle.std.proofs.lemmas.Bool.{cases_lt}
use Rattle.std.proofs.lemmas.Option.{get_or_from_slice_get, slice_get_within}
use Rattle.ariadne_layout.specs.declared.snippet_labels.Event.{Event}
use Rattle.ariadne_layout.specs.SnippetLabels.{IsLineEnd}
use Rattle.ariadne_layout.proofs.Events.{whole-line}
use Rattle.ariadne_layout.proofs.snippet_labels.SnippetLabels.line_end.Goals as goal
use Rattle.ariadne_layout.proofs.snippet_labels.SnippetLabels.line_end.Goals.{After-events-events}

-- the first event is there
first-there : (c : After-events-events) → c.args.from < length c.events-events.result.now
first-there c = subst (λ es. c.args.from < length es) (sym c.events-events.ensures) c.requires.within

pub offset_bounds-events-from : goal.offset_bounds-events-from
offset_bounds-events-from c = let h = first-there c in search rules

pub bounds-events-from : goal.bounds-events-from
bounds-events-from c = first-there c

pub overflow_add-end : goal.overflow_add-end
overflow_add-end c = let h = first-there c in search rules

pub loop-end-init : goal.loop-end-init
loop-end-init c =
    let h = first-there c in
    record {
      behind = omega arith;
      within = omega arith;
      on_line = λ k e low less there.
          let same : k ≡ c.args.from = omega arith in
          let here : slice_get c.events-events.result.now c.args.from ≡ Some e = ap (slice_get c.events-events.result.now) (sym same) ∙ there in
          ap (λ (x : Event). x.line) (sym (get_or_from_slice_get c.events-events.result.now c.args.from e _ here));
    }

pub loop-end-preserved : goal.loop-end-preserved
loop-end-preserved c =
    let inv = c.loop-end.invariant in
    let behind = inv.behind in
    let more = c.loop-end-test.true in
    record {
      behind = omega arith;
      within = omega arith;
      on_line = λ k e low less there. elim (cases_lt k c.loop-end.end) [
        | inl early ↦ inv.on_line k e low early there
        | inr last ↦
            let same : k ≡ c.loop-end.end = omega arith in
            let here : slice_get c.events-events.result.now c.loop-end.end ≡ Some e = ap (slice_get c.events-events.result.now) (sym same) ∙ there in
            ap (λ (x : Event). x.line) (sym (get_or_from_slice_get c.events-events.result.now c.loop-end.end e _ here)) ∙ c.if-events-end.true
      ];
    }

pub returns-else-events-end : goal.returns-else-events-end
returns-else-events-end c =
    let inv = c.loop-end.invariant in
    subst (λ es. IsLineEnd es c.args.from c.loop-end.end) c.events-events.ensures
    (whole-line c.events-events.result.now c.args.from c.loop-end.end _ inv.behind inv.within inv.on_line
    (λ x there same. c.if-events-end.false
    (ap (λ (x : Event). x.line) (get_or_from_slice_get c.events-events.result.now c.loop-end.end x _ there) ∙ same)))

pub returns-after-loop-end : goal.returns-after-loop-end
returns-after-loop-end c =
    let inv = c.loop-end.invariant in
    subst (λ es. IsLineEnd es c.args.from c.loop-end.end) c.events-events.ensures
    (whole-line c.events-events.result.now c.args.from c.loop-end.end _ inv.behind inv.within inv.on_line
    (λ x there same. let less = slice_get_within c.events-events.result.now c.loop-end.end x there in
    let past = c.loop-end-test.false in absurd (omega arith)))
