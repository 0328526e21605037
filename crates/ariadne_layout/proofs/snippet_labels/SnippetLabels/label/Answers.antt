-- The label is looked up among those of the group, or among the gutter labels.
use Rattle.std.proofs.Common.{◌≡◌, ap, ◌∙◌, rules, Some, None}
use Rattle.std.specs.Prelude.{MatchOption, option_map, slice_get}
use Rattle.ariadne_picture.specs.declared.label_info.LabelInfo.{LabelInfo}
use Rattle.ariadne_picture.specs.declared.label_info.LineLabel.{LineLabel}
use Rattle.ariadne_picture.specs.declared.label_info.Side.TheVariants.{Inline, Starts, Ends}
use Rattle.ariadne_layout.specs.SnippetLabels.{LabelsFields, event_label}
use Rattle.ariadne_layout.proofs.Ranking.{made-of}
use Rattle.ariadne_layout.proofs.snippet_labels.SnippetLabels.label.Goals as goal

pub returns-in-Inline : goal.returns-in-Inline
unfolding event_label
returns-in-Inline c =
    let i = c.args.event.now.index in
    let make : LabelInfo → LineLabel = λ a. record { info = a; side = Inline; gutter_column = 0; place = a.attach } in
    let made : MatchOption c.get.result (c.map.result ≡ None) (λ x. c.map.result ≡ Some (make x.now)) = search rules in
    rw c.in-Inline.is
    (made-of make _ i c.get.result c.map.result c.get.ensures.lookup.0 c.get.ensures.lookup.1 made
    ∙ ap (λ ls. option_map make (slice_get ls i)) (ap (λ (v : LabelsFields). v.labels) c.self.view_is))

pub returns-in-Starts : goal.returns-in-Starts
unfolding event_label
returns-in-Starts c =
    let i = c.args.event.now.index in
    let make : LabelInfo → LineLabel = λ a. record { info = a; side = Starts; gutter_column = i; place = a.start_place } in
    let made : MatchOption c.get-in-Starts.result (c.map-in-Starts.result ≡ None) (λ x. c.map-in-Starts.result ≡ Some (make x.now)) = search rules in
    rw c.in-Starts.is
    (made-of make _ i c.get-in-Starts.result c.map-in-Starts.result c.get-in-Starts.ensures.lookup.0 c.get-in-Starts.ensures.lookup.1 made
    ∙ ap (λ ls. option_map make (slice_get ls i)) c.gutter_labels.ensures)

pub returns-in-Ends : goal.returns-in-Ends
unfolding event_label
returns-in-Ends c =
    let i = c.args.event.now.index in
    let make : LabelInfo → LineLabel = λ a. record { info = a; side = Ends; gutter_column = i; place = a.end_place } in
    let made : MatchOption c.get-in-Ends.result (c.map-in-Ends.result ≡ None) (λ x. c.map-in-Ends.result ≡ Some (make x.now)) = search rules in
    rw c.in-Ends.is
    (made-of make _ i c.get-in-Ends.result c.map-in-Ends.result c.get-in-Ends.ensures.lookup.0 c.get-in-Ends.ensures.lookup.1 made
    ∙ ap (λ ls. option_map make (slice_get ls i)) c.gutter_labels-in-Ends.ensures)
