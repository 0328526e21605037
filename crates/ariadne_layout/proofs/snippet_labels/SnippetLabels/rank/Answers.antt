-- The margin label is the nearest of the labels of the events; the others are put in order.
use Rattle.std.proofs.Common.{◌≡◌, ◌&&◌, ap, not, filter, ◌∙◌, rules}
use Rattle.std.proofs.lemmas.Fn.{filter_same}
use Rattle.ariadne_picture.specs.declared.label_info.LineLabel.{LineLabel}
use Rattle.ariadne_picture.specs.Lists.{in_order}
use Rattle.ariadne_picture.specs.Ranks.{is_before, is_margin, is_start}
use Rattle.ariadne_layout.specs.SnippetLabels.{margin_of, ranked}
use Rattle.ariadne_layout.proofs.Listing.{put-back}
use Rattle.ariadne_layout.proofs.snippet_labels.SnippetLabels.rank.Goals as goal

pub returns-clause-margin : goal.returns-clause-margin
returns-clause-margin c = c.nearest_margin-margin.ensures ∙ ap margin_of (c.deref.ensures.value ∙ c.in_ok-list_labels.ensures)

pub returns-clause-labels : goal.returns-clause-labels
unfolding ranked
returns-clause-labels c =
    let margin = c.nearest_margin-margin.result in
    let listed = c.in_ok-list_labels.ensures in
    let found = c.nearest_margin-margin.ensures ∙ ap margin_of (c.deref.ensures.value ∙ listed) in
    let test : LineLabel → _ = λ x. not (is_start x.side && is_margin margin x) in
    let kept : c.retain.new.self.items ≡ filter test c.list_labels.new.list.items =
    filter_same _ test _ (λ x b f' k. search rules) _ _ c.retain.ensures.filtered in
    put-back is_before c.retain.new.self.items c.deref_mut.result.now c.put_in_order.new.items c.retain.new.self.len c.retain.new.self.ok.0
    c.deref_mut.ensures.value c.in_ok-put_in_order.ensures
    ∙ ap (in_order is_before) (kept ∙ (λ i. filter (λ x. not (is_start x.side && is_margin (found i) x)) (listed i)))
