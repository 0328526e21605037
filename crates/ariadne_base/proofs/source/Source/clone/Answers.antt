use Rattle.std.proofs.lemmas.List.Elements.{same_from_all_zip}
use Rattle.ariadne_base.proofs.source.Source.clone.Goals as goal

-- the clones of the text and of the starts are equal to them
pub invariant_of-result : goal.invariant_of-result
invariant_of-result g c =
    let text = c.requires c.self.inside.text c.in_ok-text.text c.in_ok-text.ensures.cases in
    let starts = same_from_all_zip _ c.self.inside.starts.items c.in_ok-starts.starts.items c.in_ok-starts.ensures.cases.0 (λ x y e. e) in
    rw (starts, text) c.self.invariant

pub returns : goal.returns
returns g c =
    let text = c.requires c.self.inside.text c.in_ok-text.text c.in_ok-text.ensures.cases in
    rw text c.self.view_is
