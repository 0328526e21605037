use Rattle.std.proofs.Common.{◌∷◌, ◌++◌, []}
use Rattle.std.proofs.lemmas.List.Elements.{All-append, All-cons, All-nil, All-same}
use Rattle.ariadne_snippets.specs.Snippets.{inner_at, IsLabelIn}
use Rattle.ariadne_snippets.specs.declared.taken.Label.{Label}
use Rattle.ariadne_snippets.proofs.quoted.Quoted.push_piece.Goals as goal

-- a bar is no label
pub returns-then-eq : goal.returns-then-eq
returns-then-eq c = λ row text all. all

-- one more label of the row
pub returns-in_ok-push-2 : goal.returns-in_ok-push-2
returns-in_ok-push-2 c =
    λ row text all.
    let labels = c.args.labels.now.items in
    let label = c.in-Some.label in
    let P : Label → Type 0 = IsLabelIn c.args.self.now.runs.items (inner_at c.args.self.now) row in
    All-same P c.push-in-Some.new.self.items (labels ++ label ∷ []) c.in_ok-push-2.ensures.items
    (All-append P labels (label ∷ []) all (All-cons P label [] (c.in-Some.ensures row text) (All-nil P)))
