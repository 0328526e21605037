-- A run has one mark more, which covers what it covers.
use Rattle.std.proofs.Common.{◌∙◌, ◌+◌, ◌++◌, [], ◌∷◌, append_assoc, ap, arith, drop, map, subst, sym, All}
use Rattle.std.proofs.lemmas.List.{at_drop_more, map-append}
use Rattle.std.proofs.lemmas.List.Elements.{All-append, All-cons}
use Rattle.ariadne_snippets.specs.Snippets.{covered, extent_of, Covers}
use Rattle.ariadne_snippets.proofs.quoted.Quoted.marks_of.Goals as goal

pub loop-place-preserved : goal.loop-place-preserved
loop-place-preserved c =
    let runs = c.args.runs.now in
    let i = c.loop-place.place in
    let covers = covered c.args.self.now in
    let marks = c.loop-place.marks.items in
    let mark = c.mark_of.result in (
      ap (λ all. map extent_of all ++ map covers (drop (i + 1) runs)) c.in_ok-push.ensures.items
          ∙ ap (λ all. all ++ map covers (drop (i + 1) runs)) (map-append extent_of marks (mark ∷ []))
          ∙ append_assoc (map extent_of marks) (extent_of mark ∷ []) (map covers (drop (i + 1) runs))
          ∙ ap (λ extent. map extent_of marks ++ extent ∷ map covers (drop (i + 1) runs)) c.mark_of.ensures.covers
          ∙ sym (at_drop_more (λ l. map extent_of marks ++ map covers l) runs i _ c.loop-place-test.true)
          ∙ c.loop-place.invariant.0,
      subst (All (Covers c.args.self.now)) (sym c.in_ok-push.ensures.items)
          (All-append (Covers c.args.self.now) marks (mark ∷ []) c.loop-place.invariant.1
          (All-cons (Covers c.args.self.now) mark [] c.mark_of.ensures.cover (λ k d none. absurd (omega (arith, none))))),
    )
