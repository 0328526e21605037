use Rattle.std.proofs.Common.{◌∙◌, ap, map, sym, take, ◌∷◌}
use Rattle.std.specs.Prelude.{string_bytes}
use Rattle.std.proofs.lemmas.List.{take-map}
use Rattle.ariadne_search.proofs.folders.Folders.enter.Goals as goal

-- it stands in front of the others
pub returns : goal.returns
returns c =
    let others = c.args.self.now.entered.items in
    ap (map string_bytes) (c.truncate.ensures.items ∙ ap (take 64) c.in_ok-insert.ensures.items)
    ∙ ap (λ f. f ∷ map string_bytes (take 63 others)) c.in_ok-folder.ensures.ok
    ∙ ap (λ r. c.args.folder.now ∷ r) (sym (take-map string_bytes 63 others))
