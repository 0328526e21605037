use Rattle.std.proofs.Common.{refl, string_bytes}
use Rattle.std.specs.Prelude.{Some}
use Rattle.std.proofs.lemmas.Map.Text.{hash_map_updates_text}
use Rattle.ariadne_show.proofs.Reading.{read_more, same_tried}
use Rattle.ariadne_show.proofs.shelf.Shelf.read.Goals as goal

-- a file that was tried stays
pub returns-then-contains_key : goal.returns-then-contains_key
returns-then-contains_key g c = same_tried c.args.path.now c.args.self.now c.if-contains_key.ensures c.requires

-- another is put beside the others
pub returns : goal.returns
returns g c =
    read_more c.args.path.now (string_bytes c.in_ok-key.key) c.in_ok-held.held c.args.self.now _ c.in_ok-key.ensures.ok
    (hash_map_updates_text (string_bytes c.in_ok-key.key) c.args.self.now.files c.insert.new.self (Some c.in_ok-held.held)
    c.in_ok-insert.ensures.updates)
    (λ q. refl) c.if-contains_key.ensures c.in_ok-held.ensures c.requires
