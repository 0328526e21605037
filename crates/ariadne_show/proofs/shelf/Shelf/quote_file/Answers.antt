use Rattle.std.proofs.Common.{refl, string_bytes}
use Rattle.std.proofs.lemmas.Map.Text.{hash_map_updates_text}
use Rattle.std.specs.Prelude.{Some}
use Rattle.ariadne_show.proofs.Reading.{not_held, quoted_more}
use Rattle.ariadne_show.proofs.shelf.Shelf.quote_file.Goals as goal

-- what is quoted is put beside the others
pub returns-in_ok-insert : goal.returns-in_ok-insert
returns-in_ok-insert c =
    quoted_more c.args.path.now (string_bytes c.in_ok-key.key) c.args.quoted.now c.in-Some.held c.args.self.now _ c.in_ok-key.ensures.ok
    (hash_map_updates_text (string_bytes c.in_ok-key.key) c.args.self.now.quoted c.insert.new.self (Some c.in-Some.held)
    c.in_ok-insert.ensures.updates)
    (λ q. refl) (rw c.in-Some.is at c.in_ok-held.ensures)
    (not_held c.args.path.now c.args.self.now c.get.result c.get.ensures c.if-is_some.ensures) c.requires.sources c.requires.quoted
