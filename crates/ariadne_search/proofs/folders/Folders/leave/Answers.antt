use Rattle.std.proofs.Common.{◌∙◌, ap, ℕ, List}
use Rattle.std.specs.List.{position}
use Rattle.std.specs.Prelude.{string_bytes}
use Rattle.std.specs.Str.{bytes_eq}
use Rattle.ariadne_search.proofs.Lists.{left_none, left_some}
use Rattle.ariadne_search.proofs.folders.Folders.leave.Goals as goal

-- the innermost of its name is gone
pub returns-in-Some : goal.returns-in-Some
returns-in-Some c =
    left_some string_bytes (λ (name : List ℕ). bytes_eq name c.args.folder.now) c.args.self.now.entered.items c.remove-left.new.self.items
    c.in-Some.place
    (c.in-Some.ensures ∙ ap (position (λ f. bytes_eq (string_bytes f) c.args.folder.now)) c.as_slice.ensures.value)
    c.remove-left.ensures.items

-- where there is one
pub returns-in_default : goal.returns-in_default
returns-in_default c =
    left_none string_bytes (λ (name : List ℕ). bytes_eq name c.args.folder.now) c.args.self.now.entered.items
    (c.in_default.ensures ∙ ap (position (λ f. bytes_eq (string_bytes f) c.args.folder.now)) c.as_slice.ensures.value)
