use Rattle.std.proofs.Common.{◌≡◌, ◌≤◌, ◌∙◌, Some, length, refl, sym, ap}
use Rattle.std.specs.Option.{option_copied}
use Rattle.std.specs.Prelude.{option_map, slice_get}
use Rattle.std.proofs.lemmas.Option.{slice_get_past, slice_get_read}
use Rattle.ariadne_base.specs.Numbered.{NamedListing}
use Rattle.ariadne_base.proofs.cache.table.SourceTableCacheUsize.display.Goals as goal

-- past the last source there is no name
pub returns-in_err-get : goal.returns-in_err-get
returns-in_err-get g c =
    let table = c.self.inside.sources.items in
    let past : length table ≤ c.args.id.now = rw c.deref.ensures.value at c.in_err-get.ensures.lookup.3 in
    rw (← c.self.view_is)
    (ap option_copied c.from_residual.ensures ∙ sym (ap (option_map (λ (it : NamedListing). it.name)) (slice_get_past table c.args.id.now past)))

-- a number finds the name that stands there
pub returns : goal.returns
returns g c =
    let table = c.self.inside.sources.items in
    let number = c.args.id.now in
    let read = rw c.deref.ensures.value at c.in_ok-get.ensures.lookup in
    let found : slice_get table number ≡ Some c.in_ok-get.field-0.now =
    slice_get_read table (length table) number c.in_ok-get.field-0.now refl read.3.0 read.1 in
    rw (← c.self.view_is)
    (ap Some c.as_str.ensures.value
    ∙ ap (λ (it : NamedListing). Some it.name) c.branch.view_is
    ∙ sym (ap (option_map (λ (it : NamedListing). it.name)) found))
