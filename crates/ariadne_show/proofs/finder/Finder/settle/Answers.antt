use Rattle.std.proofs.Common.{◌∙◌, ap, refl}
use Rattle.std.specs.Prelude.{option_map}
use Rattle.ariadne_search.specs.Search.{texts_of}
use Rattle.ariadne_show.proofs.finder.Finder.settle.Goals as goal

-- its file was looked for where names start
pub returns-clause-settled : goal.returns-clause-settled
returns-clause-settled g c = record {
  search = c.search-search.result;
  looked = record {
    base = c.search-search.ensures.base;
    manifest_told = ap (option_map (λ manifest. manifest.now)) c.search-search.ensures.manifest;
    elsewhere = c.search-search.ensures.elsewhere;
    outer = c.search-search.ensures.outer;
    entered = ap texts_of c.search-search.ensures.entered ∙ c.as_slice.ensures;
  };
  span_settled = c.in_ok-settle.ensures;
  finder = refl;
}
