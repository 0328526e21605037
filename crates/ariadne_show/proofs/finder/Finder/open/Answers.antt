use Rattle.std.proofs.Common.{◌∙◌, List, ap, arith, refl, subst, sym}
use Rattle.std.proofs.lemmas.List.{with_items_is}
use Rattle.std.specs.Prelude.{option_map}
use Rattle.ariadne_search.specs.Search.{texts_of}
use Rattle.ariadne_parse.specs.declared.diagnostic.Span.{Span}
use Rattle.ariadne_parse.specs.declared.diagnostic.QuotedLine.{QuotedLine}
use Rattle.ariadne_show.specs.ReadFiles.{AreOpened}
use Rattle.ariadne_show.proofs.finder.Finder.open.Goals as goal

-- the files were looked for where names start
pub returns-clause-opened : goal.returns-clause-opened
returns-clause-opened g c = record {
  search = c.search-search.result;
  looked = record {
    base = c.search-search.ensures.base;
    manifest_told = ap (option_map (λ manifest. manifest.now)) c.search-search.ensures.manifest ∙ c.as_deref.ensures.value;
    elsewhere = rw c.as_deref.ensures.value at c.search-search.ensures.elsewhere;
    outer = rw c.as_deref.ensures.value at c.search-search.ensures.outer;
    entered = ap texts_of c.search-search.ensures.entered ∙ c.as_slice.ensures;
  };
  spans = subst (λ (after : List Span). AreOpened c.search-search.result c.args.parsed.now.quoted.items c.args.parsed.now.spans.items
      after c.args.self.now.shelf c.open.new.self)
      (sym (with_items_is c.args.parsed.now.spans c.open.new.spans (omega arith)))
      (subst (λ (lines : List QuotedLine). AreOpened c.search-search.result lines c.args.parsed.now.spans.items
      c.open.new.spans c.args.self.now.shelf c.open.new.self) c.as_slice-2.ensures.value
      (subst (λ (before : List Span). AreOpened c.search-search.result c.as_slice-2.result.now before
      c.open.new.spans c.args.self.now.shelf c.open.new.self) c.as_mut_slice-spans.ensures.value c.in_ok-open.ensures));
  others = refl;
  finder = refl;
}
