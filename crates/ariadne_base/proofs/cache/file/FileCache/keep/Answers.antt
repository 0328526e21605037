use Rattle.std.proofs.Common.{Some, ap, string_bytes}
use Rattle.std.specs.Cmp.Lexicographic.{nat_list_eq_equiv}
use Rattle.std.specs.HashMap.{Updates}
use Rattle.std.specs.String.{string_eq}
use Rattle.std.proofs.lemmas.Result.{on_ok_weaker, on_err_weaker}
use Rattle.ariadne_base.specs.Cache.{listing_of}
use Rattle.ariadne_base.specs.Files.{by_path}
use Rattle.ariadne_base.proofs.Lookups.{tried-put}
use Rattle.ariadne_base.proofs.Paths.{by_path-insert}
use Rattle.ariadne_base.proofs.cache.file.FileCache.keep.Goals as goal

-- the text's source is put under the path, where nothing was held, and under no other
pub returns : goal.returns
returns g c =
    let path = c.args.path.now in
    let source = listing_of (string_bytes c.args.text) in
    let old = c.self.inside.sources in
    let new = c.put.new.sources in
    let put = on_ok_weaker {P = Updates string_eq old new c.in_ok-key.key (Some source)} c.put.result
    (by_path-insert old new c.in_ok-key.key path source c.in_ok-key.ensures.ok) c.put.ensures.ok in
    let tried = tried-put nat_list_eq_equiv path source (by_path old.entries) (by_path new.entries) c.put.result put
    (on_err_weaker c.put.result (ap by_path) c.put.ensures.err) (rw (← c.self.view_is) at c.requires) in
    rw (← c.self.view_is) record {
      ok = tried.0;
      others = tried.1;
      grows = tried.2;
      err = tried.3;
    }
