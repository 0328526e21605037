use Rattle.std.proofs.Common.{Some, refl}
use Rattle.std.specs.HashMap.{Updates}
use Rattle.std.proofs.lemmas.Result.{on_ok_weaker}
use Rattle.ariadne_base.specs.Cache.{listing_of}
use Rattle.ariadne_base.proofs.Lookups.{Put-equal, tried-put}
use Rattle.ariadne_base.proofs.cache.function.FnCache.keep.Goals as goal

-- the text's source is put under an id that equals this one, where nothing was held, and under no other
pub returns : goal.returns
returns g c =
    let laws = g.met.Id.Eq.laws in
    let id = c.args.id.now in
    let key = c.in_ok-key.key in
    let source = listing_of (g.I.SourceText.text c.args.text) in
    let old = c.self.inside.sources.entries in
    let new = c.put.new.sources.entries in
    let same = c.self.invariant id key c.in_ok-key.ensures.cases in
    let put = on_ok_weaker {P = Updates g.Id.PartialEq.eq c.self.inside.sources c.put.new.sources key (Some source)} c.put.result
    (λ updates. Put-equal laws {id = id} {s = source} {old = old} {new = new} key same updates.0) c.put.ensures.ok in
    let tried = tried-put laws id source old new c.put.result put c.put.ensures.err (rw (← c.self.view_is) at c.requires) in
    rw (← c.self.view_is) record {
      function = refl;
      ok = tried.0;
      others = tried.1;
      grows = tried.2;
      err = tried.3;
    }
