use Rattle.std.proofs.Common.{rules}
use Rattle.ariadne_base.proofs.Lookups.{listed-push}
use Rattle.ariadne_base.proofs.cache.map.sources.Goals as goal

-- the pair that is put comes before those of its id so far
pub loop-id-preserved : goal.loop-id-preserved
loop-id-preserved g c = record {
  can = search rules;
  ends = search rules;
  made = listed-push g.met.Id.Eq.laws g.I.SourceText.text c.loop-id.yielded
      c.in-Some.id c.in-Some.text c.loop-id.sources.entries c.put.new.sources.entries
      c.loop-id.invariant.made c.in_ok-put.ensures.ok.0;
}
