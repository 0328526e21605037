use Rattle.std.proofs.Common.{rules, refl}
use Rattle.ariadne_show.proofs.known.Known.add_row.Goals as goal

-- it was the last that waits, and is so again
pub returns-in_ok-push : goal.returns-in_ok-push
returns-in_ok-push c = record {
  in_front = c.pop.new.self.items;
  shorter = c.in-Some.waiting;
  longer = c.add_row.new.self;
  had = search rules;
  has = c.in_ok-push.ensures.items;
  grown = c.in_ok-add_row.ensures;
  known = refl;
}
