use Rattle.std.proofs.Common.{◌≡◌, ◌≤◌, ℕ, arith, drop, inl, inr, min, subst, sym}
use Rattle.ariadne_layout.proofs.LabelRuns.{Merging, Rest, SeenBelow, both-at, left-passed, left-stays, merging-none, merging-more, merged-all}
use Rattle.ariadne_layout.proofs.label_runs.merge.Goals as goal
use Rattle.ariadne_layout.proofs.label_runs.merge.Goals.{then-a-end, else-a-end, then-loop-i-test+else-j-second, else-loop-i-test, Joined-a-end}

-- the lesser of two numbers is at most the first
at-most-first : (n a b : ℕ) → n ≡ min a b → n ≤ a
at-most-first n a b is = omega arith

-- and at most the second
at-most-second : (n a b : ℕ) → n ≡ min a b → n ≤ b
at-most-second n a b is = omega arith

-- at first nothing is merged
pub loop-i-init : goal.loop-i-init
loop-i-init c = λ len f g.
    subst (Merging c.args.first.now c.args.second.now len 0 0) (sym c.in_ok-runs.ensures.items) (merging-none c.args.first.now c.args.second.now len f g)

-- a turn merges the places up to the nearer end
grown : (c : Joined-a-end) (len : ℕ) (m : Merging c.args.first.now c.args.second.now len c.loop-i.i c.loop-i.j c.loop-i.runs.items)
    → (m.place ≤ c.min-end.result) × SeenBelow (both-at c.args.first.now c.args.second.now) c.min-end.result c.push.new.self.items
grown c len m =
    merging-more c.args.first.now c.args.second.now c.loop-i.runs.items c.push.new.self.items m.place len c.loop-i.i c.loop-i.j _ _
    (record { end = c.min-end.result; label = c.better_one-label.result }) (omega arith) (omega arith) m.left-first m.left-second m.seen
    c.min-end.ensures c.better_one-label.ensures c.in_ok-push.ensures.items

-- and passes the run of the first list that ends there
first-left : (c : Joined-a-end) (len : ℕ) (m : Merging c.args.first.now c.args.second.now len c.loop-i.i c.loop-i.j c.loop-i.runs.items)
    → Rest c.args.first.now c.min-end.result len (drop c.if-a-end.i c.args.first.now)
first-left c len m =
    let (on, seen) = grown c len m in
    elim c.if-a-end.branch [
      | then-a-end w ↦ rw w.i-is (left-passed c.args.first.now m.place c.min-end.result len c.loop-i.i _ (omega arith) m.left-first w.if-a-end.true)
      | else-a-end w ↦ rw w.i-is (left-stays c.args.first.now m.place c.min-end.result len c.loop-i.i _ (omega arith) m.left-first on (at-most-first _ _ _ c.min-end.ensures))
    ]

-- and that of the second
pub loop-i-preserved-then-b-end : goal.loop-i-preserved-then-b-end
loop-i-preserved-then-b-end c = λ len f g.
    let b = (goal.at.loop-i-preserved-then-b-end c).Joined-a-end in
    let m = c.loop-i.invariant len f g in
    record {
      place = c.min-end.result;
      left-first = first-left b len m;
      left-second = left-passed c.args.second.now m.place c.min-end.result len c.loop-i.j _ (omega arith) m.left-second c.if-b-end.true;
      seen = (grown b len m).1;
    }

-- or keeps it, where it goes on
pub loop-i-preserved : goal.loop-i-preserved
loop-i-preserved c = λ len f g.
    let b = (goal.at.loop-i-preserved c).Joined-a-end in
    let m = c.loop-i.invariant len f g in
    let (on, seen) = grown b len m in
    record {
      place = c.min-end.result;
      left-first = first-left b len m;
      left-second = left-stays c.args.second.now m.place c.min-end.result len c.loop-i.j _ (omega arith) m.left-second on (at-most-second _ _ _ c.min-end.ensures);
      seen = seen;
    }

-- at the end of either list all places are merged
pub returns : goal.returns
returns c = λ xs ys offset len f g.
    merged-all xs ys offset len c.loop-i.i c.loop-i.j c.args.first.now c.args.second.now c.loop-i.runs.items f g (c.loop-i.invariant len f.reach g.reach)
    (elim c.loop-i-test.branch [
      | then-loop-i-test+else-j-second w ↦ inr w.if-j-second.false
      | else-loop-i-test w ↦ inl w.loop-i-test.false
    ])
