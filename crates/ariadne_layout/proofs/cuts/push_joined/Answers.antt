use Rattle.std.proofs.Common.{◌∙◌, ◌≡◌, length, ◌-◌, ◌++◌, ◌∷◌, [], ap, arith, refl, rules}
use Rattle.std.proofs.lemmas.Option.{slice_get_read}
use Rattle.ariadne_layout.proofs.JoinedParts.{first-apart, joined-alike, joined-apart, joined-last, kept, pushed-alike, pushed-apart, pushed-order}
use Rattle.ariadne_layout.proofs.cuts.push_joined.Goals as goal
use Rattle.ariadne_layout.proofs.cuts.push_joined.Goals.{In_ok-push, in-Some+else-part-last, in_default}

-- a part that begins where the last ends, or before, is joined to it
pub returns-then-part-last-clause-apart : goal.returns-then-part-last-clause-apart
returns-then-part-last-clause-apart c = λ apart order place.
    let xs = c.args.list.now.items in
    let n = c.args.list.now.len in
    let size : n ≡ length xs = search rules in
    let value = (c.in-Some.ensures {u = tt}).value in
    let some = (c.in-Some.ensures {u = tt}).variant.0 refl in
    let last = slice_get_read xs n (n - 1) c.in-Some.last.now size (omega (arith, some)) value in
    joined-apart xs n c.in-Some.last.now c.args.part c.max-last.result size last c.max-last.ensures apart

pub returns-then-part-last-clause-alike : goal.returns-then-part-last-clause-alike
returns-then-part-last-clause-alike c = λ order.
    let xs = c.args.list.now.items in
    let n = c.args.list.now.len in
    let size : n ≡ length xs = search rules in
    let value = (c.in-Some.ensures {u = tt}).value in
    let some = (c.in-Some.ensures {u = tt}).variant.0 refl in
    let last = slice_get_read xs n (n - 1) c.in-Some.last.now size (omega (arith, some)) value in
    joined-alike xs n c.in-Some.last.now c.args.part c.max-last.result size last order c.if-part-last.true c.max-last.ensures

pub returns-then-part-last-clause-order : goal.returns-then-part-last-clause-order
returns-then-part-last-clause-order c = λ order.
    let xs = c.args.list.now.items in
    let n = c.args.list.now.len in
    let size : n ≡ length xs = search rules in
    let value = (c.in-Some.ensures {u = tt}).value in
    let some = (c.in-Some.ensures {u = tt}).variant.0 refl in
    let last = slice_get_read xs n (n - 1) c.in-Some.last.now size (omega (arith, some)) value in
    joined-last xs n c.in-Some.last.now c.args.part c.max-last.result size last order

-- another is appended
pushed : (c : In_ok-push) → c.push.new.self.items ≡ c.args.list.now.items ++ c.args.part ∷ []
pushed c =
    let new : c.push.new.self.items ≡ c.match-last_mut.list.items ++ c.args.part ∷ [] = (c.in_ok-push.ensures {u = tt}).items in
    let same : c.match-last_mut.list.items ≡ c.args.list.now.items = elim c.match-last_mut.branch [
      | in-Some+else-part-last w ↦
          let xs = c.args.list.now.items in
          let n = c.args.list.now.len in
          let size : n ≡ length xs = search rules in
          let value = (w.in-Some.ensures {u = tt}).value in
          let some = (w.in-Some.ensures {u = tt}).variant.0 refl in
          let last = slice_get_read xs n (n - 1) w.in-Some.last.now size (omega (arith, some)) value in
          ap (λ v. v.items) w.list-is ∙ kept xs n w.in-Some.last.now size last
      | in_default w ↦ ap (λ v. v.items) w.list-is
    ] in
    new ∙ ap (λ xs. xs ++ c.args.part ∷ []) same

pub returns-clause-apart : goal.returns-clause-apart
returns-clause-apart c = λ apart order place. elim c.match-last_mut.branch [
  | in-Some+else-part-last w ↦
      let xs = c.args.list.now.items in
      let n = c.args.list.now.len in
      let size : n ≡ length xs = search rules in
      let value = (w.in-Some.ensures {u = tt}).value in
      let some = (w.in-Some.ensures {u = tt}).variant.0 refl in
      let last = slice_get_read xs n (n - 1) w.in-Some.last.now size (omega (arith, some)) value in
      pushed-apart xs c.push.new.self.items n w.in-Some.last.now c.args.part size last w.if-part-last.false place (pushed c) apart
  | in_default w ↦
      first-apart c.args.list.now.items c.push.new.self.items c.args.list.now.len c.args.part (search rules) (w.in_default.ensures {u = tt}).variant.1 place
      (pushed c)
]

pub returns-clause-alike : goal.returns-clause-alike
returns-clause-alike c = λ order. pushed-alike c.args.list.now.items c.push.new.self.items c.args.part (pushed c)

pub returns-clause-order : goal.returns-clause-order
returns-clause-order c = λ order. pushed-order c.args.list.now.items c.push.new.self.items c.args.part (pushed c)
