-- The search goes over the line's labels.
use Rattle.std.proofs.Common.{◌≡◌, ◌≤◌, Bool, not, List, length, cond, Some, None, unwrap_or, ap, ◌∙◌, arith, inl, inr, rules, tests}
use Rattle.std.specs.List.{position_or_len}
use Rattle.std.proofs.Math.Dec.{ltb}
use Rattle.std.proofs.lemmas.Bool.{cases_lt, cond-true, cond-false, lt-ltb, le-ltb}
use Rattle.std.proofs.lemmas.Iterator.{YieldsList-from_slice}
use Rattle.std.proofs.lemmas.Iterator.Search.{position_from_yields_List}
use Rattle.std.proofs.lemmas.List.Sums.{prefix_len-le-length}
use Rattle.ariadne_picture.specs.declared.label_info.LineLabel.{LineLabel}
use Rattle.ariadne_layout.proofs.table.underline_row.Goals as goal

-- the place of the first element that passes, or how many elements there are
first-or-length : {X : Type 0} (p : X → Bool) (xs : List X)
    → unwrap_or (cond (ltb (position_or_len p xs) (length xs)) (Some (position_or_len p xs)) None) (length xs) ≡ position_or_len p xs
first-or-length p xs =
    let n = position_or_len p xs in
    let few : n ≤ length xs = prefix_len-le-length (λ x. not (p x)) xs in
    elim (cases_lt n (length xs)) [
      | inl below ↦ ap (λ o. unwrap_or o (length xs)) (cond-true (ltb n (length xs)) (Some n) None (lt-ltb n (length xs) below))
      | inr past ↦
          let all : length xs ≡ n = omega (arith, few, past) in
          ap (λ o. unwrap_or o (length xs)) (cond-false (ltb n (length xs)) (Some n) None (le-ltb n (length xs) past)) ∙ all
    ]

pub returns : goal.returns
returns c =
    let labels = c.args.layout.now.labels in
    let has = λ (x : LineLabel). x.info.has_message in
    let found =
    position_from_yields_List has _ _ c.position-first.result c.position-first.ensures.ran
    (YieldsList-from_slice labels (search rules)) (λ x b q k. search (rules, tests)) in
    let rank : unwrap_or c.position-first.result (length labels) ≡ position_or_len has labels =
    ap (λ o. unwrap_or o (length labels)) found ∙ first-or-length has labels in
    search rules
