-- What the proofs of the calls that build a report share.
use Rattle.std.proofs.Common.{arith, ℕ, ◌-◌, ◌^◌, ◌≡◌, ◌++◌, [], List, false, length, replicate, Result, Ok, Err, OnErr, ap, sym, subst, ◌∙◌}
use Rattle.std.specs.Prelude.{IfOk, OnOk}
use Rattle.std.specs.Result.{result_and}
use Rattle.std.specs.Fmt.{padded_integral, format_spec, char_count}
use Rattle.std.proofs.lemmas.List.{append-nil}

-- what holds anyway holds on `Err`
pub on_err-intro : {A E P : Type 0} (r : Result A E) → P → OnErr r P
on_err-intro (Ok v) p = tt
on_err-intro (Err e) p = p

-- what a call leaves on `Ok` holds of what is returned then
pub on_ok_and : {A B E P : Type 0} (r : Result A E) {s : Result B E} {x : B} (Q : B → Type 0) → s ≡ result_and r (Ok x) → (P → Q x)
    → OnOk r P → IfOk s Q
on_ok_and (Ok v) Q is told p = subst (λ t. IfOk t Q) (sym is) (told p)
on_ok_and (Err e) Q is told p = subst (λ t. IfOk t Q) (sym is) tt

-- what `{:02}` writes of a number with these digits
pub zero_filled : (digits : List ℕ) → padded_integral (format_spec 32 0 4 2 (2 ^ 64 - 1)) false [] digits
    ≡ replicate (2 - length digits) 48 ++ digits
unfolding padded_integral char_count
zero_filled digits =
    let short : 2 - length digits - 0 - 0 ≡ 2 - length digits = omega arith in
    ap (λ n. replicate n 48 ++ (digits ++ [])) short
    ∙ ap (λ rest. replicate (2 - length digits) 48 ++ rest) (append-nil digits)
