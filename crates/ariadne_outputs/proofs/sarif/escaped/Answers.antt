use Rattle.std.proofs.Common.{Bool, ℕ, ◌||◌, ◌==◌}
use Rattle.std.specs.Char.{is_ascii_alphanumeric}
use Rattle.percent_encoding.specs.declared.ascii_set.TheConstants.{NON_ALPHANUMERIC}
use Rattle.ariadne_outputs.proofs.Uris.{first_set, one_removed}
use Rattle.ariadne_outputs.proofs.sarif.escaped.Goals as goal

-- one after the other is removed
pub returns : goal.returns
returns c =
    let k0 : ℕ → Bool = is_ascii_alphanumeric in
    let k1 : ℕ → Bool = λ b. k0 b || (b == 45) in
    let k2 : ℕ → Bool = λ b. k1 b || (b == 46) in
    let k3 : ℕ → Bool = λ b. k2 b || (b == 47) in
    let k4 : ℕ → Bool = λ b. k3 b || (b == 95) in
    let one = one_removed k0 NON_ALPHANUMERIC c.remove.result 45 first_set c.remove.ensures.removed c.remove.ensures.others in
    let two = one_removed k1 c.remove.result c.remove-2.result 46 one c.remove-2.ensures.removed c.remove-2.ensures.others in
    let three = one_removed k2 c.remove-2.result c.remove-3.result 47 two c.remove-3.ensures.removed c.remove-3.ensures.others in
    let four = one_removed k3 c.remove-3.result c.remove-4.result 95 three c.remove-4.ensures.removed c.remove-4.ensures.others in
    one_removed k4 c.remove-4.result c.remove-5.result 126 four c.remove-5.ensures.removed c.remove-5.ensures.others
