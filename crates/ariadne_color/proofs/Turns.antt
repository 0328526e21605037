-- How the numbers of the generator move from call to call.
use Rattle.std.proofs.Common.{◌≡◌, ℕ, zero, suc, ◌+◌, ◌%◌, ◌<◌, arith, ap, ◌∙◌}
use Rattle.ariadne_color.specs.Generator.{GeneratorState, state_after, stepped, number_after, step_at, IsInRange, RisesEvenly}

-- a state from its numbers
abbrev state : ℕ → ℕ → ℕ → ℕ → GeneratorState
state red green blue brightness = record { red = red; green = green; blue = blue; brightness = brightness }

-- no call moves nothing
nothing_moved : (channel start : ℕ) → start < 65536 → start ≡ number_after channel 0 start
nothing_moved channel start low = omega arith

-- one call more adds one step more
once_more : (channel n start : ℕ) → (number_after channel n start + step_at channel) % 65536 ≡ number_after channel (suc n) start
once_more channel n start = omega arith

-- by induction on the number of calls
pub rises_evenly : (s : GeneratorState) (n : ℕ) → IsInRange s → RisesEvenly n s
unfolding state_after
rises_evenly s zero below =
    λ i. state (nothing_moved 0 s.red below.0 i) (nothing_moved 1 s.green below.1 i) (nothing_moved 2 s.blue below.2 i) s.brightness
rises_evenly s (suc n) below =
    ap stepped (rises_evenly s n below)
    ∙ (λ i. state (once_more 0 n s.red i) (once_more 1 n s.green i) (once_more 2 n s.blue i) s.brightness)
