use Rattle.std.proofs.Common.{◌≡◌, ◌+◌, drop, false}
use Rattle.ariadne_json.specs.Pieces.{text_len}
use Rattle.ariadne_json.proofs.pieces.text_len.Given as goal

-- what is passed, and what the text takes of the rest
abbrev pub invariant-loop-place : goal.invariant-loop-place
invariant-loop-place l =
    l.place + text_len l.is_escaped (drop l.place l.bytes) ≡ text_len false l.bytes
