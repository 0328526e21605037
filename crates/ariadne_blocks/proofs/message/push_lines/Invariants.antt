use Rattle.std.proofs.Common.{◌≡◌, take}
use Rattle.std.specs.Prelude.{map, string_bytes}
use Rattle.ariadne_blocks.specs.Blocks.{held_of, text_of}
use Rattle.ariadne_blocks.specs.Messages.{message_with}
use Rattle.ariadne_blocks.proofs.message.push_lines.Given as goal

-- the message goes on with the lines that are passed
abbrev pub invariant-loop-line : goal.invariant-loop-line
invariant-loop-line l =
    string_bytes l.message
    ≡ message_with (string_bytes l.initial.message) (map text_of (map held_of (take l.line-index l.lines)))
