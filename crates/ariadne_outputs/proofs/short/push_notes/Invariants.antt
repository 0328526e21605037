use Rattle.std.proofs.Common.{◌≡◌, ◌++◌, string_bytes, take}
use Rattle.ariadne_outputs.specs.Short.{note_rows}
use Rattle.ariadne_outputs.proofs.short.push_notes.Given as goal

-- the rows of the notes so far were added
abbrev pub invariant-loop-note : goal.invariant-loop-note
invariant-loop-note l =
    string_bytes l.text ≡ string_bytes l.initial.text ++ note_rows l.location (take l.note-index l.notes)
