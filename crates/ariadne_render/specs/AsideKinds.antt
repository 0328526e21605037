-- Whether a text below the lines of the last group is a help or a note, as the code names it.
use Rattle.ariadne_picture.specs.Rows.{Aside, help, note}
use Rattle.ariadne_render.specs.declared.asides.AsideKind.{AsideKind}
use Rattle.ariadne_render.specs.declared.asides.AsideKind.TheVariants.{Help, Note}

abbrev pub aside_of : AsideKind → Aside
aside_of Help = help
aside_of Note = note
