use Rattle.std.proofs.Common.{◌∙◌, ap, refl}
use Rattle.std.specs.Prelude.{chars}
use Rattle.ariadne_safe.specs.Sources.{sources_of}
use Rattle.ariadne_show.specs.ReadFiles.{shown_text}
use Rattle.ariadne_show.proofs.Reading.{held_behind}
use Rattle.ariadne_show.proofs.shelf.hold.Goals as goal

-- its source stands behind the others
pub returns : goal.returns
returns c =
    held_behind (sources_of c.args.sources.now) (sources_of c.add.new.self) c.args.path.now c.args.bytes.now c.in_ok-file.file _
    c.in_ok-source.source c.in_ok-with_name.field-0 c.in_ok-file.ensures refl refl refl refl
    (c.in_ok-columns.ensures ∙ ap chars c.as_str.ensures.value)
    (c.in_ok-source.ensures.text ∙ ap (shown_text 0) c.as_str-2.ensures.value)
    (c.in_ok-source.ensures.given ∙ c.as_str-2.ensures.value) c.in_ok-with_name.ensures.name c.in_ok-with_name.ensures.text
    c.in_ok-with_name.ensures.given c.in_ok-number.ensures.ok c.in_ok-number.ensures.number
