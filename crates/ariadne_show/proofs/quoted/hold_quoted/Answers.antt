use Rattle.std.proofs.Common.{◌∙◌, ap, refl, string_bytes}
use Rattle.std.specs.Prelude.{chars}
use Rattle.ariadne_safe.specs.Sources.{sources_of}
use Rattle.ariadne_show.specs.ReadFiles.{shown_text}
use Rattle.ariadne_show.proofs.Reading.{quoted_behind}
use Rattle.ariadne_show.proofs.quoted.hold_quoted.Goals as goal

-- its source stands behind the others
pub returns : goal.returns
returns c =
    quoted_behind (sources_of c.args.sources.now) (sources_of c.add.new.self) c.args.path.now c.args.quoted.now _ c.in-Some.lines.last
    (string_bytes c.in_ok-text.text) c.in_ok-source.source c.in_ok-with_name.field-0 c.with_display_line_offset-source.result refl refl refl
    c.in-Some.ensures.lines c.in_ok-text.ensures (c.in_ok-columns.ensures ∙ ap chars c.as_str-2.ensures.value)
    (c.in_ok-source.ensures.text ∙ ap (shown_text 0) c.as_str.ensures.value) (c.in_ok-source.ensures.given ∙ c.as_str.ensures.value)
    c.in_ok-with_name.ensures.name c.in_ok-with_name.ensures.text c.in_ok-with_name.ensures.given
    c.with_display_line_offset-source.ensures.text c.with_display_line_offset-source.ensures.name
    c.with_display_line_offset-source.ensures.given c.in_ok-add.ensures.ok c.in_ok-add.ensures.number
