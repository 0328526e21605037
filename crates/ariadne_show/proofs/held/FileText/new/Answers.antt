use Rattle.std.proofs.Common.{◌∙◌, sym}
use Rattle.std.proofs.lemmas.Str.{is_utf8-from_IsUtf8}
use Rattle.ariadne_show.proofs.Reading.{characters_of_others, characters_of_text, not_utf8}
use Rattle.ariadne_show.proofs.held.FileText.new.Goals as goal

-- bytes that are UTF-8
pub returns-in_ok-from_str-in-Ok : goal.returns-in_ok-from_str-in-Ok
returns-in_ok-from_str-in-Ok c = record {
  utf8 = sym (is_utf8-from_IsUtf8 c.args.bytes.now c.in-Ok.ensures.cases.1);
  mark = c.starts_with-has_mark.ensures.value;
  text = characters_of_text c.args.bytes.now _ c.in-Ok.ensures.cases.1 (c.in_ok-from_str-in-Ok.ensures.ok ∙ c.in-Ok.ensures.cases.0);
}

-- others
pub returns-in_ok-latin_text-in-Err : goal.returns-in_ok-latin_text-in-Err
returns-in_ok-latin_text-in-Err c = record {
  utf8 = sym (not_utf8 c.args.bytes.now c.in-Err.ensures.cases.0);
  mark = c.starts_with-has_mark.ensures.value;
  text = characters_of_others c.args.bytes.now _ c.in-Err.ensures.cases.0 c.in_ok-latin_text-in-Err.ensures;
}
