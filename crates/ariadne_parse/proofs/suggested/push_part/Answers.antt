use Rattle.std.proofs.Common.{◌∙◌, ap, string_bytes, sym, Some}
use Rattle.std.specs.Option.{option_or}
use Rattle.serde_json.specs.View.{view}
use Rattle.ariadne_parse.specs.Fixes.{joint_words}
use Rattle.ariadne_parse.specs.declared.diagnostic.Location.{Location}
use Rattle.ariadne_parse.proofs.Suggests.{first_begins, first_stays, says_nothing, says_part}
use Rattle.ariadne_parse.proofs.suggested.push_part.Goals as goal

-- the span puts in no text
pub returns-in_default : goal.returns-in_default
returns-in_default c =
    let none = sym c.in_default.ensures in record {
      said = says_nothing c.args.first.now (view c.args.span_value.now) (string_bytes c.args.said.now) none;
      first = first_stays c.args.first.now (view c.args.span_value.now) none;
    }

-- its part was pushed
pub returns : goal.returns
returns c =
    let d = view c.args.span_value.now in
    let is = sym c.in-Some.ensures in record {
      said = says_part c.args.first.now d c.in-Some.put_in.now (string_bytes c.args.said.now) _ _ _ _ is
          (c.joint.ensures ∙ ap (joint_words c.args.first.now) c.start_of-start.ensures)
          ((c.as_str.ensures).value ∙ c.in_ok-part.ensures) (c.in_ok-push_str.ensures).bytes (c.in_ok-push_str-2.ensures).bytes;
      first = c.or.ensures ∙ ap (λ (at : Location). option_or c.args.first.now (Some at)) c.start_of-start.ensures
          ∙ first_begins c.args.first.now d c.in-Some.put_in.now is;
    }
