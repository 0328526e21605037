use Rattle.std.proofs.Common.{◌∙◌, ap, map}
use Rattle.serde_json.specs.View.{view}
use Rattle.ariadne_matcher_tables.proofs.Matchers.{listed_list, listed_one}
use Rattle.ariadne_matcher_tables.proofs.editor.listed.Goals as goal

pub returns-in-Some : goal.returns-in-Some
returns-in-Some c =
    ap (map view) c.as_slice.ensures.value ∙ listed_list (view c.args.value.now) c.in-Some.values.now.items c.in-Some.ensures

pub returns-in-None : goal.returns-in-None
returns-in-None c = ap (map view) c.from_ref.ensures.value ∙ listed_one (view c.args.value.now) c.in-None.ensures
