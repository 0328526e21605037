use Rattle.std.proofs.Common.{arith}
use Rattle.serde_json.specs.View.{view}
use Rattle.ariadne_parse.proofs.Depths.{message_depth}
use Rattle.ariadne_parse.proofs.telling.is_again.Goals as goal

-- the message nests no deeper than the value
pub add-requires : goal.add-requires
add-requires c =
    let low = message_depth (view c.args.value.now) (view c.in-Some.message.now) c.in-Some.ensures in
    omega (arith, low, c.requires)
