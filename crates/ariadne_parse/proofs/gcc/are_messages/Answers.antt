use Rattle.std.proofs.Common.{◌<◌, ◌∙◌, sym, length, arith, false-eqb}
use Rattle.ariadne_parse.proofs.Values.{gcc_some}
use Rattle.ariadne_parse.proofs.gcc.are_messages.Goals as goal

-- a list of gcc's is one at least, and each
pub returns : goal.returns
returns c =
    let some : 0 < length c.args.values.now = omega (arith, false-eqb _ 0 c.if-is_empty.ensures) in record {
      list = c.each_is_message.ensures ∙ sym (gcc_some c.args.values.now some);
      some = λ h. some;
    }
