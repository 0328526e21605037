-- The names are those of the row of `file`, or none.
use Rattle.std.proofs.Common.{rules, codes, ◌∙◌, sym, ap, map}
use Rattle.clap.specs.Words.{found_of}
use Rattle.clap.proofs.WalkLemmas.{raw_values-rows}
use Rattle.std.proofs.lemmas.Result.{IfOk-weaker}
use Rattle.ariadne_show.specs.OptionMeanings.{input_path}
use Rattle.ariadne_show.proofs.Commands.{names_given, no_inputs, some_inputs}
use Rattle.ariadne_show.proofs.entries.inputs_of.Goals as goal

pub returns-then-is_empty : goal.returns-then-is_empty
returns-then-is_empty c =
    let row = raw_values-rows (found_of c.args.matches.now) (codes "file") in
    let given = names_given _ _ _ _ c.unwrap_or-names.ensures (c.get_strs.ensures ∙ row) (search rules) in
    no_inputs _ _ _ given (sym c.is_empty.ensures ∙ c.if-is_empty.true) (ap (map input_path) c.in_ok-vec.ensures.items)

pub returns : goal.returns
returns c =
    let row = raw_values-rows (found_of c.args.matches.now) (codes "file") in
    let given = names_given _ _ _ _ c.unwrap_or-names.ensures (c.get_strs.ensures ∙ row) (search rules) in
    IfOk-weaker c.inputs_named.result _ _ (λ inputs are. some_inputs _ _ _ given (sym c.is_empty.ensures ∙ c.if-is_empty.false) are) c.inputs_named.ensures
