use Rattle.std.proofs.Common.{◌++◌, option_to_list, refl}
use Rattle.std.specs.Str.{drop_trailing_whitespace}
use Rattle.ariadne_layout.proofs.CutParts.{unasked, whole-listed}
use Rattle.ariadne_layout.proofs.JoinedParts.{none-apart}
use Rattle.ariadne_layout.proofs.cuts.Cuts.parts_of.Goals as goal

-- where no width is asked for nothing is cut
pub returns-then-switches-eq0 : goal.returns-then-switches-eq0
returns-then-switches-eq0 c = record {
  apart = none-apart _ refl;
  sights =
      let s = c.args.switches.now in
      let shown = drop_trailing_whitespace c.args.text.now in
      whole-listed s c.args.offset (option_to_list c.args.margin ++ c.args.labels.now) shown _ (unasked s shown c.if-switches-eq0.true) refl;
}
