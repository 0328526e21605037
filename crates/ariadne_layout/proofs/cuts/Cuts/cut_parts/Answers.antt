use Rattle.std.proofs.Common.{◌≡◌, ◌++◌, length, option_to_list, refl, subst, sym}
use Rattle.std.specs.Str.{drop_trailing_whitespace}
use Rattle.ariadne_picture.specs.Columns.{Layout, shown, sights_of}
use Rattle.ariadne_layout.specs.Cuts.{AreApart, sights_in}
use Rattle.ariadne_layout.proofs.JoinedParts.{none-apart}
use Rattle.ariadne_layout.proofs.cuts.Cuts.cut_parts.Goals as goal

-- a line that is shown whole has no parts
pub new-whole-requires : goal.new-whole-requires
new-whole-requires c = record { apart = none-apart _ refl }

-- those that are found are of the line's layout
pub returns : goal.returns
unfolding shown
returns c = record {
  apart = subst AreApart (sym c.deref.ensures.value) c.in_ok-find.ensures.apart;
  sights =
      let s = c.args.switches.now in
      let shown_text = drop_trailing_whitespace c.args.text.now in
      let labels = option_to_list c.args.margin ++ c.args.labels.now in
      subst (λ parts. sights_in parts (length shown_text) ≡ sights_of s c.args.offset labels shown_text) (sym c.deref.ensures.value)
      (subst
      (λ (y : Layout). sights_in c.find.new.self.parts.items (length (shown y)) ≡ sights_of s y.offset (option_to_list y.margin ++ y.labels) (shown y))
      c.new-whole.ensures c.in_ok-find.ensures.sights);
}
