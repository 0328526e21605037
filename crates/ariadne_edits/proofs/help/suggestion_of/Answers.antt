use Rattle.std.proofs.Common.{◌≡◌, ◌∙◌, ℕ, List, ap, length, sym, subst, string_bytes}
use Rattle.std.specs.Str.{chars}
use Rattle.ariadne_base.specs.Lines.{lines_of}
use Rattle.ariadne_base.specs.Listing.{Listing, listed_lines}
use Rattle.ariadne_edits.specs.Changes.{edited_text, Fit}
use Rattle.ariadne_edits.specs.Counterparts.{HaveCounterparts}
use Rattle.ariadne_edits.specs.HelpTexts.{drawn_text, number_width}
use Rattle.ariadne_edits.specs.KeptLines.{IsPaired, IsUntouched}
use Rattle.ariadne_edits.specs.SuggestionRows.{Tell}
use Rattle.ariadne_edits.specs.declared.drawing.Layout.{Layout}
use Rattle.ariadne_edits.proofs.Fitting.{accepted_fit}
use Rattle.ariadne_edits.proofs.help.suggestion_of.Goals as goal

-- edits that are accepted fit
pub joined-requires : goal.joined-requires
joined-requires c =
    subst (Fit c.args.text.now 0) (sym c.as_slice.ensures.value)
    (accepted_fit c.args.counts c.args.text.now c.utf8.text c.args.edits.now c.in_ok-made.made.items c.in_ok-made.ensures.ok)

-- the lines of both texts are told, those that no edit touches are kept, and what is told is drawn
pub returns-clause-ok : goal.returns-clause-ok
returns-clause-ok c =
    let t : List ℕ = c.args.text.now in
    let after : List ℕ = string_bytes c.in_ok-after.after in
    let rows = c.in_ok-rows.rows.items in
    let old = listed_lines c.in_ok-old.old in
    let new = listed_lines c.in_ok-new.new in
    let old_lines : old ≡ lines_of (chars t) = ap listed_lines c.in_ok-old.ensures in
    let new_lines : new ≡ lines_of (chars after) = ap listed_lines c.in_ok-new.ensures ∙ ap (λ b. lines_of (chars b)) c.as_str.ensures.value in
    let text_is : c.in_ok-old.old.text ≡ t = ap (λ (s : Listing). s.text) c.in_ok-old.ensures in
    let layout : ℕ → Layout = λ w. record { width = w; offset = c.args.offset; view = c.args.view } in
    let width = number_width c.args.offset rows in
    record {
      after = after;
      edited = record {
        made = c.in_ok-made.made.items;
        accepted = c.in_ok-made.ensures.ok;
        is = c.in_ok-after.ensures ∙ ap (edited_text t) c.as_slice.ensures.value;
      };
      rows = rows;
      told = subst (λ ls. Tell (lines_of (chars t)) ls rows) new_lines (subst (λ ls. Tell ls new rows) old_lines c.in_ok-rows.ensures.told);
      kept = λ i clear. c.in_ok-rows.ensures.kept i
          (subst (λ pairs. IsPaired old new pairs i) (sym c.as_slice-3.ensures.value)
          (c.in_ok-pairs.ensures i
          (subst (λ b. IsUntouched b c.as_slice-2.result.now i) (sym text_is) (subst (λ cs. IsUntouched t cs i) (sym c.as_slice-2.ensures.value) clear))));
      counterparts = subst (λ ls. HaveCounterparts (0, 0) (length (lines_of (chars t)), length ls) rows) new_lines
          (subst (λ ls. HaveCounterparts (0, 0) (length ls, length new) rows) old_lines c.in_ok-rows.ensures.counterparts);
      drawn = c.in_ok-help.ensures
          ∙ ap (λ w. drawn_text (layout w) old new c.as_slice-5.result.now) (c.in_ok-width.ensures ∙ ap (number_width c.args.offset) c.as_slice-4.ensures.value)
          ∙ ap (λ rs. drawn_text (layout width) old new rs) c.as_slice-5.ensures.value
          ∙ ap (λ ls. drawn_text (layout width) ls new rows) old_lines
          ∙ ap (λ ls. drawn_text (layout width) (lines_of (chars t)) ls rows) new_lines;
    }

pub pairs-requires-clause-fit : goal.pairs-requires-clause-fit
pairs-requires-clause-fit c =
    subst (λ b. Fit b 0 c.as_slice-2.result.now) (sym (ap (λ (s : Listing). s.text) c.in_ok-old.ensures))
    (subst (Fit c.args.text.now 0) (sym c.as_slice-2.ensures.value)
    (accepted_fit c.args.counts c.args.text.now c.utf8.text c.args.edits.now c.in_ok-made.made.items c.in_ok-made.ensures.ok))
