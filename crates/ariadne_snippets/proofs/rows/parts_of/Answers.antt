use Rattle.std.proofs.Common.{[], rules}
use Rattle.std.specs.Str.{IsUtf8}
use Rattle.std.proofs.lemmas.List.Elements.{All-nil, All-push, All-same}
use Rattle.ariadne_snippets.specs.Rows.{marks_length}
use Rattle.ariadne_snippets.specs.Snippets.{IsPartOf}
use Rattle.ariadne_snippets.specs.declared.rows.Part.{Part}
use Rattle.ariadne_snippets.proofs.Parts.{cut_first, cut_more, marks_in_front, part_of_rest}
use Rattle.ariadne_snippets.proofs.rows.parts_of.Goals as goal

-- nothing was found yet
pub loop-rest-init : goal.loop-rest-init
loop-rest-init c =
    let P : Part → Type 0 = IsPartOf c.args.start c.args.row.now in (
      c.utf8.row,
      cut_first c.args.start c.args.row.now,
      All-same P c.new-parts.result.items [] c.new-parts.ensures.items (All-nil P),
    )

-- one more part of what was left
pub loop-rest-preserved : goal.loop-rest-preserved
loop-rest-preserved c =
    let P : Part → Type 0 = IsPartOf c.args.start c.args.row.now in
    let rest = c.loop-rest.rest.now in
    let part = c.cut_at_marks.result.0.now in
    let u : IsUtf8 part = search rules in
    let marks = marks_in_front rest part c.cut_at_marks.result.1.now c.marks_and_text.result.0.now (marks_length part)
    c.cut_at_marks.ensures.whole c.marks_and_text.ensures.marks in (
      search rules,
      cut_more c.args.start c.args.row.now rest part c.cut_at_marks.result.1.now c.loop-rest.column c.behind_text-column.result
          c.loop-rest.invariant.1 u c.cut_at_marks.ensures.whole c.behind_text-column.ensures,
      All-same P c.push.new.self.items _ (c.in_ok-push.ensures).items
          (All-push P c.loop-rest.parts.items _ c.loop-rest.invariant.2
          (part_of_rest c.args.start c.args.row.now rest _ _ c.loop-rest.invariant.1 marks)),
    )
