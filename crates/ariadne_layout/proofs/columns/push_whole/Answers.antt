use Rattle.std.proofs.Common.{◌≡◌, ◌+◌, ◌<◌, [], ◌∷◌, ◌++◌, length, get_or, map, min, sym, ap, ◌∙◌, rules}
use Rattle.std.proofs.lemmas.List.{length_push}
use Rattle.std.proofs.lemmas.Iterator.{YieldsList-from_chars, YieldsList-from_take}
use Rattle.std.proofs.lemmas.Iterator.Consumers.{YieldsList-at, YieldsList-turn, YieldsList-end}
use Rattle.std.specs.Str.{chars}
use Rattle.ariadne_base.specs.Locations.{upto}
use Rattle.ariadne_picture.specs.Columns.{whole_column}
use Rattle.ariadne_layout.proofs.ColumnLists.{shown-turn, shown-end, whole-step, columns-more}
use Rattle.ariadne_layout.proofs.PlaceColumns.{whole_column-first}
use Rattle.ariadne_layout.proofs.columns.push_whole.Goals as goal
use Rattle.ariadne_layout.proofs.columns.push_whole.Goals.{After-shown_columns-width, In-None}

-- a turn is at the next place, and at its character
turn : (c : After-shown_columns-width)
    → (length c.loop-c.yielded < c.args.len) × (length c.loop-c.yielded < length (chars c.args.text.now))
    × (c.in-Some.c ≡ get_or (chars c.args.text.now) (length c.loop-c.yielded) 0)
turn c =
    let text = c.args.text.now in
    let read = YieldsList-from_chars {s = c.chars.result} text c.utf8.text c.chars.ensures.rest in
    let taken = YieldsList-from_take {s = c.take-c-items.result} c.args.len (YieldsList-at c.take-c-items.ensures.source read) c.take-c-items.ensures.count in
    let whole = YieldsList-at c.into_iter-c-iterator.ensures.into_iter_gives taken in
    let t = YieldsList-turn whole c.loop-c.yielded _ c.loop-c.yielded_by _ _ _ c.in-Some.is c.next.ensures.steps in
    shown-turn (chars text) c.args.len (length c.loop-c.yielded) c.in-Some.c t.0 t.1

-- the end comes at the last place, or at len
ended : (c : In-None) → length c.loop-c.yielded ≡ min c.args.len (length (chars c.args.text.now))
ended c =
    let text = c.args.text.now in
    let read = YieldsList-from_chars {s = c.chars.result} text c.utf8.text c.chars.ensures.rest in
    let taken = YieldsList-from_take {s = c.take-c-items.result} c.args.len (YieldsList-at c.take-c-items.ensures.source read) c.take-c-items.ensures.count in
    let whole = YieldsList-at c.into_iter-c-iterator.ensures.into_iter_gives taken in
    let e = YieldsList-end whole c.loop-c.yielded _ c.loop-c.yielded_by _ _ c.in-None.is c.next.ensures.steps in
    shown-end (chars text) c.args.len (length c.loop-c.yielded) e.1

-- before the first turn there is no place
pub loop-c-init : goal.loop-c-init
loop-c-init c = (c.requires.empty, sym (whole_column-first c.args.tab_width (chars c.args.text.now)))

-- a turn pushes the column of its place, and counts that of the next
pub loop-c-preserved : goal.loop-c-preserved
loop-c-preserved c =
    let n = length c.loop-c.yielded in
    let so_far = c.loop-c.list.items in
    let e : length (c.loop-c.yielded ++ c.in-Some.c ∷ []) ≡ n + 1 = length_push _ _ in
    let pushed : c.push.new.self.items ≡ so_far ++ c.loop-c.column ∷ [] = (c.in_ok-push.ensures).items in
    let t = turn (goal.at.loop-c-preserved c).After-shown_columns-width in
    let sum : c.in_ok-column.column ≡ c.loop-c.column + c.shown_columns-width.result = search rules in
    rw e (
      columns-more (whole_column c.args.tab_width (chars c.args.text.now)) so_far c.push.new.self.items n c.loop-c.column
          c.loop-c.invariant.0 c.loop-c.invariant.1 pushed,
      sum ∙ whole-step c.args.tab_width (chars c.args.text.now) n c.in-Some.c c.loop-c.column c.shown_columns-width.result t.2
          c.loop-c.invariant.1 c.shown_columns-width.ensures,
    )

-- the last turn was at the last of the places
pub returns-clause-columns : goal.returns-clause-columns
returns-clause-columns c =
    c.loop-c.invariant.0
    ∙ ap (λ m. map (whole_column c.args.tab_width (chars c.args.text.now)) (upto m)) (ended (goal.at.returns-clause-columns c).In-None)

pub returns-clause-behind : goal.returns-clause-behind
returns-clause-behind c =
    c.loop-c.invariant.1 ∙ ap (whole_column c.args.tab_width (chars c.args.text.now)) (ended (goal.at.returns-clause-behind c).In-None)
