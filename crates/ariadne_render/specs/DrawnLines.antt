-- How far the lines of a snippet are written, and the lines without labels between two with some.
use Rattle.std.specs.Prelude.{ℕ, ◌≡◌, ◌<◌, ◌≤◌, Bool, true, false, List, length, slice_range}
use Rattle.std.specs.Prelude.{◌-◌, ◌&&◌, nat_lt, not}
use Rattle.std.specs.declared.ops.Range.{Range}
use Rattle.ariadne_picture.specs.declared.label_info.LabelInfo.{LabelInfo}
use Rattle.ariadne_picture.specs.Ranks.{Sheet, first_line, is_hidden_line, is_unlabelled}
use Rattle.ariadne_layout.specs.SnippetLabels.{events_at, events_of}
use Rattle.ariadne_layout.specs.Snippets.{IsSnippet, SnippetFields, sheet_in}
use Rattle.ariadne_render.specs.LongLines.{IsRemembered}
use Rattle.ariadne_render.specs.declared.lines.Lists.{Lists}
use Rattle.ariadne_render.specs.Writers.{IsBesideAt}
use Rattle.ariadne_render.specs.declared.writer.Writer.{Writer}

-- ---- lines without labels

-- line l is the first of its group, or the line above it is shown
unfoldable pub begins_run : Sheet → ℕ → Bool
begins_run s l = not (nat_lt (first_line s) l && is_hidden_line s (l - 1))

-- no label has anything at the lines from `first` to before `behind`, and each of them is shown
pub record AreContext (s : Sheet) (first behind : ℕ) : Type 0 where
  pub unlabelled : (l : ℕ) → first ≤ l → l < behind → is_unlabelled s.labels l ≡ true
  pub shown : (l : ℕ) → first ≤ l → l < behind → is_hidden_line s l ≡ false

-- the lines from `first` to before `behind` are hidden, and the first of them begins a run
pub record AreHidden (s : Sheet) (first behind : ℕ) : Type 0 where
  pub low : first_line s ≤ first
  pub begins : begins_run s first ≡ true
  pub hidden : (l : ℕ) → first ≤ l → l < behind → is_hidden_line s l ≡ true

-- no label has anything at these lines of a group; those of `run` are hidden, the first of them begins
-- a run, and the others are shown
pub record AreBetween (s : Sheet) (lines run : Range ℕ) : Type 0 where
  pub low : lines.start ≤ run.start
  pub up : run.start ≤ run.end
  pub high : run.end ≤ lines.end
  pub above : AreContext s lines.start run.start
  pub hidden : AreHidden s run.start run.end
  pub below : AreContext s run.end lines.end

-- ---- how far the lines of a snippet are written

-- all above line l: the labels are gone through to it or less, and what is remembered is a line of the
-- snippet
pub record IsAt (v : SnippetFields) (l : ℕ) (w : Writer) (lists : Lists) : Type 0 where
  pub above : IsBesideAt v l w
  pub labels : lists.sheet.labels ≡ (sheet_in v).labels
  pub onward : lists.sheet.line ≤ l
  pub known : IsRemembered (sheet_in v).lines lists.long_line

-- none of them: the labels are those of the snippet, the switches those of the page, and what is remembered
-- is a line of the snippet
pub record IsReadyFor (v : SnippetFields) (w : Writer) (lists : Lists) : Type 0 where
  pub is_snippet : IsSnippet v
  pub one_page : w.gutter.page ≡ w.pen.page
  pub switches : (sheet_in v).switches ≡ w.pen.page.switches
  pub labels : lists.sheet ≡ record { labels = (sheet_in v).labels; line = 0 }
  pub known : IsRemembered (sheet_in v).lines lists.long_line

-- the events of line l are those from `from` to before `to`
pub record AreEventsOf (labels : List LabelInfo) (l from to : ℕ) : Type 0 where
  pub range : from ≤ to
  pub within : to ≤ length (events_of labels)
  pub there : slice_range (events_of labels) from to ≡ events_at labels l
