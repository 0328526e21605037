-- Reports whose texts hide nothing, over sources that hide nothing: what each call makes of what it
-- is given, what has reached a writer, and how much stands in front of a source text.
use Rattle.std.specs.Prelude.{ℕ, ◌-◌, ◌^◌, ◌≡◌, max, min, nat_eq, List, Option, option_map, slice_get}
use Rattle.std.specs.Prelude.{unwrap_or, Result, Vec}
use Rattle.std.specs.declared.alloc.Global.{Global}
use Rattle.std.specs.declared.ops.Range.{Range}
use Rattle.ariadne.specs.CacheReads.{world}
use Rattle.ariadne.specs.Judging.{GrowsFor}
use Rattle.ariadne.specs.LeftOut.{LeftOut}
use Rattle.ariadne.specs.IndexType.{IndexType}
use Rattle.ariadne.specs.Report.{LabelFields, ReportFields, World}
use Rattle.ariadne.specs.declared.write_error.WriteError.{WriteError}
use Rattle.ariadne.specs.Written.{HasMargin, Written}
use Rattle.ariadne_safe.specs.declared.text.TextKind.TheVariants.{OneRow}
use Rattle.ariadne_safe.specs.declared.sources.SafeSource.{SafeSource}
use Rattle.ariadne_safe.specs.declared.sources.NoSource.{NoSource}
use Rattle.ariadne_safe.specs.Visible.{visible_bytes}
use Rattle.ariadne_safe.specs.Pictures.{IsDrawnSafely}
use Rattle.ariadne_safe.specs.Sources.{numbered, name_at, offset_in}

-- ---- labels

-- where an offset into the source with a number stands in its shown text
abbrev pub offset_at : IndexType → List SafeSource → ℕ → ℕ → ℕ
offset_at index_type sources k o =
    unwrap_or (option_map (λ s. min (offset_in index_type s o) (2 ^ 64 - 1)) (slice_get sources k)) o

-- the place of a shown text that stands for one of the given text
abbrev pub shown_place : IndexType → List SafeSource → ℕ × Range ℕ → ℕ × Range ℕ
shown_place index_type sources place =
    let start = offset_at index_type sources place.0 place.1.start in
    let end = offset_at index_type sources place.0 place.1.end in
    (place.0, record { start = start; end = max end start })

-- the label that stands for a given one
abbrev pub shown_label : IndexType → List SafeSource → LabelFields (ℕ × Range ℕ)
    → LabelFields (ℕ × Range ℕ)
shown_label index_type sources label = record {
  span = shown_place index_type sources label.span;
  message = option_map (visible_bytes OneRow) label.message;
  color = label.color;
  order = label.order;
  priority = label.priority;
}

-- ---- what is drawn over

-- what a report reads of sources by their numbers
abbrev pub over : List SafeSource → World (ℕ × Range ℕ) ℕ
over sources =
    world (λ s. s.0) (λ s. s.1.start) (λ s. s.1.end) nat_eq (name_at sources) (numbered sources)

-- the error for a number says the number
abbrev pub says_number : ℕ → NoSource → Type 0
says_number k e = e.number ≡ k

-- sources hold what others do, under the same names, and beyond that at most sources of labels
pub record HaveGrown (labels : List (LabelFields (ℕ × Range ℕ)))
    (old new : List SafeSource) : Type 0 where
  pub naming : (q : ℕ) → name_at new q ≡ name_at old q
  pub grows : GrowsFor {S = ℕ × Range ℕ} (λ s. s.0) nat_eq labels (numbered old) (numbered new)

-- what has reached a writer of a report over sources, by what the call returns. That the report is drawn
-- safely holds whether or not the writer's bytes are known. `new` are the sources that it was drawn
-- over. They stand behind a shared reference, so the call adds none; but of a cache `write` of the
-- crate below says only that it holds what it held, and beyond that at most sources of labels. So
-- they are named here, and `grown` says as much of them
pub record WrittenFor (old : List SafeSource) (r : ReportFields (ℕ × Range ℕ))
    (before after : Option (List ℕ)) (result : Result (Vec (LeftOut NoSource) Global) WriteError)
    : Type 0 where
  pub new : List SafeSource
  pub grown : HaveGrown r.labels old new
  pub safe : IsDrawnSafely (over new) r
  pub written : Written {E = NoSource} says_number (over old) (over new) r before after result

-- so many columns stand in front of the source texts of a report over sources. `new` are the sources over
-- which its labels were judged, as they are of `WrittenFor`
pub record HasMarginOver (old : List SafeSource) (r : ReportFields (ℕ × Range ℕ)) (columns : ℕ)
    : Type 0 where
  pub new : List SafeSource
  pub grown : HaveGrown r.labels old new
  pub margin : HasMargin {E = NoSource} says_number (over old) (over new) r columns
