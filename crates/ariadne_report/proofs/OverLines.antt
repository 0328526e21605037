-- What is known of each label that is drawn: it is the report's, its source is held and accepts it, and it lies in the lines of that source.
use Rattle.std.proofs.Common.{◌≡◌, ℕ, ◌+◌, ◌<◌, ◌≤◌, min, ◌||◌, List, [], Option, Some, None, length}
use Rattle.std.proofs.Common.{refl, sym, ap, subst, arith, inl, inr, sum_by}
use Rattle.std.specs.Prelude.{chars, nat_lt}
use Rattle.std.proofs.lemmas.Bool.{and_parts, cases_Bool, cases_lt, leb-true, ltb-true}
use Rattle.std.proofs.lemmas.List.{get_or_past}
use Rattle.ariadne_base.specs.Lines.{lines_of}
use Rattle.ariadne_base.specs.Listing.{Listing, listed_lines}
use Rattle.ariadne_base.specs.Locations.{line_offset, line_text}
use Rattle.ariadne_base.specs.Ranges.{last_offset}
use Rattle.ariadne_base.proofs.LineLaws.{lines_length, some_line}
use Rattle.ariadne_base.proofs.LocationLemmas.{line_at_is, line_at_up}
use Rattle.ariadne_picture.specs.declared.label_info.LabelInfo.{LabelInfo}
use Rattle.ariadne_picture.specs.declared.switches.LabelAttach.{LabelAttach}
use Rattle.ariadne_picture.specs.declared.verdict.Verdict.TheVariants.{Accepted}
use Rattle.ariadne_picture.specs.Accept.{IsAccepted, info_of, offset_in_chars, text_len, verdict, within}
use Rattle.ariadne_picture.specs.Report.{ConfigFields, LabelFields, ReportFields, World}
use Rattle.ariadne_picture.specs.Strokes.{holds}
use Rattle.ariadne_picture.proofs.Labels.DrawnLabels.{offset-order}
use Rattle.ariadne_layout.specs.Snippets.{IsOverLines}
use Rattle.ariadne_layout.proofs.SourceLines.{total_is}
use Rattle.ariadne_report.proofs.Locating.{inside_line}

-- ---- what an accepted label is

-- it goes from one number of characters to another, which is at most that of the source
pub record IsInfoOf {S : Type 0} (attach : LabelAttach) (text : List ℕ) (k : ℕ) (label : LabelFields S) (a : LabelInfo) : Type 0 where
  pub start : ℕ
  pub end : ℕ
  pub ends_within : end ≤ length text
  pub is : a ≡ info_of attach (lines_of text) k label start end

module _ {S : Type 0} (config : ConfigFields) (source : Listing) (k : ℕ) (label : LabelFields S) (a : LabelInfo) where
  -- the source in characters
  abbrev text : List ℕ
  text = chars source.text

  -- by both ends in characters
  accepted_within : (o : ℕ) → o ≤ text_len config.index_type text → (x y : Option ℕ) → offset_in_chars config.index_type text o ≡ y
      → within config.label_attach (listed_lines source) k label x y ≡ Accepted a → IsInfoOf config.label_attach text k label a
  unfolding within
  accepted_within o few (Some n) (Some m) at e = record {
    start = n;
    end = m;
    ends_within = (offset-order config.index_type text o o m m (omega arith) few at at).1;
    is = cc;
  }
  accepted_within o few (Some n) None at e = cc
  accepted_within o few None y at e = cc

  -- by its verdict
  pub accepted_from : (start end : ℕ) → verdict config source k label start end ≡ Accepted a → IsInfoOf config.label_attach text k label a
  unfolding verdict
  accepted_from start end e =
      let size = text_len config.index_type text in
      elim (cases_Bool (nat_lt size start || nat_lt (size + 1) end)) [
        | inl past ↦ absurd (let f = rw past at e in cc)
        | inr inside ↦ accepted_within (min end size) (omega arith) (offset_in_chars config.index_type text start)
            (offset_in_chars config.index_type text (min end size)) refl (rw inside at e)
      ]

-- ---- where it lies

module _ (ls : List (List ℕ)) (some : 0 < length ls) where
  -- a line that holds a character is there
  held_line : (l o : ℕ) → line_offset length ls l ≤ o → o < line_offset length ls l + length (line_text ls l) → l < length ls
  held_line l o low high = elim (cases_lt l (length ls)) [
    | inl there ↦ there
    | inr past ↦ let none = ap length (get_or_past ls l [] past) in absurd (omega arith)
  ]

  -- the characters between two offsets of the lines
  over_info : {S : Type 0} (attach : LabelAttach) (k : ℕ) (label : LabelFields S) (start end : ℕ) → end ≤ sum_by length ls
      → IsOverLines ls (info_of attach ls k label start end)
  unfolding info_of holds
  over_info attach k label start end few = record {
    rises = line_at_up length ls start (last_offset start end) some (omega arith);
    within = (line_at_is length ls (last_offset start end) some).there;
    ends_inside = rw (total_is length ls) few;
    holders = λ l o low high held.
        let both = and_parts _ _ held in
        let first : start ≤ o = leb-true start o both.0 in
        let last : o < end = ltb-true o end both.1 in
        let line = inside_line ls l o (held_line l o low high) low high in
        let before = line_at_up length ls start o some first in
        let behind = line_at_up length ls o (last_offset start end) some (omega arith) in
        (omega arith, omega arith);
  }

-- a label that is drawn lies in the lines of its source
pub over-lines : {S Id : Type 0} (w : World S Id) (r : ReportFields S) (a : LabelInfo) (d : IsAccepted w r a) → IsOverLines (listed_lines d.source) a
over-lines w r a d =
    let text = chars d.source.text in
    let i = accepted_from r.config d.source a.position d.label a (w.start_of d.label.span) (w.end_of d.label.span) d.accepted in
    let few = i.ends_within in
    let all = lines_length text in
    subst (IsOverLines (lines_of text)) (sym i.is)
    (over_info (lines_of text) (some_line text) r.config.label_attach a.position d.label i.start i.end (omega arith))
