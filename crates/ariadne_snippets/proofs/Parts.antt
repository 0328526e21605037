-- Parts of rows of marks.
use Rattle.std.proofs.Common.{◌≡◌, ◌∙◌, ap, sym, refl, ℕ, ◌+◌, ◌-◌, ◌^◌, ◌<◌, ◌≤◌, List, [], ◌++◌, drop, take, length, map, get_or, append_assoc, encode_utf8, subst}
use Rattle.std.specs.Prelude.{chars, fold, min}
use Rattle.std.specs.Str.{IsUtf8}
use Rattle.std.proofs.lemmas.List.{append-nil, at_drop_all, at_drop_more, map-append, nil_from_length, take-append-drop}
use Rattle.std.proofs.lemmas.List.Sums.{fold-append}
use Rattle.std.proofs.lemmas.Str.{chars-append, chars-nil, chars_past_char, IsUtf8-append, IsUtf8-nil, IsUtf8-past_char}
use Rattle.ariadne_parse.specs.Columns.{columns_of}
use Rattle.ariadne_parse.specs.declared.unit.Unit.{Unit}
use Rattle.ariadne_parse.specs.declared.unit.Unit.TheVariants.{Char}
use Rattle.ariadne_snippets.specs.Marks.{runs_from}
use Rattle.ariadne_snippets.specs.Rows.{column_behind}
use Rattle.ariadne_snippets.specs.Snippets.{covered, extent_of, runs_of, IsPartOf}
use Rattle.ariadne_snippets.specs.declared.quoted.Quoted.{Quoted}
use Rattle.ariadne_snippets.specs.declared.rows.Part.{Part}
use Rattle.ariadne_snippets.specs.declared.run.Run.{Run}
use Rattle.ariadne_snippets.specs.declared.taken.Mark.{Mark}

-- ---- columns

-- the start of a row is in its first column
pub column_first : (unit : Unit) (first : ℕ) → column_behind unit first [] ≡ first
column_first unit first = ap (λ cs. fold (λ at c. min (at + columns_of unit at c) (2 ^ 64 - 1)) first cs) chars-nil

-- the column behind two texts is that behind the second, which begins in that behind the first
column_of_both : (unit : Unit) (first : ℕ) (front text : List ℕ) → IsUtf8 front
    → column_behind unit first (front ++ text) ≡ column_behind unit (column_behind unit first front) text
column_of_both unit first front text u =
    ap (λ cs. fold (λ at c. min (at + columns_of unit at c) (2 ^ 64 - 1)) first cs) (chars-append front text u)
    ∙ fold-append (λ at c. min (at + columns_of unit at c) (2 ^ 64 - 1)) first (chars front) (chars text)

-- a text that is left leads to a column
pub record LeadsTo (unit : Unit) (at : ℕ) (left : List ℕ) (all : ℕ) : Type 0 where
  pub utf8 : IsUtf8 left
  pub leads : column_behind unit at left ≡ all

-- all of it is left
pub left_all : (unit : Unit) (column : ℕ) (text left : List ℕ) → IsUtf8 text → left ≡ text
    → LeadsTo unit column left (column_behind unit column text)
left_all unit column text left u e = record {
  utf8 = subst IsUtf8 (sym e) u;
  leads = ap (column_behind unit column) e;
}

-- a character is passed
pub left_next : (unit : Unit) (at c columns next all : ℕ) (before left : List ℕ) → before ≡ encode_utf8 c ++ left
    → columns ≡ columns_of unit at c → next ≡ min (at + columns) (2 ^ 64 - 1) → LeadsTo unit at before all
    → LeadsTo unit next left all
left_next unit at c columns next all before left e wide is so_far = record {
  utf8 = IsUtf8-past_char before left c so_far.utf8 e;
  leads = ap (λ n. column_behind unit n left) (is ∙ ap (λ w. min (at + w) (2 ^ 64 - 1)) wide)
      ∙ sym (ap (λ cs. fold (λ at c. min (at + columns_of unit at c) (2 ^ 64 - 1)) at cs) (chars_past_char before left c so_far.utf8 e))
      ∙ so_far.leads;
}

-- none is left
pub left_none : (unit : Unit) (at all : ℕ) (left : List ℕ) → length left ≡ 0 → LeadsTo unit at left all → at ≡ all
left_none unit at all left none so_far =
    sym (ap (λ cs. fold (λ at c. min (at + columns_of unit at c) (2 ^ 64 - 1)) at cs) (ap chars (nil_from_length left none) ∙ chars-nil))
    ∙ so_far.leads

-- ---- parts

-- a row that begins in a column is cut: what stands in front of its rest ends in front of another
pub record IsCut (first : ℕ) (row rest : List ℕ) (column : ℕ) : Type 0 where
  pub front : List ℕ
  pub utf8 : IsUtf8 front
  pub is_there : row ≡ front ++ rest
  pub column_is : column ≡ column_behind Char first front

-- at its start
pub cut_first : (first : ℕ) (row : List ℕ) → IsCut first row row first
cut_first first row = record {
  front = [];
  utf8 = IsUtf8-nil;
  is_there = refl;
  column_is = sym (column_first Char first);
}

-- and behind one more part
pub cut_more : (first : ℕ) (row rest part behind : List ℕ) (column next : ℕ) → IsCut first row rest column
    → IsUtf8 part → rest ≡ part ++ behind → next ≡ column_behind Char column part → IsCut first row behind next
cut_more first row rest part behind column next cut u e is = record {
  front = cut.front ++ part;
  utf8 = IsUtf8-append cut.front part cut.utf8 u;
  is_there = cut.is_there ∙ ap (λ x. cut.front ++ x) e ∙ sym (append_assoc cut.front part behind);
  column_is = is ∙ ap (λ n. column_behind Char n part) cut.column_is ∙ sym (column_of_both Char first cut.front part cut.utf8);
}

-- marks in front of the rest are a part of the row
pub part_of_rest : (first : ℕ) (row rest behind : List ℕ) (part : Part) → IsCut first row rest part.column
    → rest ≡ part.marks.now ++ behind → IsPartOf first row part
part_of_rest first row rest behind part cut e = record {
  front = cut.front;
  rest = behind;
  is_there = cut.is_there ∙ ap (λ x. cut.front ++ x) e ∙ sym (append_assoc cut.front part.marks.now behind);
  column = cut.column_is;
}

-- those that a text begins with stand in front of it
pub marks_in_front : (rest part behind marks : List ℕ) (count : ℕ) → rest ≡ part ++ behind → marks ≡ take count part
    → rest ≡ marks ++ (drop count part ++ behind)
marks_in_front rest part behind marks count e is =
    e ∙ ap (λ x. x ++ behind) (sym (take-append-drop count part)) ∙ append_assoc (take count part) (drop count part) behind
    ∙ ap (λ x. x ++ (drop count part ++ behind)) (sym is)

-- and all of it is one
pub part_of_all : (first : ℕ) (part : Part) → part.column ≡ first → IsPartOf first part.marks.now part
part_of_all first part is = record {
  front = [];
  rest = [];
  is_there = sym (append-nil part.marks.now);
  column = is ∙ sym (column_first Char first);
}

-- ---- runs

-- those of one more part
pub runs_pushed : (unit : Unit) (parts : List Part) (index : ℕ) (d : Part) → index < length parts
    → (runs own pushed : List Run) → own ≡ runs_from unit (get_or parts index d).column (get_or parts index d).marks.now
    → pushed ≡ runs ++ own → runs ++ runs_of unit (drop index parts) ≡ runs_of unit parts
    → pushed ++ runs_of unit (drop (index + 1) parts) ≡ runs_of unit parts
runs_pushed unit parts index d lt runs own pushed is push so_far =
    let rest = runs_of unit (drop (index + 1) parts) in
    ap (λ x. x ++ rest) push ∙ append_assoc runs own rest ∙ ap (λ x. runs ++ (x ++ rest)) is
    ∙ ap (λ x. runs ++ x) (sym (at_drop_more (runs_of unit) parts index d lt)) ∙ so_far

-- none are left at the end
pub runs_all : (unit : Unit) (parts : List Part) (index : ℕ) → length parts ≤ index → (runs : List Run)
    → runs ++ runs_of unit (drop index parts) ≡ runs_of unit parts → runs ≡ runs_of unit parts
runs_all unit parts index end runs so_far =
    sym (append-nil runs) ∙ ap (λ x. runs ++ x) (sym (at_drop_all (runs_of unit) parts index end)) ∙ so_far

-- what they cover
pub extents_pushed : (quoted : Quoted) (runs own pushed : List Run) (marks more all : List Mark)
    → pushed ≡ runs ++ own → all ≡ marks ++ more → map extent_of marks ≡ map (covered quoted) runs
    → map extent_of more ≡ map (covered quoted) own → map extent_of all ≡ map (covered quoted) pushed
extents_pushed quoted runs own pushed marks more all push pushed_too so_far is =
    ap (map extent_of) pushed_too ∙ map-append extent_of marks more ∙ ap (λ x. x ++ map extent_of more) so_far
    ∙ ap (λ x. map (covered quoted) runs ++ x) is ∙ sym (map-append (covered quoted) runs own)
    ∙ sym (ap (map (covered quoted)) push)
