-- The block of a line has as many rows as its labels with a message ask for.
use Rattle.std.proofs.Common.{◌≡◌, ℕ, ◌+◌, ◌*◌, Bool, true, false, List, [], ◌∷◌, length, filter, ◌∙◌, arith, ◌==◌, if◌then◌else◌, inl, inr, refl}
use Rattle.std.specs.List.{enumerate_from}
use Rattle.std.proofs.lemmas.Bool.{cases_Bool, eq-eqb}
use Rattle.std.proofs.lemmas.List.{length-append}
use Rattle.ariadne_picture.specs.declared.label_info.LineLabel.{LineLabel}
use Rattle.ariadne_picture.specs.Lists.{joined}
use Rattle.ariadne_picture.specs.Ranks.{line_labels}
use Rattle.ariadne_picture.specs.Rows.{Row, alternate, label_rows, is_lone, lone_rows}
use Rattle.ariadne_picture.specs.Columns.{layout_of}
use Rattle.ariadne_picture.specs.Pieces.{Section}
use Rattle.ariadne_picture.proofs.Rows.RowOrder.{all_label_rows, shown_rows}
use Rattle.ariadne_picture.proofs.Reading.Pictures.{Picture, placing_of}
use Rattle.ariadne_picture.proofs.Reading.ShownLine.{block-at, every-shown-line}
use Rattle.ariadne_picture.specs.Blocks.{block_size, has_whole_blocks}

-- the rows of some labels
label-count : (compact : Bool) (l a : ℕ) (xs : List LineLabel)
    → length (joined (label_rows compact l) (enumerate_from a xs))
    ≡ length (filter (λ (x : LineLabel). x.info.has_message) xs) * (if compact then 1 else 2)
unfolding joined label_rows
label-count true l a [] = omega arith
label-count false l a [] = omega arith
label-count true l a (x ∷ xs) =
    let more = label-count true l (a + 1) xs in
    elim (cases_Bool x.info.has_message) [ inl on ↦ rw on (omega (arith, more)) | inr off ↦ rw off more ]
label-count false l a (x ∷ xs) =
    let more = label-count false l (a + 1) xs in
    elim (cases_Bool x.info.has_message) [ inl on ↦ rw on (omega (arith, more)) | inr off ↦ rw off more ]

-- what a test chooses from has the length that it chooses
cond_map : (f : List Row → ℕ) (b : Bool) (x y : List Row) → f (if b then x else y) ≡ (if b then f x else f y)
cond_map f true x y = refl
cond_map f false x y = refl

pub block-rows : (s : Section) (l : ℕ) → length (shown_rows s.sheet l) ≡ block_size s l
unfolding shown_rows lone_rows block_size layout_of
block-rows s l =
    let labels = label-count s.sheet.switches.compact l 0 (line_labels s.sheet.labels l) in
    length-append (all_label_rows s.sheet l) (lone_rows s.sheet l)
    ∙ (λ i. labels i + cond_map length (is_lone s.sheet l) (alternate l (length (line_labels s.sheet.labels l)) ∷ []) [] i)

-- every picture has whole blocks
pub whole-blocks : (v : Picture) → has_whole_blocks v.sections (placing_of v) ≡ true
unfolding has_whole_blocks
whole-blocks v =
    every-shown-line v (λ g s l. (placing_of v).block_len g l == block_size s l)
    (λ g s l h. eq-eqb ((placing_of v).block_len g l) (block_size s l) (block-at v h ∙ block-rows s l))
