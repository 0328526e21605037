-- Where white space in front of a line begins in front of a quote, as its characters are passed.
use Rattle.std.proofs.Common.{◌≡◌, ◌∙◌, ap, sym, ℕ, ◌+◌, ◌-◌, ◌^◌, ◌<◌, List, [], ◌∷◌, ◌++◌, take, length, map, get_or, arith}
use Rattle.std.specs.Prelude.{max, min}
use Rattle.std.specs.List.{range_with_len}
use Rattle.std.proofs.lemmas.List.FromFn.{map-range_with_len_more}
use Rattle.std.proofs.lemmas.List.Sums.{fold_more}
use Rattle.ariadne_parse.specs.Columns.{columns_of}
use Rattle.ariadne_parse.specs.declared.unit.Unit.{Unit}
use Rattle.ariadne_parse.specs.declared.unit.Unit.TheVariants.{Display}
use Rattle.ariadne_snippets.specs.Quotes.{lead_begin}
use Rattle.ariadne_snippets.specs.Rows.{column_past}

-- the columns of one more character are passed
pub column_more : (unit : Unit) (text : List ℕ) (place at c columns next : ℕ) → place < length text
    → c ≡ get_or text place c → at ≡ column_past unit 0 (take place text) → columns ≡ columns_of unit at c
    → next ≡ min (at + columns) (2 ^ 64 - 1) → next ≡ column_past unit 0 (take (place + 1) text)
column_more unit text place at c columns next lt is so_far wide more =
    let step : ℕ → ℕ → ℕ = λ at c. min (at + columns_of unit at c) (2 ^ 64 - 1) in
    more ∙ ap (λ w. min (at + w) (2 ^ 64 - 1)) wide ∙ ap (λ a. step a c) so_far
    ∙ ap (λ x. step (column_past unit 0 (take place text)) x) is
    ∙ sym (fold_more step 0 text place c lt)

-- where one more begins
pub begins_more : (lead : List ℕ) (start place at short aligned nearest begin : ℕ) (before after : List ℕ)
    → at ≡ column_past Display 0 (take place lead) → short ≡ column_past Display 0 lead - at
    → aligned ≡ start - short → nearest ≡ min place start → begin ≡ max nearest aligned
    → before ≡ map (lead_begin lead start) (range_with_len 0 place) → after ≡ before ++ begin ∷ []
    → after ≡ map (lead_begin lead start) (range_with_len 0 (place + 1))
begins_more lead start place at short aligned nearest begin before after passed is from near most so_far push =
    let begins : begin ≡ lead_begin lead start place =
    most ∙ ap (λ n. max n aligned) near ∙ ap (λ n. max (min place start) n) from
    ∙ ap (λ n. max (min place start) (start - n)) is
    ∙ ap (λ n. max (min place start) (start - (column_past Display 0 lead - n))) passed in
    push ∙ ap (λ xs. xs ++ begin ∷ []) so_far ∙ ap (λ n. map (lead_begin lead start) (range_with_len 0 place) ++ n ∷ []) begins
    ∙ sym (map-range_with_len_more (lead_begin lead start) 0 place place (omega arith))
