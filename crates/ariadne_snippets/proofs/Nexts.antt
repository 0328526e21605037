-- What is quoted next.
use Rattle.std.proofs.Common.{◌≡◌, ◌+◌, sym, refl, subst, List, ℕ, length, Option, None}
use Rattle.std.specs.List.{range_with_len}
use Rattle.ariadne_snippets.specs.Ends.{IsEnd}
use Rattle.ariadne_snippets.specs.Snippets.{IsQuoteOf, QuotesNext, as_shown, by_characters, by_units, kept, dropped, same_line, newly_quoted}
use Rattle.ariadne_snippets.specs.declared.quote.Quote.{Quote}
use Rattle.ariadne_snippets.specs.declared.quoted.Quoted.{Quoted}
use Rattle.ariadne_snippets.specs.Units.{in_units, unit_begins}
use Rattle.ariadne_snippets.specs.declared.units.Units.TheVariants.{Utf16}
use Rattle.ariadne_snippets.proofs.Endings.{end_of_end}

-- it stays
pub stays : (line : List ℕ) (source : Option (List ℕ)) (before : Option Quoted) → QuotesNext line source before before
stays line source before = kept refl

-- it is dropped
pub goes : (line : List ℕ) (source : Option (List ℕ)) (before : Option Quoted) → QuotesNext line source before None
goes line source before = dropped refl

-- what is quoted by a text is so by a line whose end that is
pub quoted_further : (text line : List ℕ) (source : Option (List ℕ)) (before after : Option Quoted)
    → IsEnd text line → QuotesNext text source before after → QuotesNext line source before after
quoted_further text line source before after ends (kept same) = kept same
quoted_further text line source before after ends (dropped none) = dropped none
quoted_further text line source before after ends (same_line old new was is same) = same_line old new was is same
quoted_further text line source before after ends (newly_quoted new part file_line is end from quote) =
    newly_quoted new part file_line is (end_of_end part text line end ends) from quote

-- what is quoted is so where it stays
pub next_same : (line : List ℕ) (source : Option (List ℕ)) (before middle after : Option Quoted) → after ≡ middle
    → QuotesNext line source before middle → QuotesNext line source before after
next_same line source before middle after e next =
    let P : Option Quoted → Type 0 = λ x. QuotesNext line source before x in
    subst P (sym e) next

-- and where it was as it was before
pub next_from : (line : List ℕ) (source : Option (List ℕ)) (before middle after : Option Quoted) → middle ≡ before
    → QuotesNext line source middle after → QuotesNext line source before after
next_from line source before middle after e next =
    let P : Option Quoted → Type 0 = λ x. QuotesNext line source x after in
    subst P e next

-- an equal quote is one of the same line
pub quote_same : (quote other : Quote) (text line : List ℕ) → quote ≡ other → IsQuoteOf other text line
    → IsQuoteOf quote text line
quote_same quote other text line e is = let P : Quote → Type 0 = λ x. IsQuoteOf x text line in subst P (sym e) is

-- so is the line itself, character by character
pub quote_by_characters : (shown quote : Quote) (text line : List ℕ) → IsQuoteOf shown text line
    → quote.chars.items ≡ line → quote.begins.items ≡ range_with_len 0 (length line + 1) → IsQuoteOf quote text line
quote_by_characters shown quote text line (as_shown e quotes) chars begins =
    by_characters shown.begins.items quotes chars begins
quote_by_characters shown quote text line (by_characters at quotes e f) chars begins = by_characters at quotes chars begins
quote_by_characters shown quote text line (by_units at quotes e f) chars begins = by_characters at quotes chars begins

-- and so it is in units of UTF-16
pub quote_by_units : (shown quote : Quote) (text line : List ℕ) → IsQuoteOf shown text line
    → quote.chars.items ≡ in_units Utf16 line → quote.begins.items ≡ unit_begins Utf16 0 line → IsQuoteOf quote text line
quote_by_units shown quote text line (as_shown e quotes) chars begins = by_units shown.begins.items quotes chars begins
quote_by_units shown quote text line (by_characters at quotes e f) chars begins = by_units at quotes chars begins
quote_by_units shown quote text line (by_units at quotes e f) chars begins = by_units at quotes chars begins
