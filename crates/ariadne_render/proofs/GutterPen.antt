-- What a pen has written of a gutter, column by column.
use Rattle.std.proofs.Common.{◌≡◌, ℕ, ◌+◌, [], ◌++◌, refl, sym, ◌∙◌}
use Rattle.ariadne_picture.specs.declared.cell.Ink.{Ink}
use Rattle.ariadne_picture.specs.Lists.{joined}
use Rattle.ariadne_picture.specs.Pieces.{column_size, ink_pieces}
use Rattle.ariadne_picture.specs.Print.{pieces_bytes}
use Rattle.ariadne_picture.proofs.Lists.Joined.{joined-upto_more}
use Rattle.ariadne_render.specs.Pages.{PageFields, PenFields, Adds, Draws}
use Rattle.ariadne_render.specs.Gutters.{column_bytes, columns_bytes}

-- no column has been written
pub columns-none : (page : PageFields) (ink_at : ℕ → Ink) → [] ≡ columns_bytes page ink_at 0
unfolding columns_bytes joined
columns-none page ink_at = refl

-- one column more
pub columns-more : (page : PageFields) (ink_at : ℕ → Ink) (n : ℕ)
    → columns_bytes page ink_at n ++ column_bytes page (ink_at n) ≡ columns_bytes page ink_at (n + 1)
unfolding columns_bytes
columns-more page ink_at n = sym (joined-upto_more (λ i. column_bytes page (ink_at i)) n)

-- an ink is written as a column, on a page that is the same
pub adds-column : (a b : PenFields) (page : PageFields) (shown ink : Ink) (n : ℕ) → a.page ≡ page → n ≡ column_size page.switches → shown ≡ ink
    → Draws a b (ink_pieces a.page.switches.char_set shown n) → Adds a b (column_bytes page ink)
unfolding column_bytes
adds-column a b page shown ink n e size same h =
    h ∙ (λ i. record a { bytes = a.bytes ++ pieces_bytes (e i).palette (ink_pieces (e i).switches.char_set (same i) (size i)) })
