-- The place that the headers of groups name where these are over the source of the report's own span.
use Rattle.std.specs.Prelude.{ℕ, ◌≡◌, chars, if◌then◌else◌, nat_le, Option, Some, None}
use Rattle.ariadne_base.specs.Listing.{Listing}
use Rattle.ariadne_picture.specs.Accept.{offset_in_chars, text_len}
use Rattle.ariadne_picture.specs.Report.{ReportFields, World}

-- where the report's own span starts over this source, in characters, if the source has such a place
unfoldable pub own_offset : {S Id : Type 0} → World S Id → ReportFields S → Listing → Option ℕ
own_offset w r source =
    let text = chars source.text in
    let start = w.start_of r.span in
    if nat_le start (text_len r.config.index_type text)
    then offset_in_chars r.config.index_type text start else None

-- this is that place over the source of the span, if that source is held
abbrev pub IsOwnOffset : {S Id : Type 0} → World S Id → ReportFields S → Option ℕ → Type 0
IsOwnOffset w r offset = (source : Listing) → w.source_of (w.id_of r.span) ≡ Some source
    → offset ≡ own_offset w r source
