-- Proposals with a change behind the last.
use Rattle.std.proofs.Common.{◌≡◌, ◌∙◌, List, [], ◌∷◌, ◌++◌, refl, ap, sym}
use Rattle.std.specs.Prelude.{ℕ, ◌==◌, ◌&&◌, ◌||◌, map, Vec}
use Rattle.std.specs.List.{list_all, list_any}
use Rattle.std.specs.declared.alloc.Global.{Global}
use Rattle.ariadne_parse.specs.Proposed.{edit_of, proposed, Edit, Proposed}
use Rattle.ariadne_parse.specs.Proposed.{way_of as way_parsed}
use Rattle.ariadne_parse.specs.declared.diagnostic.Change.{Change}
use Rattle.ariadne_parse.specs.declared.diagnostic.Proposal.{Proposal}
use Rattle.ariadne_blocks.specs.ProposedByRows.{any_in_line, are_in_line, last_with, proposals_with, Way}
use Rattle.ariadne_blocks.specs.declared.fix_rows.ParsedChange.{ParsedChange}
use Rattle.ariadne_blocks.proofs.Lists.{any_mapped, pushed}

-- the others stay
behind_front : (by : Way) (edit : Edit) (front : List Proposed) (last : Proposed)
    → proposals_with by edit (front ++ last ∷ []) ≡ front ++ last_with by edit last
behind_front by edit [] last = refl
behind_front by edit (it ∷ []) last = refl
behind_front by edit (it ∷ next ∷ its) last = ap (λ l. it ∷ l) (behind_front by edit (next ∷ its) last)

pub changed_behind : (by : Way) (edit : Edit) (old front new : List Proposal) (last : Proposal) → old ≡ front ++ last ∷ []
    → map proposed new ≡ map proposed front ++ last_with by edit (proposed last)
    → map proposed new ≡ proposals_with by edit (map proposed old)
changed_behind by edit old front new last was is =
    is ∙ sym (behind_front by edit (map proposed front) (proposed last))
    ∙ ap (proposals_with by edit) (sym (pushed proposed front old last was))

-- what is in a line is there as it is read
in_line : (line : ℕ) (ways : List (Vec Change Global)) → any_in_line line ways ≡ are_in_line line (map way_parsed ways)
in_line line [] = refl
in_line line (way ∷ ways) =
    ap (λ b. b || any_in_line line ways) (any_mapped edit_of (λ edit. edit.start.line == line) way.items)
    ∙ ap (λ b. list_any (λ edit. edit.start.line == line) (map edit_of way.items) || b) (in_line line ways)

-- so is what is in each line that is drawn
pub in_lines : (drawn : List ParsedChange) (ways : List (Vec Change Global))
    → list_all (λ change. any_in_line change.line ways) drawn
    ≡ list_all (λ change. are_in_line change.line (map way_parsed ways)) drawn
in_lines [] ways = refl
in_lines (change ∷ drawn) ways =
    ap (λ b. b && list_all (λ change. any_in_line change.line ways) drawn) (in_line change.line ways)
    ∙ ap (λ b. are_in_line change.line (map way_parsed ways) && b) (in_lines drawn ways)
