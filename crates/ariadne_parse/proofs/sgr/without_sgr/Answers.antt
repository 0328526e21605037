use Rattle.std.proofs.Common.{◌∙◌, ◌++◌, ap, List, ℕ}
use Rattle.std.specs.Prelude.{string_bytes}
use Rattle.std.specs.List.{flat_map, slice_split}
use Rattle.ariadne_parse.specs.Sgr.{without_sequence}
use Rattle.ariadne_parse.proofs.Outcomes.{if_ok}
use Rattle.ariadne_parse.proofs.Splits.{bare_alone, bare_more, is_escape}
use Rattle.ariadne_parse.proofs.sgr.without_sgr.Goals as goal

-- the first piece, and those behind escapes
pub returns-in_ok-push_pieces-in-Some : goal.returns-in_ok-push_pieces-in-Some
returns-in_ok-push_pieces-in-Some c =
    bare_more c.args.line.now c.in-Some.front.now c.in-Some.behind.now (string_bytes c.push_pieces.new.bare) c.in-Some.ensures
    (c.in_ok-push_pieces-in-Some.ensures
    ∙ ap (λ (xs : List ℕ). xs ++ flat_map without_sequence (slice_split is_escape c.in-Some.behind.now)) c.in_ok-bare-in-Some.ensures.ok)

-- the line, where it has no escape
pub returns-in-None : goal.returns-in-None
returns-in-None c =
    if_ok c.from_str-in-None.result _ _ (λ bare same. same ∙ bare_alone c.args.line.now c.in-None.ensures) c.from_str-in-None.ensures.ok
