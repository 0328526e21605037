use Rattle.std.proofs.Common.{◌≡◌, ◌∙◌, ℕ, ap, refl, subst, sym}
use Rattle.std.specs.Prelude.{map, slice_get, string_bytes}
use Rattle.std.specs.Option.{option_copied}
use Rattle.std.proofs.lemmas.List.{length-map}
use Rattle.ariadne_snippets.specs.Snippets.{IsUnread}
use Rattle.ariadne_blocks.specs.Blocks.{begun, bytes_of, held_of}
use Rattle.ariadne_blocks.specs.Telling.{telling}
use Rattle.ariadne_blocks.proofs.Viewed.{first_goes_on, first_line_is, first_path, same_view}
use Rattle.ariadne_blocks.proofs.block.Block.new.Goals as goal

-- it tells what its head does
pub returns : goal.returns
returns c =
    let spans = c.args.parsed.spans.items in
    let first : option_copied c.first.result ≡ slice_get spans 0 =
    c.first.ensures.value ∙ ap (λ ps. slice_get ps 0) c.deref.ensures.value in
    let again : option_copied c.first-2.result ≡ slice_get spans 0 =
    c.first-2.ensures.value ∙ ap (λ ps. slice_get ps 0) c.deref-2.ensures.value in
    record {
      tells = refl;
      awaits = subst (λ (line : ℕ). IsUnread line c.args.caret c.in_ok-rows.rows.snippet)
          (first_line_is spans c.first.result first) c.in_ok-rows.ensures.awaits;
      behind = ap (map bytes_of) c.new-2.ensures.items;
      view = same_view _ (begun (telling c.args.parsed) c.args.head.now c.args.caret) refl
          (first_path spans c.first.result _ first c.in_ok-rows.ensures.path) c.in_ok-rows.ensures.at
          c.in_ok-rows.ensures.marked (ap (map held_of) c.new-2.ensures.items)
          (c.behind-goes_on.ensures ∙ first_goes_on c.args.head.now spans c.first-2.result again) refl refl refl c.new-3.ensures.items
          (c.len-since.ensures ∙ c.args.parsed.helps.ok.0 ∙ sym (length-map c.args.parsed.helps.items string_bytes)) c.new-4.ensures.bytes;
    }
