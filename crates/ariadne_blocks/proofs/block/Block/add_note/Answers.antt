use Rattle.std.proofs.Common.{◌≡◌, ◌∙◌, ℕ, ap, refl, subst, sym}
use Rattle.std.specs.Prelude.{slice_get, string_bytes, List}
use Rattle.std.specs.Option.{option_copied}
use Rattle.std.proofs.lemmas.List.{length-map}
use Rattle.std.proofs.lemmas.Result.{IfOk-weaker}
use Rattle.ariadne_snippets.specs.Snippets.{IsUnread}
use Rattle.ariadne_parse.specs.Spans.{seen, Seen}
use Rattle.ariadne_blocks.specs.Blocks.{noted, view_of}
use Rattle.ariadne_blocks.specs.Blocks.IsNoted.{at_spans}
use Rattle.ariadne_blocks.specs.Telling.{telling}
use Rattle.ariadne_blocks.proofs.Viewed.{first_line_is, first_path, same_view}
use Rattle.ariadne_blocks.proofs.block.Block.add_note.Goals as goal

-- its spans stand behind, and the next rows are of it
pub returns : goal.returns
returns c =
    let old = c.args.self.now in
    let note = c.args.note in
    let first : option_copied c.first.result ≡ slice_get note.spans.items 0 =
    c.first.ensures.value ∙ ap (λ ps. slice_get ps 0) c.deref.ensures.value in
    IfOk-weaker c.push_note.result _ _
    (λ ok added. at_spans (sym c.is_beside.ensures ∙ c.if-is_beside.false)
    (subst (λ (line : ℕ). IsUnread line c.args.caret c.in_ok-self.field-0.snippet)
    (first_line_is note.spans.items c.first.result first) c.in_ok-self.ensures.awaits)
    (same_view _ (noted (telling note) (view_of old))
    (ap (λ (ps : List Seen). record (telling old.parsed) { spans = ps }) added)
    (first_path note.spans.items c.first.result _ first c.in_ok-self.ensures.path)
    (c.in_ok-self.ensures.at ∙ c.len-at.ensures ∙ old.parsed.spans.ok.0 ∙ sym (length-map old.parsed.spans.items seen))
    c.in_ok-self.ensures.marked refl refl refl refl refl c.clear.ensures.items
    (c.len-since.ensures ∙ old.parsed.helps.ok.0 ∙ sym (length-map old.parsed.helps.items string_bytes)) c.new-2.ensures.bytes))
    c.push_note.ensures
