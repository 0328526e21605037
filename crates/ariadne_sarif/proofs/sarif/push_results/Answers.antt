-- A result that is parsed adds a diagnostic to those so far.
use Rattle.std.proofs.Common.{◌≡◌, ◌∙◌, ◌∷◌, ◌++◌, [], ap, refl, sym, append-nil}
use Rattle.std.specs.Prelude.{if◌then◌else◌, map}
use Rattle.std.proofs.lemmas.List.{map-append}
use Rattle.serde_json.specs.View.{items_view, view}
use Rattle.ariadne_parse.specs.Members.{flat_items}
use Rattle.ariadne_parse.specs.Read.{read}
use Rattle.ariadne_parse.proofs.Loops.{all_made, one_more}
use Rattle.ariadne_sarif.specs.SarifLogs.{result_parsed, result_read}
use Rattle.ariadne_sarif.proofs.sarif.push_results.Goals as goal
use Rattle.ariadne_sarif.proofs.sarif.push_results.Goals.{then-is_parsed+in_ok-parsed_by_result+in_ok-push, else-is_parsed}

pub loop-it-preserved : goal.loop-it-preserved
loop-it-preserved c =
    let items = c.loop-it.all.items in
    let run = view c.args.run.now in
    let it = view c.it-item.result in
    let grown : map read c.if-is_parsed.all.items ≡ map read items ++ result_parsed run it =
    elim c.if-is_parsed.branch [
      | then-is_parsed+in_ok-parsed_by_result+in_ok-push w ↦
          ap (λ v. map read v.items) w.all-is ∙ ap (map read) w.in_ok-push.ensures.items ∙ map-append read items (_ ∷ [])
          ∙ ap (λ parsed. map read items ++ parsed ∷ []) w.in_ok-parsed_by_result.ensures
          ∙ ap (λ b. map read items ++ (if b then result_read run it ∷ [] else [])) (sym w.if-is_parsed.true ∙ c.is_parsed.ensures)
      | else-is_parsed w ↦
          ap (λ v. map read v.items) w.all-is ∙ sym (append-nil (map read items))
          ∙ ap (λ b. map read items ++ (if b then result_read run it ∷ [] else [])) (sym w.if-is_parsed.false ∙ c.is_parsed.ensures)
    ] in
    one_more (λ l. flat_items (result_parsed run) (items_view l)) (λ l. flat_items (result_parsed run) (items_view l))
    c.args.results.now c.loop-it.it-index c.it-item.result (map read items) (result_parsed run it)
    (map read c.if-is_parsed.all.items) _ c.loop-it-test.true c.it-item.is refl grown c.loop-it.invariant

pub returns : goal.returns
returns c =
    all_made (λ l. flat_items (result_parsed (view c.args.run.now)) (items_view l)) c.args.results.now c.loop-it.it-index _ _
    c.loop-it-test.false refl c.loop-it.invariant
