use Rattle.std.proofs.Common.{◌≡◌, ◌∙◌, ap, map, subst, List}
use Rattle.std.proofs.lemmas.Result.{IfErr-weaker, IfOk-weaker}
use Rattle.serde_json.specs.Data.{Data}
use Rattle.serde_json.specs.View.{view}
use Rattle.ariadne_matcher_tables.proofs.Matchers.{no_json, of_matchers, seen_or}
use Rattle.ariadne_matcher_tables.specs.Editors.{listed, matchers_in, AreEntriesAt, IsOfEntries}
use Rattle.ariadne_matcher_tables.proofs.editor.editor_entries.Goals as goal

-- the matchers of a text
pub returns-in-Ok-clause-entries : goal.returns-in-Ok-clause-entries
returns-in-Ok-clause-entries c =
    let matchers : map view c.listed.result.now ≡ matchers_in (view c.in-Ok.value) =
    c.listed.ensures ∙ ap listed (ap (λ v. view v.now) c.unwrap_or.ensures ∙ seen_or c.get.result _ _ c.get.ensures) in
    IfOk-weaker c.each_entry.result _ _
    (λ x h. record {
      value = view c.in-Ok.value;
      read = c.in-Ok.ensures.ok;
      entries_are = subst (λ (values : List Data). AreEntriesAt values x.items) matchers h;
    }) c.each_entry.ensures.entries

-- one of them is refused
pub returns-in-Ok-clause-refusal : goal.returns-in-Ok-clause-refusal
returns-in-Ok-clause-refusal c =
    let matchers : map view c.listed.result.now ≡ matchers_in (view c.in-Ok.value) =
    c.listed.ensures ∙ ap listed (ap (λ v. view v.now) c.unwrap_or.ensures ∙ seen_or c.get.result _ _ c.get.ensures) in
    IfErr-weaker c.each_entry.result _ _
    (λ x h. of_matchers c.args.text.now (view c.in-Ok.value) x c.in-Ok.ensures.ok
    (subst (λ (values : List Data). IsOfEntries values x) matchers h)) c.each_entry.ensures.refusal

-- it is no JSON
pub returns-in-Err-clause-refusal : goal.returns-in-Err-clause-refusal
returns-in-Err-clause-refusal c = no_json c.args.text.now c.in-Err.error c.of_json.result c.in-Err.ensures.err c.of_json.ensures
