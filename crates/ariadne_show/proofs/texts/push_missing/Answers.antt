use Rattle.std.proofs.Common.{◌∙◌, ◌++◌, ◌∷◌, [], ap, append-nil, refl, sym}
use Rattle.std.specs.Prelude.{Option, option_map}
use Rattle.std.specs.Option.{option_to_list}
use Rattle.ariadne_parse.specs.declared.diagnostic.Span.{Span}
use Rattle.ariadne_show.specs.FoundSpans.{files_of}
use Rattle.ariadne_show.specs.TextDiagnostics.{missing_text, said_texts}
use Rattle.ariadne_show.proofs.Said.{texts_more}
use Rattle.ariadne_show.proofs.texts.push_missing.Goals as goal

-- one text, where there is such a span
pub returns-in_ok-push-in-Some : goal.returns-in_ok-push-in-Some
returns-in_ok-push-in-Some c =
    texts_more c.args.texts.now.items c.push.new.self.items _ _ c.in_ok-push-in-Some.ensures.items refl
    ∙ ap (λ t. said_texts c.args.texts.now.items ++ t ∷ []) c.in_ok-missing_text-in-Some.ensures
    ∙ ap (λ (o : Option Span). said_texts c.args.texts.now.items ++ option_to_list (option_map (missing_text (files_of c.args.shelf.now)) o))
    c.in-Some.ensures

-- none where there is none
pub returns-in-None : goal.returns-in-None
returns-in-None c =
    sym (append-nil (said_texts c.args.texts.now.items))
    ∙ ap (λ (o : Option Span). said_texts c.args.texts.now.items ++ option_to_list (option_map (missing_text (files_of c.args.shelf.now)) o))
    c.in-None.ensures
