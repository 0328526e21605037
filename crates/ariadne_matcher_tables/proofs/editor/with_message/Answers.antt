use Rattle.std.proofs.Common.{◌++◌, ◌∷◌, ◌∙◌, [], ap}
use Rattle.ariadne_matcher_tables.specs.Editors.{say_message}
use Rattle.ariadne_matcher_tables.proofs.Matchers.{message_kept, message_last}
use Rattle.ariadne_matcher_tables.proofs.editor.with_message.Goals as goal

-- a group is the message
pub returns-then-say_message : goal.returns-then-say_message
returns-then-say_message c = message_kept c.args.rows.items (c.if-say_message.ensures ∙ ap say_message c.as_slice.ensures.value)

-- none is, and the last row has it
pub returns-in_ok-push-in-Some : goal.returns-in_ok-push-in-Some
returns-in_ok-push-in-Some c =
    c.in_ok-push-in-Some.ensures.items
    ∙ ap (λ row. c.pop.new.self.items ++ row ∷ []) c.whole.ensures
    ∙ message_last c.args.rows.items c.pop.new.self.items c.in-Some.last (c.if-say_message.ensures ∙ ap say_message c.as_slice.ensures.value)
    c.in-Some.ensures.items
