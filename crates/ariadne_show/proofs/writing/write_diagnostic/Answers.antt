use Rattle.std.proofs.Common.{◌∙◌, List, ℕ, refl, subst, sym}
use Rattle.std.specs.Io.KnownBytes.{Appends}
use Rattle.ariadne_show.specs.Writing.{as_picture, as_text}
use Rattle.ariadne_show.proofs.writing.write_diagnostic.Goals as goal

-- it was drawn, behind a row where one stands in front
pub returns-then-is_picture : goal.returns-then-is_picture
returns-then-is_picture g c =
    as_picture (g.W.Write.contents c.send.new.out) (sym c.is_picture.ensures ∙ c.if-is_picture.true)
    (subst (λ (bytes : List ℕ). Appends (g.W.Write.contents c.args.out.now) (g.W.Write.contents c.send.new.out) bytes) c.gap.ensures
    c.in_ok-send.ensures.ok)
    c.in_ok-draw.ensures refl

-- it was written as a text
pub returns : goal.returns
returns g c =
    as_text (g.W.Write.contents c.send-2.new.out) (sym c.is_picture.ensures ∙ c.if-is_picture.false) c.if-parsed.false
    (subst (λ (bytes : List ℕ). Appends (g.W.Write.contents c.args.out.now) (g.W.Write.contents c.send-2.new.out) bytes)
    c.comma.ensures c.in_ok-send-2.ensures.ok)
    (subst (λ (bytes : List ℕ). Appends (g.W.Write.contents c.send-2.new.out) (g.W.Write.contents c.send-3.new.out) bytes)
    (c.as_bytes.ensures.value ∙ c.in_ok-text_of.ensures) c.in_ok-send-3.ensures.ok)
    c.behind_text.ensures
