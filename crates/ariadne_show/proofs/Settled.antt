-- A diagnostic of which all lines were read gets what shows its spans.
use Rattle.std.proofs.Common.{◌≡◌, ◌∙◌, List, [], ap, arith, length, map, refl}
use Rattle.std.proofs.lemmas.List.{with_items_is}
use Rattle.std.specs.Vec.{with_items}
use Rattle.std.specs.Prelude.{Result, Ok, Err, OnOk, Vec}
use Rattle.std.specs.List.{flat_map}
use Rattle.std.specs.declared.alloc.Global.{Global}
use Rattle.ariadne_blocks.specs.Repeats.{once}
use Rattle.ariadne_blocks.specs.MarkedLocations.{all_settled, marks_at, marks_of}
use Rattle.ariadne_blocks.specs.declared.drawn.Drawn.{Drawn}
use Rattle.ariadne_parse.specs.Spans.{seen}
use Rattle.ariadne_parse.specs.declared.diagnostic.Diagnostic.{Diagnostic}
use Rattle.ariadne_parse.specs.declared.diagnostic.Span.{Span}
use Rattle.ariadne_show.specs.Known.{AreMarksSettled}
use Rattle.ariadne_show.specs.declared.known.Known.{Known}

-- the items of a list that was written to at its length
pub kept_items : (v : Vec Span Global) (given again ws : List Span) → given ≡ v.items → length ws ≡ length given
    → again ≡ (with_items v ws).items → again ≡ ws
kept_items v given again ws start same is =
    is ∙ with_items_is v ws (omega (arith, same, ap length start))

-- marks that were drawn before, and no repeats, after Ok
pub settled_if : {T E : Type 0} (r : Result T E) (parsed : Diagnostic) (known : Known) (drawn : Vec Drawn Global)
    (settled single : Vec Span Global) (given marked : List Span) → given ≡ parsed.spans.items
    → map seen marked ≡ all_settled [] (map marks_of known.marked.items) (map seen given)
    → map marks_of drawn.items ≡ flat_map marks_at (map seen marked) → settled.items ≡ marked
    → OnOk r (map seen single.items ≡ once (map seen settled.items))
    → OnOk r (AreMarksSettled parsed (record parsed { spans = single }) known (record known { marked = drawn }))
settled_if (Ok x) parsed known drawn settled single given marked start all held stands dropped =
    let now : map seen marked ≡ all_settled [] (map marks_of known.marked.items) (map seen parsed.spans.items) =
    all ∙ ap (λ (l : List Span). all_settled [] (map marks_of known.marked.items) (map seen l)) start in record {
      spans = dropped ∙ ap once (ap (map seen) stands ∙ now);
      others = refl;
      marked = held ∙ ap (flat_map marks_at) now;
      known = refl;
    }
settled_if (Err e) parsed known drawn settled single given marked start all held stands dropped = tt
