-- When labels are equal: where their spans, messages, colours, orders and priorities are. What they
-- feed a hasher is that of those five in turn.
use Rattle.std.specs.Prelude.{◌≡◌, ℕ, ◌&&◌, ◌++◌, Bool, true, List, nat_eq, pos}
use Rattle.std.specs.Prelude.{Option, Some, None}
use Rattle.std.specs.Option.{option_eq}
use Rattle.std.specs.Ordering.{int_eq}
use Rattle.std.specs.Cmp.{IsEquivalence, and_equiv, on_equiv, int_eq_equiv}
use Rattle.std.specs.Cmp.Lexicographic.{pointwise, options_equiv, nat_list_eq_equiv}
use Rattle.std.specs.Cmp.Rules.{hashing}
use Rattle.std.specs.Hash.{Alike, and-Alike, on_Alike, option, str, i32, isize}
use Rattle.std.proofs.Common.{rules, refl, ap, sym, true≢false}
use Rattle.ariadne_color.specs.contracts.color.ColorEq.TheImpl.Laws as equality
use Rattle.ariadne_color.specs.contracts.color.ColorHash.TheImpl.Laws as hashes
use Rattle.ariadne_picture.specs.Report.{LabelFields}
use Rattle.ariadne_color.specs.declared.color.Color.{Color}
use Rattle.ariadne_color.specs.contracts.color.ColorPartialEq.TheImpl as comparing
use Rattle.ariadne_color.specs.contracts.color.ColorHash.TheImpl as feeding

-- two colours are the same
abbrev pub color_eq : Color → Color → Bool
color_eq = comparing.ghosts.eq

-- what a colour feeds a hasher
abbrev pub color_writes : Color → List (List ℕ)
color_writes = feeding.ghosts.hash_input

-- the labels have all the same, where `same` compares their spans
abbrev pub label_eq : {S : Type 0} → (S → S → Bool) → LabelFields S → LabelFields S → Bool
label_eq same x y = same x.span y.span && (option_eq (pointwise nat_eq) x.message y.message
    && (option_eq color_eq x.color y.color
    && (int_eq x.order y.order && int_eq x.priority y.priority)))

-- that is an equivalence where `same` is one
pub label_equiv : {S : Type 0} {same : S → S → Bool} → IsEquivalence same
    → IsEquivalence (label_eq same)
label_equiv spans = and_equiv (on_equiv (λ l. l.span) spans)
    (and_equiv (on_equiv (λ l. l.message) (options_equiv nat_list_eq_equiv))
    (and_equiv (on_equiv (λ l. l.color) (options_equiv equality.laws-law))
    (and_equiv (on_equiv (λ l. l.order) int_eq_equiv) (on_equiv (λ l. l.priority) int_eq_equiv))))

-- what a label feeds a hasher, where `writes` are those of its span
abbrev pub label_writes : {S : Type 0} → (S → List (List ℕ)) → LabelFields S → List (List ℕ)
label_writes writes l = writes l.span ++ (option str l.message ++ (option color_writes l.color
    ++ (i32 l.order ++ i32 l.priority)))

-- equal options are hashed alike where what they hold is
option_alike : {A : Type 0} {same : A → A → Bool} {writes : A → List (List ℕ)} → Alike same writes
    → Alike (option_eq same) (option writes)
option_alike {A} {same} {writes} held = record { fed = go }
  where
    go : (x y : Option A) → option_eq same x y ≡ true → option writes x ≡ option writes y
    go None None h = refl
    go None (Some y) h = absurd (true≢false (sym h))
    go (Some x) None h = absurd (true≢false (sym h))
    go (Some x) (Some y) h = ap (λ w. isize (pos 1) ++ w) (held.fed x y h)

-- equal labels are hashed alike where their spans are
pub label_alike : {S : Type 0} {same : S → S → Bool} {writes : S → List (List ℕ)}
    → Alike same writes → Alike (label_eq same) (label_writes writes)
label_alike {S} {same} {writes} spans = record {
  fed = λ x y h.
      (and-Alike (on_Alike (λ (l : LabelFields S). l.span) spans)
      (and-Alike (on_Alike (λ (l : LabelFields S). l.message) (option_alike texts))
      (and-Alike (on_Alike (λ (l : LabelFields S). l.color) (option_alike colors))
      (and-Alike (on_Alike (λ (l : LabelFields S). l.order) numbers)
      (on_Alike (λ (l : LabelFields S). l.priority) numbers))))).fed x y h;
}
  where
    texts : Alike (pointwise nat_eq) str
    texts = record { fed = search (hashing, rules) }

    colors : Alike color_eq color_writes
    colors = record { fed = hashes.respects_eq-law }

    numbers : Alike int_eq i32
    numbers = record { fed = search (hashing, rules) }
