-- The texts of a list, one by one.
use Rattle.std.proofs.Common.{◌≡◌, ◌∙◌, ℕ, ◌+◌, ◌<◌, ◌≤◌, List, [], ◌∷◌, ◌++◌, drop, length, get_or, refl, ap, sym, append-nil, append_assoc, Option, Some, None}
use Rattle.std.proofs.lemmas.List.{at_drop_all}
use Rattle.std.specs.Option.{option_and_then, option_map}
use Rattle.toml.proofs.Views.{items_view-drop}
use Rattle.toml.specs.Data.{as_str}
use Rattle.toml.specs.View.{items_view, view}
use Rattle.toml.specs.declared.value.Value.{Value}
use Rattle.ariadne_matcher_tables.specs.TableMembers.{text_before, texts_in}

-- texts in front of others
abbrev pub texts_behind : List (List ℕ) → Option (List (List ℕ)) → Option (List (List ℕ))
texts_behind front behind = option_map (λ texts. front ++ texts) behind

more_behind : (front : List (List ℕ)) (text : List ℕ) (behind : Option (List (List ℕ)))
    → texts_behind front (option_map (λ texts. text ∷ texts) behind) ≡ texts_behind (front ++ text ∷ []) behind
more_behind front text None = refl
more_behind front text (Some texts) = ap Some (sym (append_assoc front (text ∷ []) texts))

module _ (values : List Value) (front : List (List ℕ)) (i : ℕ)
    (before : texts_in (items_view values) ≡ texts_behind front (texts_in (items_view (drop i values)))) where
  at : (d : Value) → i < length values
      → texts_in (items_view values)
      ≡ texts_behind front (option_and_then (text_before (texts_in (items_view (drop (i + 1) values)))) (as_str (view (get_or values i d))))
  at d within = before ∙ ap (λ items. texts_behind front (texts_in items)) (items_view-drop values i d within)

  -- one that is no text, and there are none
  pub texts_none : (d : Value) → i < length values → None ≡ as_str (view (get_or values i d)) → None ≡ texts_in (items_view values)
  texts_none d within none =
      sym (at d within ∙ ap (λ o. texts_behind front (option_and_then (text_before (texts_in (items_view (drop (i + 1) values)))) o)) (sym none))

  -- one more
  pub texts_more : (d : Value) (text : List ℕ) → i < length values → Some text ≡ as_str (view (get_or values i d))
      → texts_in (items_view values) ≡ texts_behind (front ++ text ∷ []) (texts_in (items_view (drop (i + 1) values)))
  texts_more d text within some =
      at d within ∙ ap (λ o. texts_behind front (option_and_then (text_before (texts_in (items_view (drop (i + 1) values)))) o)) (sym some)
      ∙ more_behind front text (texts_in (items_view (drop (i + 1) values)))

  -- all of them
  pub texts_all : length values ≤ i → Some front ≡ texts_in (items_view values)
  texts_all past =
      sym (before ∙ at_drop_all (λ values. texts_behind front (texts_in (items_view values))) values i past ∙ ap Some (append-nil front))
