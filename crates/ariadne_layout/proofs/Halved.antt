-- Candidates split into two: what the first half has, and what the second has behind it, is what all have.
use Rattle.std.proofs.Common.{◌≡◌, ℕ, ◌-◌, ◌/◌, ◌<◌, ◌≤◌, Bool, true, false, cond, List, [], ◌++◌, None, Bor, length, take, drop, filter, map, is_some, slice_get}
use Rattle.std.proofs.Common.{refl, sym, ap, ◌∙◌, subst, arith, length-drop, option_copied, option_to_list}
use Rattle.std.specs.List.{All, filter_map}
use Rattle.std.proofs.lemmas.List.{append-nil, append_assoc, length-take-le, map-append, take-append-drop}
use Rattle.std.proofs.lemmas.List.Elements.{All-drop, All-take, filter-append, filter_map-append}
use Rattle.ariadne_picture.specs.declared.label_info.LabelInfo.{LabelInfo}
use Rattle.ariadne_picture.specs.declared.label_info.LineLabel.{LineLabel}
use Rattle.ariadne_picture.specs.Ranks.{is_inline}
use Rattle.ariadne_layout.specs.declared.candidates.Candidates.{Candidates}
use Rattle.ariadne_layout.specs.Candidates.{AreThere, Halves, count, infos_among}
use Rattle.ariadne_layout.specs.Choices.{infos_of, inline_infos, numbered}

-- the labels of the first numbers, and of the others
numbered-both : (infos : List LabelInfo) (numbers : List ℕ) (n : ℕ) → numbered infos numbers ≡ numbered infos (take n numbers) ++ numbered infos (drop n numbers)
unfolding numbered
numbered-both infos numbers n =
    ap (filter_map (slice_get infos)) (sym (take-append-drop n numbers)) ∙ filter_map-append (slice_get infos) (take n numbers) (drop n numbers)

-- a line has one margin label at most
one-at-most : (b : Bool) → cond b 1 0 ≤ 1
one-at-most true = omega arith
one-at-most false = omega arith

-- of the labels of a line those that are candidates
abbrev line-infos : Bool → List LineLabel → List LabelInfo
line-infos inline labels = cond inline (inline_infos labels) (infos_of labels)

-- of none there is none
line-infos-none : (inline : Bool) → line-infos inline [] ≡ []
unfolding inline_infos infos_of
line-infos-none true = refl
line-infos-none false = refl

-- of two lists they are those of the first, and those of the second
line-infos-both : (inline : Bool) (xs ys : List LineLabel) → line-infos inline (xs ++ ys) ≡ line-infos inline xs ++ line-infos inline ys
unfolding inline_infos infos_of
line-infos-both true xs ys =
    let inside = λ (x : LineLabel). is_inline x.side in
    let info = λ (x : LineLabel). x.info in
    ap (map info) (filter-append inside xs ys) ∙ map-append info (filter inside xs) (filter inside ys)
line-infos-both false xs ys = map-append (λ (x : LineLabel). x.info) xs ys

-- the numbers are split, where they are more than the labels of the line
pub halved-numbers : (whole : Candidates) (first second : Bor (List ℕ)) (none : Bor (List LineLabel)) → 1 < count whole
    → length whole.labels.now < length whole.touching.now → AreThere whole → first.now ≡ take (length whole.touching.now / 2) whole.touching.now
    → second.now ≡ drop (length whole.touching.now / 2) whole.touching.now → none.now ≡ []
    → Halves whole (record whole { touching = first; labels = none }) (record whole { margin = None; touching = second })
unfolding infos_among infos_of
halved-numbers whole first second none some more there is-first is-second empty =
    let margin = infos_of (option_to_list (option_copied whole.margin)) in
    let n = length whole.touching.now / 2 in
    let front = take n whole.touching.now in
    let back = drop n whole.touching.now in
    let among = numbered whole.multi_line.now in
    let labels = line-infos whole.is_inline whole.labels.now in
    let first-len : length first.now ≡ n = ap length is-first ∙ length-take-le n whole.touching.now (omega arith) in
    let second-len : length second.now ≡ length whole.touching.now - n = ap length is-second ∙ length-drop n whole.touching.now in
    let none-len : length none.now ≡ 0 = ap length empty in
    record {
      infos = ap (λ t. (margin ++ t) ++ labels) (numbered-both whole.multi_line.now whole.touching.now n)
          ∙ ap (λ t. t ++ labels) (sym (append_assoc margin (among front) (among back)))
          ∙ append_assoc (margin ++ among front) (among back) labels
          ∙ ap (λ t. t ++ (among back ++ labels)) (sym (append-nil (margin ++ among front)))
          ∙ (λ i. ((margin ++ among (sym is-first i)) ++ sym (ap (line-infos whole.is_inline) empty ∙ line-infos-none whole.is_inline) i)
          ++ (among (sym is-second i) ++ labels));
      fewer-first = omega arith;
      fewer-second = omega arith;
      there-first = subst (All (λ i. i < length whole.multi_line.now)) (sym is-first) (All-take (λ i. i < length whole.multi_line.now) n whole.touching.now there);
      there-second = subst (All (λ i. i < length whole.multi_line.now)) (sym is-second) (All-drop (λ i. i < length whole.multi_line.now) n whole.touching.now there);
    }

-- else the labels of the line are
pub halved-labels : (whole : Candidates) (first second : Bor (List LineLabel)) (none : Bor (List ℕ)) → 1 < count whole
    → length whole.touching.now ≤ length whole.labels.now → AreThere whole → first.now ≡ take (length whole.labels.now / 2) whole.labels.now
    → second.now ≡ drop (length whole.labels.now / 2) whole.labels.now → none.now ≡ []
    → Halves whole (record whole { labels = first }) (record whole { margin = None; touching = none; labels = second })
unfolding infos_among infos_of numbered
halved-labels whole first second none some more there is-first is-second empty =
    let others = infos_of (option_to_list (option_copied whole.margin)) ++ numbered whole.multi_line.now whole.touching.now in
    let n = length whole.labels.now / 2 in
    let front = take n whole.labels.now in
    let back = drop n whole.labels.now in
    let among = line-infos whole.is_inline in
    let first-len : length first.now ≡ n = ap length is-first ∙ length-take-le n whole.labels.now (omega arith) in
    let second-len : length second.now ≡ length whole.labels.now - n = ap length is-second ∙ length-drop n whole.labels.now in
    let one = one-at-most (is_some whole.margin) in
    let none-len : length none.now ≡ 0 = ap length empty in
    record {
      infos = ap (λ t. others ++ t) (ap among (sym (take-append-drop n whole.labels.now)) ∙ line-infos-both whole.is_inline front back)
          ∙ sym (append_assoc others (among front) (among back))
          ∙ (λ i. (others ++ among (sym is-first i)) ++ (numbered whole.multi_line.now (sym empty i) ++ among (sym is-second i)));
      fewer-first = omega arith;
      fewer-second = omega arith;
      there-first = there;
      there-second = subst (All (λ i. i < length whole.multi_line.now)) (sym empty) (λ k d h. absurd (omega arith));
    }
