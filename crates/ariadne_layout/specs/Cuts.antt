-- Which parts of a line are shown where it is cut, as they are listed, and which have to be.
use Rattle.std.specs.Prelude.{⊤, ℕ, ◌+◌, ◌<◌, ◌≤◌, ◌≡◌, Bool, ◌||◌, ◌&&◌, nat_le, nat_lt, if◌then◌else◌, ◌-◌, List, [], ◌∷◌, filter, length, map, slice_get, Some}
use Rattle.std.specs.List.{list_any}
use Rattle.ariadne_base.specs.Locations.{upto}
use Rattle.ariadne_picture.specs.declared.label_info.LineLabel.{LineLabel}
use Rattle.ariadne_picture.specs.declared.sight.Part.{Part}
use Rattle.ariadne_picture.specs.declared.sight.Sight.{Sight}
use Rattle.ariadne_picture.specs.declared.switches.CharSet.{CharSet}
use Rattle.ariadne_picture.specs.declared.switches.Switches.{Switches}
use Rattle.ariadne_picture.specs.Lists.{total}
use Rattle.ariadne_picture.specs.Columns.{columns_of, is_in, mark_columns, sight_in, whole_width}
use Rattle.ariadne_picture.specs.Columns.{needed_labels, or_begin, place_part, span_part}

-- ---- the parts that are shown

-- parts in their order, from place n on: each has a place, and one or more stand between two of them
unfoldable pub AreFrom : ℕ → List Part → Type 0
AreFrom n [] = ⊤
AreFrom n (p ∷ parts) = (n ≤ p.from) × (p.from < p.to) × AreFrom (p.to + 1) parts

-- the same, from the line's begin on
abbrev pub AreApart : List Part → Type 0
AreApart parts = AreFrom 0 parts

-- what is seen of each of the n places of a line of which these parts are shown; one without parts is
-- shown whole, and has no list
unfoldable pub sights_in : List Part → ℕ → List Sight
sights_in [] n = []
sights_in (p ∷ parts) n = map (sight_in (p ∷ parts)) (upto n)

-- the columns of the mark before one of these parts, if it stands before place n
unfoldable pub mark_before : CharSet → Part → ℕ → ℕ
mark_before set p n = if nat_lt 0 p.from && nat_le p.from n then mark_columns set else 0

-- the place behind the last of these parts, or else n
unfoldable pub end_of : ℕ → List Part → ℕ
end_of n [] = n
end_of n (p ∷ parts) = end_of p.to parts

-- the columns of the mark behind the last, if it stands before place n
unfoldable pub mark_behind : CharSet → List Part → ℕ → ℕ
mark_behind set parts n = if nat_lt 0 (length parts) && nat_lt (end_of 0 parts) n then mark_columns set else 0

-- the column that place k begins at of a text of which these parts are shown
unfoldable pub cut_column : Switches → List ℕ → List Part → ℕ → ℕ
cut_column switches text parts k =
    total (λ j. columns_of switches.char_set (sight_in parts j) (whole_width switches.tab_width text j)) (upto k)

-- the same places are seen of a line of which other parts are shown, and none behind others
abbrev pub AreSeenAlike : List Part → List Part → Type 0
AreSeenAlike xs ys = (k : ℕ) → (is_in xs k ≡ is_in ys k)
    × (list_any (λ p. nat_lt k p.to) xs ≡ list_any (λ p. nat_lt k p.to) ys)

-- the last of these parts begins at place n or before
abbrev pub BeginBy : List Part → ℕ → Type 0
BeginBy parts n = (p : Part) → slice_get parts (length parts - 1) ≡ Some p → p.from ≤ n

-- ---- the parts that have to be

-- a part has a place
abbrev pub HasPlace : Part → Type 0
HasPlace p = p.from < p.to

-- what a label spans, or else the place that its strokes lead to
unfoldable pub label_part : Bool → ℕ → LineLabel → Part
label_part spans offset x = if spans then span_part offset x else place_part x

-- the parts of all labels, or of those with a message
abbrev pub parts_of_labels : Bool → Bool → ℕ → List LineLabel → List Part
parts_of_labels spans all offset labels =
    map (label_part spans offset) (filter (λ x. all || x.info.has_message) labels)

-- the parts of the labels that a line is cut round
abbrev pub needed : Bool → ℕ → List LineLabel → List Part
needed spans offset labels = or_begin (map (label_part spans offset) (needed_labels labels))
