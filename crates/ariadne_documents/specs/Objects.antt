-- Members of objects, by what each of them is.
use Rattle.std.specs.Prelude.{ℕ, Bool, true, false, ◌&&◌, ◌||◌, List, [], ◌++◌, Option, Some, None}
use Rattle.serde_json.specs.Data.{Data, Members, no_members, member}
use Rattle.ariadne_parse.specs.Read.{Read}

abbrev pub members_in : Option Members → Members
members_in None = no_members
members_in (Some members) = members

-- an object has one member
abbrev pub is_one : Members → Bool
is_one no_members = false
is_one (member k d no_members) = true
is_one (member k d (member l e others)) = false

-- each member passes
abbrev pub all_members : (Data → Bool) → Members → Bool
all_members test no_members = true
all_members test (member k d members) = test d && all_members test members

-- one of them does
abbrev pub any_member : (Data → Bool) → Members → Bool
any_member test no_members = false
any_member test (member k d members) = test d || any_member test members

-- what they become by their names, one behind the other
abbrev pub flat_members : (List ℕ → Data → List Read) → Members → List Read
flat_members become no_members = []
flat_members become (member k d members) = become k d ++ flat_members become members
