-- What is found in a value nests no deeper than the value.
use Rattle.std.proofs.Common.{◌≡◌, ◌≤◌, ap, arith, refl, sym, ℕ, Bool, true, false, cond, List, Ordering, Less, Equal, Greater}
use Rattle.std.specs.Prelude.{Option, Some, None, option_and_then, is_some, codes}
use Rattle.std.specs.Cmp.Lexicographic.{slice_cmp}
use Rattle.std.specs.Ordering.{nat_cmp, match_ordering}
use Rattle.std.specs.Str.{bytes_eq}
use Rattle.std.proofs.lemmas.Option.{none-some, same_Some}
use Rattle.serde_json.specs.Data.{Data, null, boolean, number, string, array, object, Members, no_members, member, depth, members_depth}
use Rattle.serde_json.specs.Find.{get, get_member}
use Rattle.ariadne_parse.specs.Members.{text_at}
use Rattle.ariadne_parse.specs.ParsedDiagnostics.{handed_on, if_rustc, is_rustc, rustc_for, rustc_in}

-- a member
picked : (o : Ordering) (n : ℕ) (d : Data) (e : Option Data) (f : Data) → depth d ≤ n
    → (e ≡ Some f → depth f ≤ n) → match_ordering o e (Some d) e ≡ Some f → depth f ≤ n
picked Less n d e f here there is = there is
picked Equal n d e f here there is =
    let same = ap depth (same_Some d f is) in omega (arith, same, here)
picked Greater n d e f here there is = there is

member_depth : (name : List ℕ) (ms : Members) (n : ℕ) (f : Data) → members_depth ms ≤ n → get_member name ms ≡ Some f → depth f ≤ n
member_depth name no_members n f le is = absurd (none-some f is)
member_depth name (member l d ms) n f le is =
    picked (slice_cmp nat_cmp name l) n d (get_member name ms) f (omega arith) (λ e. member_depth name ms n f (omega arith) e) is

found_depth : (name : List ℕ) (d f : Data) → get name d ≡ Some f → depth f ≤ depth d
found_depth name null f is = absurd (none-some f is)
found_depth name (boolean b) f is = absurd (none-some f is)
found_depth name (number x) f is = absurd (none-some f is)
found_depth name (string s) f is = absurd (none-some f is)
found_depth name (array ds) f is = absurd (none-some f is)
found_depth name (object ms) f is = let le = member_depth name ms (members_depth ms) f (omega arith) is in omega arith

-- a diagnostic
own_depth : (b : Bool) (d m : Data) → cond b (Some d) None ≡ Some m → depth m ≤ depth d
own_depth true d m is = let same = ap depth (same_Some d m is) in omega (arith, same)
own_depth false d m is = absurd (none-some m is)

handed_depth : (found : Option Data) (n : ℕ) (m : Data) → ((e : Data) → found ≡ Some e → depth e ≤ n)
    → option_and_then if_rustc found ≡ Some m → depth m ≤ n
handed_depth None n m le is = absurd (none-some m is)
handed_depth (Some e) n m le is = let own = own_depth (is_rustc e) e m is in let there = le e refl in omega (arith, own, there)

by_reason : (b : Bool) (d m : Data) → cond b (option_and_then if_rustc (get (codes "message") d)) None ≡ Some m → depth m ≤ depth d
by_reason true d m is = handed_depth (get (codes "message") d) (depth d) m (λ e at_name. found_depth (codes "message") d e at_name) is
by_reason false d m is = absurd (none-some m is)

rustc_depth : (reason : Option (List ℕ)) (d m : Data) → rustc_for reason d ≡ Some m → depth m ≤ depth d
rustc_depth None d m is = own_depth (is_rustc d) d m is
rustc_depth (Some reason) d m is = by_reason (bytes_eq reason (codes "compiler-message")) d m is

handed_by : (b : Bool) (d m : Data) → cond b (rustc_in d) None ≡ Some m → depth m ≤ depth d
handed_by true d m is = rustc_depth (text_at (codes "reason") d) d m is
handed_by false d m is = absurd (none-some m is)

-- one that cargo hands on
pub message_depth : (d m : Data) → Some m ≡ handed_on d → depth m ≤ depth d
message_depth d m is = handed_by (is_some (text_at (codes "reason") d)) d m (sym is)
