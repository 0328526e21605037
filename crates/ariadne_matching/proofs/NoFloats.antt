-- Reports have no floats, so that their text is the compact one.
use Rattle.std.proofs.Common.{◌≡◌, ℕ, false, ◌||◌, List, refl, Option, Some, None, String, string_bytes, codes}
use Rattle.std.specs.Cmp.Lexicographic.{slice_cmp}
use Rattle.std.specs.Ordering.{match_ordering, nat_cmp}
use Rattle.std.specs.declared.alloc.Global.{Global}
use Rattle.std.specs.declared.cmp.Ordering.{Ordering}
use Rattle.std.specs.declared.cmp.Ordering.TheVariants.{Less, Equal, Greater}
use Rattle.std.proofs.lemmas.Bool.{or_from, or_parts}
use Rattle.serde_json.specs.Data.{Data, Members, member, no_members, put, string}
use Rattle.serde_json.specs.Written.{has_float, members_have_float}
use Rattle.ariadne_matchers.specs.declared.matched.End.{End}
use Rattle.ariadne_matchers.specs.declared.matched.Matched.{Matched}
use Rattle.ariadne_matchers.specs.declared.placed.Placed.{Placed}
use Rattle.ariadne_matching.specs.MatchedReports.{end_column, kind_word, label_of, labels_of, report_of, spot_of, with_code, with_end}

-- ---- members

-- a member that has none, among others that have none
float_by : (o : Ordering) (k l : List ℕ) (d e : Data) (ms more : Members) → has_float d ≡ false → has_float e ≡ false
    → members_have_float ms ≡ false → members_have_float more ≡ false
    → members_have_float (match_ordering o (member k d (member l e ms)) (member l d ms) (member l e more)) ≡ false
float_by Less k l d e ms more d_none e_none none more_none =
    or_from (has_float d) (has_float e || members_have_float ms) d_none (or_from (has_float e) (members_have_float ms) e_none none)
float_by Equal k l d e ms more d_none e_none none more_none = or_from (has_float d) (members_have_float ms) d_none none
float_by Greater k l d e ms more d_none e_none none more_none =
    or_from (has_float e) (members_have_float more) e_none more_none

put_none : (k : List ℕ) (d : Data) (ms : Members) → has_float d ≡ false → members_have_float ms ≡ false
    → members_have_float (put k d ms) ≡ false
put_none k d no_members d_none none = or_from (has_float d) false d_none refl
put_none k d (member l e ms) d_none none =
    let both = or_parts (has_float e) (members_have_float ms) none in
    float_by (slice_cmp nat_cmp k l) k l d e ms (put k d ms) d_none both.0 both.1 (put_none k d ms d_none both.1)

-- ---- the report

spot_none : (line : ℕ) (column : Option ℕ) → has_float (spot_of line column) ≡ false
spot_none line None = refl
spot_none line (Some column) = refl

end_none : (text : List ℕ) (end : Option End) (ms : Members) → members_have_float ms ≡ false → members_have_float (with_end text end ms) ≡ false
end_none text None ms none = none
end_none text (Some end) ms none =
    put_none (codes "end") (spot_of end.line (end_column text end)) ms (spot_none end.line (end_column text end)) none

label_none : (matched : Matched) (placed : Placed) (text : List ℕ) → has_float (label_of matched placed text) ≡ false
label_none matched placed text =
    let file = put (codes "file") (string (string_bytes matched.file)) no_members in
    end_none text placed.end (put (codes "start") (spot_of placed.line placed.column) file)
    (put_none (codes "start") (spot_of placed.line placed.column) file (spot_none placed.line placed.column)
    (put_none (codes "file") (string (string_bytes matched.file)) no_members refl refl))

code_none : (code : Option (String Global)) (ms : Members) → members_have_float ms ≡ false → members_have_float (with_code code ms) ≡ false
code_none None ms none = none
code_none (Some code) ms none = put_none (codes "code") (string (string_bytes code)) ms refl none

pub report_none : (matched : Matched) (placed : Placed) (text : List ℕ) → has_float (report_of matched placed text) ≡ false
report_none matched placed text =
    let kind = put (codes "kind") (string (kind_word matched.severity)) no_members in
    let labels = put (codes "labels") (labels_of matched placed text) kind in
    code_none matched.code (put (codes "message") (string (string_bytes matched.message)) labels)
    (put_none (codes "message") (string (string_bytes matched.message)) labels refl
    (put_none (codes "labels") (labels_of matched placed text) kind (or_from (has_float (label_of matched placed text)) false (label_none matched placed text) refl)
    (put_none (codes "kind") (string (kind_word matched.severity)) no_members refl refl)))
