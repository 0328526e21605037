-- Lists of locations, and values without floats.
use Rattle.std.proofs.Common.{◌≡◌, ◌∙◌, ℕ, ◌+◌, ◌<◌, false, ◌||◌, List, [], ◌∷◌, ◌++◌, length, map, take, drop, get_or, refl, ap, sym, arith, Option, Some, None, option_map, String, string_bytes, codes, nat_lt, eqb}
use Rattle.std.specs.Cmp.Lexicographic.{slice_cmp}
use Rattle.std.specs.Ordering.{match_ordering, nat_cmp}
use Rattle.std.specs.declared.alloc.Global.{Global}
use Rattle.std.specs.declared.cmp.Ordering.{Ordering}
use Rattle.std.specs.declared.cmp.Ordering.TheVariants.{Less, Equal, Greater}
use Rattle.std.specs.List.{slice_get}
use Rattle.std.proofs.lemmas.Bool.{cond_both, or_from, or_parts}
use Rattle.std.proofs.lemmas.List.{length-map, length-take-le, map-append, take_more}
use Rattle.serde_json.specs.Data.{Data, Members, array, member, no_members, object, put, string}
use Rattle.serde_json.specs.View.{items_of, view}
use Rattle.serde_json.specs.Written.{has_float, items_have_float, members_have_float}
use Rattle.serde_json.specs.declared.value.Value.{Value}
use Rattle.ariadne_parse.specs.declared.diagnostic.Diagnostic.{Diagnostic}
use Rattle.ariadne_parse.specs.declared.diagnostic.Location.{Location}
use Rattle.ariadne_outputs.specs.declared.located.Located.{Located}
use Rattle.ariadne_outputs.specs.Located.{LocatedSpan, first_of, located_span_of, located_spans_of, others_of, said_at, severity_word, whole_of}
use Rattle.ariadne_outputs.specs.Sarif.{driver_of, file_data, sarif_location_members, message_data, number_data, own_data, region_of, related_data, related_datas, result_of, text_data, uri_of, with_column, with_end, with_message, with_region, with_rule, with_location}

-- ---- the first, and the others

pub first_is : (spans : List Located) → option_map located_span_of (slice_get spans 0) ≡ first_of (located_spans_of spans)
first_is [] = refl
first_is (it ∷ spans) = refl

pub others_are : (spans : List Located) → located_spans_of (drop 1 spans) ≡ others_of (located_spans_of spans)
others_are [] = refl
others_are (it ∷ spans) = refl

-- ---- related locations

-- a location more
datas_more : (id : ℕ) (located_spans : List LocatedSpan) (it : LocatedSpan)
    → related_datas id (located_spans ++ it ∷ []) ≡ related_datas id located_spans ++ related_data (id + length located_spans) it ∷ []
datas_more id [] it = let same : id ≡ id + 0 = omega arith in ap (λ n. related_data n it ∷ []) same
datas_more id (first ∷ located_spans) it =
    let same : id + 1 + length located_spans ≡ id + length (first ∷ located_spans) = omega arith in
    ap (λ ds. related_data id first ∷ ds)
    (datas_more (id + 1) located_spans it ∙ ap (λ n. related_datas (id + 1) located_spans ++ related_data n it ∷ []) same)

pub related_more : (all new : List Value) (spans : List Located) (index : ℕ) (span : Located) (value : Value)
    → map view all ≡ related_datas 1 (located_spans_of (take index spans)) → index < length spans
    → span ≡ get_or spans index span → view value ≡ related_data (index + 1) (located_span_of span)
    → new ≡ all ++ value ∷ []
    → map view new ≡ related_datas 1 (located_spans_of (take (index + 1) spans))
related_more all new spans index span value so_far within is value_is push =
    let front = located_spans_of (take index spans) in
    let more : take (index + 1) spans ≡ take index spans ++ span ∷ [] =
    take_more spans index span within ∙ ap (λ x. take index spans ++ x ∷ []) (sym is) in
    let count : 1 + length front ≡ index + 1 =
    omega (arith, length-map (take index spans) located_span_of, length-take-le index spans (omega arith)) in
    ap (map view) push ∙ map-append view all (value ∷ []) ∙ ap (λ ds. ds ++ view value ∷ []) so_far
    ∙ ap (λ d. related_datas 1 front ++ d ∷ []) value_is
    ∙ ap (λ n. related_datas 1 front ++ related_data n (located_span_of span) ∷ []) (sym count)
    ∙ sym (datas_more 1 front (located_span_of span))
    ∙ ap (related_datas 1) (sym (map-append located_span_of (take index spans) (span ∷ [])))
    ∙ ap (λ ps. related_datas 1 (located_spans_of ps)) (sym more)

-- ---- values without floats

-- a member that has none, among others that have none
float_by : (o : Ordering) (k l : List ℕ) (d e : Data) (ms more : Members) → has_float d ≡ false → has_float e ≡ false
    → members_have_float ms ≡ false → members_have_float more ≡ false
    → members_have_float (match_ordering o (member k d (member l e ms)) (member l d ms) (member l e more)) ≡ false
float_by Less k l d e ms more d_none e_none none more_none =
    or_from (has_float d) (has_float e || members_have_float ms) d_none (or_from (has_float e) (members_have_float ms) e_none none)
float_by Equal k l d e ms more d_none e_none none more_none = or_from (has_float d) (members_have_float ms) d_none none
float_by Greater k l d e ms more d_none e_none none more_none =
    or_from (has_float e) (members_have_float more) e_none more_none

pub put_none : (k : List ℕ) (d : Data) (ms : Members) → has_float d ≡ false → members_have_float ms ≡ false
    → members_have_float (put k d ms) ≡ false
put_none k d no_members d_none none = or_from (has_float d) false d_none refl
put_none k d (member l e ms) d_none none =
    let both = or_parts (has_float e) (members_have_float ms) none in
    float_by (slice_cmp nat_cmp k l) k l d e ms (put k d ms) d_none both.0 both.1 (put_none k d ms d_none both.1)

column_none : (name : List ℕ) (column : Option ℕ) (ms : Members) → members_have_float ms ≡ false
    → members_have_float (with_column name column ms) ≡ false
column_none name None ms none = none
column_none name (Some column) ms none =
    cond_both (nat_lt 0 column) (put name (number_data column) ms) ms (λ x. members_have_float x ≡ false)
    (λ e. put_none name (number_data column) ms refl none) (λ e. none)

location_none : (line_name column_name : List ℕ) (location : Location) (ms : Members) → members_have_float ms ≡ false
    → members_have_float (with_location line_name column_name location ms) ≡ false
location_none line_name column_name location ms none =
    column_none column_name location.column (put line_name (number_data location.line) ms)
    (put_none line_name (number_data location.line) ms refl none)

end_none : (end : Option Location) (ms : Members) → members_have_float ms ≡ false → members_have_float (with_end end ms) ≡ false
end_none None ms none = none
end_none (Some end) ms none = location_none (codes "endLine") (codes "endColumn") end ms none

region_none : (it : LocatedSpan) → has_float (region_of it) ≡ false
region_none it =
    end_none it.end (with_location (codes "startLine") (codes "startColumn") it.start no_members)
    (location_none (codes "startLine") (codes "startColumn") it.start no_members refl)

located_span_none : (it : LocatedSpan) → members_have_float (sarif_location_members it) ≡ false
located_span_none it =
    let file = put (codes "artifactLocation") (file_data (string_bytes it.span.file)) no_members in
    let none : members_have_float file ≡ false = put_none (codes "artifactLocation") (file_data (string_bytes it.span.file)) no_members
    (put_none (codes "uri") (string (uri_of (string_bytes it.span.file))) no_members refl refl) refl in
    put_none (codes "physicalLocation") (object (with_region it file)) no_members
    (cond_both (nat_lt 0 it.start.line) (put (codes "region") (region_of it) file) file (λ x. members_have_float x ≡ false)
    (λ e. put_none (codes "region") (region_of it) file (region_none it) none) (λ e. none))
    refl

message_none : (text : List ℕ) → has_float (message_data text) ≡ false
message_none text = put_none (codes "text") (text_data text) no_members refl refl

with_message_none : (text : List ℕ) (ms : Members) → members_have_float ms ≡ false → members_have_float (with_message text ms) ≡ false
with_message_none text ms none =
    cond_both (eqb (length text) 0) ms (put (codes "message") (message_data text) ms) (λ x. members_have_float x ≡ false)
    (λ e. none) (λ e. put_none (codes "message") (message_data text) ms (message_none text) none)

related_none : (id : ℕ) (located_spans : List LocatedSpan) → items_have_float (items_of (related_datas id located_spans)) ≡ false
related_none id [] = refl
related_none id (it ∷ located_spans) =
    or_from (has_float (related_data id it)) (items_have_float (items_of (related_datas (id + 1) located_spans)))
    (with_message_none (said_at it) (put (codes "id") (number_data id) (sarif_location_members it))
    (put_none (codes "id") (number_data id) (sarif_location_members it) refl (located_span_none it)))
    (related_none (id + 1) located_spans)

own_none : (main : Option LocatedSpan) → items_have_float (items_of (own_data main)) ≡ false
own_none None = refl
own_none (Some main) = or_from (members_have_float (sarif_location_members main)) false (located_span_none main) refl

rule_none : (code : Option (String Global)) (ms : Members) → members_have_float ms ≡ false → members_have_float (with_rule code ms) ≡ false
rule_none None ms none = none
rule_none (Some code) ms none = put_none (codes "ruleId") (text_data (string_bytes code)) ms refl none

pub result_none : (parsed : Diagnostic) (located_spans : List LocatedSpan) → has_float (result_of parsed located_spans) ≡ false
result_none parsed located_spans =
    let level = put (codes "level") (string (severity_word parsed.severity)) no_members in
    let own = put (codes "locations") (array (items_of (own_data (first_of located_spans)))) level in
    let message = put (codes "message") (message_data (whole_of parsed (first_of located_spans))) own in
    let related = put (codes "relatedLocations") (array (items_of (related_datas 1 (others_of located_spans)))) message in
    rule_none parsed.code related
    (put_none (codes "relatedLocations") (array (items_of (related_datas 1 (others_of located_spans)))) message
    (related_none 1 (others_of located_spans))
    (put_none (codes "message") (message_data (whole_of parsed (first_of located_spans))) own
    (message_none (whole_of parsed (first_of located_spans)))
    (put_none (codes "locations") (array (items_of (own_data (first_of located_spans)))) level (own_none (first_of located_spans))
    (put_none (codes "level") (string (severity_word parsed.severity)) no_members refl refl))))

pub driver_none : (version : List ℕ) → has_float (driver_of version) ≡ false
driver_none version =
    put_none (codes "version") (string version) (put (codes "name") (string (codes "ariadne-show")) no_members) refl
    (put_none (codes "name") (string (codes "ariadne-show")) no_members refl refl)
