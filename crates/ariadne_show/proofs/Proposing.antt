-- Proposals, one after the other: their files are settled, and they are drawn in the place of helps.
use Rattle.std.proofs.Common.{◌≡◌, ◌∙◌, ◌+◌, ◌<◌, ℕ, ap, arith, eqb-true, get_or, refl, sym, subst, length, [], append_assoc, append-nil}
use Rattle.std.proofs.Math.ListN.{set}
use Rattle.std.proofs.lemmas.Grind.{flat_map-append}
use Rattle.std.proofs.lemmas.Bool.{false≢true}
use Rattle.std.proofs.lemmas.List.{nil_from_length, take_more}
use Rattle.std.proofs.lemmas.List.Elements.{Contains-get_or, filter-append}
use Rattle.std.specs.List.{flat_map, AllZip}
use Rattle.std.specs.Option.{option_to_list}
use Rattle.std.specs.Prelude.{List, ◌∷◌, ◌++◌, drop, take, Option, String, option_map, string_bytes, unwrap_or}
use Rattle.std.specs.Prelude.{Bool, true, false, cond, filter, vec_len, ◌==◌, Contains, None, Some, Vec}
use Rattle.std.specs.declared.alloc.Global.{Global}
use Rattle.std.specs.declared.ops.Range.{Range}
use Rattle.ariadne.specs.Report.{ReportFields}
use Rattle.ariadne_search.specs.Search.{candidates}
use Rattle.ariadne_search.specs.declared.search.Search.{Search}
use Rattle.ariadne_edits.specs.declared.edit.Edit.{Edit}
use Rattle.ariadne_parse.specs.declared.diagnostic.Change.{Change}
use Rattle.ariadne_parse.specs.declared.diagnostic.Proposal.{Proposal}
use Rattle.ariadne_safe.specs.declared.sources.SafeSource.{SafeSource}
use Rattle.ariadne_show.specs.Asides.{begins_at, help_texts, helps_from, sketch_texts, texts_at, with_helps}
use Rattle.ariadne_show.specs.FoundSpans.{Files, quoted_in, read_in}
use Rattle.ariadne_show.specs.DrawnProposals.{all_drawn, not_drawn, not_read, one_sketched_more, page_at, sketched, range_of, way_left}
use Rattle.ariadne_show.specs.DrawnProposals.{AreEdits, AreSketched, AreWaysDrawn, IsEdit, IsSketched, IsWayDrawn}
use Rattle.ariadne_show.specs.ReadFiles.{AreFilesSettled, AreKept, HaveSearched, HaveSources, IsFileSettled, IsFileSettledNow}
use Rattle.ariadne_show.specs.declared.held.HeldFile.{HeldFile}
use Rattle.ariadne_show.specs.declared.proposed.Room.{Room}
use Rattle.ariadne_show.specs.declared.proposed.Sketch.{Sketch}
use Rattle.ariadne_show.specs.declared.shelf.Shelf.{Shelf}
use Rattle.ariadne_show.proofs.Searching.{first_still, kept_on, rest_still, zip_more, zip_still}

-- ---- their files

-- one whose file was looked for
pub file_settled : (search : Search) (before after : Proposal) (found : Option (String Global)) (a b : Shelf)
    → HaveSearched (candidates search (string_bytes before.file)) (option_map string_bytes found) a b
    → string_bytes after.file ≡ unwrap_or (option_map string_bytes found) (string_bytes before.file)
    → after ≡ record before { file = after.file } → IsFileSettledNow search before after a b
file_settled search before after found a b searched file others = record {
  kept = searched.kept;
  settled = record { found = option_map string_bytes found; first = searched.first; file = file; others = others };
  quoted = searched.quoted;
  sources = searched.sources;
}

-- one that was settled is so still
file_still : (search : Search) (f g : Files) → AreKept f g → (x y : Proposal) → IsFileSettled search f x y
    → IsFileSettled search g x y
file_still search f g kept x y is = record {
  found = is.found;
  first = first_still f g kept (candidates search (string_bytes x.file)) is.found is.first;
  file = is.file;
  others = is.others;
}

-- those up to an index were settled, and the others are as they were
pub record Settling (search : Search) (before after : List Proposal) (i : ℕ) (old new : Shelf) : Type 0 where
  pub kept : AreKept (read_in old) (read_in new)
  pub settled : AllZip (IsFileSettled search (read_in new)) (take i before) (take i after)
  pub rest : drop i after ≡ drop i before
  pub quoted : (path : List ℕ) → quoted_in new path ≡ quoted_in old path
  pub sources : HaveSources new

pub settling_begun : (search : Search) (proposals : List Proposal) (a : Shelf) → HaveSources a
    → Settling search proposals proposals 0 a a
settling_begun search proposals a sources =
    record { kept = λ q some. refl; settled = tt; rest = refl; quoted = λ q. refl; sources = sources }

pub settled_more : (search : Search) (before now after : List Proposal) (i : ℕ) (x y : Proposal) (a b c : Shelf)
    → i < length now → x ≡ get_or now i x → after ≡ set now i y → Settling search before now i a b
    → IsFileSettledNow search x y b c → Settling search before after (i + 1) a c
settled_more search before now after i x y a b c within is changed so_far one = record {
  kept = kept_on (read_in a) (read_in b) (read_in c) so_far.kept one.kept;
  settled = zip_more (IsFileSettled search (read_in c)) before now after i x y within is changed so_far.rest
      (zip_still (IsFileSettled search (read_in b)) (IsFileSettled search (read_in c))
      (file_still search (read_in b) (read_in c) one.kept) (take i before) (take i now) so_far.settled)
      one.settled;
  rest = rest_still before now after i y changed so_far.rest;
  quoted = λ q. one.quoted q ∙ so_far.quoted q;
  sources = one.sources;
}

-- all were
pub all_settled : (search : Search) (before after : List Proposal) (i : ℕ) (a b : Shelf) → take i before ≡ before
    → take i after ≡ after → Settling search before after i a b → AreFilesSettled search before after a b
all_settled search before after i a b left right so_far = record {
  kept = so_far.kept;
  settled = subst (λ (ps : List Proposal). AllZip (IsFileSettled search (read_in b)) ps after) left
      (subst (AllZip (IsFileSettled search (read_in b)) (take i before)) right so_far.settled);
  quoted = so_far.quoted;
  sources = so_far.sources;
}

-- ---- what is drawn of them

-- one more is drawn, or left out
pub sketched_more : (room : Room) (files : Files) (sources : List SafeSource) (xs all : List Proposal) (old new : List Sketch)
    (x : Proposal) (sketch : Option Sketch) → all ≡ xs ++ x ∷ [] → new ≡ old ++ option_to_list sketch
    → AreSketched room files sources xs old → IsSketched room files sources x sketch
    → AreSketched room files sources all new
sketched_more room files sources xs all old new x sketch more pushed so_far one =
    rw (more, pushed) (one_sketched_more so_far x sketch one)

-- the file of a proposal was not read
pub file_unread : (room : Room) (files : Files) (sources : List SafeSource) (proposal : Proposal) (path : List ℕ)
    → path ≡ string_bytes proposal.file → None ≡ page_at files sources path → IsSketched room files sources proposal None
file_unread room files sources proposal path same none =
    not_read (ap (page_at files sources) (sym same) ∙ sym none)

-- it was, and a proposal has its texts, or none
pub sketched_by : (room : Room) (files : Files) (sources : List SafeSource) (proposal : Proposal) (path : List ℕ) (held : HeldFile)
    (source : SafeSource) (texts : Option (Vec (String Global) Global)) → path ≡ string_bytes proposal.file
    → Some (held, source) ≡ page_at files sources path → AreWaysDrawn room held source proposal texts
    → IsSketched room files sources proposal
    (option_map (λ (v : Vec (String Global) Global). record { helps = proposal.helps; texts = v }) texts)
sketched_by room files sources proposal path held source None same page drawn =
    not_drawn held source (ap (page_at files sources) (sym same) ∙ sym page) drawn
sketched_by room files sources proposal path held source (Some v) same page drawn =
    sketched held source (record { helps = proposal.helps; texts = v }) (ap (page_at files sources) (sym same) ∙ sym page) refl drawn

-- ---- lists side by side

-- a pair more
zip_push : {A B : Type 0} (R : A → B → Type 0) (xs : List A) (ys : List B) (x : A) (y : B) → AllZip R xs ys → R x y
    → AllZip R (xs ++ x ∷ []) (ys ++ y ∷ [])
zip_push R [] [] x y all one = (one, tt)
zip_push R [] (w ∷ ys) x y all one = absurd all
zip_push R (z ∷ xs) [] x y all one = absurd all
zip_push R (z ∷ xs) (w ∷ ys) x y all one = (all.0, zip_push R xs ys x y all.1 one)

-- ---- the ways of one

-- there is none, or some
pub no_item : {A : Type 0} (v : Vec A Global) (is : Bool) → is ≡ (vec_len v == 0) → is ≡ true → v.items ≡ []
no_item v is same so =
    let zero : vec_len v ≡ 0 = eqb-true (vec_len v) 0 (sym same ∙ so) in
    nil_from_length v.items (omega (arith, zero, v.ok.0))

pub some_item : {A : Type 0} (v : Vec A Global) (is : Bool) → is ≡ (vec_len v == 0) → is ≡ false → ¬ (v.items ≡ [])
some_item v is same not_so none =
    let nil : length v.items ≡ 0 = ap length none in
    let zero : vec_len v ≡ 0 = omega (arith, nil, v.ok.0) in
    false≢true (sym not_so ∙ same ∙ ap (λ n. n == 0) zero)

module _ (room : Room) (held : HeldFile) (source : SafeSource) (proposal : Proposal) where
  -- a way has this text
  abbrev pub HasText : Vec Change Global → String Global → Type 0
  HasText way text = IsWayDrawn room held source proposal way.items (Some (string_bytes text))

  -- one that has none
  pub way_without : (all : List (Vec Change Global)) (i : ℕ) (way : Vec Change Global) (changes : List Change)
      → all ≡ proposal.ways.items → i < length all → way ≡ get_or all i way → changes ≡ way.items
      → IsWayDrawn room held source proposal changes None → AreWaysDrawn room held source proposal None
  way_without all i way changes whole within is same none =
      way_left way (subst (λ (l : List (Vec Change Global)). Contains l way) whole
      (subst (Contains all) (sym is) (Contains-get_or all i way within)))
      (subst (λ (l : List Change). IsWayDrawn room held source proposal l None) same none)

  -- one more has its text
  pub ways_more : (all : List (Vec Change Global)) (i : ℕ) (way : Vec Change Global) (changes : List Change)
      (old new : List (String Global)) (text : String Global) → i < length all → way ≡ get_or all i way → changes ≡ way.items
      → new ≡ old ++ text ∷ [] → AllZip HasText (take i all) old
      → IsWayDrawn room held source proposal changes (Some (string_bytes text)) → AllZip HasText (take (i + 1) all) new
  ways_more all i way changes old new text within is same pushed so_far one =
      let more : take (i + 1) all ≡ take i all ++ way ∷ [] =
      take_more all i way within ∙ ap (λ x. take i all ++ x ∷ []) (sym is) in
      rw (more, pushed) (zip_push HasText (take i all) old way text so_far
      (subst (λ (l : List Change). IsWayDrawn room held source proposal l (Some (string_bytes text))) same one))

  -- all have
  pub ways_all : (all : List (Vec Change Global)) (i : ℕ) (texts : Vec (String Global) Global) → all ≡ proposal.ways.items
      → take i all ≡ all → ¬ (proposal.ways.items ≡ []) → AllZip HasText (take i all) texts.items
      → AreWaysDrawn room held source proposal (Some texts)
  ways_all all i texts whole left some so_far =
      all_drawn texts some (subst (λ (l : List (Vec Change Global)). AllZip HasText l texts.items) (left ∙ whole) so_far)

-- ---- the changes of a way

-- the file doesn't have one
pub change_missing : (held : HeldFile) (proposal : Proposal) (all : List Change) (i : ℕ) (change : Change)
    → i < length all → change ≡ get_or all i change → None ≡ range_of held proposal change → AreEdits held proposal all None
change_missing held proposal all i change within is none =
    (change, subst (Contains all) (sym is) (Contains-get_or all i change within), sym none)

-- one more has its edit
pub edits_more : (held : HeldFile) (proposal : Proposal) (all : List Change) (i : ℕ) (change : Change) (old new : List Edit)
    (edit : Edit) → i < length all → change ≡ get_or all i change → new ≡ old ++ edit ∷ []
    → AllZip (IsEdit held proposal) (take i all) old → IsEdit held proposal change edit
    → AllZip (IsEdit held proposal) (take (i + 1) all) new
edits_more held proposal all i change old new edit within is pushed so_far one =
    let more : take (i + 1) all ≡ take i all ++ change ∷ [] =
    take_more all i change within ∙ ap (λ x. take i all ++ x ∷ []) (sym is) in
    rw (more, pushed) (zip_push (IsEdit held proposal) (take i all) old change edit so_far one)

-- ---- what stands for helps

-- the texts of those that begin at a help, and of one more
pub texts_at_more : (number : ℕ) (xs all : List Sketch) (x : Sketch) → all ≡ xs ++ x ∷ []
    → texts_at number xs ++ texts_at number (x ∷ []) ≡ texts_at number all
texts_at_more number xs all x more =
    sym (flat_map-append sketch_texts (filter (begins_at number) xs) (filter (begins_at number) (x ∷ [])))
    ∙ ap (flat_map sketch_texts) (sym (filter-append (begins_at number) xs (x ∷ [])))
    ∙ ap (texts_at number) (sym more)

-- one that begins there, and one that does not
pub begins_here : (number : ℕ) (x : Sketch) → begins_at number x ≡ true → texts_at number (x ∷ []) ≡ sketch_texts x
begins_here number x here =
    ap (λ (b : Bool). flat_map sketch_texts (cond b (x ∷ []) [])) here ∙ append-nil (sketch_texts x)

pub begins_elsewhere : (number : ℕ) (x : Sketch) → begins_at number x ≡ false → texts_at number (x ∷ []) ≡ []
begins_elsewhere number x elsewhere = ap (λ (b : Bool). flat_map sketch_texts (cond b (x ∷ []) [])) elsewhere

-- what stands for the first of those that are left is added
pub help_more : (n : ℕ) (sketches : List Sketch) (i : ℕ) (left rest : List (String Global)) (help : String Global)
    (r s t : ReportFields (ℕ × Range ℕ)) (texts own : List (List ℕ)) → left ≡ help ∷ rest
    → texts ++ own ≡ help_texts n sketches i help → s ≡ with_helps texts r → t ≡ with_helps own s
    → with_helps (helps_from n sketches (i + 1) rest) t ≡ with_helps (helps_from n sketches i left) r
unfolding helps_from
help_more n sketches i left rest help r s t texts own first both one two =
    let more = helps_from n sketches (i + 1) rest in
    ap (with_helps more) (two ∙ ap (with_helps own) one)
    ∙ ap (λ (l : List (List ℕ)). record r { helps = l })
    (append_assoc (r.helps ++ texts) own more ∙ append_assoc r.helps texts (own ++ more)
    ∙ ap (λ (l : List (List ℕ)). r.helps ++ l) (sym (append_assoc texts own more) ∙ ap (λ (l : List (List ℕ)). l ++ more) both))
    ∙ ap (λ (l : List (String Global)). with_helps (helps_from n sketches i l) r) (sym first)

-- none is left
pub no_help_left : (n : ℕ) (sketches : List Sketch) (i : ℕ) (left : List (String Global)) (r : ReportFields (ℕ × Range ℕ))
    → left ≡ [] → r ≡ with_helps (helps_from n sketches i left) r
unfolding helps_from
no_help_left n sketches i left r none =
    ap (λ (l : List (List ℕ)). record r { helps = l }) (sym (append-nil r.helps))
    ∙ ap (λ (l : List (String Global)). with_helps (helps_from n sketches i l) r) (sym none)
