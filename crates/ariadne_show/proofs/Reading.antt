-- Files that were read, one after the other, and their sources.
use Rattle.std.proofs.Common.{rules, ◌≡◌, ◌∙◌, ◌+◌, ◌<◌, ℕ, append-nil, ap, get_or, refl, sym, subst, length, []}
use Rattle.std.proofs.Math.ListN.{set}
use Rattle.std.proofs.lemmas.Bool.{cond-false, cond-true, false_from_ne_true, false≢true}
use Rattle.std.proofs.lemmas.Option.{none-some, same_Some}
use Rattle.std.proofs.lemmas.Str.{IsUtf8-from_is_utf8, is_utf8-from_IsUtf8}
use Rattle.std.specs.Cmp.Lexicographic.{bytes_decides}
use Rattle.std.proofs.lemmas.List.Elements.{All-more, All-weaker}
use Rattle.std.specs.List.{AllZip, list_all}
use Rattle.std.specs.Borrow.{Bor}
use Rattle.std.specs.Option.{option_and_then, option_copied}
use Rattle.std.specs.Prelude.{Bool, true, false, cond, List, ◌∷◌, ◌++◌, Option, Some, None, is_some, slice_get, suc, zero, ◌&&◌, drop, take}
use Rattle.std.specs.Prelude.{chars, option_map, string_bytes, String, unwrap_or, OnOk, Result, Ok, Err}
use Rattle.std.specs.Str.{bytes_eq, is_utf8, IsUtf8}
use Rattle.std.specs.declared.alloc.Global.{Global}
use Rattle.ariadne_safe.specs.Sources.{given_of, listing_of, name_of}
use Rattle.ariadne_safe.specs.declared.sources.SafeSource.{SafeSource}
use Rattle.ariadne_search.specs.Search.{candidates}
use Rattle.ariadne_search.specs.declared.search.Search.{Search}
use Rattle.ariadne_safe.specs.Visible.{visible_bytes}
use Rattle.ariadne_safe.specs.declared.text.TextKind.TheVariants.{OneRow}
use Rattle.ariadne_parse.specs.declared.diagnostic.Span.{Span}
use Rattle.ariadne_parse.specs.declared.diagnostic.QuotedLine.{QuotedLine}
use Rattle.ariadne_show.specs.FoundSpans.{Files, files_of, held_at, quoted_in, read_in, read_or_quoted}
use Rattle.ariadne.specs.Listing.{Listing}
use Rattle.ariadne_show.specs.Quoted.{lines_held, text_held, IsQuotedFile}
use Rattle.ariadne_show.specs.ReadFiles.{characters, is_read, shown_text, sources_in, AreKept, AreOpened, AreQuoted, AreQuotedIn, HaveSearched}
use Rattle.ariadne_show.specs.ReadFiles.{HaveSources, HaveTried, IsFirst, IsHeldBehind, IsNotQuoted, IsQuoted, IsQuotedBehind, IsQuotedNow, IsHeldIfQuoted, IsRead, IsSettled, IsSettledNow, IsTextOf, IsTried}
use Rattle.ariadne_show.specs.declared.held.FileText.{FileText}
use Rattle.ariadne_show.specs.declared.held.HeldFile.{HeldFile}
use Rattle.ariadne_show.specs.declared.shelf.Shelf.{Shelf}
use Rattle.ariadne_show.proofs.Searching.{all_gone_more, all_gone_still, first_here, first_past, first_still, is_gone, kept_on, none_first}
use Rattle.ariadne_show.proofs.Searching.{rest_still, zip_more, zip_still}

-- ---- one file

-- the characters of bytes that are UTF-8, and of others
pub characters_of_text : (bytes text : List ℕ) → IsUtf8 bytes → text ≡ bytes → chars text ≡ characters bytes
characters_of_text bytes text is same =
    ap chars same ∙ sym (cond-true (is_utf8 bytes) (chars bytes) bytes (is_utf8-from_IsUtf8 bytes is))

pub not_utf8 : (bytes : List ℕ) → ¬ (IsUtf8 bytes) → is_utf8 bytes ≡ false
not_utf8 bytes isnt = false_from_ne_true (is_utf8 bytes) (λ e. isnt (IsUtf8-from_is_utf8 bytes e))

pub characters_of_others : (bytes text : List ℕ) → ¬ (IsUtf8 bytes) → chars text ≡ bytes → chars text ≡ characters bytes
characters_of_others bytes text isnt same =
    same ∙ sym (cond-false (is_utf8 bytes) (chars bytes) bytes (not_utf8 bytes isnt))

-- what is held of a file whose source is added
pub held_behind : (old new : List SafeSource) (path bytes : List ℕ) (file : FileText) (held : HeldFile) (begun source : SafeSource)
    → IsTextOf bytes file → held.is_utf8 ≡ file.is_utf8 → held.has_mark ≡ file.has_mark → held.above ≡ 0
    → held.is_read ≡ true
    → held.columns ≡ chars (string_bytes file.text) → listing_of begun ≡ shown_text 0 (string_bytes file.text)
    → given_of begun ≡ string_bytes file.text → name_of source ≡ Some (visible_bytes OneRow path)
    → listing_of source ≡ listing_of begun → given_of source ≡ given_of begun → new ≡ old ++ source ∷ []
    → held.number ≡ length old → IsHeldBehind old new path bytes held
held_behind old new path bytes file held begun source is utf8 mark whole read columns listed given named kept also behind number = record {
  file = record { utf8 = utf8 ∙ is.utf8; mark = mark ∙ is.mark; columns = columns ∙ is.text; whole = whole; read = read };
  source = source;
  behind = behind;
  number = number;
  own = record {
    name = named;
    text = ap chars (also ∙ given) ∙ sym columns;
    shown = kept ∙ listed ∙ ap (shown_text 0) (sym (also ∙ given)) ∙ ap (λ (n : ℕ). shown_text n (given_of source)) (sym whole);
  };
}

-- what is held of lines that are quoted whose source is added
pub quoted_behind : (old new : List SafeSource) (path : List ℕ) (lines : List QuotedLine) (held : HeldFile) (last : ℕ) (text : List ℕ)
    (begun named source : SafeSource) → held.is_utf8 ≡ true → held.has_mark ≡ false → held.is_read ≡ false → Some (held.above, last) ≡ lines_held path lines
    → text ≡ text_held path lines (held.above, last) → held.columns ≡ chars text → listing_of begun ≡ shown_text 0 text
    → given_of begun ≡ text → name_of named ≡ Some (visible_bytes OneRow path) → listing_of named ≡ listing_of begun
    → given_of named ≡ given_of begun → listing_of source ≡ record (listing_of named) { display_offset = held.above }
    → name_of source ≡ name_of named → given_of source ≡ given_of named → new ≡ old ++ source ∷ [] → held.number ≡ length old
    → IsQuotedBehind old new path lines held
quoted_behind old new path lines held last text begun named source utf8 mark unread range same columns listed given name kept also moved called still behind number =
    let whole : given_of source ≡ text = still ∙ also ∙ given in record {
      file = record { utf8 = utf8; mark = mark; last = last; lines = sym range; columns = columns ∙ ap chars same; unread = unread };
      source = source;
      behind = behind;
      number = number;
      own = record {
        name = called ∙ name;
        text = ap chars whole ∙ sym columns;
        shown = moved ∙ ap (λ (l : Listing). record l { display_offset = held.above }) (kept ∙ listed)
            ∙ ap (shown_text held.above) (sym whole);
      };
    }

-- ---- sources behind others

-- those that are numbered stay so
abbrev Grows : List SafeSource → List SafeSource → Type 0
Grows old new = (k : ℕ) (x : SafeSource) → slice_get old k ≡ Some x → slice_get new k ≡ Some x

get-append : {A : Type 0} (xs ys : List A) (k : ℕ) (x : A) → slice_get xs k ≡ Some x → slice_get (xs ++ ys) k ≡ Some x
get-append [] ys k x is = absurd (none-some x is)
get-append (y ∷ xs) ys zero x is = is
get-append (y ∷ xs) ys (suc k) x is = get-append xs ys k x is

get-behind : {A : Type 0} (xs : List A) (x : A) → slice_get (xs ++ x ∷ []) (length xs) ≡ Some x
get-behind [] x = refl
get-behind (y ∷ xs) x = get-behind xs x

same_grows : (old new : List SafeSource) → new ≡ old → Grows old new
same_grows old new same k x is = ap (λ (l : List SafeSource). slice_get l k) same ∙ is

one_grows : (old new : List SafeSource) (source : SafeSource) → new ≡ old ++ source ∷ [] → Grows old new
one_grows old new source more k x is = ap (λ (l : List SafeSource). slice_get l k) more ∙ get-append old (source ∷ []) k x is

tried_grows : (old new : List SafeSource) (path : List ℕ) (held : Option HeldFile) → IsTried old new path held → Grows old new
tried_grows old new path None same = same_grows old new same
tried_grows old new path (Some held) added = one_grows old new added.1.source added.1.behind

-- the last one has its number
numbered_last : (old new : List SafeSource) (source : SafeSource) (n : ℕ) → new ≡ old ++ source ∷ [] → n ≡ length old
    → slice_get new n ≡ Some source
numbered_last old new source n more number =
    ap (slice_get new) number ∙ ap (λ (l : List SafeSource). slice_get l (length old)) more ∙ get-behind old source

-- files that were read, and lines that are quoted, have theirs still
read_still : (old new : List SafeSource) (path : List ℕ) (held : HeldFile) → Grows old new → IsRead old path held → IsRead new path held
read_still old new path held grows is = record {
  bytes = is.bytes;
  file = is.file;
  source = is.source;
  numbered = grows held.number is.source is.numbered;
  own = is.own;
}

quoted_still : (old new : List SafeSource) (path : List ℕ) (held : HeldFile) → Grows old new → IsQuoted old path held
    → IsQuoted new path held
quoted_still old new path held grows is = record {
  lines = is.lines;
  file = is.file;
  source = is.source;
  numbered = grows held.number is.source is.numbered;
  own = is.own;
}

-- one that was read now has its own, and so have lines that are quoted now
read_now : (old new : List SafeSource) (path : List ℕ) (held : HeldFile) → IsTried old new path (Some held) → IsRead new path held
read_now old new path held added = record {
  bytes = added.0;
  file = added.1.file;
  source = added.1.source;
  numbered = numbered_last old new added.1.source held.number added.1.behind added.1.number;
  own = added.1.own;
}

quoted_now : (old new : List SafeSource) (path : List ℕ) (lines : List QuotedLine) (held : HeldFile)
    → IsQuotedBehind old new path lines held → IsQuoted new path held
quoted_now old new path lines held added = record {
  lines = lines;
  file = added.file;
  source = added.source;
  numbered = numbered_last old new added.source held.number added.behind added.number;
  own = added.own;
}

-- ---- what is put at a path

abbrev Puts : {X : Type 0} → List ℕ → X → (List ℕ → Option X) → (List ℕ → Option X) → Type 0
Puts path x old new = (q : List ℕ) → new q ≡ cond (bytes_eq path q) (Some x) (old q)

put_here : {X : Type 0} (path : List ℕ) (x : X) (old new : List ℕ → Option X) → Puts path x old new → new path ≡ Some x
put_here path x old new puts =
    puts path ∙ cond-true (bytes_eq path path) (Some x) (old path) ((bytes_decides path path).1 refl)

-- of what is there afterwards something holds that held of what was there before, and holds of what is put there
each_put : {X : Type 0} (P : List ℕ → X → Type 0) (path : List ℕ) (x : X) (old new : List ℕ → Option X) → Puts path x old new
    → P path x → ((q : List ℕ) (y : X) → old q ≡ Some y → P q y) → (q : List ℕ) (y : X) → new q ≡ Some y
    → (t : Bool) → bytes_eq path q ≡ t → P q y
each_put {X} P path x old new puts here before q y is true same =
    let now : x ≡ y = same_Some x y (sym (puts q ∙ cond-true (bytes_eq path q) (Some x) (old q) same) ∙ is) in
    subst (λ (p : List ℕ). P p y) ((bytes_decides path q).0 same) (subst (P path) now here)
each_put {X} P path x old new puts here before q y is false other =
    before q y (sym (puts q ∙ cond-false (bytes_eq path q) (Some x) (old q) other) ∙ is)

-- ---- one file more

none_there : {X : Type 0} (o : Option X) → false ≡ is_some o → o ≡ None
none_there None e = refl
none_there (Some x) e = absurd (false≢true e)

kept_at : {X : Type 0} (path : List ℕ) (held : X) (old new : List ℕ → Option X) → Puts path held old new → old path ≡ None
    → (q : List ℕ) (t : Bool) → bytes_eq path q ≡ t → is_some (old q) ≡ true → new q ≡ old q
kept_at path held old new puts none q true same some =
    absurd (false≢true (sym (ap is_some (ap old (sym ((bytes_decides path q).0 same)) ∙ none)) ∙ some))
kept_at path held old new puts none q false other some = puts q ∙ cond-false (bytes_eq path q) (Some held) (old q) other

-- of a file that was read
abbrev ReadAt : List SafeSource → List ℕ → Option HeldFile → Type 0
ReadAt sources path tried = (held : HeldFile) → tried ≡ Some held → IsRead sources path held

read_if : (old new : List SafeSource) (path : List ℕ) (tried : Option HeldFile) → IsTried old new path tried → ReadAt new path tried
read_if old new path tried added held is = read_now old new path held (subst (IsTried old new path) is added)

pub read_more : (path key : List ℕ) (held : Option HeldFile) (a b : Shelf) → key ≡ path → Puts key held (read_in a) (read_in b)
    → ((q : List ℕ) → quoted_in b q ≡ quoted_in a q) → false ≡ is_some (read_in a path)
    → IsTried (sources_in a) (sources_in b) path held → HaveSources a → HaveTried (path ∷ []) a b
read_more path key held a b same puts quoted none added sources =
    let now : Puts path held (read_in a) (read_in b) = subst (λ (k : List ℕ). Puts k held (read_in a) (read_in b)) same puts in
    let grows : Grows (sources_in a) (sources_in b) = tried_grows (sources_in a) (sources_in b) path held added in record {
      kept = λ q some. kept_at path held (read_in a) (read_in b) now (none_there (read_in a path) none) q (bytes_eq path q) refl some;
      tried = ap (λ (o : Option (Option HeldFile)). is_some o && true) (put_here path held (read_in a) (read_in b) now);
      quoted = quoted;
      sources = record {
        read = λ q it is. each_put (ReadAt (sources_in b)) path held (read_in a) (read_in b) now
            (read_if (sources_in a) (sources_in b) path held added)
            (λ p y was it' is'. read_still (sources_in a) (sources_in b) p it' grows
            (sources.read p it' (was ∙ ap (λ (o : Option HeldFile). Some o) is')))
            q (Some it) is (bytes_eq path q) refl it refl;
        quoted = λ q it is. quoted_still (sources_in a) (sources_in b) q it grows (sources.quoted q it (sym (quoted q) ∙ is));
      };
    }

pub same_tried : (path : List ℕ) (a : Shelf) → true ≡ is_some (read_in a path) → HaveSources a → HaveTried (path ∷ []) a a
same_tried path a there sources =
    record { kept = λ q some. refl; tried = ap (λ t. t && true) (sym there); quoted = λ q. refl; sources = sources }

-- ---- paths, one after the other

-- the files at these paths were tried, and can't be read
pub record Searching (paths : List (List ℕ)) (old new : Shelf) : Type 0 where
  pub kept : AreKept (read_in old) (read_in new)
  pub gone : list_all (is_gone (read_in new)) paths ≡ true
  pub quoted : (path : List ℕ) → quoted_in new path ≡ quoted_in old path
  pub sources : HaveSources new

pub search_begun : (a : Shelf) → HaveSources a → Searching [] a a
search_begun a sources = record { kept = λ q some. refl; gone = refl; quoted = λ q. refl; sources = sources }

one_tried : (t : Bool) → (t && true) ≡ true → t ≡ true
one_tried true e = refl
one_tried false e = e

pub gone_more : (xs all : List (List ℕ)) (path : List ℕ) (a b c : Shelf) → all ≡ xs ++ path ∷ [] → Searching xs a b
    → HaveTried (path ∷ []) b c → is_read (read_in c) path ≡ false → Searching all a c
gone_more xs all path a b c more before now unread = rw more (record {
  kept = kept_on (read_in a) (read_in b) (read_in c) before.kept now.kept;
  gone = all_gone_more (read_in c) xs path (all_gone_still (read_in b) (read_in c) now.kept xs before.gone)
      (one_tried (is_some (read_in c path)) now.tried) unread;
  quoted = λ q. now.quoted q ∙ before.quoted q;
  sources = now.sources;
})

-- the first that can be read
pub found_now : (xs ys all : List (List ℕ)) (path : List ℕ) (a b c : Shelf) → all ≡ xs ++ path ∷ ys → Searching xs a b
    → HaveTried (path ∷ []) b c → is_read (read_in c) path ≡ true → HaveSearched all (Some path) a c
found_now xs ys all path a b c whole before now read = rw whole (record {
  kept = kept_on (read_in a) (read_in b) (read_in c) before.kept now.kept;
  first = first_past (read_in c) xs (path ∷ ys) (Some path)
      (all_gone_still (read_in b) (read_in c) now.kept xs before.gone) (first_here (read_in c) path ys read);
  quoted = λ q. now.quoted q ∙ before.quoted q;
  sources = now.sources;
})

-- none can
pub none_found : (xs all : List (List ℕ)) (a b : Shelf) → xs ≡ all → Searching all a b → HaveSearched xs None a b
none_found xs all a b whole before = rw whole (record {
  kept = before.kept;
  first = subst (λ (ps : List (List ℕ)). IsFirst (read_in b) ps None) (append-nil all)
      (first_past (read_in b) all [] None before.gone (none_first (read_in b)));
  quoted = before.quoted;
  sources = before.sources;
})

-- ---- spans

pub settled_now : (search : Search) (before after : Span) (found : Option (String Global)) (a b : Shelf)
    → HaveSearched (candidates search (string_bytes before.file)) (option_map string_bytes found) a b
    → string_bytes after.file ≡ unwrap_or (option_map string_bytes found) (string_bytes before.file)
    → after ≡ record before { file = after.file } → IsSettledNow search before after a b
settled_now search before after found a b searched file others = record {
  kept = searched.kept;
  settled = record { found = option_map string_bytes found; first = searched.first; file = file; others = others };
  quoted = searched.quoted;
  sources = searched.sources;
}

-- one that was settled is so still
pub settled_still : (search : Search) (f g : Files) → AreKept f g → (x y : Span) → IsSettled search f x y → IsSettled search g x y
settled_still search f g kept x y is = record {
  found = is.found;
  first = first_still f g kept (candidates search (string_bytes x.file)) is.found is.first;
  file = is.file;
  others = is.others;
}

-- the spans up to an index were settled, and the others are as they were
pub record Opening (search : Search) (before after : List Span) (i : ℕ) (old new : Shelf) : Type 0 where
  pub kept : AreKept (read_in old) (read_in new)
  pub settled : AllZip (IsSettled search (read_in new)) (take i before) (take i after)
  pub rest : drop i after ≡ drop i before
  pub sources : HaveSources new

pub open_begun : (search : Search) (spans : List Span) (a : Shelf) → HaveSources a → Opening search spans spans 0 a a
open_begun search spans a sources = record { kept = λ q some. refl; settled = tt; rest = refl; sources = sources }

pub opened_more : (search : Search) (before now after : List Span) (i : ℕ) (x y : Span) (a b c : Shelf) → i < length now
    → x ≡ get_or now i x → after ≡ set now i y → Opening search before now i a b → IsSettledNow search x y b c
    → Opening search before after (i + 1) a c
opened_more search before now after i x y a b c within is changed opening one = record {
  kept = kept_on (read_in a) (read_in b) (read_in c) opening.kept one.kept;
  settled = zip_more (IsSettled search (read_in c)) before now after i x y within is changed opening.rest
      (zip_still (IsSettled search (read_in b)) (IsSettled search (read_in c)) (settled_still search (read_in b) (read_in c) one.kept)
      (take i before) (take i now) opening.settled)
      one.settled;
  rest = rest_still before now after i y changed opening.rest;
  sources = one.sources;
}

-- all were, and then the lines of those that can't be read are held
pub all_opened : (search : Search) (lines : List QuotedLine) (before after : List Span) (i : ℕ) (a b c : Shelf)
    → take i before ≡ before → take i after ≡ after → Opening search before after i a b → AreQuoted lines after b c
    → AreOpened search lines before after a c
all_opened search lines before after i a b c left right opening quoted =
    let kept : AreKept (read_in b) (read_in c) = λ q some. quoted.same q in
    let settled : AllZip (IsSettled search (read_in c)) (take i before) (take i after) =
    zip_still (IsSettled search (read_in b)) (IsSettled search (read_in c)) (settled_still search (read_in b) (read_in c) kept)
    (take i before) (take i after) opening.settled in record {
      kept = kept_on (read_in a) (read_in b) (read_in c) opening.kept kept;
      settled = subst (λ (ps : List Span). AllZip (IsSettled search (read_in c)) ps after) left
          (subst (AllZip (IsSettled search (read_in c)) (take i before)) right settled);
      quoted = quoted.quoted;
      held = quoted.held;
      sources = quoted.sources;
    }

pub all_opened_if : {T E : Type 0} (r : Result T E) (search : Search) (lines : List QuotedLine) (before after : List Span) (i : ℕ)
    (a b c : Shelf) → take i before ≡ before → take i after ≡ after → Opening search before after i a b
    → OnOk r (AreQuoted lines after b c) → OnOk r (AreOpened search lines before after a c)
all_opened_if (Ok x) search lines before after i a b c left right opening quoted =
    all_opened search lines before after i a b c left right opening quoted
all_opened_if (Err e) search lines before after i a b c left right opening quoted = tt

-- ---- lines that are quoted

-- what is held neither way is not quoted
quoted_none : (read : Option (Option HeldFile)) (quoted : Option HeldFile) → option_and_then (λ (held : Option HeldFile). held) (read_or_quoted read quoted) ≡ None
    → quoted ≡ None
quoted_none None None e = refl
quoted_none None (Some held) e = absurd (none-some held (sym e))
quoted_none (Some None) quoted e = e
quoted_none (Some (Some held)) quoted e = absurd (none-some held (sym e))

-- what is held stays so
held_still : (path : List ℕ) (a b : Shelf) → ((q : List ℕ) → read_in b q ≡ read_in a q)
    → ((q : List ℕ) → is_some (quoted_in a q) ≡ true → quoted_in b q ≡ quoted_in a q)
    → held_at (files_of b) path ≡ None → held_at (files_of a) path ≡ None
held_still path a b same kept none =
    still (read_in a path) (quoted_in a path) (quoted_in b path) (kept path)
    (ap (λ (r : Option (Option HeldFile)). option_and_then (λ (held : Option HeldFile). held) (read_or_quoted r (quoted_in b path))) (sym (same path)) ∙ none)
  where
    still : (read : Option (Option HeldFile)) (old new : Option HeldFile) → (is_some old ≡ true → new ≡ old)
        → option_and_then (λ (held : Option HeldFile). held) (read_or_quoted read new) ≡ None
        → option_and_then (λ (held : Option HeldFile). held) (read_or_quoted read old) ≡ None
    still read None new kept e = ap (λ (q : Option HeldFile). option_and_then (λ (held : Option HeldFile). held) (read_or_quoted read q)) (sym (quoted_none read new e)) ∙ e
    still read (Some held) new kept e =
        ap (λ (q : Option HeldFile). option_and_then (λ (held : Option HeldFile). held) (read_or_quoted read q)) (sym (kept refl)) ∙ e

-- the lines of one file more
pub quoted_more : (path key : List ℕ) (lines : List QuotedLine) (held : HeldFile) (a b : Shelf) → key ≡ path
    → Puts key held (quoted_in a) (quoted_in b) → ((q : List ℕ) → read_in b q ≡ read_in a q)
    → IsQuotedBehind (sources_in a) (sources_in b) path lines held → held_at (files_of a) path ≡ None
    → HaveSources a → AreQuotedIn lines a → IsQuotedNow lines path a b
quoted_more path key lines held a b same puts read added none sources quoted =
    let now : Puts path held (quoted_in a) (quoted_in b) = subst (λ (k : List ℕ). Puts k held (quoted_in a) (quoted_in b)) same puts in
    let grows : Grows (sources_in a) (sources_in b) = one_grows (sources_in a) (sources_in b) added.source added.behind in record {
      same = read;
      kept = λ q some. kept_at path held (quoted_in a) (quoted_in b) now (quoted_none (read_in a path) (quoted_in a path) none) q
          (bytes_eq path q) refl some;
      quoted = λ q it is. each_put (λ p y. IsQuotedFile p lines y) path held (quoted_in a) (quoted_in b) now added.file quoted
          q it is (bytes_eq path q) refl;
      held = λ gone. absurd (none-some held (sym (quoted_none (read_in b path) (quoted_in b path) gone)
          ∙ put_here path held (quoted_in a) (quoted_in b) now));
      sources = record {
        read = λ q it is. read_still (sources_in a) (sources_in b) q it grows (sources.read q it (sym (read q) ∙ is));
        quoted = λ q it is. each_put (IsQuoted (sources_in b)) path held (quoted_in a) (quoted_in b) now
            (quoted_now (sources_in a) (sources_in b) path lines held added)
            (λ p y was. quoted_still (sources_in a) (sources_in b) p y grows (sources.quoted p y was))
            q it is (bytes_eq path q) refl;
      };
    }

-- none more
pub same_quoted : (path : List ℕ) (lines : List QuotedLine) (a b : Shelf) → ((q : List ℕ) → read_in b q ≡ read_in a q)
    → ((q : List ℕ) → quoted_in b q ≡ quoted_in a q) → sources_in b ≡ sources_in a
    → (held_at (files_of a) path ≡ None → IsNotQuoted path lines) → HaveSources a → AreQuotedIn lines a
    → IsQuotedNow lines path a b
same_quoted path lines a b read same kept held sources quoted =
    let grows : Grows (sources_in a) (sources_in b) = same_grows (sources_in a) (sources_in b) kept in record {
      same = read;
      kept = λ q some. same q;
      quoted = λ q it is. quoted q it (sym (same q) ∙ is);
      held = λ none. held (held_still path a b read (λ q some. same q) none);
      sources = record {
        read = λ q it is. read_still (sources_in a) (sources_in b) q it grows (sources.read q it (sym (read q) ∙ is));
        quoted = λ q it is. quoted_still (sources_in a) (sources_in b) q it grows (sources.quoted q it (sym (same q) ∙ is));
      };
    }

-- one that is held already
pub held_already : (path : List ℕ) (lines : List QuotedLine) (a : Shelf) (found : Option (Bor HeldFile))
    → option_copied found ≡ held_at (files_of a) path → true ≡ is_some found → held_at (files_of a) path ≡ None → IsNotQuoted path lines
held_already path lines a None is some none = absurd (false≢true (sym some))
held_already path lines a (Some held) is some none = absurd (none-some held.now (sym (is ∙ none)))

-- one that is not
pub not_held : (path : List ℕ) (a : Shelf) (found : Option (Bor HeldFile)) → option_copied found ≡ held_at (files_of a) path
    → false ≡ is_some found → held_at (files_of a) path ≡ None
not_held path a None is none = sym is
not_held path a (Some held) is none = absurd (false≢true none)

-- none at all
pub none_quoted : (lines : List QuotedLine) (a b : Shelf) → ((q : List ℕ) → read_in b q ≡ read_in a q)
    → ((q : List ℕ) → quoted_in b q ≡ None) → sources_in b ≡ sources_in a → HaveSources a → AreQuoted lines [] a b
none_quoted lines a b read none kept sources =
    let grows : Grows (sources_in a) (sources_in b) = same_grows (sources_in a) (sources_in b) kept in record {
      same = read;
      quoted = λ q it is. absurd (none-some it (sym (none q) ∙ is));
      held = search rules;
      sources = record {
        read = λ q it is. read_still (sources_in a) (sources_in b) q it grows (sources.read q it (sym (read q) ∙ is));
        quoted = λ q it is. absurd (none-some it (sym (none q) ∙ is));
      };
    }

-- those of the files of some spans, and of the file of one more
pub quoted_on : (lines : List QuotedLine) (spans : List Span) (i : ℕ) (x : Span) (path : List ℕ) (a b c : Shelf) → i < length spans
    → x ≡ get_or spans i x → path ≡ string_bytes x.file → AreQuoted lines (take i spans) a b → IsQuotedNow lines path b c
    → AreQuoted lines (take (i + 1) spans) a c
quoted_on lines spans i x path a b c within is file before now =
    let IsHeld : Span → Type 0 = λ span. IsHeldIfQuoted lines c (string_bytes span.file) in record {
      same = λ q. now.same q ∙ before.same q;
      quoted = now.quoted;
      held = All-more IsHeld spans i x within
          (All-weaker (λ span. IsHeldIfQuoted lines b (string_bytes span.file)) IsHeld
          (λ span was none. was (held_still (string_bytes span.file) b c now.same now.kept none)) (take i spans) before.held)
          (subst IsHeld is (subst (λ (p : List ℕ). IsHeldIfQuoted lines c p) file now.held));
      sources = now.sources;
    }

pub all_quoted : (lines : List QuotedLine) (spans : List Span) (i : ℕ) (a b : Shelf) → take i spans ≡ spans
    → AreQuoted lines (take i spans) a b → AreQuoted lines spans a b
all_quoted lines spans i a b whole quoted = subst (λ (ps : List Span). AreQuoted lines ps a b) whole quoted
