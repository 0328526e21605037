-- Words in rows, and how many columns they take.
use Rattle.std.proofs.Common.{◌≡◌, ◌∙◌, ℕ, ◌+◌, List, [], ◌∷◌, ◌++◌, Option, Some, None, length, ap, sym, subst, refl, arith, append_assoc, encode_utf8}
use Rattle.std.specs.Prelude.{Bool, true, false, chars, nat_le, ◌==◌, ◌<◌, ◌≤◌, ◌&&◌, if◌then◌else◌}
use Rattle.std.specs.List.{join_with_byte, list_all}
use Rattle.std.specs.Str.{IsUtf8}
use Rattle.std.proofs.lemmas.Bool.{leb-false, true_from_ne_false}
use Rattle.std.proofs.lemmas.Iterator.{YieldsList}
use Rattle.std.proofs.lemmas.List.{append-nil, map-append, nil_from_length}
use Rattle.std.proofs.lemmas.List.Splits.{join_with_byte-slice_split}
use Rattle.std.proofs.lemmas.Str.{chars-nil, chars_past_char, IsUtf8-past_char}
use Rattle.ariadne.specs.Columns.{char_columns, text_columns}
use Rattle.ariadne.specs.Lists.{joined, total}
use Rattle.ariadne_show.specs.Wrapped.{aside_columns, behind_words, in_one_line, lines_in, word_columns, words_in, wrapped, wrapped_line, wrapped_lines, wrapped_words}

-- ---- the columns of a text

-- those that are counted, and those of the rest, are all
pub record AreCounted (left : List ℕ) (n all : ℕ) : Type 0 where
  pub utf8 : IsUtf8 left
  pub sum : n + text_columns left ≡ all

-- none is counted at first
pub counted_none : (text left : List ℕ) → IsUtf8 text → left ≡ text → AreCounted left 0 (text_columns text)
counted_none text left u e =
    let same : text_columns left ≡ text_columns text = ap text_columns e in record {
      utf8 = subst IsUtf8 (sym e) u;
      sum = omega (arith, same);
    }

-- a character more
pub counted_next : (c width n next all : ℕ) (before left : List ℕ) → before ≡ encode_utf8 c ++ left → width ≡ char_columns c
    → next ≡ n + width → AreCounted before n all → AreCounted left next all
unfolding text_columns total
counted_next c width n next all before left e wide is so_far =
    let one : text_columns before ≡ char_columns c + text_columns left =
    ap (total char_columns) (chars_past_char before left c so_far.utf8 e) in
    let sum = so_far.sum in record {
      utf8 = IsUtf8-past_char before left c so_far.utf8 e;
      sum = omega (arith, one, wide, is, sum);
    }

-- all are
pub counted_all : (n all : ℕ) (left : List ℕ) → length left ≡ 0 → AreCounted left n all → n ≡ all
unfolding text_columns total
counted_all n all left zero so_far =
    let none : text_columns left ≡ 0 = ap (total char_columns) (ap chars (nil_from_length left zero) ∙ chars-nil) in
    let sum = so_far.sum in omega (arith, none, sum)

-- ---- what an iterator yields, in rows

-- the items that are left stand behind the rows so far
pub record AreLeft {S A : Type 0} (steps : S → Option A → S → Type 0) (text : A → List ℕ)
    (behind : ℕ → List (List ℕ) → List ℕ) (it : S) (state : ℕ) (rows whole : List ℕ) : Type 0 where
  pub items : List (List ℕ)
  pub left : YieldsList steps text it items
  pub same : rows ++ behind state items ≡ whole

module _ {S A : Type 0} (steps : S → Option A → S → Type 0) (text : A → List ℕ)
    (behind : ℕ → List (List ℕ) → List ℕ) where
  -- an item that comes is the first of those that are left
  next_of : (it next : S) (item : A) (state after : ℕ) (rows more whole : List ℕ) (items : List (List ℕ))
      → YieldsList steps text it items → rows ++ behind state items ≡ whole → steps it (Some item) next
      → ((others : List (List ℕ)) → more ++ behind after others ≡ rows ++ behind state (text item ∷ others))
      → AreLeft steps text behind next after more whole
  next_of it next item state after rows more whole [] left same step added = absurd (left.runs item next step)
  next_of it next item state after rows more whole (x ∷ items) left same step added =
      let first = left.runs.1 item next step in
      record {
        items = items;
        left = record { runs = first.1 };
        same = added items ∙ ap (λ t. rows ++ behind state (t ∷ items)) first.0 ∙ same;
      }

  pub left_next : (it next : S) (item : A) (state after : ℕ) (rows more whole : List ℕ)
      → AreLeft steps text behind it state rows whole → steps it (Some item) next
      → ((others : List (List ℕ)) → more ++ behind after others ≡ rows ++ behind state (text item ∷ others))
      → AreLeft steps text behind next after more whole
  left_next it next item state after rows more whole so_far step added =
      next_of it next item state after rows more whole so_far.items so_far.left so_far.same step added

  -- the first that comes, of which the rows are begun
  pub left_first : (it next : S) (item : A) (after : ℕ) (rows more : List ℕ) (begun : List (List ℕ) → List ℕ)
      (items : List (List ℕ)) → YieldsList steps text it items → steps it (Some item) next
      → ((others : List (List ℕ)) → more ++ behind after others ≡ rows ++ begun (text item ∷ others))
      → AreLeft steps text behind next after more (rows ++ begun items)
  left_first it next item after rows more begun [] left step added = absurd (left.runs item next step)
  left_first it next item after rows more begun (x ∷ items) left step added =
      let first = left.runs.1 item next step in
      record {
        items = items;
        left = record { runs = first.1 };
        same = added items ∙ ap (λ t. rows ++ begun (t ∷ items)) first.0;
      }

  -- where none comes, none was left
  none_of : (it next : S) (state : ℕ) (rows whole : List ℕ) (items : List (List ℕ)) → YieldsList steps text it items
      → rows ++ behind state items ≡ whole → steps it None next → behind state [] ≡ [] → rows ≡ whole
  none_of it next state rows whole [] left same step none = sym (ap (λ t. rows ++ t) none ∙ append-nil rows) ∙ same
  none_of it next state rows whole (x ∷ items) left same step none = absurd (left.runs.0 next step)

  pub left_none : (it next : S) (state : ℕ) (rows whole : List ℕ) → AreLeft steps text behind it state rows whole
      → steps it None next → behind state [] ≡ [] → rows ≡ whole
  left_none it next state rows whole so_far step none =
      none_of it next state rows whole so_far.items so_far.left so_far.same step none

-- ---- whether a test holds of all that an iterator yields

-- a number that is at most another
pub le_true : (n m : ℕ) → n ≤ m → nat_le n m ≡ true
le_true n m le = true_from_ne_false (nat_le n m) (λ e. let less : m < n = leb-false n m e in omega (arith, less, le))

-- that hangs on the items that are left
pub record HangsOn {S A : Type 0} (steps : S → Option A → S → Type 0) (text : A → List ℕ) (test : List ℕ → Bool)
    (it : S) (all : Bool) : Type 0 where
  pub items : List (List ℕ)
  pub left : YieldsList steps text it items
  pub same : list_all test items ≡ all

module _ {S A : Type 0} (steps : S → Option A → S → Type 0) (text : A → List ℕ) (test : List ℕ → Bool) where
  -- where it holds of the item that comes, on the others
  next_tested : (it next : S) (item : A) (all : Bool) (items : List (List ℕ)) → YieldsList steps text it items
      → list_all test items ≡ all → steps it (Some item) next → test (text item) ≡ true → HangsOn steps text test next all
  next_tested it next item all [] left same step holds = absurd (left.runs item next step)
  next_tested it next item all (x ∷ items) left same step holds =
      let first = left.runs.1 item next step in
      record {
        items = items;
        left = record { runs = first.1 };
        same = sym (ap (λ t. t && list_all test items) (ap test (sym first.0) ∙ holds)) ∙ same;
      }

  pub hangs_next : (it next : S) (item : A) (all : Bool) → HangsOn steps text test it all → steps it (Some item) next
      → test (text item) ≡ true → HangsOn steps text test next all
  hangs_next it next item all so_far step holds =
      next_tested it next item all so_far.items so_far.left so_far.same step holds

  -- where it does not, it holds not of all
  failed_at : (it next : S) (item : A) (all : Bool) (items : List (List ℕ)) → YieldsList steps text it items
      → list_all test items ≡ all → steps it (Some item) next → test (text item) ≡ false → false ≡ all
  failed_at it next item all [] left same step fails = absurd (left.runs item next step)
  failed_at it next item all (x ∷ items) left same step fails =
      let first = left.runs.1 item next step in
      sym (ap (λ t. t && list_all test items) (ap test (sym first.0) ∙ fails)) ∙ same

  pub hangs_no_more : (it next : S) (item : A) (all : Bool) → HangsOn steps text test it all → steps it (Some item) next
      → test (text item) ≡ false → false ≡ all
  hangs_no_more it next item all so_far step fails =
      failed_at it next item all so_far.items so_far.left so_far.same step fails

  -- where none comes, it holds of all
  held_by_all : (it next : S) (all : Bool) (items : List (List ℕ)) → YieldsList steps text it items
      → list_all test items ≡ all → steps it None next → true ≡ all
  held_by_all it next all [] left same step = same
  held_by_all it next all (x ∷ items) left same step = absurd (left.runs.0 next step)

  pub hangs_none : (it next : S) (all : Bool) → HangsOn steps text test it all → steps it None next → true ≡ all
  hangs_none it next all so_far step = held_by_all it next all so_far.items so_far.left so_far.same step

-- where none comes at all
pub none_begun : {S A : Type 0} (steps : S → Option A → S → Type 0) (text : A → List ℕ) (it next : S) (rows : List ℕ)
    (begun : List (List ℕ) → List ℕ) (items : List (List ℕ)) → YieldsList steps text it items → steps it None next
    → begun [] ≡ [] → rows ≡ rows ++ begun items
none_begun steps text it next rows begun [] left step none = sym (ap (λ t. rows ++ t) none ∙ append-nil rows)
none_begun steps text it next rows begun (x ∷ items) left step none = absurd (left.runs.0 next step)

-- ---- words, and lines

-- nothing stands behind the last
pub no_words : (n taken : ℕ) → behind_words n taken [] ≡ []
unfolding behind_words
no_words n taken = refl

pub nothing_wrapped : (n : ℕ) → wrapped_words n [] ≡ []
unfolding wrapped_words
nothing_wrapped n = refl

-- the first word begins a row
pub first_word : (n taken : ℕ) (rows more word : List ℕ) (others : List (List ℕ)) → more ≡ rows ++ word
    → taken ≡ word_columns word → more ++ behind_words n taken others ≡ rows ++ wrapped_words n (word ∷ others)
unfolding wrapped_words
first_word n taken rows more word others e wide = rw (e, wide) (append_assoc rows word (behind_words n (word_columns word) others))

-- lines behind others
abbrev pub lines_behind : ℕ → List (List ℕ) → List ℕ
lines_behind n lines = joined (λ next. 10 ∷ wrapped_line n next) lines

pub no_lines : (n : ℕ) → lines_behind n [] ≡ []
unfolding joined
no_lines n = refl

pub no_line_wrapped : (n : ℕ) → wrapped_lines n [] ≡ []
unfolding wrapped_lines
no_line_wrapped n = refl

pub first_line : (n : ℕ) (rows more line : List ℕ) (others : List (List ℕ)) → more ≡ rows ++ wrapped_line n line
    → more ++ lines_behind n others ≡ rows ++ wrapped_lines n (line ∷ others)
unfolding wrapped_lines
first_line n rows more line others e = rw e (append_assoc rows (wrapped_line n line) (lines_behind n others))

-- one more
pub line_more : (n : ℕ) (rows ended more line : List ℕ) (others : List (List ℕ)) → ended ≡ rows ++ 10 ∷ []
    → more ≡ ended ++ wrapped_line n line → more ++ lines_behind n others ≡ rows ++ lines_behind n (line ∷ others)
unfolding joined
line_more n rows ended more line others e added =
    ap (λ t. t ++ lines_behind n others) (added ∙ ap (λ t. t ++ wrapped_line n line) e)
    ∙ append_assoc (rows ++ 10 ∷ []) (wrapped_line n line) (lines_behind n others)
    ∙ append_assoc rows (10 ∷ []) (wrapped_line n line ++ lines_behind n others)

-- ---- blanks alone are left out

-- a line end or a blank is a blank in one line
flat : ℕ → ℕ
flat b = if b == 10 then 32 else b

append_kept : (xs xs' ys ys' : List ℕ) → in_one_line xs ≡ in_one_line xs' → in_one_line ys ≡ in_one_line ys'
    → in_one_line (xs ++ ys) ≡ in_one_line (xs' ++ ys')
unfolding flat
append_kept xs xs' ys ys' e f =
    map-append flat xs ys ∙ ap (λ t. t ++ in_one_line ys) e ∙ ap (λ t. in_one_line xs' ++ t) f
    ∙ sym (map-append flat xs' ys')

-- parts, each behind a byte, stand so behind the first
joined_parts : (c : ℕ) (x : List ℕ) (parts : List (List ℕ)) → join_with_byte c (x ∷ parts) ≡ x ++ joined (λ p. c ∷ p) parts
unfolding joined
joined_parts c x [] = sym (append-nil x)
joined_parts c x (y ∷ parts) = ap (λ t. x ++ c ∷ t) (joined_parts c y parts)

-- a word behind a blank or a line end
either_kept : (b : Bool) (word xs ys zs : List ℕ) → in_one_line xs ≡ in_one_line zs → in_one_line ys ≡ in_one_line zs
    → in_one_line (if b then 32 ∷ word ++ xs else 10 ∷ word ++ ys) ≡ in_one_line (32 ∷ word ++ zs)
either_kept true word xs ys zs e f = ap (λ t. 32 ∷ t) (append_kept word word xs zs refl e)
either_kept false word xs ys zs e f = ap (λ t. 32 ∷ t) (append_kept word word ys zs refl f)

behind_kept : (n taken : ℕ) (words : List (List ℕ)) → in_one_line (behind_words n taken words) ≡ in_one_line (joined (λ w. 32 ∷ w) words)
unfolding behind_words joined
behind_kept n taken [] = refl
behind_kept n taken (word ∷ words) =
    either_kept (nat_le (taken + 1 + word_columns word) n) word _ _ (joined (λ w. 32 ∷ w) words)
    (behind_kept n (taken + 1 + word_columns word) words) (behind_kept n (word_columns word) words)

words_kept : (n : ℕ) (words : List (List ℕ)) → in_one_line (wrapped_words n words) ≡ in_one_line (join_with_byte 32 words)
unfolding wrapped_words
words_kept n [] = refl
words_kept n (word ∷ words) =
    append_kept word word _ (joined (λ w. 32 ∷ w) words) refl (behind_kept n (word_columns word) words)
    ∙ ap in_one_line (sym (joined_parts 32 word words))

line_kept : (n : ℕ) (line : List ℕ) → in_one_line (wrapped_line n line) ≡ in_one_line line
line_kept n line = words_kept n (words_in line) ∙ ap in_one_line (join_with_byte-slice_split 32 line)

others_kept : (n : ℕ) (lines : List (List ℕ)) → in_one_line (lines_behind n lines) ≡ in_one_line (joined (λ w. 10 ∷ w) lines)
unfolding joined
others_kept n [] = refl
others_kept n (line ∷ lines) =
    ap (λ t. 32 ∷ t) (append_kept (wrapped_line n line) line _ _ (line_kept n line) (others_kept n lines))

lines_kept : (n : ℕ) (lines : List (List ℕ)) → in_one_line (wrapped_lines n lines) ≡ in_one_line (join_with_byte 10 lines)
unfolding wrapped_lines
lines_kept n [] = refl
lines_kept n (line ∷ lines) =
    append_kept (wrapped_line n line) line _ _ (line_kept n line) (others_kept n lines)
    ∙ ap in_one_line (sym (joined_parts 10 line lines))

if_kept : (b : Bool) (xs ys zs : List ℕ) → in_one_line xs ≡ in_one_line zs → in_one_line ys ≡ in_one_line zs
    → in_one_line (if b then xs else ys) ≡ in_one_line zs
if_kept true xs ys zs e f = e
if_kept false xs ys zs e f = f

-- a text in rows is the text, but for blanks that are line ends there
pub wrapped_kept : (columns : ℕ) (text rows : List ℕ) → rows ≡ wrapped columns text → in_one_line rows ≡ in_one_line text
unfolding wrapped
wrapped_kept columns text rows e =
    ap in_one_line e
    ∙ if_kept (columns == 0) text _ text refl
    (lines_kept (aside_columns columns) (lines_in text) ∙ ap in_one_line (join_with_byte-slice_split 10 text))
