-- A canvas without the byte 27 in its texts is printed with no escape sequences but those of its colours:
-- what stands outside of them is the print of the canvas without its colours.
use Rattle.std.proofs.Common.{◌≡◌, ℕ, zero, suc, ◌+◌, ◌-◌, ◌/◌, ◌%◌, ◌<◌, true, false, not, List, [], ◌∷◌, ◌++◌, length, map, Option, Some, None}
use Rattle.std.proofs.Common.{refl, sym, ap, ◌∙◌, subst, arith, ◌==◌, append_assoc}
use Rattle.std.specs.Prelude.{slice_index, decimal, codes}
use Rattle.std.specs.Fmt.{digits, digits_onto, digit_glyph}
use Rattle.std.specs.List.{prefix_len, list_all, AllByRecursion}
use Rattle.std.proofs.lemmas.Bool.{cond_both, cond-true, and_from, and_parts, lt-ltb, le-leb, ne_eqb, not-true}
use Rattle.std.proofs.lemmas.List.{append-nil, length-append}
use Rattle.std.proofs.lemmas.List.Folds.{list_all-append}
use Rattle.ariadne_color.specs.declared.color.Color.{Color}
use Rattle.ariadne_color.specs.declared.color.Color.TheVariants.{Fixed, Rgb}
use Rattle.ariadne_color.specs.Colors.{foreground, parameters, painted}
use Rattle.ariadne_picture.specs.Lists.{joined}
use Rattle.ariadne_picture.specs.Canvas.{Cell}
use Rattle.ariadne_picture.specs.Print.{cell_bytes, line_bytes, printed, erased, is_parameter, sequence_len, unescaped_after, unescaped}
use Rattle.ariadne_picture.specs.Variants.{HasNoEscape}
use Rattle.ariadne_picture.proofs.Lists.ListFacts.{all-weaker}

-- ---- what is left of bytes in front of others

-- of `bytes` in front of others `left` is left, whatever the others are
abbrev Leaves : List ℕ → List ℕ → Type 0
Leaves bytes left = (others : List ℕ) → unescaped (bytes ++ others) ≡ left ++ unescaped others

-- of nothing nothing is left
leaves-nothing : Leaves [] []
leaves-nothing others = refl

-- two parts leave what is left of the first, and behind it what is left of the second
leaves-append : (a b c d : List ℕ) → Leaves a b → Leaves c d → Leaves (a ++ c) (b ++ d)
leaves-append a b c d first second others =
    ap unescaped (append_assoc a c others) ∙ first (c ++ others) ∙ ap (λ t. b ++ t) (second others) ∙ sym (append_assoc b d (unescaped others))

-- parts that are joined leave what each of them leaves
leaves-mapped : {X : Type 0} (f : X → List ℕ) (g : X → X) (xs : List X) → AllByRecursion (λ x. Leaves (f x) (f (g x))) xs
    → Leaves (joined f xs) (joined f (map g xs))
unfolding joined
leaves-mapped f g [] a = leaves-nothing
leaves-mapped f g (x ∷ xs) a = leaves-append (f x) (f (g x)) (joined f xs) (joined f (map g xs)) a.0 (leaves-mapped f g xs a.1)

-- where nothing stands behind them, that is all that is left
leaves-all : (bytes left : List ℕ) → Leaves bytes left → unescaped bytes ≡ left
unfolding unescaped unescaped_after
leaves-all bytes left leaves = ap unescaped (sym (append-nil bytes)) ∙ leaves [] ∙ append-nil left

-- a sequence begins with the byte 27, so none begins at another
begins-none : (b : ℕ) (others : List ℕ) → (b == 27) ≡ false → sequence_len (b ∷ others) ≡ 0
unfolding sequence_len
begins-none b [] e = refl
begins-none b (c ∷ others) e = rw e

-- so each byte of a text without that one is left
leaves-text : (text : List ℕ) → HasNoEscape text → Leaves text text
unfolding unescaped unescaped_after
leaves-text [] h others = refl
leaves-text (b ∷ text) h others =
    let two = and_parts (not (b == 27)) (list_all (λ b. not (b == 27)) text) h in
    let none : sequence_len (b ∷ (text ++ others)) ≡ 0 = begins-none b (text ++ others) (not-true (b == 27) two.0) in
    rw none (ap (λ t. b ∷ t) (leaves-text text two.1 others))

-- ---- escape sequences

-- parameters, as they stand between ESC [ and m
abbrev AreParameters : List ℕ → Type 0
AreParameters p = list_all is_parameter p ≡ true

-- they end at the m, which is no parameter
parameters-end : (p others : List ℕ) → AreParameters p → prefix_len is_parameter (p ++ 109 ∷ [] ++ others) ≡ length p
unfolding is_parameter
parameters-end [] others a = refl
parameters-end (b ∷ p) others a =
    let two = and_parts (is_parameter b) (list_all is_parameter p) a in
    let next = parameters-end p others two.1 in
    cond-true (is_parameter b) (1 + prefix_len is_parameter (p ++ 109 ∷ [] ++ others)) 0 two.0 ∙ omega arith

-- and it stands behind as many bytes as they are
end-byte : (p others : List ℕ) → slice_index (p ++ 109 ∷ [] ++ others) (length p) ≡ 109
end-byte [] others = refl
end-byte (b ∷ p) others = end-byte p others

-- after as many bytes as stand in front the others are read
after-front : (front others : List ℕ) → unescaped_after (length front) (front ++ others) ≡ unescaped others
unfolding unescaped unescaped_after
after-front [] others = refl
after-front (b ∷ front) others = after-front front others

-- a sequence leaves nothing: it is as long as its parameters and three more
leaves-sequence : (p : List ℕ) → AreParameters p → Leaves (27 ∷ 91 ∷ (p ++ 109 ∷ [])) []
unfolding unescaped unescaped_after sequence_len
leaves-sequence p a others =
    let front : List ℕ = 91 ∷ (p ++ 109 ∷ []) in
    let long : sequence_len (27 ∷ (front ++ others)) ≡ length p + 3 = rw (parameters-end p others a, end-byte p others) in
    let some : (length p + 3 == 0) ≡ false = ne_eqb (length p + 3) 0 (λ e. omega arith) in
    let size = length-append p (109 ∷ []) in
    let rest : length p + 3 - 1 ≡ length front = omega arith in
    rw (long, some, rest) (after-front front others)

-- ---- the parameters of a colour

-- a digit is a parameter, from 48 to 57
digit-parameter : (d : ℕ) → d < 10 → is_parameter (digit_glyph false d) ≡ true
unfolding is_parameter
digit-parameter d h =
    let low = le-leb 48 (48 + d) (omega arith) in
    let high = le-leb (48 + d) 57 (omega arith) in
    rw (lt-ltb d 10 h, low, high)

-- so are digits in front of parameters
digits-parameters : (k n : ℕ) (p : List ℕ) → AreParameters p → AreParameters (digits_onto k 10 false n p)
digits-parameters zero n p a = a
digits-parameters (suc k) n p a =
    let less : n % 10 < 10 = omega arith in
    let more : List ℕ = digit_glyph false (n % 10) ∷ p in
    let all : AreParameters more = rw (digit-parameter (n % 10) less) a in
    cond_both (n / 10 == 0) more (digits_onto k 10 false (n / 10) more) AreParameters (λ _. all) (λ _. digits-parameters k (n / 10) more all)

-- and the digits of a number
decimal-parameters : (n : ℕ) → AreParameters (decimal n)
unfolding digits
decimal-parameters n = digits-parameters 64 n [] refl

-- parameters behind parameters
parameters-append : (p q : List ℕ) → AreParameters p → AreParameters q → AreParameters (p ++ q)
parameters-append p q a b = list_all-append is_parameter p q ∙ and_from (list_all is_parameter p) (list_all is_parameter q) a b

-- a semicolon and a number behind parameters
behind : (p : List ℕ) (n : ℕ) → AreParameters p → AreParameters (p ++ codes ";" ++ decimal n)
unfolding is_parameter
behind p n a = parameters-append (p ++ codes ";") (decimal n) (parameters-append p (codes ";") a refl) (decimal-parameters n)

-- each colour's are numbers with semicolons between them
color-parameters : (c : Color) → AreParameters (parameters foreground c)
unfolding is_parameter
color-parameters (Fixed n) =
    let first = parameters-append (decimal 38) (codes ";5;") (decimal-parameters 38) refl in
    parameters-append (decimal 38 ++ codes ";5;") (decimal n) first (decimal-parameters n)
color-parameters (Rgb r g b) =
    let first = parameters-append (decimal 38) (codes ";2;") (decimal-parameters 38) refl in
    let red = parameters-append (decimal 38 ++ codes ";2;") (decimal r) first (decimal-parameters r) in
    let green = behind (decimal 38 ++ codes ";2;" ++ decimal r) g red in
    behind (decimal 38 ++ codes ";2;" ++ decimal r ++ codes ";" ++ decimal g) b green
color-parameters _ = decimal-parameters _

-- ---- cells and rows

-- a painted text stands between two sequences, and so leaves the text
leaves-painted : (color : Option Color) (text : List ℕ) → HasNoEscape text → Leaves (painted color text) text
unfolding is_parameter
leaves-painted None text h = leaves-text text h
leaves-painted (Some c) text h =
    let begin : List ℕ = 27 ∷ 91 ∷ (parameters foreground c ++ 109 ∷ []) in
    let begun = leaves-append begin [] text text (leaves-sequence (parameters foreground c) (color-parameters c)) (leaves-text text h) in
    let ended = leaves-append (begin ++ text) text (27 ∷ codes "[0m") [] begun (leaves-sequence (48 ∷ []) refl) in
    subst (Leaves (painted (Some c) text)) (append-nil text) ended

-- a cell without its colour
abbrev plain_cell : Cell → Cell
plain_cell c = record c { color = None }

-- texts without the byte 27
abbrev HaveNoEscape : List Cell → Type 0
HaveNoEscape row = AllByRecursion (λ (c : Cell). HasNoEscape c.text) row

-- a row leaves that of its cells without their colours, since each cell leaves its text
leaves-row : (row : List Cell) → HaveNoEscape row → Leaves (line_bytes row) (line_bytes (map plain_cell row))
unfolding line_bytes cell_bytes
leaves-row row h =
    let each = all-weaker (λ c. HasNoEscape c.text) (λ c. Leaves (cell_bytes c) c.text) row (λ c. leaves-painted c.color c.text) h in
    let cells = leaves-mapped cell_bytes plain_cell row each in
    leaves-append (joined cell_bytes row) (joined cell_bytes (map plain_cell row)) (10 ∷ []) (10 ∷ []) cells (leaves-text (10 ∷ []) refl)

-- and what each row leaves is the row of the erased canvas
pub unescaped-printed : (rows : List (List Cell)) → AllByRecursion (λ row. AllByRecursion (λ (c : Cell). HasNoEscape c.text) row) rows
    → unescaped (printed rows) ≡ printed (erased rows)
unfolding printed
unescaped-printed rows h =
    let each = all-weaker HaveNoEscape (λ row. Leaves (line_bytes row) (line_bytes (map plain_cell row))) rows leaves-row h in
    leaves-all (joined line_bytes rows) (joined line_bytes (erased rows)) (leaves-mapped line_bytes (map plain_cell) rows each)
