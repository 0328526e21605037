-- Changes that are not refused fit their text.
use Rattle.std.proofs.Common.{◌≡◌, ◌∙◌, ap, sym, refl, subst, ℕ, zero, suc, ◌+◌, ◌-◌, ◌≤◌, Bool, true, false, ◌||◌, cond, List, [], ◌∷◌, ◌++◌, map, length, take, drop, Option, Some, None, arith, ltb}
use Rattle.std.specs.Prelude.{encode_utf8, encode_utf8_all, option_map}
use Rattle.std.specs.Str.{chars, IsUtf8, IsCharBoundary}
use Rattle.std.proofs.Math.Utf8.{scalars}
use Rattle.std.proofs.lemmas.Bool.{true≢false}
use Rattle.std.proofs.lemmas.Bool.Decides.{nat_tests}
use Rattle.std.proofs.lemmas.List.{take-append-drop, length-append}
use Rattle.std.proofs.Math.Seq.{drop-append_seam, take-add}
use Rattle.std.proofs.lemmas.Str.{chars-encodes, encodes-append, encodes-chars, scalars-chars, IsCharBoundary-at_seam}
use Rattle.ariadne_base.proofs.CutOut.{scalars_behind}
use Rattle.ariadne_picture.specs.declared.switches.IndexType.{IndexType}
use Rattle.ariadne_picture.specs.declared.switches.IndexType.TheVariants.{Byte, Char}
use Rattle.ariadne_edits.specs.declared.change.Change.{Change}
use Rattle.ariadne_edits.specs.declared.edit.BadEdit.{BadEdit}
use Rattle.ariadne_edits.specs.declared.edit.Edit.{Edit}
use Rattle.ariadne_edits.specs.Changes.{byte_at, in_bytes, Fit, FitsBehind}
use Rattle.ariadne_edits.specs.Outcomes.{Accepts}
use Rattle.ariadne_edits.specs.Refusals.{cuts, first, first_overlap, is_inside, is_past, is_reversed, or_else, refusal_of, size_in}

-- ---- none is wrong

none_first : (a b : Option BadEdit) → or_else a b ≡ None → a ≡ None
none_first None b h = refl
none_first (Some x) b h = cc

none_next : (a b : Option BadEdit) → or_else a b ≡ None → b ≡ None
none_next None b h = h
none_next (Some x) b h = absurd (let no : ⊥ = cc in no)

none_mapped : {X Y : Type 0} (f : X → Y) (o : Option X) → option_map f o ≡ None → o ≡ None
none_mapped f None h = refl
none_mapped f (Some x) h = absurd (let no : ⊥ = cc in no)

-- no change passes a test
passed : {X : Type 0} (b : Bool) (x : X) (o : Option X) → cond b (Some x) o ≡ None → (b ≡ false) × (o ≡ None)
passed false x o h = (refl, h)
passed true x o h = absurd (let no : ⊥ = cc in no)

-- ---- where a text may be cut

whole_byte : (text : List ℕ) (i : ℕ) → i ≤ length text → is_inside text i ≡ false → IsCharBoundary text i
whole_byte text i h e = (h, λ lt high. grind (arith, nat_tests))

-- the first characters of a text end where it may be cut
module _ (text : List ℕ) (u : IsUtf8 text) where
  pub front_parts : (n : ℕ) → text ≡ encode_utf8_all (take n (chars text)) ++ encode_utf8_all (drop n (chars text))
  front_parts n =
      sym (encodes-chars text u) ∙ ap encode_utf8_all (sym (take-append-drop n (chars text)))
      ∙ encodes-append (take n (chars text)) (drop n (chars text))

  pub front_whole : (n : ℕ) → IsCharBoundary text (length (encode_utf8_all (take n (chars text))))
  front_whole n =
      IsCharBoundary-at_seam text (encode_utf8_all (take n (chars text))) (encode_utf8_all (drop n (chars text))) (front_parts n) (
        drop n (chars text),
        (
          scalars_behind (take n (chars text)) (drop n (chars text))
              (subst (λ cs. scalars cs ≡ true) (sym (take-append-drop n (chars text))) (scalars-chars text u)),
          refl,
        ),
      )

  pub front_within : (n : ℕ) → length (encode_utf8_all (take n (chars text))) ≤ length text
  front_within n = (front_whole n).0

  -- and what is behind them are the characters behind
  behind_front : (n : ℕ) → chars (drop (length (encode_utf8_all (take n (chars text)))) text) ≡ drop n (chars text)
  behind_front n =
      ap chars (ap (drop (length (encode_utf8_all (take n (chars text))))) (front_parts n)
      ∙ drop-append_seam (encode_utf8_all (take n (chars text))) (encode_utf8_all (drop n (chars text))))
      ∙ chars-encodes (drop n (chars text))
      (scalars_behind (take n (chars text)) (drop n (chars text))
      (subst (λ cs. scalars cs ≡ true) (sym (take-append-drop n (chars text))) (scalars-chars text u)))

  -- so bytes may be counted from there on
  counted_on : (m n : ℕ) → length (encode_utf8_all (take m (chars text)))
      + length (encode_utf8_all (take n (chars (drop (length (encode_utf8_all (take m (chars text)))) text))))
      ≡ length (encode_utf8_all (take (m + n) (chars text)))
  counted_on m n =
      rw (
        behind_front m,
        take-add m n (chars text),
        encodes-append (take m (chars text)) (take n (drop m (chars text))),
        length-append (encode_utf8_all (take m (chars text))) (encode_utf8_all (take n (drop m (chars text)))),
      ) refl

  pub counted_to : (m n byte count : ℕ) (rest : List ℕ) → m ≤ n → byte ≡ length (encode_utf8_all (take m (chars text)))
      → rest ≡ drop byte text → count ≡ length (encode_utf8_all (take (n - m) (chars rest)))
      → byte + count ≡ length (encode_utf8_all (take n (chars text)))
  counted_to m n byte count rest h b r k =
      let whole : m + (n - m) ≡ n = omega (arith, h) in
      rw (k, r, b) (counted_on m (n - m) ∙ ap (λ i. length (encode_utf8_all (take i (chars text)))) whole)

-- more characters are no fewer bytes
front_up : (cs : List ℕ) (m n : ℕ) → m ≤ n → length (encode_utf8_all (take m cs)) ≤ length (encode_utf8_all (take n cs))
front_up cs zero n h = omega arith
front_up [] (suc m) n h = omega arith
front_up (c ∷ cs) (suc m) zero h = absurd (omega arith)
front_up (c ∷ cs) (suc m) (suc n) h =
    omega (arith, length-append (encode_utf8 c) (encode_utf8_all (take m cs)), length-append (encode_utf8 c) (encode_utf8_all (take n cs)), front_up cs m n (omega arith))

-- ---- one change

not_less : (a b : ℕ) → ltb a b ≡ false → b ≤ a
not_less a b h = grind (arith, nat_tests)

neither : (a b : Bool) → (a || b) ≡ false → (a ≡ false) × (b ≡ false)
neither false b h = (refl, h)
neither true b h = absurd (true≢false h)

fits : (counts : IndexType) (text : List ℕ) → IsUtf8 text → (at : ℕ) (c : Change) → is_reversed c ≡ false → ltb c.start at ≡ false
    → is_past (size_in counts text) c ≡ false → cuts counts text c ≡ false → FitsBehind text (byte_at counts text at) (in_bytes counts text c)
fits Byte text u at c r o p k =
    let rises = not_less c.end c.start r in
    let within = not_less (length text) c.end p in
    let ends = neither (is_inside text c.start) (is_inside text c.end) k in
    record {
      behind = not_less c.start at o;
      rises = rises;
      within = within;
      starts_whole = whole_byte text c.start (omega (arith, rises, within)) ends.0;
      ends_whole = whole_byte text c.end within ends.1;
    }
fits Char text u at c r o p k = record {
  behind = front_up (chars text) at c.start (not_less c.start at o);
  rises = front_up (chars text) c.start c.end (not_less c.end c.start r);
  within = front_within text u c.end;
  starts_whole = front_whole text u c.start;
  ends_whole = front_whole text u c.end;
}

-- ---- all

all_fit : (counts : IndexType) (text : List ℕ) → IsUtf8 text → (at : ℕ) (cs : List Change) → first is_reversed cs ≡ None
    → first_overlap at cs ≡ None → first (is_past (size_in counts text)) cs ≡ None → first (cuts counts text) cs ≡ None
    → Fit text (byte_at counts text at) (map (in_bytes counts text) cs)
all_fit counts text u at [] r o p k = tt
all_fit counts text u at (c ∷ cs) r o p k =
    let r' = passed (is_reversed c) c.number (first is_reversed cs) r in
    let o' = passed (ltb c.start at) c.number (first_overlap c.end cs) o in
    let p' = passed (is_past (size_in counts text) c) c.number (first (is_past (size_in counts text)) cs) p in
    let k' = passed (cuts counts text c) c.number (first (cuts counts text) cs) k in
    (fits counts text u at c r'.0 o'.0 p'.0 k'.0, all_fit counts text u c.end cs r'.1 o'.1 p'.1 k'.1)

starts_at_none : (counts : IndexType) (text : List ℕ) → byte_at counts text 0 ≡ 0
starts_at_none Byte text = refl
starts_at_none Char text = refl

-- changes that are not refused fit
pub sound_fit : (counts : IndexType) (text : List ℕ) → IsUtf8 text → (cs : List Change) → refusal_of counts text cs ≡ None
    → Fit text 0 (map (in_bytes counts text) cs)
unfolding refusal_of
sound_fit counts text u cs h =
    let h1 = none_next _ _ h in
    let h2 = none_next _ _ h1 in
    let h3 = none_next _ _ h2 in
    subst (λ at. Fit text at (map (in_bytes counts text) cs)) (starts_at_none counts text)
    (all_fit counts text u 0 cs (none_mapped _ _ (none_first _ _ h)) (none_mapped _ _ (none_first _ _ h1)) (none_mapped _ _ (none_first _ _ h2)) (none_mapped _ _ h3))

-- edits that are accepted fit
pub accepted_fit : (counts : IndexType) (text : List ℕ) → IsUtf8 text → (edits : List Edit) (made : List Change) → Accepts counts text edits made
    → Fit text 0 made
accepted_fit counts text u edits made a = subst (Fit text 0) (sym a.made_are) (sound_fit counts text u a.changes a.sound)
