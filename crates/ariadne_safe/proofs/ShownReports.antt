-- The names of kinds hide nothing, nor does a code with blanks behind it, nor what is sent of a report that hides nothing.
use Rattle.std.proofs.Common.{◌≡◌, ℕ, zero, suc, ◌-◌, true, List, [], ◌∷◌, ◌++◌, length, replicate, Option}
use Rattle.std.proofs.Common.{refl, sym, ap, ◌∙◌, subst, append_assoc}
use Rattle.std.specs.Prelude.{Result, Ok, Err, Vec, OnOk, Some, codes}
use Rattle.std.specs.declared.alloc.Global.{Global}
use Rattle.std.specs.List.{list_all}
use Rattle.std.specs.Str.{chars, is_utf8}
use Rattle.std.specs.declared.ops.Range.{Range}
use Rattle.std.proofs.lemmas.Bool.{and_from, and_parts}
use Rattle.std.proofs.lemmas.List.{append-nil}
use Rattle.std.proofs.lemmas.List.Folds.{list_all-append}
use Rattle.std.proofs.lemmas.Str.{IsUtf8-append, IsUtf8-from_is_utf8, is_utf8-from_IsUtf8, chars-append}
use Rattle.ariadne.specs.LeftOut.{LeftOut}
use Rattle.ariadne.specs.Judging.{drawn_labels}
use Rattle.ariadne.specs.Canvas.{canvas}
use Rattle.ariadne.specs.Print.{printed}
use Rattle.ariadne.specs.Report.{ReportFields}
use Rattle.ariadne.specs.declared.write_error.WriteError.{WriteError}
use Rattle.ariadne.specs.Building.{filled_code}
use Rattle.ariadne.specs.Written.{Written}
use Rattle.ariadne_safe.specs.declared.sources.SafeSource.{SafeSource}
use Rattle.ariadne_safe.specs.declared.sources.NoSource.{NoSource}
use Rattle.ariadne_safe.specs.SafeReports.{over, says_number}
use Rattle.ariadne_safe.proofs.Numbers.{names_are_shown, sources_are_shown}
use Rattle.ariadne_safe.specs.declared.text.TextKind.TheVariants.{OneRow}
use Rattle.ariadne_safe.specs.Visible.{is_hidden, is_seen_in, is_shown}
use Rattle.ariadne_safe.specs.Pictures.{is_shown_report, HideNothing, IsDrawnSafely, GotNothingHidden}
use Rattle.ariadne_safe.proofs.SafePictures.{parts_shown, report_shown, pictures_hide_nothing}
use Rattle.ariadne_safe.proofs.SafeReports.{drawn_safely}

-- ---- kinds

pub error_shown : is_shown OneRow (codes "Error") ≡ true
unfolding is_utf8 chars is_hidden lib.Utf8.encode
error_shown = refl

pub warning_shown : is_shown OneRow (codes "Warning") ≡ true
unfolding is_utf8 chars is_hidden lib.Utf8.encode
warning_shown = refl

pub advice_shown : is_shown OneRow (codes "Advice") ≡ true
unfolding is_utf8 chars is_hidden lib.Utf8.encode
advice_shown = refl

-- ---- codes

-- one blank is shown
blank_shown : is_shown OneRow (32 ∷ []) ≡ true
unfolding is_utf8 chars is_hidden lib.Utf8.encode
blank_shown = refl

-- and texts that are joined
joined_shown : (s t : List ℕ) → is_shown OneRow s ≡ true → is_shown OneRow t ≡ true → is_shown OneRow (s ++ t) ≡ true
joined_shown s t h g =
    let seen = list_all (is_seen_in OneRow) in
    let p = and_parts (is_utf8 s) (seen (chars s)) h in
    let q = and_parts (is_utf8 t) (seen (chars t)) g in
    let u = IsUtf8-from_is_utf8 s p.0 in
    let all : seen (chars (s ++ t)) ≡ true =
    ap seen (chars-append s t u) ∙ list_all-append (is_seen_in OneRow) (chars s) (chars t) ∙ and_from (seen (chars s)) (seen (chars t)) p.1 q.1 in
    and_from (is_utf8 (s ++ t)) (seen (chars (s ++ t))) (is_utf8-from_IsUtf8 (s ++ t) (IsUtf8-append s t u (IsUtf8-from_is_utf8 t q.0))) all

-- so a code with blanks behind it
blanks_shown : (n : ℕ) (t : List ℕ) → is_shown OneRow t ≡ true → is_shown OneRow (t ++ replicate n 32) ≡ true
blanks_shown zero t h = subst (λ s. is_shown OneRow s ≡ true) (sym (append-nil t)) h
blanks_shown (suc n) t h =
    subst (λ s. is_shown OneRow s ≡ true) (append_assoc t (32 ∷ []) (replicate n 32))
    (blanks_shown n (t ++ 32 ∷ []) (joined_shown t (32 ∷ []) h blank_shown))

filled_shown : (code : List ℕ) → is_shown OneRow code ≡ true → is_shown OneRow (filled_code code) ≡ true
filled_shown code h = blanks_shown (2 - length (chars code)) code h

-- and the report that has it
pub coded_shown : {S : Type 0} (r : ReportFields S) (code : List ℕ) → is_shown_report r ≡ true → is_shown OneRow code ≡ true
    → is_shown_report (record r { code = Some (filled_code code) }) ≡ true
coded_shown r code h seen =
    let p = parts_shown r h in
    report_shown (record r { code = Some (filled_code code) }) (record {
      kind = p.kind;
      code = filled_shown code seen;
      message = p.message;
      labels = p.labels;
      notes = p.notes;
      helps = p.helps;
    })

-- ---- what is sent

-- sources and their names hide nothing
nothing_hidden : (sources : List SafeSource) (r : ReportFields (ℕ × Range ℕ)) → is_shown_report r ≡ true → HideNothing (over sources) r
nothing_hidden sources r shown = record { texts = shown; names = names_are_shown sources; sources = sources_are_shown sources }

-- so a report that hides nothing is drawn safely over them
pub safely : (sources : List SafeSource) (r : ReportFields (ℕ × Range ℕ)) → is_shown_report r ≡ true → IsDrawnSafely (over sources) r
safely sources r shown = drawn_safely (over sources) r (nothing_hidden sources r shown)

-- and its picture hides nothing
pub hidden_none : (old new : List SafeSource) (r : ReportFields (ℕ × Range ℕ)) (before after : Option (List ℕ))
    (result : Result (Vec (LeftOut NoSource) Global) WriteError) → is_shown_report r ≡ true
    → Written {E = NoSource} says_number (over old) (over new) r before after result → OnOk result (GotNothingHidden before after)
hidden_none old new r before after (Ok list) shown w = (
  printed (canvas (over new) r (drawn_labels w.picture.outcomes)),
  pictures_hide_nothing (over new) r (drawn_labels w.picture.outcomes) (nothing_hidden new r shown),
  rw w.picture.drawn.they_are_exactly_the_printed_canvas at w.sent,
)
hidden_none old new r before after (Err e) shown w = tt
