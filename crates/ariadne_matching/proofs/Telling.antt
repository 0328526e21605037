-- What lines tell by the entries that are tried.
use Rattle.std.proofs.Common.{◌≡◌, ◌∙◌, ℕ, ◌+◌, Bool, true, List, [], ◌∷◌, ◌++◌, length, map, Option, Some, None, String, string_bytes, IfSome, ap, subst, sym}
use Rattle.std.specs.Borrow.{Bor}
use Rattle.std.specs.declared.alloc.Global.{Global}
use Rattle.std.proofs.lemmas.List.{length-append, length-map, map-append}
use Rattle.ariadne_matchers.specs.Catches.{caught_at}
use Rattle.ariadne_matchers.specs.MatchedRows.{takes, texts, Taking}
use Rattle.ariadne_matchers.specs.declared.reader.Fit.{Fit}
use Rattle.ariadne_matching.specs.HandedOver.{text_in}
use Rattle.ariadne_matching.specs.SettledLines.{repeated_texts, IsHandedFor, IsReportAt, IsReportOfFit, IsTold, IsToldAgain}
use Rattle.ariadne_matching.specs.TriedMatchers.{behind, place_behind, renumbered, search_told, tried, AreKept, IsNumbered, IsReached}
use Rattle.ariadne_matching.specs.declared.lines.Waiting.{Waiting}
use Rattle.ariadne_matching.specs.declared.matchers.EntryAt.{EntryAt}
use Rattle.ariadne_matching.specs.declared.matchers.Matchers.{Matchers}
use Rattle.ariadne_matching.specs.declared.matchers.Search.{Search}
use Rattle.ariadne_matching.specs.declared.matchers.Search.TheVariants as search
use Rattle.ariadne_matching.specs.declared.reading.Report.{Report}
use Rattle.ariadne_matching.specs.declared.reading.Told.{Told}
use Rattle.ariadne_matching.specs.declared.reading.Told.TheVariants as told
use Rattle.ariadne_matching.proofs.Tried.{reached_kept}

-- an entry is tried that was reached
module _ (before after : Matchers) (is_all : Bool) (lines : List Waiting) (rows : List (Bor (List ℕ))) (from : EntryAt) (found : Search)
    (kept : AreKept before after) (same : texts rows ≡ map text_in lines) (reached : IsReached before is_all (map text_in lines) from)
    (is : search_told found ≡ tried after from is_all (texts rows)) where
  reached_after : IsReached after is_all (map text_in lines) from
  reached_after = reached_kept is_all (map text_in lines) kept reached

  tried_after : (one : Option (EntryAt × Taking)) → search_told found ≡ one → tried after from is_all (map text_in lines) ≡ one
  tried_after one told_one = subst (λ (t : List (List ℕ)). tried after from is_all t ≡ one) same (sym is ∙ told_one)

  -- none counts
  pub told_nothing : found ≡ search.Nothing → IsTold after is_all lines told.Nothing
  told_nothing none = (from, reached_after, tried_after None (ap search_told none))

  -- the next line tells
  pub told_open : (place : EntryAt) → found ≡ search.Open place → IsTold after is_all lines told.Open
  told_open place opens = (from, reached_after, (place, tried_after _ (ap search_told opens)))

  module _ (place : EntryAt) (fit : Fit) (fits : found ≡ search.Fits place fit) (end : Matchers) (stays : end ≡ after) where
    -- one fits, and tells a report
    pub told_report : (report : Report) → IsNumbered found → IsReportOfFit after (renumbered place fit.entry) lines fit report
        → IsTold end is_all lines (told.Report report)
    told_report report numbered is_report =
        let number : place ≡ renumbered place fit.entry = subst IsNumbered fits numbered in
        subst (λ (m : Matchers). IsTold m is_all lines (told.Report report)) (sym stays) (
          from,
          reached_after,
          record {
            place = place;
            fit = fit;
            fits = tried_after _ (ap search_told fits);
            told = subst (λ (it : EntryAt). IsReportOfFit after it lines fit report) (sym number) is_report;
          },
        )

    -- or is passed over
    pub reached_next : IsReached end is_all (map text_in lines) (place_behind place)
    reached_next =
        subst (λ (m : Matchers). IsReached m is_all (map text_in lines) (place_behind place)) (sym stays)
        (behind reached_after (tried_after _ (ap search_told fits)))

-- the report that lines tell
pub handed_for : (matchers : Matchers) (is_all : Bool) (lines : List Waiting) (found : Told) (report : Report) → found ≡ told.Report report
    → IsTold matchers is_all lines found → IsHandedFor lines report
handed_for matchers is_all lines found report same is =
    let it = subst (IsTold matchers is_all lines) same is in
    (matchers, is_all, it.0, it.2)

-- the rows in front of a loop, and a further one
pub texts_more : (rows : List (Bor (List ℕ))) (row : Bor (List ℕ)) (front : List Waiting) (line : Waiting) → texts rows ≡ map text_in front
    → row.now ≡ text_in line → texts (rows ++ row ∷ []) ≡ repeated_texts front line
texts_more rows row front line same one =
    map-append (λ (it : Bor (List ℕ)). it.now) rows (row ∷ []) ∙ ap (λ (t : List (List ℕ)). t ++ row.now ∷ []) same
    ∙ ap (λ (r : List ℕ). map text_in front ++ r ∷ []) one

-- a loop goes on
pub told_again : (matchers : Matchers) (place at : EntryAt) (fit : Fit) (found : Search) (front : List Waiting) (line : Waiting) (rows : List (Bor (List ℕ)))
    (report : Option (String Global)) → search_told found ≡ tried matchers place true (texts rows) → found ≡ search.Fits at fit → IsNumbered found
    → at ≡ place → texts rows ≡ repeated_texts front line → length fit.lines.items ≡ length rows
    → IfSome report (λ it. IsReportAt matchers (renumbered place fit.entry) (map caught_at fit.lines.items) (string_bytes it))
    → IfSome report (λ it. IsToldAgain matchers place front line (string_bytes it))
told_again matchers place at fit found front line rows None is fits numbered here same count told_it = tt
told_again matchers place at fit found front line rows (Some it) is fits numbered here same count told_it =
    let number : at ≡ renumbered at fit.entry = subst IsNumbered fits numbered in
    let own : place ≡ renumbered place fit.entry = subst (λ (p : EntryAt). p ≡ renumbered p fit.entry) here number in
    let taken : Option (EntryAt × Taking) = Some (place, takes (map caught_at fit.lines.items)) in
    record {
      caught = map caught_at fit.lines.items;
      fits = subst (λ (t : List (List ℕ)). tried matchers place true t ≡ taken) same
          (sym is ∙ ap search_told fits ∙ ap (λ (p : EntryAt). Some (p, takes (map caught_at fit.lines.items))) here);
      whole = length-map fit.lines.items caught_at ∙ count ∙ sym (length-map rows (λ (row : Bor (List ℕ)). row.now)) ∙ ap length same
          ∙ length-append (map text_in front) (text_in line ∷ []) ∙ ap (λ (n : ℕ). n + 1) (length-map front text_in);
      told = subst (λ (p : EntryAt). IsReportAt matchers p (map caught_at fit.lines.items) (string_bytes it)) (sym own) told_it;
    }
