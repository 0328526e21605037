-- Reports about diagnostics.
use Rattle.std.proofs.Common.{◌≡◌, ◌∙◌, [], ap, refl, subst, sym}
use Rattle.std.specs.Prelude.{ℕ, max, List, ◌++◌, Option, Some, None, option_map, String, string_bytes}
use Rattle.std.specs.declared.alloc.Global.{Global}
use Rattle.std.specs.declared.ops.Range.{Range}
use Rattle.ariadne.specs.Building.{filled_code}
use Rattle.ariadne.specs.Report.{ConfigFields, Kind, LabelFields, ReportFields, new_report}
use Rattle.ariadne_safe.specs.Visible.{visible_bytes}
use Rattle.ariadne_safe.specs.declared.text.TextKind.TheVariants.{OneRow}
use Rattle.ariadne_parse.specs.declared.diagnostic.Diagnostic.{Diagnostic}
use Rattle.ariadne_show.specs.declared.options.Style.{Style}
use Rattle.ariadne_show.specs.Drawn.{coded, config_of, kind_of, room_in, IsAbout, IsBare, IsReportOf}
use Rattle.ariadne_show.specs.Asides.{helps_of, notes_of, with_helps, with_notes}
use Rattle.ariadne_show.specs.FoundSpans.{Files, FoundFields}
use Rattle.ariadne_show.specs.DrawnProposals.{AreSketched}
use Rattle.ariadne_show.specs.declared.proposed.Sketch.{Sketch}
use Rattle.ariadne_show.specs.FoundLabels.{AreOrdered, header_of, labels_of, shown_header, with_labels}
use Rattle.ariadne_show.specs.Widths.{IsTextWidth, without_rows}
use Rattle.ariadne_safe.specs.SafeReports.{shown_place}
use Rattle.ariadne_safe.specs.declared.sources.SafeSource.{SafeSource}

-- a report with lines of so many columns
abbrev pub wide : ℕ → ReportFields (ℕ × Range ℕ) → ReportFields (ℕ × Range ℕ)
wide width report = record report { config = record report.config { width = width } }

-- ---- its head

coded-config : (code : Option (String Global)) (r : ReportFields (ℕ × Range ℕ)) → (coded code r).config ≡ r.config
coded-config None r = refl
coded-config (Some code) r = refl

coded-kind : (code : Option (String Global)) (r : ReportFields (ℕ × Range ℕ)) → (coded code r).kind ≡ r.kind
coded-kind None r = refl
coded-kind (Some code) r = refl

coded-message : (code : Option (String Global)) (r : ReportFields (ℕ × Range ℕ)) → (coded code r).message ≡ r.message
coded-message None r = refl
coded-message (Some code) r = refl

coded-code : (code : Option (String Global)) (r : ReportFields (ℕ × Range ℕ)) → r.code ≡ None
    → (coded code r).code ≡ option_map (λ c. filled_code (visible_bytes OneRow (string_bytes c))) code
coded-code None r none = none
coded-code (Some code) r none = refl

-- a report that is begun with the kind of a diagnostic and a text, and with its code
pub about : (style : Style) (parsed : Diagnostic) (kind : Kind) (span : ℕ × Range ℕ) (config : ConfigFields)
    (r0 r s : ReportFields (ℕ × Range ℕ)) (text : List ℕ) → r0 ≡ record (new_report kind span) { config = config }
    → config ≡ config_of style → kind ≡ kind_of parsed → r ≡ record r0 { message = Some (visible_bytes OneRow text) }
    → s ≡ coded parsed.code r → IsAbout style 0 parsed text s
about style parsed kind span config r0 r s text begun looks is made same = rw same (record {
  config = coded-config parsed.code r ∙ ap (λ (x : ReportFields (ℕ × Range ℕ)). x.config) made
      ∙ ap (λ (x : ReportFields (ℕ × Range ℕ)). x.config) begun ∙ looks;
  kind = coded-kind parsed.code r ∙ ap (λ (x : ReportFields (ℕ × Range ℕ)). x.kind) made
      ∙ ap (λ (x : ReportFields (ℕ × Range ℕ)). x.kind) begun ∙ is;
  code = coded-code parsed.code r (ap (λ (x : ReportFields (ℕ × Range ℕ)). x.code) made ∙ ap (λ (x : ReportFields (ℕ × Range ℕ)). x.code) begun);
  message = coded-message parsed.code r ∙ ap (λ (x : ReportFields (ℕ × Range ℕ)). x.message) made;
})

-- a report that is begun so has nothing else
coded_bare : (code : Option (String Global)) (r : ReportFields (ℕ × Range ℕ)) → IsBare r → IsBare (coded code r)
coded_bare None r bare = bare
coded_bare (Some code) r bare = record { labels = bare.labels; notes = bare.notes; helps = bare.helps }

pub begun_bare : (parsed : Diagnostic) (r0 r s : ReportFields (ℕ × Range ℕ)) (message : Option (List ℕ)) → IsBare r0
    → r ≡ record r0 { message = message } → s ≡ coded parsed.code r → IsBare s
begun_bare parsed r0 r s message bare made same =
    rw same (coded_bare parsed.code r (rw made (record { labels = bare.labels; notes = bare.notes; helps = bare.helps })))

pub said_bare : (r0 s : ReportFields (ℕ × Range ℕ)) (message : Option (List ℕ)) → IsBare r0
    → s ≡ record r0 { message = message } → IsBare s
said_bare r0 s message bare made = rw made (record { labels = bare.labels; notes = bare.notes; helps = bare.helps })

pub new_bare : (kind : Kind) (span : ℕ × Range ℕ) (config : ConfigFields) (r : ReportFields (ℕ × Range ℕ))
    → r ≡ record (new_report kind span) { config = config } → IsBare r
new_bare kind span config r is = rw is (record { labels = refl; notes = refl; helps = refl })

-- one with labels
about_labels : (style : Style) (parsed : Diagnostic) (text : List ℕ) (r : ReportFields (ℕ × Range ℕ))
    (labels : List (LabelFields (ℕ × Range ℕ))) → IsAbout style 0 parsed text r → IsAbout style 0 parsed text (with_labels labels r)
about_labels style parsed text r labels about =
    record { config = about.config; kind = about.kind; code = about.code; message = about.message }

-- one with a width, notes and helps
about_more : (style : Style) (parsed : Diagnostic) (text : List ℕ) (r : ReportFields (ℕ × Range ℕ)) (width : ℕ) (notes helps : List (List ℕ))
    → IsAbout style 0 parsed text r
    → IsAbout style width parsed text (with_helps helps (with_notes notes (wide width r)))
about_more style parsed text r width notes helps about = record {
  config = ap (λ (c : ConfigFields). record c { width = width }) about.config;
  kind = about.kind;
  code = about.code;
  message = about.message;
}

-- without these it is as it was
rows_without : (r : ReportFields (ℕ × Range ℕ)) (width : ℕ) (notes helps : List (List ℕ)) → r.notes ≡ [] → r.helps ≡ [] → r.config.width ≡ 0
    → r ≡ without_rows (with_helps helps (with_notes notes (wide width r)))
rows_without r width notes helps none nor whole = λ i. record r {
  notes = none i;
  helps = nor i;
  config = record r.config { width = whole i };
}

pub report_about : (style : Style) (files : Files) (parsed : Diagnostic) (main : FoundFields) (ordered : List FoundFields)
    (r m s : ReportFields (ℕ × Range ℕ)) (width : ℕ) (under sources : List SafeSource) (sketches : List Sketch)
    → IsAbout style 0 parsed (string_bytes parsed.message) r → IsBare r → r.span ≡ shown_header r.config.index_type under main → AreOrdered files main.number parsed.spans.items ordered
    → m ≡ with_labels (labels_of r.config.index_type under parsed.severity style.is_compact ordered) r
    → IsTextWidth style.width under m width → AreSketched (room_in style width) files sources parsed.proposals.items sketches
    → s ≡ with_helps (helps_of width sketches parsed) (with_notes (notes_of width files parsed) (wide width m))
    → sources ≡ under → IsReportOf style files parsed main sources s
report_about style files parsed main ordered r m s width under sources sketches about bare span spans marked fits drawn is same =
    rw (is, same, marked) (record {
      width = width;
      is_width =
          subst (λ (q : ReportFields (ℕ × Range ℕ)). IsTextWidth style.width under q width)
          (marked
          ∙ rows_without (with_labels labels r) width (notes_of width files parsed) helps bare.notes bare.helps
          (ap (λ (c : ConfigFields). c.width) about.config)) fits;
      about = about_more style parsed (string_bytes parsed.message) (with_labels labels r) width (notes_of width files parsed) helps
          (about_labels style parsed (string_bytes parsed.message) r labels about);
      span = span;
      ordered = ordered;
      spans = spans;
      labels = ap (λ l. l ++ labels) bare.labels;
      notes = ap (λ l. l ++ notes_of width files parsed) bare.notes;
      sketches = sketches;
      proposals = subst (λ (l : List SafeSource). AreSketched (room_in style width) files l parsed.proposals.items sketches) same drawn;
      helps = ap (λ l. l ++ helps) bare.helps;
    })
  where
    labels : List (LabelFields (ℕ × Range ℕ))
    labels = labels_of r.config.index_type under parsed.severity style.is_compact ordered

    helps : List (List ℕ)
    helps = helps_of width sketches parsed

-- a header that ends at the end of a span
abbrev header_to : FoundFields → ℕ → ℕ × Range ℕ
header_to main end = (main.number, record { start = main.caret; end = end })

pub header_ends : (main : FoundFields) (end : ℕ) → end ≡ max main.end main.caret → header_to main end ≡ header_of main
header_ends main end same = ap (header_to main) same

-- what its header names, from which the report is begun
coded-span : (code : Option (String Global)) (r : ReportFields (ℕ × Range ℕ)) → (coded code r).span ≡ r.span
coded-span None r = refl
coded-span (Some code) r = refl

pub begun_span : (parsed : Diagnostic) (main : FoundFields) (span : ℕ × Range ℕ) (kind : Kind) (config : ConfigFields) (message : Option (List ℕ))
    (r0 r s : ReportFields (ℕ × Range ℕ)) (sources under : List SafeSource)
    → span ≡ header_of main
    → r0 ≡ record (new_report kind (shown_place config.index_type sources span)) { config = config }
    → r ≡ record r0 { message = message } → s ≡ coded parsed.code r → under ≡ sources
    → s.span ≡ shown_header s.config.index_type under main
begun_span parsed main span kind config message r0 r s sources under named begun made same over = rw (same, over) (
    coded-span parsed.code r ∙ ap (λ (x : ReportFields (ℕ × Range ℕ)). x.span) (made ∙ ap (λ (x : ReportFields (ℕ × Range ℕ)). record x { message = message }) begun)
    ∙ ap (shown_place config.index_type sources) named
    ∙ ap (λ (c : ConfigFields). shown_header c.index_type sources main)
    (sym (coded-config parsed.code r ∙ ap (λ (x : ReportFields (ℕ × Range ℕ)). x.config) (made ∙ ap (λ (x : ReportFields (ℕ × Range ℕ)). record x { message = message }) begun))))
