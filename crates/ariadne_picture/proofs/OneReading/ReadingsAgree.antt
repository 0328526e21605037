-- Two placings that read a picture agree: on its lines and heads, and on its messages, but that those of twins may change places.
use Rattle.std.proofs.Common.{◌≡◌, ℕ, ◌≤◌, true, List, length}
use Rattle.std.proofs.Common.{Some, refl, sym, ap, ◌∙◌, subst, arith, inl, inr}
use Rattle.std.specs.Prelude.{slice_get}
use Rattle.std.specs.List.{AllByRecursion}
use Rattle.std.proofs.lemmas.Bool.{cases_Bool, true≢false}
use Rattle.std.proofs.lemmas.Option.{slice_get_within}
use Rattle.ariadne_picture.specs.declared.label_info.LabelInfo.{LabelInfo}
use Rattle.ariadne_picture.specs.declared.label_info.LineLabel.{LineLabel}
use Rattle.ariadne_picture.specs.Ranks.{is_on_one_line}
use Rattle.ariadne_picture.specs.Rows.{arrow}
use Rattle.ariadne_picture.specs.Columns.{layout_of, column_of}
use Rattle.ariadne_picture.specs.Pieces.{Section, message_at}
use Rattle.ariadne_picture.specs.Placing.Group.{messages_of}
use Rattle.ariadne_picture.specs.Placing.Rows.{Placing, row_at}
use Rattle.ariadne_picture.specs.Accept.{AreAccepted}
use Rattle.ariadne_picture.specs.Report.{ReportFields, World}
use Rattle.ariadne_picture.specs.Canvas.{canvas, sections, texts_of}
use Rattle.ariadne_picture.specs.Headline.{IsReadBy, AreReadInOneWay}
use Rattle.ariadne_picture.specs.Readings.{AreTwins, HasSameRow, AgreeOnStrokes}
use Rattle.ariadne_picture.proofs.Lists.Elements.{Has}
use Rattle.ariadne_picture.proofs.Labels.LabelsAtLine.{gutter-label-there}
use Rattle.ariadne_picture.proofs.Rows.RowOrder.{shown_rows}
use Rattle.ariadne_picture.proofs.Reading.DrawnReports.{picture_of}
use Rattle.ariadne_picture.proofs.Reading.EveryReport.{numbered, all-placed}
use Rattle.ariadne_picture.proofs.Reading.HeadPlaces.{IsGutterLabelOf}
use Rattle.ariadne_picture.proofs.Reading.PlaceCounts.{ArePlaced}
use Rattle.ariadne_picture.proofs.Reading.Pictures.{Picture, rows_of, number, number-at}
use Rattle.ariadne_picture.proofs.Reading.ShownLine.{IsArrowRow, arrow-at, source-at}
use Rattle.ariadne_picture.proofs.OneReading.LinesFound.{same-lines}
use Rattle.ariadne_picture.proofs.OneReading.MessagesFound.{has-filtered, ends-of}
use Rattle.ariadne_picture.proofs.OneReading.MessagesFound.{MessageFound, message-found, message-size, same-rows}
use Rattle.ariadne_picture.proofs.OneReading.StrokesFound.{head-found, end-found, end-row, same-rank, read-picture}
use Rattle.ariadne_picture.proofs.Labels.GroupLines.{has-place, contained}
use Rattle.ariadne_picture.proofs.OneReading.TwinsFound.{line-is, found-within, same-column}

-- ---- two placings that read the picture

module _ (v : Picture) (placed : ArePlaced v) (p q : Placing) (h : IsReadBy (rows_of v) v.sections (message_at v.texts) p)
    (k : IsReadBy (rows_of v) v.sections (message_at v.texts) q) (g : ℕ) (s : Section) (there : slice_get v.sections g ≡ Some s) where
  -- two labels of a line, one for each, whose messages stand in one row
  twins : (a b : LabelInfo) (has : Has (messages_of s) a) (other : Has (messages_of s) b) → is_on_one_line a ≡ true → b.end_line ≡ a.end_line
      → (m : MessageFound v p h g s a) → (n : MessageFound v q k g s b) → p.message_row a.position ≡ q.message_row b.position
      → AreTwins (message_at v.texts) s a b
  unfolding messages_of
  twins a b has other one line m n row =
      let own = subst (λ l. IsArrowRow v g s l n.rank n.label) line n.arrow_row in
      let moved : number v g s (arrow b.end_line n.rank) ≡ number v g s (arrow a.end_line n.rank) = ap (λ l. number v g s (arrow l n.rank)) line in
      let rank : m.rank ≡ n.rank = same-rank v m.arrow_row own (m.row ∙ row ∙ sym n.row ∙ moved) in
      let mine = m.arrow_row.there in
      let its = own.there in
      let label : m.label ≡ n.label = cc in
      let within = found-within v placed p h g s a there has one m in
      let info : m.label.info ≡ n.label.info = ap (λ (x : LineLabel). x.info) label in
      elim (cases_Bool (is_on_one_line b)) [
        | inl also ↦
            let first = same-column v placed p h g s a there has one m in
            let second = same-column v placed q k g s b there other also n in
            let from = line-is v placed p h g s a there has one in
            let to = line-is v placed q k g s b there other also in
            let column : ℕ → LabelInfo → ℕ = λ l a. column_of s.sheet.switches (layout_of s.sheet l) a.attach in
            record {
              first_within_a_line = one;
              second_within_a_line = also;
              same_line = from ∙ sym line ∙ sym to;
              same_message = m.text ∙ ap (λ (a : LabelInfo). message_at v.texts a.position) info ∙ sym n.text;
              same_column =
                  ap (λ l. column l a) from ∙ first ∙ ap (λ (x : LineLabel). column_of s.sheet.switches (layout_of s.sheet a.end_line) x.place) label
                  ∙ ap (λ l. column_of s.sheet.switches (layout_of s.sheet l) n.label.place) (sym line) ∙ sym second ∙ ap (λ l. column l b) (sym to);
            }
        | inr several ↦
            let passed = has-filtered (λ (a : LabelInfo). a.has_message) s.sheet.labels b other in
            let i = gutter-label-there s.sheet passed.0.place b passed.0.there passed.1 several in
            let o : IsGutterLabelOf v g s i.place b = record { group = there; owned = i.there } in
            let its_own : n.label.info ≡ b = end-found v q k g s i.place b o n in
            absurd (true≢false (sym within.one_line ∙ ap is_on_one_line (info ∙ its_own) ∙ several))
      ]

  -- where p has the message of a label within one line, q has one too
  inline-row : (a : LabelInfo) (has : Has (messages_of s) a) → is_on_one_line a ≡ true → HasSameRow (message_at v.texts) s p q a
  inline-row a has one =
      let m = message-found v p h g s a there has in
      let mine = message-found v q k g s a there has in
      let e = ends-of v q k g s a.end_line m.line in
      let at = number-at v (arrow-at v m.arrow_row) in
      let source = source-at v m.line in
      let row = m.row in
      let long = slice_get_within (shown_rows s.sheet a.end_line) m.arrow_row.index _ m.arrow_row.row in
      let size = message-size v m.line m.rank m.label m.arrow_row m.no_start in
      let same = mine.same_cells in
      elim (e.others (p.message_row a.position) (omega (arith, at, source, row)) (omega (arith, at, source, row, long))) [
        | inl b ↦ record {
          label = b.0;
          there = contained (messages_of s) b.0 b.1;
          same_row = sym b.3;
          same_label = inr (twins a b.0 has b.1 one b.2 m (message-found v q k g s b.0 there b.1) (sym b.3));
        }
        | inr short ↦
            let rows = ap length (same-rows v q k (p.message_row a.position)) in
            let moved = ap (λ n. length (row_at (rows_of v) n)) row in
            absurd (omega (arith, size, short, rows, moved, same))
      ]

  -- and so of each
  message-agrees : (a : LabelInfo) → Has (messages_of s) a → HasSameRow (message_at v.texts) s p q a
  unfolding messages_of
  message-agrees a has = elim (cases_Bool (is_on_one_line a)) [
    | inl one ↦ inline-row a has one
    | inr several ↦
        let passed = has-filtered (λ (a : LabelInfo). a.has_message) s.sheet.labels a has in
        let i = gutter-label-there s.sheet passed.0.place a passed.0.there passed.1 several in
        let o : IsGutterLabelOf v g s i.place a = record { group = there; owned = i.there } in
        record {
          label = a;
          there = contained (messages_of s) a has;
          same_row = end-row v p h g s i.place a o ∙ sym (end-row v q k g s i.place a o);
          same_label = inl refl;
        }
  ]

-- so they agree
pub readings-agree : (v : Picture) (placed : ArePlaced v) (p q : Placing) → IsReadBy (rows_of v) v.sections (message_at v.texts) p
    → IsReadBy (rows_of v) v.sections (message_at v.texts) q → AgreeOnStrokes (message_at v.texts) v.sections p q
readings-agree v placed p q h k = record {
  lines = same-lines v p q h.rows_belong_together k.rows_belong_together;
  heads = λ g s i a there owned.
      let o : IsGutterLabelOf v g s i a = record { group = there; owned = owned } in head-found v p h g s i a o ∙ sym (head-found v q k g s i a o);
  messages = λ g s a there has. message-agrees v placed p q h k g s there a (has-place (messages_of s) a has);
}

-- and so do those of each report
pub every-agree : {S Id : Type 0} (w : World S Id) (r : ReportFields S) (infos : List LabelInfo) → AreAccepted w r infos
    → (law : (p q : Id) → w.is_same p q ≡ true → w.source_of p ≡ w.source_of q)
    → (forward : AllByRecursion (λ label. w.start_of label.span ≤ w.end_of label.span) r.labels)
    → AreReadInOneWay (canvas w r infos) (sections w r infos) (message_at (texts_of r))
every-agree w r infos accepted law forward p q h k =
    readings-agree (picture_of w r infos (numbered w r infos accepted forward)) (all-placed w r infos accepted forward law) p q
    (read-picture w r infos accepted forward p h) (read-picture w r infos accepted forward q k)
