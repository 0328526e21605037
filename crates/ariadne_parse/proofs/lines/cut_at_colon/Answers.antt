use Rattle.std.proofs.Common.{◌∙◌, ◌+◌, ap, sym, refl, arith, length}
use Rattle.std.proofs.lemmas.Str.{IsCharBoundary-after_ascii, IsCharBoundary-before_ascii, IsCharBoundary-start}
use Rattle.ariadne_parse.specs.Heads.{colons_from}
use Rattle.ariadne_parse.proofs.Texts.{back_is, cut_is, front_is, no_colon}
use Rattle.ariadne_parse.proofs.lines.cut_at_colon.Goals as goal

-- no colon is left
pub returns-in_err-front : goal.returns-in_err-front
returns-in_err-front c =
    rw c.from_residual-in_err-front.ensures
    (ap (colons_from c.args.from) (sym (c.in_ok-get.ensures.cases.0 ∙ back_is c.args.line.now c.args.from))
    ∙ no_colon c.in_ok-get.field-0.now c.args.from (c.in_err-front.ensures.byte (omega arith) (λ w o h. h)))

-- a line may be cut at a colon
pub returns-in_err-get-2 : goal.returns-in_err-get-2
returns-in_err-get-2 c =
    let cut =
    cut_is c.args.line.now c.in_ok-get.field-0.now (c.in_ok-front.front, c.in_ok-front.behind) c.args.from
    c.in_ok-get.ensures.cases.0 c.in_ok-front.ensures.cases in
    absurd
    (c.in_err-get-2.ensures.cases (omega arith) (IsCharBoundary-start c.args.line.now c.utf8.line)
    (IsCharBoundary-before_ascii c.args.line.now (c.args.from + length c.in_ok-front.front.now) cut.0.within (omega (arith, cut.0.colon))))

-- the next colon stands between
pub returns : goal.returns
returns c =
    let cut =
    cut_is c.args.line.now c.in_ok-get.field-0.now (c.in_ok-front.front, c.in_ok-front.behind) c.args.from
    c.in_ok-get.ensures.cases.0 c.in_ok-front.ensures.cases in
    let at = c.args.from + length c.in_ok-front.front.now in record {
      at = at;
      is_next = cut.1;
      before = c.in_ok-get-2.ensures.cases.0 ∙ front_is c.args.line.now at;
      behind = cut.0.behind;
      goes_on = refl;
      is_boundary = IsCharBoundary-after_ascii c.args.line.now at c.utf8.line cut.0.within (omega (arith, cut.0.colon));
    }
