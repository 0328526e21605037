-- The columns are those over the sources that the cache holds then.
use Rattle.std.proofs.lemmas.Result.{IfOk-weaker}
use Rattle.ariadne_safe.proofs.report.SafeReport.margin_columns.Goals as goal

pub returns : goal.returns
returns c =
    IfOk-weaker c.margin_columns.result _ _
    (λ n margin. record {
      new = c.margin_columns.new.cache.now.sources.items;
      grown = record { naming = c.margin_columns.ensures.naming; grows = c.margin_columns.ensures.grows };
      margin = margin;
    }) c.margin_columns.ensures.margin
