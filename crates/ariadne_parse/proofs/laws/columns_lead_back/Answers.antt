use Rattle.ariadne_parse.proofs.Passing.{lead_back}
use Rattle.ariadne_parse.proofs.laws.columns_lead_back.Goals as goal

pub returns : goal.returns
returns c unit line k lt all wide = lead_back unit 0 line k lt all wide
