use Rattle.std.specs.Prelude.{⊤}
use Rattle.ariadne_report.proofs.Outcomes.{are-accepted, left-out-apart, drawn-there, all-same}
use Rattle.ariadne_report.proofs.laws.labels_are_drawn_or_listed.Goals as goal

pub returns-clause-accepted : goal.returns-clause-accepted
returns-clause-accepted g c before w r outcomes are = are-accepted (λ id e. ⊤) before w r outcomes are

pub returns-clause-never_both : goal.returns-clause-never_both
returns-clause-never_both g c before w r outcomes k reason a are e there = left-out-apart (λ id e. ⊤) before w r outcomes k reason a are e there

pub returns-clause-drawn : goal.returns-clause-drawn
returns-clause-drawn g c before w r outcomes k label source info a are there e held accepts =
    drawn-there (λ id e. ⊤) before w r outcomes k label source info a are there e held accepts

pub returns-clause-determined : goal.returns-clause-determined
returns-clause-determined g c before w r outcomes others h i e = all-same (λ id e. ⊤) before w r 0 r.labels outcomes others h.judged i.judged e
