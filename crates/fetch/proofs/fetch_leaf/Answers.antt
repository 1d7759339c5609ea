use Rattle.fields.proofs.Base.{ap, ◌∙◌, Option, Ok}
use Rattle.seek.specs.declared.Searched.{Searched}
use Rattle.report.specs.declared.Report.{Report}
use Rattle.fetch.proofs.Steps.{leaf_is}
use Rattle.fetch.proofs.fetch_leaf.Goals as goal

pub returns : goal.returns
returns c = let a = c.args in
    ap (λ (r : Searched (Option Report)). Ok r.answer) c.find_in.ensures ∙ leaf_is a.file.now a.book a.name.now a.c
