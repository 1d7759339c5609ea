use Rattle.fields.proofs.Base.{◌∙◌, arith}
use Rattle.encint.specs.Encint.{encoded}
use Rattle.encint.proofs.Writing.{stored, wrote_none, wrote_outside, wrote_inside}
use Rattle.encint.proofs.write.Goals as goal

pub returns-then-n-eq0 : goal.returns-then-n-eq0
returns-then-n-eq0 c = let a = c.args in let w = wrote_none a.out.now a.at (encoded a.v) (omega arith) in record { count = w.0; bytes = w.1 }

pub returns-then-out-at : goal.returns-then-out-at
returns-then-out-at c = let a = c.args in let w = wrote_outside a.out.now a.at (encoded a.v) (omega arith) in record { count = w.0; bytes = w.1 }

pub returns-then-out-at-2 : goal.returns-then-out-at-2
returns-then-out-at-2 c = let a = c.args in let w = wrote_outside a.out.now a.at (encoded a.v) (omega arith) in record { count = w.0; bytes = w.1 }

pub returns : goal.returns
returns c = let n = c.size-n in
    let a = c.args in
    let w = wrote_inside a.out.now a.at (encoded a.v) _ (omega arith)
    (c.write_leading.ensures ∙ stored a.out.now a.at a.v n.result n.ensures (omega arith) (omega arith)) in
    record { count = n.ensures ∙ w.0; bytes = w.1 }
