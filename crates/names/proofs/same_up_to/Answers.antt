use Rattle.fields.proofs.Base.{arith}
use Rattle.names.proofs.Alikes.{alike_byte, reached_more}
use Rattle.names.proofs.same_up_to.Goals as goal

pub loop-j-preserved : goal.loop-j-preserved
loop-j-preserved c = let l = c.loop-j in
    let a = c.args in
    let more = alike_byte a.a.now a.b.now l.j l.k (omega arith) (omega arith) (omega (arith, c.if-a-j.false)) in
    (omega arith, reached_more a.a.now a.b.now a.from a.at a.end l.j l.k 1 l.invariant.0 l.invariant.1 (omega arith) more)
