use Rattle.fields.proofs.Base.{◌≡◌, arith}
use Rattle.fields.specs.Le.{le}
use Rattle.names.proofs.Alikes.{alike_number, reached_more}
use Rattle.names.proofs.same_by_eights.Goals as goal

pub loop-j-preserved : goal.loop-j-preserved
loop-j-preserved c = let l = c.loop-j in
    let a = c.args in
    let e : le 8 a.a.now l.j ≡ le 8 a.b.now l.k = omega (arith, c.eight.ensures, c.eight-in-loop-j.ensures, c.if-eight.false) in
    let more =
    alike_number a.a.now a.b.now (λ n. (c.type_inv.a n).fits) (λ n. (c.type_inv.b n).fits) 8 l.j l.k
    (omega arith) (omega arith) e in
    (omega arith, reached_more a.a.now a.b.now a.from a.at a.end l.j l.k 8 l.invariant.0 l.invariant.1 (omega arith) more)
