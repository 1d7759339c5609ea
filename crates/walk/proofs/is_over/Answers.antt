use Rattle.fields.proofs.Base.{eq-eqb, ne_eqb, refl, arith}
use Rattle.refusals.specs.Refusals.{no_chunk}
use Rattle.walk.specs.Walk.{is_over}
use Rattle.walk.proofs.is_over.Goals as goal

pub returns-then-w-no_chunk : goal.returns-then-w-no_chunk
unfolding is_over
returns-then-w-no_chunk c = let a = c.args in
    rw (eq-eqb a.w.next no_chunk (omega (arith, c.no_chunk.ensures))) refl

pub returns-else-w-no_chunk : goal.returns-else-w-no_chunk
unfolding is_over
returns-else-w-no_chunk c = let a = c.args in rw (ne_eqb a.w.next no_chunk (λ e. c.if-w-no_chunk.false (omega (arith, e, c.no_chunk.ensures)))) refl
