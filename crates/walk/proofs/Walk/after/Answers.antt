use Rattle.fields.proofs.Base.{refl, ap, ℕ, arith}
use Rattle.walk.specs.Walk.{after_of}
use Rattle.walk.specs.declared.Walk.{Walk}
use Rattle.walk.proofs.Walk.after.Goals as goal

pub returns-then-self-gt0 : goal.returns-then-self-gt0
unfolding after_of
returns-then-self-gt0 c = refl

pub returns-else-self-gt0 : goal.returns-else-self-gt0
unfolding after_of
returns-else-self-gt0 c = let a = c.args in
    ap (λ (n : ℕ). let r : Walk = record { chunk = a.self.chunk; at = a.e.next; left = n; next = a.self.next; more = a.self.more } in r) (omega arith)
