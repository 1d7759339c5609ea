use Rattle.fields.proofs.Base.{◌≡◌, sym, ◌∙◌, ◌<◌, ◌-◌, ◌+◌, ◌^◌, arith, rules}
use Rattle.fields.specs.Le.{le}
use Rattle.fields.proofs.Le.{le_below, le_lt, le_down, le_none, le_all}
use Rattle.fields.proofs.number.Goals.{In-loop-i}
use Rattle.fields.proofs.number.Goals as goal

pub loop-i-init : goal.loop-i-init
loop-i-init c = (search rules, sym (le_none _ _ _))

-- a byte less is read than fit eight
small : (c : In-loop-i) → c.loop-i.v < 256 ^ 7
small c =
    let l = c.loop-i in
    let a = c.args in
    rw l.invariant.1 (le_below a.s.now (λ j. (c.type_inv.s j).fits) (a.k - l.i) 7 (a.at + l.i) (omega arith))

pub overflow_mul-v : goal.overflow_mul-v
overflow_mul-v c = let b = small (goal.at.overflow_mul-v c).In-loop-i in omega (arith, b)

pub overflow_add-v : goal.overflow_add-v
overflow_add-v c = let b = small (goal.at.overflow_add-v c).In-loop-i in omega (arith, b)

pub loop-i-preserved : goal.loop-i-preserved
loop-i-preserved c = let l = c.loop-i in
    let a = c.args in
    (omega arith, cc (le_down a.s.now a.at a.k l.i (omega arith) (omega arith)))

pub returns : goal.returns
returns c = let l = c.loop-i in
    let a = c.args in
    let e : l.v ≡ le a.k a.s.now a.at = l.invariant.1 ∙ le_all a.s.now a.at a.k l.i (omega arith) in
    record { is = e; below = rw e (le_lt a.s.now (λ j. (c.type_inv.s j).fits) a.k a.at) }
