use mathlib.Core.Path.{refl, sym, ap, ◌∙◌}
use native.Mathlib.Omega.{arith}
use Rattle.names.specs.Names.{order_code}
use Rattle.std.specs.declared.cmp.Ordering.TheVariants.{Less, Equal, Greater}
use Rattle.names.proofs.Steps.{first_ends, second_ends, both_end, turn}
use Rattle.bench_names.proofs.bench_compare_plain.Goals as goal

pub loop-i-init : goal.loop-i-init
loop-i-init c = (omega arith, omega arith, refl)

pub returns-then-b-i : goal.returns-then-b-i
returns-then-b-i c = ap order_code (sym (c.loop-i.invariant.2 ∙ second_ends _ _ c.loop-i.i (omega arith) (omega arith)))

pub bounds-a-i : goal.bounds-a-i
bounds-a-i c = omega arith

pub fold-x-requires : goal.fold-x-requires
fold-x-requires c = tt

pub bounds-b-i : goal.bounds-b-i
bounds-b-i c = omega arith

pub fold-y-requires : goal.fold-y-requires
fold-y-requires c = tt

pub returns-then-x-y : goal.returns-then-x-y
returns-then-x-y c = ap order_code (sym (c.loop-i.invariant.2 ∙ turn _ _ c.loop-i.i Less (omega arith) (omega arith) (omega arith)))

pub returns-then-y-x : goal.returns-then-y-x
returns-then-y-x c = ap order_code (sym (c.loop-i.invariant.2 ∙ turn _ _ c.loop-i.i Greater (omega arith) (omega arith) (omega arith)))

pub overflow_add-i : goal.overflow_add-i
overflow_add-i c = omega arith

pub loop-i-smaller : goal.loop-i-smaller
loop-i-smaller c = omega arith

pub loop-i-preserved : goal.loop-i-preserved
loop-i-preserved c = (omega arith, omega arith, c.loop-i.invariant.2 ∙ turn _ _ c.loop-i.i Equal (omega arith) (omega arith) (omega arith))

pub returns-then-i-b : goal.returns-then-i-b
returns-then-i-b c = ap order_code (sym (c.loop-i.invariant.2 ∙ first_ends _ _ c.loop-i.i (omega arith) (omega arith)))

pub returns-else-i-b : goal.returns-else-i-b
returns-else-i-b c = ap order_code (sym (c.loop-i.invariant.2 ∙ both_end _ _ c.loop-i.i (omega arith) (omega arith)))
