use Rattle.fields.proofs.Base.{◌≡◌, sym, ◌∙◌, ◌+◌, ◌-◌, arith, drop}
use Rattle.names.specs.Names.{compared}
use Rattle.std.specs.declared.cmp.Ordering.TheVariants.{Less, Equal, Greater}
use Rattle.names.proofs.Alikes.{alike_compares}
use Rattle.names.proofs.Steps.{first_ends, second_ends, both_end, turn}
use Rattle.names.proofs.compare.Goals.{After-same_up_to-i}
use Rattle.names.proofs.compare.Goals as goal

-- what the names share is passed over
passed : (c : After-same_up_to-i) → compared c.args.a.now c.args.b.now
    ≡ compared (drop c.same_up_to-i.result c.args.a.now) (drop c.same_up_to-i.result c.args.b.now)
passed c =
    let l = c.loop-i in
    let r = c.same_up_to-i.ensures in
    let e : l.i + (c.same_up_to-i.result - l.i) ≡ c.same_up_to-i.result = omega (arith, r.0) in
    l.invariant.1 ∙ rw e at (alike_compares _ _ l.i l.i (c.same_up_to-i.result - l.i) r.2)

pub returns-then-i-a : goal.returns-then-i-a
returns-then-i-a c =
    sym (passed (goal.at.returns-then-i-a c).After-same_up_to-i ∙ second_ends _ _ c.same_up_to-i.result (omega arith) (omega (arith, c.shorter-end.ensures.2 (omega arith))))

pub returns-then-i-b : goal.returns-then-i-b
returns-then-i-b c =
    sym (passed (goal.at.returns-then-i-b c).After-same_up_to-i ∙ first_ends _ _ c.same_up_to-i.result (omega arith) (omega arith))

pub returns-then-end-i : goal.returns-then-end-i
returns-then-end-i c =
    sym (passed (goal.at.returns-then-end-i c).After-same_up_to-i ∙ both_end _ _ c.same_up_to-i.result (omega arith) (omega arith))

pub returns-then-x-y : goal.returns-then-x-y
returns-then-x-y c =
    sym (passed (goal.at.returns-then-x-y c).After-same_up_to-i ∙ turn _ _ c.same_up_to-i.result Less (omega arith) (omega arith) (omega arith))

pub returns-then-y-x : goal.returns-then-y-x
returns-then-y-x c =
    sym (passed (goal.at.returns-then-y-x c).After-same_up_to-i ∙ turn _ _ c.same_up_to-i.result Greater (omega arith) (omega arith) (omega arith))

pub loop-i-preserved : goal.loop-i-preserved
loop-i-preserved c =
    (omega arith, passed (goal.at.loop-i-preserved c).After-same_up_to-i ∙ turn _ _ c.same_up_to-i.result Equal (omega arith) (omega arith) (omega arith))
