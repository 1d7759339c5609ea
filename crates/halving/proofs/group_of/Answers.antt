use Rattle.fields.proofs.Base.{◌≡◌, sym, ap, ◌∙◌, Bool, true, false, ℕ, ◌+◌, ◌-◌, ◌<◌, arith}
use Rattle.std.specs.Ordering.{is_lt}
use Rattle.names.specs.Names.{compared}
use Rattle.halving.specs.Halving.{group_above, middle}
use Rattle.halving.proofs.Halving.{halved_one, halved_lower, halved_upper, halvings_one, halvings_lower, halvings_upper, halvings_fuel}
use Rattle.halving.proofs.group_of.Invariants.{Left}
use Rattle.halving.proofs.group_of.Goals as goal

module _ (above : ℕ → Bool) (last lo hi turns : ℕ) (h : lo < hi) (l : Left above last lo hi turns) where
  left_lower : above (middle lo hi) ≡ true → Left above last lo (middle lo hi - 1) (turns + 1)
  left_lower m =
      let q = halvings_lower above l.0 lo hi h l.1 m in
      (l.0 - 1, omega arith, omega arith, omega arith, sym (halved_lower above l.0 lo hi h l.1 m) ∙ l.4, omega (arith, q))

  left_upper : above (middle lo hi) ≡ false → Left above last (middle lo hi) hi (turns + 1)
  left_upper m =
      let q = halvings_upper above l.0 lo hi h l.1 m in
      (l.0 - 1, omega arith, omega arith, omega arith, sym (halved_upper above l.0 lo hi h l.1 m) ∙ l.4, omega (arith, q))

pub overflow_add-turns : goal.overflow_add-turns
overflow_add-turns c = let l = c.loop-lo in
    let a = c.args in
    let f = halvings_fuel (group_above a.kind a.c.now (compared a.name.now)) a.last 0 a.last in
    omega (arith, f)

pub loop-lo-preserved-in-Less : goal.loop-lo-preserved-in-Less
loop-lo-preserved-in-Less c = let l = c.loop-lo in
    let a = c.args in
    left_lower (group_above a.kind a.c.now (compared a.name.now)) a.last l.lo l.hi l.turns c.loop-lo-test.true l.invariant
    (sym c.stands_to.ensures ∙ ap is_lt c.in-Less.is)

pub loop-lo-preserved-in-Equal : goal.loop-lo-preserved-in-Equal
loop-lo-preserved-in-Equal c = let l = c.loop-lo in
    let a = c.args in
    left_upper (group_above a.kind a.c.now (compared a.name.now)) a.last l.lo l.hi l.turns c.loop-lo-test.true l.invariant
    (sym c.stands_to.ensures ∙ ap is_lt c.in-Equal.is)

pub loop-lo-preserved : goal.loop-lo-preserved
loop-lo-preserved c = let l = c.loop-lo in
    let a = c.args in
    left_upper (group_above a.kind a.c.now (compared a.name.now)) a.last l.lo l.hi l.turns c.loop-lo-test.true l.invariant
    (sym c.stands_to.ensures ∙ ap is_lt c.in-Greater.is)

pub returns : goal.returns
returns c = let l = c.loop-lo in
    let a = c.args in
    let above = group_above a.kind a.c.now (compared a.name.now) in
    let q = halvings_one above l.invariant.0 l.lo l.hi c.loop-lo-test.false in
    (sym (halved_one above l.invariant.0 l.lo l.hi c.loop-lo-test.false) ∙ l.invariant.4, omega (arith, q), omega arith)
