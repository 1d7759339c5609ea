use Rattle.fields.proofs.Base.{◌≡◌, sym, ap, ◌∙◌, ℕ, ◌+◌, ◌-◌, ◌*◌, ◌%◌, ◌^◌, ◌<◌, dec_lt, arith, length, get_or, drop}
use Rattle.encint.specs.Encint.{rest}
use Rattle.encint.proofs.Reading.{rest_spent, turn_past, turn_last, turn_more, grows, small}
use Rattle.encint.proofs.groups_at.Goals.{In-loop-i}
use Rattle.encint.proofs.groups_at.Goals as goal

-- the turn is at a place inside s, and a byte may come
inside : (c : In-loop-i) → (let l = c.loop-i in let a = c.args in (l.i < length a.s.now) × (0 < a.at + 9 - l.i))
inside c = (omega (arith, c.reach-end.ensures), omega (arith, c.reach-end.ensures))

-- the value with the turn's byte
grown : (c : In-loop-i) → (let l = c.loop-i in let a = c.args in l.v * 128 + get_or a.s.now l.i 0 % 128 < 128 ^ (9 - (a.at + 9 - l.i - 1)))
grown c =
    let l = c.loop-i in
    let a = c.args in
    grows (a.at + 9 - l.i) l.v _ (inside c).1 (omega arith) l.invariant.2

fits : (c : In-loop-i) → (let l = c.loop-i in l.v * 128 + get_or c.args.s.now l.i 0 % 128 < 2 ^ 63)
fits c = small (c.args.at + 9 - c.loop-i.i - 1) _ (grown c)

pub overflow_mul-v : goal.overflow_mul-v
overflow_mul-v c =
    omega (arith, fits (goal.at.overflow_mul-v c).In-loop-i)

pub overflow_add-v : goal.overflow_add-v
overflow_add-v c =
    omega (arith, fits (goal.at.overflow_add-v c).In-loop-i)

pub returns-then-b-lt128 : goal.returns-then-b-lt128
returns-then-b-lt128 c =
    let l = c.loop-i in
    let h = inside (goal.at.returns-then-b-lt128 c).In-loop-i in
    sym (l.invariant.3 ∙ turn_last _ _ l.v l.i h.1 h.0 (omega arith))

pub loop-i-preserved : goal.loop-i-preserved
loop-i-preserved c =
    let l = c.loop-i in
    let a = c.args in
    let h = inside (goal.at.loop-i-preserved c).In-loop-i in
    let z : a.at + 9 - l.i - 1 ≡ a.at + 9 - (l.i + 1) = omega arith in (
      omega arith,
      omega arith,
      rw z at (grown (goal.at.loop-i-preserved c).In-loop-i),
      l.invariant.3 ∙ turn_more _ _ l.v l.i h.1 h.0 (omega arith)
          ∙ ap (λ (n : ℕ). rest n (l.v * 128 + get_or a.s.now l.i 0 % 128) (l.i + 1) (drop (l.i + 1) a.s.now)) z,
    )

-- behind the last place that a number could have
pub returns : goal.returns
returns c = let l = c.loop-i in
    let a = c.args in
    elim (dec_lt l.i (length a.s.now)) [
      | yes h ↦ sym (l.invariant.3 ∙ rest_spent _ l.v l.i _ (omega (arith, c.reach-end.ensures)))
      | no h ↦ sym (l.invariant.3 ∙ turn_past _ _ l.v l.i (omega arith))
    ]
