use Rattle.fields.proofs.Base.{◌≡◌, Bool, ℕ, ◌+◌, ◌-◌, ◌≤◌}
use Rattle.names.specs.Names.{compared}
use Rattle.halving.specs.Halving.{group_above, halved}
use Rattle.halving.specs.Halvings.{halvings}
use Rattle.halving.proofs.group_of.Given as goal

-- groups lo to hi are left after some turns, and halving them i times more is enough
abbrev pub Left : (ℕ → Bool) → ℕ → ℕ → ℕ → ℕ → Type 0
Left above last lo hi turns =
    (i : ℕ)
    × (hi - lo ≤ i)
    × (lo ≤ hi)
    × (hi ≤ last)
    × (halved above i lo hi ≡ halved above last 0 last)
    × (turns + halvings above i lo hi ≡ halvings above last 0 last)

abbrev pub invariant-loop-lo : goal.invariant-loop-lo
invariant-loop-lo l = Left (group_above l.kind l.c (compared l.name)) l.last l.lo l.hi l.turns

abbrev pub decreases-loop-lo : goal.decreases-loop-lo
decreases-loop-lo l = l.hi - l.lo
