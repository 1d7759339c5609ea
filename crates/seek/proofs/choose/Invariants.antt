use Rattle.fields.proofs.Base.{◌≡◌, ◌≤◌, Option}
use Rattle.names.specs.Names.{compared}
use Rattle.entries.specs.declared.Kind.TheVariants.{Index}
use Rattle.halving.specs.Halving.{group_in, size_in}
use Rattle.seek.specs.Seek.{choose_in, child_of}
use Rattle.seek.specs.Count.{cost_in}
use Rattle.seek.proofs.Counts.{spent_in}
use Rattle.seek.proofs.Steps.{choose_from}
use Rattle.seek.proofs.choose.Given as goal
use Rattle.entries.specs.declared.Place.{Place}

-- so many entries of the group are left, and the search goes on from an entry that has the best child
abbrev pub invariant-loop-left : goal.invariant-loop-left
invariant-loop-left l = (h : Option Place)
    × (l.best ≡ child_of h)
    × (choose_from l.limits l.c (compared l.name) h (spent_in l.limits Index l.c (compared l.name) l.left) l.left l.at
    ≡ record { answer = choose_in l.limits l.c (compared l.name); count = cost_in l.limits Index l.c (compared l.name) })
    × (l.left ≤ size_in l.limits l.c (group_in l.limits Index l.c (compared l.name)))

abbrev pub decreases-loop-left : goal.decreases-loop-left
decreases-loop-left l = l.left
