use Rattle.fields.proofs.Base.{◌≡◌, ◌≤◌}
use Rattle.names.specs.Names.{compared}
use Rattle.entries.specs.declared.Kind.TheVariants.{Listing}
use Rattle.halving.specs.Halving.{group_in, size_in}
use Rattle.seek.specs.Seek.{find_in}
use Rattle.seek.specs.Count.{cost_in}
use Rattle.seek.proofs.Counts.{spent_in}
use Rattle.seek.proofs.Steps.{find_from}
use Rattle.seek.proofs.find.Given as goal

-- so many entries of the group are left
abbrev pub invariant-loop-left : goal.invariant-loop-left
invariant-loop-left l = (l.left ≤ size_in l.limits l.c (group_in l.limits Listing l.c (compared l.name)))
    × (find_from l.limits l.c (compared l.name) (spent_in l.limits Listing l.c (compared l.name) l.left) l.left l.at
    ≡ record { answer = find_in l.limits l.c (compared l.name); count = cost_in l.limits Listing l.c (compared l.name) })

abbrev pub decreases-loop-left : goal.decreases-loop-left
decreases-loop-left l = l.left
