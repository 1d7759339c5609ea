use Rattle.fields.proofs.Base.{◌≡◌, List, ◌-◌}
use Rattle.entries.specs.Entry.{Entry}
use Rattle.tree.specs.Walk.{visit, into_child, walk_tree}
use Rattle.book.specs.Book.{directory_of, shape_of}
use Rattle.opening.proofs.Visits.{Left}
use Rattle.opening.proofs.+walk_tree.Given as goal

abbrev pub decreases-walk_tree : goal.decreases-walk_tree
decreases-walk_tree l = l.level

abbrev pub invariant-loop : goal.invariant-loop
invariant-loop l =
    (xs : List Entry) × Left l.file l.book l.c (l.entries - l.counter) l.at xs
    × (visit (into_child (directory_of l.file l.book) (walk_tree (directory_of l.file l.book) (shape_of l.book) (l.level - 1))) xs l.next l.k ≡ walk_tree (directory_of l.file l.book) (shape_of l.book) l.level l.c l.expected l.left)
