use Rattle.fields.proofs.Base.{◌≡◌}
use Rattle.names.specs.Names.{compared}
use Rattle.walk.specs.Walk.{name_here}
use Rattle.turn.specs.Turn.{paired}
use Rattle.turn.proofs.paired.Goals as goal

pub returns-in-Less : goal.returns-in-Less
unfolding paired
returns-in-Less c =
    let order_is : let a = c.args in
    c.compare.result ≡ compared (name_here a.file1.now a.one a.v1 a.x) (name_here a.file2.now a.two a.v2 a.y) =
    rw (← c.name.ensures, ← c.name-2.ensures) c.compare.ensures in
    rw (← order_is, c.in-Less.is) c.only_first.ensures

pub returns-in-Equal : goal.returns-in-Equal
unfolding paired
returns-in-Equal c =
    let order_is : let a = c.args in
    c.compare.result ≡ compared (name_here a.file1.now a.one a.v1 a.x) (name_here a.file2.now a.two a.v2 a.y) =
    rw (← c.name.ensures, ← c.name-2.ensures) c.compare.ensures in
    rw (← order_is, c.in-Equal.is) c.in_both.ensures

pub returns-in-Greater : goal.returns-in-Greater
unfolding paired
returns-in-Greater c =
    let order_is : let a = c.args in
    c.compare.result ≡ compared (name_here a.file1.now a.one a.v1 a.x) (name_here a.file2.now a.two a.v2 a.y) =
    rw (← c.name.ensures, ← c.name-2.ensures) c.compare.ensures in
    rw (← order_is, c.in-Greater.is) c.only_second.ensures
