use Rattle.fields.proofs.Base.{◌≡◌, refl, ◌-◌, arith, length}
use Rattle.book.specs.Book.{limits_of}
use Rattle.book.proofs.limits.Goals as goal

pub returns-then-len-start : goal.returns-then-len-start
unfolding limits_of
returns-then-len-start c = let z : length c.args.file.now - c.args.book.content ≡ 0 = omega arith in
    rw z

pub returns : goal.returns
unfolding limits_of
returns c = refl
