use Rattle.fields.proofs.Base.{le-ltb, lt-ltb, le-leb, lt-leb, sym, arith, ◌+◌, length}
use Rattle.entries.specs.Entry.{name_at}
use Rattle.encint.proofs.Reading.{encint_next}
use Rattle.entries.proofs.name_at.Goals as goal

pub returns-in_err-n : goal.returns-in_err-n
unfolding name_at
returns-in_err-n c = simp (c.from_residual.ensures, sym c.in_err-n.ensures.number)

pub returns-then-n-lt1 : goal.returns-then-n-lt1
unfolding name_at
returns-then-n-lt1 c = let e = sym c.in_ok-n.ensures.number in
    simp (e, le-ltb 0 c.in_ok-n.n (omega arith))

pub returns-then-n-gt1024 : goal.returns-then-n-gt1024
unfolding name_at
returns-then-n-gt1024 c = let e = sym c.in_ok-n.ensures.number in
    simp (e, lt-ltb 0 c.in_ok-n.n (omega arith), lt-leb _ _ c.if-n-gt1024.true)

pub overflow_sub-c : goal.overflow_sub-c
overflow_sub-c c = (encint_next _ _ (sym c.in_ok-n.ensures.number)).1

pub returns-then-c-start : goal.returns-then-c-start
unfolding name_at
returns-then-c-start c = let n = c.in_ok-n.n in
    let p = c.in_ok-n.start in
    let e = sym c.in_ok-n.ensures.number in
    simp (e, lt-ltb 0 n (omega arith), le-leb n 1024 (omega arith), lt-leb (p + n) (length c.args.c.now) (omega arith))

pub returns : goal.returns
unfolding name_at
returns c = let n = c.in_ok-n.n in
    let p = c.in_ok-n.start in
    let e = sym c.in_ok-n.ensures.number in
    let i = encint_next _ _ e in
    simp (e, lt-ltb 0 n (omega arith), le-leb n 1024 (omega arith), le-leb (p + n) (length c.args.c.now) (omega arith))
