use Rattle.fields.proofs.Base.{◌≡◌, ap, subst, arith}
use Rattle.entries.specs.declared.Place.{Place}
use Rattle.book.specs.Book.{limits_of, chunk_bytes}
use Rattle.walk.specs.Walk.{after_of}
use Rattle.walk.specs.declared.Walk.{Walk}
use Rattle.turn.specs.Turn.{both_at, turned}
use Rattle.turn.specs.declared.Turn.TheVariants.{On}
use Rattle.turn.proofs.Falling.{turn_falls}
use Rattle.compare.specs.Passing.{SameEntries, SameTold}
use Rattle.compare.proofs.Passing.{same_passed, passed_none, passed_more}
use Rattle.compare.proofs.pass_inside.Goals.{After-one_same-totals}
use Rattle.compare.proofs.pass_inside.Goals as goal

after_chunk : (w v : Walk) (e : Place) → v ≡ after_of w e → v.chunk ≡ w.chunk
unfolding after_of
after_chunk w v e q = ap (λ (u : Walk). u.chunk) q

-- the turn that the two walks take
turn_is : (c : After-one_same-totals) → let a = c.args in
    turned a.file1.now a.one a.file2.now a.two (both_at c.loop-first.first c.loop-first.second c.loop-first.totals)
    ≡ On (both_at c.after-first.result c.after-second.result c.one_same-totals.result)
turn_is c =
    let same_is : SameEntries (limits_of c.args.file1.now c.args.one).content (chunk_bytes c.args.file1.now c.args.one c.loop-first.first.chunk) c.loop-first.first.at
    (limits_of c.args.file2.now c.args.two).content (chunk_bytes c.args.file2.now c.args.two c.loop-first.second.chunk) c.loop-first.second.at
    c.in-Some.x c.in-Some.y =
    rw (← c.loop-first.invariant.0, ← c.loop-first.invariant.1, ← c.limits-limits1.ensures, ← c.limits-limits2.ensures)
    (subst (SameTold c.limits-limits1.result.content c.chunk_bytes-c1.result.now c.loop-first.first.at
    c.limits-limits2.result.content c.chunk_bytes-c2.result.now c.loop-first.second.at) c.in-Some.is c.same_entries.ensures) in
    rw (c.one_same-totals.ensures, c.after-first.ensures, c.after-second.ensures)
    (same_passed c.args.file1.now c.args.one c.args.file2.now c.args.two c.requires.one_value c.requires.two_value
    c.loop-first.first c.loop-first.second c.loop-first.totals _ _ (omega (arith, c.loop-first-test.true)) (omega (arith, c.if-second-lt1.false)) same_is)

pub loop-first-init : goal.loop-first-init
loop-first-init c = (c.chunk_bytes-c1.ensures, c.chunk_bytes-c2.ensures, passed_none _ _ _ _ _)

pub loop-first-smaller : goal.loop-first-smaller
loop-first-smaller c =
    let a = c.args in
    turn_falls a.file1.now a.one a.file2.now a.two (both_at c.loop-first.first c.loop-first.second c.loop-first.totals) _ (turn_is (goal.at.loop-first-smaller c).After-one_same-totals)

pub loop-first-preserved : goal.loop-first-preserved
loop-first-preserved c =
    let a = c.args in (
      rw (after_chunk c.loop-first.first _ _ c.after-first.ensures) c.loop-first.invariant.0,
      rw (after_chunk c.loop-first.second _ _ c.after-second.ensures) c.loop-first.invariant.1,
      passed_more a.file1.now a.one a.file2.now a.two _ (both_at c.loop-first.first c.loop-first.second c.loop-first.totals) _ c.loop-first.invariant.2 (turn_is (goal.at.loop-first-preserved c).After-one_same-totals),
    )
