use Rattle.fields.proofs.Base.{◌≡◌, arith, refl, inl, None, Some}
use Rattle.std.proofs.lemmas.Result.{IfErr-at_err, err_from_is_err_and}
use Rattle.refusals.specs.declared.Rule.TheVariants.{TooManyChunks}
use Rattle.pack.proofs.Levels.{chunks_given}
use Rattle.writer.specs.Plan.{ListingLevel}
use Rattle.writer.proofs.Shaping.{first_over, shaping_start, shaping_end, shaping_deep, shaping_over, shaping_turn}
use Rattle.writer.proofs.plan.Goals.{In-Some}
use Rattle.writer.proofs.plan.Goals as goal

-- the listing level
listed : (c : In-Some) → ListingLevel c.args.content c.args.input.now c.args.n c.args.starts.now c.plan_listing.new.starts c.in-Some.m
listed c = rw c.in-Some.is at c.plan_listing.ensures

pub returns-then-starts-m : goal.returns-then-starts-m
returns-then-starts-m c =
    let l = listed (goal.at.returns-then-starts-m c).In-Some in
    let k = c.plan_listing.auto.starts in
    let s = c.requires in
    inl (refl, l.right, first_over _ _ _ _ _ _ _ s k l (chunks_given _ _ _ _) (omega (arith, k, s, c.if-starts-m.true)))

pub loop-end-init : goal.loop-end-init
loop-end-init c =
    let l = listed (goal.at.loop-end-init c).In-Some in
    let k = c.plan_listing.auto.starts in
    let s = c.requires in
    (l.right, shaping_start _ _ _ _ _ _ _ s k l (chunks_given _ _ _ _) (omega (arith, k, s, c.if-starts-m.false)))

pub returns-then-depth-eq5 : goal.returns-then-depth-eq5
returns-then-depth-eq5 c = let i = c.loop-end.invariant in inl (refl, i.0, shaping_deep _ _ _ _ _ _ _ _ _ i.1 c.loop-end-test.true c.if-depth-eq5.true)

pub returns-in_err-next : goal.returns-in_err-next
returns-in_err-next c =
    let i = c.loop-end.invariant in
    let p = err_from_is_err_and c.from_residual.result c.from_residual.ensures.1 in
    let e : c.plan_level.result ≡ None = grind arith in
    let r : c.in_err-next.field-0.0 ≡ TooManyChunks = IfErr-at_err (λ x. x ≡ TooManyChunks) c.in_err-next.was (rw (c.ok_or.ensures.value, e) refl) in
    rw (p.1, p.2) (inl (r, i.0, shaping_over _ _ _ _ _ _ _ _ _ i.1 c.loop-end-test.true (rw e at c.plan_level.ensures)))

pub loop-end-preserved : goal.loop-end-preserved
loop-end-preserved c =
    let i = c.loop-end.invariant in
    let e : c.plan_level.result ≡ Some c.in_ok-next.next = grind arith in
    (i.0, shaping_turn _ _ _ _ _ _ _ _ _ i.1 c.loop-end-test.true _ _ c.plan_level.auto.starts (rw e at c.plan_level.ensures) c.if-depth-eq5.false)

pub returns : goal.returns
returns c = let i = c.loop-end.invariant in (i.0, shaping_end _ _ _ _ _ _ _ _ _ i.1 c.loop-end-test.false)
