use Rattle.fields.proofs.Base.{◌≡◌, refl, sym, ◌∙◌, [], take}
use Rattle.entries.specs.declared.Kind.TheVariants.{Index}
use Rattle.source.specs.Source.{item_from, rows_from}
use Rattle.source.proofs.Rows.{Stepped, taken_entry, run_end}
use Rattle.pack.specs.Fill.{extent_from}
use Rattle.pack.proofs.Levels.{chunks_more}
use Rattle.writer.proofs.Planning.{planning_end, planning_over, planning_turn}
use Rattle.writer.proofs.plan_level.Goals.{In-Some, In_default, After-fill-f}
use Rattle.writer.proofs.plan_level.Goals as goal

-- no chunk is left
end_is : (c : In_default) → rows_from c.args.content c.args.input.now (take c.args.end c.args.starts.now) Index c.loop-e.c.left c.loop-e.c.at ≡ []
end_is c = let i = c.loop-e.invariant in run_end _ _ _ (sym (rw (i.0, i.1.front) at c.step.ensures) ∙ c.in_default.is)

-- the entry that is read, and what its chunk takes
read_is : (c : In-Some) → Stepped c.loop-e.c.left (item_from c.args.content c.args.input.now (take c.args.end c.args.starts.now) Index c.loop-e.c.at) c.in-Some.e
read_is c = let i = c.loop-e.invariant in taken_entry _ _ _ (sym (rw (i.0, i.1.front) at c.step.ensures) ∙ c.in-Some.is)

fill_is : (c : After-fill-f) → c.fill-f.result ≡ extent_from Index c.args.n 0 0 c.loop-e.c.at c.loop-e.c.left (rows_from c.args.content c.args.input.now (take c.args.end c.args.starts.now) Index c.loop-e.c.left c.loop-e.c.at)
fill_is c = let i = c.loop-e.invariant in rw (i.0, i.1.front) at c.fill-f.ensures

pub returns-in_default : goal.returns-in_default
returns-in_default c =
    planning_end _ _ _ _ _ _ _ _ _ _ c.loop-e.invariant.1 (end_is (goal.at.returns-in_default c).In_default)

pub returns-then-starts-j : goal.returns-then-starts-j
returns-then-starts-j c =
    let e = read_is (goal.at.returns-then-starts-j c).In-Some in
    planning_over _ _ _ _ _ _ _ _ _ _ c.loop-e.invariant.1 _ e.some e.item c.if-starts-j.true

pub loop-e-smaller : goal.loop-e-smaller
loop-e-smaller c =
    let e = read_is (goal.at.loop-e-smaller c).In-Some in (chunks_more _ _ _ _ _ _ _ _ _ e.some e.item (fill_is (goal.at.loop-e-smaller c).After-fill-f)).less

pub loop-e-preserved : goal.loop-e-preserved
loop-e-preserved c =
    let e = read_is (goal.at.loop-e-preserved c).In-Some in
    (refl, planning_turn _ _ _ _ _ _ _ _ _ _ c.loop-e.invariant.1 _ e.some e.item _ (fill_is (goal.at.loop-e-preserved c).After-fill-f) c.if-starts-j.false)
