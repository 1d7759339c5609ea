use Rattle.fields.proofs.Base.{◌≡◌, refl, sym, ◌∙◌, [], ◌+◌, ◌*◌, ◌≤◌, ◌<◌, length, take}
use Rattle.source.specs.Source.{item_from, rows_from}
use Rattle.source.proofs.Rows.{Stepped, taken_entry, run_end}
use Rattle.pack.specs.Fill.{extent_from}
use Rattle.pack.proofs.Levels.{chunks_more}
use Rattle.writer.proofs.Leveled.{leveled_end, leveled_room, leveled_turn}
use Rattle.writer.proofs.put_level.Goals.{In-Some, In_default, After-put_chunk-f}
use Rattle.writer.proofs.put_level.Goals as goal

-- no chunk is left
end_is : (c : In_default) → rows_from c.args.content c.args.input.now (take c.args.end c.args.starts.now) c.args.from.kind c.loop-out.c.left c.loop-out.c.at ≡ []
end_is c = run_end _ _ _ (sym (rw c.loop-out.invariant.0 at c.step.ensures) ∙ c.in_default.is)

-- the entry that is read, the room for its chunk, and what that takes
read_is : (c : In-Some) → Stepped c.loop-out.c.left (item_from c.args.content c.args.input.now (take c.args.end c.args.starts.now) c.args.from.kind c.loop-out.c.at) c.in-Some.field-0
read_is c = taken_entry _ _ _ (sym (rw c.loop-out.invariant.0 at c.step.ensures) ∙ c.in-Some.is)

room_is : (c : In-Some) → (204 + 4096 * (c.loop-out.j + 1) ≤ length c.loop-out.out) × (c.loop-out.j < 4096)
room_is c = let i = read_is c in leveled_room _ _ _ _ _ _ _ _ _ _ _ _ _ _ c.loop-out.invariant.1 _ i.some i.item c.requires

takes_is : (c : After-put_chunk-f) → c.put_chunk-f.result ≡ extent_from c.args.from.kind c.args.n 0 0 c.loop-out.c.at c.loop-out.c.left (rows_from c.args.content c.args.input.now (take c.args.end c.args.starts.now) c.args.from.kind c.loop-out.c.left c.loop-out.c.at)
takes_is c = rw c.loop-out.invariant.0 at c.put_chunk-f.ensures.0

pub returns-in_default : goal.returns-in_default
returns-in_default c =
    leveled_end _ _ _ _ _ _ _ _ _ _ _ _ _ _ c.loop-out.invariant.1 (end_is (goal.at.returns-in_default c).In_default)

pub put_chunk-f-requires : goal.put_chunk-f-requires
put_chunk-f-requires c =
    room_is (goal.at.put_chunk-f-requires c).In-Some

pub loop-out-smaller : goal.loop-out-smaller
loop-out-smaller c =
    let i = read_is (goal.at.loop-out-smaller c).In-Some in
    (chunks_more _ _ _ _ _ _ _ _ _ i.some i.item (takes_is (goal.at.loop-out-smaller c).After-put_chunk-f)).less

pub loop-out-preserved : goal.loop-out-preserved
loop-out-preserved c =
    let l = c.loop-out in
    let i = read_is (goal.at.loop-out-preserved c).In-Some in
    let w = c.put_chunk-f in
    (refl, leveled_turn _ _ _ _ _ _ _ _ _ _ _ _ _ _ l.invariant.1 _ i.some i.item _ _ (takes_is (goal.at.loop-out-preserved c).After-put_chunk-f) (rw l.invariant.0 at w.ensures.1) w.auto.out)
