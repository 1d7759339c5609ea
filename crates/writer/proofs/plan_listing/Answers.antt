use Rattle.fields.proofs.Base.{◌≡◌, sym, ◌∙◌, [], arith, add-sub_cancel_left}
use Rattle.entries.specs.Entry.{listing_at}
use Rattle.entries.specs.declared.Kind.TheVariants.{Listing}
use Rattle.entries.proofs.Laws.{listing_inside}
use Rattle.source.proofs.Rows.{Stepped, taken_entry, run_end}
use Rattle.source.proofs.Inputs.{ahead, passes_empty}
use Rattle.pack.specs.Fill.{row_size}
use Rattle.pack.proofs.Sizes.{size_row}
use Rattle.writer.proofs.Listings.{reading_start, reading_end, reading_short, reading_padded, reading_falls, reading_next, reading_turn}
use Rattle.writer.proofs.plan_listing.Goals.{In-Some, In_default, After-entry_size-size}
use Rattle.writer.proofs.plan_listing.Goals as goal

-- no entry is left
end_is : (c : In_default) → ahead c.args.content c.args.input.now c.loop-e.left c.loop-e.at ≡ []
end_is c = run_end _ _ _ (sym c.given_at.ensures ∙ c.in_default.is)

-- the entry that is read, and its size
read_is : (c : In-Some) → Stepped c.loop-e.left (listing_at c.args.content c.args.input.now c.loop-e.at) c.in-Some.e
read_is c = taken_entry _ _ _ (sym c.given_at.ensures ∙ c.in-Some.is)

sized : (c : After-entry_size-size) → c.entry_size-size.result ≡ row_size Listing c.in-Some.e
sized c = c.entry_size-size.ensures ∙ size_row _ _ (listing_inside _ _ _ _ (taken_entry _ _ _ (sym c.given_at.ensures ∙ c.in-Some.is)).item).short

pub returns-then-input-eq0 : goal.returns-then-input-eq0
returns-then-input-eq0 c = passes_empty _ _ c.if-input-eq0.true

pub loop-e-init : goal.loop-e-init
loop-e-init c = reading_start _ _ _ _ c.if-input-eq0.false

pub returns-then-at-input : goal.returns-then-at-input
returns-then-at-input c =
    reading_end _ _ _ _ _ _ _ _ _ c.loop-e.invariant (end_is (goal.at.returns-then-at-input c).In_default) c.if-at-input.true

pub returns-in_default : goal.returns-in_default
returns-in_default c =
    reading_short _ _ _ _ _ _ _ _ _ c.loop-e.invariant (end_is (goal.at.returns-in_default c).In_default) c.if-at-input.false

pub overflow_sub-e : goal.overflow_sub-e
overflow_sub-e c =
    let i = listing_inside _ _ _ _ (read_is (goal.at.overflow_sub-e c).In-Some).item in omega (arith, i.moves, i.same)

pub returns-then-e-size : goal.returns-then-e-size
returns-then-e-size c =
    let i = read_is (goal.at.returns-then-e-size c).In-Some in
    reading_padded _ _ _ _ _ _ _ _ _ c.loop-e.invariant _ i.some i.item _ (sized (goal.at.returns-then-e-size c).After-entry_size-size) c.if-e-size.true

pub overflow_add-name : goal.overflow_add-name
overflow_add-name c = omega (arith, (listing_inside _ _ _ _ (read_is (goal.at.overflow_add-name c).In-Some).item).name)

pub slice_bounds-name-end : goal.slice_bounds-name-end
slice_bounds-name-end c = (listing_inside _ _ _ _ (read_is (goal.at.slice_bounds-name-end c).In-Some).item).name

pub returns-then-not-is_below : goal.returns-then-not-is_below
returns-then-not-is_below c =
    let i = read_is (goal.at.returns-then-not-is_below c).In-Some in
    reading_falls _ _ _ _ _ _ _ _ _ c.loop-e.invariant _ i.some i.item (simp add-sub_cancel_left at (sym c.is_below.ensures) ∙ c.if-not-is_below.true)

pub add-f-requires : goal.add-f-requires
add-f-requires c =
    let i = read_is (goal.at.add-f-requires c).In-Some in
    reading_next _ _ _ _ _ _ _ _ _ c.loop-e.invariant _ i.some i.item (omega arith) _ (sized (goal.at.add-f-requires c).After-entry_size-size)

pub overflow_sub-left : goal.overflow_sub-left
overflow_sub-left c =
    omega (arith, (read_is (goal.at.overflow_sub-left c).In-Some).some)

pub loop-e-smaller : goal.loop-e-smaller
loop-e-smaller c =
    omega (arith, (read_is (goal.at.loop-e-smaller c).In-Some).some)

pub loop-e-preserved : goal.loop-e-preserved
loop-e-preserved c =
    let i = read_is (goal.at.loop-e-preserved c).In-Some in
    rw add-sub_cancel_left (reading_turn _ _ _ _ _ _ _ _ _ c.loop-e.invariant _ i.some i.item _ (sized (goal.at.loop-e-preserved c).After-entry_size-size) c.if-e-size.false (simp add-sub_cancel_left at (sym c.is_below.ensures) ∙ c.if-not-is_below.false) _ _ c.add-f.ensures.0 c.add-f.ensures.1)
