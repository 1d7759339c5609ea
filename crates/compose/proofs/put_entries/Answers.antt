use Rattle.fields.proofs.Base.{◌≡◌, refl, sym, ◌∙◌, arith, length}
use Rattle.pack.proofs.Filling.{Fitted, fitted}
use Rattle.compose.proofs.Turns.{Turn, putting_start, putting_turn, putting_more, putting_end}
use Rattle.compose.proofs.put_entries.Goals.{In-Some}
use Rattle.compose.proofs.put_entries.Goals as goal

-- the entry that comes next, and what a turn with it finds
next : (c : In-Some) → Fitted c.args.content c.args.input.now c.args.starts.now c.args.from.kind c.args.n c.loop-e.f.count c.loop-e.f.bytes c.loop-e.f.left c.loop-e.f.at c.in-Some.e c.in-Some.bytes
next c = fitted _ _ _ _ _ _ _ _ _ _ _ (sym c.next_fit.ensures ∙ c.in-Some.is)

turn : (c : In-Some) → Turn c.args.content c.args.input.now c.args.starts.now c.args.from.kind c.args.from.left c.args.from.at c.args.n c.loop-e.out c.loop-e.f c.loop-e.invariant.1 c.in-Some.e c.in-Some.bytes (next c)
turn c = putting_turn _ _ _ _ _ _ _ _ _ _ _ _ _

whole_size : (c : In-Some) → length c.loop-e.out ≡ 4096
whole_size c = c.loop-e.invariant.0 ∙ c.requires.0

pub loop-e-init : goal.loop-e-init
loop-e-init c = let p = c.requires in (refl, putting_start _ _ _ _ _ _ _ _ p.0 p.1)

pub returns-in_default : goal.returns-in_default
returns-in_default c = putting_end _ _ _ _ _ _ _ _ _ c.loop-e.invariant.1 (sym c.next_fit.ensures ∙ c.in_default.is)

pub overflow_add-first : goal.overflow_add-first
overflow_add-first c =
    omega (arith, (turn (goal.at.overflow_add-first c).In-Some).fits, c.first_place-first.ensures)

pub put_entry-requires : goal.put_entry-requires
put_entry-requires c =
    (omega (arith, (turn (goal.at.put_entry-requires c).In-Some).fits, whole_size (goal.at.put_entry-requires c).In-Some, c.first_place-first.ensures), (next (goal.at.put_entry-requires c).In-Some).inside)

pub put_quick_word-requires : goal.put_quick_word-requires
put_quick_word-requires c =
    (c.put_entry.auto.out ∙ whole_size (goal.at.put_quick_word-requires c).In-Some, (turn (goal.at.put_quick_word-requires c).In-Some).words, omega (arith, (turn (goal.at.put_quick_word-requires c).In-Some).near))

pub overflow_add-f : goal.overflow_add-f
overflow_add-f c =
    omega (arith, c.loop-e.invariant.1.few, (turn (goal.at.overflow_add-f c).In-Some).near)

pub overflow_sub-f : goal.overflow_sub-f
overflow_sub-f c =
    let t = next (goal.at.overflow_sub-f c).In-Some in omega (arith, t.some)

pub loop-e-smaller : goal.loop-e-smaller
loop-e-smaller c =
    let t = next (goal.at.loop-e-smaller c).In-Some in omega (arith, t.some)

pub loop-e-preserved : goal.loop-e-preserved
loop-e-preserved c =
    let p = c.put_entry in
    let m = c.put_quick_word in
    (m.auto.out ∙ p.auto.out ∙ c.loop-e.invariant.0, putting_more _ _ _ _ _ _ _ _ _ c.loop-e.invariant.1 _ _ (next (goal.at.loop-e-preserved c).In-Some) _ _ _ c.first_place-first.ensures p.ensures m.ensures)
