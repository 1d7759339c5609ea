-- The answers for `descend`, which calls itself: the measure is the level.
use Rattle.fields.proofs.Base.{◌≡◌, refl, sym, ap, ◌∙◌, Bool, cond, ℕ, ◌+◌, ◌<◌, arith, rules, set, Some, Ok, Err}
use Rattle.search.specs.Search.{cost_at}
use Rattle.lookup.specs.Step.{way_at}
use Rattle.lookup.specs.declared.Answer.TheVariants.{Absent}
use Rattle.lookup.proofs.Descending.{listing_below, way_below, way_fits, at_listing, at_end, at_bar, going_down}
use Rattle.lookup.proofs.+descend.Goals.{In-Some}
use Rattle.lookup.proofs.+descend.Goals as goal

pub mark_trail-requires : goal.mark_trail-requires
mark_trail-requires t c = let a = c.args in (
  omega arith,
  λ h. (let b = listing_below a.file.now a.book a.name.now a.c (record { chunks = a.i + 1; comparisons = a.spent + cost_at a.file.now a.book a.name.now a.c })
      c.ask_listing-answer.result c.ask_listing-answer.ensures (sym c.is_refusal.ensures ∙ h) in
      omega arith),
)

pub returns-then-level-lt2 : goal.returns-then-level-lt2
returns-then-level-lt2 t c =
    let a = c.args in
    at_listing a.file.now a.book a.name.now a.c a.level a.i a.spent a.trail.now c.ask_listing-answer.result
    a.trail.now c.mark_trail.new.trail (c.mark_trail.ensures ∙ ap (λ (x : Bool). cond x a.trail.now (set a.trail.now a.i a.c)) c.is_refusal.ensures)
    (omega arith) c.if-level-lt2.true refl c.ask_listing-answer.ensures

-- where the index chunk leads, and how many names were compared in it
way_is : {t : ℕ} (c : In-Some t) → let a = c.args in Some c.in-Some.chosen ≡ way_at a.file.now a.book a.name.now a.c
way_is c = sym c.in-Some.is ∙ c.ask_index.ensures

few : {t : ℕ} (c : In-Some t) → c.in-Some.chosen.count < 0x20000
few c = let a = c.args in way_fits a.file.now a.book a.name.now a.c c.in-Some.chosen (way_is c) (λ j. (c.type_inv.file j).fits)

pub overflow_add-total : goal.overflow_add-total
overflow_add-total t c = omega (arith, few (goal.at.overflow_add-total t c).In-Some)

pub descend-answer-requires : goal.descend-answer-requires
descend-answer-requires t c =
    let f = few (goal.at.descend-answer-requires t c).In-Some in
    search rules

pub mark_trail-requires-in-Some-answer : goal.mark_trail-requires-in-Some-answer
mark_trail-requires-in-Some-answer t c =
    let a = c.args in
    let b = way_below a.file.now a.book a.name.now a.c c.in-Some.chosen (way_is (goal.at.mark_trail-requires-in-Some-answer t c).In-Some) in
    (search rules, λ h. omega arith)

pub mark_trail-requires-in-None : goal.mark_trail-requires-in-None
mark_trail-requires-in-None t c =
    let a = c.args in
    let b = way_below a.file.now a.book a.name.now a.c c.in-Some.chosen (way_is (goal.at.mark_trail-requires-in-None t c).In-Some) in
    (omega arith, λ h. omega arith)

pub returns-in-Some-answer : goal.returns-in-Some-answer
returns-in-Some-answer t c =
    let a = c.args in
    let was = c.descend-answer.new.trail in
    going_down a.file.now a.book a.name.now a.c a.level a.i a.spent a.trail.now c.descend-answer.result
    was c.mark_trail-in-Some-answer.new.trail
    (c.mark_trail-in-Some-answer.ensures ∙ ap (λ (x : Bool). cond x was (set was a.i a.c)) c.is_refusal-in-Some-answer.ensures)
    (omega arith) c.in-Some.chosen (way_is (goal.at.returns-in-Some-answer t c).In-Some) c.in-Some-answer.child c.in-Some-answer.is c.descend-answer.ensures

pub returns-in-None : goal.returns-in-None
returns-in-None t c =
    let a = c.args in
    at_end a.file.now a.book a.name.now a.c a.level a.i a.spent a.trail.now
    (Ok (Absent (record { chunks = a.i + 1; comparisons = a.spent + c.in-Some.chosen.count })))
    a.trail.now c.mark_trail-in-None.new.trail c.mark_trail-in-None.ensures
    (omega arith) c.in-Some.chosen (way_is (goal.at.returns-in-None t c).In-Some) c.in-None.is refl refl

pub returns-in_default : goal.returns-in_default
returns-in_default t c =
    let a = c.args in
    at_bar a.file.now a.book a.name.now a.c a.level a.i a.spent a.trail.now (Err c.refuse.result)
    (omega arith) (sym c.in_default.is ∙ c.ask_index.ensures) (ap Err c.refuse.ensures)
