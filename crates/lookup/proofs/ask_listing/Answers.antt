use Rattle.fields.proofs.Base.{◌≡◌, sym, ap, ◌∙◌, arith, Some, None, Err}
use Rattle.search.specs.Search.{search_in}
use Rattle.search.specs.declared.Search.TheVariants.{Found, Next}
use Rattle.lookup.proofs.Steps.{listing_answer, found_few, next_few}
use Rattle.lookup.proofs.ask_listing.Goals.{In-Some-Found, In-Some-Next}
use Rattle.lookup.proofs.ask_listing.Goals as goal

-- what the search comes to
found_is : (c : In-Some-Found) → let a = c.args in search_in a.file.now a.book a.name.now a.c ≡ Some (Found c.in-Some-Found.count c.in-Some-Found.x)
found_is c = sym c.search_in.ensures ∙ (c.in-Some-Found.is ∙ ap Some c.in-Some-Found.field-0-is)

next_is : (c : In-Some-Next) → let a = c.args in search_in a.file.now a.book a.name.now a.c ≡ Some (Next c.in-Some-Next.missed c.in-Some-Next.field-0-1)
next_is c = sym c.search_in.ensures ∙ (c.in-Some-Next.is ∙ ap Some c.in-Some-Next.field-0-is)

pub overflow_add-sum : goal.overflow_add-sum
overflow_add-sum c = let a = c.args in
    let few = found_few a.file.now a.book a.name.now a.c _ _ (found_is (goal.at.overflow_add-sum c).In-Some-Found) (λ j. (c.type_inv.file j).fits) in
    omega (arith, few)

pub overflow_add-total : goal.overflow_add-total
overflow_add-total c = let a = c.args in
    let few = next_few a.file.now a.book a.name.now a.c _ _ (next_is (goal.at.overflow_add-total c).In-Some-Next) (λ j. (c.type_inv.file j).fits) in
    omega (arith, few)

pub returns-in-Some-Found : goal.returns-in-Some-Found
returns-in-Some-Found c = let a = c.args in
    listing_answer a.file.now a.book a.name.now a.c a.n a.spent _ (found_is (goal.at.returns-in-Some-Found c).In-Some-Found)

pub returns-in-Some-Next : goal.returns-in-Some-Next
returns-in-Some-Next c = let a = c.args in
    listing_answer a.file.now a.book a.name.now a.c a.n a.spent _ (next_is (goal.at.returns-in-Some-Next c).In-Some-Next)

pub returns-in-None : goal.returns-in-None
returns-in-None c = let a = c.args in
    ap Err c.refuse.ensures ∙ listing_answer a.file.now a.book a.name.now a.c a.n a.spent None (sym c.search_in.ensures ∙ c.in-None.is)
