use Rattle.fields.proofs.Base.{◌≡◌, sym, ap, ◌∙◌, ◌+◌, ◌-◌, arith, Some, Err}
use Rattle.lookup.specs.Reply.{reply_to}
use Rattle.tree.proofs.Plain.{plain_whole}
use Rattle.book.specs.Book.{directory_of, shape_of}
use Rattle.scan.proofs.Steps.{plain_at, turn_here, turn_end, turn_on, turn_barred, turn_none}
use Rattle.search.specs.Search.{search_in}
use Rattle.search.specs.declared.Search.TheVariants.{Next}
use Rattle.scan.proofs.scan_chain.Goals.{In-Some-Next}
use Rattle.scan.proofs.scan_chain.Goals as goal

-- the chunk that follows
next_is : (c : In-Some-Next) → let a = c.args in search_in a.file.now a.book a.name.now c.loop.c ≡ Some (Next c.in-Some-Next.field-0-0 c.in-Some-Next.next)
next_is c = sym c.search_in.ensures ∙ (c.in-Some-Next.is ∙ ap Some c.in-Some-Next.field-0-is)

pub loop-init : goal.loop-init
loop-init c = let a = c.args in
    let z : a.book.count - 0 ≡ a.book.count = omega arith in
    ap (λ n. reply_to a.book (plain_at a.file.now a.book a.name.now n a.book.first)) z
    ∙ ap (reply_to a.book) (plain_whole (directory_of a.file.now a.book) (shape_of a.book) a.name.now)

pub returns-in-Some-Found : goal.returns-in-Some-Found
returns-in-Some-Found c = let a = c.args in
    sym (turn_here a.file.now a.book a.name.now _ _ (omega arith) _ _ (sym c.search_in.ensures ∙ (c.in-Some-Found.is ∙ ap Some c.in-Some-Found.field-0-is))) ∙ c.loop.invariant

pub returns-then-next-no_chunk : goal.returns-then-next-no_chunk
returns-then-next-no_chunk c = let a = c.args in
    sym (turn_end a.file.now a.book a.name.now _ _ (omega arith) _ _ (next_is (goal.at.returns-then-next-no_chunk c).In-Some-Next)
    (c.if-next-no_chunk.true ∙ c.no_chunk.ensures)) ∙ c.loop.invariant

pub returns-in-None : goal.returns-in-None
returns-in-None c = let a = c.args in
    ap (λ x. Err x) c.refuse.ensures
    ∙ sym (turn_barred a.file.now a.book a.name.now _ _ (omega arith) (sym c.search_in.ensures ∙ c.in-None.is))
    ∙ c.loop.invariant

pub loop-preserved : goal.loop-preserved
loop-preserved c = let a = c.args in
    let z : a.book.count - (c.loop.counter + 1) ≡ a.book.count - c.loop.counter - 1 = omega arith in
    ap (λ n. reply_to a.book (plain_at a.file.now a.book a.name.now n c.in-Some-Next.next)) z
    ∙ sym (ap (reply_to a.book) (turn_on a.file.now a.book a.name.now _ _ (omega arith) _ _
    (next_is (goal.at.loop-preserved c).In-Some-Next) (λ z. c.if-next-no_chunk.false (z ∙ sym c.no_chunk.ensures)))) ∙ c.loop.invariant

pub returns : goal.returns
returns c = let a = c.args in
    ap (λ x. Err x) c.refuse-2.ensures
    ∙ sym (turn_none a.file.now a.book a.name.now _ _ (omega arith))
    ∙ c.loop.invariant
