use Rattle.fields.proofs.Base.{◌≡◌, sym, ap, ◌∙◌, ℕ, ◌+◌, ◌-◌, arith, Option}
use Rattle.seek.specs.declared.Searched.{Searched}
use Rattle.lookup.specs.Reply.{reply_to}
use Rattle.fetch.specs.Fetch.{fetch_at}
use Rattle.fetch.proofs.Steps.{go_down, go_nowhere}
use Rattle.fetch.proofs.fetch_from.Goals as goal

pub loop-init : goal.loop-init
loop-init c = let a = c.args in
    let z : a.level + 1 - 1 ≡ a.level = omega arith in
    ap (λ (n : ℕ). reply_to a.book (fetch_at a.file.now a.book a.name.now n a.c)) z

pub returns-in_default : goal.returns-in_default
returns-in_default c = let a = c.args in
    sym (go_nowhere a.file.now a.book a.name.now _ _ (omega arith) (sym (ap (λ (r : Searched (Option ℕ)). r.answer) c.child_in.ensures) ∙ c.in_default.is))
    ∙ c.loop.invariant

pub loop-preserved : goal.loop-preserved
loop-preserved c = let a = c.args in
    let z : a.level + 1 - (c.loop.counter + 1) ≡ a.level + 1 - c.loop.counter - 1 = omega arith in
    ap (λ (n : ℕ). reply_to a.book (fetch_at a.file.now a.book a.name.now n c.in-Some.below)) z
    ∙ sym (go_down a.file.now a.book a.name.now _ _ (omega arith) c.in-Some.below (sym (ap (λ (r : Searched (Option ℕ)). r.answer) c.child_in.ensures) ∙ c.in-Some.is))
    ∙ c.loop.invariant

pub returns : goal.returns
returns c = let a = c.args in
    let z : 1 ≡ a.level + 1 - c.loop.counter = omega arith in
    c.fetch_leaf.ensures
    ∙ ap (λ (n : ℕ). reply_to a.book (fetch_at a.file.now a.book a.name.now n c.loop.at)) z
    ∙ c.loop.invariant
