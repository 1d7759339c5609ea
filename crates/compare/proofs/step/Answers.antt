use Rattle.fields.proofs.Base.{◌≡◌, sym, ap, subst, ◌∙◌, ◌≢◌, List, ℕ, arith, Result, Ok, Err}
use Rattle.refusals.specs.declared.Refusal.{Refusal}
use Rattle.header.specs.declared.Record.{Record}
use Rattle.opening.specs.Opened.{opened}
use Rattle.turn.specs.Turn.{turned, load, Lighter}
use Rattle.turn.specs.declared.Cursor.{Cursor}
use Rattle.turn.specs.declared.Step.{Step}
use Rattle.turn.specs.declared.Turn.TheVariants.{On}
use Rattle.turn.proofs.Falling.{turn_falls}
use Rattle.compare.specs.Compare.{compare_start, compare_step}
use Rattle.compare.specs.Compared.{after_steps}
use Rattle.compare.proofs.Stepping.{step_falls}
use Rattle.compare.proofs.Passing.{step_past, step_told}
use Rattle.compare.proofs.Compared.{books_compared}
use Rattle.compare.proofs.step.Goals as goal
use Rattle.turn.specs.declared.Which.{Which}

-- a step has what its contract says beside the equation
promised : (s₁ : List ℕ) (b₁ : Record) (s₂ : List ℕ) (b₂ : Record) (at : Cursor) (x : Result Step (Which × Refusal)) → x ≡ compare_step s₁ b₁ s₂ b₂ at
    → record {
      answer : x ≡ compare_step s₁ b₁ s₂ b₂ at;
      ends : Lighter (load at) x;
      opened : opened s₁ ≡ Ok b₁ → opened s₂ ≡ Ok b₂ → (n : ℕ) → at ≡ after_steps s₁ b₁ s₂ b₂ n (compare_start b₁ b₂) → (k : Which) (r : Refusal) → x ≢ Err (k, r);
    }
promised s₁ b₁ s₂ b₂ at x e =
    record {
      answer = e;
      ends = subst (Lighter (load at)) (sym e) (step_falls s₁ b₁ s₂ b₂ at);
      opened = λ o₁ o₂ n q k r h. (books_compared s₁ b₁ s₂ b₂ o₁ o₂).never_refused n k r (sym (ap (compare_step s₁ b₁ s₂ b₂) q) ∙ sym e ∙ h);
    }

pub returns-in-Tell : goal.returns-in-Tell
returns-in-Tell c = let a = c.args in
    promised a.file1.now a.one a.file2.now a.two a.from _
    (sym (step_told a.file1.now a.one a.file2.now a.two c.pass_same-here.result _ (sym c.take_turn.ensures ∙ c.in-Tell.is))
    ∙ c.pass_same-here.ensures.step ∙ c.loop-step.invariant)

pub loop-step-smaller : goal.loop-step-smaller
loop-step-smaller c =
    let turn_is : let a = c.args in
    turned a.file1.now a.one a.file2.now a.two c.pass_same-here.result ≡ On c.in-On.behind =
    sym c.take_turn.ensures ∙ c.in-On.is in
    let a = c.args in
    let f = turn_falls a.file1.now a.one a.file2.now a.two c.pass_same-here.result _ turn_is in
    omega (arith, f, c.pass_same-here.ensures.light)

pub loop-step-preserved : goal.loop-step-preserved
loop-step-preserved c =
    let turn_is : let a = c.args in
    turned a.file1.now a.one a.file2.now a.two c.pass_same-here.result ≡ On c.in-On.behind =
    sym c.take_turn.ensures ∙ c.in-On.is in
    let a = c.args in
    sym (step_past a.file1.now a.one a.file2.now a.two c.pass_same-here.result _ turn_is) ∙ c.pass_same-here.ensures.step ∙ c.loop-step.invariant
