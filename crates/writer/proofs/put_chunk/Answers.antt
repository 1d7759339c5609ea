use Rattle.fields.proofs.Base.{◌≡◌, sym, ◌∙◌, cond, List, ℕ, ◌+◌, ◌-◌, ◌*◌, ◌≤◌, arith, length, take, drop, length-drop, length-take-le, eqb, eq-eqb}
use Rattle.compose.proofs.Whole.{length_extent}
use Rattle.layout.specs.Layout.{new_previous, new_next}
use Rattle.writer.proofs.Lent.{lent}
use Rattle.writer.proofs.put_chunk.Goals as goal

-- the part that was lent is a chunk
written : (out : List ℕ) (at k : ℕ) (x : List ℕ) {ys : List ℕ} → k ≡ 4096 → at + 4096 ≤ length out
    → ys ≡ cond (eqb (length (take k (drop at out))) 4096) x (take k (drop at out)) → ys ≡ x
written out at k x h l e =
    let d : k ≤ length (drop at out) = omega (arith, length-drop at out) in
    e ∙ rw (eq-eqb (length (take k (drop at out))) 4096 (length-take-le k (drop at out) d ∙ h))

pub returns : goal.returns
returns c = let a = c.args in
    let w = c.write_chunk in
    let at = 204 + 4096 * a.c in
    let l = length_extent a.content a.input.now a.starts.now a.from.kind a.from.left a.from.at a.n w.result w.ensures.answer (new_previous a.c) (new_next a.m a.c) in
    let k : at + 4096 - at ≡ 4096 = omega arith in (
      w.ensures.answer,
      lent at (at + 4096 - at) a.out.now _ _
          (written a.out.now at (at + 4096 - at) _ k (omega (arith, c.requires.0)) (rw (c.previous.ensures, c.following.ensures) at w.ensures.written))
          (k ∙ sym l) (omega (arith, c.requires.0)),
    )
