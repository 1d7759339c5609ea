use Rattle.fields.proofs.Base.{◌≡◌, sym, ap, ◌∙◌, ℕ, ◌/◌, ◌%◌, ◌<◌, arith, sets}
use native.Mathlib.Nat.{mod-zero}
use Rattle.fields.specs.Le.{bytes}
use Rattle.put.specs.Put.{put}
use Rattle.fields.proofs.Le.{length_bytes}
use Rattle.put.proofs.Put.{put_inside}
use Rattle.chunk_fields.specs.ChunkFields.{quick_place}
use Rattle.compose.proofs.Marks.{mark_none, mark_some}
use Rattle.compose.proofs.put_quick_word.Goals as goal

none : (n i : ℕ) → n ≡ 0 → 0 < i → i % n ≡ 0 → ⊥
none n i h p m = let z : i % 0 ≡ 0 = rw h at m in omega (arith, mod-zero i)

pub returns-then-i-eq0 : goal.returns-then-i-eq0
returns-then-i-eq0 c = let a = c.args in sym (ap (sets a.out.now (quick_place (a.i / a.n))) (mark_none a.n a.i a.offset (λ p m. omega arith)))

pub returns-then-n-eq0 : goal.returns-then-n-eq0
returns-then-n-eq0 c = let a = c.args in sym (ap (sets a.out.now (quick_place (a.i / a.n))) (mark_none a.n a.i a.offset (none a.n a.i c.if-n-eq0.true)))

pub returns-then-i-n-ne0 : goal.returns-then-i-n-ne0
returns-then-i-n-ne0 c = let a = c.args in sym (ap (sets a.out.now (quick_place (a.i / a.n))) (mark_none a.n a.i a.offset (λ p m. c.if-i-n-ne0.true m)))

pub returns : goal.returns
returns c = let a = c.args in
    let m = mark_some a.n a.i a.offset (omega arith) c.if-i-n-ne0.false in
    let r = c.put16 in
    r.ensures.written ∙ ap (λ (p : ℕ). put a.out.now p (bytes 2 a.offset)) c.quick_place.ensures
    ∙ put_inside a.out.now (quick_place (a.i / a.n)) (bytes 2 a.offset) (omega (arith, length_bytes 2 a.offset, c.requires))
    ∙ ap (sets a.out.now (quick_place (a.i / a.n))) (sym m)
