use Rattle.fields.proofs.Base.{◌≡◌, sym, ap, ◌∙◌, cond, List, ℕ, arith, length, replicate, eqb, eq-eqb}
use Rattle.compose.proofs.Whole.{Told, extent_told, chunk_written}
use Rattle.compose.proofs.write_chunk.Goals as goal

-- the choice by the lent part's size
whole_size : (out x : List ℕ) → length out ≡ 4096 → x ≡ cond (eqb (length out) 4096) x out
whole_size out x h = rw (eq-eqb (length out) 4096 h)

pub put_entries-f-requires : goal.put_entries-f-requires
put_entries-f-requires c = let z = c.fill-2 in
    let e = z.ensures.after (λ y same. same) in
    (z.auto.self ∙ c.if-out-ne4096.false, e ∙ ap (λ (m : ℕ). replicate {A = ℕ} m 0) (sym z.auto.self))

pub put_frame-requires : goal.put_frame-requires
put_frame-requires c =
    let told : let a = c.args in
    Told a.content a.input.now a.starts.now a.from.kind a.from.left a.from.at a.n c.put_entries-f.result c.put_entries-f.ensures.0 =
    extent_told _ _ _ _ _ _ _ _ _ in
    let t = told in
    (c.put_entries-f.auto.out ∙ c.fill-2.auto.self ∙ c.if-out-ne4096.false, omega (arith, t.room), omega (arith, t.room, t.few))

pub returns : goal.returns
returns c = let p = c.put_entries-f in
    let a = c.args in
    record {
      answer = p.ensures.0;
      written =
          chunk_written _ _ _ _ _ _ _ _ p.ensures.0 a.prev a.next _ _ p.ensures.1 c.put_frame.ensures
          ∙ whole_size a.out.now _ c.if-out-ne4096.false;
    }
