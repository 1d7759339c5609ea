use Rattle.fields.proofs.Base.{◌≡◌, ap, ◌∙◌, List, ℕ, ◌+◌, ◌-◌, arith, length, sets}
use Rattle.fields.specs.Le.{bytes}
use Rattle.fields.proofs.Le.{length_bytes}
use Rattle.put.proofs.Put.{put_inside}
use Rattle.chunk_fields.specs.ChunkFields.{first_place, count_place}
use Rattle.compose.specs.NewChunk.{chunk_header}
use Rattle.compose.proofs.put_frame.Goals as goal

pub returns : goal.returns
returns c = let u = c.put_chunk_header in
    let h = c.first_place in
    let a = c.args in
    let n : 4096 - (h.result + a.used) ≡ 4096 - (first_place a.kind + a.used) = ap (λ (m : ℕ). 4096 - (m + a.used)) h.ensures in
    let l : length u.new.out ≡ 4096 = u.auto.out ∙ c.requires.0 in
    c.put16.ensures.written
    ∙ put_inside u.new.out count_place (bytes 2 a.count) (omega (arith, length_bytes 2 a.count))
    ∙ ap (λ (o : List ℕ). sets o count_place (bytes 2 a.count)) (u.ensures ∙ ap (λ (m : ℕ). sets a.out.now 0 (chunk_header a.kind m a.prev a.next)) n)
