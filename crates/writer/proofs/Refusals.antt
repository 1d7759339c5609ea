-- The writer's refusals: 18, 19 and 20, which belong to no chunk.
use Rattle.fields.proofs.Base.{◌≡◌, sym, ◌⊎◌, inl, inr, Bool, true, false, cond, List, ℕ, arith, leb, Ok, Err}
use Rattle.refusals.specs.Refusals.{refusal_of}
use Rattle.refusals.specs.declared.Refusal.{Refusal}
use Rattle.refusals.specs.declared.Rule.TheVariants.{BadInput, TooManyChunks, ShortOutput}
use Rattle.layout.specs.Headers.{head_length}
use Rattle.layout.specs.Layout.{takes, layout_for, chunk_count, small_enough}
use Rattle.writer.specs.Head.{written}

pub written_refusal : (s : List ℕ) (density content room : ℕ) (q : Refusal) → written s density content room ≡ Err q
    → (q ≡ refusal_of BadInput) ⊎ ((q ≡ refusal_of TooManyChunks) ⊎ (q ≡ refusal_of ShortOutput))
unfolding written
written_refusal s density content room q =
    go (takes density content s) (small_enough (layout_for density content s)) (leb (head_length (chunk_count (layout_for density content s))) room)
  where
    go : (a b c : Bool)
        → cond a (cond b (cond c (Ok (head_length (chunk_count (layout_for density content s)))) (Err (refusal_of ShortOutput))) (Err (refusal_of TooManyChunks))) (Err (refusal_of BadInput)) ≡ Err q
        → (q ≡ refusal_of BadInput) ⊎ ((q ≡ refusal_of TooManyChunks) ⊎ (q ≡ refusal_of ShortOutput))
    go true true true e = absurd (let z : ◌≡◌ {A = ℕ} 0 1 = cc in omega arith)
    go true true false e = inr (inr (sym (let z : refusal_of ShortOutput ≡ q = cc in z)))
    go true false c e = inr (inl (sym (let z : refusal_of TooManyChunks ≡ q = cc in z)))
    go false b c e = inl (sym (let z : refusal_of BadInput ≡ q = cc in z))
