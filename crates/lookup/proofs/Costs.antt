-- What a descent takes is made of what its first chunk and the others take: `effort_one`, `effort_more`.
use Rattle.fields.proofs.Base.{◌≡◌, ap, ap₂, List, [], ◌∷◌, ℕ, suc, ◌+◌, arith, length}
use Rattle.header.specs.declared.Record.{Record}
use Rattle.search.specs.Search.{cost_at}
use Rattle.lookup.specs.Lookup.{costs}
use Rattle.lookup.specs.Step.{effort_after}
use Rattle.lookup.specs.declared.Effort.{Effort}

module _ (s : List ℕ) (book : Record) (name : List ℕ) (c i n m : ℕ) (cs : List ℕ) (q : m ≡ cost_at s book name c) where
  pub effort_one : ◌≡◌ {A = Effort} (record { chunks = i + 1; comparisons = n + m }) (effort_after s book name i n (c ∷ []))
  unfolding costs
  effort_one = let z : n + m ≡ n + (cost_at s book name c + 0) = omega (arith, q) in ap (λ (x : ℕ). record { chunks = i + 1; comparisons = x }) z

  pub effort_more : effort_after s book name (i + 1) (n + m) cs ≡ effort_after s book name i n (c ∷ cs)
  unfolding costs
  effort_more =
      let y : i + 1 + length cs ≡ i + suc (length cs) = omega arith in
      let z : n + m + costs s book name cs ≡ n + (cost_at s book name c + costs s book name cs) = omega (arith, q) in
      ap₂ (λ (x w : ℕ). record { chunks = x; comparisons = w }) y z
