-- In a shaped tree the descent that checks no chunk comes to what the descent comes to: `fetch_shaped`.
use Rattle.fields.proofs.Base.{◌≡◌, refl, inl, inr, true, List, ℕ, zero, suc}
use Rattle.names.specs.Names.{compared}
use Rattle.entries.specs.declared.Limits.{Limits}
use Rattle.chunk.specs.Chunk.{Parsed, parsed, entries_in}
use Rattle.quickref.specs.Quickref.{Sought, sought_of}
use Rattle.seek.specs.Seek.{choose_in}
use Rattle.seek.proofs.Good.{find_good, choose_good}
use Rattle.tree.specs.Shape.{Shape}
use Rattle.tree.specs.Tree.{shaped}
use Rattle.tree.specs.Descent.{child_for, outcome_from}
use Rattle.tree.specs.Fetch.{fetch_from}
use Rattle.tree.proofs.Rising.{choice_in}
use Rattle.tree.proofs.Chunks.{listing_chunk_lem, index_chunk_lem}
use Rattle.tree.proofs.Shaped.{shaped_leaf, shaped_index, shaped_child}

module _ (limits : Limits) (bytes : ℕ → List ℕ) (H : Shape) (name : List ℕ) where
  abbrev D : ℕ → Parsed
  D c = parsed limits (bytes c)

  pub fetch_shaped : (l c : ℕ) → shaped D H (suc l) c ≡ true → fetch_from limits bytes name (suc l) c ≡ outcome_from D H name (suc l) c
  unfolding fetch_from outcome_from
  fetch_shaped zero c s =
      let h = shaped_leaf D H c s in
      rw (h, find_good limits (bytes c) name (listing_chunk_lem D H c h).1) refl
  fetch_shaped (suc l) c s =
      let h = (shaped_index D H l c s).0 in
      let q : sought_of (bytes c) (choose_in limits (bytes c) (compared name)) ≡ child_for name (D c) = choose_good limits (bytes c) name (index_chunk_lem D H c h).1 in
      elim (choice_in name Sought.absent (entries_in (D c))) [
        | inl z ↦ rw (h, q, z) refl
        | inr k ↦ rw (h, q, k.1) (fetch_shaped l k.0.child (shaped_child D H l c s k.0 k.2))
      ]
