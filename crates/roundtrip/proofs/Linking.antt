-- A directory that means a new layout passes the checks of chain and tree, and its chain is its listing chunks in order.
use Rattle.fields.proofs.Base.{ℕ, ◌+◌, ◌-◌, ◌≤◌, ◌<◌, ◌≡◌, refl, sym, ap, subst, ◌∙◌, true, false, List, [], flatten, arith, dec_le, length, get_or}
use Rattle.fields.proofs.Tests.{never}
use Rattle.chunk.specs.Chunk.{Parsed}
use Rattle.tree.specs.Shape.{is_listing, is_index}
use Rattle.tree.specs.Chain.{chain, chain_ok}
use Rattle.tree.specs.Tree.{tree_ok}
use Rattle.entries.specs.Stored.{Stored}
use Rattle.layout.specs.Layout.{Layout, layout_over, chunk_count, small_enough}
use Rattle.layout.proofs.Small.{small_told}
use Rattle.layout.proofs.Sound.{Ordered}
use Rattle.roundtrip.proofs.Meaning.{shape_for, Means}
use Rattle.roundtrip.proofs.Numbers.{numbers}
use Rattle.roundtrip.proofs.Stand.{as_leaf, as_node, Stand, stand}
use Rattle.roundtrip.proofs.Chaining.{Chained, chained}
use Rattle.roundtrip.proofs.Growing.{Above, Top, reach}
use Rattle.roundtrip.proofs.Rooting.{ground, rooted}

pub record Links (D : ℕ → Parsed) (l : Layout) : Type 0 where
  pub chain_is : chain D (shape_for l) ≡ numbers 0 (length l.leaves)
  pub chain_passes : chain_ok D (shape_for l) ≡ true
  pub tree_passes : tree_ok D (shape_for l) ≡ true

-- ---- the chunks of a layout in a directory that means it

module _ (D : ℕ → Parsed) (l : Layout) (means : Means D l) where
  abbrev m : ℕ
  m = length l.leaves

  leaves_stand : Stand D (as_leaf m) 0 l.leaves
  leaves_stand =
      stand D (as_leaf m) 0 l.leaves (λ i h. subst (λ (x : ℕ). D x ≡ as_leaf m x (get_or l.leaves i [])) (omega arith) (means.leaf i h))

  nodes_stand : Stand D as_node (0 + m) (flatten l.levels)
  nodes_stand = subst (λ (x : ℕ). Stand D as_node x (flatten l.levels)) (omega arith) (stand D as_node m (flatten l.levels) means.node)

  listing_kind : (c : ℕ) → c < chunk_count l → is_listing (D c) ≡ true → c < m
  listing_kind c h t =
      elim (dec_le m c) [
        | yes k ↦ never (subst (λ (x : ℕ). false ≡ is_listing (D x)) (omega arith) (sym (ap is_listing (means.node (c - m) (omega arith)))) ∙ t)
        | no k ↦ omega arith
      ]

  index_kind : (c : ℕ) → c < chunk_count l → is_index (D c) ≡ true → m ≤ c
  index_kind c h t =
      elim (dec_le m c) [
        | yes k ↦ k
        | no k ↦ never (sym (ap is_index (means.leaf c (omega arith))) ∙ t)
      ]

-- ---- the theorem

pub links : (D : ℕ → Parsed) (n : ℕ) (gs : List (List Stored)) → 0 < length gs → Ordered gs → small_enough (layout_over n gs) ≡ true
    → Means D (layout_over n gs) → Links D (layout_over n gs)
unfolding layout_over
links D n gs full ordered small means =
    let l = layout_over n gs in
    let few = small_told l small in
    let s = leaves_stand D l means in
    let c : Chained D (shape_for l) (length gs)
    = chained D (shape_for l) gs (omega arith) (omega arith) refl refl full ordered.order ordered.some s (listing_kind D l means) in
    let a : Above D (shape_for l) (length gs) 5 0 gs l.levels = record { few = omega (arith, few.1); room = omega arith; stands = nodes_stand D l means } in
    let t : Top D (shape_for l) (length gs) 0 0 gs l.levels
    = reach D (shape_for l) (length gs) n 5 0 0 gs full a (ground D (shape_for l) gs (omega arith) s) in
    record { chain_is = c.is; chain_passes = c.passes; tree_passes = rooted D l t c.is (index_kind D l means) }
