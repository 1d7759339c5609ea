-- A tree that is shaped: its chunks are below the count, its children are shaped, and its first name is that of the first entry under it.
-- A level is written `suc l`: no chunk has level 0.
use Rattle.fields.proofs.Base.{◌≡◌, refl, ap, ◌∙◌, inl, inr, Bool, true, ◌&&◌, List, [], ◌∷◌, ◌++◌, flat_map, ℕ, zero, suc, ◌<◌}
use Rattle.fields.specs.Same.{same}
use Rattle.fields.proofs.Same.{same_true}
use Rattle.fields.proofs.Tests.{and_both}
use Rattle.entries.specs.Entry.{Entry}
use Rattle.chunk.specs.Chunk.{Parsed, entries_in}
use Rattle.quickref.specs.Quickref.{nth}
use Rattle.tree.specs.Lists.{In, all_of}
use Rattle.tree.specs.Shape.{Shape, is_listing, first_name, listing_chunk, index_chunk, GoodChunks}
use Rattle.tree.specs.Chain.{entries_of}
use Rattle.tree.specs.Tree.{leaves, shaped}
use Rattle.tree.proofs.Lists.{all_in, flat_in, flat_flat}
use Rattle.tree.proofs.Chunks.{listing_chunk_lem, index_chunk_lem, first_entry}

-- the entries of the listing chunks at or under chunk c, from left to right
abbrev pub under : (ℕ → Parsed) → ℕ → ℕ → List Entry
under D l c = entries_of D (leaves D (suc l) c)

-- those under the children of some entries
abbrev pub under_all : (ℕ → Parsed) → ℕ → List Entry → List Entry
under_all D l es = flat_map (λ e. under D l e.child) es

pub under_index : (D : ℕ → Parsed) (l c : ℕ) → under D (suc l) c ≡ under_all D l (entries_in (D c))
unfolding leaves
under_index D l c = flat_flat (λ x. entries_in (D x)) (λ e. leaves D (suc l) e.child) (entries_in (D c))

module _ (D : ℕ → Parsed) (H : Shape) where
  -- the test of an entry of an index chunk, whose child has level `suc l`
  abbrev pub child_ok : ℕ → Entry → Bool
  child_ok l e = same e.name (first_name (D e.child)) && shaped D H (suc l) e.child

  pub child_is : (l : ℕ) (e : Entry) → child_ok l e ≡ true → (e.name ≡ first_name (D e.child)) × (shaped D H (suc l) e.child ≡ true)
  child_is l e h =
      let t = and_both _ _ h in
      (same_true e.name (first_name (D e.child)) t.0, t.1)

  pub shaped_leaf : (c : ℕ) → shaped D H 1 c ≡ true → listing_chunk D H c ≡ true
  unfolding shaped
  shaped_leaf c h = h

  pub shaped_index : (l c : ℕ) → shaped D H (suc (suc l)) c ≡ true → (index_chunk D H c ≡ true) × (all_of (child_ok l) (entries_in (D c)) ≡ true)
  unfolding shaped
  shaped_index l c h = and_both _ _ h

  pub shaped_below : (l c : ℕ) → shaped D H (suc l) c ≡ true → c < H.count
  shaped_below zero c h = (listing_chunk_lem D H c (shaped_leaf c h)).0
  shaped_below (suc l) c h = (index_chunk_lem D H c (shaped_index l c h).0).0

  pub shaped_child : (l c : ℕ) → shaped D H (suc (suc l)) c ≡ true → (e : Entry) → In e (entries_in (D c)) → shaped D H (suc l) e.child ≡ true
  shaped_child l c h e m = (child_is l e (all_in (child_ok l) (entries_in (D c)) (shaped_index l c h).1 e m)).1

  -- the leaves are listing chunks below the count
  pub leaf_listing : (l c : ℕ) → shaped D H (suc l) c ≡ true → (x : ℕ) → In x (leaves D (suc l) c) → (x < H.count) × (is_listing (D x) ≡ true)
  unfolding leaves
  leaf_listing zero c h x (inl e) = rw e (listing_chunk_lem D H c (shaped_leaf c h))
  leaf_listing zero c h x (inr m) = absurd m
  leaf_listing (suc l) c h x m =
      let f = flat_in (λ e. leaves D (suc l) e.child) (entries_in (D c)) x m in
      leaf_listing l f.0.child (shaped_child l c h f.0 f.1) x f.2

  module _ (good : GoodChunks D H) where
    first_is : (c : ℕ) (e : Entry) (es : List Entry) → entries_in (D c) ≡ e ∷ es → first_name (D c) ≡ e.name
    unfolding nth
    first_is c e es q = rw q

    -- there is a first entry under each chunk, and it has the chunk's first name
    pub first_under : (l c : ℕ) → shaped D H (suc l) c ≡ true → (e : Entry) × (es : List Entry) × (under D l c ≡ e ∷ es) × (first_name (D c) ≡ e.name)
    unfolding leaves flat_map
    first_under zero c h =
        let f = first_entry D H good c (shaped_below zero c h) in
        (f.0, f.1 ++ [], rw f.2, first_is c f.0 f.1 f.2)
    first_under (suc l) c h =
        let f = first_entry D H good c (shaped_below (suc l) c h) in
        let k = child_is l f.0 (all_in (child_ok l) (entries_in (D c)) (shaped_index l c h).1 f.0 (rw f.2 (inl refl))) in
        let g = first_under l f.0.child k.1 in
        let u : under D (suc l) c ≡ g.0 ∷ (g.1 ++ under_all D l f.1) = under_index D l c ∙ (ap (under_all D l) f.2 ∙ ap (λ s. s ++ under_all D l f.1) g.2) in
        (g.0, g.1 ++ under_all D l f.1, u, first_is c f.0 f.1 f.2 ∙ (k.0 ∙ g.3))
