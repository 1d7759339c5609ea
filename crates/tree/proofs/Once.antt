-- In a shaped tree whose leaves are distinct no index chunk stands twice: it has one level, so a second place of it would have its leaves twice.
-- A level is written `suc l`.
use Rattle.fields.proofs.Base.{◌≡◌, refl, ap, subst, ◌≢◌, inl, inr, true, List, [], ◌∷◌, flat_map, ℕ, zero, suc, ◌<◌, arith}
use Rattle.entries.specs.Entry.{Entry}
use Rattle.chunk.specs.Chunk.{Parsed, entries_in}
use Rattle.tree.specs.Lists.{In, Distinct, all_of}
use Rattle.tree.specs.Shape.{Shape, is_index, GoodChunks}
use Rattle.tree.specs.Tree.{leaves, index_chunks, shaped}
use Rattle.tree.proofs.Lists.{in_flat, flat_in, each_left, each_right, each_apart, each_append, all_more, all_in}
use Rattle.tree.proofs.Chunks.{not_both, listing_chunk_lem, index_chunk_lem, first_entry}
use Rattle.tree.proofs.Shaped.{child_ok, child_is, shaped_leaf, shaped_index, shaped_below, shaped_child}

module _ (D : ℕ → Parsed) (H : Shape) (good : GoodChunks D H) where
  -- an entry of an index chunk of the tree
  some_child : (l c : ℕ) → shaped D H (suc (suc l)) c ≡ true → (e : Entry) × In e (entries_in (D c))
  some_child l c s = let f = first_entry D H good c (shaped_below D H (suc l) c s) in (f.0, rw f.2 (inl refl))

  some_leaf : (l c : ℕ) → shaped D H (suc l) c ≡ true → (y : ℕ) × In y (leaves D (suc l) c)
  unfolding leaves
  some_leaf zero c s = (c, inl refl)
  some_leaf (suc l) c s =
      let f = some_child l c s in
      let y = some_leaf l f.0.child (shaped_child D H l c s f.0 f.1) in
      (y.0, in_flat (λ e. leaves D (suc l) e.child) (entries_in (D c)) f.0 y.0 f.1 y.1)

  two_kinds : (l c : ℕ) → shaped D H 1 c ≡ true → shaped D H (suc (suc l)) c ≡ true → ⊥
  two_kinds l c s t = not_both (D c) (listing_chunk_lem D H c (shaped_leaf D H c s)).1 (index_chunk_lem D H c (shaped_index D H l c t).0).1

  one_level : (l m c : ℕ) → shaped D H (suc l) c ≡ true → shaped D H (suc m) c ≡ true → l ≡ m
  one_level zero zero c s t = refl
  one_level zero (suc m) c s t = absurd (two_kinds m c s t)
  one_level (suc l) zero c s t = absurd (two_kinds l c t s)
  one_level (suc l) (suc m) c s t =
      let f = some_child l c s in
      ap suc (one_level l m f.0.child (shaped_child D H l c s f.0 f.1) (shaped_child D H m c t f.0 f.1))

  -- an index chunk x at or under chunk c has a level no higher, and its leaves are among those of c
  record Inside (l c x : ℕ) : Type 0 where
    level : ℕ
    lower : level < l
    shape : shaped D H (suc (suc level)) x ≡ true
    leaf : (y : ℕ) → In y (leaves D (suc (suc level)) x) → In y (leaves D (suc l) c)

  inside : (l c : ℕ) → shaped D H (suc l) c ≡ true → (x : ℕ) → In x (index_chunks D (suc l) c) → Inside l c x
  unfolding index_chunks leaves
  inside zero c s x m = absurd m
  inside (suc l) c s x (inl e) = record { level = l; lower = omega arith; shape = rw e s; leaf = λ y m. rw e at m }
  inside (suc l) c s x (inr m) =
      let f = flat_in (λ e. index_chunks D (suc l) e.child) (entries_in (D c)) x m in
      let k = inside l f.0.child (shaped_child D H l c s f.0 f.1) x f.2 in
      let b = k.lower in
      record {
        level = k.level;
        lower = omega arith;
        shape = k.shape;
        leaf = λ y n. in_flat (λ e. leaves D (suc l) e.child) (entries_in (D c)) f.0 y f.1 (k.leaf y n);
      }

  pub index_kind : (l c : ℕ) → shaped D H (suc l) c ≡ true → (x : ℕ) → In x (index_chunks D (suc l) c) → (x < H.count) × (is_index (D x) ≡ true)
  index_kind l c s x m = let k = inside l c s x m in index_chunk_lem D H x (shaped_index D H k.level x k.shape).0

  -- a chunk at or under two chunks of a level has a leaf that both have
  shared_leaf : (l b c x : ℕ) → shaped D H (suc l) b ≡ true → shaped D H (suc l) c ≡ true → In x (index_chunks D (suc l) b) → In x (index_chunks D (suc l) c)
      → (y : ℕ) × In y (leaves D (suc l) b) × In y (leaves D (suc l) c)
  shared_leaf l b c x s t m n =
      let i = inside l b s x m in
      let j = inside l c t x n in
      let y = some_leaf (suc i.level) x i.shape in
      let q : suc i.level ≡ suc j.level = one_level (suc i.level) (suc j.level) x i.shape j.shape in
      (y.0, i.leaf y.0 y.1, j.leaf y.0 (subst (λ v. In y.0 (leaves D (suc v) x)) q y.1))

  children_once : (l : ℕ) → ((c : ℕ) → shaped D H (suc l) c ≡ true → Distinct (leaves D (suc l) c) → Distinct (index_chunks D (suc l) c))
      → (es : List Entry) → all_of (child_ok D H l) es ≡ true → Distinct (flat_map (λ e. leaves D (suc l) e.child) es)
      → Distinct (flat_map (λ e. index_chunks D (suc l) e.child) es)
  unfolding flat_map
  children_once l ih [] a d = tt
  children_once l ih (x ∷ es) a d =
      let ls = flat_map (λ e. leaves D (suc l) e.child) es in
      let t = all_more (child_ok D H l) x es a in
      let s = (child_is D H l x t.0).1 in
      each_append (λ b c. b ≢ c) (index_chunks D (suc l) x.child) (flat_map (λ e. index_chunks D (suc l) e.child) es)
      (ih x.child s (each_left (λ b c. b ≢ c) (leaves D (suc l) x.child) ls d))
      (children_once l ih es t.1 (each_right (λ b c. b ≢ c) (leaves D (suc l) x.child) ls d))
      (λ z w m n q.
      let f = flat_in (λ e. index_chunks D (suc l) e.child) es z (rw q n) in
      let u = (child_is D H l f.0 (all_in (child_ok D H l) es t.1 f.0 f.1)).1 in
      let y = shared_leaf l x.child f.0.child z s u m f.2 in
      each_apart (λ b c. b ≢ c) (leaves D (suc l) x.child) ls d y.0 y.0 y.1 (in_flat (λ e. leaves D (suc l) e.child) es f.0 y.0 f.1 y.2) (refl {a = y.0}))

  pub index_once : (l c : ℕ) → shaped D H (suc l) c ≡ true → Distinct (leaves D (suc l) c) → Distinct (index_chunks D (suc l) c)
  unfolding index_chunks leaves
  index_once zero c s d = tt
  index_once (suc l) c s d = (
    -- the chunk itself would have a lower level under its child
    (λ x m e.
        let f = flat_in (λ e. index_chunks D (suc l) e.child) (entries_in (D c)) x m in
        let k = inside l f.0.child (shaped_child D H l c s f.0 f.1) x f.2 in
        let b = k.lower in
        let q : suc k.level ≡ suc l = one_level (suc k.level) (suc l) x k.shape (rw (← e) s) in
        omega arith),
    children_once l (λ b s d. index_once l b s d) (entries_in (D c)) (shaped_index D H l c s).1 d,
  )
