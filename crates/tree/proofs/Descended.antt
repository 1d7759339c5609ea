-- The descent in a shaped tree whose entries rise: it ends at the chunk that holds the name, and goes through as many chunks as the level says.
-- A level is written `suc l`.
use Rattle.fields.proofs.Base.{◌≡◌, refl, ap, subst, ◌⊎◌, inl, inr, Bool, true, false, cond, List, [], ◌∷◌, ◌++◌, flat_map, ℕ, zero, suc, ◌<◌, ◌≤◌, arith, length}
use Rattle.names.specs.Names.{below, matches}
use Rattle.names.proofs.Laws.{below_trans}
use Rattle.entries.specs.Entry.{Entry}
use Rattle.chunk.specs.Chunk.{Parsed, entries_in}
use Rattle.quickref.specs.Quickref.{Sought, nth}
use Rattle.seek.specs.Seek.{entry_named, choice}
use Rattle.tree.specs.Lists.{In, Each, all_of}
use Rattle.tree.specs.Shape.{Shape, is_listing, first_name, GoodChunks, index_chunk}
use Rattle.tree.specs.Tree.{leaves, shaped}
use Rattle.tree.specs.Descent.{Outcome, found, absent, answer, child_for, onward, outcome_from, trail_from}
use Rattle.tree.specs.Exact.{Holds}
use Rattle.tree.proofs.Lists.{all_more, all_in, in_flat, flat_in, each_left, each_right, each_apart, each_of}
use Rattle.tree.proofs.Alike.{equal_self, equal_below, equal_above}
use Rattle.tree.proofs.Rising.{Before, rising_each, lookup_only, lookup_in, choice_above, choice_in, choice_some}
use Rattle.tree.proofs.Chunks.{listing_chunk_lem, first_entry}
use Rattle.tree.proofs.Shaped.{under, under_all, under_index, child_ok, child_is, shaped_leaf, shaped_index, shaped_below, shaped_child, first_under}

module _ (D : ℕ → Parsed) (H : Shape) (good : GoodChunks D H) (name : List ℕ) where
  -- ---- the right child

  -- the first name of a chunk under which an equal name stands is not above
  not_above : (l c : ℕ) → shaped D H (suc l) c ≡ true → Each Before (under D l c) → (e : Entry) → In e (under D l c) → matches name e.name ≡ true
      → below name (first_name (D c)) ≡ false
  not_above l c s r e m k = let f = first_under D H good l c s in rw f.3 (go f.0 f.1 (rw f.2 at r) (rw f.2 at m))
    where
      go : (d : Entry) (ds : List Entry) → Each Before (d ∷ ds) → In e (d ∷ ds) → below name d.name ≡ false
      go d ds r (inl q) = rw (← q) (equal_self name e.name k)
      go d ds r (inr m) = equal_above name e.name k d.name (r.0 e m)

  -- that of a chunk behind it is above
  is_above : (l : ℕ) (ds : List Entry) (es : List Entry) → all_of (child_ok D H l) es ≡ true → Each Before (ds ++ under_all D l es)
      → (e : Entry) → In e ds → matches name e.name ≡ true → (x : Entry) → In x es → below name x.name ≡ true
  is_above l ds es a r e m k x n =
      let t = child_is D H l x (all_in (child_ok D H l) es a x n) in
      let f = first_under D H good l x.child t.1 in
      let there : In f.0 (under_all D l es) = in_flat (λ x. under D l x.child) es x f.0 n (rw f.2 (inl refl)) in
      let b : below e.name x.name ≡ true = rw (t.0, f.3) (each_apart Before ds (under_all D l es) r e f.0 m there) in
      equal_below name e.name k x.name b

  -- so the entry that is chosen is the one under which the name stands
  choice_is : (l : ℕ) (es : List Entry) → all_of (child_ok D H l) es ≡ true → Each Before (under_all D l es)
      → (x : Entry) → In x es → (e : Entry) → In e (under D l x.child) → matches name e.name ≡ true → (last : Sought) → choice name last es ≡ Sought.found x
  unfolding choice flat_map
  choice_is l [] a r x i e m k last = elim i [ ]
  choice_is l (z ∷ es) a r x (inl q) e m k last =
      let t = all_more (child_ok D H l) z es a in
      let c = child_is D H l z t.0 in
      let m' : In e (under D l z.child) = rw q at m in
      let n : below name z.name ≡ false = rw c.0 (not_above l z.child c.1 (each_left Before (under D l z.child) (under_all D l es) r) e m' k) in
      rw (n, q) (choice_above name (Sought.found z) es (is_above l (under D l z.child) es t.1 r e m' k))
  choice_is l (z ∷ es) a r x (inr n) e m k last =
      choice_is l es (all_more (child_ok D H l) z es a).1 (each_right Before (under D l z.child) (under_all D l es) r) x n e m k _

  -- ---- the outcome

  -- the descent ends at the chunk that holds the name
  pub reached : (l c : ℕ) → shaped D H (suc l) c ≡ true → Each Before (under D l c)
      → (y : ℕ) (e : Entry) → In y (leaves D (suc l) c) → In e (entries_in (D y)) → matches name e.name ≡ true → outcome_from D H name (suc l) c ≡ found y e
  unfolding outcome_from leaves flat_map
  reached zero c s r y e (inl q) m k =
      let o : entry_named name (entries_in (D c)) ≡ Sought.found e = lookup_only name (entries_in (D c)) (each_left Before (entries_in (D c)) [] r) e (rw q at m) k in
      rw (shaped_leaf D H c s, o, q)
  reached zero c s r y e (inr n) m k = absurd n
  reached (suc l) c s r y e n m k =
      let t = shaped_index D H l c s in
      let es = entries_in (D c) in
      let r' : Each Before (under_all D l es) = subst (Each Before) (under_index D l c) r in
      let f = flat_in (λ x. leaves D (suc l) x.child) es y n in
      let o : child_for name (D c) ≡ Sought.found f.0 =
      choice_is l es t.1 r' f.0 f.1 e (in_flat (λ x. entries_in (D x)) (leaves D (suc l) f.0.child) y e f.2 m) k Sought.absent in
      rw (t.0, o) (reached l f.0.child (shaped_child D H l c s f.0 f.1) (each_of Before (λ x. under D l x.child) es r' f.0 f.1) y e f.2 m k)

  -- it is never refused, and what it finds is held
  abbrev pub Answered : Outcome → Type 0
  Answered o = (o ≡ absent) ⊎ ((y : ℕ) × (e : Entry) × (o ≡ found y e) × Holds D H name y e)

  pub answered : (l c : ℕ) → shaped D H (suc l) c ≡ true → Answered (outcome_from D H name (suc l) c)
  unfolding outcome_from
  answered zero c s =
      let u = listing_chunk_lem D H c (shaped_leaf D H c s) in
      rw (shaped_leaf D H c s) (go u (entry_named name (entries_in (D c))) refl)
    where
      go : (c < H.count) × (is_listing (D c) ≡ true) → (o : Sought) → entry_named name (entries_in (D c)) ≡ o → Answered (answer c o)
      go u Sought.absent q = inl refl
      go u (Sought.found e) q =
          let k = lookup_in name (entries_in (D c)) e q in
          inr (c, e, refl, record { inside = u.0; kind = u.1; entry = k.0; equals = k.1 })
  answered (suc l) c s =
      let t = shaped_index D H l c s in
      elim (choice_in name Sought.absent (entries_in (D c))) [
        | inl q ↦ rw (t.0, q) (inl refl)
        | inr k ↦ rw (t.0, k.1) (answered l k.0.child (shaped_child D H l c s k.0 k.2))
      ]

  -- ---- the trail

  -- a name that is not below the chunk's first name is followed down to a listing chunk
  pub trail_deep : (l c : ℕ) → shaped D H (suc l) c ≡ true → below name (first_name (D c)) ≡ false → length (trail_from D H name (suc l) c) ≡ suc l
  unfolding trail_from nth
  trail_deep zero c s b = refl
  trail_deep (suc l) c s b =
      let t = shaped_index D H l c s in
      let f = first_entry D H good c (shaped_below D H (suc l) c s) in
      let b' : below name f.0.name ≡ false = rw f.2 at b in
      let k = choice_some name Sought.absent f.0 f.1 b' in
      let o : child_for name (D c) ≡ Sought.found k.0 = rw f.2 k.1 in
      let x = child_is D H l k.0 (all_in (child_ok D H l) (entries_in (D c)) t.1 k.0 (rw f.2 k.2)) in
      let e : below name (first_name (D k.0.child)) ≡ false = rw (← x.0) k.3 in
      rw (t.0, o) (ap suc (trail_deep l k.0.child x.1 e))

  -- one that is below it ends there
  pub trail_high : (l c : ℕ) → shaped D H (suc l) c ≡ true → below name (first_name (D c)) ≡ true → length (trail_from D H name (suc l) c) ≡ 1
  unfolding trail_from nth
  trail_high zero c s b = refl
  trail_high (suc l) c s b =
      let i = shaped_below D H (suc l) c s in
      let f = first_entry D H good c i in
      let b' : below name f.0.name ≡ true = rw f.2 at b in
      let r : Each Before (f.0 ∷ f.1) = rw f.2 at (rising_each [] (entries_in (D c)) (good.rises c i)) in
      let o : child_for name (D c) ≡ Sought.absent = rw f.2 (choice_above name Sought.absent (f.0 ∷ f.1) (go f.0 f.1 b' r)) in
      rw ((shaped_index D H l c s).0, o) refl
    where
      go : (d : Entry) (ds : List Entry) → below name d.name ≡ true → Each Before (d ∷ ds) → (e : Entry) → In e (d ∷ ds) → below name e.name ≡ true
      go d ds b r e (inl q) = rw q b
      go d ds b r e (inr m) = below_trans name d.name e.name b (r.0 e m)

-- on any directory the descent goes through no more chunks than the level says: a trail of five places holds it
pub trail_bound : (D : ℕ → Parsed) (H : Shape) (name : List ℕ) (l c : ℕ) → length (trail_from D H name l c) ≤ l
unfolding trail_from
trail_bound D H name zero c = omega arith
trail_bound D H name (suc zero) c = omega arith
trail_bound D H name (suc (suc l)) c = go (index_chunk D H c) (child_for name (D c)) (λ k. trail_bound D H name (suc l) k)
  where
    go : (t : Bool) (o : Sought) → ((k : ℕ) → length (trail_from D H name (suc l) k) ≤ suc l)
        → suc (length (cond t (onward o [] (λ k. trail_from D H name (suc l) k)) [])) ≤ suc (suc l)
    go false o h = omega arith
    go true Sought.absent h = omega arith
    go true (Sought.found e) h = let b = h e.child in omega arith
