-- The chain of a new directory: its listing chunks in the order of their numbers, and it passes its check.
use Rattle.fields.proofs.Base.{◌≡◌, refl, sym, ap, subst, ◌∙◌, true, false, not, ◌||◌, List, [], ◌∷◌, flatten, ℕ, zero, suc, ◌+◌, ◌-◌, ◌≤◌, ◌<◌, arith, length, eqb, lt-ltb, le-ltb, eq-eqb, ne_eqb}
use Rattle.refusals.specs.Refusals.{no_chunk}
use Rattle.names.specs.Names.{below}
use Rattle.entries.specs.declared.Kind.TheVariants.{Listing}
use Rattle.chunk.specs.Chunk.{Parsed}
use Rattle.chunk_fields.specs.ChunkFields.{first_place}
use Rattle.tree.specs.Lists.{member, every_below}
use Rattle.tree.specs.Shape as shape
use Rattle.tree.specs.Shape.{Shape, is_listing, last_name, listing_chunk}
use Rattle.tree.specs.Chain.{chain_from, chain, linked, chain_ok}
use Rattle.tree.proofs.Chunks.{is_listing_lem}
use Rattle.entries.specs.Rising.{rising}
use Rattle.entries.specs.Stored.{Stored, stored_name}
use Rattle.fields.proofs.Lists.{All, more}
use Rattle.pack.specs.Levels.{group_name}
use Rattle.layout.specs.Layout.{new_previous, new_next}
use Rattle.roundtrip.proofs.Numbers.{numbers, in_numbers, all_members}
use Rattle.roundtrip.proofs.Stand.{as_leaf, Stand, placed_first, placed_last, rising_first}

-- ---- the numbers of the chunks before and behind

next_is : (m c : ℕ) → c + 1 < m → new_next m c ≡ c + 1
unfolding new_next
next_is m c h = rw (lt-ltb (c + 1) m h)

next_none : (m c : ℕ) → m ≤ c + 1 → new_next m c ≡ no_chunk
unfolding new_next
next_none m c h = rw (le-ltb (c + 1) m h)

prev_first : new_previous 0 ≡ no_chunk
unfolding new_previous
prev_first = refl

prev_is : (c : ℕ) → new_previous (c + 1) ≡ c
unfolding new_previous
prev_is c = let z : eqb (c + 1) 0 ≡ false = ne_eqb (c + 1) 0 (omega arith) in rw z (omega arith)

module _ (D : ℕ → Parsed) (H : Shape) (m : ℕ) (room : m ≤ H.count) (small : m ≤ 4096) (end : H.last ≡ m - 1) where
  -- from chunk c on, over n chunks at most
  run : (n p c : ℕ) (last : List ℕ) (g : List Stored) (gs : List (List Stored)) → suc (length gs) ≤ n → c + suc (length gs) ≡ m → new_previous c ≡ p
      → rising stored_name last (flatten (g ∷ gs)) ≡ true → All (λ x. 0 < length x) (g ∷ gs) → Stand D (as_leaf m) c (g ∷ gs)
      → (chain_from D n c ≡ numbers c (suc (length gs))) × (linked D H n p c ≡ true)
  unfolding chain_from linked numbers flatten
  run zero p c last g gs f l q r a s = absurd (omega arith)
  run (suc n) p c last g [] f l q r a s =
      let k : listing_chunk D H c ≡ true = is_listing_lem D H c (omega arith) ∙ ap is_listing s.0 in
      let x : shape.next_of (D c) ≡ no_chunk = ap shape.next_of s.0 ∙ next_none m c (omega arith) in
      let v : shape.previous_of (D c) ≡ p = ap shape.previous_of s.0 ∙ q in
      (rw x, rw (k, v, eq-eqb p p refl, x) (eq-eqb c H.last (omega arith)))
  run (suc n) p c last g (h ∷ gs) f l q r (more a (more b as')) s =
      let k : listing_chunk D H c ≡ true = is_listing_lem D H c (omega arith) ∙ ap is_listing s.0 in
      let x : shape.next_of (D c) ≡ c + 1 = ap shape.next_of s.0 ∙ next_is m c (omega arith) in
      let v : shape.previous_of (D c) ≡ p = ap shape.previous_of s.0 ∙ q in
      let z : eqb (c + 1) no_chunk ≡ false = ne_eqb (c + 1) no_chunk (omega arith) in
      let t : rising stored_name (last_name (D c)) (flatten (h ∷ gs)) ≡ true = rw s.0 (placed_last Listing (first_place Listing) last g (flatten (h ∷ gs)) a r) in
      let y : shape.first_name (D (c + 1)) ≡ group_name h = rw s.1.0 (placed_first Listing (first_place Listing) h) in
      let b' : below (last_name (D c)) (shape.first_name (D (c + 1))) ≡ true = rw y (rising_first (last_name (D c)) h (flatten gs) b t) in
      let w = run n c (c + 1) (last_name (D c)) h gs (omega arith) (omega arith) (prev_is c) t (more b as') s.1 in
      (rw (x, z, w.0), rw (k, v, eq-eqb p p refl, x, z, b', w.1))

-- ---- all listing chunks

pub record Chained (D : ℕ → Parsed) (H : Shape) (m : ℕ) : Type 0 where
  pub is : chain D H ≡ numbers 0 m
  pub passes : chain_ok D H ≡ true

pub chained : (D : ℕ → Parsed) (H : Shape) (gs : List (List Stored)) → length gs ≤ H.count → length gs ≤ 4096 → H.first ≡ 0 → H.last ≡ length gs - 1
    → 0 < length gs → rising stored_name [] (flatten gs) ≡ true → All (λ g. 0 < length g) gs → Stand D (as_leaf (length gs)) 0 gs
    → ((c : ℕ) → c < H.count → is_listing (D c) ≡ true → c < length gs) → Chained D H (length gs)
unfolding chain chain_ok
chained D H [] room small begin end some order full s kinds = absurd (omega arith)
chained D H (g ∷ gs) room small begin end some order full s kinds =
    let m : ℕ = suc (length gs) in
    let r = run D H m room small end H.count no_chunk 0 [] g gs room (omega arith) prev_first order full s in
    let e : chain_from D H.count H.first ≡ numbers 0 m = rw begin r.0 in
    let l : linked D H H.count no_chunk H.first ≡ true = subst (λ (c : ℕ). linked D H H.count no_chunk c ≡ true) (sym begin) r.1 in
    let a : every_below H.count (λ c. not (is_listing (D c)) || member c (numbers 0 m)) ≡ true
    = all_members H.count (λ c. is_listing (D c)) (numbers 0 m) (λ c h t. in_numbers 0 m c (omega arith) (omega (arith, kinds c h t))) in
    record { is = e; passes = rw (l, e, a) }
