-- The loop that writes the entries of a chunk: what holds where some are written (`Putting`), and what a turn finds and leaves.
use Rattle.fields.proofs.Base.{◌≡◌, refl, sym, ap, ap₂, ◌∙◌, List, [], ◌∷◌, ◌++◌, map, flat_map, ℕ, zero, suc, ◌+◌, ◌-◌, ◌*◌, ◌/◌, ◌≤◌, ◌<◌, arith, length, take, drop, replicate, length-append, length-drop, length-map, length-replicate, sets, None}
use lib.ListN.{replicate-append-replicate}
use Rattle.entries.specs.declared.Place.{Place}
use Rattle.entries.specs.declared.Kind.{Kind}
use Rattle.chunk_fields.specs.ChunkFields.{first_place, count_place, quick_place}
use Rattle.chunk.proofs.Frame.{head_small}
use Rattle.entries.specs.Stored.{Stored, stored_of, entry_bytes}
use Rattle.source.specs.Source.{item_from, rows_from}
use Rattle.source.proofs.Rows.{run_more}
use Rattle.pack.specs.Fill.{row_size, fit_of, extent_from}
use Rattle.pack.specs.declared.Extent.{Extent}
use Rattle.pack.proofs.Sizes.{row_bytes}
use Rattle.pack.proofs.Filling.{Fitted, full}
use Rattle.compose.specs.NewChunk.{run_bytes, entries_end}
use Rattle.compose.specs.Steps.{mark_bytes, group_from, entries_only}
use Rattle.compose.proofs.Composing.{run_next, partly, partly_start, partly_end, partly_turn}

-- ---- lists

module _ {A B : Type 0} (f : A → B) where
  map_take : (i : ℕ) (xs : List A) → map f (take i xs) ≡ take i (map f xs)
  map_take zero xs = refl
  map_take (suc i) [] = refl
  map_take (suc i) (x ∷ xs) = ap (λ (l : List B). f x ∷ l) (map_take i xs)

  map_drop : (i : ℕ) (xs : List A) → map f (drop i xs) ≡ drop i (map f xs)
  map_drop zero xs = refl
  map_drop (suc i) [] = refl
  map_drop (suc i) (x ∷ xs) = map_drop i xs

others_of : {A : Type 0} (i : ℕ) (xs : List A) (e : A) (rest : List A) → drop i xs ≡ e ∷ rest → drop (i + 1) xs ≡ rest
others_of zero [] e rest d = absurd (let z : ◌≡◌ {A = ℕ} 0 1 = cc in omega arith)
others_of zero (x ∷ xs) e rest d = cc
others_of (suc i) [] e rest d = absurd (let z : ◌≡◌ {A = ℕ} 0 1 = cc in omega arith)
others_of (suc i) (x ∷ xs) e rest d = let n : suc i + 1 ≡ suc (i + 1) = omega arith in ap (λ (j : ℕ). drop j (x ∷ xs)) n ∙ others_of i xs e rest d

-- a chunk of zeros
zeros : (m h : ℕ) → m ≡ 4096 → h ≤ 20 → replicate {A = ℕ} m 0 ≡ replicate h 0 ++ (replicate (count_place - h) 0 ++ replicate 2 0)
zeros m h whole small =
    let e : m ≡ h + (count_place - h + 2) = omega arith in
    ap (λ (j : ℕ). replicate {A = ℕ} j 0) e
    ∙ sym (replicate-append-replicate h (count_place - h + 2) 0)
    ∙ ap (λ (l : List ℕ). replicate h 0 ++ l) (sym (replicate-append-replicate (count_place - h) 2 0))

-- ---- the loop

module _ (content : ℕ) (s starts : List ℕ) (k : Kind) (all from n : ℕ) where
  abbrev rows : ℕ → ℕ → List Place
  rows left at = rows_from content s starts k left at

  -- all entries from the cursor on, whether they fit or not
  abbrev group : List Stored
  group = map (stored_of s) (rows all from)

  -- the chunk with i of them
  abbrev made : ℕ → List ℕ
  made i = partly k n (replicate (first_place k) 0) (replicate 2 0) group i

  -- what f says is taken, and it is written
  pub record Putting (out : List ℕ) (f : Extent) : Type 0 where
    pub few : f.count ≤ f.bytes
    pub there : f.count ≤ length (rows all from)
    pub others : rows f.left f.at ≡ drop f.count (rows all from)
    pub size : f.bytes ≡ length (run_bytes k (take f.count group))
    pub whole : extent_from k n f.count f.bytes f.at f.left (rows f.left f.at) ≡ extent_from k n 0 0 from all (rows all from)
    pub is : out ≡ made f.count

  pub putting_start : (out : List ℕ) → length out ≡ 4096 → out ≡ replicate (length out) 0 → Putting out (record { count = 0; bytes = 0; at = from; left = all })
  unfolding flat_map
  putting_start out l h =
      record {
        few = omega arith;
        there = omega arith;
        others = refl;
        size = refl;
        whole = refl;
        is = h ∙ zeros (length out) (first_place k) l (head_small k) ∙ partly_start k n (replicate (first_place k) 0) (replicate 2 0) group;
      }

  module _ (out : List ℕ) (f : Extent) (p : Putting out f) where
    pub putting_end : fit_of k n f.count f.bytes (rows f.left f.at) ≡ None
        → (f ≡ extent_from k n 0 0 from all (rows all from)) × (out ≡ entries_only k n (group_from content s starts k all from f.count))
    putting_end h =
        let l : f.count ≤ length group = omega (arith, p.there, length-map (rows all from) (stored_of s)) in (
          sym (full content s starts k n f.count f.bytes f.left f.at h) ∙ p.whole,
          p.is ∙ partly_end k n (replicate (first_place k) 0) (replicate 2 0) group f.count l ∙ ap (entries_only k n) (sym (map_take (stored_of s) f.count (rows all from))),
        )

    module _ (e : Place) (m : ℕ) (t : Fitted content s starts k n f.count f.bytes f.left f.at e m) where
      abbrev i : ℕ
      i = f.count

      next_row : drop i (rows all from) ≡ e ∷ rows (f.left - 1) e.next
      next_row = sym p.others ∙ run_more (item_from content s starts k) f.left f.at e t.some t.here

      next_entry : drop i group ≡ stored_of s e ∷ map (stored_of s) (rows (f.left - 1) e.next)
      next_entry = sym (map_drop (stored_of s) i (rows all from)) ∙ ap (map (stored_of s)) next_row

      -- with the entry
      next_size : m ≡ length (run_bytes k (take (i + 1) group))
      next_size =
          let x = entry_bytes k (stored_of s e) in
          omega (
            arith,
            t.bytes,
            p.size,
            row_bytes k s e t.inside,
            ap length (run_next k i group (stored_of s e) (map (stored_of s) (rows (f.left - 1) e.next)) next_entry),
            length-append (run_bytes k (take i group)) x,
          )

      pub record Turn : Type 0 where
        pub fits : first_place k + f.bytes + row_size k e ≤ 4096
        pub near : f.bytes < 4096
        pub words : 2 * (i / n) ≤ count_place

      pub putting_turn : Turn
      putting_turn =
          let z : i + 1 - 1 ≡ i = omega arith in
          record {
            fits = omega (arith, t.room, t.bytes);
            near = omega (arith, t.room, t.more);
            words = omega (arith, t.room, ap (λ (j : ℕ). j / n) z);
          }

      pub putting_more : (first : ℕ) (o₁ o₂ : List ℕ) → first ≡ first_place k → o₁ ≡ sets out (first + f.bytes) (entry_bytes k (stored_of s e))
          → o₂ ≡ sets o₁ (quick_place (i / n)) (mark_bytes n i f.bytes) → Putting o₂ (record { count = i + 1; bytes = m; at = e.next; left = f.left - 1 })
      putting_more first o₁ o₂ h w₁ w₂ =
          record {
            few = omega (arith, p.few, t.more);
            there = omega (arith, length-drop i (rows all from), ap length next_row);
            others = sym (others_of i (rows all from) e (rows (f.left - 1) e.next) next_row);
            size = next_size;
            whole = t.turn ∙ p.whole;
            is =
                w₂
                ∙ ap (λ (o : List ℕ). sets o (quick_place (i / n)) (mark_bytes n i f.bytes)) w₁
                ∙ ap₂ (λ (o : List ℕ) (a : ℕ). sets (sets o a (entry_bytes k (stored_of s e))) (quick_place (i / n)) (mark_bytes n i f.bytes)) p.is (ap₂ ◌+◌ h p.size)
                ∙ ap (λ (b : ℕ). sets (sets (made i) (entries_end k (take i group)) (entry_bytes k (stored_of s e))) (quick_place (i / n)) (mark_bytes n i b)) p.size
                ∙ partly_turn k n (replicate (first_place k) 0) (replicate 2 0) group (length-replicate (first_place k) 0) i (stored_of s e) (map (stored_of s) (rows (f.left - 1) e.next)) next_entry (omega (arith, t.room, next_size));
          }
