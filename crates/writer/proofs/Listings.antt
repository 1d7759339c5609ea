-- The loop that reads the input: before each entry (`Reading`), and what a turn leaves. The next entry is at `here`, and `left` may be taken; `last`
-- is the name before it, and f has the chunks so far.
use Rattle.fields.proofs.Base.{◌≡◌, refl, sym, ap, ◌∙◌, Bool, true, false, cond, ◌&&◌, List, [], ◌∷◌, map, ℕ, ◌+◌, ◌-◌, ◌*◌, ◌^◌, ◌≤◌, ◌<◌, arith, add-one, length, take, set, length-set, sets, eqb, lt-leb, eq-eqb, ne_eqb, Some}
use Rattle.fields.proofs.Tests.{and_no}
use Rattle.names.specs.Names.{below}
use Rattle.entries.specs.Entry.{listing_at, name_of}
use Rattle.entries.specs.declared.Place.{Place}
use Rattle.entries.specs.declared.Kind.TheVariants.{Listing}
use Rattle.chunk_fields.specs.ChunkFields.{first_place, quick_count}
use Rattle.entries.proofs.Laws.{listing_inside}
use Rattle.entries.specs.Stored.{stored_of, entry_bytes, unpadded}
use Rattle.source.specs.Source.{item_from, rows_from}
use Rattle.source.specs.Input.{input_right}
use Rattle.source.proofs.Rows.{run_more}
use Rattle.source.proofs.Inputs.{passes, ahead, passes_start, passes_end, passes_more}
use Rattle.pack.specs.Groups.{fits, taken}
use Rattle.pack.specs.Fill.{row_size}
use Rattle.pack.specs.Starts.{chunks_from, first_at}
use Rattle.pack.proofs.Groups.{later, later_none, later_first, later_fits, later_full}
use Rattle.pack.proofs.Sizes.{row_short, row_long, row_bytes}
use Rattle.pack.proofs.Filling.{fits_small}
use Rattle.writer.specs.Plan.{Next, open_with, starts_with, ListingLevel}
use Rattle.writer.specs.declared.Open.{Open}

module _ (content : ℕ) (s : List ℕ) (n : ℕ) (starts₀ : List ℕ) where
  abbrev rows : ℕ → ℕ → List Place
  rows left at = rows_from content s [] Listing left at

  -- the chunks that begin behind those so far
  abbrev coming : Open → ℕ → ℕ → List (List Place)
  coming f left at = later (row_size Listing) (fits Listing n) f.count f.bytes (rows left at)

  abbrev all : List (List Place)
  all = chunks_from content s [] Listing n (length s) 0

  pub record Reading (starts : List ℕ) (left here : ℕ) (last : List ℕ) (f : Open) : Type 0 where
    pub kept : length starts ≡ length starts₀
    pub small : f.bytes ≤ 4096
    pub counted : f.count ≤ f.bytes
    pub numbered : f.chunks + left ≤ length s
    pub right : passes s here last (ahead content s left here) ≡ input_right content s
    pub rest : f.chunks + length (coming f left here) ≡ length all
    pub whole : sets starts f.chunks (map first_at (coming f left here)) ≡ sets starts₀ 0 (map first_at all)

  -- behind a full chunk nothing fits
  none_fits : (e : Place) → fits Listing n (0 + 1) (4096 + row_size Listing e) ≡ false
  none_fits e =
      let l : 4096 < first_place Listing + (4096 + row_size Listing e) + (2 * quick_count n (0 + 1) + 2) = omega arith in
      lt-leb _ _ l

  all_coming : later (row_size Listing) (fits Listing n) 0 4096 (rows (length s) 0) ≡ all
  unfolding chunks_from
  all_coming = later_first (row_size Listing) (fits Listing n) 0 4096 (rows (length s) 0) none_fits

  pub reading_start : (length s ≡ 0 → ⊥) → Reading starts₀ (length s) 0 [] (record { chunks = 0; count = 0; bytes = 4096 })
  reading_start h =
      record {
        kept = refl;
        small = omega arith;
        counted = omega arith;
        numbered = omega arith;
        right = passes_start content s (λ e. h (sym e));
        rest = omega (arith, ap length all_coming);
        whole = ap (λ (gs : List (List Place)). sets starts₀ 0 (map first_at gs)) all_coming;
      }

  module _ (starts : List ℕ) (left here : ℕ) (last : List ℕ) (f : Open) (p : Reading starts left here last f) where
    module _ (q : ahead content s left here ≡ []) where
      none_coming : coming f left here ≡ []
      unfolding item_from
      none_coming = ap (later (row_size Listing) (fits Listing n) f.count f.bytes) q ∙ later_none (row_size Listing) (fits Listing n) f.count f.bytes

      right_here : input_right content s ≡ eqb here (length s)
      right_here = sym p.right ∙ passes_end content s left here last q

      pub reading_end : here ≡ length s → ListingLevel content s n starts₀ starts f.chunks
      reading_end h =
          record {
            right = right_here ∙ eq-eqb here (length s) h;
            count = omega (arith, ap length none_coming, p.rest);
            places = ap (λ (gs : List (List Place)). sets starts f.chunks (map first_at gs)) (sym none_coming) ∙ p.whole;
          }

      pub reading_short : (here ≡ length s → ⊥) → input_right content s ≡ false
      reading_short h = right_here ∙ ne_eqb here (length s) h

    module _ (e : Place) (some : 0 < left) (q : listing_at content s here ≡ Some e) where
      right_entry : input_right content s ≡ (unpadded s e && (below last (name_of s e) && passes s e.next (name_of s e) (ahead content s (left - 1) e.next)))
      right_entry = sym p.right ∙ passes_more content s left here last e some q

      -- the size of what is written for it
      written_size : length (entry_bytes Listing (stored_of s e)) ≡ row_size Listing e
      written_size = row_bytes Listing s e (listing_inside content s here e q).name

      pub reading_padded : (size : ℕ) → size ≡ row_size Listing e → (e.next - e.at ≡ size → ⊥) → input_right content s ≡ false
      reading_padded size z h =
          let n : ℕ = length (entry_bytes Listing (stored_of s e)) in
          let u : unpadded s e ≡ false = ne_eqb e.next (e.at + n) (λ (k : e.next ≡ e.at + n). h (omega (arith, written_size))) in
          rw u at right_entry

      short_entry : (size : ℕ) → size ≡ row_size Listing e → e.next - e.at ≡ size → unpadded s e ≡ true
      short_entry size z h = eq-eqb e.next (e.at + length (entry_bytes Listing (stored_of s e))) (omega (arith, written_size, (listing_inside content s here e q).moves, (listing_inside content s here e q).same))

      pub reading_falls : below last (name_of s e) ≡ false → input_right content s ≡ false
      reading_falls h = rw (h, and_no) at right_entry

      pub reading_next : length s < 2 ^ 64 → (size : ℕ) → size ≡ row_size Listing e → Next f e size
      reading_next l size z =
          let g = listing_inside content s here e q in
          record {
            sized = z;
            short = g.short;
            small = p.small;
            counted = p.counted;
            numbered = omega (arith, p.numbered);
          }

      row_coming : rows left here ≡ e ∷ rows (left - 1) e.next
      unfolding item_from
      row_coming = run_more (item_from content s [] Listing) left here e some q

      module _ (size : ℕ) (z₁ : size ≡ row_size Listing e) (z₂ : e.next - e.at ≡ size) (h : below last (name_of s e) ≡ true) where
        right_on : passes s e.next (name_of s e) (ahead content s (left - 1) e.next) ≡ input_right content s
        right_on = sym (rw (short_entry size z₁ z₂, h) at right_entry)

        -- by whether it fits
        turn : (t : Bool) → fits Listing n (f.count + 1) (f.bytes + row_size Listing e) ≡ t
            → Reading (cond t starts (set starts f.chunks e.at)) (left - 1) e.next (name_of s e)
            (cond t (record { chunks = f.chunks; count = f.count + 1; bytes = f.bytes + row_size Listing e }) (record { chunks = f.chunks + 1; count = 1; bytes = row_size Listing e }))
        unfolding first_at
        turn true z =
            let g = listing_inside content s here e q in
            let x : Open = record { chunks = f.chunks; count = f.count + 1; bytes = f.bytes + row_size Listing e } in
            let a : coming f left here ≡ coming x (left - 1) e.next =
            ap (later (row_size Listing) (fits Listing n) f.count f.bytes) row_coming ∙ later_fits (row_size Listing) (fits Listing n) f.count f.bytes e (rows (left - 1) e.next) z in
            record {
              kept = p.kept;
              small = omega (arith, fits_small Listing n (f.count + 1) (f.bytes + row_size Listing e) z);
              counted = omega (arith, p.counted, row_long Listing e, g.some);
              numbered = omega (arith, p.numbered);
              right = right_on;
              rest = omega (arith, ap length a, p.rest);
              whole = ap (λ (gs : List (List Place)). sets starts f.chunks (map first_at gs)) (sym a) ∙ p.whole;
            }
        turn false z =
            let g = listing_inside content s here e q in
            let x : Open = record { chunks = f.chunks + 1; count = 1; bytes = row_size Listing e } in
            let first : List Place = e ∷ take (taken (row_size Listing) (fits Listing n) 1 (row_size Listing e) (rows (left - 1) e.next)) (rows (left - 1) e.next) in
            let a : coming f left here ≡ first ∷ coming x (left - 1) e.next =
            ap (later (row_size Listing) (fits Listing n) f.count f.bytes) row_coming ∙ later_full (row_size Listing) (fits Listing n) f.count f.bytes e (rows (left - 1) e.next) z in
            record {
              kept = length-set starts f.chunks e.at ∙ p.kept;
              small = omega (arith, row_short Listing e g.short);
              counted = omega (arith, row_long Listing e, g.some);
              numbered = omega (arith, p.numbered);
              right = right_on;
              rest = omega (arith, ap length a, p.rest);
              whole =
                  ap (λ (i : ℕ). sets (set starts f.chunks e.at) i (map first_at (coming x (left - 1) e.next))) (add-one f.chunks)
                  ∙ ap (λ (gs : List (List Place)). sets starts f.chunks (map first_at gs)) (sym a)
                  ∙ p.whole;
            }

        pub reading_turn : (x : Open) (after : List ℕ) → x ≡ open_with n f e → after ≡ starts_with n f e starts → Reading after (left - 1) e.next (name_of s e) x
        unfolding open_with starts_with
        reading_turn x after i w = rw (i, w) (turn _ refl)

-- ---- one entry more, by a call that measures it and one that tests whether it fits

module _ (n : ℕ) (f : Open) (e : Place) (starts : List ℕ) (size : ℕ) (z : size ≡ row_size Listing e) (t : Bool) (w : t ≡ fits Listing n (f.count + 1) (f.bytes + size)) where
  fits_is : (u : Bool) → t ≡ u → fits Listing n (f.count + 1) (f.bytes + row_size Listing e) ≡ u
  fits_is u h = ap (λ (i : ℕ). fits Listing n (f.count + 1) (f.bytes + i)) (sym z) ∙ sym w ∙ h

  pub added_here : t ≡ true
      → (record { chunks = f.chunks; count = f.count + 1; bytes = f.bytes + size } ≡ open_with n f e) × (starts ≡ starts_with n f e starts)
  unfolding open_with starts_with
  added_here h = (rw (fits_is true h, z), rw (fits_is true h))

  pub added_next : t ≡ false → (after : List ℕ) → after ≡ set starts f.chunks e.at
      → (record { chunks = f.chunks + 1; count = 1; bytes = size } ≡ open_with n f e) × (after ≡ starts_with n f e starts)
  unfolding open_with starts_with
  added_next h after i = (rw (fits_is false h, z), rw (fits_is false h) i)
