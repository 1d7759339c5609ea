-- The loop that writes the index levels: before each level (`Indexing`), and what a turn leaves. The highest level so far has the chunks gs,
-- numbered from base up to end.
use Rattle.fields.proofs.Base.{◌≡◌, refl, sym, ap, subst, ◌∙◌, List, [], ◌∷◌, ◌++◌, map, flatten, ℕ, ◌+◌, ◌-◌, ◌*◌, ◌≤◌, ◌<◌, arith, length, take, sets}
use Rattle.fields.specs.Part.{part}
use Rattle.put.proofs.Put.{sets_after}
use Rattle.entries.specs.declared.Kind.TheVariants.{Index}
use Rattle.entries.specs.Stored.{Stored, stored_of}
use Rattle.pack.specs.Groups.{fits}
use Rattle.pack.specs.Levels.{entry_size, children_of, levels_above}
use Rattle.pack.specs.Starts.{chunks_from, Starts, AllStarts}
use Rattle.pack.proofs.Groups.{groups_some}
use Rattle.pack.proofs.Above.{upper, above_none, length_children}
use Rattle.layout.specs.Layout.{Layout, layout_over, chunk_count, chunks_of}
use Rattle.writer.specs.Plan.{LevelFits, IndexFits, index_of}
use Rattle.fields.proofs.Lists.{flatten_append}
use Rattle.writer.proofs.Lengths.{chunks_append, length_level}
use Rattle.writer.proofs.Shaping.{upper_is, upper_count, next_level, above_count}

first_level : (s starts : List ℕ) (c : ℕ) (gs : List (List Stored)) (ls : List (List (List Stored))) → AllStarts s starts c (gs ∷ ls) → Starts s (part starts c (length gs)) gs
first_level s starts c gs ls (AllStarts.level p ps) = p

other_levels : (s starts : List ℕ) (c : ℕ) (gs : List (List Stored)) (ls : List (List (List Stored))) → AllStarts s starts c (gs ∷ ls) → AllStarts s starts (c + length gs) ls
other_levels s starts c gs ls (AllStarts.level p ps) = ps

module _ (content : ℕ) (s starts : List ℕ) (n m : ℕ) (leaves : List (List Stored)) (out₀ : List ℕ) where
  abbrev l : Layout
  l = layout_over n leaves

  pub record Indexing (out : List ℕ) (base end : ℕ) : Type 0 where
    pub gs : List (List Stored)
    pub depth : ℕ
    pub size : base + length gs ≡ end
    pub some : 0 < length gs
    pub kept : length out ≡ length out₀
    pub named : AllStarts s starts base (gs ∷ levels_above n (6 - depth) base gs)
    pub count : end + length (flatten (levels_above n (6 - depth) base gs)) ≡ chunk_count l
    pub deep : depth + length (levels_above n (6 - depth) base gs) ≤ 5
    pub whole :
        sets out (204 + 4096 * end) (flatten (chunks_of Index n m end (flatten (levels_above n (6 - depth) base gs))))
        ≡ sets out₀ (204 + 4096 * m) (flatten (index_of n m l))

  pub indexing_start : IndexFits s starts l m (length out₀) → 0 < m → Indexing out₀ 0 m
  unfolding layout_over
  indexing_start f h =
      let e = f.listings in
      record {
        gs = leaves;
        depth = 1;
        size = omega arith;
        some = omega arith;
        kept = refl;
        named = f.named;
        count = omega arith;
        deep = f.flat;
        whole = refl;
      }

  module _ (f : IndexFits s starts l m (length out₀)) (out : List ℕ) (base end : ℕ) (p : Indexing out base end) where
    pub indexing_end : end - base ≤ 1 → out ≡ sets out₀ (204 + 4096 * m) (flatten (index_of n m l))
    unfolding flatten chunks_of
    indexing_end h =
        let z : levels_above n (6 - p.depth) base p.gs ≡ [] = above_none n (6 - p.depth) base p.gs (omega (arith, p.size)) in
        ap (λ (l : List (List (List Stored))). sets out (204 + 4096 * end) (flatten (chunks_of Index n m end (flatten l)))) (sym z) ∙ p.whole

    module _ (more : 1 < end - base) where
      abbrev up : List (List Stored)
      up = upper n 0 base p.gs

      abbrev others : List (List (List Stored))
      others = levels_above n (6 - (p.depth + 1)) end up

      low : p.depth ≤ 5
      low = omega (arith, p.deep)

      level_above : levels_above n (6 - p.depth) base p.gs ≡ up ∷ others
      level_above = next_level n p.depth base end p.gs p.size low more

      named_here : Starts s (part starts base (length p.gs)) p.gs
      named_here = first_level s starts base p.gs (levels_above n (6 - p.depth) base p.gs) p.named

      count_above : length (flatten (levels_above n (6 - p.depth) base p.gs)) ≡ length up + length (flatten others)
      count_above = above_count n p.depth base end p.gs p.size low more

      in_starts : end ≤ length starts
      in_starts = omega (arith, p.count, f.small, f.known)

      up_count : length (chunks_from content s (take end starts) Index n (end - base) base) ≡ length up
      up_count = upper_count content s n starts base end p.gs p.size in_starts named_here

      pub indexing_room : LevelFits content s starts Index n (end - base) base end (length out)
      indexing_room =
          record {
            known = in_starts;
            few = omega (arith, up_count, count_above, p.count, f.small);
            enough = omega (arith, up_count, count_above, p.count, f.enough, p.kept);
          }

      -- the level has a chunk
      pub indexing_some : (next : ℕ) → next ≡ end + length (chunks_from content s (take end starts) Index n (end - base) base) → (end < next) × (next ≤ 4096)
      indexing_some next e =
          let g = groups_some (entry_size Index) (fits Index n) (children_of base p.gs) (omega (arith, length_children base p.gs, p.some)) in
          (omega (arith, up_count), omega (arith, up_count, count_above, p.count, f.small))

      pub indexing_turn : (after : List ℕ) (next : ℕ) → length after ≡ length out → next ≡ end + length (chunks_from content s (take end starts) Index n (end - base) base)
          → after ≡ sets out (204 + 4096 * end) (flatten (chunks_of Index n m end (map (map (stored_of s)) (chunks_from content s (take end starts) Index n (end - base) base))))
          → Indexing after end next
      unfolding flatten
      indexing_turn after next l e w =
          let L = chunks_from content s (take end starts) Index n (end - base) base in
          let ui = upper_is content s n starts base end p.gs p.size in_starts named_here in
          let uc = up_count in
          let g = groups_some (entry_size Index) (fits Index n) (children_of base p.gs) (omega (arith, length_children base p.gs, p.some)) in
          let sz : end + length up ≡ next = omega arith in
          let here = flatten (chunks_of Index n m end up) in
          let lh : length here ≡ 4096 * length up =
          ap (λ (y : List (List Stored)). length (flatten (chunks_of Index n m end y))) (sym ui) ∙ length_level Index n m s content (take end starts) (end - base) base end ∙ ap (λ (j : ℕ). 4096 * j) uc in
          let there = flatten (chunks_of Index n m next (flatten others)) in
          let place : 204 + 4096 * next ≡ 204 + 4096 * end + length here = omega arith in
          let both : here ++ there ≡ flatten (chunks_of Index n m end (flatten (levels_above n (6 - p.depth) base p.gs))) =
          sym (ap (λ (y : List (List (List Stored))). flatten (chunks_of Index n m end (flatten y))) level_above
          ∙ ap flatten (chunks_append Index n m end up (flatten others))
          ∙ flatten_append (chunks_of Index n m end up) (chunks_of Index n m (end + length up) (flatten others))
          ∙ ap (λ (j : ℕ). here ++ flatten (chunks_of Index n m j (flatten others))) sz) in
          record {
            gs = up;
            depth = p.depth + 1;
            size = sz;
            some = g;
            kept = l ∙ p.kept;
            named =
                subst (λ (j : ℕ). AllStarts s starts j (up ∷ others)) p.size
                (subst (AllStarts s starts (base + length p.gs)) level_above (other_levels s starts base p.gs (levels_above n (6 - p.depth) base p.gs) p.named));
            count = omega (arith, count_above, p.count);
            deep = omega (arith, ap length level_above, p.deep);
            whole =
                ap (λ (o : List ℕ). sets o (204 + 4096 * next) there) (w ∙ ap (λ (y : List (List Stored)). sets out (204 + 4096 * end) (flatten (chunks_of Index n m end y))) ui)
                ∙ ap (λ (j : ℕ). sets (sets out (204 + 4096 * end) here) j there) place
                ∙ sets_after out (204 + 4096 * end) here there
                ∙ ap (sets out (204 + 4096 * end)) both
                ∙ p.whole;
          }
