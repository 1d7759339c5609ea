-- The loop that writes one level: before each chunk (`Leveled`), and what a turn leaves. The cursor is at `here` with
-- `left` that may be taken, and chunk j comes next; at first it was at `base` with `all`.
use Rattle.fields.proofs.Base.{◌≡◌, refl, sym, ap, ◌∙◌, List, [], map, flatten, ℕ, ◌+◌, ◌*◌, ◌≤◌, ◌<◌, arith, length, take, sets, Some}
use Rattle.put.proofs.Put.{sets_after}
use Rattle.entries.specs.declared.Place.{Place}
use Rattle.entries.specs.declared.Kind.{Kind}
use Rattle.entries.specs.Stored.{stored_of}
use Rattle.source.specs.Source.{item_from, rows_from}
use Rattle.pack.specs.Fill.{extent_from}
use Rattle.pack.specs.Starts.{chunks_from}
use Rattle.pack.specs.declared.Extent.{Extent}
use Rattle.pack.proofs.Levels.{chunks_none, chunks_more}
use Rattle.compose.specs.NewChunk.{new_chunk}
use Rattle.compose.specs.Steps.{group_from}
use Rattle.compose.proofs.Whole.{length_extent}
use Rattle.layout.specs.Layout.{new_previous, new_next, chunks_of}
use Rattle.writer.specs.Plan.{LevelFits}

module _ (content : ℕ) (s starts : List ℕ) (k : Kind) (n m all base end : ℕ) (out₀ : List ℕ) where
  -- the chunks from a cursor on
  abbrev coming : ℕ → ℕ → List (List Place)
  coming left at = chunks_from content s (take end starts) k n left at

  abbrev bytes_of : ℕ → List (List Place) → List ℕ
  bytes_of j gs = flatten (chunks_of k n m j (map (map (stored_of s)) gs))

  pub record Leveled (out : List ℕ) (left here j : ℕ) : Type 0 where
    pub kept : length out ≡ length out₀
    pub rest : j + length (coming left here) ≡ end + length (coming all base)
    pub whole : sets out (204 + 4096 * j) (bytes_of j (coming left here)) ≡ sets out₀ (204 + 4096 * end) (bytes_of end (coming all base))

  module _ (out : List ℕ) (left here j : ℕ) (p : Leveled out left here j) where
    pub leveled_end : rows_from content s (take end starts) k left here ≡ []
        → (j ≡ end + length (coming all base)) × (out ≡ sets out₀ (204 + 4096 * end) (bytes_of end (coming all base)))
    unfolding chunks_of flatten
    leveled_end q =
        let z = chunks_none content s (take end starts) k n left here q in
        (omega (arith, ap length z, p.rest), ap (λ (gs : List (List Place)). sets out (204 + 4096 * j) (bytes_of j gs)) (sym z) ∙ p.whole)

    module _ (e : Place) (some : 0 < left) (q : item_from content s (take end starts) k here ≡ Some e) where
      -- one chunk more has room
      pub leveled_room : LevelFits content s starts k n all base end (length out₀) → (204 + 4096 * (j + 1) ≤ length out) × (j < 4096)
      leveled_room f =
          let m = chunks_more content s (take end starts) k n left here e (extent_from k n 0 0 here left (rows_from content s (take end starts) k left here)) some q refl in
          (omega (arith, ap length m.chunks, p.rest, p.kept, f.enough), omega (arith, ap length m.chunks, p.rest, f.few))

      pub leveled_turn : (f : Extent) (after : List ℕ) → f ≡ extent_from k n 0 0 here left (rows_from content s (take end starts) k left here)
          → after ≡ sets out (204 + 4096 * j) (new_chunk k n (new_previous j) (new_next m j) (group_from content s (take end starts) k left here f.count))
          → length after ≡ length out → Leveled after f.left f.at (j + 1)
      unfolding chunks_of flatten
      leveled_turn f after is w l =
          let c = chunks_more content s (take end starts) k n left here e f some q is in
          let g = new_chunk k n (new_previous j) (new_next m j) (group_from content s (take end starts) k left here f.count) in
          let lg : length g ≡ 4096 = length_extent content s (take end starts) k left here n f is (new_previous j) (new_next m j) in
          let place : 204 + 4096 * (j + 1) ≡ 204 + 4096 * j + length g = omega arith in
          let more = bytes_of (j + 1) (coming f.left f.at) in
          record {
            kept = l ∙ p.kept;
            rest = omega (arith, ap length c.chunks, p.rest);
            whole =
                ap (λ (o : List ℕ). sets o (204 + 4096 * (j + 1)) more) w
                ∙ ap (λ (i : ℕ). sets (sets out (204 + 4096 * j) g) i more) place
                ∙ sets_after out (204 + 4096 * j) g more
                ∙ ap (λ (gs : List (List Place)). sets out (204 + 4096 * j) (bytes_of j gs)) (sym c.chunks)
                ∙ p.whole;
          }
