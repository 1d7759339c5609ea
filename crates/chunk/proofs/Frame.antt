-- A chunk of a known kind, over the numbers that were read; the spacing of a high density may be exchanged.
use Rattle.fields.proofs.Base.{◌≡◌, refl, List, cond, ◌&&◌, ℕ, ◌+◌, ◌-◌, ◌*◌, ◌≤◌, ◌<◌, min, arith, ltb, leb}
use Rattle.entries.specs.declared.Limits.{Limits}
use Rattle.entries.specs.declared.Kind.{Kind}
use Rattle.entries.specs.declared.Kind.TheVariants.{Listing, Index}
use Rattle.chunk.specs.Chunk.{Entries, broken, all, bad, entries_at, framed, checked_entries, parsed_as}
use Rattle.chunk_fields.specs.ChunkFields.{first_place, entry_count, quick_count, tail_length, spacing_of}
use Rattle.chunk.proofs.Accepted.{entries_count}
use Rattle.chunk.proofs.Quick.{Alike, quick_alike, capped}
use Rattle.refusals.specs.declared.Rule.TheVariants.{ChunkFrame}

pub head_small : (k : Kind) → first_place k ≤ 20
head_small Listing = omega arith
head_small Index = omega arith

pub framed_as : (limits : Limits) (k : Kind) (s : List ℕ) (n c q t h : ℕ) → c ≡ entry_count s → q ≡ quick_count n c → t ≡ tail_length s → h ≡ first_place k
    → parsed_as n limits k s ≡ cond (ltb 0 c && (leb (2 + 2 * q) t && leb t (4096 - h))) (checked_entries n k s (entries_at limits k s (4096 - t) c (first_place k))) (bad ChunkFrame)
unfolding parsed_as framed
framed_as limits k s n c q t h ec eq et eh = rw (eq, ec, et, eh) refl

module _ (n m : ℕ) (same : Alike n m) (limits : Limits) (k : Kind) (s : List ℕ) (small : entry_count s < 65536) where
  judged_alike : (end : ℕ) (r : Entries) → entries_at limits k s end (entry_count s) (first_place k) ≡ r → checked_entries n k s r ≡ checked_entries m k s r
  unfolding checked_entries
  judged_alike end broken e = refl
  judged_alike end (all es) e =
      let l = entries_count limits k s end (entry_count s) (first_place k) es e in
      rw (quick_alike n m same s (first_place k) 0 es (omega arith))

  pub parsed_alike : parsed_as n limits k s ≡ parsed_as m limits k s
  unfolding parsed_as framed
  parsed_alike =
      rw (same.words (entry_count s - 1) (omega arith), judged_alike (4096 - tail_length s) (entries_at limits k s (4096 - tail_length s) (entry_count s) (first_place k)) refl)

pub parsed_capped : (limits : Limits) (k : Kind) (s : List ℕ) → entry_count s < 65536
    → parsed_as (spacing_of (min limits.density 16)) limits k s ≡ parsed_as (spacing_of limits.density) limits k s
parsed_capped limits k s small = parsed_alike _ _ (capped limits.density) limits k s small
