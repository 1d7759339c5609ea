-- Chunks that pass their own check are what chain and tree ask of chunks: `good_chunks`.
use Rattle.fields.proofs.Base.{◌≡◌, refl, true, List, [], ℕ, ◌-◌, ◌<◌, arith, length}
use Rattle.fields.proofs.Tests.{never}
use Rattle.entries.specs.declared.Limits.{Limits}
use Rattle.entries.specs.declared.Kind.{Kind}
use Rattle.entries.specs.declared.Kind.TheVariants.{Listing, Index}
use Rattle.entries.specs.Rising.{rising}
use Rattle.chunk.specs.Chunk.{Parsed, bad, listing, index, parsed, entries_in, is_kind, is_good}
use Rattle.entries.specs.Entry.{entry_name}
use Rattle.chunk_fields.specs.ChunkFields.{first_place, entry_count, tail_length}
use Rattle.chunk.proofs.Accepted.{chunk_accepted, entries_count}
use Rattle.tree.specs.Shape.{Shape, GoodChunks}

kind_of_lem : (p : Parsed) → is_good p ≡ true → (k : Kind) × (is_kind k p ≡ true)
kind_of_lem (bad n) h = never h
kind_of_lem (listing a b es) h = (Listing, refl)
kind_of_lem (index es) h = (Index, refl)

parsed_good : (limits : Limits) (s : List ℕ) → is_good (parsed limits s) ≡ true
    → (0 < length (entries_in (parsed limits s))) × (rising entry_name [] (entries_in (parsed limits s)) ≡ true)
parsed_good limits s h =
    let k = kind_of_lem (parsed limits s) h in
    let g = chunk_accepted limits k.0 s k.1 in
    let n = entries_count limits k.0 s (4096 - tail_length s) (entry_count s) (first_place k.0) (entries_in (parsed limits s)) g.entries in
    let c = g.some in
    (omega arith, g.rises)

-- `bytes` gives each chunk number the bytes of that chunk
pub good_chunks : (limits : Limits) (bytes : ℕ → List ℕ) (H : Shape)
    → ((c : ℕ) → c < H.count → is_good (parsed limits (bytes c)) ≡ true) → GoodChunks (λ c. parsed limits (bytes c)) H
good_chunks limits bytes H h = record {
  good = h;
  some = λ c l. (parsed_good limits (bytes c) (h c l)).0;
  rises = λ c l. (parsed_good limits (bytes c) (h c l)).1;
}
