-- A file as a directory: where its chunks stand, and what they mean, by the numbers of a record. The record may be made up; a chunk that does
-- not lie wholly inside the file has no bytes, and so is no chunk (FORMAT D19, F16, K2, K13).
use Rattle.std.specs.Prelude.{ℕ, ◌+◌, ◌-◌, ◌*◌, Bool, cond, ◌&&◌, List, length, ltb, leb, Result, Err}
use Rattle.fields.specs.Part.{part_of}
use Rattle.entries.specs.declared.Limits.{Limits}
use Rattle.chunk.specs.Chunk.{Parsed, parsed}
use Rattle.chunk.specs.Answer.{chunk_of}
use Rattle.chunk.specs.declared.Chunk.{Chunk}
use Rattle.directory_header.specs.DirectoryHeader.{within}
use Rattle.header.specs.declared.Record.{Record}
use Rattle.tree.specs.Shape.{Shape}
use Rattle.refusals.specs.declared.Rule.TheVariants.{BadRecord}
use Rattle.refusals.specs.declared.Rule.{Rule}

-- what the chunks are held to
unfoldable pub limits_of : List ℕ → Record → Limits
limits_of s r = record { density = r.density; count = r.count; content = length s - r.content }

-- the place of chunk c in the file
abbrev pub chunk_place : Record → ℕ → ℕ
chunk_place r c = r.start + 84 + 4096 * c

-- its 4,096 bytes; none where they do not lie inside the file
unfoldable pub chunk_bytes : List ℕ → Record → ℕ → List ℕ
chunk_bytes s r c = part_of s (chunk_place r c) 4096

-- the directory: what each chunk number means
unfoldable pub directory_of : List ℕ → Record → ℕ → Parsed
directory_of s r c = parsed (limits_of s r) (chunk_bytes s r c)

-- what the record says of chain and tree
abbrev pub shape_of : Record → Shape
shape_of r = record { count = r.count; depth = r.depth; root = r.root; first = r.first; last = r.last }

-- a record that can be asked, also a made-up one (K12)
unfoldable pub record_fits : List ℕ → Record → Bool
record_fits s r = leb r.density 7 && (within 1 5 r.depth && (within 1 4096 r.count && leb r.content (length s)))

-- what chunk number c leads to: a chunk below the count, or refusal 17 (K13)
unfoldable pub checked_chunk : List ℕ → Record → ℕ → Result Chunk Rule
checked_chunk s r c = cond (ltb c r.count) (chunk_of (directory_of s r c)) (Err BadRecord)
