-- What is read along the chain of any directory, with no index entry followed (FORMAT K16 to K19): the entries of one listing chunk behind those of
-- another, up to a chunk with no next, or up to a chunk that cannot be read.
use Rattle.std.specs.Prelude.{Bool, true, false, cond, ℕ, zero, suc, eqb}
use mathlib.Core.List.{List, [], ◌∷◌, ◌++◌, map, flat_map}
use Rattle.refusals.specs.Refusals.{no_chunk}
use Rattle.names.specs.Names.{matches}
use Rattle.entries.specs.Entry.{Entry}
use Rattle.chunk.specs.Chunk.{Parsed, entries_in}
use Rattle.tree.specs.Shape.{Shape, next_of, listing_chunk}
use Rattle.tree.specs.Descent.{Outcome, found, absent, refused}

-- an entry, with the chunk that it stands in
pub record Held : Type 0 where
  pub chunk : ℕ
  pub entry : Entry

abbrev pub held_at : ℕ → Entry → Held
held_at c e = record { chunk = c; entry = e }

-- all entries that were read, in their order; `whole` where the last chunk that was read has no next
pub record Reading : Type 0 where
  pub entries : List Held
  pub whole : Bool

-- nothing more: behind a chunk whose next is none (K18), and at a chunk that cannot be read (K13, K19)
abbrev pub ended : Reading
ended = record { entries = []; whole = true }

abbrev pub cut : Reading
cut = record { entries = []; whole = false }

-- the entries of a chunk, and what is read behind them
abbrev pub read_then : List Held → Reading → Reading
read_then hs r = record { entries = hs ++ r.entries; whole = r.whole }

abbrev pub held_in : (ℕ → Parsed) → ℕ → List Held
held_in D c = map (held_at c) (entries_in (D c))

module _ (D : ℕ → Parsed) (H : Shape) where
  -- from chunk c on and from each chunk to its next (K16), n chunks at most
  unfoldable pub read_from : ℕ → ℕ → Reading
  read_from zero c = cut
  read_from (suc n) c =
      cond (listing_chunk D H c) (read_then (held_in D c) (cond (eqb (next_of (D c)) no_chunk) ended (read_from n (next_of (D c))))) cut

  -- from the first listing chunk on, no more chunks than the directory counts (K19)
  unfoldable pub reading : Reading
  reading = read_from H.count H.first

-- ---- the plain search

-- the first entry whose name compares equal (K17); where none does, absent at the chain's end (K18), else refused (K19)
unfoldable pub first_equal : List ℕ → List Held → Bool → Outcome
first_equal name [] whole = cond whole absent refused
first_equal name (h ∷ hs) whole = cond (matches name h.entry.name) (found h.chunk h.entry) (first_equal name hs whole)

-- among all that is read
unfoldable pub plain : (ℕ → Parsed) → Shape → List ℕ → Outcome
plain D H name = first_equal name (reading D H).entries (reading D H).whole

-- ---- the entries of some chunks, for the laws

abbrev pub held_of : (ℕ → Parsed) → List ℕ → List Held
held_of D cs = flat_map (held_in D) cs
