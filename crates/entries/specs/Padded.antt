-- The bytes of a listing entry as it may stand: each of its numbers in its short form, behind bytes 80 or none (FORMAT E1, N4).
use Rattle.std.specs.Prelude.{ℕ, ◌≡◌, List, ◌++◌, length}
use Rattle.encint.specs.Padded.{padded}

-- the bytes are an entry with this name and these numbers
pub record PaddedEntry (bytes name : List ℕ) (section offset size : ℕ) : Type 0 where
  -- how many bytes 80 stand in front of each number
  pub ahead : ℕ
  pub ahead_section : ℕ
  pub ahead_offset : ℕ
  pub ahead_size : ℕ
  pub stands : bytes ≡ padded ahead (length name) ++ (name ++ (padded ahead_section section ++ (padded ahead_offset offset ++ padded ahead_size size)))
