-- What a lookup reads of a file: the blocks of its descent's chunks, 4,096 bytes each, and no other byte (K27). For every file and record, made-up ones too.
use Rattle.std.specs.Prelude.{◌≡◌, true, List, ℕ, ◌≤◌, length, Result}
use Rattle.header.specs.declared.Record.{Record}
use Rattle.tree.specs.Lists.{In}
use Rattle.book.specs.Book.{chunk_bytes, record_fits}
use Rattle.lookup.specs.Lookup.{trail_in, count_in, looked_up, trail_after}
use Rattle.lookup.specs.declared.Answer.{Answer}
use Rattle.refusals.specs.declared.Refusal.{Refusal}

-- t is as long as s, and has the same bytes in chunks of these numbers
pub record SameBlocks (s t : List ℕ) (book : Record) (cs : List ℕ) : Type 0 where
  pub lengths : length s ≡ length t
  pub bytes : (c : ℕ) → In c cs → chunk_bytes s book c ≡ chunk_bytes t book c

-- `r` is the answer; `was` and `is` are the trail before and after
pub record OnlyBlocks (s : List ℕ) (book : Record) (name was : List ℕ) (r : Result Answer Refusal) (is : List ℕ) : Type 0 where
  -- there are at most five, by any record that can be asked
  pub five : record_fits s book ≡ true → count_in s book name ≤ 5
  -- and on any file that has them the answer is the same, with the same numbers, and so is the trail
  pub answer_same : (t : List ℕ) → SameBlocks s t book (trail_in s book name) → looked_up t book name (length was) ≡ r
  pub trail_same : (t : List ℕ) → SameBlocks s t book (trail_in s book name) → trail_after t book name was ≡ is
