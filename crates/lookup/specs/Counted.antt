-- What the number of comparisons is worth, for every file and record, made-up ones too.
use Rattle.std.specs.Prelude.{◌≡◌, List, ℕ, ◌+◌, ◌*◌, ◌^◌, ◌≤◌, length, Result, Ok}
use Rattle.chunk_fields.specs.ChunkFields.{spacing_of, quick_count}
use Rattle.chunk.specs.Chunk.{entries_in}
use Rattle.seek.specs.Count.{Least}
use Rattle.header.specs.declared.Record.{Record}
use Rattle.tree.specs.Lists.{In}
use Rattle.book.specs.Book.{directory_of}
use Rattle.search.specs.Search.{cost_at}
use Rattle.report.specs.declared.Report.{Report}
use Rattle.lookup.specs.Lookup.{trail_in, count_in, costs}
use Rattle.lookup.specs.declared.Effort.{Effort}
use Rattle.lookup.specs.declared.Answer.{Answer}
use Rattle.lookup.specs.declared.Answer.TheVariants.{Found, Absent}
use Rattle.refusals.specs.declared.Refusal.{Refusal}

-- the groups of chunk c: one, and one for each quick word (Q8)
abbrev pub groups_at : List ℕ → Record → ℕ → ℕ
groups_at s book c = 1 + quick_count (spacing_of book.density) (length (entries_in (directory_of s book c)))

-- `r` is the answer
pub record Counted (s : List ℕ) (book : Record) (name : List ℕ) (r : Result Answer Refusal) : Type 0 where
  -- with found and with absent it has the sum over the chunks of the trail (K26);
  pub found_sum : (x : Report) (n : Effort) → r ≡ Ok (Found n x) → n.comparisons ≡ costs s book name (trail_in s book name)
  pub absent_sum : (n : Effort) → r ≡ Ok (Absent n) → n.comparisons ≡ costs s book name (trail_in s book name)
  -- each of these costs at most h + n, with h the least number for which 2 ^ h is its groups or more, and n from the density (Q12);
  pub each_few : (c : ℕ) → In c (trail_in s book name) → (h : ℕ) → Least (groups_at s book c) h → cost_at s book name c ≤ h + spacing_of book.density
  -- so that, where no chunk of the trail has more than 2 ^ h groups, all together cost at most h + n for each
  pub all_few : (h : ℕ) → ((c : ℕ) → In c (trail_in s book name) → groups_at s book c ≤ 2 ^ h)
      → costs s book name (trail_in s book name) ≤ count_in s book name * (h + spacing_of book.density)
