-- What a refusal of opening says (FORMAT, Refusals; RO7).
use Rattle.std.specs.Prelude.{◌≡◌, true, false, List, ℕ, ◌≤◌, ◌<◌, Ok, Err, Some, None}
use Rattle.refusals.specs.Refusals.{number_of}
use Rattle.refusals.specs.declared.Refusal.{Refusal}
use Rattle.chunk.specs.Chunk.{bad, is_good}
use Rattle.header.specs.Header.{header_of}
use Rattle.header.specs.declared.Record.{Record}
use Rattle.tree.specs.Chain.{chain_ok}
use Rattle.tree.specs.Tree.{tree_ok}
use Rattle.book.specs.Book.{directory_of, shape_of}
use Rattle.refusals.specs.declared.Rule.TheVariants.{BrokenChain, BrokenTree}

-- every chunk below the count has passed its checks
abbrev pub ChunksGood : List ℕ → Record → Type 0
ChunksGood s r = (c : ℕ) → c < r.count → is_good (directory_of s r c) ≡ true

-- it is one of four: 1 to 7, of the head, with no chunk;
-- 8 to 12, with the first chunk that is bad, below the count, whose own fault it is;
-- 13, with no chunk, where head and chunks are good and a rule of the chain fails; 14, with no chunk, where only a rule of the tree does
pub data Told (s : List ℕ) (x : Refusal) : Type 0 where
  head : header_of s ≡ Err x.rule → 1 ≤ number_of x.rule → number_of x.rule ≤ 7 → x.chunk ≡ None → Told s x
  chunk : (r : Record) (k : ℕ) → header_of s ≡ Ok r → x.chunk ≡ Some k → k < r.count → directory_of s r k ≡ bad x.rule
      → ((c : ℕ) → c < k → is_good (directory_of s r c) ≡ true) → 8 ≤ number_of x.rule → number_of x.rule ≤ 12 → Told s x
  chain : (r : Record) → header_of s ≡ Ok r → ChunksGood s r → chain_ok (directory_of s r) (shape_of r) ≡ false → x.rule ≡ BrokenChain → x.chunk ≡ None → Told s x
  tree : (r : Record) → header_of s ≡ Ok r → ChunksGood s r → chain_ok (directory_of s r) (shape_of r) ≡ true → tree_ok (directory_of s r) (shape_of r) ≡ false
      → x.rule ≡ BrokenTree → x.chunk ≡ None → Told s x
