-- Opening a book: the checks of the head, of each chunk, of the chain and of the tree, in this order (FORMAT RO1 to RO4).
use Rattle.std.specs.Prelude.{ℕ, zero, suc, ◌+◌, cond, List, Result, Ok, Err}
use Rattle.refusals.specs.Refusals.{refusal_of, refusal_at}
use Rattle.chunk.specs.Chunk.{Parsed, bad, listing, index}
use Rattle.header.specs.Header.{header_of}
use Rattle.header.specs.declared.Record.{Record}
use Rattle.tree.specs.Chain.{chain_ok}
use Rattle.tree.specs.Tree.{tree_ok}
use Rattle.book.specs.Book.{directory_of, shape_of}
use Rattle.refusals.specs.declared.Rule.TheVariants.{BrokenChain, BrokenTree}
use Rattle.refusals.specs.declared.Rule.{Rule}
use Rattle.refusals.specs.declared.Refusal.{Refusal}

-- the refusal of chunk c where it is bad (RO7); else r
abbrev pub chunk_then : Parsed → ℕ → Result Record Refusal → Result Record Refusal
chunk_then (bad n) c r = Err (refusal_at n c)
chunk_then (listing prev next es) c r = r
chunk_then (index es) c r = r

-- the refusal of the first bad chunk among n from c on (RO2); else r
unfoldable pub chunks_then : (ℕ → Parsed) → ℕ → ℕ → Result Record Refusal → Result Record Refusal
chunks_then D zero c r = r
chunks_then D (suc n) c r = chunk_then (D c) c (chunks_then D n (c + 1) r)

-- chain, then tree (RO3), of a book whose head and chunks are good
unfoldable pub linked_book : List ℕ → Record → Result Record Refusal
linked_book s r =
    cond (chain_ok (directory_of s r) (shape_of r))
    (cond (tree_ok (directory_of s r) (shape_of r)) (Ok r) (Err (refusal_of BrokenTree)))
    (Err (refusal_of BrokenChain))

abbrev pub with_header : Result Record Rule → (Record → Result Record Refusal) → Result Record Refusal
with_header (Ok r) f = f r
with_header (Err n) f = Err (refusal_of n)

unfoldable pub opened : List ℕ → Result Record Refusal
opened s = with_header (header_of s) (λ r. chunks_then (directory_of s r) r.count 0 (linked_book s r))
