-- Chain and tree as the code checks them are chain and tree as they are defined.
use Rattle.fields.proofs.Base.{◌≡◌, sym, cond, List, ℕ, ◌-◌, ◌≤◌, arith, Ok, Err}
use Rattle.refusals.specs.Refusals.{refusal_of}
use Rattle.header.specs.declared.Record.{Record}
use Rattle.tree.specs.Shape.{GoodChunks}
use Rattle.tree.specs.Walk.{listings, indexes, chain_run_ok, tree_walk_ok}
use Rattle.tree.proofs.Parsed.{good_chunks}
use Rattle.tree.proofs.Chunks.{kinds_count}
use Rattle.tree.proofs.Walked.{checks_same}
use Rattle.book.specs.Book.{limits_of, chunk_bytes, directory_of, shape_of}
use Rattle.opening.specs.Opened.{linked_book}
use Rattle.opening.specs.Passes.{GoodBook}
use Rattle.refusals.specs.declared.Rule.TheVariants.{BrokenChain, BrokenTree}

module _ (s : List ℕ) (r : Record) (good : GoodBook s r) where
  pub chunks_good : GoodChunks (directory_of s r) (shape_of r)
  unfolding directory_of
  chunks_good =
      good_chunks (limits_of s r) (chunk_bytes s r) (shape_of r) good.good

  pub index_count : indexes (directory_of s r) (shape_of r) ≡ r.count - listings (directory_of s r) (shape_of r)
  index_count = omega (arith, kinds_count (directory_of s r) (shape_of r) chunks_good)

  pub listing_count : listings (directory_of s r) (shape_of r) ≤ r.count
  listing_count = omega (arith, kinds_count (directory_of s r) (shape_of r) chunks_good)

  pub linked_run : linked_book s r ≡ cond (chain_run_ok (directory_of s r) (shape_of r)) (cond (tree_walk_ok (directory_of s r) (shape_of r)) (Ok r) (Err (refusal_of BrokenTree))) (Err (refusal_of BrokenChain))
  unfolding linked_book
  linked_run = let f = good.few in sym (checks_same (directory_of s r) (shape_of r) chunks_good (omega arith) (Ok r) (Err (refusal_of BrokenTree)) (Err (refusal_of BrokenChain)))
