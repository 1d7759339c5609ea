use Rattle.fields.proofs.Base.{◌≡◌, Bool, List, ℕ, ◌-◌, ap, arith, sym, ◌∙◌, Err}
use Rattle.refusals.specs.Refusals.{no_chunk}
use Rattle.header.specs.declared.Record.{Record}
use Rattle.tree.specs.Tree.{top}
use Rattle.tree.specs.Walk.{listings, chain_run, walk_tree, arrived, chain_run_ok, tree_walk_ok}
use Rattle.book.specs.Book.{directory_of, shape_of}
use Rattle.opening.specs.Passes.{GoodBook}
use Rattle.opening.proofs.Links.{index_count, listing_count, linked_run}
use Rattle.opening.proofs.open_links.Goals as goal

-- chain and tree as the code asks them, with k listing chunks
module _ (s : List ℕ) (r : Record) (k : ℕ) (x : Bool) (p : k ≡ listings (directory_of s r) (shape_of r)) where
  chain_is : x ≡ chain_run (directory_of s r) (shape_of r) k no_chunk r.first → x ≡ chain_run_ok (directory_of s r) (shape_of r)
  unfolding chain_run_ok
  chain_is q = rw (← p) q

  tree_is : GoodBook s r → x ≡ arrived (walk_tree (directory_of s r) (shape_of r) r.depth (top (shape_of r)) r.first (r.count - k)) → x ≡ tree_walk_ok (directory_of s r) (shape_of r)
  unfolding tree_walk_ok
  tree_is good q = rw (index_count s r good, ← p) q

pub returns-then-not-chain_linked : goal.returns-then-not-chain_linked
returns-then-not-chain_linked c =
    let a = c.args in
    rw (
      linked_run a.file.now a.book c.requires.0,
      sym (chain_is a.file.now a.book a.listings _ c.requires.1 c.chain_linked.ensures) ∙ c.if-not-chain_linked.true,
    ) (ap Err c.refuse.ensures)

pub overflow_sub-book : goal.overflow_sub-book
overflow_sub-book c = omega (arith, c.requires.1, listing_count c.args.file.now c.args.book c.requires.0)

pub returns-then-not-tree_right : goal.returns-then-not-tree_right
returns-then-not-tree_right c =
    let a = c.args in
    rw (
      linked_run a.file.now a.book c.requires.0,
      sym (chain_is a.file.now a.book a.listings _ c.requires.1 c.chain_linked.ensures) ∙ c.if-not-chain_linked.false,
      sym (tree_is a.file.now a.book a.listings _ c.requires.1 c.requires.0 c.tree_right.ensures) ∙ c.if-not-tree_right.true,
    ) (ap Err c.refuse-then-not-tree_right.ensures)

pub returns : goal.returns
returns c =
    let a = c.args in
    rw (
      linked_run a.file.now a.book c.requires.0,
      sym (chain_is a.file.now a.book a.listings _ c.requires.1 c.chain_linked.ensures) ∙ c.if-not-chain_linked.false,
      sym (tree_is a.file.now a.book a.listings _ c.requires.1 c.requires.0 c.tree_right.ensures) ∙ c.if-not-tree_right.false,
    )
