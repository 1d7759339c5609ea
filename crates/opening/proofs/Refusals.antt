-- Each refusal of opening bears a number of the table, and the place that belongs to it: `refusal_told`, `told_table`.
use Rattle.fields.proofs.Base.{◌≡◌, refl, sym, ap, ◌∙◌, Bool, true, false, cond, List, ℕ, zero, suc, ◌+◌, ◌≤◌, ◌<◌, arith, ℕ_discrete, Result, Ok, Err, Some, None}
use Rattle.refusals.specs.Refusals.{number_of, in_table, refusal_of, refusal_at}
use Rattle.refusals.specs.declared.Refusal.{Refusal}
use Rattle.chunk.specs.Chunk.{Parsed, bad, listing, index, is_good}
use Rattle.chunk.proofs.Refusals.{chunk_refused}
use Rattle.header.specs.Header.{header_of}
use Rattle.header.specs.declared.Record.{Record}
use Rattle.header.proofs.Checks.{header_refused}
use Rattle.tree.specs.Chain.{chain_ok}
use Rattle.tree.specs.Tree.{tree_ok}
use Rattle.book.specs.Book.{limits_of, chunk_bytes, directory_of, shape_of}
use Rattle.opening.specs.Opened.{chunks_then, linked_book, with_header, opened, chunk_then}
use Rattle.opening.specs.Refusals.{ChunksGood, Told, head, chunk, chain, tree}
use Rattle.refusals.specs.declared.Rule.TheVariants.{BrokenChain, BrokenTree}
use Rattle.refusals.specs.declared.Rule.{Rule}

-- ---- a bad chunk's number is from 8 to 12

chunk_table : (s : List ℕ) (r : Record) (c : ℕ) (n : Rule) → directory_of s r c ≡ bad n → (8 ≤ number_of n) × (number_of n ≤ 12) × (in_table n ≡ true)
unfolding directory_of
chunk_table s r c n e = chunk_refused (limits_of s r) (chunk_bytes s r c) n e

-- ---- the pass over the chunks: it refuses by the first bad one, or leaves the answer to what follows

data Passing (D : ℕ → Parsed) (n c : ℕ) (x : Refusal) (o : Result Record Refusal) : Type 0 where
  stops : (k : ℕ) → x.chunk ≡ Some k → c ≤ k → k < c + n → D k ≡ bad x.rule → ((i : ℕ) → c ≤ i → i < k → is_good (D i) ≡ true) → Passing D n c x o
  follows : o ≡ Err x → ((i : ℕ) → c ≤ i → i < c + n → is_good (D i) ≡ true) → Passing D n c x o

passing : (D : ℕ → Parsed) (n c : ℕ) (x : Refusal) (o : Result Record Refusal) → chunks_then D n c o ≡ Err x → Passing D n c x o
unfolding chunks_then
passing D zero c x o e = follows e (λ i l h. absurd (omega arith))
passing D (suc n) c x o e = go (D c) refl (passing D n (c + 1) x o) e
  where
    later : is_good (D c) ≡ true → Passing D n (c + 1) x o → Passing D (suc n) c x o
    later f (stops k y a b q g) =
        stops k y (omega arith) (omega arith) q (λ i l h. elim (ℕ_discrete i c) [ yes z ↦ rw z f | no z ↦ g i (omega arith) h ])
    later f (follows q g) = follows q (λ i l h. elim (ℕ_discrete i c) [ yes y ↦ rw y f | no y ↦ g i (omega arith) (omega arith) ])

    go : (p : Parsed) → D c ≡ p → (chunks_then D n (c + 1) o ≡ Err x → Passing D n (c + 1) x o)
        → chunk_then p c (chunks_then D n (c + 1) o) ≡ Err x → Passing D (suc n) c x o
    go (bad m) f ih q =
        let y : refusal_at m c ≡ x = cc in
        stops c (sym (ap (λ (w : Refusal). w.chunk) y)) (omega arith) (omega arith) (f ∙ ap (λ (w : Refusal). bad w.rule) y) (λ i l h. absurd (omega arith))
    go (listing prev next es) f ih q = later (ap is_good f) (ih q)
    go (index es) f ih q = later (ap is_good f) (ih q)

-- ---- the whole

links_told : (s : List ℕ) (r : Record) (x : Refusal) → header_of s ≡ Ok r → ChunksGood s r → linked_book s r ≡ Err x → Told s x
unfolding linked_book
links_told s r x h g = go (chain_ok (directory_of s r) (shape_of r)) refl (tree_ok (directory_of s r) (shape_of r)) refl
  where
    parts : (n : Rule) → ◌≡◌ {A = Result Record Refusal} (Err (refusal_of n)) (Err x) → (x.rule ≡ n) × (x.chunk ≡ None)
    parts n q = let y : refusal_of n ≡ x = cc in (sym (ap (λ (w : Refusal). w.rule) y), sym (ap (λ (w : Refusal). w.chunk) y))

    go : (a : Bool) → chain_ok (directory_of s r) (shape_of r) ≡ a → (b : Bool) → tree_ok (directory_of s r) (shape_of r) ≡ b
        → cond a (cond b (Ok r) (Err (refusal_of BrokenTree))) (Err (refusal_of BrokenChain)) ≡ Err x → Told s x
    go true p true t q = absurd (let z : ◌≡◌ {A = ℕ} 0 1 = cc in omega arith)
    go true p false t q = let n = parts BrokenTree q in tree r h g p t n.0 n.1
    go false p b t q = let n = parts BrokenChain q in chain r h g p n.0 n.1

pub refusal_told : (s : List ℕ) (x : Refusal) → opened s ≡ Err x → Told s x
unfolding opened
refusal_told s x e = go (header_of s) refl e
  where
    passed : (r : Record) → header_of s ≡ Ok r → Passing (directory_of s r) r.count 0 x (linked_book s r) → Told s x
    passed r h (stops k y a b q g) =
        let t = chunk_table s r k x.rule q in
        chunk r k h y (omega arith) q (λ c l. g c (omega arith) l) (omega arith) (omega arith)
    passed r h (follows q g) = links_told s r x h (λ c l. g c (omega arith) (omega arith)) q

    go : (y : Result Record Rule) → header_of s ≡ y → with_header y (λ r. chunks_then (directory_of s r) r.count 0 (linked_book s r)) ≡ Err x → Told s x
    go (Ok r) h q = passed r h (passing (directory_of s r) r.count 0 x (linked_book s r) q)
    go (Err n) h q =
        let y : refusal_of n ≡ x = cc in
        let a : n ≡ x.rule = ap (λ (w : Refusal). w.rule) y in
        let t = header_refused s x.rule (h ∙ ap Err a) in
        head (h ∙ ap Err a) (omega arith) (omega arith) (sym (ap (λ (w : Refusal). w.chunk) y))

-- its rule is one of the table
pub told_table : (s : List ℕ) (x : Refusal) → Told s x → in_table x.rule ≡ true
told_table s x (head e a b c) = (header_refused s x.rule e).2
told_table s x (chunk r k h c l e g a b) = (chunk_table s r k x.rule e).2
told_table s x (chain r h g e n c) = ap in_table n
told_table s x (tree r h g e f n c) = ap in_table n
