use Rattle.fields.proofs.Base.{◌≡◌, sym, ap, subst, List, ℕ}
use Rattle.header.specs.declared.Record.{Record}
use Rattle.walk.specs.Walk.{walk_start}
use Rattle.walk.specs.Exact.{WalkExact}
use Rattle.walk.specs.declared.Walk.{Walk}
use Rattle.walk.proofs.Standing.{walk_exact}
use Rattle.walk.proofs.Walk.start.Goals as goal

promised : (book : Record) (w : Walk) → w ≡ walk_start book → record { answer : w ≡ walk_start book; exact : (s : List ℕ) → WalkExact s book w }
promised book w e = record { answer = e; exact = λ s. subst (WalkExact s book) (sym e) (walk_exact s book) }

pub returns : goal.returns
unfolding walk_start
returns c = let book = c.args.book in
    promised book _
    (ap (λ (n : ℕ). let w : Walk = record { chunk = n; at = 0; left = 0; next = book.first; more = book.count } in w) c.no_chunk.ensures)
