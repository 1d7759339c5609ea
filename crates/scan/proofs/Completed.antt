-- Wherever the rules of the chain hold, the search along it finds exactly what listing chunks hold: `scan_complete`. So it does on every book that opening
-- refuses for its index alone: `broken_index`.
use Rattle.fields.proofs.Base.{◌≡◌, refl, sym, ap, true, false≢true, List, ℕ, arith, Ok, Err}
use Rattle.refusals.specs.Refusals.{number_of}
use Rattle.refusals.specs.declared.Refusal.{Refusal}
use Rattle.names.specs.Names.{askable}
use Rattle.header.specs.Header.{header_of}
use Rattle.header.specs.declared.Record.{Record}
use Rattle.tree.specs.Descent.{Outcome, found, absent, refused}
use Rattle.tree.specs.Exact.{PlainExact}
use Rattle.tree.proofs.Reading.{plain_exact}
use Rattle.book.specs.Book.{directory_of, shape_of}
use Rattle.report.specs.Report.{report_of}
use Rattle.opening.specs.Opened.{opened}
use Rattle.opening.specs.Refusals.{Told, head, chunk, chain, tree}
use Rattle.opening.proofs.Accepted.{head_fits}
use Rattle.opening.proofs.Refusals.{refusal_told}
use Rattle.lookup.specs.Reply.{reply_to}
use Rattle.lookup.proofs.Replies.{replied_search}
use Rattle.scan.specs.Scan.{plain_in, scanned}
use Rattle.scan.specs.Complete.{ChainComplete, CompleteOnChain}

module _ (s : List ℕ) (book : Record) (name : List ℕ) (d : PlainExact (directory_of s book) (shape_of book) name) where
  -- by what the search comes to
  complete_for : (o : Outcome) → plain_in s book name ≡ o → ChainComplete s book name (reply_to book o)
  complete_for (found c e) q = record {
    found_held = λ x p. (c, e, d.found_held c e q, (let z : report_of book c e ≡ x = cc in sym z));
    absent_iff = (
      (λ p. absurd (false≢true (cc))),
      (λ h. absurd (h c e (d.found_held c e q))),
    );
    never_refused = λ x p. false≢true (cc);
  }
  complete_for absent q = record {
    found_held = λ x p. absurd (false≢true (cc));
    absent_iff = ((λ p. d.absent_iff.0 q), (λ h. refl));
    never_refused = λ x p. false≢true (cc);
  }
  complete_for refused q = absurd (d.never_refused q)

pub scan_complete : (s : List ℕ) (book : Record) (name : List ℕ) → CompleteOnChain s book name (scanned s book name)
unfolding scanned
scan_complete s book name a f c =
    rw (replied_search s book name (plain_in s book name) a f) (complete_for s book name (plain_exact (directory_of s book) (shape_of book) c name) (plain_in s book name) refl)

-- ---- a book that opening refuses by 14, for its index alone

-- the record of its head can be asked, and with it the search finds exactly what listing chunks hold
pub broken_index : (s : List ℕ) (x : Refusal) → opened s ≡ Err x → number_of x.rule ≡ 14
    → (r : Record) × (header_of s ≡ Ok r) × ((name : List ℕ) → askable name ≡ true → ChainComplete s r name (scanned s r name))
broken_index s x e n = go (refusal_told s x e)
  where
    go : Told s x → (r : Record) × (header_of s ≡ Ok r) × ((name : List ℕ) → askable name ≡ true → ChainComplete s r name (scanned s r name))
    go (head h l m k) = absurd (omega arith)
    go (chunk r k h l q g f a b) = absurd (omega arith)
    go (chain r h g p m k) = let z : number_of x.rule ≡ 13 = ap number_of m in absurd (omega arith)
    go (tree r h g p t m k) = (r, h, λ name a. scan_complete s r name a (head_fits s r h) p)
