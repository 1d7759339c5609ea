-- On any bytes: what the descent without checks finds stands where it is reported to (`fetched_stands`), and it refuses a name or a record that cannot be
-- asked, and nothing else (`fetch_refusal`).
use Rattle.fields.proofs.Base.{◌≡◌, refl, sym, ◌⊎◌, inl, inr, Bool, true, false, cond, List, ℕ, zero, suc, arith, Option, Some, None, Ok, Err}
use Rattle.refusals.specs.Refusals.{refusal_of}
use Rattle.refusals.specs.declared.Refusal.{Refusal}
use Rattle.names.specs.Names.{askable, compared}
use Rattle.quickref.specs.Quickref.{Sought, sought_of}
use Rattle.seek.specs.Seek.{find_in, choose_in}
use Rattle.header.specs.declared.Record.{Record}
use Rattle.tree.specs.Tree.{top}
use Rattle.tree.specs.Descent.{Outcome, found, absent, refused, answer, onward}
use Rattle.tree.specs.Fetch.{fetch_from}
use Rattle.book.specs.Book.{limits_of, chunk_bytes, shape_of, record_fits}
use Rattle.report.specs.Report.{report_of}
use Rattle.search.specs.Search.{Stands}
use Rattle.search.proofs.Searching.{found_report, found_stands}
use Rattle.lookup.specs.Reply.{reply_to, replied_to}
use Rattle.fetch.specs.Fetch.{fetch_at, fetched, FoundStands}
use Rattle.refusals.specs.declared.Rule.TheVariants.{BadName, BadRecord}
use Rattle.entries.specs.declared.Place.{Place}

module _ (s : List ℕ) (book : Record) (name : List ℕ) where
  -- what an outcome reports
  abbrev Worth : Outcome → Type 0
  Worth (found c e) = Stands s name (report_of book c e)
  Worth absent = Unit {0}
  Worth refused = ⊥

  hit_stands : (c : ℕ) (x : Option Place) → find_in (limits_of s book) (chunk_bytes s book c) (compared name) ≡ x → Worth (answer c (sought_of (chunk_bytes s book c) x))
  hit_stands c None q = tt
  hit_stands c (Some e) q = rw (← found_report s book name c e q) (found_stands s book name c e q)

  fetch_stands : (l c : ℕ) → Worth (fetch_at s book name l c)
  unfolding fetch_from
  fetch_stands zero c = tt
  fetch_stands (suc zero) c = hit_stands c (find_in (limits_of s book) (chunk_bytes s book c) (compared name)) refl
  fetch_stands (suc (suc l)) c = go (sought_of (chunk_bytes s book c) (choose_in (limits_of s book) (chunk_bytes s book c) (compared name))) (λ k. fetch_stands (suc l) k)
    where
      go : (x : Sought) → ((k : ℕ) → Worth (fetch_at s book name (suc l) k)) → Worth (onward x absent (λ k. fetch_at s book name (suc l) k))
      go Sought.absent f = tt
      go (Sought.found e) f = f e.child

  -- ---- what is replied

  pub fetched_stands : FoundStands s name (fetched s book name)
  unfolding fetched replied_to
  fetched_stands x = go (askable name) (record_fits s book) (fetch_at s book name book.depth (top (shape_of book))) (fetch_stands book.depth (top (shape_of book)))
    where
      go : (a b : Bool) (o : Outcome) → Worth o → cond a (cond b (reply_to book o) (Err (refusal_of BadRecord))) (Err (refusal_of BadName)) ≡ Ok (Some x) → Stands s name x
      go true true (found c e) w q = let z : report_of book c e ≡ x = cc in rw (← z) w
      go true true absent w q = absurd (let z : ◌≡◌ {A = ℕ} 0 1 = cc in omega arith)
      go true true refused w q = absurd w
      go true false o w q = absurd (let z : ◌≡◌ {A = ℕ} 0 1 = cc in omega arith)
      go false b o w q = absurd (let z : ◌≡◌ {A = ℕ} 0 1 = cc in omega arith)

  pub fetch_refusal : (x : Refusal) → fetched s book name ≡ Err x
      → ((x ≡ refusal_of BadName) × (askable name ≡ false)) ⊎ ((x ≡ refusal_of BadRecord) × (record_fits s book ≡ false))
  unfolding fetched replied_to
  fetch_refusal x =
      go (askable name) refl (record_fits s book) refl (fetch_at s book name book.depth (top (shape_of book))) (fetch_stands book.depth (top (shape_of book)))
    where
      go : (a : Bool) → askable name ≡ a → (b : Bool) → record_fits s book ≡ b → (o : Outcome) → Worth o
          → cond a (cond b (reply_to book o) (Err (refusal_of BadRecord))) (Err (refusal_of BadName)) ≡ Err x
          → ((x ≡ refusal_of BadName) × (askable name ≡ false)) ⊎ ((x ≡ refusal_of BadRecord) × (record_fits s book ≡ false))
      go true p true r (found c e) w q = absurd (let z : ◌≡◌ {A = ℕ} 0 1 = cc in omega arith)
      go true p true r absent w q = absurd (let z : ◌≡◌ {A = ℕ} 0 1 = cc in omega arith)
      go true p true r refused w q = absurd w
      go true p false r o w q = let z : refusal_of BadRecord ≡ x = cc in inr (sym z, r)
      go false p b r o w q = let z : refusal_of BadName ≡ x = cc in inl (sym z, p)
