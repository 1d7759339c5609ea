-- What a search without a trail replies: by the checks of name and record (`replied_name`, `replied_record`, `replied_search`), by which refusals
-- (`replied_refusal`), and what lookup answers where it comes to the descent's outcome (`looked_reply`).
use Rattle.fields.proofs.Base.{◌≡◌, refl, sym, ◌⊎◌, inl, inr, Bool, true, false, cond, List, ℕ, ◌≤◌, arith, le-leb, Err}
use Rattle.refusals.specs.Refusals.{refusal_of}
use Rattle.refusals.specs.declared.Refusal.{Refusal}
use Rattle.names.specs.Names.{askable}
use Rattle.header.specs.declared.Record.{Record}
use Rattle.tree.specs.Descent.{Outcome, found, absent, refused}
use Rattle.book.specs.Book.{record_fits}
use Rattle.lookup.specs.Lookup.{outcome_in, effort_in, answer_of, looked_up}
use Rattle.lookup.specs.Reply.{reply_to, replied_to, reply_of}
use Rattle.lookup.specs.declared.Effort.{Effort}
use Rattle.refusals.specs.declared.Rule.TheVariants.{BadName, BadRecord}

module _ (s : List ℕ) (book : Record) (name : List ℕ) (o : Outcome) where
  -- ---- the checks

  pub replied_name : askable name ≡ false → replied_to s book name o ≡ Err (refusal_of BadName)
  unfolding replied_to
  replied_name h = rw h refl

  module _ (good : askable name ≡ true) where
    pub replied_record : record_fits s book ≡ false → replied_to s book name o ≡ Err (refusal_of BadRecord)
    unfolding replied_to
    replied_record h = rw (good, h) refl

    pub replied_search : record_fits s book ≡ true → replied_to s book name o ≡ reply_to book o
    unfolding replied_to
    replied_search h = rw (good, h) refl

  -- ---- a refusal

  pub replied_refusal : (x : Refusal) → replied_to s book name o ≡ Err x → (x ≡ refusal_of BadName) ⊎ (x ≡ refusal_of BadRecord)
  unfolding replied_to
  replied_refusal x = go (askable name) (record_fits s book) o
    where
      go : (a b : Bool) (o : Outcome) → cond a (cond b (reply_to book o) (Err (refusal_of BadRecord))) (Err (refusal_of BadName)) ≡ Err x
          → (x ≡ refusal_of BadName) ⊎ (x ≡ refusal_of BadRecord)
      go true true (found c e) q = absurd (let z : ◌≡◌ {A = ℕ} 0 1 = cc in omega arith)
      go true true absent q = absurd (let z : ◌≡◌ {A = ℕ} 0 1 = cc in omega arith)
      go true true refused q = let z : refusal_of BadRecord ≡ x = cc in inr (sym z)
      go true false o q = let z : refusal_of BadRecord ≡ x = cc in inr (sym z)
      go false b o q = let z : refusal_of BadName ≡ x = cc in inl (sym z)

-- ---- lookup's answer

reply_answer : (book : Record) (n : Effort) (o : Outcome) → reply_of (answer_of book n o) ≡ reply_to book o
reply_answer book n (found c e) = refl
reply_answer book n absent = refl
reply_answer book n refused = refl

pub looked_reply : (s : List ℕ) (book : Record) (name : List ℕ) (places : ℕ) → 5 ≤ places → reply_of (looked_up s book name places) ≡ replied_to s book name (outcome_in s book name)
unfolding looked_up replied_to
looked_reply s book name places h = rw (le-leb 5 places h) (go (askable name) (record_fits s book))
  where
    go : (a b : Bool)
        → reply_of (cond a (cond b (answer_of book (effort_in s book name) (outcome_in s book name)) (Err (refusal_of BadRecord))) (Err (refusal_of BadName)))
        ≡ cond a (cond b (reply_to book (outcome_in s book name)) (Err (refusal_of BadRecord))) (Err (refusal_of BadName))
    go true true = reply_answer book (effort_in s book name) (outcome_in s book name)
    go true false = refl
    go false b = refl
