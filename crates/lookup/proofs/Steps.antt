-- What one chunk answers: the search in a listing chunk, and the way from an index chunk.
use Rattle.fields.proofs.Base.{◌≡◌, refl, sym, ap, ◌∙◌, Bool, true, false, cond, List, ℕ, ◌+◌, ◌<◌, get_or, Option, Some, None, Result, Ok, Err}
use Rattle.refusals.specs.Refusals.{refusal_of}
use Rattle.names.specs.Names.{compared}
use Rattle.chunk.specs.Chunk.{entries_in}
use Rattle.quickref.specs.Quickref.{Sought, sought_of}
use Rattle.seek.specs.Seek.{entry_named, choose_in, child_of}
use Rattle.header.specs.declared.Record.{Record}
use Rattle.tree.specs.Shape.{next_of, listing_chunk, index_chunk}
use Rattle.tree.specs.Descent.{refused, answer, onward, outcome_from}
use Rattle.book.specs.Book.{limits_of, chunk_bytes, directory_of, shape_of}
use Rattle.search.specs.Search.{child_in, cost_at, search_of, search_in}
use Rattle.report.specs.declared.Report.{Report}
use Rattle.search.specs.declared.Search.{Search}
use Rattle.search.specs.declared.Search.TheVariants.{Next}
use Rattle.search.proofs.Searching.{chosen_in, chosen_cost, found_fits, search_told}
use Rattle.lookup.specs.Lookup.{answer_of}
use Rattle.lookup.specs.Step.{way_at, outcome_at}
use Rattle.lookup.specs.declared.Answer.{Answer}
use Rattle.lookup.specs.declared.Answer.TheVariants.{Found, Absent}
use Rattle.refusals.specs.declared.Rule.TheVariants.{BadRecord}
use Rattle.refusals.specs.declared.Refusal.{Refusal}
use Rattle.entries.specs.declared.Place.{Place}

-- ---- a listing chunk

-- what is answered after its search, with n chunks and `spent` comparisons before
abbrev pub after_search : ℕ → ℕ → Option Search → Result Answer Refusal
after_search n spent (Some (Search.Found m x)) = Ok (Found (record { chunks = n; comparisons = spent + m }) x)
after_search n spent (Some (Next m k)) = Ok (Absent (record { chunks = n; comparisons = spent + m }))
after_search n spent None = Err (refusal_of BadRecord)

module _ (s : List ℕ) (book : Record) (name : List ℕ) (c : ℕ) where
  pub listing_answer : (n spent : ℕ) (x : Option Search) → search_in s book name c ≡ x
      → after_search n spent x ≡ answer_of book (record { chunks = n; comparisons = spent + cost_at s book name c }) (outcome_at s book name 1 c)
  unfolding search_in outcome_from
  listing_answer n spent x q =
      ap (after_search n spent) (sym q) ∙ go (listing_chunk (directory_of s book) (shape_of book) c) (entry_named name (entries_in (directory_of s book c)))
    where
      go : (t : Bool) (o : Sought)
          → after_search n spent (cond t (search_of book c (next_of (directory_of s book c)) (cost_at s book name c) o) None)
          ≡ answer_of book (record { chunks = n; comparisons = spent + cost_at s book name c }) (cond t (answer c o) refused)
      go true (Sought.found e) = refl
      go true Sought.absent = refl
      go false o = refl

  -- its count fits
  pub found_few : (x : Report) (m : ℕ) → search_in s book name c ≡ Some (Search.Found m x) → ((i : ℕ) → get_or s i 0 < 256) → m < 0x20000
  found_few x m q bytes = let t = search_told s book name c (Some (Search.Found m x)) q in rw (← t.4) (found_fits s book name c t.0 bytes)

  pub next_few : (k m : ℕ) → search_in s book name c ≡ Some (Next m k) → ((i : ℕ) → get_or s i 0 < 256) → m < 0x20000
  next_few k m q bytes = let t = search_told s book name c (Some (Next m k)) q in rw (← t.3) (found_fits s book name c t.0 bytes)

  -- ---- an index chunk

  pub index_barred : index_chunk (directory_of s book) (shape_of book) c ≡ false → None ≡ way_at s book name c
  unfolding way_at
  index_barred h = rw h refl

  -- where the entry that the bytes' search chose leads
  leads_to : (x : Option Place) → onward (sought_of (chunk_bytes s book c) x) None (λ k. Some k) ≡ child_of x
  leads_to None = refl
  leads_to (Some e) = refl

  pub index_leads : index_chunk (directory_of s book) (shape_of book) c ≡ true → Some (child_in s book name c) ≡ way_at s book name c
  unfolding way_at child_in
  index_leads h =
      rw (h, chosen_in s book name c h, leads_to (choose_in (limits_of s book) (chunk_bytes s book c) (compared name)), chosen_cost s book name c h) refl
