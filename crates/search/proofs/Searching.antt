-- What a search over the bytes of a chunk finds: on any bytes a name that stands where it is reported to; in a chunk that passes its check what is
-- sought among its entries. And what a search in one listing chunk tells.
use Rattle.fields.proofs.Base.{◌≡◌, refl, sym, ap, ap₂, ◌∙◌, Bool, true, false, cond, List, ℕ, ◌+◌, ◌<◌, arith, length, get_or, le-leb, Option, Some, None, none-some, same_Some}
use Rattle.fields.specs.Part.{part}
use Rattle.fields.proofs.Le.{le_lt}
use Rattle.fields.proofs.Parts.{part_inside, part_within}
use Rattle.names.specs.Names.{compared, matches}
use Rattle.std.specs.Ordering.{is_eq}
use Rattle.entries.specs.Entry.{name_of, Entry, entry_of}
use Rattle.entries.specs.declared.Place.{Place}
use Rattle.entries.specs.declared.Kind.{Kind}
use Rattle.entries.specs.declared.Kind.TheVariants.{Listing, Index}
use Rattle.chunk.specs.Chunk.{entries_in}
use Rattle.chunk_fields.specs.ChunkFields.{count_place}
use Rattle.quickref.specs.Quickref.{Sought, sought_of}
use Rattle.seek.specs.Seek.{entry_named, find_in, choose_in}
use Rattle.seek.specs.Count.{cost_in}
use Rattle.seek.proofs.Good.{find_good, choose_good}
use Rattle.seek.proofs.Counts.{cost_good, cost_small}
use Rattle.seek.proofs.Steps.{find_read, find_inside}
use Rattle.header.specs.declared.Record.{Record}
use Rattle.tree.specs.Shape.{next_of, listing_chunk, index_chunk}
use Rattle.tree.specs.Descent.{child_for}
use Rattle.tree.proofs.Chunks.{listing_chunk_lem, index_chunk_lem}
use Rattle.book.specs.Book.{limits_of, chunk_place, chunk_bytes, directory_of, shape_of}
use Rattle.report.specs.Report.{report_of, report_at}
use Rattle.search.specs.Search.{finding_of, finding_in, cost_at, search_of, search_in, Stands}
use Rattle.seek.specs.declared.Searched.{Searched}
use Rattle.report.specs.declared.Report.{Report}
use Rattle.search.specs.declared.Search.{Search}
use Rattle.search.specs.declared.Search.TheVariants.{Found, Next}
use Rattle.book.proofs.Laws.{chunk_inside, chunk_small, chunk_some}
use Rattle.report.proofs.Reported.{report_entry}

module _ (s : List ℕ) (book : Record) (name : List ℕ) (c : ℕ) where
  -- ---- any bytes: a name is found only in a chunk that has its bytes

  module _ (e : Place) (q : find_in (limits_of s book) (chunk_bytes s book c) (compared name) ≡ Some e) where
    found_whole : length (chunk_bytes s book c) ≡ 4096
    found_whole = chunk_some s book c (let i = find_inside (limits_of s book) (chunk_bytes s book c) (compared name) e _ _ q in omega arith)

    pub found_report : report_at s book c e ≡ report_of book c (entry_of (chunk_bytes s book c) e)
    found_report =
        let i = find_inside (limits_of s book) (chunk_bytes s book c) (compared name) e _ _ q in
        let w = found_whole in
        report_entry s book c e w (omega arith)

    -- the name that stands there is the asked one
    pub found_stands : Stands s name (report_at s book c e)
    unfolding report_at chunk_bytes matches
    found_stands =
        let r = find_read (limits_of s book) (chunk_bytes s book c) (compared name) e _ _ q in
        let i = find_inside (limits_of s book) (chunk_bytes s book c) (compared name) e _ _ q in
        let w = found_whole in
        let h = chunk_inside s book c w in
        let z : name_of (chunk_bytes s book c) e ≡ part s (chunk_place book c + e.start) e.len =
        ap (λ (l : List ℕ). part l e.start e.len) (part_inside s (chunk_place book c) 4096 h)
        ∙ part_within s (chunk_place book c) 4096 e.start e.len (omega arith) in
        rw (le-leb (chunk_place book c + e.start) (length s) (omega arith)) (omega arith, ap is_eq (sym (ap (compared name) z) ∙ r.1.1))

  -- what a finding tells: the entry that the search over the bytes found, or that it found none, and how many names it compared
  pub finding_found : (x : Report) → (finding_in s book name c).answer ≡ Some x
      → (e : Place) × (find_in (limits_of s book) (chunk_bytes s book c) (compared name) ≡ Some e) × (x ≡ report_of book c (entry_of (chunk_bytes s book c) e))
  unfolding finding_in
  finding_found x = go (find_in (limits_of s book) (chunk_bytes s book c) (compared name)) refl
    where
      go : (y : Option Place) → find_in (limits_of s book) (chunk_bytes s book c) (compared name) ≡ y
          → (finding_of s book c (cost_in (limits_of s book) Listing (chunk_bytes s book c) (compared name)) y).answer ≡ Some x
          → (e : Place) × (find_in (limits_of s book) (chunk_bytes s book c) (compared name) ≡ Some e) × (x ≡ report_of book c (entry_of (chunk_bytes s book c) e))
      go None q r = absurd (none-some x r)
      go (Some e) q r = (e, q, sym (same_Some _ _ r) ∙ found_report e q)

  pub finding_nothing : (finding_in s book name c).answer ≡ None → find_in (limits_of s book) (chunk_bytes s book c) (compared name) ≡ None
  unfolding finding_in
  finding_nothing = go (find_in (limits_of s book) (chunk_bytes s book c) (compared name))
    where
      go : (y : Option Place) → (finding_of s book c (cost_in (limits_of s book) Listing (chunk_bytes s book c) (compared name)) y).answer ≡ None → y ≡ None
      go None r = refl
      go (Some e) r = absurd (none-some _ (sym r))

  pub finding_count : (finding_in s book name c).count ≡ cost_in (limits_of s book) Listing (chunk_bytes s book c) (compared name)
  unfolding finding_in
  finding_count = go (find_in (limits_of s book) (chunk_bytes s book c) (compared name))
    where
      go : (y : Option Place) → (finding_of s book c (cost_in (limits_of s book) Listing (chunk_bytes s book c) (compared name)) y).count ≡ cost_in (limits_of s book) Listing (chunk_bytes s book c) (compared name)
      go None = refl
      go (Some e) = refl

  -- what a chunk costs is a number that fits 32 bits, five times over
  cost_fits : (k : Kind) → cost_in (limits_of s book) k (chunk_bytes s book c) (compared name) ≡ cost_at s book name c → ((i : ℕ) → get_or s i 0 < 256)
      → cost_at s book name c < 0x20000
  cost_fits k q bytes =
      let f = cost_small (limits_of s book) k (chunk_bytes s book c) (compared name) (le_lt (chunk_bytes s book c) (chunk_small s book c bytes) 2 count_place) in
      omega (arith, f, q)

  -- ---- an index chunk

  pub chosen_in : index_chunk (directory_of s book) (shape_of book) c ≡ true
      → child_for name (directory_of s book c) ≡ sought_of (chunk_bytes s book c) (choose_in (limits_of s book) (chunk_bytes s book c) (compared name))
  unfolding directory_of
  chosen_in h = sym (choose_good (limits_of s book) (chunk_bytes s book c) name (index_chunk_lem (directory_of s book) (shape_of book) c h).1)

  pub chosen_cost : index_chunk (directory_of s book) (shape_of book) c ≡ true → cost_in (limits_of s book) Index (chunk_bytes s book c) (compared name) ≡ cost_at s book name c
  unfolding directory_of limits_of
  chosen_cost h = cost_good (limits_of s book) Index (chunk_bytes s book c) (compared name) (index_chunk_lem (directory_of s book) (shape_of book) c h).1

  pub chosen_fits : index_chunk (directory_of s book) (shape_of book) c ≡ true → ((i : ℕ) → get_or s i 0 < 256) → cost_at s book name c < 0x20000
  chosen_fits h bytes = cost_fits Index (chosen_cost h) bytes

  -- ---- a listing chunk

  module _ (h : listing_chunk (directory_of s book) (shape_of book) c ≡ true) where
    -- what a search over its bytes finds is an entry of its meaning
    pub found_in : (x : Option Place) → find_in (limits_of s book) (chunk_bytes s book c) (compared name) ≡ x
        → entry_named name (entries_in (directory_of s book c)) ≡ sought_of (chunk_bytes s book c) x
    unfolding directory_of
    found_in x q =
        sym (find_good (limits_of s book) (chunk_bytes s book c) name (listing_chunk_lem (directory_of s book) (shape_of book) c h).1)
        ∙ ap (sought_of (chunk_bytes s book c)) q

    found_cost : cost_in (limits_of s book) Listing (chunk_bytes s book c) (compared name) ≡ cost_at s book name c
    unfolding directory_of limits_of
    found_cost = cost_good (limits_of s book) Listing (chunk_bytes s book c) (compared name) (listing_chunk_lem (directory_of s book) (shape_of book) c h).1

    pub found_fits : ((i : ℕ) → get_or s i 0 < 256) → cost_at s book name c < 0x20000
    found_fits bytes = cost_fits Listing found_cost bytes

    pub search_found : (y : Searched (Option Report)) (x : Report) → y ≡ finding_in s book name c → y.answer ≡ Some x → Some (Found y.count x) ≡ search_in s book name c
    unfolding search_in
    search_found y x e q =
        let f = finding_found x (ap (λ (z : Searched (Option Report)). z.answer) (sym e) ∙ q) in
        rw (h, found_in (Some f.0) f.1)
        (ap₂ (λ (r : Report) (m : ℕ). Some (Found m r)) f.2 (ap (λ (z : Searched (Option Report)). z.count) e ∙ (finding_count ∙ found_cost)))

    pub search_next : (next : ℕ) (y : Searched (Option Report)) → next_of (directory_of s book c) ≡ next → y ≡ finding_in s book name c → y.answer ≡ None
        → Some (Next y.count next) ≡ search_in s book name c
    unfolding search_in
    search_next next y k e q =
        let f = finding_nothing (ap (λ (z : Searched (Option Report)). z.answer) (sym e) ∙ q) in
        rw (h, found_in None f)
        (ap₂ (λ (x m : ℕ). Some (Next m x)) (sym k) (ap (λ (z : Searched (Option Report)). z.count) e ∙ (finding_count ∙ found_cost)))

  pub search_barred : listing_chunk (directory_of s book) (shape_of book) c ≡ false → None ≡ search_in s book name c
  unfolding search_in
  search_barred h = rw h refl

  -- ---- what it tells of the chunk

  abbrev pub Tells : Option Search → Type 0
  Tells (Some (Found n x)) =
      (listing_chunk (directory_of s book) (shape_of book) c ≡ true)
      × (e : Entry) × (entry_named name (entries_in (directory_of s book c)) ≡ Sought.found e) × (report_of book c e ≡ x) × (cost_at s book name c ≡ n)
  Tells (Some (Next n next)) =
      (listing_chunk (directory_of s book) (shape_of book) c ≡ true)
      × (entry_named name (entries_in (directory_of s book c)) ≡ Sought.absent) × (next_of (directory_of s book c) ≡ next) × (cost_at s book name c ≡ n)
  Tells None = listing_chunk (directory_of s book) (shape_of book) c ≡ false

  pub search_told : (x : Option Search) → search_in s book name c ≡ x → Tells x
  unfolding search_in
  search_told x q = rw (← q) (go (listing_chunk (directory_of s book) (shape_of book) c) refl (entry_named name (entries_in (directory_of s book c))) refl)
    where
      go : (t : Bool) → listing_chunk (directory_of s book) (shape_of book) c ≡ t → (o : Sought) → entry_named name (entries_in (directory_of s book c)) ≡ o
          → Tells (cond t (search_of book c (next_of (directory_of s book c)) (cost_at s book name c) o) None)
      go true h (Sought.found e) k = (h, e, k, refl, refl)
      go true h Sought.absent k = (h, k, refl, refl)
      go false h o k = h
