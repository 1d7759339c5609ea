-- What a walk reads: entry after entry, then the end or a refusal. From its start it reads along the chain.
use Rattle.std.specs.Prelude.{ℕ, ◌≡◌, Bool, cond, List, [], ◌∷◌, Some, None, Ok, Err}
use Rattle.refusals.specs.Refusals.{refusal_of}
use Rattle.entries.specs.declared.Place.{Place}
use Rattle.entries.specs.Entry.{entry_of}
use Rattle.header.specs.declared.Record.{Record}
use Rattle.tree.specs.Reading.{Held, held_at, Reading, cut, reading}
use Rattle.book.specs.Book.{chunk_bytes, directory_of, shape_of, record_fits}
use Rattle.report.specs.Report.{report_of, report_at, own_of, own_at}
use Rattle.walk.specs.Walk.{after_of, coming_at, name_here}
use Rattle.walk.specs.declared.Walk.{Walk}
use Rattle.refusals.specs.declared.Rule.TheVariants.{BadRecord}

-- what is read along the chain of a book by its record; nothing by a record that cannot be asked
unfoldable pub reading_of : List ℕ → Record → Reading
reading_of s book = cond (record_fits s book) (reading (directory_of s book) (shape_of book)) cut

module _ (s : List ℕ) (book : Record) where
  -- h comes next at w: it is the entry e, and v is the walk inside its chunk, where it still comes next
  pub record Comes (w v : Walk) (e : Place) (h : Held) : Type 0 where
    pub next : coming_at s book w ≡ Ok (Some (e, v))
    pub still : coming_at s book v ≡ Ok (Some (e, v))
    pub held : h ≡ held_at v.chunk (entry_of (chunk_bytes s book v.chunk) e)
    pub name : name_here s book v e ≡ h.entry.name
    pub report : report_at s book v.chunk e ≡ report_of book h.chunk h.entry
    pub own : own_at s book v.chunk e ≡ own_of book h.chunk h.entry

  -- the walk w reads the entries hs, one behind another, and then the end where `whole`, else a refusal
  unfoldable pub Reads : Walk → List Held → Bool → Type 0
  Reads w [] whole = coming_at s book w ≡ cond whole (Ok None) (Err (refusal_of BadRecord))
  Reads w (h ∷ hs) whole = (v : Walk) × (e : Place) × Comes w v e h × Reads (after_of v e) hs whole

-- what a walk reads is what stands along the chain
abbrev pub WalkExact : List ℕ → Record → Walk → Type 0
WalkExact s book w = Reads s book w (reading_of s book).entries (reading_of s book).whole
