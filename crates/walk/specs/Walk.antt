-- A walk along the chain of a book, by value: what comes next at any walk, over any bytes, by any record.
use Rattle.std.specs.Prelude.{ℕ, ◌+◌, ◌-◌, ◌*◌, Bool, cond, ◌&&◌, List, length, ltb, eqb, Option, Some, None, Result, Ok, Err}
use Rattle.fields.specs.Part.{part_of}
use Rattle.refusals.specs.Refusals.{no_chunk, refusal_of}
use Rattle.entries.specs.Entry.{item_at, with_item}
use Rattle.entries.specs.declared.Place.{Place}
use Rattle.entries.specs.declared.Kind.TheVariants.{Listing}
use Rattle.chunk.specs.Chunk.{Parsed, entries_in}
use Rattle.chunk_fields.specs.ChunkFields.{first_place}
use Rattle.header.specs.declared.Record.{Record}
use Rattle.tree.specs.Shape.{next_of, listing_chunk}
use Rattle.book.specs.Book.{limits_of, chunk_bytes, directory_of, shape_of, record_fits}
use Rattle.walk.specs.declared.Walk.{Walk}
use Rattle.refusals.specs.declared.Rule.TheVariants.{BadRecord}
use Rattle.refusals.specs.declared.Refusal.{Refusal}

-- where it starts: before the first listing chunk, with as many chunks to enter as the book has
unfoldable pub walk_start : Record → Walk
walk_start book = record { chunk = no_chunk; at = 0; left = 0; next = book.first; more = book.count }

-- before the first entry of chunk c, which is p; n more chunks may be entered behind it
abbrev pub in_chunk : ℕ → Parsed → ℕ → Walk
in_chunk c p n = record { chunk = c; at = first_place Listing; left = length (entries_in p); next = next_of p; more = n }

-- behind the entry e of its chunk
unfoldable pub after_of : Walk → Place → Walk
after_of w e = record { chunk = w.chunk; at = e.next; left = w.left - 1; next = w.next; more = w.more }

-- how many entries it can still come to, at most: a chunk has no more than 4,096
unfoldable pub weight : Walk → ℕ
weight w = w.left + 4097 * w.more

-- a chunk was entered, and none follows it: the chain's end
unfoldable pub is_over : Record → Walk → Bool
is_over book w = eqb w.next no_chunk && ltb w.more book.count

-- f of the walk inside a chunk; else the end, or the refusal
abbrev pub on_entered : (Walk → Result (Option (Place × Walk)) Refusal) → Result (Option Walk) Refusal → Result (Option (Place × Walk)) Refusal
on_entered f (Ok (Some w)) = f w
on_entered f (Ok None) = (Ok None)
on_entered f (Err x) = Err x

module _ (s : List ℕ) (book : Record) where
  -- a walk that has entries left is inside its chunk; else what follows is entered, where it is a listing chunk and not one too many
  unfoldable pub entered : Walk → Result (Option Walk) Refusal
  entered w =
      cond (ltb 0 w.left) (Ok (Some w))
      (cond (is_over book w) (Ok None)
      (cond (ltb 0 w.more && listing_chunk (directory_of s book) (shape_of book) w.next)
      (Ok (Some (in_chunk w.next (directory_of s book w.next) (w.more - 1))))
      (Err (refusal_of BadRecord))))

  -- the entry at a walk inside a chunk: what is read there; the chunk is not checked again
  unfoldable pub entry_here : Walk → Result (Option (Place × Walk)) Refusal
  entry_here w =
      with_item (item_at (limits_of s book) Listing (chunk_bytes s book w.chunk) w.at) (Err (refusal_of BadRecord)) (λ e. Ok (Some (e, w)))

  -- what comes next: the record first (K12)
  unfoldable pub coming_at : Walk → Result (Option (Place × Walk)) Refusal
  coming_at w = cond (record_fits s book) (on_entered entry_here (entered w)) (Err (refusal_of BadRecord))

  -- the name of an entry in the chunk of a walk; no bytes where it does not lie inside
  unfoldable pub name_here : Walk → Place → List ℕ
  name_here w e = part_of (chunk_bytes s book w.chunk) e.start e.len
