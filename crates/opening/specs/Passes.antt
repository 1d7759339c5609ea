-- The passes of opening over a book, as the code makes them. They are means: `opened` says what opening answers, and proofs/ that these give it.
use Rattle.std.specs.Prelude.{ℕ, zero, suc, ◌+◌, ◌≤◌, ◌<◌, ◌≡◌, true, cond, ◌&&◌, List, length, eqb, Option, Some, None, Result, Ok, Err}
use Rattle.names.specs.Names.{below}
use Rattle.fields.specs.Same.{same}
use Rattle.refusals.specs.Refusals.{no_chunk, refusal_at}
use Rattle.entries.specs.Entry.{item_at, name_of, with_item}
use Rattle.entries.specs.declared.Kind.{Kind}
use Rattle.chunk.specs.Chunk.{Parsed, is_good}
use Rattle.chunk.specs.Answer.{chunk_of}
use Rattle.chunk.specs.declared.Chunk.{Chunk}
use Rattle.chunk.specs.declared.Chunk.TheVariants.{Listing, Index}
use Rattle.header.specs.declared.Record.{Record}
use Rattle.tree.specs.Shape.{Shape, previous_of, next_of, first_name, last_name, listing_chunk}
use Rattle.tree.specs.Walk as W
use Rattle.book.specs.Book.{limits_of, chunk_bytes, directory_of}
use Rattle.opening.specs.declared.Link.{Link}
use Rattle.opening.specs.declared.Link.TheVariants.{Broken, Last, Next}
use Rattle.refusals.specs.declared.Rule.{Rule}
use Rattle.refusals.specs.declared.Refusal.{Refusal}
use Rattle.entries.specs.declared.Place.{Place}

-- what is known of a book once all its chunks have passed their checks
pub record GoodBook (s : List ℕ) (r : Record) : Type 0 where
  pub few : r.count ≤ 4096
  pub good : (c : ℕ) → c < r.count → is_good (directory_of s r c) ≡ true

-- by the check's answer on chunk c: its refusal, or what follows on l listing chunks and this one
abbrev pub surveyed_by : Result Chunk Rule → ℕ → ℕ → (ℕ → Result ℕ Refusal) → Result ℕ Refusal
surveyed_by (Err n) c l f = Err (refusal_at n c)
surveyed_by (Ok (Listing prev next)) c l f = f (l + 1)
surveyed_by (Ok Index) c l f = f l

-- n chunks from c on: the first refusal, or the listing chunks among them with l more
unfoldable pub surveyed : (ℕ → Parsed) → ℕ → ℕ → ℕ → Result ℕ Refusal
surveyed D zero c l = Ok l
surveyed D (suc n) c l = surveyed_by (chunk_of (D c)) c l (surveyed D n (c + 1))

-- chunk c of the chain, behind p: where it leads
unfoldable pub link_of : (ℕ → Parsed) → Shape → ℕ → ℕ → Link
link_of D H p c =
    cond (listing_chunk D H c && eqb (previous_of (D c)) p)
    (cond (eqb (next_of (D c)) no_chunk) Last
    (cond (listing_chunk D H (next_of (D c)) && below (last_name (D c)) (first_name (D (next_of (D c))))) (Next (next_of (D c))) Broken))
    Broken

-- the first entry of chunk c, inside its bytes, has the chunk's first name
abbrev pub FirstHit : List ℕ → Record → ℕ → Option Place → Type 0
FirstHit s r c None = ⊥
FirstHit s r c (Some e) = (e.start + e.len ≤ length (chunk_bytes s r c)) × (name_of (chunk_bytes s r c) e ≡ first_name (directory_of s r c))

-- the walk's progress as a value of the code's
abbrev pub progress_of : W.TreeProgress → Option (ℕ × ℕ)
progress_of W.stopped = None
progress_of (W.going expected left) = Some (expected, left)

-- a chunk at level 1 of the tree
abbrev pub leaf_of : (ℕ → Parsed) → Shape → ℕ → ℕ → Option (ℕ × ℕ)
leaf_of D H c left = cond (listing_chunk D H c) (Some (next_of (D c), left)) None

-- the entry of index chunk c at a place: its child, which must have the entry's name for its first, and the place behind it
unfoldable pub named_child : List ℕ → Record → ℕ → ℕ → Option (ℕ × ℕ)
named_child s r c at =
    with_item (item_at (limits_of s r) Kind.Index (chunk_bytes s r c) at) None
    (λ e. cond (same (name_of (chunk_bytes s r c) e) (first_name (directory_of s r e.child))) (Some (e.child, e.next)) None)
