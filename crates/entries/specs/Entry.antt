-- One entry of a chunk (FORMAT, Entries). A chunk is its list of bytes; nothing is read past its end.
use Rattle.std.specs.Prelude.{ℕ, ◌+◌, List, cond, ◌&&◌, ◌||◌, ltb, leb, Option, Some, None}
use Rattle.fields.specs.Part.{inside, part}
use Rattle.encint.specs.Encint.{encint_at}
use Rattle.entries.specs.declared.Limits.{Limits}
use Rattle.entries.specs.declared.Place.{Place}
use Rattle.entries.specs.declared.Kind.{Kind}
use Rattle.entries.specs.declared.Kind.TheVariants.{Listing, Index}

-- f of a number that is there, and of the place behind it; else d
abbrev pub with_number : {A : Type 0} → Option (ℕ × ℕ) → A → (ℕ → ℕ → A) → A
with_number None d f = d
with_number (Some (v, next)) d f = f v next

-- and so of an entry that is there
abbrev pub with_item : {A : Type 0} → Option Place → A → (Place → A) → A
with_item None d f = d
with_item (Some e) d f = f e

-- an ENCINT of the name's length, 1 to 1,024, with as many bytes behind it: that length, and the name's place
unfoldable pub name_at : List ℕ → ℕ → Option (ℕ × ℕ)
name_at s at = with_number (encint_at s at) None (λ n start.
    cond (ltb 0 n && (leb n 1024 && inside s start n)) (Some (n, start)) None)

-- a listing entry at a place: name, section, offset and length; what section 0 stores lies in the content
unfoldable pub listing_at : ℕ → List ℕ → ℕ → Option Place
listing_at content s at =
    with_number (name_at s at) None (λ len start.
    with_number (encint_at s (start + len)) None (λ section p₁.
    with_number (encint_at s p₁) None (λ offset p₂.
    with_number (encint_at s p₂) None (λ size next.
    cond (leb section 65535 && (ltb 0 section || leb (offset + size) content))
    (Some (record { at = at; start = start; len = len; section = section; offset = offset; size = size; child = 0; next = next }))
    None))))

-- an index entry at a place: name, and a child below the chunk count
unfoldable pub index_at : ℕ → List ℕ → ℕ → Option Place
index_at count s at =
    with_number (name_at s at) None (λ len start.
    with_number (encint_at s (start + len)) None (λ child next.
    cond (ltb child count)
    (Some (record { at = at; start = start; len = len; section = 0; offset = 0; size = 0; child = child; next = next }))
    None))

-- the entry at a place of a chunk of a kind (E1, E2)
unfoldable pub item_at : Limits → Kind → List ℕ → ℕ → Option Place
item_at limits Listing s at = listing_at limits.content s at
item_at limits Index s at = index_at limits.count s at

-- the bytes of an entry's name
abbrev pub name_of : List ℕ → Place → List ℕ
name_of s e = part s e.start e.len

-- ---- what an entry means

-- an entry: its place in the chunk, its name's place and bytes, its numbers (those that its kind lacks are 0), the place behind it
pub record Entry : Type 0 where
  pub at : ℕ
  pub start : ℕ
  pub name : List ℕ
  pub section : ℕ
  pub offset : ℕ
  pub size : ℕ
  pub child : ℕ
  pub next : ℕ

abbrev pub entry_name : Entry → List ℕ
entry_name e = e.name

-- the entry at a place, with its name's bytes
abbrev pub entry_of : List ℕ → Place → Entry
entry_of s e =
    record { at = e.at; start = e.start; name = name_of s e; section = e.section; offset = e.offset; size = e.size; child = e.child; next = e.next }
