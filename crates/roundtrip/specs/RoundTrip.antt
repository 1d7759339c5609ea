-- What the head of a new book is worth: with its content behind it, it is a book, and that book lists the entries that its layout holds.
use Rattle.std.specs.Prelude.{ℕ, ◌-◌, ◌≡◌, List, ◌++◌, map, length, Ok}
use Rattle.fields.specs.Part.{part}
use Rattle.header.specs.declared.Record.{Record}
use Rattle.report.specs.declared.Report.{Report}
use Rattle.opening.specs.Opened.{opened}
use Rattle.listing.specs.Whole.{whole_listing}
use Rattle.entries.specs.Stored.{Stored}
use Rattle.layout.specs.Headers.{head_length}
use Rattle.layout.specs.Layout.{Layout, chunk_count, layout_depth, new_root, head_bytes}

-- the record that the inputs fix (FORMAT K1, W3 to W12)
unfoldable pub record_for : (density time language : ℕ) → Layout → Record
record_for density time language l =
    record {
      version = 3;
      time = time;
      language = language;
      start = 0x78;
      count = chunk_count l;
      density = density;
      depth = layout_depth l;
      root = new_root (layout_depth l) (chunk_count l);
      first = 0;
      last = length l.leaves - 1;
      content = head_length (chunk_count l);
    }

-- the entry that a report of the file s tells of: its name's bytes, and its numbers
abbrev pub told_of : List ℕ → Report → Stored
told_of s r = record { name = part s r.place r.length; section = r.section; offset = r.offset; size = r.size; child = 0 }

-- a head of that layout with a content behind it
abbrev pub new_book : (density time language : ℕ) → Layout → List ℕ → List ℕ
new_book density time language l content = head_bytes density time language (length content) l ++ content

-- ---- the round trip of the entries es, in chunks of a layout, to a file

pub record RoundTrip (density time language : ℕ) (l : Layout) (es : List Stored) (file : List ℕ) : Type 0 where
  -- the file is a book, with the record that the inputs and the layout fix;
  pub opens : opened file ≡ Ok (record_for density time language l)
  -- its listing is the entries, name by name and number by number
  pub lists : map (told_of file) (whole_listing file (record_for density time language l)) ≡ es
