-- What is reported of an entry: its five numbers, and its own bytes (FORMAT K6, K25).
use Rattle.std.specs.Prelude.{ℕ, ◌+◌, ◌-◌, ◌≡◌, cond, List, length, leb}
use Rattle.fields.specs.Part.{part_of}
use Rattle.encint.specs.Encint.{encoded}
use Rattle.entries.specs.Padded.{PaddedEntry}
use Rattle.entries.specs.declared.Place.{Place}
use Rattle.entries.specs.Entry.{Entry}
use Rattle.header.specs.declared.Record.{Record}
use Rattle.book.specs.Book.{chunk_place}
use Rattle.report.specs.declared.Report.{Report}
use Rattle.report.specs.declared.Own.{Own}

-- the five numbers of an entry of chunk c (K6): its name's place in the file and length; section, offset, length
unfoldable pub report_of : Record → ℕ → Entry → Report
report_of r c e =
    record { place = chunk_place r c + e.start; length = length e.name; section = e.section; offset = e.offset; size = e.size }

-- the same of what was read at a place, with an answer for any chunk number and place: 0 for a name's place that is not inside the file
unfoldable pub report_at : List ℕ → Record → ℕ → Place → Report
report_at s r c e =
    record {
      place = cond (leb (chunk_place r c + e.start) (length s)) (chunk_place r c + e.start) 0;
      length = e.len;
      section = e.section;
      offset = e.offset;
      size = e.size;
    }

-- the own bytes of an entry of chunk c, as stored: their place in the file, and how many there are
unfoldable pub own_of : Record → ℕ → Entry → Own
own_of r c e = record { place = chunk_place r c + e.at; length = e.next - e.at }

-- own bytes beside the numbers that are reported of the entry: its name, and around it those numbers, each in its short form behind bytes 80 or none (K25, N4)
pub record OwnBytes (s : List ℕ) (r : Report) (o : Own) : Type 0 where
  pub entry : PaddedEntry (part_of s o.place o.length) (part_of s r.place r.length) r.section r.offset r.size
  pub name : r.place ≡ o.place + (entry.ahead + length (encoded r.length))

-- the own bytes of what was read at a place, 0 for a place that is not inside the file
unfoldable pub own_at : List ℕ → Record → ℕ → Place → Own
own_at s r c e =
    record { place = cond (leb (chunk_place r c + e.at) (length s)) (chunk_place r c + e.at) 0; length = e.next - e.at }
