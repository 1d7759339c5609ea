-- What is stored under an entry (FORMAT E8, K15).
use Rattle.std.specs.Prelude.{ℕ, ◌+◌, cond, List, [], eqb}
use Rattle.fields.specs.Part.{part_of}
use Rattle.header.specs.declared.Record.{Record}
use Rattle.report.specs.declared.Report.{Report}

-- the bytes of an entry of section 0 start at content start + offset (E8); none for another section, and where they do not lie inside the file (K15)
unfoldable pub content_part : List ℕ → Record → Report → List ℕ
content_part s book x = cond (eqb x.section 0) (part_of s (book.content + x.offset) x.size) []
