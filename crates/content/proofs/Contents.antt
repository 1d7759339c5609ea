-- What is stored under an entry, by its cases.
use Rattle.fields.proofs.Base.{◌≡◌, List, [], ℕ, ◌+◌, ◌<◌, arith, length, eq-eqb, ne_eqb}
use Rattle.fields.specs.Part.{part_of}
use Rattle.fields.proofs.Parts.{part_outside}
use Rattle.header.specs.declared.Record.{Record}
use Rattle.report.specs.declared.Report.{Report}
use Rattle.content.specs.Content.{content_part}

module _ (s : List ℕ) (book : Record) (x : Report) where
  pub content_zero : x.section ≡ 0 → content_part s book x ≡ part_of s (book.content + x.offset) x.size
  unfolding content_part
  content_zero z = rw (eq-eqb x.section 0 z)

  pub content_other : 0 < x.section → content_part s book x ≡ []
  unfolding content_part
  content_other h = rw (ne_eqb x.section 0 (λ z. omega arith))

  pub content_outside : x.section ≡ 0 → length s < book.content + x.offset → content_part s book x ≡ []
  content_outside z h = rw (content_zero z, part_outside s (book.content + x.offset) x.size (omega arith))
