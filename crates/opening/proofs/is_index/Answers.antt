use Rattle.fields.proofs.Base.{sym, ap, ◌∙◌, arith}
use Rattle.chunk_fields.specs.ChunkFields.{kind_of}
use Rattle.tree.proofs.Chunks.{past_count}
use Rattle.book.specs.Book.{directory_of, shape_of}
use Rattle.opening.proofs.Tags.{listing_tagged, index_tagged}
use Rattle.opening.proofs.is_index.Goals as goal

pub returns-then-book-c : goal.returns-then-book-c
returns-then-book-c c = let a = c.args in
    sym (past_count (directory_of a.file.now a.book) (shape_of a.book) a.c (omega arith)).1

pub returns-in-Listing : goal.returns-in-Listing
returns-in-Listing c = let a = c.args in
    sym (listing_tagged a.file.now a.book c.requires a.c (omega arith)
    (ap kind_of (sym c.chunk_bytes.ensures) ∙ sym c.kind_of.ensures ∙ c.in-Listing.is)).1

pub returns-in-Index : goal.returns-in-Index
returns-in-Index c = let a = c.args in
    sym (index_tagged a.file.now a.book c.requires a.c (omega arith)
    (ap kind_of (sym c.chunk_bytes.ensures) ∙ sym c.kind_of.ensures ∙ c.in-Index.is)).1
