use Rattle.fields.proofs.Base.{sym, ◌∙◌}
use Rattle.tree.proofs.Chunks.{listing_chunk_lem}
use Rattle.book.specs.Book.{directory_of, shape_of}
use Rattle.opening.proofs.Tags.{links_stand}
use Rattle.opening.proofs.leaf.Goals as goal

pub returns-then-not-is_listing : goal.returns-then-not-is_listing
returns-then-not-is_listing c = rw (sym c.is_listing.ensures ∙ c.if-not-is_listing.true)

pub returns : goal.returns
returns c = let a = c.args in
    let l = sym c.is_listing.ensures ∙ c.if-not-is_listing.false in
    let b = listing_chunk_lem (directory_of a.file.now a.book) (shape_of a.book) a.c l in
    let g = links_stand a.file.now a.book c.requires a.c b.0 b.1 in
    rw (l, g.1, ← c.chunk_bytes.ensures, c.next_link.ensures)
