use Rattle.fields.proofs.Base.{refl, sym, arith}
use lib.Seq.{set_out}
use Rattle.entries.specs.declared.Kind.TheVariants.{Listing}
use Rattle.pack.proofs.Sizes.{row_short}
use Rattle.writer.proofs.Listings.{added_here, added_next}
use Rattle.writer.proofs.add.Goals as goal

pub overflow_add-bytes : goal.overflow_add-bytes
overflow_add-bytes c = omega (arith, c.requires.sized, row_short Listing c.args.e c.requires.short, c.requires.small)

pub returns-then-fits_chunk : goal.returns-then-fits_chunk
returns-then-fits_chunk c = added_here _ _ _ _ _ c.requires.sized _ c.fits_chunk.ensures c.if-fits_chunk.true

pub returns-then-starts-j : goal.returns-then-starts-j
returns-then-starts-j c = added_next _ _ _ _ _ c.requires.sized _ c.fits_chunk.ensures c.if-fits_chunk.false _ (sym (set_out _ _ _ c.if-starts-j.true))

pub returns : goal.returns
returns c = added_next _ _ _ _ _ c.requires.sized _ c.fits_chunk.ensures c.if-fits_chunk.false _ refl
