use Rattle.entries.specs.Entry.{item_at}
use Rattle.entries.proofs.item_at.Goals as goal

pub returns-in-Listing : goal.returns-in-Listing
unfolding item_at
returns-in-Listing c = simp c.in-Listing.is c.listing_at.ensures

pub returns-in-Index : goal.returns-in-Index
unfolding item_at
returns-in-Index c = simp c.in-Index.is c.index_at.ensures
