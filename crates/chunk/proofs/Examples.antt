-- The chunk of the sample book (FORMAT W16) means what its entries say; and how many quick words there are at density 2 (FORMAT C14).
use Rattle.fields.proofs.Base.{◌≡◌, refl, List, [], ◌∷◌, ◌++◌, ℕ, replicate}
use Rattle.fields.specs.Le.{le}
use Rattle.fields.specs.Same.{same, stands_at}
use Rattle.encint.specs.Encint.{rest, decoded, encint_at}
use Rattle.names.specs.Order.{by_number, by_element}
use Rattle.names.specs.Names.{folded, compared, below}
use Rattle.entries.specs.Entry.{name_at, listing_at, item_at}
use Rattle.entries.specs.declared.Limits.{Limits}
use Rattle.entries.specs.Rising.{rising}
use Rattle.chunk.specs.Chunk.{listing, entries_at, quick, quick_at, framed, checked_entries, parsed_as, parsed}
use Rattle.chunk_fields.specs.ChunkFields.{spacing_of, quick_count}

unfoldable pub sample : List ℕ
sample =
    0x50 ∷ 0x4D ∷ 0x47 ∷ 0x4C ∷ 0xDD ∷ 0x0F ∷ 0 ∷ 0 ∷ 0 ∷ 0 ∷ 0 ∷ 0 ∷ 0xFF ∷ 0xFF ∷ 0xFF ∷ 0xFF ∷ 0xFF ∷ 0xFF ∷ 0xFF ∷ 0xFF
    ∷ 1 ∷ 0x2F ∷ 0 ∷ 0 ∷ 0
    ∷ 6 ∷ 0x2F ∷ 0x61 ∷ 0x2E ∷ 0x68 ∷ 0x74 ∷ 0x6D ∷ 0 ∷ 0 ∷ 5 ∷ (replicate 4059 0 ++ 2 ∷ 0 ∷ [])

unfoldable pub limits : Limits
limits = record { density = 2; count = 1; content = 5 }

pub sample_parsed : parsed limits sample ≡ listing 0xFFFFFFFF 0xFFFFFFFF
    (record { at = 20; start = 21; name = 0x2F ∷ []; section = 0; offset = 0; size = 0; child = 0; next = 25 }
    ∷ record { at = 25; start = 26; name = 0x2F ∷ 0x61 ∷ 0x2E ∷ 0x68 ∷ 0x74 ∷ 0x6D ∷ []; section = 0; offset = 0; size = 5; child = 0; next = 35 } ∷ [])
unfolding parsed parsed_as framed checked_entries entries_at item_at listing_at name_at encint_at decoded rest rising quick quick_at below compared by_element by_number folded stands_at same le sample limits
sample_parsed = refl

pub words_at_density_2 : (quick_count (spacing_of 2) 5 ≡ 0) × (quick_count (spacing_of 2) 6 ≡ 1) × (quick_count (spacing_of 2) 11 ≡ 2)
words_at_density_2 = (refl, refl, refl)
