-- Examples of the order of names: `/A` and `/a` are equal, `/a` is below `/a.htm`, `/[` is below `/Z`.
use Rattle.fields.proofs.Base.{◌≡◌, refl, true, [], ◌∷◌}
use Rattle.names.specs.Order.{by_number, by_element}
use Rattle.names.specs.Names.{folded, compared, below, matches}

pub examples :
    (matches (0x2F ∷ 0x41 ∷ []) (0x2F ∷ 0x61 ∷ []) ≡ true)
    × (below (0x2F ∷ 0x61 ∷ []) (0x2F ∷ 0x61 ∷ 0x2E ∷ 0x68 ∷ 0x74 ∷ 0x6D ∷ []) ≡ true)
    × (below (0x2F ∷ 0x5B ∷ []) (0x2F ∷ 0x5A ∷ []) ≡ true)
unfolding folded by_number by_element compared below matches
examples = (refl, refl, refl)
