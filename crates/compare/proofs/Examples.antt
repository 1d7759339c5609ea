-- Two small readings side by side: names that differ only in case are one name, and case alone is no difference.
use Rattle.fields.proofs.Base.{◌≡◌, refl, true, List, [], ◌∷◌, ℕ}
use Rattle.names.specs.Order.{by_number, by_element}
use Rattle.names.specs.Names.{folded, compared}
use Rattle.tree.specs.Reading.{Held, held_at}
use Rattle.compare.specs.Course.{right, both, second_alone, against, merged, pairs, differences, totals_from, no_totals}

-- an entry with a name, section, offset and length
abbrev held : List ℕ → ℕ → ℕ → ℕ → Held
held name section offset size = held_at 0 (record { at = 0; start = 0; name = name; section = section; offset = offset; size = size; child = 0; next = 0 })

-- `/A` and `/a` with the same numbers: one name, no difference
pub case_alone : differences (pairs (merged true true (held (0x2F ∷ 0x41 ∷ []) 0 0 5 ∷ []) (held (0x2F ∷ 0x61 ∷ []) 0 0 5 ∷ []))) ≡ []
unfolding merged against second_alone pairs differences compared by_element by_number folded
case_alone = refl

-- `/`, `/a.htm` against `/`, `/A.htm` with another length, `/b`
abbrev older : List Held
older = held (0x2F ∷ []) 0 0 0 ∷ held (0x2F ∷ 0x61 ∷ 0x2E ∷ 0x68 ∷ 0x74 ∷ 0x6D ∷ []) 0 0 5 ∷ []

abbrev newer : List Held
newer = held (0x2F ∷ []) 0 0 0 ∷ held (0x2F ∷ 0x41 ∷ 0x2E ∷ 0x68 ∷ 0x74 ∷ 0x6D ∷ []) 0 0 4 ∷ held (0x2F ∷ 0x62 ∷ []) 1 7 9 ∷ []

pub two_issues : (differences (pairs (merged true true older newer))
    ≡ both (held (0x2F ∷ 0x61 ∷ 0x2E ∷ 0x68 ∷ 0x74 ∷ 0x6D ∷ []) 0 0 5) (held (0x2F ∷ 0x41 ∷ 0x2E ∷ 0x68 ∷ 0x74 ∷ 0x6D ∷ []) 0 0 4)
    ∷ right (held (0x2F ∷ 0x62 ∷ []) 1 7 9) ∷ [])
    × (totals_from no_totals (pairs (merged true true older newer)) ≡ record { first = 0; second = 1; same = 1; changed = 1 })
unfolding merged against second_alone pairs differences totals_from compared by_element by_number folded
two_issues = (refl, refl)
