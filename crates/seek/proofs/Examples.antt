-- Four entries in two groups of two: what each name costs, and that the bound h + n is reached.
use Rattle.fields.proofs.Base.{◌≡◌, refl, List, [], ◌∷◌, ℕ}
use Rattle.names.specs.Order.{by_number, by_element}
use Rattle.names.specs.Names.{folded, compared}
use Rattle.entries.specs.Entry.{Entry}
use Rattle.quickref.specs.Quickref.{nth}
use Rattle.halving.specs.Halving.{halved}
use Rattle.halving.specs.Halvings.{halvings}
use Rattle.seek.specs.Count.{passed, comparisons}

called : ℕ → Entry
called x = record { at = 0; start = 0; name = x ∷ []; section = 0; offset = 0; size = 0; child = 0; next = 0 }

-- `b`, `d`, `f`, `h`
four : List Entry
four = called 0x62 ∷ called 0x64 ∷ called 0x66 ∷ called 0x68 ∷ []

-- one comparison chooses the group (h is 1); then one or two (n is 2) go through it
abbrev cost : ℕ → ℕ
cost x = comparisons 2 (compared (x ∷ [])) four

costs_told : (cost 0x61 ≡ 2) × (cost 0x62 ≡ 2) × (cost 0x63 ≡ 3) × (cost 0x65 ≡ 3) × (cost 0x66 ≡ 2) × (cost 0x68 ≡ 3) × (cost 0x69 ≡ 3)
unfolding comparisons halvings halved passed nth compared by_element by_number folded called four
costs_told = (refl, refl, refl, refl, refl, refl, refl)
