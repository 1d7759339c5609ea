-- Names that rise (FORMAT S1, S2).
use Rattle.std.specs.Prelude.{ℕ, Bool, true, ◌&&◌, List, [], ◌∷◌}
use Rattle.names.specs.Names.{below}

-- each name comes after the one before it, and the first after `last`; no bytes come before every name
unfoldable pub rising : {A : Type 0} → (A → List ℕ) → List ℕ → List A → Bool
rising name last [] = true
rising name last (e ∷ es) = below last (name e) && rising name (name e) es
