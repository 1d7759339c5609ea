-- The order of names in a directory (FORMAT, Names).
use Rattle.std.specs.Prelude.{ℕ, ◌+◌, Bool, cond, ◌&&◌, List, leb, length}
use Rattle.names.specs.Order.{by_number, by_element}
use Rattle.std.specs.Ordering.{is_lt, is_eq}
use Rattle.std.specs.declared.cmp.Ordering.{Ordering}
use Rattle.std.specs.declared.cmp.Ordering.TheVariants.{Less, Equal, Greater}

-- a byte as it is compared: 41..5A hex as 61..7A
unfoldable pub folded : ℕ → ℕ
folded b = cond (leb 0x41 b && leb b 0x5A) (b + 0x20) b

-- how the name a stands to the name b: byte by byte, folded; a proper beginning comes first
unfoldable pub compared : List ℕ → List ℕ → Ordering
compared a b = by_element (λ x y. by_number (folded x) (folded y)) a b

-- a comes before b
unfoldable pub below : List ℕ → List ℕ → Bool
below a b = is_lt (compared a b)

-- a compares equal to b
unfoldable pub matches : List ℕ → List ℕ → Bool
matches a b = is_eq (compared a b)

-- an answer as a number for hosts (S5)
abbrev pub order_code : Ordering → ℕ
order_code Less = 0
order_code Equal = 1
order_code Greater = 2

-- a name that can be asked: 1 to 1,024 bytes (R15)
abbrev pub askable : List ℕ → Bool
askable name = leb 1 (length name) && leb (length name) 1024
