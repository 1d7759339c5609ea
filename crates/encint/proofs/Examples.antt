-- Examples of ENCINTs: numbers of one to nine bytes, with leading bytes 80 and without, and bytes that are refused.
use Rattle.fields.proofs.Base.{◌≡◌, refl, List, [], ◌∷◌, ◌++◌, ℕ, ◌-◌, ◌^◌, length, replicate, Some, None}
use Rattle.encint.specs.Encint.{rest, decoded, encint_at, seven_bit_groups, leading, encoded}
use Rattle.encint.specs.Padded.{padded}

-- bytes, the value they stand for, and how many leading bytes 80 they have
record Example : Type 0 where
  bytes : List ℕ
  value : ℕ
  padding : ℕ

infix 80 ◌is◌
abbrev ◌is◌ : List ℕ → ℕ → Example
l is v = record { bytes = l; value = v; padding = 0 }

abbrev behind : ℕ → Example → Example
behind k e = record { bytes = e.bytes; value = e.value; padding = k }

-- all the bytes are read as the value, and are the leading bytes 80 and what is written for it
abbrev Accepted : List Example → Type 0
Accepted [] = Unit {0}
Accepted (e ∷ es) =
    (encint_at e.bytes 0 ≡ Some (e.value, length e.bytes)) × (e.bytes ≡ padded e.padding e.value) × Accepted es

abbrev Refused : List (List ℕ) → Type 0
Refused [] = Unit {0}
Refused (l ∷ ls) = (encint_at l 0 ≡ None) × Refused ls

-- N9
pub read_examples :
    Accepted
    ((0x00 ∷ []) is 0
    ∷ (0x7F ∷ []) is 127
    ∷ (0x81 ∷ 0x00 ∷ []) is 128
    ∷ (0xEA ∷ 0x15 ∷ []) is 13589
    ∷ (0xFF ∷ 0x7F ∷ []) is 16383
    ∷ (0x81 ∷ 0x80 ∷ 0x00 ∷ []) is 16384
    ∷ (replicate 8 0xFF ++ (0x7F ∷ [])) is (2 ^ 63 - 1)
    ∷ behind 1 ((0x80 ∷ 0x01 ∷ []) is 1)
    ∷ behind 1 ((0x80 ∷ 0x00 ∷ []) is 0)
    ∷ behind 1 ((0x80 ∷ 0x81 ∷ 0x00 ∷ []) is 128)
    ∷ behind 8 ((replicate 8 0x80 ++ (0x01 ∷ [])) is 1)
    ∷ behind 8 ((replicate 8 0x80 ++ (0x00 ∷ [])) is 0)
    ∷ [])
unfolding rest decoded encint_at seven_bit_groups leading encoded
read_examples = (
  refl,
  refl,
  (
    refl,
    refl,
    (
      refl,
      refl,
      (
        refl,
        refl,
        (
          refl,
          refl,
          (
            refl,
            refl,
            (
              refl,
              refl,
              (refl, refl, (refl, refl, (refl, refl, (refl, refl, (refl, refl, tt))))),
            ),
          ),
        ),
      ),
    ),
  ),
)

-- N10
pub unread_examples : Refused ((replicate 9 0x80 ++ (0x01 ∷ [])) ∷ (replicate 9 0xFF ++ (0x7F ∷ [])) ∷ (0x80 ∷ []) ∷ [] ∷ [])
unfolding rest decoded encint_at
unread_examples = (refl, (refl, (refl, (refl, tt))))
