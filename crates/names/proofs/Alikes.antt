-- Laws of `Alike`: how it is found, how it grows, and that what is alike decides nothing.
use Rattle.fields.proofs.Base.{◌≡◌, sym, ap, ap₂, ◌∙◌, List, ◌++◌, ℕ, ◌+◌, ◌-◌, ◌≤◌, ◌<◌, arith, length, get_or, drop}
use Rattle.fields.specs.Le.{le}
use Rattle.fields.specs.Part.{part}
use Rattle.fields.proofs.Le.{le_tells}
use Rattle.fields.proofs.Parts.{drop_more, part_add, part_rest}
use Rattle.names.specs.Names.{compared}
use Rattle.names.specs.Alike.{Alike, Reached}
use Rattle.names.proofs.Laws.{compared_behind}

module _ (a b : List ℕ) where
  -- ---- one byte, the bytes of a number

  pub alike_byte : (i k : ℕ) → i < length a → k < length b → get_or a i 0 ≡ get_or b k 0 → Alike a b i k 1
  alike_byte i k p q e = record { first = omega arith; second = omega arith; bytes = rw (drop_more a i p, drop_more b k q, e) }

  pub alike_number : ((j : ℕ) → get_or a j 0 < 256) → ((j : ℕ) → get_or b j 0 < 256) → (w i k : ℕ) → i + w ≤ length a → k + w ≤ length b → le w a i ≡ le w b k → Alike a b i k w
  alike_number small-a small_b w i k p q e = record { first = p; second = q; bytes = le_tells a b small-a small_b w i k p q e }

  -- ---- more bytes behind those that are alike

  alike_on : (i k n w : ℕ) → Alike a b i k n → Alike a b (i + n) (k + n) w → Alike a b i k (n + w)
  alike_on i k n w x y =
      record {
        first = omega (arith, y.first);
        second = omega (arith, y.second);
        bytes = part_add a i n w ∙ ap₂ ◌++◌ x.bytes y.bytes ∙ sym (part_add b k n w);
      }

  -- the same, as a loop has it that has come to j in a and to k in b
  pub reached_more : (from at end j k w : ℕ) → k ≡ at + (j - from) → Reached a b from at end j → j + w ≤ end → Alike a b j k w → Reached a b from at end (j + w)
  reached_more from at end j k w e x h y =
      let f : j ≡ from + (j - from) = omega (arith, x.0) in
      let z : j + w - from ≡ j - from + w = omega (arith, x.0) in
      (omega (arith, x.0), h, rw z (alike_on from at (j - from) w x.2 (rw (f, e) at y)))

  -- ---- what is alike decides nothing

  pub alike_compares : (i k n : ℕ) → Alike a b i k n → compared (drop i a) (drop k b) ≡ compared (drop (i + n) a) (drop (k + n) b)
  alike_compares i k n x =
      ap₂ compared (part_rest a i n) (part_rest b k n ∙ ap (λ (p : List ℕ). p ++ drop (k + n) b) (sym x.bytes))
      ∙ compared_behind (part a i n) (drop (i + n) a) (drop (k + n) b)
