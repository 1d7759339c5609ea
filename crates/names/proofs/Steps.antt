-- What one turn of a comparison finds: the two names from index i on.
use Rattle.fields.proofs.Base.{◌≡◌, List, ℕ, ◌+◌, ◌≤◌, ◌<◌, add-one, length, get_or, drop, drop_of_length-le}
use lib.Seq.{drop-cons}
use Rattle.names.specs.Order.{by_element}
use Rattle.std.specs.Ordering.{ordering_then}
use Rattle.names.specs.Names.{folded, compared}
use Rattle.std.specs.declared.cmp.Ordering.{Ordering}
use Rattle.std.specs.declared.cmp.Ordering.TheVariants.{Less, Equal, Greater}
use Rattle.names.proofs.Orders.{Says, says_number}

module _ (a b : List ℕ) (i : ℕ) where
  -- a name ends
  pub first_ends : length a ≤ i → i < length b → compared (drop i a) (drop i b) ≡ Less
  unfolding compared by_element
  first_ends p q = rw (drop_of_length-le a p, drop-cons b i 0)

  pub second_ends : i < length a → length b ≤ i → compared (drop i a) (drop i b) ≡ Greater
  unfolding compared by_element
  second_ends p q = rw (drop_of_length-le b q, drop-cons a i 0)

  pub both_end : length a ≤ i → length b ≤ i → compared (drop i a) (drop i b) ≡ Equal
  unfolding compared by_element
  both_end p q = rw (drop_of_length-le a p, drop_of_length-le b q)

  -- both names go on: the bytes at i decide, unless they are equal
  pub turn : (o : Ordering) → i < length a → i < length b → Says o (folded (get_or a i 0)) (folded (get_or b i 0))
      → compared (drop i a) (drop i b) ≡ ordering_then o (compared (drop (i + 1) a) (drop (i + 1) b))
  unfolding compared by_element
  turn o p q h = rw (add-one, drop-cons a i 0, drop-cons b i 0, says_number o (folded (get_or a i 0)) (folded (get_or b i 0)) h)
