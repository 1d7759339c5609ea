-- One listing chunk is the whole directory; more have an index over them.
use Rattle.fields.proofs.Base.{◌≡◌, refl, ap, Bool, true, false, List, flatten, ℕ, suc, ◌+◌, ◌<◌, arith, length, length-append, leb, leb-true}
use borrow.Author.Tests.{leb-false}
use Rattle.entries.specs.declared.Kind.TheVariants.{Index}
use Rattle.entries.specs.Stored.{Stored}
use Rattle.pack.specs.Groups.{fits}
use Rattle.pack.specs.Levels.{entry_size, children_of, levels_above}
use Rattle.pack.proofs.Groups.{groups_some}
use Rattle.pack.proofs.Above.{upper, above_more, above_none, length_children}

module _ (n d c : ℕ) (gs : List (List Stored)) where
  pub record Indexed (ls : List (List (List Stored))) : Type 0 where
    pub one : length ls ≡ 0 → 0 < length gs → length gs ≡ 1
    pub more : 0 < length ls → 0 < length (flatten ls)

  pub indexed : Indexed (levels_above n (suc d) c gs)
  unfolding flatten
  indexed = go (leb (length gs) 1) refl
    where
      go : (t : Bool) → leb (length gs) 1 ≡ t → Indexed (levels_above n (suc d) c gs)
      go true e =
          let h = leb-true (length gs) 1 e in
          record {
            one = λ z s. omega arith;
            more = λ s. absurd (omega (arith, ap length (above_none n (suc d) c gs h)));
          }
      go false e =
          let h = leb-false (length gs) 1 e in
          let up = upper n d c gs in
          let others = levels_above n d (c + length gs) up in
          let m = above_more n d c gs h in
          let g = groups_some (entry_size Index) (fits Index n) (children_of c gs) (omega (arith, length_children c gs)) in
          record {
            one = λ z s. absurd (omega (arith, ap length m));
            more = λ s. omega (arith, ap (λ (l : List (List (List Stored))). length (flatten l)) m, length-append up (flatten others), g);
          }
