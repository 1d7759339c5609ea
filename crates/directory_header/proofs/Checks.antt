-- The checks of a directory's header in their order: both rules hold where it is good, and what it says is read from its bytes
-- (`directory_rules`); where both hold, it is good (`directory_good`); a refusal has one of their numbers (`directory_refused`).
use Rattle.fields.proofs.Base.{◌≡◌, refl, subst, List, Bool, true, false, cond, ℕ, ◌≤◌, arith, Result, Ok, Err}
use Rattle.directory_header.specs.DirectoryHeader.{directory_tagged, directory_right, directory_fields_of, directory_header_of}
use Rattle.directory_header.specs.declared.DirectoryFields.{DirectoryFields}
use Rattle.refusals.specs.Refusals.{number_of, in_table}
use Rattle.refusals.specs.declared.Rule.{Rule}
use Rattle.refusals.specs.declared.Rule.TheVariants.{DirectoryTags, WrongDirectory}

-- one of the rules of refusals 6 and 7
abbrev OfDirectory : Rule → Type 0
OfDirectory k = (6 ≤ number_of k) × (number_of k ≤ 7) × (in_table k ≡ true)

module _ (d : List ℕ) (n : ℕ) where
  pub directory_good : directory_tagged d ≡ true → directory_right (directory_fields_of d) n ≡ true → directory_header_of d n ≡ Ok (directory_fields_of d)
  unfolding directory_header_of
  directory_good a b = rw (a, b)

  pub directory_rules : (f : DirectoryFields) → directory_header_of d n ≡ Ok f → (f ≡ directory_fields_of d) × (directory_right (directory_fields_of d) n ≡ true) × (directory_tagged d ≡ true)
  unfolding directory_header_of
  directory_rules f = go (directory_tagged d) (directory_right (directory_fields_of d) n)
    where
      go : (a b : Bool) → ◌≡◌ {A = Result DirectoryFields Rule} (cond a (cond b (Ok (directory_fields_of d)) (Err WrongDirectory)) (Err DirectoryTags)) (Ok f) → (f ≡ directory_fields_of d) × (b ≡ true) × (a ≡ true)
      go true true e = (cc, refl, refl)
      go true false e = absurd (let z : ◌≡◌ {A = ℕ} 0 1 = cc in omega arith)
      go false b e = absurd (let z : ◌≡◌ {A = ℕ} 0 1 = cc in omega arith)

  pub directory_refused : (k : Rule) → directory_header_of d n ≡ Err k → (6 ≤ number_of k) × (number_of k ≤ 7) × (in_table k ≡ true)
  unfolding directory_header_of
  directory_refused k = go (directory_tagged d) (directory_right (directory_fields_of d) n)
    where
      go : (a b : Bool) → ◌≡◌ {A = Result DirectoryFields Rule} (cond a (cond b (Ok (directory_fields_of d)) (Err WrongDirectory)) (Err DirectoryTags)) (Err k) → OfDirectory k
      go true true e = absurd (let z : ◌≡◌ {A = ℕ} 0 1 = cc in omega arith)
      go true false e = let z : WrongDirectory ≡ k = cc in subst OfDirectory z (omega arith, omega arith, refl)
      go false b e = let z : DirectoryTags ≡ k = cc in subst OfDirectory z (omega arith, omega arith, refl)
