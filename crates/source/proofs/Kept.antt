-- What every entry keeps that the writer is given (FORMAT E3 to E6).
use Rattle.fields.proofs.Base.{◌≡◌, List, true, ◌||◌, ℕ, ◌+◌, ◌^◌, ◌≤◌, ◌<◌, arith, length, ltb, leb, Some}
use Rattle.fields.proofs.Parts.{length_part}
use Rattle.encint.proofs.Reading.{encint_small}
use Rattle.entries.specs.Entry.{listing_at}
use Rattle.entries.specs.declared.Place.{Place}
use Rattle.entries.proofs.Laws.{name_next, listing_apart}
use Rattle.entries.specs.Stored.{Stored, stored_of}
use Rattle.source.specs.Input.{given}
use Rattle.fields.proofs.Lists.{All, all_map}
use Rattle.source.proofs.Rows.{run_all}

pub record Kept (content : ℕ) (e : Stored) : Type 0 where
  pub some : 0 < length e.name
  pub short : length e.name ≤ 1024
  pub section : e.section ≤ 65535
  pub offset : e.offset < 2 ^ 63
  pub size : e.size < 2 ^ 63
  pub within : (ltb 0 e.section || leb (e.offset + e.size) content) ≡ true
  pub childless : e.child ≡ 0

module _ (content : ℕ) (s : List ℕ) where
  kept_one : (at : ℕ) (e : Place) → listing_at content s at ≡ Some e → Kept content (stored_of s e)
  kept_one at e q =
      let a = listing_apart content s at e q in
      let n = name_next s at e.len e.start a.name in
      let l = length_part s e.start e.len n.2 in
      record {
        some = omega (arith, n.0);
        short = omega (arith, n.1);
        section = a.numbered;
        offset = encint_small s a.p₁ a.offset;
        size = encint_small s a.p₂ a.size;
        within = a.within;
        childless = a.childless;
      }

  pub given_kept : All (Kept content) (given content s)
  unfolding given
  given_kept = all_map (stored_of s) (run_all (listing_at content s) (λ e. Kept content (stored_of s e)) kept_one (length s) 0)
