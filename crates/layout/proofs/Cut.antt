-- Entries that a new book can have, and a cut of them into listing chunks that fit: `Cut`. The entries of an input that the writer takes, cut as
-- the writer cuts them, are such (`takes_told`).
use Rattle.fields.proofs.Base.{◌≡◌, sym, ap, subst, ◌∙◌, true, ◌&&◌, List, [], ◌∷◌, flatten, ℕ, ◌^◌, ◌≤◌, ◌<◌, arith, length, length-map, ltb, leb, eqb, leb-true, ltb-true}
use Rattle.fields.proofs.Tests.{and_both}
use Rattle.entries.specs.declared.Kind.TheVariants.{Listing}
use Rattle.chunk_fields.specs.ChunkFields.{spacing_of}
use Rattle.entries.specs.Rising.{rising}
use Rattle.entries.specs.Stored.{Stored, stored_of, stored_name}
use Rattle.source.specs.Source.{end_of}
use Rattle.source.specs.Input.{places_of, given, input_right, all_unpadded}
use Rattle.fields.proofs.Lists.{All, all_weaken, all_parts}
use Rattle.source.proofs.Kept.{Kept, given_kept}
use Rattle.pack.specs.Groups.{fits}
use Rattle.pack.specs.Levels.{entry_size, level}
use Rattle.pack.proofs.Groups.{Fit, groups_flat}
use Rattle.pack.proofs.Fitting.{level_fit}
use Rattle.layout.specs.Layout.{takes}
use Rattle.layout.proofs.Sound.{Ordered}

pub record Cut (density content : ℕ) (es : List Stored) (gs : List (List Stored)) : Type 0 where
  pub dense : density ≤ 7
  pub small : content < 2 ^ 62
  pub some : 0 < length es
  pub order : rising stored_name [] es ≡ true
  pub kept : All (Kept content) es
  pub whole : flatten gs ≡ es
  pub fit : All (Fit (entry_size Listing) (fits Listing (spacing_of density))) gs

pub takes_told : (density content : ℕ) (s : List ℕ) → takes density content s ≡ true
    → Cut density content (given content s) (level (spacing_of density) Listing (given content s))
unfolding takes input_right given
takes_told density content s h =
    let n = spacing_of density in
    let es = given content s in
    let a = and_both (leb density 7) (ltb content (2 ^ 62) && input_right content s) h in
    let b = and_both (ltb content (2 ^ 62)) (input_right content s) a.1 in
    let c = and_both (ltb 0 (length (places_of content s))) (eqb (end_of 0 (places_of content s)) (length s) && (all_unpadded s (places_of content s) && rising stored_name [] es)) b.1 in
    let d = and_both (eqb (end_of 0 (places_of content s)) (length s)) (all_unpadded s (places_of content s) && rising stored_name [] es) c.1 in
    let k = given_kept content s in
    record {
      dense = leb-true density 7 a.0;
      small = ltb-true content (2 ^ 62) b.0;
      some = omega (arith, length-map (places_of content s) (stored_of s), ltb-true 0 (length (places_of content s)) c.0);
      order = (and_both (all_unpadded s (places_of content s)) (rising stored_name [] es) d.1).1;
      kept = k;
      whole = groups_flat (entry_size Listing) (fits Listing n) es;
      fit = level_fit n Listing es (all_weaken (λ (e : Stored) (k : Kept content e). k.short) k);
    }

-- ---- its chunks

module _ (density content : ℕ) (es : List Stored) (gs : List (List Stored)) (c : Cut density content es gs) where
  pub cut_kept : All (All (Kept content)) gs
  cut_kept = all_parts gs (subst (All (Kept content)) (sym c.whole) c.kept)

  pub cut_ordered : Ordered gs
  cut_ordered =
      record {
        order = ap (rising stored_name []) c.whole ∙ c.order;
        some = all_weaken (λ (g : List Stored) (f : Fit (entry_size Listing) (fits Listing (spacing_of density)) g). f.some) c.fit;
        named = all_weaken (λ (g : List Stored) (ks : All (Kept content) g). all_weaken (λ (e : Stored) (k : Kept content e). k.some) ks) cut_kept;
        short = all_weaken (λ (g : List Stored) (ks : All (Kept content) g). all_weaken (λ (e : Stored) (k : Kept content e). k.short) ks) cut_kept;
      }

  -- some entries make some chunk
  pub cut_some : 0 < length gs
  unfolding flatten
  cut_some = go gs c.whole
    where
      go : (xs : List (List Stored)) → flatten xs ≡ es → 0 < length xs
      go [] e = absurd (omega (arith, ap length e, c.some))
      go (x ∷ xs) e = omega arith
