-- A bad chunk breaks one of the rules 8 to 12: `chunk_refused`, and `check_refused` of the answer on it.
use Rattle.fields.proofs.Base.{◌≡◌, refl, subst, Bool, true, false, cond, List, [], ℕ, ◌-◌, ◌≤◌, arith, length, eqb, Err}
use Rattle.fields.specs.Same.{stands_at}
use Rattle.refusals.specs.Refusals.{number_of, in_table}
use Rattle.entries.specs.declared.Limits.{Limits}
use Rattle.entries.specs.declared.Kind.{Kind}
use Rattle.entries.specs.declared.Kind.TheVariants.{Listing, Index}
use Rattle.entries.specs.Rising.{rising}
use Rattle.entries.specs.Entry.{entry_name}
use Rattle.chunk.specs.Chunk.{Entries, broken, all, Parsed, bad, parsed_with, entries_at, quick, framed, checked_entries, parsed_as, parsed, listing, index}
use Rattle.chunk.specs.Answer.{chunk_of}
use Rattle.chunk_fields.specs.ChunkFields.{tag_of, first_place, entry_count, tail_length, spacing_of}
use Rattle.refusals.specs.declared.Rule.TheVariants.{ChunkTag, ChunkFrame, QuickWords, NameOrder}
use Rattle.refusals.specs.declared.Rule.{Rule}

-- one of the rules of refusals 8 to 12, where it is bad
abbrev OfChunk : Parsed → Type 0
OfChunk (bad n) = (8 ≤ number_of n) × (number_of n ≤ 12) × (in_table n ≡ true)
OfChunk (listing prev next es) = Unit {0}
OfChunk (index es) = Unit {0}

made_table : (k : Kind) (s : List ℕ) (es : List _) → OfChunk (parsed_with k s es)
made_table Listing s es = tt
made_table Index s es = tt

judged_table : (n : ℕ) (k : Kind) (s : List ℕ) (r : Entries) → OfChunk (checked_entries n k s r)
unfolding checked_entries
judged_table n k s broken = (omega arith, omega arith, refl)
judged_table n k s (all es) = go (rising entry_name [] es) (quick s n (first_place k) 0 es)
  where
    go : (a b : Bool) → OfChunk (cond a (cond b (parsed_with k s es) (bad QuickWords)) (bad NameOrder))
    go true true = made_table k s es
    go true false = (omega arith, omega arith, refl)
    go false b = (omega arith, omega arith, refl)

as_table : (n : ℕ) (limits : Limits) (k : Kind) (s : List ℕ) → OfChunk (parsed_as n limits k s)
unfolding parsed_as
as_table n limits k s = go (framed n k s)
  where
    go : (t : Bool) → OfChunk (cond t (checked_entries n k s (entries_at limits k s (4096 - tail_length s) (entry_count s) (first_place k))) (bad ChunkFrame))
    go true = judged_table n k s (entries_at limits k s (4096 - tail_length s) (entry_count s) (first_place k))
    go false = (omega arith, omega arith, refl)

fault_table : (limits : Limits) (s : List ℕ) → OfChunk (parsed limits s)
unfolding parsed
fault_table limits s = go (eqb (length s) 4096) (stands_at s 0 (tag_of Listing)) (stands_at s 0 (tag_of Index))
  where
    whole : Kind → Parsed
    whole k = parsed_as (spacing_of limits.density) limits k s

    go : (a b c : Bool) → OfChunk (cond a (cond b (whole Listing) (cond c (whole Index) (bad ChunkTag))) (bad ChunkTag))
    go true true c = as_table _ limits Listing s
    go true false true = as_table _ limits Index s
    go true false false = (omega arith, omega arith, refl)
    go false b c = (omega arith, omega arith, refl)

pub chunk_refused : (limits : Limits) (s : List ℕ) (n : Rule) → parsed limits s ≡ bad n → (8 ≤ number_of n) × (number_of n ≤ 12) × (in_table n ≡ true)
chunk_refused limits s n e = subst OfChunk e (fault_table limits s)

pub check_refused : (limits : Limits) (s : List ℕ) (n : Rule) → chunk_of (parsed limits s) ≡ Err n → (8 ≤ number_of n) × (number_of n ≤ 12) × (in_table n ≡ true)
check_refused limits s n e = go (parsed limits s) refl e
  where
    go : (p : Parsed) → parsed limits s ≡ p → chunk_of p ≡ Err n → (8 ≤ number_of n) × (number_of n ≤ 12) × (in_table n ≡ true)
    go (bad m) q d = let z : m ≡ n = cc in chunk_refused limits s n (subst (λ (r : Rule). parsed limits s ≡ bad r) z q)
    go (listing a b es) q d = absurd (let z : ◌≡◌ {A = ℕ} 0 1 = cc in omega arith)
    go (index es) q d = absurd (let z : ◌≡◌ {A = ℕ} 0 1 = cc in omega arith)
