-- The names of a listing chunk's entries stand in the chunk, where the entries say.
use Rattle.fields.proofs.Base.{◌≡◌, sym, ap, subst, List, ℕ, zero, suc, ◌+◌, ◌≤◌, arith, length}
use Rattle.fields.specs.Part.{part}
use Rattle.fields.proofs.Parts.{length_part}
use Rattle.entries.specs.declared.Limits.{Limits}
use Rattle.entries.specs.declared.Kind.TheVariants.{Listing}
use Rattle.entries.proofs.Laws.{item_inside}
use Rattle.entries.specs.Entry.{Entry}
use Rattle.chunk.specs.Chunk.{all, entries_at}
use Rattle.chunk.proofs.Accepted.{entries_more, entries_none}
use Rattle.fields.proofs.Lists.{All, none, more}

-- the name stands inside the chunk s, where the entry says
pub record There (s : List ℕ) (e : Entry) : Type 0 where
  pub inside : e.start + length e.name ≤ length s
  pub bytes : part s e.start (length e.name) ≡ e.name

pub names_there : (limits : Limits) (s : List ℕ) (end n at : ℕ) (es : List Entry) → entries_at limits Listing s end n at ≡ all es → All (There s) es
names_there limits s end zero at es e = subst (All (There s)) (sym (entries_none limits Listing s end at es e)) none
names_there limits s end (suc n) at es e =
    let m = entries_more limits Listing s end n at es e in
    let p = m.0 in
    let r = (item_inside limits Listing s at p m.2).name in
    let l = length_part s p.start p.len r in
    subst (All (There s)) (sym m.3)
    (more (record { inside = omega (arith, r); bytes = ap (λ (k : ℕ). part s p.start k) l })
    (names_there limits s end n p.next m.1 m.4))
