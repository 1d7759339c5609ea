use Rattle.fields.proofs.Base.{◌≡◌, List, ℕ, refl, Option, Some, None}
use Rattle.names.specs.Names.{compared}
use Rattle.entries.specs.declared.Limits.{Limits}
use Rattle.entries.specs.declared.Place.{Place}
use Rattle.entries.specs.declared.Kind.TheVariants.{Listing}
use Rattle.seek.specs.Seek.{find_in}
use Rattle.seek.specs.Count.{cost_in}
use Rattle.seek.specs.declared.Searched.{Searched}
use Rattle.header.specs.declared.Record.{Record}
use Rattle.book.specs.Book.{limits_of, chunk_bytes}
use Rattle.search.specs.Search.{finding_of, finding_in}
use Rattle.search.proofs.find_in.Goals as goal

-- the finding of a search in the bytes b, held to l, whose answer x has the place o or none
finding_is : (s : List ℕ) (r : Record) (name : List ℕ) (c : ℕ) (l : Limits) (b : List ℕ) (x : Searched (Option Place)) (o : Option Place) → l ≡ limits_of s r
    → b ≡ chunk_bytes s r c → x ≡ record { answer = find_in l b (compared name); count = cost_in l Listing b (compared name) } → x.answer ≡ o
    → finding_of s r c x.count o ≡ finding_in s r name c
unfolding finding_in
finding_is s r name c l b x o p q e g = rw (← g, ← p, ← q, e) refl

pub returns-in_default : goal.returns-in_default
returns-in_default c =
    let a = c.args in
    finding_is a.file.now a.book a.name.now a.c _ _ c.find-found.result None c.limits.ensures c.chunk_bytes-bytes.ensures c.find-found.ensures c.in_default.is

pub returns : goal.returns
returns c =
    let a = c.args in
    rw c.report_of.ensures
    (finding_is a.file.now a.book a.name.now a.c _ _ c.find-found.result (Some _) c.limits.ensures c.chunk_bytes-bytes.ensures c.find-found.ensures c.in-Some.is)
