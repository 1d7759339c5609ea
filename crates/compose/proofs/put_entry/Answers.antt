use Rattle.fields.proofs.Base.{◌≡◌, sym, ap, ◌∙◌, List, ◌++◌, ℕ, ◌+◌, ◌≤◌, arith, length, length-append, sets}
use Rattle.fields.specs.Part.{part}
use Rattle.fields.proofs.Parts.{length_part}
use Rattle.put.proofs.Put.{sets_then}
use Rattle.encint.specs.Encint.{encoded}
use Rattle.compose.proofs.Words.{written}
use Rattle.compose.proofs.Entries.{size_name, size_listing, size_index, bytes_listing, bytes_index}
use Rattle.compose.proofs.put_entry.Goals as goal

-- the place behind a name
name_end : (at n : ℕ) (s : List ℕ) (start : ℕ) → start + n ≤ length s → at + length (encoded n) + n ≡ at + length (encoded n ++ part s start n)
name_end at n s start h = omega (arith, length-append (encoded n) (part s start n), length_part s start n h)

pub put_name-from-requires : goal.put_name-from-requires
put_name-from-requires c = let a = c.args in (omega (arith, c.requires.0, size_name a.kind a.e), c.requires.1)

pub put_numbers-requires : goal.put_numbers-requires
put_numbers-requires c = let a = c.args in omega (arith, c.requires.0, size_listing a.kind a.e c.in-Listing.is, c.put_name-from.ensures.0, c.put_name-from.auto.out)

pub returns-in-Listing : goal.returns-in-Listing
returns-in-Listing c = let a = c.args in
    let x = c.put_name-from.ensures in
    let y = c.put_numbers.ensures in
    let k = c.in-Listing.is in
    let name : List ℕ = encoded a.e.len ++ part a.input.now a.e.start a.e.len in
    let numbers : List ℕ = encoded a.e.section ++ (encoded a.e.offset ++ encoded a.e.size) in
    sets_then a.at _ name numbers a.out.now _ _ x.1 (x.0 ∙ name_end a.at a.e.len a.input.now a.e.start c.requires.1) y
    ∙ ap (sets a.out.now a.at) (sym (bytes_listing a.kind a.input.now a.e c.requires.1 k))

pub returns-in-Index : goal.returns-in-Index
returns-in-Index c =
    let child_at : let a = c.args in
    (c.write.result ≡ length (encoded a.e.child)) × (c.write.new.out ≡ sets c.put_name-from.new.out c.put_name-from.result (encoded a.e.child)) =
    let a = c.args in
    written c.put_name-from.new.out c.put_name-from.result a.e.child _ _
    (omega (arith, c.requires.0, size_index a.kind a.e c.in-Index.is, c.put_name-from.ensures.0, c.put_name-from.auto.out)) c.write.ensures.count c.write.ensures.bytes in
    let a = c.args in
    let x = c.put_name-from.ensures in
    let y = child_at in
    let k = c.in-Index.is in
    let name : List ℕ = encoded a.e.len ++ part a.input.now a.e.start a.e.len in
    sets_then a.at _ name (encoded a.e.child) a.out.now _ _ x.1 (x.0 ∙ name_end a.at a.e.len a.input.now a.e.start c.requires.1) y.1
    ∙ ap (sets a.out.now a.at) (sym (bytes_index a.kind a.input.now a.e c.requires.1 k))
