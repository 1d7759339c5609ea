-- A read into the rest of a buffer: the front of the buffer stays, and what was read stands behind it.
use Rattle.std.proofs.Common.{◌≡◌, ℕ, ◌+◌, ◌-◌, ◌≤◌, List, ◌++◌, length, take, drop, sym, ap, ◌∙◌, le_refl, drop_at, length-take-le}
use Rattle.std.proofs.lemmas.Slice.{take-put_mid_below}
use borrow.Rule.Slice.PartMut.{put_mid, post_of}
use lib.Seq.{take-add, take-append-le}

-- the read bytes, behind the front
pub front_grown : (from n : ℕ) (buf got : List ℕ) → from ≤ length buf → n ≤ length got
    → take from buf ++ take n got ≡ take (from + n) (put_mid from (length buf - from) buf got)
front_grown from n buf got low fits =
    let room = length buf - from in
    let new = put_mid from room buf got in
    let front : take from new ≡ take from buf = take-put_mid_below _ _ _ _ _ (le_refl _) low in
    let here : take n (drop from new) ≡ take n got =
    ap (take n) (drop_at (take from buf) (got ++ post_of from room buf) from (length-take-le from buf low)) ∙ take-append-le n got (post_of from room buf) fits in
    ap (λ l. l ++ take n got) (sym front) ∙ ap (λ l. take from new ++ l) (sym here) ∙ sym (take-add from n new)
