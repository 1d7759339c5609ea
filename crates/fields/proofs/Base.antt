-- The words of the logic that most proofs use, passed on from one place: equality, numbers, lists, tests, and what answers a need.
pub use mathlib.Core.Path.{◌≡◌, ◌∙◌, sym, ap, refl, subst, ap₂}
pub use mathlib.Core.Logic.{inr, inl, ◌⊎◌, ⊎_elim, ◌≢◌, ◌↔◌}
pub use mathlib.Core.Bool.{true, false, Bool, cond, ◌&&◌, ◌||◌, not, false≢true}
pub use mathlib.Core.List.{List, [], ◌∷◌, ◌++◌, map, append_assoc, append-nil}
unfoldable pub use mathlib.Core.List.{flat_map, flatten}
pub use Prim.Native.Nat.{ℕ, ◌+◌, ◌<◌, ◌≤◌, ◌-◌, suc, zero, ◌*◌, ◌^◌, ◌/◌, ◌%◌, min}
pub use native.Mathlib.Nat.{add-zero, add-sub_cancel_left, zero-add, pow-suc, pow-le-pow_right, div-eq_of_lt, zero-div, div-zero, div-add-mod', pow-succ', lt_of_lt_of_le, div-le_self, le-div_iff_mul-le, mod-eq_of_lt}
pub use native.Mathlib.Numerals.{add-one, sub-one}
pub use native.Mathlib.Decide.{dec_lt, ℕ_discrete, dec_le}
pub use native.Mathlib.Omega.{arith}
pub use lib.Dec.{eqb, leb, ltb, lit<}
pub use lib.ListN.{length, drop, get_or, take, length-append, set, length-set, replicate, length-drop, length-map, drop_of_length-le, length-replicate, take-append-drop}
pub use lib.Seq.{sets, length-take-le, drop-drop, take_at, get_or-drop, drop_at, drop-append-add, length-sets, take-take, take-append_seam, sets-eq}
pub use borrow.Author.Tests.{eq-eqb, ne_eqb, le-leb, lt-ltb, lt-leb, le-ltb, eqb-true, leb-true, ltb-true, eqb-false, not-true}
pub use borrow.Author.Rules.{rules}
pub use Rattle.std.specs.Prelude.{Option, Some, None, Result, Ok, Err}
pub use Rattle.std.proofs.lemmas.Option.{none-some, same_Some, some_pair_parts, cond_some}
