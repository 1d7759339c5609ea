-- Digits as they are written: those of the bytes that are left make the whole.
use Rattle.fields.proofs.Base.{◌≡◌, refl, List, ◌∷◌, flat_map, ℕ, suc, ◌+◌, ◌*◌, ◌/◌, ◌%◌, ◌≤◌, ◌<◌, arith, length, get_or, drop, set, length-set, drop_of_length-le, sets}
use Rattle.fields.proofs.Parts.{drop_more}
use Rattle.frames.specs.Hex.{hex_digit, hex_of}

-- before byte i is written, in the list that was t₀
pub record Left (bytes t₀ t : List ℕ) (i : ℕ) : Type 0 where
  pub size : length t ≡ length t₀
  pub whole : sets t (2 * i) (hex_of (drop i bytes)) ≡ sets t₀ 0 (hex_of bytes)

pub left_start : (bytes t : List ℕ) → Left bytes t t 0
left_start bytes t = record { size = refl; whole = refl }

pub left_turn : (bytes t₀ t : List ℕ) (i x y : ℕ) → Left bytes t₀ t i → i < length bytes → x ≡ hex_digit (get_or bytes i 0 / 16) → y ≡ hex_digit (get_or bytes i 0 % 16)
    → Left bytes t₀ (set (set t (2 * i) x) (2 * i + 1) y) (i + 1)
unfolding hex_of flat_map
left_turn bytes t₀ t i x y h l p q =
    let u : List ℕ = set (set t (2 * i) x) (2 * i + 1) y in
    let k : 2 * i + 1 ≡ suc (2 * i) = omega arith in
    let m : 2 * (i + 1) ≡ suc (suc (2 * i)) = omega arith in
    let w : sets t (2 * i) (hex_digit (get_or bytes i 0 / 16) ∷ hex_digit (get_or bytes i 0 % 16) ∷ hex_of (drop (i + 1) bytes)) ≡ sets t₀ 0 (hex_of bytes) =
    rw (drop_more bytes i l) at h.whole in
    record { size = simp length-set h.size; whole = rw (m, k, p, q) w }

pub left_end : (bytes t₀ t : List ℕ) (i : ℕ) → Left bytes t₀ t i → length bytes ≤ i → t ≡ sets t₀ 0 (hex_of bytes)
unfolding hex_of flat_map
left_end bytes t₀ t i h l = rw (drop_of_length-le bytes {i = i} l) at h.whole
