-- The headers as 32-bit numbers one behind another, as the code writes them.
use Rattle.fields.proofs.Base.{◌≡◌, refl, sym, ap, ap₂, ◌∙◌, List, [], ◌∷◌, ◌++◌, flatten, flat_map, ℕ, zero, suc, ◌+◌, ◌*◌, ◌/◌, ◌%◌, ◌^◌, ◌≤◌, ◌<◌, pow-succ', arith}
use native.Mathlib.Nat.{mul_assoc}
use Rattle.fields.specs.Le.{bytes}
use Rattle.file_header.specs.FileHeader.{file_tag, file_guid}
use Rattle.compose.specs.NewChunk.{word_bytes}
use Rattle.layout.specs.Headers.{file_header, section_zero, directory_header, unknown_word}

-- ---- eight bytes as two numbers of four

-- the lowest bytes of a number do not see what is above them
bytes_low : (k q r : ℕ) → bytes k (r + 256 ^ k * q) ≡ bytes k r
unfolding bytes
bytes_low zero q r = refl
bytes_low (suc k) q r =
    let x = 256 ^ k * q in
    let e : 256 ^ suc k * q ≡ 256 * x = ap (λ (m : ℕ). m * q) (pow-succ' 256 k) ∙ mul_assoc 256 (256 ^ k) q in
    let a : (r + 256 * x) % 256 ≡ r % 256 = omega arith in
    let b : (r + 256 * x) / 256 ≡ r / 256 + x = omega arith in
    ap (λ (m : ℕ). bytes (suc k) (r + m)) e ∙ ap₂ (λ (m n : ℕ). m ∷ bytes k n) a b ∙ ap (λ (l : List ℕ). r % 256 ∷ l) (bytes_low k q (r / 256))

four_mod : (v : ℕ) → bytes 4 (v % 0x1_0000_0000) ≡ bytes 4 v
four_mod v =
    let e : v % 0x1_0000_0000 + 256 ^ 4 * (v / 0x1_0000_0000) ≡ v = omega arith in
    sym (ap (bytes 4) (sym e) ∙ bytes_low 4 (v / 0x1_0000_0000) (v % 0x1_0000_0000))

eight : (v : ℕ) → bytes 8 v ≡ bytes 4 (v % 0x1_0000_0000) ++ bytes 4 (v / 0x1_0000_0000)
unfolding bytes
eight v =
    let e : v / 0x1_0000_0000 ≡ v / 256 / 256 / 256 / 256 = omega arith in
    sym (ap₂ (λ (x : List ℕ) (y : ℕ). x ++ bytes 4 y) (four_mod v) e)

eight_small : (v : ℕ) → v < 0x1_0000_0000 → bytes 8 v ≡ bytes 4 v ++ bytes 4 0
eight_small v h =
    let z : v / 0x1_0000_0000 ≡ 0 = omega arith in
    eight v ∙ ap₂ (λ (x : List ℕ) (y : ℕ). x ++ bytes 4 y) (four_mod v) z

-- ---- the headers

pub file_words : (time language count : ℕ) → count ≤ 4096
    → word_bytes (0x4653_5449 ∷ 3 ∷ 0x60 ∷ 1 ∷ time ∷ language ∷ 0x7C01_FD10 ∷ 0x11D0_7BAA ∷ 0xA000_0C9E ∷ 0xECE6_22C9
    ∷ 0x7C01_FD11 ∷ 0x11D0_7BAA ∷ 0xA000_0C9E ∷ 0xECE6_22C9 ∷ 0x60 ∷ 0 ∷ 24 ∷ 0 ∷ 0x78 ∷ 0 ∷ (84 + 4096 * count) ∷ 0 ∷ (204 + 4096 * count) ∷ 0 ∷ [])
    ≡ file_header time language count
unfolding flat_map file_header bytes flatten
file_words time language count h =
    let F : List ℕ → List ℕ → List ℕ =
    λ x y. flatten (file_tag ∷ bytes 4 3 ∷ bytes 4 0x60 ∷ bytes 4 1 ∷ bytes 4 time ∷ bytes 4 language ∷ file_guid 0x10 ∷ file_guid 0x11 ∷ bytes 8 0x60 ∷ bytes 8 24 ∷ bytes 8 0x78 ∷ x ∷ y ∷ []) in
    sym (ap₂ F (eight_small (84 + 4096 * count) (omega arith)) (eight_small (204 + 4096 * count) (omega arith)))

pub section_words : (size : ℕ) → word_bytes (0x1FE ∷ 0 ∷ (size % 0x1_0000_0000) ∷ (size / 0x1_0000_0000) ∷ 0 ∷ 0 ∷ []) ≡ section_zero size
unfolding flat_map section_zero bytes flatten
section_words size =
    let F : List ℕ → List ℕ = λ x. flatten (bytes 4 0x1FE ∷ bytes 4 0 ∷ x ∷ bytes 4 0 ∷ bytes 4 0 ∷ []) in
    sym (ap F (eight size))

pub directory_words : (language density depth root last count : ℕ)
    → word_bytes (0x5053_5449 ∷ 1 ∷ 0x54 ∷ 0x0A ∷ 4096 ∷ density ∷ depth ∷ root ∷ 0 ∷ last ∷ unknown_word ∷ count ∷ language
    ∷ 0x5D02_926A ∷ 0x11D0_212E ∷ 0xA000_F99D ∷ 0xECE6_22C9 ∷ 0x54 ∷ unknown_word ∷ unknown_word ∷ unknown_word ∷ [])
    ≡ directory_header language density depth root last count
unfolding flat_map directory_header bytes flatten
directory_words language density depth root last count = refl
