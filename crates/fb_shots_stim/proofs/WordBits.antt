-- The set bits of a word: where the next one stands, and which bits a word of bytes has.
use Rattle.std.proofs.Common.{◌≡◌, ℕ, zero, suc, ◌+◌, ◌-◌, ◌*◌, ◌/◌, ◌%◌, ◌^◌, ◌<◌, ◌≤◌, List, [], ◌∷◌, ◌++◌, length, get_or, take, drop, refl, sym, ap, subst, ◌∙◌, inl, inr, arith, add-one}
use Rattle.std.specs.Int.{from_le_bytes, w64}
use Rattle.std.specs.Int.Count.{count_trailing_zeros, under}
use Rattle.std.proofs.Math.Nat.{div-one, mul_assoc}
use Rattle.std.proofs.Math.Pow.{pow_mono}
use Rattle.std.proofs.lemmas.Bool.{cases_eq}
use Rattle.std.proofs.lemmas.Nat.{shr-shr, shr_below, pow-add}
use Rattle.std.proofs.lemmas.List.{take_all}
use Rattle.fb_shots_stim.specs.Shots.{places_from}
use Rattle.fb_shots_stim.specs.BlocksB8.{low_bits, bits_of, is_set}

-- ---- the next set bit

-- the lowest set bit of a number stands z places above `place`, and these are left above it
abbrev pub IsNextSet : (count place left z : ℕ) → Type 0
IsNextSet count place left z =
    (z < count) × (left / 2 ^ z / 2 < 2 ^ (count - (z + 1)))
    × (places_from is_set place (low_bits count left) ≡ (place + z) ∷ places_from is_set (place + z + 1) (low_bits (count - (z + 1)) (left / 2 ^ z / 2)))

set_places : (a b j k m n : ℕ) → a ≡ b → j ≡ k → m ≡ n → a ∷ places_from is_set (a + 1) (low_bits j m) ≡ b ∷ places_from is_set (b + 1) (low_bits k n)
set_places a b j k m n e f h = rw (e, f, h) refl

set_here : (count place left : ℕ) → left % 2 ≡ 1 → left < 2 ^ suc count → IsNextSet (suc count) place left 0
unfolding low_bits
set_here count place left e lt =
    let below : left < 2 ^ (count + 1) = rw add-one lt in
    let rest : left / 2 ≡ left / 2 ^ 0 / 2 = ap (λ (n : ℕ). n / 2) (sym (div-one left)) in
    let size : count ≡ suc count - (0 + 1) = omega arith in (
      omega arith,
      subst (λ (k : ℕ). left / 2 ^ 0 / 2 < 2 ^ k) size (subst (λ (n : ℕ). n < 2 ^ count) rest (shr_below left count 1 below)),
      rw e (set_places place (place + 0) count (suc count - (0 + 1)) (left / 2) (left / 2 ^ 0 / 2) (omega arith) size rest),
    )

set_above : (count place left z : ℕ) → left % 2 ≡ 0 → IsNextSet count (place + 1) (left / 2) z → IsNextSet (suc count) place left (suc z)
unfolding low_bits
set_above count place left z e next =
    let rest : left / 2 / 2 ^ z / 2 ≡ left / 2 ^ suc z / 2 = ap (λ (n : ℕ). n / 2) (shr-shr left 1 z ∙ ap (λ (j : ℕ). left / 2 ^ j) (omega arith)) in
    let size : count - (z + 1) ≡ suc count - (suc z + 1) = omega arith in (
      omega (arith, next.0),
      subst (λ (k : ℕ). left / 2 ^ suc z / 2 < 2 ^ k) size (subst (λ (n : ℕ). n < 2 ^ (count - (z + 1))) rest next.1),
      rw e (next.2 ∙ set_places (place + 1 + z) (place + suc z) (count - (z + 1)) (suc count - (suc z + 1)) _ _ (omega arith) size rest),
    )

-- the lowest set bit of a number, and those above it
pub next_set : (count width place left : ℕ) → 0 < left → left < 2 ^ count → count ≤ width → IsNextSet count place left (count_trailing_zeros width left)
unfolding count_trailing_zeros
next_set zero width place left some lt le = absurd (omega arith)
next_set (suc count) zero place left some lt le = absurd (omega arith)
next_set (suc count) (suc width) place left some lt le = elim (cases_eq (left % 2) 1) [
  | inl e ↦
      subst (IsNextSet (suc count) place left) (ap (λ (d : ℕ). under d (count_trailing_zeros width (left / 2))) (sym e)) (set_here count place left e lt)
  | inr e ↦
      let even : left % 2 ≡ 0 = omega arith in
      let below : left < 2 ^ (count + 1) = rw add-one lt in
      let above = next_set count width (place + 1) (left / 2) (omega arith) (shr_below left count 1 below) (omega arith) in
      subst (IsNextSet (suc count) place left) (ap (λ (d : ℕ). under d (count_trailing_zeros width (left / 2))) (sym even))
      (set_above count place left (count_trailing_zeros width (left / 2)) even above)
]

-- ---- a word of bytes

-- the lowest bits of a number by its lowest j and those above them
pub low_append : (j k b above m : ℕ) → b < 2 ^ j → m ≡ b + above * 2 ^ j → low_bits (j + k) m ≡ low_bits j b ++ low_bits k above
unfolding low_bits
low_append zero k b above m lt e =
    let none : 0 + k ≡ k = omega arith in
    let same : m ≡ above = omega arith in
    ap (λ (c : ℕ). low_bits c m) none ∙ ap (low_bits k) same
low_append (suc j) k b above m lt e =
    let below : b < 2 ^ (j + 1) = rw add-one lt in
    let q = above * 2 ^ j in
    let twice : above * 2 ^ suc j ≡ q * 2 =
    ap (λ (k : ℕ). above * 2 ^ k) (sym (add-one j)) ∙ ap (λ (p : ℕ). above * p) (pow-add 2 j 1) ∙ sym (mul_assoc above (2 ^ j) 2) in
    let parity : m % 2 ≡ b % 2 = omega arith in
    let half : m / 2 ≡ b / 2 + q = omega arith in
    let sum : suc j + k ≡ suc (j + k) = omega arith in
    ap (λ (c : ℕ). low_bits c m) sum
    ∙ ap (λ (d : ℕ). d ∷ low_bits (j + k) (m / 2)) parity
    ∙ ap (λ (l : List ℕ). b % 2 ∷ l) (low_append j k (b / 2) above (m / 2) (shr_below b j 1 below) half)

-- a byte below a word
byte_more : (b : ℕ) (bytes : List ℕ) (above : ℕ) → b < 256 → low_bits (length bytes * 8) above ≡ bits_of bytes
    → low_bits (length (b ∷ bytes) * 8) (b + above * 256) ≡ bits_of (b ∷ bytes)
byte_more b bytes above lt e =
    let size : length (b ∷ bytes) * 8 ≡ 8 + length bytes * 8 = omega arith in
    ap (λ (k : ℕ). low_bits k (b + above * 256)) size
    ∙ low_append 8 (length bytes * 8) b above (b + above * 256) lt refl
    ∙ ap (λ (l : List ℕ). low_bits 8 b ++ l) e

byte_more_below : (b count above : ℕ) → b < 256 → above < 2 ^ (count * 8) → b + above * 256 < 2 ^ (suc count * 8)
byte_more_below b count above lt below =
    let size : suc count * 8 ≡ count * 8 + 8 = omega arith in
    let all : 2 ^ (suc count * 8) ≡ 2 ^ (count * 8) * 256 = ap (λ (k : ℕ). 2 ^ k) size ∙ pow-add 2 (count * 8) 8 in
    omega arith

-- the first byte below a word of those after it
pub word_more : (bytes : List ℕ) (above : ℕ) → 0 < length bytes → get_or bytes 0 0 < 256
    → low_bits (length (take (length bytes - 1) (drop 1 bytes)) * 8) above ≡ bits_of (take (length bytes - 1) (drop 1 bytes))
    → above < 2 ^ (length (take (length bytes - 1) (drop 1 bytes)) * 8)
    → (low_bits (length bytes * 8) (get_or bytes 0 0 + above * 256) ≡ bits_of bytes) × (get_or bytes 0 0 + above * 256 < 2 ^ (length bytes * 8))
word_more [] above some byte bits below = absurd (omega arith)
word_more (b ∷ bytes) above some byte bits below =
    let rest : take (length (b ∷ bytes) - 1) bytes ≡ bytes = take_all (length (b ∷ bytes) - 1) bytes (omega arith) in (
      byte_more b bytes above byte (subst (λ (l : List ℕ). low_bits (length l * 8) above ≡ bits_of l) rest bits),
      byte_more_below b (length bytes) above byte (subst (λ (l : List ℕ). above < 2 ^ (length l * 8)) rest below),
    )

pub no_bits : (bytes : List ℕ) → length bytes ≡ 0 → low_bits (length bytes * 8) 0 ≡ bits_of bytes
unfolding low_bits
no_bits [] e = refl
no_bits (b ∷ bytes) e = absurd (omega arith)

-- a word of at most eight bytes
pub fits_word : (count n : ℕ) → count ≤ 8 → n < 2 ^ (count * 8) → n < 2 ^ 64
fits_word count n le lt =
    let most : count * 8 ≤ 64 = omega arith in
    let grows : 2 ^ (count * 8) ≤ 2 ^ 64 = pow_mono most in
    omega arith

-- the number that bytes make, the least significant first
abbrev number_of : List ℕ → ℕ
number_of [] = 0
number_of (b ∷ bytes) = b + number_of bytes * 256

number_bits : (bytes : List ℕ) → ((i : ℕ) → get_or bytes i 0 < 256) → (low_bits (length bytes * 8) (number_of bytes) ≡ bits_of bytes) × (number_of bytes < 2 ^ (length bytes * 8))
unfolding low_bits
number_bits [] small = (refl, omega arith)
number_bits (b ∷ bytes) small =
    let more = number_bits bytes (λ i. small (suc i)) in
    (byte_more b bytes (number_of bytes) (small 0) more.0, byte_more_below b (length bytes) (number_of bytes) (small 0) more.1)

number_8 : (bytes : List ℕ) → length bytes ≡ 8 → from_le_bytes w64 bytes ≡ number_of bytes
number_8 (a ∷ b ∷ c ∷ d ∷ e ∷ f ∷ g ∷ h ∷ []) size =
    let bytes = a ∷ b ∷ c ∷ d ∷ e ∷ f ∷ g ∷ h ∷ [] in
    let sum : from_le_bytes w64 bytes
    ≡ a + b * 256 ^ 1 + c * 256 ^ 2 + d * 256 ^ 3 + e * 256 ^ 4 + f * 256 ^ 5 + g * 256 ^ 6 + h * 256 ^ 7 = refl in
    let nested : number_of bytes ≡ a + (b + (c + (d + (e + (f + (g + (h + 0 * 256) * 256) * 256) * 256) * 256) * 256) * 256) * 256 = refl in
    omega arith
number_8 [] size = absurd (omega arith)
number_8 (a ∷ []) size = absurd (omega arith)
number_8 (a ∷ b ∷ []) size = absurd (omega arith)
number_8 (a ∷ b ∷ c ∷ []) size = absurd (omega arith)
number_8 (a ∷ b ∷ c ∷ d ∷ []) size = absurd (omega arith)
number_8 (a ∷ b ∷ c ∷ d ∷ e ∷ []) size = absurd (omega arith)
number_8 (a ∷ b ∷ c ∷ d ∷ e ∷ f ∷ []) size = absurd (omega arith)
number_8 (a ∷ b ∷ c ∷ d ∷ e ∷ f ∷ g ∷ []) size = absurd (omega arith)
number_8 (a ∷ b ∷ c ∷ d ∷ e ∷ f ∷ g ∷ h ∷ i ∷ more) size = absurd (omega arith)

-- the bits of eight bytes
pub whole_word : (bytes : List ℕ) → length bytes ≡ 8 → ((i : ℕ) → get_or bytes i 0 < 256)
    → (low_bits (length bytes * 8) (from_le_bytes w64 bytes) ≡ bits_of bytes) × (from_le_bytes w64 bytes < 2 ^ (length bytes * 8))
whole_word bytes size small =
    subst (λ (n : ℕ). (low_bits (length bytes * 8) n ≡ bits_of bytes) × (n < 2 ^ (length bytes * 8))) (sym (number_8 bytes size)) (number_bits bytes small)
