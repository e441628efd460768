-- The text that lists some bits in each format, and that reading it gives the places of those that are set.
use Rattle.std.specs.Prelude.{◌≡◌, ℕ, ◌+◌, ◌/◌, ◌%◌, ◌^◌, ◌<◌, ◌==◌, Bool, true, false, List, [], ◌∷◌, ◌++◌, length, map, replicate, codes, decimal, if◌then◌else◌, All}
use Rattle.std.specs.List.{flat_map}
use Rattle.fb_records.specs.Records.{Records, at_end}
use Rattle.fb_shots_stim.specs.declared.answer.Kind.{Kind}

-- the places, counted from i, of the bits that are set
abbrev pub ones_from : ℕ → List Bool → List ℕ
ones_from i [] = []
ones_from i (true ∷ bits) = i ∷ ones_from (i + 1) bits
ones_from i (false ∷ bits) = ones_from (i + 1) bits

-- ---- `01`

abbrev pub coded_01 : List Bool → List ℕ
coded_01 bits = map (λ bit. if bit then 49 else 48) bits ++ 10 ∷ []

-- ---- `b8`

-- a byte with its bit at this place
abbrev pub with_bit : ℕ → ℕ → Bool → ℕ
with_bit byte place bit = if bit then byte + 2 ^ place else byte

-- the bytes of some bits, behind those that the first byte has up to this place; zeros fill up the last byte
abbrev pub bytes_from : (byte place : ℕ) → List Bool → List ℕ
bytes_from byte place [] = if place == 0 then [] else byte ∷ []
bytes_from byte place (bit ∷ bits) =
    if place == 7 then with_bit byte place bit ∷ bytes_from 0 0 bits
    else bytes_from (with_bit byte place bit) (place + 1) bits

abbrev pub coded_b8 : List Bool → List ℕ
coded_b8 bits = bytes_from 0 0 bits

-- ---- `dets`: bits of observables, which a reader of detectors ignores

abbrev pub coded_dets : List Bool → List ℕ
coded_dets bits = codes "shot" ++ flat_map (λ k. codes " L" ++ decimal k) (ones_from 0 bits) ++ 10 ∷ []

-- ---- `hits`

-- words with a comma between each two
abbrev pub with_commas : List (List ℕ) → List ℕ
with_commas [] = []
with_commas (word ∷ []) = word
with_commas (word ∷ next ∷ words) = word ++ 44 ∷ with_commas (next ∷ words)

abbrev pub coded_hits : List Bool → List ℕ
coded_hits bits = with_commas (map decimal (ones_from 0 bits)) ++ 10 ∷ []

-- ---- `r8`

-- a run of zeros, before a bit that is set or the end
abbrev pub run_of : ℕ → List ℕ
run_of zeros = replicate (zeros / 255) 255 ++ (zeros % 255) ∷ []

-- the runs of some bits, behind zeros of a run that is begun
abbrev pub runs_from : ℕ → List Bool → List ℕ
runs_from zeros [] = run_of zeros
runs_from zeros (true ∷ bits) = run_of zeros ++ runs_from 0 bits
runs_from zeros (false ∷ bits) = runs_from (zeros + 1) bits

abbrev pub coded_r8 : List Bool → List ℕ
coded_r8 bits = runs_from 0 bits

-- ---- reading back

-- Of shots of n bits, at least one each, a reader gives back the places of the bits that are set, and no more.
abbrev pub ReadsBack : (ℕ → List ℕ → Records (List ℕ) Kind) → (List Bool → List ℕ) → Type 0
ReadsBack records coded =
    (n : ℕ) (shots : List (List Bool)) → 0 < n → n < 2 ^ 32 → All (λ bits. length bits ≡ n) shots
    → records n (flat_map coded shots) ≡ record { shots = map (ones_from 0) shots; ending = at_end }
