-- The format `b8` of Stim's result formats: a block of bytes for each shot, a bit for each detector.
use Rattle.std.specs.Prelude.{ℕ, zero, suc, ◌+◌, ◌/◌, ◌%◌, ◌==◌, Bool, List, [], ◌∷◌, length, take, drop, if◌then◌else◌, Some, Ok, Err}
use Rattle.std.specs.List.{list_any, flat_map}
use Rattle.fb_shots_stim.specs.declared.answer.Kind.{Kind}
use Rattle.fb_shots_stim.specs.declared.answer.Kind.TheVariants.{ShortRecord, LongRecord, PaddingBit}
use Rattle.fb_records.specs.Records.{at_end, still_open, refused, Records, only, Judged, go_down}
use Rattle.fb_shots_stim.specs.Shots.{places_from}

-- how many bytes have a bit for each of n detectors
abbrev pub block_len : ℕ → ℕ
block_len n = (n + 7) / 8

-- the `count` lowest bits of a number, the least significant first
unfoldable pub low_bits : ℕ → ℕ → List ℕ
low_bits zero b = []
low_bits (suc count) b = (b % 2) ∷ low_bits count (b / 2)

-- the bits of a block, the first byte's first
abbrev pub bits_of : List ℕ → List ℕ
bits_of block = flat_map (low_bits 8) block

abbrev pub is_set : ℕ → Bool
is_set bit = bit == 1

-- A block of n detectors. The bits after theirs only fill up the last byte.
abbrev pub block_b8 : ℕ → List ℕ → Judged (List ℕ) Kind
block_b8 n block =
    if list_any is_set (drop n (bits_of block)) then Err PaddingBit
    else Ok (Some (places_from is_set 0 (take n (bits_of block))))

-- `count` blocks of `size` bytes each, from the first byte on
abbrev pub blocks : ℕ → ℕ → List ℕ → List (List ℕ)
blocks size zero bytes = []
blocks size (suc count) bytes = take size bytes ∷ blocks size count (drop size bytes)

-- the blocks of which some bytes hold every byte
abbrev pub whole_blocks : ℕ → List ℕ → List (List ℕ)
whole_blocks size bytes = blocks size (length bytes / size) bytes

-- What a whole input holds. A record of no detectors would have no bytes, so none is there, and each byte is one too many.
abbrev pub records_b8 : ℕ → List ℕ → Records (List ℕ) Kind
records_b8 zero [] = only at_end
records_b8 zero (b ∷ bytes) = only (refused LongRecord)
records_b8 (suc n) bytes =
    go_down (block_b8 (suc n)) (whole_blocks (block_len (suc n)) bytes)
    (if length bytes % block_len (suc n) == 0 then at_end else refused ShortRecord)

-- what is settled by a prefix of an input
abbrev pub prefix_b8 : ℕ → List ℕ → Records (List ℕ) Kind
prefix_b8 zero [] = only still_open
prefix_b8 zero (b ∷ bytes) = only (refused LongRecord)
prefix_b8 (suc n) bytes = go_down (block_b8 (suc n)) (whole_blocks (block_len (suc n)) bytes) still_open
