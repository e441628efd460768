-- Files and a sink in memory, as contracts see them.
use Rattle.std.specs.Prelude.{ℕ, ◌+◌, ◌-◌, ◌^◌, min, Bool, List, [], ◌∷◌, Option, None, Some, nat_eq, drop, length, ◌<◌, ◌≤◌, slice_index_or, if◌then◌else◌}
use Rattle.std.specs.List.{list_any}
use Rattle.std.specs.Option.{ForSome}
use Rattle.std.specs.Str.{bytes_eq}

-- Files in memory. `files` are names with their bytes, `left` is what is left of the current file, `asked` the names
-- that were asked for, oldest first. Opens and reads are counted together in `calls`, `failing` lists the numbers, from
-- 1, of the calls that are to fail, and a read gives at most `most` bytes.
pub record FilesInMemory : Type 0 where
  pub files : List (List ℕ × List ℕ)
  pub left : List ℕ
  pub asked : List (List ℕ)
  pub failing : List ℕ
  pub calls : ℕ
  pub most : ℕ
  pub faults : ℕ

-- A sink in memory. It has taken `taken` and takes `room` bytes in all. Puts of pieces that are not empty are counted in
-- `calls`, `failing` lists the numbers, from 1, of the puts that are to fail, and a put takes at most `most` bytes.
pub record SinkInMemory : Type 0 where
  pub taken : List ℕ
  pub room : ℕ
  pub failing : List ℕ
  pub calls : ℕ
  pub most : ℕ
  pub faults : ℕ

-- the bytes of the first file of this name
abbrev pub bytes_named : List (List ℕ × List ℕ) → List ℕ → Option (List ℕ)
bytes_named [] name = None
bytes_named (f ∷ fs) name = if bytes_eq f.0 name then Some f.1 else bytes_named fs name

-- the bytes of the file at this place
abbrev pub bytes_at : List (List ℕ × List ℕ) → ℕ → List ℕ
bytes_at files i = (slice_index_or files i ([], [])).1

-- what is left of the current file, of which bytes before place `at` were read; nothing if no file is current
abbrev pub rest_of : List (List ℕ × List ℕ) → Option ℕ → ℕ → List ℕ
rest_of files None at = []
rest_of files (Some i) at = drop at (bytes_at files i)

-- the current file is one of the files, and no byte past its end was read
abbrev pub IsPlaceIn : List (List ℕ × List ℕ) → Option ℕ → ℕ → Type 0
IsPlaceIn files current at = ForSome current (λ i. (i < length files) × (at ≤ length (bytes_at files i)))

-- no file, nothing asked for, no call that is to fail
abbrev pub no_files : ℕ → FilesInMemory
no_files most = record { files = []; left = []; asked = []; failing = []; calls = 0; most = most; faults = 0 }

-- a sink that has taken nothing, and no put that is to fail
abbrev pub empty_sink : ℕ → ℕ → SinkInMemory
empty_sink room most = record { taken = []; room = room; failing = []; calls = 0; most = most; faults = 0 }

-- a count after one more; it stays at the greatest number of 64 bits
abbrev pub one_more : ℕ → ℕ
one_more n = min (n + 1) (2 ^ 64 - 1)

-- whether the call after n others is one of those that are to fail
abbrev pub is_to_fail : List ℕ → ℕ → Bool
is_to_fail failing n = list_any (nat_eq (one_more n)) failing
