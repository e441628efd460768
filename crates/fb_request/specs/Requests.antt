-- What a command line may ask for: a request for each command, without the memory that its texts lie in.
use Rattle.std.specs.Prelude.{ℕ, Bool, List, Option, ⊤}
use Rattle.fb_request.specs.Ranges.{IsWithin}
use Rattle.fb_request.specs.Ranges as ranges
use Rattle.fb_request.specs.declared.coding.Coding.{Coding}
use Rattle.fb_request.specs.declared.format.Format.{Format}

-- What `decode` asks for: the names of the graph, of the plan if one is given, and of the shots, and their format; how
-- many workers solve parts side by side, and how many shots are solved at once; whether a trace is written.
pub record Decoding : Type 0 where
  pub graph : List ℕ
  pub plan : Option (List ℕ)
  pub shots : List ℕ
  pub format : Format
  pub workers : ℕ
  pub window : ℕ
  pub trace : Bool

-- what `check` asks for: the same, and the name of the report
pub record Checking : Type 0 where
  pub graph : List ℕ
  pub shots : List ℕ
  pub format : Format
  pub report : List ℕ

-- What `sample` asks for: the distance and the rounds of the lattice, and the units of its plan; the rate at which edges
-- are hit (of 1,048,576), the state at which the draws start, and how many shots are drawn; workers and window as above.
pub record Sampling : Type 0 where
  pub distance : ℕ
  pub rounds : ℕ
  pub units : ℕ
  pub rate : ℕ
  pub start : ℕ
  pub shots : ℕ
  pub workers : ℕ
  pub window : ℕ

-- what `plan` asks for: the name of the graph, and the units of the plan that is made of it
pub record Planning : Type 0 where
  pub graph : List ℕ
  pub units : ℕ

-- what `predict` asks for: the names of the graph, of the observables and of the report, and the format of the bits
pub record Predicting : Type 0 where
  pub graph : List ℕ
  pub observables : List ℕ
  pub report : List ℕ
  pub to : Coding

-- what a command line asks for
pub data Request : Type 0 where
  decode : Decoding → Request
  check : Checking → Request
  sample : Sampling → Request
  plan : Planning → Request
  predict : Predicting → Request

-- the numbers are in the ranges of their options
pub record IsSampleInRanges (s : Sampling) : Type 0 where
  pub distance : IsWithin ranges.distances s.distance
  pub rounds : IsWithin ranges.rounds s.rounds
  pub units : IsWithin ranges.units s.units
  pub rate : IsWithin ranges.rates s.rate
  pub start : IsWithin ranges.starts s.start
  pub shots : IsWithin ranges.shots s.shots
  pub workers : IsWithin ranges.workers s.workers
  pub window : IsWithin ranges.windows s.window

abbrev pub IsInRanges : Request → Type 0
IsInRanges (decode d) = IsWithin ranges.workers d.workers × IsWithin ranges.windows d.window
IsInRanges (check c) = ⊤
IsInRanges (sample s) = IsSampleInRanges s
IsInRanges (plan p) = IsWithin ranges.units p.units
IsInRanges (predict p) = ⊤
