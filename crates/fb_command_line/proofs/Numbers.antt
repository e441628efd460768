-- The numbers and the flag of options, as clap's getters read them.
use Rattle.std.proofs.Common.{◌≡◌, ◌⊎◌, ◌∙◌, ◌<◌, ◌^◌, ap, refl, inl, inr, ℕ, Bool, true, false, List, [], ◌∷◌, Option, Some, None, codes, option_map, arith, cond, subst}
use Rattle.std.specs.Option.{option_map_or}
use Rattle.std.specs.Prelude.{IfSome, IsSomeAnd, Result, Ok, Err, bytes_eq, unwrap_or}
use Rattle.std.specs.Str.Parse.{ParsesUnsigned}
use Rattle.clap.specs.Matches.{ReadsOne}
use Rattle.clap.specs.Words.{Row, Text, first_of, one_of, one_text, rows_of}
use Rattle.clap.specs.declared.parser.matches.Found.{Found}
use Rattle.clap.proofs.WalkLemmas.{one_text-rows}
use Rattle.fb_request.specs.declared.usage.UsageKind.{UsageKind}
use Rattle.fb_request.specs.declared.usage.UsageKind.TheVariants as usage
use Rattle.fb_command_line.specs.InternalOptions.{HasDecodeOptions, HasOptions, HasPlanOptions, HasSampleOptions, HasNumber, HasNumberIfGiven, WritesBelow, WritesWithin}
use Rattle.fb_request.specs.Ranges.{IsWithin, Range}
use Rattle.fb_request.specs.Ranges as ranges
use Rattle.fb_request.specs.Requests.{Request, IsInRanges, IsSampleInRanges, check, decode, plan, predict, sample}
use Rattle.fb_command_line.specs.Words.{accepted_format, checking_of, coding_of, command_request, decoding_of, request_with, format_of, given_number, number_in, number_of, option_of, planning_of, predicting_of, sampling_of, trace_of, window_of, workers_of}

-- ---- what a getter returns

-- the number that is read of an option whose word is a number of k bits
pub number_read : (E : Type 0) (G : List ℕ → Result ℕ E → Type 0) (k : ℕ) (f : Found) (name : Text) (r : Option ℕ)
    → ((word : Text) (x : Result ℕ E) → G word x → ParsesUnsigned k 10 word x)
    → (one_text f name ≡ None → r ≡ None) → ((word : Text) → one_text f name ≡ Some word → ReadsOne G word r)
    → IfSome (one_of name (rows_of f)) (WritesBelow (2 ^ k)) → r ≡ number_of name (rows_of f)
number_read E G k f name r parses none some below = go (one_of name (rows_of f)) (one_text-rows f name) below
  where
    finish : (word : Text) (o : Option ℕ) → ReadsOne G word o → WritesBelow (2 ^ k) word → o ≡ Some (number_in word)
    finish word (Some n) read below = ap (λ (m : ℕ). Some m) (parses word (Ok n) read).1
    finish word None read below = absurd (parses word (Err read.0) read.1 below)

    go : (o : Option Text) → one_text f name ≡ o → IfSome o (WritesBelow (2 ^ k)) → r ≡ option_map number_in o
    go None e below = none e
    go (Some word) e below = finish word r (some word e) below

-- the flag that is read of an option whose word is `true` or `false`
pub flag_read : (f : Found) (name : Text) (r : Bool) → (one_text f name ≡ None → r ≡ false)
    → (one_text f name ≡ Some (codes "true") → r ≡ true) → (one_text f name ≡ Some (codes "false") → r ≡ false)
    → IfSome (one_of name (rows_of f)) (λ word. (word ≡ codes "true") ⊎ (word ≡ codes "false"))
    → r ≡ option_map_or (λ word. bytes_eq word (codes "true")) (one_of name (rows_of f)) false
flag_read f name r none on off word = go (one_of name (rows_of f)) (one_text-rows f name) word
  where
    go : (o : Option Text) → one_text f name ≡ o → IfSome o (λ word. (word ≡ codes "true") ⊎ (word ≡ codes "false"))
        → r ≡ option_map_or (λ word. bytes_eq word (codes "true")) o false
    go None e h = none e
    go (Some word) e (inl is) = rw is (on (e ∙ ap (λ (w : Text). Some w) is))
    go (Some word) e (inr is) = rw is (off (e ∙ ap (λ (w : Text). Some w) is))

-- ---- numbers in a range

-- a number in a range, below a bound that its end is below
pub below_of_given : (name : Text) (range : Range) (options : List Row) (bound : ℕ) → range.high < bound
    → HasNumber name range options → IfSome (one_of name options) (WritesBelow bound)
below_of_given name range options bound above number = go (one_of name options) number
  where
    go : (o : Option Text) → IsSomeAnd o (WritesWithin range) → IfSome o (WritesBelow bound)
    go None h = tt
    go (Some word) h = (h.0, omega (arith, h.3))

pub below_if_given : (name : Text) (range : Range) (options : List Row) (bound : ℕ) → range.high < bound
    → HasNumberIfGiven name range options → IfSome (one_of name options) (WritesBelow bound)
below_if_given name range options bound above number = go (one_of name options) number
  where
    go : (o : Option Text) → IfSome o (WritesWithin range) → IfSome o (WritesBelow bound)
    go None h = tt
    go (Some word) h = (h.0, omega (arith, h.3))

pub given_within : (name : Text) (range : Range) (options : List Row) → HasNumber name range options
    → IsWithin range (given_number name options)
given_within name range options number = go (one_of name options) number
  where
    go : (o : Option Text) → IsSomeAnd o (WritesWithin range) → IsWithin range (unwrap_or (option_map number_in o) 0)
    go None h = absurd h
    go (Some word) h = (h.2, h.3)

pub default_within : (name : Text) (range : Range) (options : List Row) (default : ℕ) → IsWithin range default
    → HasNumberIfGiven name range options → IsWithin range (unwrap_or (number_of name options) default)
default_within name range options default within number = go (one_of name options) number
  where
    go : (o : Option Text) → IfSome o (WritesWithin range) → IsWithin range (unwrap_or (option_map number_in o) default)
    go None h = within
    go (Some word) h = (h.2, h.3)

in_result : (P : Request → Type 0) (d e : Request) → ◌≡◌ {A = Result Request UsageKind} (Ok d) (Ok e) → P d → P e
in_result P d e same holds =
    let is : d ≡ e = cc in
    subst P is holds

-- ---- what a command asks for is in the ranges of its options

accepted_in_ranges : {F : Type 0} (request : F → Request) (format : Result F UsageKind) (e : Request)
    → ((f : F) → IsInRanges (request f)) → request_with format request ≡ Ok e → IsInRanges e
accepted_in_ranges request (Ok format) e within same = in_result IsInRanges _ e same (within format)
accepted_in_ranges request (Err kind) e within same = cc

decoding_in_ranges : (options : List Row) (e : Request) → HasDecodeOptions options → decoding_of options ≡ Ok e → IsInRanges e
decoding_in_ranges options e has same =
    let graph = option_of (codes "graph") options in
    let plan = option_of (codes "plan") options in
    let shots = option_of (codes "shots") options in
    accepted_in_ranges (λ format. decode (record {
      graph = graph;
      plan = first_of (codes "plan") options;
      shots = shots;
      format = format;
      workers = workers_of options;
      window = window_of options;
      trace = trace_of options;
    })) (accepted_format (format_of (option_of (codes "format") options)) (graph ∷ plan ∷ shots ∷ [])) e
    (λ format. (
      default_within (codes "workers") ranges.workers options 1 (omega arith, omega arith) has.workers,
      default_within (codes "window") ranges.windows options 1 (omega arith, omega arith) has.window,
    )) same

checking_in_ranges : (options : List Row) (e : Request) → checking_of options ≡ Ok e → IsInRanges e
checking_in_ranges options e same =
    let graph = option_of (codes "graph") options in
    let shots = option_of (codes "shots") options in
    let report = option_of (codes "report") options in
    accepted_in_ranges (λ format. check (record { graph = graph; shots = shots; format = format; report = report }))
    (accepted_format (format_of (option_of (codes "format") options)) (graph ∷ shots ∷ report ∷ [])) e (λ format. tt) same

predicting_in_ranges : (options : List Row) (e : Request) → predicting_of options ≡ Ok e → IsInRanges e
predicting_in_ranges options e same =
    let graph = option_of (codes "graph") options in
    let observables = option_of (codes "observables") options in
    let report = option_of (codes "report") options in
    accepted_in_ranges (λ to. predict (record { graph = graph; observables = observables; report = report; to = to }))
    (accepted_format (coding_of (option_of (codes "to") options)) (graph ∷ observables ∷ report ∷ [])) e (λ to. tt) same

sampling_in_ranges : (options : List Row) → HasSampleOptions options → IsSampleInRanges (sampling_of options)
sampling_in_ranges options has = record {
  distance = given_within (codes "distance") ranges.distances options has.distance;
  rounds = given_within (codes "rounds") ranges.rounds options has.rounds;
  units = given_within (codes "units") ranges.units options has.units;
  rate = given_within (codes "rate") ranges.rates options has.rate;
  start = given_within (codes "start") ranges.starts options has.start;
  shots = given_within (codes "shots") ranges.shots options has.shots;
  workers = default_within (codes "workers") ranges.workers options 1 (omega arith, omega arith) has.workers;
  window = default_within (codes "window") ranges.windows options 1 (omega arith, omega arith) has.window;
}

pub request_in_ranges : (command : Option (Text × List Row)) (e : Request) → HasOptions command → command_request command ≡ Ok e → IsInRanges e
request_in_ranges None e has same = cc
request_in_ranges (Some command) e has same =
    go (bytes_eq command.0 (codes "decode")) (bytes_eq command.0 (codes "check")) (bytes_eq command.0 (codes "sample"))
    (bytes_eq command.0 (codes "plan")) (bytes_eq command.0 (codes "predict")) has same
  where
    go : (decodes checks samples plans predicts : Bool)
        → (decodes ≡ true → HasDecodeOptions command.1) × (samples ≡ true → HasSampleOptions command.1)
        × (plans ≡ true → HasPlanOptions command.1)
        → cond decodes (decoding_of command.1) (cond checks (checking_of command.1)
        (cond samples (Ok (sample (sampling_of command.1))) (cond plans (Ok (plan (planning_of command.1)))
        (cond predicts (predicting_of command.1) (Err usage.Parse))))) ≡ Ok e
        → IsInRanges e
    go true checks samples plans predicts has same = decoding_in_ranges command.1 e (has.0 refl) same
    go false true samples plans predicts has same = checking_in_ranges command.1 e same
    go false false true plans predicts has same = in_result IsInRanges _ e same (sampling_in_ranges command.1 (has.1 refl))
    go false false false true predicts has same =
        in_result IsInRanges _ e same (given_within (codes "units") ranges.units command.1 (has.2 refl).units)
    go false false false false true has same = predicting_in_ranges command.1 e same
    go false false false false false has same = cc
