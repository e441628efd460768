-- What an input of shots holds: its shots in order, and how it ends.
use Rattle.std.specs.Prelude.{◌≡◌, ℕ, Bool, List, [], ◌∷◌, ◌++◌, map, Option, Some, None, Result, Ok, Err, refl}
use Rattle.std.specs.Coded.{Coded, code_by, coded×, coded_bool, coded_list, coded_ℕ}

-- how an input of shots ends: at its end, inside a record that may go on, or at the first record that is refused
pub data Ending (K : Type 0) : Type 0 where
  at_end : Ending K
  still_open : Ending K
  refused : K → Ending K

-- the shots of an input, each of the kind A, and how it ends; K says why a record is refused
pub record Records (A K : Type 0) : Type 0 where
  pub shots : List A
  pub ending : Ending K

-- no shot, and this ending
abbrev pub only : {A K : Type 0} → Ending K → Records A K
only ending = record { shots = []; ending = ending }

-- the records with this shot before all others
abbrev pub with_first_shot : {A K : Type 0} → A → Records A K → Records A K
with_first_shot shot r = record { shots = shot ∷ r.shots; ending = r.ending }

-- the ending, its refusal put into other terms
abbrev pub ending_as : {K L : Type 0} → (K → L) → Ending K → Ending L
ending_as say at_end = at_end
ending_as say still_open = still_open
ending_as say (refused kind) = refused (say kind)

-- the records in other terms: each shot, and the refusal
abbrev pub records_as : {A B K L : Type 0} → (A → B) → (K → L) → Records A K → Records B L
records_as shot_of say r = record { shots = map shot_of r.shots; ending = ending_as say r.ending }

-- what a line or block is: a shot, nothing, or refused
abbrev pub Judged : Type 0 → Type 0 → Type 0
Judged A K = Result (Option A) K

-- The records with a line or block before them: what is skipped changes nothing, and nothing counts after a refusal.
abbrev pub with_line : {A K : Type 0} → Judged A K → Records A K → Records A K
with_line (Ok (Some shot)) r = with_first_shot shot r
with_line (Ok None) r = r
with_line (Err kind) r = only (refused kind)

-- the records of the lines or blocks, in order; `ending` is how they end if none is refused
abbrev pub go_down : {A K : Type 0} → (List ℕ → Judged A K) → List (List ℕ) → Ending K → Records A K
go_down judge [] ending = only ending
go_down judge (line ∷ lines) ending = with_line (judge line) (go_down judge lines ending)

-- The shots that a prefix of some bytes settles are the first shots of all of them, and what it refuses is refused.
pub record GoesOn {A K : Type 0} (prefix all : Records A K) : Type 0 where
  pub shots : (more : List A) × (all.shots ≡ prefix.shots ++ more)
  pub judged : (kind : K) → prefix.ending ≡ refused kind → all ≡ prefix

-- a reader: what its shots are of, the bytes fed that no answer has used, and whether they are all
pub record Reader (C : Type 0) : Type 0 where
  pub subject : C
  pub rest : List ℕ
  pub finished : Bool

-- A reader is stored as what its shots are of, the rest, and whether that is all.
abbrev pub reader_code : {C : Type 0} → Coded C → Coded (Reader C)
reader_code {C} subject =
    code_by (C × (List ℕ × Bool)) (coded× subject (coded× (coded_list coded_ℕ) coded_bool)) (λ r. (r.subject, (r.rest, r.finished)))
    (λ x. record { subject = x.0; rest = x.1.0; finished = x.1.1 }) (λ _. refl)
