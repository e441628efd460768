-- What a stream gives, by what it does.
use Rattle.std.proofs.Common.{◌≡◌, ℕ, suc, ◌+◌, ◌-◌, ◌<◌, Bool, true, false, nat_le, if◌then◌else◌, List, ◌∷◌, ◌++◌, length, take, Option, None, sym, ap, ◌∙◌, inl, inr, append_assoc, append-nil, length-append, arith}
use Rattle.std.proofs.Math.Seq.{take-append-add}
use Rattle.std.proofs.lemmas.Bool.{cases_lt, cond-true, cond-false, le-leb, lt-leb}
use Rattle.fb_graph.specs.Limits.{DecodingGraph, ShotValue}
use Rattle.fb_request.specs.declared.format.Format.{Format}
use Rattle.fb_shots.specs.declared.answer.Kind.{Kind}
use Rattle.fb_shots.specs.declared.answer.Kind.TheVariants.{TooManyShots, InputTooLong}
use Rattle.fb_shots.specs.Shots.{Ending, still_open, refused, Shots, only, with_first_shot, capped_shots}
use Rattle.fb_shots.specs.Formats.{records_of, prefix_of}
use Rattle.fb_shots.specs.InternalSources.{Source}
use Rattle.fb_shots.specs.InternalAnswers.{Gives, Refuses}
use Rattle.fb_shots.specs.Streams.{cut_off, within_room, Stream, follows}

-- ---- at most so many shots

pub capped_only : (n : ℕ) (ending : Ending) → capped_shots n (only ending) ≡ only ending
capped_only n ending = cond-true (nat_le 0 n) _ _ (le-leb 0 n (omega arith))

pub capped_shot : (n : ℕ) (shot : ShotValue) (r : Shots) → capped_shots (suc n) (with_first_shot shot r) ≡ with_first_shot shot (capped_shots n r)
capped_shot n shot r = elim (cases_lt n (length r.shots)) [
  | inl over ↦
      cond-false (nat_le (length (shot ∷ r.shots)) (suc n)) _ _ (lt-leb (length (shot ∷ r.shots)) (suc n) (omega arith))
      ∙ sym (ap (with_first_shot shot) (cond-false (nat_le (length r.shots) n) _ _ (lt-leb (length r.shots) n over)))
  | inr fits ↦
      cond-true (nat_le (length (shot ∷ r.shots)) (suc n)) _ _ (le-leb (length (shot ∷ r.shots)) (suc n) (omega arith))
      ∙ sym (ap (with_first_shot shot) (cond-true (nat_le (length r.shots) n) _ _ (le-leb (length r.shots) n fits)))
]

pub capped_none : (shot : ShotValue) (r : Shots) → capped_shots 0 (with_first_shot shot r) ≡ only (refused TooManyShots)
capped_none shot r = cond-false (nat_le (length (shot ∷ r.shots)) 0) _ _ (lt-leb (length (shot ∷ r.shots)) 0 (omega arith))

-- ---- at most so many bytes

-- what a rest holds that these bytes follow, of which at most u are taken
abbrev pub held : Format → DecodingGraph → List ℕ → ℕ → List ℕ → Shots
held f g rest u left =
    if nat_le (length left) u then records_of f g (rest ++ left) else cut_off (prefix_of f g (rest ++ take u left))

held_is : (f : Format) (g : DecodingGraph) (rest : List ℕ) (u : ℕ) (left : List ℕ)
    → within_room f g (length rest + u) (rest ++ left) ≡ held f g rest u left
held_is f g rest u left =
    let all : length (rest ++ left) ≡ length rest + length left = length-append rest left in
    elim (cases_lt u (length left)) [
      | inl over ↦
          cond-false (nat_le (length (rest ++ left)) (length rest + u)) _ _ (lt-leb (length (rest ++ left)) (length rest + u) (omega arith))
          ∙ ap (λ (l : List ℕ). cut_off (prefix_of f g l)) (take-append-add rest left u)
          ∙ sym (cond-false (nat_le (length left) u) _ _ (lt-leb (length left) u over))
      | inr fits ↦
          cond-true (nat_le (length (rest ++ left)) (length rest + u)) _ _ (le-leb (length (rest ++ left)) (length rest + u) (omega arith))
          ∙ sym (cond-true (nat_le (length left) u) _ _ (le-leb (length left) u fits))
    ]

pub held_shot : (f : Format) (g : DecodingGraph) (old new : List ℕ) (shot : ShotValue) (u : ℕ) (left : List ℕ) (finished : Bool) → finished ≡ false
    → Gives (records_of f g) (prefix_of f g) finished old new shot → held f g old u left ≡ with_first_shot shot (held f g new u left)
held_shot f g old new shot u left finished still h = by_test (nat_le (length left) u) where
  by_test : (b : Bool) → (if b then records_of f g (old ++ left) else cut_off (prefix_of f g (old ++ take u left)))
      ≡ with_first_shot shot (if b then records_of f g (new ++ left) else cut_off (prefix_of f g (new ++ take u left)))
  by_test true = h.later still left
  by_test false = ap cut_off (h.onward still (take u left))

pub held_refused : (f : Format) (g : DecodingGraph) (rest : List ℕ) (why : Kind) (u : ℕ) (left : List ℕ) (finished : Bool) → finished ≡ false
    → Refuses (records_of f g) (prefix_of f g) finished rest why → held f g rest u left ≡ only (refused why)
held_refused f g rest why u left finished still h = by_test (nat_le (length left) u) where
  by_test : (b : Bool) → (if b then records_of f g (rest ++ left) else cut_off (prefix_of f g (rest ++ take u left))) ≡ only (refused why)
  by_test true = h.later still left
  by_test false = ap cut_off (h.onward still (take u left))

pub held_piece : (f : Format) (g : DecodingGraph) (rest bytes : List ℕ) (u v : ℕ) (left : List ℕ) → u ≡ v + length bytes
    → held f g rest u (bytes ++ left) ≡ held f g (rest ++ bytes) v left
held_piece f g rest bytes u v left e =
    let all : length (bytes ++ left) ≡ length bytes + length left = length-append bytes left in
    let room : u ≡ length bytes + v = omega arith in
    elim (cases_lt v (length left)) [
      | inl over ↦
          cond-false (nat_le (length (bytes ++ left)) u) _ _ (lt-leb (length (bytes ++ left)) u (omega arith))
          ∙ ap (λ (l : List ℕ). cut_off (prefix_of f g (rest ++ l))) (ap (λ (n : ℕ). take n (bytes ++ left)) room ∙ take-append-add bytes left v)
          ∙ ap (λ (l : List ℕ). cut_off (prefix_of f g l)) (sym (append_assoc rest bytes (take v left)))
          ∙ sym (cond-false (nat_le (length left) v) _ _ (lt-leb (length left) v over))
      | inr fits ↦
          cond-true (nat_le (length (bytes ++ left)) u) _ _ (le-leb (length (bytes ++ left)) u (omega arith))
          ∙ ap (records_of f g) (sym (append_assoc rest bytes left))
          ∙ sym (cond-true (nat_le (length left) v) _ _ (le-leb (length left) v fits))
    ]

pub held_long : (f : Format) (g : DecodingGraph) (rest left : List ℕ) → 0 < length left → prefix_of f g rest ≡ only still_open
    → held f g rest 0 left ≡ only (refused InputTooLong)
held_long f g rest left more still =
    cond-false (nat_le (length left) 0) _ _ (lt-leb (length left) 0 more)
    ∙ ap (λ (l : List ℕ). cut_off (prefix_of f g l)) (append-nil rest)
    ∙ ap cut_off still

-- ---- a stream that has refused nothing

-- a stream all of whose bytes were fed
abbrev pub fed : Source → (untaken given limit : ℕ) → Option Kind → Stream
fed s untaken given limit stopped = record {
  format = s.format;
  graph = s.graph;
  rest = s.rest;
  finished = s.finished;
  untaken = untaken;
  given = given;
  limit = limit;
  stopped = stopped;
}

pub follows_open : (s : Source) (u k l : ℕ) (left : List ℕ) → s.finished ≡ false
    → follows (fed s u k l None) left ≡ capped_shots (l - k) (held s.format s.graph s.rest u left)
follows_open s u k l left still =
    cond-false s.finished _ _ still ∙ ap (capped_shots (l - k)) (held_is s.format s.graph s.rest u left)

pub follows_done : (s : Source) (u k l : ℕ) (left : List ℕ) → s.finished ≡ true
    → follows (fed s u k l None) left ≡ capped_shots (l - k) (records_of s.format s.graph s.rest)
follows_done s u k l left done = cond-true s.finished _ _ done
