-- What one turn of a stream does: its bytes are fed, its reader is asked, and where that decides nothing a read is made.
use Rattle.std.proofs.Common.{◌≡◌, ℕ, suc, ◌+◌, ◌-◌, ◌<◌, ◌≤◌, nat_le, Bool, true, false, List, [], ◌++◌, length, if◌then◌else◌, Option, Some, None, IfSome, MatchOption, Result, Ok, refl, sym, ap, subst, subst₂, ◌∙◌, inl, inr, append-nil, length-append, arith}
use Rattle.std.specs.Prelude.{⊤}
use Rattle.std.proofs.lemmas.Bool.{cases_Bool, cond-true, cond-false, both_ways, le-leb, leb-true, leb-false}
use Rattle.std.specs.Io.KnownBytes.{Consumes, IsAtEnd, Keeps}
use Rattle.std.proofs.KnownBytes.{Consumes-nil}
use Rattle.fb_graph.specs.Limits.{ShotValue}
use Rattle.fb_ports.specs.Causes.{CountsFault, Rose}
use Rattle.fb_shots.specs.declared.answer.Kind.{Kind}
use Rattle.fb_shots.specs.declared.answer.Kind.TheVariants.{TooManyShots, InputTooLong}
use Rattle.fb_shots.specs.declared.answer.Step.{Step}
use Rattle.fb_shots.specs.declared.answer.Step.TheVariants as step
use Rattle.fb_records.specs.declared.answer.Next.TheVariants as next
use Rattle.fb_shots.specs.declared.stream.Read.{Read}
use Rattle.fb_shots.specs.declared.stream.Read.TheVariants as read
use Rattle.fb_shots.specs.declared.tally.Tally.{Tally}
use Rattle.fb_shots.specs.Shots.{Shots, only, with_first_shot, at_end, still_open, refused, capped_shots}
use Rattle.fb_shots.specs.Formats.{records_of, prefix_of}
use Rattle.fb_shots.specs.InternalSources.{Source, stream_by, with_piece}
use Rattle.fb_shots.specs.InternalAnswers.{Gives, NextShot}
use Rattle.fb_shots.specs.InternalAnswers as reader
use Rattle.fb_shots.specs.Streams.{most_bytes, Stream, stream_of, follows}
use Rattle.fb_shots.specs.Steps.{IfKnown, IsReadOut, OnlyTakes, GivesShot, Ends, IsReason, Refuses, FailsToRead, Answers}
use Rattle.fb_shots.specs.InternalReads.{may_read, ReadsOn}
use Rattle.fb_shots.specs.InternalTallies.{refusal_of, stopped_by, step_after, step_after_read, tally_after, tally_after_read}
use Rattle.fb_shots.proofs.Follows.{fed, held, capped_only, capped_shot, capped_none, held_shot, held_refused, held_piece, held_long, follows_open, follows_done}
use Rattle.fb_shots.proofs.Taking.{Left, known_same, known_taken, each_some, takes_nothing}

-- once the piece that was read is fed
pub when_empty : (a : Source) (piece : List ℕ) (u k l : ℕ) (stopped : Option Kind) → piece ≡ [] → stream_by a piece u k l stopped ≡ fed a u k l stopped
when_empty a piece u k l stopped e =
    let made : List ℕ → Stream = λ rest. fed (record a { rest = rest }) u k l stopped in
    ap made (ap (λ (p : List ℕ). a.rest ++ p) e ∙ append-nil a.rest)

capped_onward : (l k : ℕ) (shot : ShotValue) (r : Shots) → k < l → capped_shots (l - k) (with_first_shot shot r) ≡ with_first_shot shot (capped_shots (l - (k + 1)) r)
capped_onward l k shot r less =
    let one : l - k ≡ suc (l - (k + 1)) = omega arith in
    ap (λ (n : ℕ). capped_shots n (with_first_shot shot r)) one ∙ capped_shot (l - (k + 1)) shot r

-- ---- a shot

follows_shot : (a : Source) (new : List ℕ) (shot : ShotValue) (u k l : ℕ) (left : List ℕ)
    → Gives (records_of a.format a.graph) (prefix_of a.format a.graph) a.finished a.rest new shot → k < l
    → follows (fed a u k l None) left ≡ with_first_shot shot (follows (fed (record a { rest = new }) u (k + 1) l None) left)
follows_shot a new shot u k l left h less =
    let b : Source = record a { rest = new } in
    elim (cases_Bool a.finished) [
      | inl done ↦
          follows_done a u k l left done ∙ ap (capped_shots (l - k)) h.now ∙ capped_onward l k shot (records_of a.format a.graph new) less
          ∙ ap (with_first_shot shot) (sym (follows_done b u (k + 1) l left done))
      | inr still ↦
          follows_open a u k l left still ∙ ap (capped_shots (l - k)) (held_shot a.format a.graph a.rest new shot u left a.finished still h)
          ∙ capped_onward l k shot (held a.format a.graph new u left) less
          ∙ ap (with_first_shot shot) (sym (follows_open b u (k + 1) l left still))
    ]

-- what the bytes that were fed settle
abbrev settled_by : Source → List ℕ → Shots
settled_by a bytes = if a.finished then records_of a.format a.graph bytes else prefix_of a.format a.graph bytes

settled_shot : (a : Source) (new : List ℕ) (shot : ShotValue) → Gives (records_of a.format a.graph) (prefix_of a.format a.graph) a.finished a.rest new shot
    → settled_by a (a.rest ++ []) ≡ with_first_shot shot (settled_by a new)
settled_shot a new shot h = by_flag a.finished refl
  where
    by_flag : (f : Bool) → a.finished ≡ f → (if f then records_of a.format a.graph (a.rest ++ []) else prefix_of a.format a.graph (a.rest ++ []))
        ≡ with_first_shot shot (if f then records_of a.format a.graph new else prefix_of a.format a.graph new)
    by_flag true done = ap (records_of a.format a.graph) (append-nil a.rest) ∙ h.now
    by_flag false still = h.onward still [] ∙ ap (λ (x : List ℕ). with_first_shot shot (prefix_of a.format a.graph x)) (append-nil new)

settled_refused : (a : Source) (why : Kind) → reader.Refuses (records_of a.format a.graph) (prefix_of a.format a.graph) a.finished a.rest why
    → settled_by a (a.rest ++ []) ≡ only (refused why)
settled_refused a why h = by_flag a.finished refl
  where
    by_flag : (f : Bool) → a.finished ≡ f → (if f then records_of a.format a.graph (a.rest ++ []) else prefix_of a.format a.graph (a.rest ++ [])) ≡ only (refused why)
    by_flag true done = ap (records_of a.format a.graph) (append-nil a.rest) ∙ h.now
    by_flag false still = h.onward still []

gives_from : (a : Source) (new : List ℕ) (shot : ShotValue) (u k l : ℕ) (left : Left) → reader.Answers a (record a { rest = new }) (next.Shot shot) → k < l
    → GivesShot (fed a u k l None) (fed (record a { rest = new }) u (k + 1) l None) left left shot
gives_from a new shot u k l left h less = record {
  piece = [];
  taken = Consumes-nil left;
  gives = known_same (λ x y. follows (fed a u k l None) x ≡ with_first_shot shot (follows (fed (record a { rest = new }) u (k + 1) l None) y)) left
      (λ x. follows_shot a new shot u k l x h.0 less);
  holds = settled_shot a new shot h.0;
  unfinished = λ still. still;
  prefix = λ still more. h.0.onward still more;
  end = λ still done. absurd (both_ways a.finished still done);
  unread = λ done. refl;
  is_shot = h.1;
  counts = refl;
  below = less;
  others = refl;
}

pub turn_gives : (a b : Source) (shot : ShotValue) (u k l : ℕ) (left : Left) → reader.Answers a b (next.Shot shot) → k < l
    → GivesShot (fed a u k l None) (fed b u (k + 1) l None) left left shot
turn_gives a b shot u k l left h less =
    let from = gives_from a b.rest shot u k l left (subst (λ (s : Source). reader.Answers a s (next.Shot shot)) h.2 h) less in
    subst (λ (s : Source). GivesShot (fed a u k l None) (fed s u (k + 1) l None) left left shot) (sym h.2) from

-- ---- what stops a stream

same_but_rest : (a b : Source) (u v k l : ℕ) (why : Kind) → b ≡ record a { rest = b.rest }
    → fed b v k l (Some why) ≡ record (fed a u k l None) { rest = b.rest; finished = b.finished; untaken = v; stopped = Some why }
same_but_rest a b u v k l why same =
    let made : Source → Stream = λ s. record {
      format = s.format;
      graph = s.graph;
      rest = b.rest;
      finished = b.finished;
      untaken = v;
      given = k;
      limit = l;
      stopped = Some why;
    } in
    ap made same

stops : (a b : Source) (u v k l : ℕ) (left : Left) (why : Kind) → b ≡ record a { rest = b.rest } → v ≡ u
    → IsReason (fed b v k l (Some why)) (a.rest ++ []) why → IfSome left (λ x. follows (fed a u k l None) x ≡ only (refused why))
    → Refuses (fed a u k l None) (fed b v k l (Some why)) left (record { shot = k; kind = why })
stops a b u v k l left why same count reason gives = record {
  number = refl;
  gives = gives;
  piece = [];
  room = omega (arith, count);
  reason = inr reason;
  stops = refl;
  again = λ x. refl;
  others = same_but_rest a b u v k l why same;
}

follows_too_many : (a : Source) (new : List ℕ) (shot : ShotValue) (u k l : ℕ) (left : List ℕ)
    → Gives (records_of a.format a.graph) (prefix_of a.format a.graph) a.finished a.rest new shot → l ≤ k
    → follows (fed a u k l None) left ≡ only (refused TooManyShots)
follows_too_many a new shot u k l left h full =
    let none : l - k ≡ 0 = omega arith in
    let capped_here : (r : Shots) → capped_shots (l - k) (with_first_shot shot r) ≡ only (refused TooManyShots) =
    λ r. ap (λ (n : ℕ). capped_shots n (with_first_shot shot r)) none ∙ capped_none shot r in
    elim (cases_Bool a.finished) [
      | inl done ↦
          follows_done a u k l left done ∙ ap (capped_shots (l - k)) h.now ∙ capped_here (records_of a.format a.graph new)
      | inr still ↦
          follows_open a u k l left still ∙ ap (capped_shots (l - k)) (held_shot a.format a.graph a.rest new shot u left a.finished still h)
          ∙ capped_here (held a.format a.graph new u left)
    ]

pub turn_too_many : (a b : Source) (shot : ShotValue) (u k l : ℕ) (left : Left) → reader.Answers a b (next.Shot shot) → l ≤ k
    → Refuses (fed a u k l None) (fed b u k l (Some TooManyShots)) left (record { shot = k; kind = TooManyShots })
turn_too_many a b shot u k l left h full =
    stops a b u u k l left TooManyShots h.2 refl (inr (inl (record { shot = shot; holds = holds; full = full; kind = refl })))
    (each_some (λ x. follows (fed a u k l None) x ≡ only (refused TooManyShots)) left (λ x. follows_too_many a b.rest shot u k l x h.0 full))
  where
    holds : settled_by b (a.rest ++ []) ≡ with_first_shot shot (settled_by b b.rest)
    holds = subst (λ (s : Source). settled_by s (a.rest ++ []) ≡ with_first_shot shot (settled_by s s.rest)) (sym h.2) (settled_shot a b.rest shot h.0)

follows_refused : (a : Source) (why : Kind) (u k l : ℕ) (left : List ℕ)
    → reader.Refuses (records_of a.format a.graph) (prefix_of a.format a.graph) a.finished a.rest why
    → follows (fed a u k l None) left ≡ only (refused why)
follows_refused a why u k l left h = elim (cases_Bool a.finished) [
  | inl done ↦ follows_done a u k l left done ∙ ap (capped_shots (l - k)) h.now ∙ capped_only (l - k) (refused why)
  | inr still ↦
      follows_open a u k l left still ∙ ap (capped_shots (l - k)) (held_refused a.format a.graph a.rest why u left a.finished still h)
      ∙ capped_only (l - k) (refused why)
]

same_rest : (a b : Source) → b ≡ a → b.rest ≡ a.rest ++ []
same_rest a b e = ap (λ (s : Source). s.rest) e ∙ sym (append-nil a.rest)

pub turn_refuses : (a b : Source) (why : Kind) (u k l : ℕ) (left : Left) → reader.Answers a b (next.Refused why)
    → Refuses (fed a u k l None) (fed b u k l (Some why)) left (record { shot = k; kind = why })
turn_refuses a b why u k l left h =
    stops a b u u k l left why (h.1 ∙ ap (λ (s : Source). record a { rest = s.rest }) (sym h.1)) refl
    (inl (record { rest = same_rest a b h.1; settles = subst (λ (s : Source). settled_by s (a.rest ++ []) ≡ only (refused why)) (sym h.1) (settled_refused a why h.0) }))
    (each_some (λ x. follows (fed a u k l None) x ≡ only (refused why)) left (λ x. follows_refused a why u k l x h.0))

pub turn_too_long : (a b : Source) (u v k l : ℕ) (left : Left) → reader.Answers a b next.NotYet → u ≡ 0 → v ≡ 0 → IfSome left (λ x. 0 < length x)
    → Refuses (fed a u k l None) (fed b v k l (Some InputTooLong)) left (record { shot = k; kind = InputTooLong })
turn_too_long a b u v k l left h none still_none more =
    stops a b u v k l left InputTooLong (h.2 ∙ ap (λ (s : Source). record a { rest = s.rest }) (sym h.2)) (still_none ∙ sym none)
    (inr (inr (record {
      rest = same_rest a b h.2;
      unfinished = ap (λ (s : Source). s.finished) h.2 ∙ h.0;
      undecided = subst (λ (s : Source). prefix_of s.format s.graph (a.rest ++ []) ≡ only still_open) (sym h.2)
          (ap (prefix_of a.format a.graph) (append-nil a.rest) ∙ h.1);
      full = still_none;
      kind = refl;
    })))
    (in_left left more)
  where
    in_left : (left : Left) → IfSome left (λ x. 0 < length x) → IfSome left (λ x. follows (fed a u k l None) x ≡ only (refused InputTooLong))
    in_left None more = tt
    in_left (Some x) more =
        follows_open a u k l x h.0
        ∙ ap (capped_shots (l - k)) (ap (λ (n : ℕ). held a.format a.graph a.rest n x) none ∙ held_long a.format a.graph a.rest x more h.1)
        ∙ capped_only (l - k) (refused InputTooLong)

-- ---- the end

follows_end : (a : Source) (u k l : ℕ) (left : List ℕ) → a.finished ≡ true → records_of a.format a.graph a.rest ≡ only at_end
    → follows (fed a u k l None) left ≡ only at_end
follows_end a u k l left done e = follows_done a u k l left done ∙ ap (capped_shots (l - k)) e ∙ capped_only (l - k) at_end

pub turn_ends : (a b : Source) (u k l : ℕ) (left : Left) → reader.Answers a b next.End
    → Ends (fed a u k l None) (fed b u k l None) left left
turn_ends a b u k l left h = subst (λ (s : Source). Ends (fed a u k l None) (fed s u k l None) left left) (sym h.2) from
  where
    from : Ends (fed a u k l None) (fed a u k l None) left left
    from = record {
      piece = [];
      taken = Consumes-nil left;
      rest = sym (append-nil a.rest);
      gives = each_some (λ x. follows (fed a u k l None) x ≡ only at_end) left (λ x. follows_end a u k l x h.0 h.1);
      finished = h.0;
      end = λ still. absurd (both_ways a.finished still h.0);
      unread = λ done. refl;
      again = λ x. follows_end a u k l x h.0 h.1;
      others = refl;
    }

-- ---- a read

takes_piece : (a : Source) (u v k l : ℕ) (before after : Left) (bytes : List ℕ) → a.finished ≡ false → Consumes before after bytes
    → u ≡ v + length bytes → OnlyTakes (fed a u k l None) (stream_by a bytes v k l None) before after
takes_piece a u v k l before after bytes still taken room =
    let b : Source = record a { rest = a.rest ++ bytes } in record {
      piece = bytes;
      taken = taken;
      rest = refl;
      room = omega (arith, length-append a.rest bytes);
      gives = known_taken (λ x y. follows (fed a u k l None) x ≡ follows (fed b v k l None) y) before after bytes taken
          (λ later. follows_open a u k l (bytes ++ later) still
          ∙ ap (capped_shots (l - k)) (held_piece a.format a.graph a.rest bytes u v later room)
          ∙ sym (follows_open b v k l later still));
      end = λ still done. absurd (both_ways a.finished still done);
      ended = λ done. absurd (both_ways a.finished still done);
      unread = λ done. absurd (both_ways a.finished still done);
      others = refl;
    }

pub turn_takes : (a b c : Source) (u v k l : ℕ) (before after : Left) (bytes : List ℕ) → reader.Answers a b next.NotYet → c ≡ b
    → Consumes before after bytes → u ≡ v + length bytes → OnlyTakes (fed a u k l None) (stream_by c bytes v k l None) before after
turn_takes a b c u v k l before after bytes h same taken room =
    subst (λ (s : Source). OnlyTakes (fed a u k l None) (stream_by s bytes v k l None) before after) (sym (same ∙ h.2))
    (takes_piece a u v k l before after bytes h.0 taken room)

pub turn_fails : (a b c : Source) (u v k l : ℕ) (before after : Left) (piece : List ℕ) → reader.Answers a b next.NotYet → c ≡ b
    → piece ≡ [] → Keeps before after → v ≡ u → FailsToRead (fed a u k l None) (stream_by c piece v k l None) before after
turn_fails a b c u v k l before after piece h same empty kept count =
    let is : stream_by c piece v k l None ≡ fed a u k l None =
    when_empty c piece v k l None empty ∙ ap (λ (s : Source). fed s v k l None) (same ∙ h.2) ∙ ap (λ (n : ℕ). fed a n k l None) count in
    subst (λ (s : Stream). FailsToRead (fed a u k l None) s before after) (sym is)
    (record { takes = takes_nothing (fed a u k l None) before after h.0 kept; unfinished = h.0; runs = refl; undecided = h.1 })

-- ---- a stream that begins

pub new_gives : (a b : Source) (piece : List ℕ) (l : ℕ) (bytes : List ℕ) → a ≡ b → b.rest ≡ [] → b.finished ≡ false → piece ≡ []
    → follows (stream_by a piece most_bytes 0 l None) bytes ≡ stream_of b.format b.graph l most_bytes bytes
new_gives a b piece l bytes same none still empty =
    ap (λ (s : Stream). follows s bytes) (when_empty a piece most_bytes 0 l None empty ∙ ap (λ (s : Source). fed s most_bytes 0 l None) same)
    ∙ cond-false b.finished _ _ still
    ∙ ap (λ (rest : List ℕ). stream_of b.format b.graph (l - 0) (length rest + most_bytes) (rest ++ bytes)) none
    ∙ ap (λ (n : ℕ). stream_of b.format b.graph n most_bytes bytes) whole
  where
    whole : l - 0 ≡ l
    whole = omega arith

-- ---- a turn, as the code has its parts at hand

-- the counts of a stream that has refused nothing
abbrev running : ℕ → ℕ → Tally
running k l = record { given = k; limit = l; stopped = None }

-- a stream all of whose bytes were fed, by its counts
abbrev counted : Source → ℕ → Tally → Stream
counted s u y = fed s u y.given y.limit y.stopped

-- what the result of the reader says, if the bytes that were fed decide a step
decides : (a b : Source) (u k l : ℕ) (left : Left) (answer : NextShot) → reader.Answers a b answer
    → MatchOption (step_after (running k l) answer) ⊤ (Answers (fed a u k l None) (counted b u (tally_after (running k l) answer)) left left)
decides a b u k l left (next.Shot shot) h = by_test (nat_le l k) refl
  where
    by_test : (full : Bool) → nat_le l k ≡ full
        → Answers (fed a u k l None) (counted b u (if full then stopped_by (running k l) TooManyShots else record (running k l) { given = k + 1 })) left left
        (if full then refusal_of (running k l) TooManyShots else step.Shot shot)
    by_test true full = turn_too_many a b shot u k l left h (leb-true l k full)
    by_test false room = turn_gives a b shot u k l left h (leb-false l k room)
decides a b u k l left next.NotYet h = tt
decides a b u k l left next.End h = turn_ends a b u k l left h
decides a b u k l left (next.Refused why) h = turn_refuses a b why u k l left h

-- The stream `now` has fed its piece p, of which q is left, to its reader a, and that, b by now, has answered.
pub record Asked (now : Stream) (a b : Source) (p q : List ℕ) (u : ℕ) (y : Tally) (answer : NextShot) : Type 0 where
  pub view : stream_by a p u y.given y.limit y.stopped ≡ now
  pub runs : y.stopped ≡ None
  pub empty : q ≡ []
  pub answers : reader.Answers (with_piece a p) b answer

was : (now : Stream) (a b : Source) (p q : List ℕ) (u : ℕ) (y : Tally) (answer : NextShot) → Asked now a b p q u y answer
    → fed (with_piece a p) u y.given y.limit None ≡ now
was now a b p q u y answer h = ap (λ (o : Option Kind). stream_by a p u y.given y.limit o) (sym h.runs) ∙ h.view

is_running : (y : Tally) → y.stopped ≡ None → running y.given y.limit ≡ y
is_running y e = ap (λ (o : Option Kind). record y { stopped = o }) (sym e)

pub decided_turn : (now : Stream) (a b : Source) (p q : List ℕ) (u : ℕ) (y z : Tally) (answer : NextShot) (left : Left) (s : Step)
    → Asked now a b p q u y answer → z ≡ tally_after y answer → step_after y answer ≡ Some s
    → Answers now (stream_by b q u z.given z.limit z.stopped) left left s
decided_turn now a b p q u y z answer left s h counts decided =
    let old : Stream = fed (with_piece a p) u y.given y.limit None in
    let all : MatchOption (step_after y answer) ⊤ (Answers old (counted b u (tally_after y answer)) left left) =
    subst (λ (x : Tally). MatchOption (step_after x answer) ⊤ (Answers old (counted b u (tally_after x answer)) left left)) (is_running y h.runs)
    (decides (with_piece a p) b u y.given y.limit left answer h.answers) in
    let new : counted b u (tally_after y answer) ≡ stream_by b q u z.given z.limit z.stopped =
    ap (counted b u) (sym counts) ∙ sym (when_empty b q u z.given z.limit z.stopped h.empty) in
    subst₂ (λ (x w : Stream). Answers x w left left s) (was now a b p q u y answer h) new
    (subst (λ (o : Option Step). MatchOption o ⊤ (Answers old (counted b u (tally_after y answer)) left left)) decided all)

-- a result that decides a step is no fault
no_fault : (y : Tally) (answer : NextShot) → step_after y answer ≡ Some step.ReadFault → ⊥
no_fault y (next.Shot shot) e = by_test (nat_le y.limit y.given) e
  where
    by_test : (full : Bool) → Some (if full then refusal_of y TooManyShots else step.Shot shot) ≡ Some step.ReadFault → ⊥
    by_test true e = cc
    by_test false e = cc
no_fault y next.NotYet e = cc
no_fault y next.End e = cc
no_fault y (next.Refused why) e = cc

pub decided_faults : {E : Type 0} (y : Tally) (answer : NextShot) (s : Step) (f : ℕ) → step_after y answer ≡ Some s
    → CountsFault (◌≡◌ {A = Result (Option Step) E} (Ok (Some s)) (Ok (Some step.ReadFault))) f f
decided_faults {E} y answer s f decided = (is_none, omega arith, λ _. refl)
  where
    is_none : ◌≡◌ {A = Result (Option Step) E} (Ok (Some s)) (Ok (Some step.ReadFault)) → Rose f f
    is_none is = (let same : s ≡ step.ReadFault = cc in absurd (no_fault y answer (decided ∙ ap Some same)))

-- a stream that has refused a record refuses it again
pub stopped_turn : (now : Stream) (a : Source) (p : List ℕ) (u : ℕ) (y : Tally) (why : Kind) (left : Left) (s : Step)
    → stream_by a p u y.given y.limit y.stopped ≡ now → y.stopped ≡ Some why → s ≡ refusal_of y why → Answers now now left left s
stopped_turn now a p u y why left s view stopped refuses =
    subst₂ (λ (x : Stream) (t : Step). Answers x x left left t) (ap (stream_by a p u y.given y.limit) (sym stopped) ∙ view) (sym refuses) again
  where
    again : Refuses (stream_by a p u y.given y.limit (Some why)) (stream_by a p u y.given y.limit (Some why)) left (record { shot = y.given; kind = why })
    again = record {
      number = refl;
      gives = each_some (λ x. only (refused why) ≡ only (refused why)) left (λ x. refl);
      piece = [];
      room = omega arith;
      reason = inl refl;
      stops = refl;
      again = λ x. refl;
      others = refl;
    }

-- ---- a read that follows, as the code has its parts at hand

reads_less : (a c : Source) (piece : List ℕ) (u v k l : ℕ) (stopped : Option Kind) → a.finished ≡ false
    → v + (if c.finished then 0 else 1) < u + 1 → may_read (stream_by c piece v k l stopped) < may_read (fed a u k l None)
reads_less a c piece u v k l stopped still less =
    omega (arith, cond-false {A = ℕ} a.finished 0 1 still, less)

-- a stream that may still read, before and after a read that decides nothing
abbrev ReadsMore : Stream → Stream → Left → Left → Type 0
ReadsMore old new before after = OnlyTakes old new before after × (may_read new < may_read old)

reads_piece : (a b c : Source) (r : List ℕ) (u v k l : ℕ) (before after : Left) → reader.Answers a b next.NotYet
    → ReadsOn b c r u v before after read.Piece → ReadsMore (fed a u k l None) (stream_by c r v k l None) before after
reads_piece a b c r u v k l before after h reads =
    let still : c.finished ≡ false = ap (λ (s : Source). s.finished) (reads.0 ∙ h.2) ∙ h.0 in
    let some : 0 < length r = reads.2 in
    let room : u ≡ v + length r = reads.3 in (
      turn_takes a b c u v k l before after r h reads.0 reads.1 reads.3,
      reads_less a c r u v k l None h.0 (omega (arith, cond-false {A = ℕ} c.finished 0 1 still)),
    )

-- at the file's end nothing follows, and all bytes are there
follows_finished : (a : Source) (u k l : ℕ) → a.finished ≡ false → follows (fed a u k l None) [] ≡ follows (fed (record a { finished = true }) u k l None) []
follows_finished a u k l still =
    follows_open a u k l [] still
    ∙ ap (capped_shots (l - k)) (cond-true (nat_le 0 u) _ _ (le-leb 0 u (omega arith)) ∙ ap (records_of a.format a.graph) (append-nil a.rest))

takes_end : (a : Source) (u k l : ℕ) (before after : Left) → a.finished ≡ false → Consumes before after [] → IsAtEnd after
    → OnlyTakes (fed a u k l None) (fed (record a { finished = true }) u k l None) before after
takes_end a u k l before after still taken end = record {
  piece = [];
  taken = taken;
  rest = sym (append-nil a.rest);
  room = refl;
  gives = given before after taken end;
  end = λ _ _. read_out before after taken end;
  ended = λ done. absurd (both_ways a.finished still done);
  unread = λ done. absurd (both_ways a.finished still done);
  others = refl;
}
  where
    given : (before after : Left) → Consumes before after [] → IsAtEnd after
        → IfKnown (λ x y. follows (fed a u k l None) x ≡ follows (fed (record a { finished = true }) u k l None) y) before after
    given None after taken end = tt
    given (Some x) None taken end = absurd taken
    given (Some x) (Some y) taken end =
        subst₂ (λ (v w : List ℕ). follows (fed a u k l None) v ≡ follows (fed (record a { finished = true }) u k l None) w) (sym (taken ∙ end)) (sym end)
        (follows_finished a u k l still)

    read_out : (before after : Left) → Consumes before after [] → IsAtEnd after → IsReadOut before after
    read_out None after taken end = tt
    read_out (Some x) None taken end = absurd taken
    read_out (Some x) (Some y) taken end = end

reads_end : (a b c : Source) (r : List ℕ) (u v k l : ℕ) (before after : Left) → reader.Answers a b next.NotYet
    → ReadsOn b c r u v before after read.End → ReadsMore (fed a u k l None) (stream_by c r v k l None) before after
reads_end a b c r u v k l before after h reads =
    let is : stream_by c r v k l None ≡ fed (record a { finished = true }) u k l None =
    when_empty c r v k l None reads.1
    ∙ ap (λ (s : Source). fed s v k l None) (reads.0 ∙ ap (λ (s : Source). record s { finished = true }) h.2)
    ∙ ap (λ (n : ℕ). fed (record a { finished = true }) n k l None) reads.4 in
    subst (λ (x : Stream). ReadsMore (fed a u k l None) x before after) (sym is) (
      takes_end a u k l before after h.0 reads.2 reads.3,
      omega (arith, cond-false {A = ℕ} a.finished 0 1 h.0),
    )

-- what a read has done, after a result that decides nothing
reads_on : (a b c : Source) (r : List ℕ) (u v k l : ℕ) (before after : Left) (outcome : Read) → reader.Answers a b next.NotYet
    → ReadsOn b c r u v before after outcome
    → let y = tally_after_read (running k l) outcome in
    MatchOption (step_after_read (running k l) outcome) (ReadsMore (fed a u k l None) (stream_by c r v y.given y.limit y.stopped) before after)
    (Answers (fed a u k l None) (stream_by c r v y.given y.limit y.stopped) before after)
reads_on a b c r u v k l before after read.Piece h reads = reads_piece a b c r u v k l before after h reads
reads_on a b c r u v k l before after read.End h reads = reads_end a b c r u v k l before after h reads
reads_on a b c r u v k l before after read.Fault h reads = turn_fails a b c u v k l before after r h reads.0 reads.1 reads.2 reads.3
reads_on a b c r u v k l before after read.TooLong h reads =
    subst (λ (x : Stream). Refuses (fed a u k l None) x before (record { shot = k; kind = InputTooLong }))
    (sym (when_empty c r v k l (Some InputTooLong) reads.1))
    (turn_too_long a c u v k l before (h.0, h.1, reads.0 ∙ h.2) reads.3 reads.4 reads.2)

undecided : (y : Tally) (answer : NextShot) → step_after y answer ≡ None → answer ≡ next.NotYet
undecided y (next.Shot shot) e = absurd cc
undecided y next.NotYet e = refl
undecided y next.End e = absurd cc
undecided y (next.Refused why) e = absurd cc

pub read_turn : (now : Stream) (a b c : Source) (p q r : List ℕ) (u v : ℕ) (y x z : Tally) (answer : NextShot) (before after : Left) (outcome : Read)
    → Asked now a b p q u y answer → x ≡ tally_after y answer → step_after y answer ≡ None
    → ReadsOn b c r u v before after outcome → z ≡ tally_after_read x outcome
    → MatchOption (step_after_read x outcome) (ReadsMore now (stream_by c r v z.given z.limit z.stopped) before after)
    (Answers now (stream_by c r v z.given z.limit z.stopped) before after)
read_turn now a b c p q r u v y x z answer before after outcome h counts open_ reads counts_read =
    let none : answer ≡ next.NotYet = undecided y answer open_ in
    let same : running y.given y.limit ≡ x = is_running y h.runs ∙ sym (counts ∙ ap (tally_after y) none) in
    let old : Stream = fed (with_piece a p) u y.given y.limit None in
    let new : Tally → Stream = λ w. stream_by c r v w.given w.limit w.stopped in
    subst₂ (λ (s t : Stream). MatchOption (step_after_read x outcome) (ReadsMore s t before after) (Answers s t before after))
    (was now a b p q u y answer h) (ap new (sym counts_read))
    (subst (λ (w : Tally). MatchOption (step_after_read w outcome) (ReadsMore old (new (tally_after_read w outcome)) before after)
    (Answers old (new (tally_after_read w outcome)) before after)) same
    (reads_on (with_piece a p) b c r u v y.given y.limit before after outcome (subst (λ (n : NextShot). reader.Answers (with_piece a p) b n) none h.answers) reads))

-- a turn ends by a fault exactly if its read does
pub read_faults : {E : Type 0} (y : Tally) (outcome : Read) (r : Result (Option Step) E) (f f' : ℕ) → r ≡ Ok (step_after_read y outcome)
    → CountsFault (outcome ≡ read.Fault) f f' → CountsFault (r ≡ Ok (Some step.ReadFault)) f f'
read_faults y read.Piece r f f' is h = (λ e. absurd cc, h.1, λ _. h.2 (λ e. absurd cc))
read_faults y read.End r f f' is h = (λ e. absurd cc, h.1, λ _. h.2 (λ e. absurd cc))
read_faults y read.Fault r f f' is h = (λ _. h.0 refl, h.1, λ other. absurd (other is))
read_faults y read.TooLong r f f' is h = (λ e. absurd cc, h.1, λ _. h.2 (λ e. absurd cc))
