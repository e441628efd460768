-- Bytes that are taken before an answer.
use Rattle.std.proofs.Common.{◌≡◌, ℕ, ◌+◌, ◌<◌, true, false, List, [], ◌∷◌, ◌++◌, Option, Some, None, IfSome, refl, sym, ap, subst, subst₂, ◌∙◌, inl, inr, ◌⊎◌, length, arith, append_assoc, append-nil, length-append}
use Rattle.std.proofs.lemmas.Bool.{cases_Bool, both_ways}
use Rattle.std.specs.Io.KnownBytes.{Consumes, Keeps}
use Rattle.std.proofs.KnownBytes.{Consumes-trans}
use Rattle.fb_graph.specs.Limits.{DecodingGraph, IsShot, ShotValue}
use Rattle.fb_request.specs.declared.format.Format.{Format}
use Rattle.fb_shots.specs.declared.answer.ShotFault.{ShotFault}
use Rattle.fb_shots.specs.declared.answer.Step.{Step}
use Rattle.fb_shots.specs.declared.answer.Step.TheVariants as step
use Rattle.fb_shots.specs.Shots.{only, with_first_shot, at_end, refused}
use Rattle.fb_shots.specs.Formats.{prefix_of}
use Rattle.fb_shots.specs.Streams.{Stream, follows}
use Rattle.fb_shots.specs.Steps.{IfKnown, IsReadOut, IsReason, OnlyTakes, GivesShot, Ends, Refuses, FailsToRead, Answers, settled_shots}

abbrev pub Left : Type 0
Left = Option (List ℕ)

-- ---- what is known

pub known_same : (P : List ℕ → List ℕ → Type 0) (l : Left) → ((left : List ℕ) → P left left) → IfKnown P l l
known_same P None h = tt
known_same P (Some left) h = h left

pub known_kept : (P : List ℕ → List ℕ → Type 0) (l m : Left) → Keeps l m → ((left : List ℕ) → P left left) → IfKnown P l m
known_kept P None m k h = tt
known_kept P (Some left) None k h = absurd k
known_kept P (Some left) (Some later) k h = subst (P left) (sym k) (h left)

pub known_taken : (P : List ℕ → List ℕ → Type 0) (l m : Left) (bytes : List ℕ) → Consumes l m bytes
    → ((later : List ℕ) → P (bytes ++ later) later) → IfKnown P l m
known_taken P None m bytes t h = tt
known_taken P (Some left) None bytes t h = absurd t
known_taken P (Some left) (Some later) bytes t h = subst (λ (x : List ℕ). P x later) (sym t) (h later)

pub known_then : (P Q R : List ℕ → List ℕ → Type 0) (l m r : Left) → ((x y z : List ℕ) → P x y → Q y z → R x z)
    → IfKnown P l m → IfKnown Q m r → IfKnown R l r
known_then P Q R None m r h p q = tt
known_then P Q R (Some x) None r h p q = absurd p
known_then P Q R (Some x) (Some y) None h p q = absurd q
known_then P Q R (Some x) (Some y) (Some z) h p q = h x y z p q

pub known_some : (P : List ℕ → List ℕ → Type 0) (Q R : List ℕ → Type 0) (l m : Left) → ((x y : List ℕ) → P x y → Q y → R x)
    → IfKnown P l m → IfSome m Q → IfSome l R
known_some P Q R None m h p q = tt
known_some P Q R (Some x) None h p q = absurd p
known_some P Q R (Some x) (Some y) h p q = h x y p q

pub each_some : (P : List ℕ → Type 0) (l : Left) → ((left : List ℕ) → P left) → IfSome l P
each_some P None h = tt
each_some P (Some left) h = h left

nothing_of : (bs ys : List ℕ) → [] ≡ bs ++ ys → ys ≡ []
nothing_of [] ys e = sym e
nothing_of (b ∷ bs) ys e = absurd cc

pub stays_read_out : (l m r : Left) (bytes : List ℕ) → IsReadOut l m → Consumes m r bytes → IsReadOut l r
stays_read_out None m r bytes e t = tt
stays_read_out (Some x) None r bytes e t = absurd e
stays_read_out (Some x) (Some y) None bytes e t = absurd t
stays_read_out (Some x) (Some y) (Some z) bytes e t = nothing_of bytes z (sym e ∙ t)

pub later_read_out : (l m r : Left) (bytes : List ℕ) → Consumes l m bytes → IsReadOut m r → IsReadOut l r
later_read_out None m r bytes t e = tt
later_read_out (Some x) None r bytes t e = absurd t
later_read_out (Some x) (Some y) None bytes t e = absurd e
later_read_out (Some x) (Some y) (Some z) bytes t e = e

-- ---- bytes that are taken, and then more

pub open_before : (a b : Stream) (l m : Left) → OnlyTakes a b l m → b.finished ≡ false → a.finished ≡ false
open_before a b l m p still = elim (cases_Bool a.finished) [
  | inl done ↦ absurd (both_ways b.finished still (ap (λ (s : Stream). s.finished) (p.ended done) ∙ done))
  | inr still ↦ still
]

-- the end was seen by the first or by the second
read_out_by : (a b c : Stream) (l m r : Left) (bytes : List ℕ) → OnlyTakes a b l m → Consumes m r bytes
    → (b.finished ≡ false → IsReadOut m r) → a.finished ≡ false → IsReadOut l r
read_out_by a b c l m r bytes p t q still = elim (cases_Bool b.finished) [
  | inl done ↦ stays_read_out l m r bytes (p.end still done) t
  | inr still ↦ later_read_out l m r p.piece p.taken (q still)
]

pub takes_nothing : (a : Stream) (l m : Left) → a.finished ≡ false → Keeps l m → OnlyTakes a a l m
takes_nothing a l m still k = record {
  piece = [];
  taken = kept l m k;
  rest = sym (append-nil a.rest);
  room = refl;
  gives = known_kept (λ left later. follows a left ≡ follows a later) l m k (λ left. refl);
  end = λ still done. absurd (both_ways a.finished still done);
  ended = λ done. refl;
  unread = λ done. absurd (both_ways a.finished still done);
  others = refl;
}
  where
    kept : (l m : Left) → Keeps l m → Consumes l m []
    kept None m k = tt
    kept (Some x) None k = absurd k
    kept (Some x) (Some y) k = sym k

-- a stream that had seen the file's end before
unread_by : (a b : Stream) (l m r : Left) → OnlyTakes a b l m → (b.finished ≡ true → r ≡ m) → a.finished ≡ true → r ≡ l
unread_by a b l m r p q done = q (ap (λ (s : Stream). s.finished) (p.ended done) ∙ done) ∙ p.unread done

pub then_takes : (a b c : Stream) (l m r : Left) → OnlyTakes a b l m → OnlyTakes b c m r → OnlyTakes a c l r
then_takes a b c l m r p q = record {
  piece = p.piece ++ q.piece;
  taken = Consumes-trans l m r p.piece q.piece p.taken q.taken;
  rest = q.rest ∙ ap (λ (x : List ℕ). x ++ q.piece) p.rest ∙ append_assoc a.rest p.piece q.piece;
  room = q.room ∙ p.room;
  gives = known_then (λ x y. follows a x ≡ follows b y) (λ y z. follows b y ≡ follows c z) (λ x z. follows a x ≡ follows c z)
      l m r (λ x y z e f. e ∙ f) p.gives q.gives;
  end = λ still done. read_out_by a b c l m r q.piece p q.taken (λ still. q.end still done) still;
  ended = λ done. q.ended (ap (λ (s : Stream). s.finished) (p.ended done) ∙ done) ∙ p.ended done;
  unread = unread_by a b l m r p q.unread;
  others = q.others ∙ ap (λ (s : Stream). record s { rest = c.rest; finished = c.finished; untaken = c.untaken }) p.others;
}

-- the bytes of two pieces
joined_pieces : (a b : Stream) (l m : Left) (piece : List ℕ) (p : OnlyTakes a b l m) → a.rest ++ (p.piece ++ piece) ≡ b.rest ++ piece
joined_pieces a b l m piece p = sym (append_assoc a.rest p.piece piece) ∙ ap (λ (x : List ℕ). x ++ piece) (sym p.rest)

then_gives : (a b c : Stream) (l m r : Left) (shot : ShotValue) → OnlyTakes a b l m → GivesShot b c m r shot → GivesShot a c l r shot
then_gives a b c l m r shot p q =
    let format : b.format ≡ a.format = ap (λ (s : Stream). s.format) p.others in
    let graph : b.graph ≡ a.graph = ap (λ (s : Stream). s.graph) p.others in
    let given : b.given ≡ a.given = ap (λ (s : Stream). s.given) p.others in
    let limit : b.limit ≡ a.limit = ap (λ (s : Stream). s.limit) p.others in record {
      piece = p.piece ++ q.piece;
      taken = Consumes-trans l m r p.piece q.piece p.taken q.taken;
      gives = known_then (λ x y. follows a x ≡ follows b y) (λ y z. follows b y ≡ with_first_shot shot (follows c z))
          (λ x z. follows a x ≡ with_first_shot shot (follows c z)) l m r (λ x y z e f. e ∙ f) p.gives q.gives;
      holds = ap (settled_shots c) (joined_pieces a b l m q.piece p) ∙ q.holds;
      unfinished = λ still. open_before a b l m p (q.unfinished still);
      prefix = λ still more.
          ap (prefix_of a.format a.graph) (ap (λ (x : List ℕ). a.rest ++ x) (append_assoc p.piece q.piece more)
          ∙ sym (append_assoc a.rest p.piece (q.piece ++ more)) ∙ ap (λ (x : List ℕ). x ++ (q.piece ++ more)) (sym p.rest))
          ∙ subst₂ (λ (f : Format) (g : DecodingGraph). prefix_of f g (b.rest ++ (q.piece ++ more)) ≡ with_first_shot shot (prefix_of f g (c.rest ++ more)))
          format graph (q.prefix still more);
      end = λ still done. read_out_by a b c l m r q.piece p q.taken (λ still. q.end still done) still;
      unread = unread_by a b l m r p q.unread;
      is_shot = subst (λ (g : DecodingGraph). IsShot g shot) graph q.is_shot;
      counts = q.counts ∙ ap (λ (n : ℕ). n + 1) given;
      below = subst₂ (λ (n k : ℕ). n < k) given limit q.below;
      others = q.others ∙ ap (λ (s : Stream). record s { rest = c.rest; finished = c.finished; untaken = c.untaken; given = c.given }) p.others;
    }

then_ends : (a b c : Stream) (l m r : Left) → OnlyTakes a b l m → Ends b c m r → Ends a c l r
then_ends a b c l m r p q = record {
  piece = p.piece ++ q.piece;
  taken = Consumes-trans l m r p.piece q.piece p.taken q.taken;
  rest = q.rest ∙ sym (joined_pieces a b l m q.piece p);
  gives = known_some (λ x y. follows a x ≡ follows b y) (λ y. follows b y ≡ only at_end) (λ x. follows a x ≡ only at_end)
      l m (λ x y e f. e ∙ f) p.gives q.gives;
  finished = q.finished;
  end = λ still. read_out_by a b c l m r q.piece p q.taken q.end still;
  unread = unread_by a b l m r p q.unread;
  again = q.again;
  others = q.others ∙ ap (λ (s : Stream). record s { rest = c.rest; finished = c.finished; untaken = c.untaken }) p.others;
}

then_refuses : (a b c : Stream) (l m : Left) (fault : ShotFault) → OnlyTakes a b l m → Refuses b c m fault → Refuses a c l fault
then_refuses a b c l m fault p q = record {
  piece = p.piece ++ q.piece;
  room = omega (arith, q.room, p.room, ap length p.rest, length-append a.rest p.piece, length-append p.piece q.piece);
  reason = elim q.reason as (λ r. (a.stopped ≡ Some fault.kind) ⊎ IsReason c (a.rest ++ (p.piece ++ q.piece)) fault.kind) [
    | inl before ↦ inl (sym (ap (λ (s : Stream). s.stopped) p.others) ∙ before)
    | inr why ↦ inr (subst (λ (x : List ℕ). IsReason c x fault.kind) (sym (joined_pieces a b l m q.piece p)) why)
  ];
  number = q.number ∙ ap (λ (s : Stream). s.given) p.others;
  gives = known_some (λ x y. follows a x ≡ follows b y) (λ y. follows b y ≡ only (refused fault.kind))
      (λ x. follows a x ≡ only (refused fault.kind)) l m (λ x y e f. e ∙ f) p.gives q.gives;
  stops = q.stops;
  again = q.again;
  others = q.others
      ∙ ap (λ (s : Stream). record s { rest = c.rest; finished = c.finished; untaken = c.untaken; stopped = c.stopped }) p.others;
}

then_fails : (a b c : Stream) (l m r : Left) → OnlyTakes a b l m → FailsToRead b c m r → FailsToRead a c l r
then_fails a b c l m r p q =
    record { takes = then_takes a b c l m r p q.takes; unfinished = q.unfinished; runs = q.runs; undecided = q.undecided }

pub then_answers : (a b c : Stream) (l m r : Left) (s : Step) → OnlyTakes a b l m → Answers b c m r s → Answers a c l r s
then_answers a b c l m r (step.Shot shot) p q = then_gives a b c l m r shot p q
then_answers a b c l m r step.End p q = then_ends a b c l m r p q
then_answers a b c l m r (step.Refused fault) p q = then_refuses a b c l m fault p q
then_answers a b c l m r step.ReadFault p q = then_fails a b c l m r p q
