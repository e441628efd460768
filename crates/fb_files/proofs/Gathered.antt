-- The shots that a stream has given.
use Rattle.std.proofs.Common.{◌≡◌, ℕ, ◌≤◌, Bool, true, false, List, [], ◌∷◌, ◌++◌, length, All, Option, Some, None, IfSome, IsSome, Result, Ok, Err, IsErr, IsOk, refl, sym, ap, subst, subst₂, ◌∙◌, arith, append_assoc, append-nil, length-append}
use Rattle.std.specs.Io.KnownBytes.{Consumes}
use Rattle.std.proofs.KnownBytes.{Consumes-nil, Consumes-trans}
use Rattle.std.proofs.lemmas.List.Elements.{All-append, All-cons, All-nil}
use Rattle.fb_graph.specs.Limits.{DecodingGraph, IsShot, ShotValue}
use Rattle.fb_ports.specs.Causes.{Opens}
use Rattle.fb_request.specs.declared.format.Format.{Format}
use Rattle.fb_shots.specs.declared.answer.ShotFault.{ShotFault}
use Rattle.fb_shots.specs.Shots.{Ending, Shots, with_first_shots, at_end, only, refused, still_open}
use Rattle.fb_shots.specs.Formats.{prefix_of}
use Rattle.fb_shots.specs.Streams.{Stream, follows, fresh}
use Rattle.fb_shots.specs.Steps.{Ends, FailsToRead, GivesShot, IfKnown, IsReadOut, Refuses}
use Rattle.fb_shots.proofs.Taking.{later_read_out, open_before, stays_read_out, known_same, known_some, known_then}
use Rattle.fb_files.specs.Taking.{EndsSo, GivesShots}
use Rattle.fb_files.specs.Judging.{HasFirstShots, HasShots, Holds, IsReadInPart, IsReadOutIfNamed, Named, most_shots, shots_of}
use Rattle.fb_files.specs.InternalGathers.{FirstFrom, Gathers, GathersFrom, IsOpened}
use Rattle.fb_files.specs.declared.taking.ShotsEnd.{ShotsEnd}
use Rattle.fb_files.specs.declared.taking.ShotsEnd.TheVariants as end

same_shots : (xs ys : List ShotValue) (ending : Ending) → xs ≡ ys
    → ◌≡◌ {A = Shots} (record { shots = xs; ending = ending }) (record { shots = ys; ending = ending })
same_shots xs ys ending e = cc

front-both : (xs ys : List ShotValue) (r : Shots) → with_first_shots xs (with_first_shots ys r) ≡ with_first_shots (xs ++ ys) r
front-both xs ys r = same_shots _ _ r.ending (sym (append_assoc xs ys r.shots))

front-only : (shots : List ShotValue) (ending : Ending) → with_first_shots shots (only ending) ≡ record { shots = shots; ending = ending }
front-only shots ending = same_shots _ _ ending (append-nil shots)

-- what follows a stream before its first byte are the shots of what is left
whole : (start : Stream) → start ≡ fresh start.format start.graph most_shots → (text : List ℕ) → follows start text ≡ shots_of start.format start.graph text
whole start e text = ap (λ (s : Stream). follows s text) e

not_both : {P : Type 0} (b : Bool) → b ≡ false → b ≡ true → P
not_both b p q = absurd cc

pub gives_none : (s : Stream) (left : Option (List ℕ)) → GivesShots s s left left []
gives_none s left = record {
  piece = [];
  taken = Consumes-nil left;
  gives = known_same (λ before later. follows s before ≡ with_first_shots [] (follows s later)) left (λ text. refl);
  settles = λ still more. refl;
  unfinished = λ still. still;
  end = λ still done. not_both s.finished still done;
  unread = λ done. refl;
  format = refl;
  graph = refl;
  limit = refl;
  counts = omega arith;
  fits = λ le. le;
  all = All-nil (IsShot s.graph);
}

pub gives_one : (old new : Stream) (before after : Option (List ℕ)) (shot : ShotValue) → GivesShot old new before after shot
    → GivesShots old new before after (shot ∷ [])
gives_one old new before after shot step =
    let format : new.format ≡ old.format = ap (λ (s : Stream). s.format) step.others in
    let graph : new.graph ≡ old.graph = ap (λ (s : Stream). s.graph) step.others in
    let limit : new.limit ≡ old.limit = ap (λ (s : Stream). s.limit) step.others in record {
      piece = step.piece;
      taken = step.taken;
      gives = step.gives;
      settles = step.prefix;
      unfinished = step.unfinished;
      end = step.end;
      unread = step.unread;
      format = format;
      graph = graph;
      limit = limit;
      counts = step.counts;
      fits = λ le. omega (arith, step.counts, step.below, limit);
      all = All-cons (IsShot old.graph) shot [] step.is_shot (All-nil (IsShot old.graph));
    }

-- shots that are given one after another
pub gives_both : (a b c : Stream) (before middle after : Option (List ℕ)) (xs ys : List ShotValue) → GivesShots a b before middle xs
    → GivesShots b c middle after ys → GivesShots a c before after (xs ++ ys)
gives_both a b c before middle after xs ys first second = record {
  piece = first.piece ++ second.piece;
  taken = Consumes-trans before middle after first.piece second.piece first.taken second.taken;
  gives = known_then (λ x y. follows a x ≡ with_first_shots xs (follows b y)) (λ y z. follows b y ≡ with_first_shots ys (follows c z))
      (λ x z. follows a x ≡ with_first_shots (xs ++ ys) (follows c z)) before middle after
      (λ x y z p q. p ∙ ap (with_first_shots xs) q ∙ front-both xs ys (follows c z)) first.gives second.gives;
  settles = λ still more.
      ap (λ (bytes : List ℕ). prefix_of a.format a.graph (a.rest ++ bytes)) (append_assoc first.piece second.piece more)
      ∙ first.settles (second.unfinished still) (second.piece ++ more)
      ∙ ap (with_first_shots xs) (settled still more)
      ∙ front-both xs ys (prefix_of a.format a.graph (c.rest ++ more));
  unfinished = λ still. first.unfinished (second.unfinished still);
  end = λ still done. ended b.finished refl still done;
  unread = λ done. unread done;
  format = second.format ∙ first.format;
  graph = second.graph ∙ first.graph;
  limit = second.limit ∙ first.limit;
  counts = omega (arith, first.counts, second.counts, length-append xs ys);
  fits = λ le. second.fits (first.fits le);
  all = All-append (IsShot a.graph) xs ys first.all (subst (λ (g : DecodingGraph). All (IsShot g) ys) first.graph second.all);
}
  where
    settled : c.finished ≡ false → (more : List ℕ) → prefix_of a.format a.graph (b.rest ++ (second.piece ++ more))
        ≡ with_first_shots ys (prefix_of a.format a.graph (c.rest ++ more))
    settled still more =
        subst₂ (λ (f : Format) (g : DecodingGraph). prefix_of f g (b.rest ++ (second.piece ++ more)) ≡ with_first_shots ys (prefix_of f g (c.rest ++ more)))
        first.format first.graph (second.settles still more)

    ended : (f : Bool) → b.finished ≡ f → a.finished ≡ false → c.finished ≡ true → IsReadOut before after
    ended false was still done = later_read_out before middle after first.piece first.taken (second.end was done)
    ended true was still done = stays_read_out before middle after second.piece (first.end still was) second.taken

    unread : a.finished ≡ true → after ≡ before
    unread done = go b.finished refl
      where
        go : (f : Bool) → b.finished ≡ f → after ≡ before
        go false was = not_both a.finished (first.unfinished was) done
        go true was = second.unread was ∙ first.unread done

pub gives_next : (start now next : Stream) (before middle after : Option (List ℕ)) (shots : List ShotValue) (shot : ShotValue)
    → GivesShots start now before middle shots → GivesShot now next middle after shot → GivesShots start next before after (shots ++ shot ∷ [])
gives_next start now next before middle after shots shot so_far step =
    gives_both start now next before middle after shots (shot ∷ []) so_far (gives_one now next middle after shot step)

-- ---- from a stream that has read nothing yet

module _ (start now : Stream) (before middle : Option (List ℕ)) (shots : List ShotValue) (is_fresh : start ≡ fresh start.format start.graph most_shots) (so_far : GivesShots start now before middle shots) where
  none_given : start.given ≡ 0
  none_given = ap (λ (s : Stream). s.given) is_fresh

  unfinished : start.finished ≡ false
  unfinished = ap (λ (s : Stream). s.finished) is_fresh

  pub given_count : now.given ≡ length shots
  given_count = omega (arith, so_far.counts, none_given)

  pub given_fits : now.given ≤ now.limit
  given_fits = so_far.fits (omega (arith, none_given))

  pub given_few : length shots ≤ most_shots
  given_few = omega (arith, given_count, given_fits, so_far.limit, ap (λ (s : Stream). s.limit) is_fresh)

  pub given_read_out : now.finished ≡ true → IsReadOut before middle
  given_read_out done = so_far.end unfinished done

  module _ (next : Stream) (after : Option (List ℕ)) where
    -- what a file holds whose bytes were known, by how its shots ended
    pub gathered_all : Ends now next middle after → IfSome before (HasShots start.format start.graph shots at_end)
    gathered_all ends = known_some (λ x y. follows start x ≡ with_first_shots shots (follows now y)) (λ y. follows now y ≡ only at_end)
        (HasShots start.format start.graph shots at_end) before middle
        (λ a b p q. sym (whole start is_fresh a) ∙ p ∙ ap (with_first_shots shots) q ∙ front-only shots at_end) so_far.gives ends.gives

    pub gathered_to_end : Ends now next middle after → IsReadOut before after
    gathered_to_end ends = by_flag now.finished refl
      where
        by_flag : (f : Bool) → now.finished ≡ f → IsReadOut before after
        by_flag false was = later_read_out before middle after so_far.piece so_far.taken (ends.end was)
        by_flag true was = stays_read_out before middle after ends.piece (given_read_out was) ends.taken

    pub gathered_before : (fault : ShotFault) → Refuses now next middle fault
        → IfSome before (HasShots start.format start.graph shots (refused fault.kind)) × (fault.shot ≡ length shots)
    gathered_before fault refuses = (
      known_some (λ x y. follows start x ≡ with_first_shots shots (follows now y)) (λ y. follows now y ≡ only (refused fault.kind))
          (HasShots start.format start.graph shots (refused fault.kind)) before middle
          (λ a b p q. sym (whole start is_fresh a) ∙ p ∙ ap (with_first_shots shots) q ∙ front-only shots (refused fault.kind)) so_far.gives refuses.gives,
      refuses.number ∙ given_count,
    )

    pub gathered_part : FailsToRead now next middle after → IfSome before (IsReadInPart start.format start.graph after shots)
    gathered_part fails = part before middle after so_far.taken fails.takes.taken so_far.gives
      where
        undecided : prefix_of start.format start.graph next.rest ≡ only still_open
        undecided = subst₂ (λ (f : Format) (g : DecodingGraph). prefix_of f g next.rest ≡ only still_open)
            (ap (λ (s : Stream). s.format) fails.takes.others ∙ so_far.format) (ap (λ (s : Stream). s.graph) fails.takes.others ∙ so_far.graph)
            fails.undecided

        settled : prefix_of start.format start.graph (so_far.piece ++ fails.takes.piece) ≡ record { shots = shots; ending = still_open }
        settled = ap (λ (xs : List ℕ). prefix_of start.format start.graph (xs ++ (so_far.piece ++ fails.takes.piece)))
            (sym (ap (λ (s : Stream). s.rest) is_fresh))
            ∙ so_far.settles (open_before now next middle after fails.takes fails.unfinished) fails.takes.piece
            ∙ ap (λ (xs : List ℕ). with_first_shots shots (prefix_of start.format start.graph xs)) (sym fails.takes.rest)
            ∙ ap (with_first_shots shots) undecided ∙ front-only shots still_open

        part : (a b c : Option (List ℕ)) → Consumes a b so_far.piece → Consumes b c fails.takes.piece
            → IfKnown (λ left later. follows start left ≡ with_first_shots shots (follows now later)) a b
            → IfSome a (IsReadInPart start.format start.graph c shots)
        part None b c first second gives = tt
        part (Some text) None c first second gives = absurd first
        part (Some text) (Some later) None first second gives = absurd second
        part (Some text) (Some later) (Some rest) first second gives = record {
          given = so_far.piece ++ fails.takes.piece;
          rest = rest;
          remains = refl;
          parts = first ∙ ap (λ (xs : List ℕ). so_far.piece ++ xs) second ∙ sym (append_assoc so_far.piece fails.takes.piece rest);
          settled = settled;
          first = ((follows now later).shots, ap (λ (r : Shots). r.shots) (sym (whole start is_fresh text) ∙ gives));
        }

    -- what a file holds whose bytes were known, where its shots end after these
    pub gathered_so : (ended : ShotsEnd) → EndsSo now next middle after (Some ended) → GathersFrom before start.format start.graph after shots ended
    gathered_so end.End ends = gathered_all ends
    gathered_so (end.Refused fault) ends = gathered_before fault ends
    gathered_so end.ReadFault ends = gathered_part ends

    pub ended_read_out : (ended : ShotsEnd) → EndsSo now next middle after (Some ended) → ended ≡ end.End → IsReadOut before after
    ended_read_out ended ends is = gathered_to_end (subst (λ (e : ShotsEnd). EndsSo now next middle after (Some e)) is ends)

  -- the shots given so far are the first ones
  pub given_first : FirstFrom before start.format start.graph shots
  given_first = go before middle so_far.gives
    where
      go : (a b : Option (List ℕ)) → IfKnown (λ left later. follows start left ≡ with_first_shots shots (follows now later)) a b
          → FirstFrom a start.format start.graph shots
      go None b gives = tt
      go (Some text) None gives = absurd gives
      go (Some text) (Some later) gives = ((follows now later).shots, ap (λ (r : Shots). r.shots) (sym (whole start is_fresh text) ∙ gives))

-- no shots are the first ones
pub first_of_none : (left : Option (List ℕ)) (format : Format) (g : DecodingGraph) → FirstFrom left format g []
first_of_none None format g = tt
first_of_none (Some text) format g = ((shots_of format g text).shots, refl)

some_more : (P Q : List ℕ → Type 0) (left : Option (List ℕ)) → ((text : List ℕ) → P text → Q text) → IfSome left P → IfSome left Q
some_more P Q None more held = tt
some_more P Q (Some text) more held = more text held

first_of_all : (format : Format) (g : DecodingGraph) (shots : List ShotValue) (ending : Ending) (text : List ℕ) → HasShots format g shots ending text
    → HasFirstShots format g shots text
first_of_all format g shots ending text e = ([], ap (λ (r : Shots). r.shots) e ∙ sym (append-nil shots))

-- the shots that were gathered are the first ones
pub gathered_first : (bytes : Option (List ℕ)) (format : Format) (g : DecodingGraph) (left : Option (List ℕ)) (shots : List ShotValue) (ended : ShotsEnd)
    → GathersFrom bytes format g left shots ended → IfSome bytes (HasFirstShots format g shots)
gathered_first bytes format g left shots end.End held =
    some_more (HasShots format g shots at_end) (HasFirstShots format g shots) bytes (first_of_all format g shots at_end) held
gathered_first bytes format g left shots (end.Refused fault) held =
    some_more (HasShots format g shots (refused fault.kind)) (HasFirstShots format g shots) bytes (first_of_all format g shots (refused fault.kind)) held.0
gathered_first bytes format g left shots end.ReadFault held =
    some_more (IsReadInPart format g left shots) (HasFirstShots format g shots) bytes (λ text p. p.first) held

-- ---- the file of a name, once it was opened

no_bool : {P : Type 0} → false ≡ true → P
no_bool e = absurd cc

pub is_opened : {T E : Type 0} (named : Named) (name : List ℕ) (left : Option (List ℕ)) (r : Result T E) → IsOk r → Opens named left name r
    → IsOpened named name left
is_opened None name left r ok opens = tt
is_opened (Some f) name left (Ok x) ok opens = opens
is_opened (Some f) name left (Err x) ok opens = no_bool ok

-- of a file that couldn't be opened nothing is left
pub is_unopened : {T E : Type 0} (named : Named) (name : List ℕ) (left : Option (List ℕ)) (r : Result T E) → IsErr r → Opens named left name r
    → IsReadOutIfNamed named left
is_unopened None name left r failed opens = tt
is_unopened (Some f) name left (Ok x) failed opens = no_bool failed
is_unopened (Some f) name left (Err x) failed opens = opens

opened_some : (left : Option (List ℕ)) (name : List ℕ) (P : List ℕ → Type 0) (f : List ℕ → Option (List ℕ)) → left ≡ f name → IsSome (f name)
    → IfSome left P → (text : List ℕ) × (f name ≡ Some text) × P text
opened_some None name P f e some held = no_bool (subst IsSome (sym e) some)
opened_some (Some text) name P f e some held = (text, sym e, held)

module _ (named : Named) (name : List ℕ) (left : Option (List ℕ)) where
  pub holds_opened : (P : List ℕ → Type 0) → IsOpened named name left → IfSome left P → Holds named name P
  holds_opened P opened held = go named opened
    where
      go : (n : Named) → IsOpened n name left → Holds n name P
      go None opened = tt
      go (Some f) opened = opened_some left name P f opened.0 opened.1 held

  pub gathers_opened : (format : Format) (g : DecodingGraph) (later : Option (List ℕ)) (shots : List ShotValue) (ended : ShotsEnd) → IsOpened named name left
      → GathersFrom left format g later shots ended → Gathers named name format g later shots ended
  gathers_opened format g later shots end.End opened held = holds_opened (HasShots format g shots at_end) opened held
  gathers_opened format g later shots (end.Refused fault) opened held =
      (holds_opened (HasShots format g shots (refused fault.kind)) opened held.0, held.1)
  gathers_opened format g later shots end.ReadFault opened held = holds_opened (IsReadInPart format g later shots) opened held

  pub read_out_opened : (after : Option (List ℕ)) → IsOpened named name left → IsReadOut left after → IsReadOutIfNamed named after
  read_out_opened after opened out = go named left after opened out
    where
      go : (n : Named) (l m : Option (List ℕ)) → IsOpened n name l → IsReadOut l m → IsReadOutIfNamed n m
      go None l m opened out = tt
      go (Some f) None m opened out = no_bool (subst IsSome (sym opened.0) opened.1)
      go (Some f) (Some text) None opened out = absurd out
      go (Some f) (Some text) (Some later) opened out = ap Some out
