-- The answers of the readers of the formats, seen alike.
use Rattle.std.proofs.Common.{◌≡◌, ℕ, ◌<◌, List, ◌++◌, Bool, length, All, sym, ap, subst, ◌∙◌}
use Rattle.fb_graph.specs.Limits.{DecodingGraph, IsShot, ShotValue, detectors_of}
use Rattle.fb_records.specs.declared.answer.Next.{Next}
use Rattle.fb_records.specs.declared.answer.Next.TheVariants as next
use Rattle.fb_records.specs.Records.{Records, records_as, Reader}
use Rattle.fb_records.specs.Answers.{IfShot}
use Rattle.fb_records.specs.Answers as read
use Rattle.fb_shots_stim.specs.declared.answer.Kind.{Kind as StimKind}
use Rattle.fb_shots_stim.specs.Shots.{IsShotOf}
use Rattle.fb_shots_json.specs.declared.answer.Kind.{Kind as JsonKind}
use Rattle.fb_shots_json.specs.TextJson.{records_json, prefix_json, after_record}
use Rattle.fb_shots.specs.declared.answer.Kind.{Kind}
use Rattle.fb_shots.specs.declared.answer.Kind.TheVariants as kind
use Rattle.fb_request.specs.declared.format.Format.{Format}
use Rattle.fb_request.specs.declared.format.Format.TheVariants as format
use Rattle.fb_shots.specs.Shots.{refused, Shots, only, with_first_shot}
use Rattle.fb_shots.specs.Formats.{shot_of_detectors, of_stim, of_json, records_of, prefix_of}
use Rattle.fb_shots.specs.InternalSources.{Source}
use Rattle.fb_shots.specs.InternalAnswers.{Answers, answer_as, stim_answer, json_answer}
use Rattle.fb_shots.proofs.Detectors.{vertices_are_shot}
use Rattle.fb_shots.proofs.GoingOn.{goes_on_anywhere}

-- a format's reader as a source
abbrev source : {C : Type 0} → Format → DecodingGraph → Reader C → Source
source f g r = record { format = f; graph = g; rest = r.rest; finished = r.finished }

-- what was refused of a prefix is refused of more
pub stays_refused : (f : Format) (g : DecodingGraph) (bytes more : List ℕ) (why : Kind) → prefix_of f g bytes ≡ only (refused why)
    → prefix_of f g (bytes ++ more) ≡ only (refused why)
stays_refused f g bytes more why e =
    (goes_on_anywhere f g bytes more).1.judged why (ap (λ (r : Shots). r.ending) e) ∙ e

-- ---- a reader, whatever its format

-- bytes hold in the format what the reader's definitions say, in terms of shots and of refusals of this crate
record IsFormat {A K C : Type 0} (f : Format) (g : DecodingGraph) (shot_of : A → ShotValue) (say : K → Kind) (records prefix : C → List ℕ → Records A K) (c : C) : Type 0 where
  all : (bytes : List ℕ) → records_of f g bytes ≡ records_as shot_of say (records c bytes)
  open_ : (bytes : List ℕ) → prefix_of f g bytes ≡ records_as shot_of say (prefix c bytes)

reader_right : {A K C : Type 0} (f : Format) (g : DecodingGraph) (shot_of : A → ShotValue) (say : K → Kind)
    (records prefix : C → List ℕ → Records A K) (after : List ℕ → List ℕ) (old new : Reader C) (answer : Next A K)
    → IsFormat f g shot_of say records prefix old.subject → IfShot (λ given. IsShot g (shot_of given)) answer
    → read.Answers records prefix after old new answer → Answers (source f g old) (source f g new) (answer_as shot_of say answer)
reader_right {A} {K} {C} f g shot_of say records prefix after old new (next.Shot given) is shot h =
    let view : Records A K → Shots = records_as shot_of say in
    let made : Bool → Source = λ b. record { format = f; graph = g; rest = new.rest; finished = b } in (
      record {
        shorter = h.0.shorter;
        now = is.all old.rest ∙ ap view h.0.now ∙ ap (with_first_shot (shot_of given)) (sym (is.all new.rest));
        later = λ still more. is.all (old.rest ++ more) ∙ ap view (h.0.later still more) ∙ ap (with_first_shot (shot_of given)) (sym (is.all (new.rest ++ more)));
        onward = λ still more. is.open_ (old.rest ++ more) ∙ ap view (h.0.onward still more) ∙ ap (with_first_shot (shot_of given)) (sym (is.open_ (new.rest ++ more)));
      },
      shot,
      ap made (ap (λ (r : Reader C). r.finished) h.1),
    )
reader_right f g shot_of say records prefix after old new next.NotYet is shot h =
    (h.0, is.open_ old.rest ∙ ap (records_as shot_of say) h.1, ap (source f g) h.2)
reader_right f g shot_of say records prefix after old new next.End is shot h =
    (h.0, is.all old.rest ∙ ap (records_as shot_of say) h.1, ap (source f g) h.2)
reader_right f g shot_of say records prefix after old new (next.Refused why) is shot h = (
  record {
    now = is.all old.rest ∙ ap (records_as shot_of say) h.0.now;
    later = λ still more. is.all (old.rest ++ more) ∙ ap (records_as shot_of say) (h.0.later still more);
    onward = λ still more. stays_refused f g old.rest more (say why) (is.open_ old.rest ∙ ap (records_as shot_of say) (h.0.so_far still));
  },
  ap (source f g) h.1,
)

-- ---- readers of detectors

shot_if_detectors : (g : DecodingGraph) (n : ℕ) (answer : Next (List ℕ) StimKind) → n ≡ length (detectors_of g) → IfShot (IsShotOf n) answer → IfShot (λ detectors. IsShot g (shot_of_detectors g detectors)) answer
shot_if_detectors g n (next.Shot shot) e is = vertices_are_shot g shot is.rising (subst (λ (m : ℕ). All (λ k. k < m) shot) e is.below)
shot_if_detectors g n next.NotYet e is = tt
shot_if_detectors g n next.End e is = tt
shot_if_detectors g n (next.Refused why) e is = tt

pub stim_right : (f : Format) (g : DecodingGraph) (records prefix : ℕ → List ℕ → Records (List ℕ) StimKind) (after : List ℕ → List ℕ) (old new : Reader ℕ) (answer : Next (List ℕ) StimKind)
    → ((bytes : List ℕ) → records_of f g bytes ≡ of_stim g (records old.subject bytes))
    → ((bytes : List ℕ) → prefix_of f g bytes ≡ of_stim g (prefix old.subject bytes))
    → old.subject ≡ length (detectors_of g)
    → IfShot (IsShotOf old.subject) answer
    → read.Answers records prefix after old new answer
    → Answers (source f g old) (source f g new) (stim_answer g answer)
stim_right f g records prefix after old new answer rs fs n is h =
    reader_right f g (shot_of_detectors g) kind.Stim records prefix after old new answer
    (record { all = rs; open_ = fs }) (shot_if_detectors g old.subject answer n is) h

-- ---- the reader of JSON lines

pub json_right : (g : DecodingGraph) (old new : Reader DecodingGraph) (answer : Next ShotValue JsonKind) → old.subject ≡ g
    → IfShot (IsShot g) answer → read.Answers records_json prefix_json after_record old new answer
    → Answers (source format.Json g old) (source format.Json g new) (json_answer answer)
json_right g old new answer same is h =
    reader_right format.Json g (λ shot. shot) kind.Json records_json prefix_json after_record old new answer
    (record {
      all = λ bytes. ap (λ (x : DecodingGraph). of_json (records_json x bytes)) (sym same);
      open_ = λ bytes. ap (λ (x : DecodingGraph). of_json (prefix_json x bytes)) (sym same);
    })
    is h
