-- Links by their numbers: one more, and one taken off.
use Rattle.std.proofs.Common.{ℕ, zero, suc, ◌+◌, ◌<◌, ◌≤◌, ◌≡◌, ◌≢◌, Bool, true, cond, List, [], ◌∷◌, ◌++◌, reverse, length, get_or, set, Option, Some, None, All, arith, refl, sym, ap, ◌∙◌, subst, inl, inr}
use Rattle.std.specs.Prelude.{count_by, is_some}
use Rattle.std.proofs.lemmas.Bool.{cases_lt, false≢true}
use Rattle.std.proofs.lemmas.Option.{none-some}
use Rattle.std.proofs.lemmas.List.{length-set, length_push, length-reverse, reverse-append, get_or_push, get_or-set_same, get_or-set_other, get_or_past}
use Rattle.std.proofs.lemmas.List.Elements.{All-nil, All-cons, All-head, All-tail}
use Rattle.std.proofs.lemmas.List.Sums.{sum_by-set, sum_by_push}
use Rattle.fb_links.specs.declared.span.Span.{Span}
use Rattle.fb_links.specs.declared.walk.Step.{Step}
use Rattle.fb_links.specs.Table.{Adds, link_at}
use Rattle.fb_links.specs.InternalKept.{AreFree, AreNumbered, Stores, span_at}

abbrev pub Spans : Type 0
Spans = List (Option Span)

-- a number beyond the table has no link
pub below_end : (spans : Spans) (id : ℕ) → is_some (span_at spans id) ≡ true → id < length spans
below_end spans id live =
    elim (cases_lt id (length spans)) [
      | inl within ↦ within
      | inr past ↦ absurd (false≢true (ap is_some (sym (get_or_past spans id None past)) ∙ live))
    ]

-- a number that has a link isn't free
not_free : (spans : Spans) (ids : List ℕ) (id : ℕ) → AreFree spans ids → is_some (span_at spans id) ≡ true
    → All (λ k. k ≢ id) ids
not_free spans [] id free live = All-nil (λ k. k ≢ id)
not_free spans (k ∷ ks) id (below, none, apart, rest) live =
    All-cons (λ j. j ≢ id) k ks
    (λ same. false≢true (ap is_some (sym none) ∙ (ap (λ i. is_some (span_at spans i)) same ∙ live)))
    (not_free spans ks id rest live)

-- the numbers apart from one stay free, whatever is put there
free_set : (spans : Spans) (ids : List ℕ) (id : ℕ) (x : Option Span) → All (λ k. k ≢ id) ids
    → AreFree spans ids → AreFree (set spans id x) ids
free_set spans [] id x apart free = tt
free_set spans (k ∷ ks) id x others (below, none, apart, rest) = (
  subst (λ n. k < n) (sym (length-set spans id x)) below,
  get_or-set_other spans id k x None (All-head (λ j. j ≢ id) k ks others) ∙ none,
  apart,
  free_set spans ks id x (All-tail (λ j. j ≢ id) k ks others) rest,
)

pub get_or-push_other : {X : Type 0} → (xs : List X) (y d : X) (k : ℕ) → k ≢ length xs → get_or (xs ++ y ∷ []) k d ≡ get_or xs k d
get_or-push_other [] y d zero other = absurd (other refl)
get_or-push_other [] y d (suc k) other = refl
get_or-push_other (x ∷ xs) y d zero other = refl
get_or-push_other (x ∷ xs) y d (suc k) other = get_or-push_other xs y d k (λ e. other (ap suc e))

-- the number of links after a change at one place
count_set : (spans : Spans) (id : ℕ) (x : Option Span) → id < length spans
    → count_by is_some (set spans id x) + cond (is_some (span_at spans id)) 1 0 ≡ count_by is_some spans + cond (is_some x) 1 0
count_set spans id x within = sum_by-set (λ o. cond (is_some o) 1 0) spans id x None within

-- the free number last freed gets a span
numbered_in_place : (spans : Spans) (id : ℕ) (free : List ℕ) (capacity : ℕ) (span : Span)
    → AreNumbered spans (id ∷ free) capacity → AreNumbered (set spans id (Some span)) free capacity
numbered_in_place spans id free capacity span kept =
    record {
      unused = free_set spans free id (Some span) kept.unused.2 kept.unused.3;
      counted =
          omega (arith, count_set spans id (Some span) kept.unused.0, ap {A = Option Span} (λ o. cond {A = ℕ} (is_some o) 1 0) kept.unused.1, length-set spans id (Some span), kept.counted);
      room = subst (λ n. n ≤ capacity) (sym (length-set spans id (Some span))) kept.room;
    }

-- the number of a link taken off becomes the last freed
numbered_without : (spans : Spans) (free : List ℕ) (capacity id : ℕ) → AreNumbered spans free capacity
    → is_some (span_at spans id) ≡ true → AreNumbered (set spans id None) (id ∷ free) capacity
numbered_without spans free capacity id kept live =
    let within = below_end spans id live in
    let apart = not_free spans free id kept.unused live in
    record {
      unused =
          (subst (λ n. id < n) (sym (length-set spans id None)) within, get_or-set_same spans id None None within, apart, free_set spans free id None apart kept.unused);
      counted =
          omega (arith, count_set spans id None within, ap {A = Bool} (λ b. cond {A = ℕ} b 1 0) live, length-set spans id None, kept.counted);
      room = subst (λ n. n ≤ capacity) (sym (length-set spans id None)) kept.room;
    }

reverse_push : (ids : List ℕ) (id : ℕ) → reverse (ids ++ id ∷ []) ≡ id ∷ reverse ids
reverse_push ids id = reverse-append ids (id ∷ [])

-- as the code keeps the free numbers, the last freed at the end
freed_last : (spans : Spans) (old new : List ℕ) (id before after : ℕ) → AreNumbered spans (reverse old) before
    → old ≡ new ++ id ∷ [] → after ≡ before → AreNumbered spans (id ∷ reverse new) after
freed_last spans old new id before after kept popped same =
    subst (AreNumbered spans (id ∷ reverse new)) (sym same)
    (subst (λ free. AreNumbered spans free before) (ap reverse popped ∙ reverse_push new id) kept)

-- the number freed last is in the table, and no link has it
pub last_unused : (spans : Spans) (old new : List ℕ) (id before : ℕ) → AreNumbered spans (reverse old) before
    → old ≡ new ++ id ∷ [] → (id < length spans) × (span_at spans id ≡ None)
last_unused spans old new id before kept popped =
    let free = freed_last spans old new id before before kept popped refl in (free.unused.0, free.unused.1)

pub numbered_after_pop : (spans : Spans) (old new : List ℕ) (id before after : ℕ) (span : Span)
    → AreNumbered spans (reverse old) before → old ≡ new ++ id ∷ [] → after ≡ before
    → AreNumbered (set spans id (Some span)) (reverse new) after
numbered_after_pop spans old new id before after span kept popped same =
    numbered_in_place spans id (reverse new) after span (freed_last spans old new id before after kept popped same)

pub numbered_after_push : (spans : Spans) (old new : List ℕ) (id before after : ℕ)
    → AreNumbered spans (reverse old) before → is_some (span_at spans id) ≡ true → new ≡ old ++ id ∷ [] → after ≡ before
    → AreNumbered (set spans id None) (reverse new) after
numbered_after_push spans old new id before after kept live pushed same =
    subst (λ free. AreNumbered (set spans id None) free after) (sym (ap reverse pushed ∙ reverse_push old id))
    (subst (AreNumbered (set spans id None) (id ∷ reverse old)) (sym same)
    (numbered_without spans (reverse old) before id kept live))

-- where all numbers are free, there is no link
pub none_left : (spans : Spans) (free : List ℕ) (capacity : ℕ) → AreNumbered spans (reverse free) capacity
    → length free ≡ length spans → count_by is_some spans ≡ 0
none_left spans free capacity kept all = omega (arith, kept.counted, length-reverse free, all)

-- without a free number the table becomes longer
pub numbered_longer : (spans : Spans) (free : List ℕ) (before after : ℕ) (span : Span)
    → AreNumbered spans free before → length free ≡ 0 → length spans < after
    → AreNumbered (spans ++ Some span ∷ []) free after
numbered_longer spans [] before after span kept none room =
    record {
      unused = tt;
      counted =
          omega (arith, sum_by_push (λ (o : Option Span). cond {A = ℕ} (is_some o) 1 0) spans (Some span), length_push spans (Some span), kept.counted);
      room = omega (arith, length_push spans (Some span));
    }
numbered_longer spans (id ∷ ids) before after span kept none room = absurd (omega arith)

-- the span is stored in place, or at the end
pub stored_in_place : (spans : Spans) (id : ℕ) (span : Span) → id < length spans → span_at spans id ≡ None
    → Stores spans (set spans id (Some span)) id span
stored_in_place spans id span within none =
    record {
      fresh = none;
      added = get_or-set_same spans id (Some span) None within;
      others = λ k other. get_or-set_other spans id k (Some span) None other;
    }

pub stored_at_end : (spans : Spans) (span : Span) → Stores spans (spans ++ Some span ∷ []) (length spans) span
stored_at_end spans span =
    record {
      fresh = get_or_past spans (length spans) None (omega arith);
      added = get_or_push spans (Some span) None (length spans) refl;
      others = λ k other. get_or-push_other spans (Some span) None k other;
    }

-- a link stays what it is when another one is added
pub kept_by_adding : (old new : List (Option (List Step))) (id : ℕ) (walk : List Step) → Adds old new id walk
    → (k : ℕ) (v : List Step) → link_at old k ≡ Some v → link_at new k ≡ Some v
kept_by_adding old new id walk adds k v is =
    adds.others k (λ same. none-some v (sym adds.fresh ∙ (ap (link_at old) (sym same) ∙ is))) ∙ is
