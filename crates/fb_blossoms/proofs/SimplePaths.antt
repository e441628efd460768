-- The even path inside a node passes no defect twice.
use Rattle.std.proofs.Common.{◌≡◌, ℕ, suc, ◌+◌, ◌%◌, ◌<◌, Bool, true, List, [], ◌∷◌, ◌++◌, length, Option, refl, sym, subst, arith}
use Rattle.std.proofs.lemmas.List.{append-nil}
use Rattle.fb_links.specs.Lists.{is_in}
use Rattle.fb_links.specs.declared.walk.Step.{Step}
use Rattle.fb_blossoms.specs.Nodes.{IsNested, Node, cycle_at, defects_at}
use Rattle.fb_blossoms.specs.Links.{AllLinked, LeadsOver, link_after, node_after}
use Rattle.fb_blossoms.specs.Paths.{GoesRound, IsEvenPath, IsSimpleEvenPath, ends_here, goes_on, goes_round, stays}
use Rattle.fb_blossoms.proofs.Rounds.{child_within, on_round, round_apart, round_has}
use Rattle.fb_blossoms.proofs.Tails.{IsTail, no_tail, path_from, stays_simple, tail_more}

-- a simple path inside the node from a defect of it
pub record IsSimpleFrom (links : List (Option (List Step))) (nodes : List (Option Node)) (name from to : ℕ) (path : List ℕ) : Type 0 where
  pub held : is_in (defects_at nodes name) from ≡ true
  pub simple : IsSimpleEvenPath links nodes name from to path

-- a simple path inside the child k steps from the end of the way, and the rest of the way
pub record IsSimpleRound (links : List (Option (List Step))) (nodes : List (Option Node)) (name : ℕ) (onward : Bool) (s k from to : ℕ) (path : List ℕ) : Type 0 where
  pub at : ℕ
  pub front : List ℕ
  pub rest : List ℕ
  pub whole : path ≡ front ++ rest
  pub inner : IsSimpleFrom links nodes (node_after (cycle_at nodes name) onward s k) from at front
  pub tail : IsTail links nodes name (node_after (cycle_at nodes name) onward s) k at to rest

module _ (links : List (Option (List Step))) (nodes : List (Option Node)) (nested : IsNested nodes) (linked : AllLinked links nodes) where
  round_ends : (name : ℕ) (onward : Bool) (s from to : ℕ) (path : List ℕ)
      → IsSimpleFrom links nodes (node_after (cycle_at nodes name) onward s 0) from to path → IsSimpleRound links nodes name onward s 0 from to path
  round_ends name onward s from to path inner = record {
    at = to;
    front = path;
    rest = [];
    whole = sym (append-nil path);
    inner = inner;
    tail = no_tail links nodes name (node_after (cycle_at nodes name) onward s) to;
  }

  round_more : (name : ℕ) (onward : Bool) (s k from exit entry to : ℕ) (front rest : List ℕ) → s < length (cycle_at nodes name) → suc k < length (cycle_at nodes name)
      → IsSimpleFrom links nodes (node_after (cycle_at nodes name) onward s (suc k)) from exit front
      → LeadsOver links nodes (link_after (cycle_at nodes name) onward s k) (node_after (cycle_at nodes name) onward s (suc k)) exit (node_after (cycle_at nodes name) onward s k) entry
      → IsSimpleRound links nodes name onward s k entry to rest
      → IsSimpleRound links nodes name onward s (suc k) from to (front ++ link_after (cycle_at nodes name) onward s k ∷ rest)
  round_more name onward s k from exit entry to front rest start less inner over r =
      let n : k + 1 ≡ suc k = omega arith in
      let small : k < length (cycle_at nodes name) = omega (arith, less) in
      let next : k + 1 < length (cycle_at nodes name) = omega (arith, less) in
      let l : ℕ = link_after (cycle_at nodes name) onward s k in
      let P : ℕ → Type 0 = λ j. LeadsOver links nodes (link_after (cycle_at nodes name) onward s k) (node_after (cycle_at nodes name) onward s j) exit (node_after (cycle_at nodes name) onward s k) entry in
      let Q : ℕ → Type 0 = λ j. IsTail links nodes name (node_after (cycle_at nodes name) onward s) j exit to (link_after (cycle_at nodes name) onward s k ∷ rest) in
      let R : List ℕ → Type 0 = λ q. IsTail links nodes name (node_after (cycle_at nodes name) onward s) (k + 1) exit to (link_after (cycle_at nodes name) onward s k ∷ q) in
      record {
        at = exit;
        front = front;
        rest = link_after (cycle_at nodes name) onward s k ∷ rest;
        whole = refl;
        inner = inner;
        tail =
            subst Q n
            (subst R (sym r.whole)
            (tail_more links nodes name (node_after (cycle_at nodes name) onward s) k r.at to r.rest r.tail entry r.front r.inner.simple r.inner.held
            (round_apart links nodes nested name s (linked name) start onward k small)
            (child_within nodes nested name _ (on_round links nodes nested name s (linked name) start onward k small))
            (link_after (cycle_at nodes name) onward s k) exit (subst P (sym n) over)
            (round_has links nodes nested name s (linked name) start onward k next)));
      }

  round_whole : (name : ℕ) (onward : Bool) (s k from to : ℕ) (path : List ℕ) → s < length (cycle_at nodes name) → k < length (cycle_at nodes name) → k % 2 ≡ 0
      → IsSimpleRound links nodes name onward s k from to path → IsSimpleFrom links nodes name from to path
  round_whole name onward s k from to path start small even r =
      let P : List ℕ → Type 0 = IsSimpleEvenPath links nodes name from to in
      let child = child_within nodes nested name _ (on_round links nodes nested name s (linked name) start onward k small) in
      record {
        held = child from r.inner.held;
        simple =
            subst P (sym r.whole)
            (path_from links nodes name (node_after (cycle_at nodes name) onward s) k r.at to r.rest r.tail from r.front r.inner.simple r.inner.held
            (round_apart links nodes nested name s (linked name) start onward k small) child even
            (λ i less. child_within nodes nested name _ (on_round links nodes nested name s (linked name) start onward i (let b : i < length (cycle_at nodes name) = omega (arith, less, small) in b))));
      }

  mutual
    pub simple_from : (name from to : ℕ) (path : List ℕ) → IsEvenPath links nodes name from to path → IsSimpleFrom links nodes name from to path
    simple_from name from to path (stays n d h) = record { held = h; simple = stays_simple links nodes n d }
    simple_from name from to path (goes_round n f t p onward s steps start small even way) =
        round_whole n onward s steps f t p start small even (simple_round n onward s steps f t p way start small)

    pub simple_round : (name : ℕ) (onward : Bool) (s k from to : ℕ) (path : List ℕ) → GoesRound links nodes name onward s k from to path
        → s < length (cycle_at nodes name) → k < length (cycle_at nodes name) → IsSimpleRound links nodes name onward s k from to path
    simple_round name onward s k from to path (ends_here n o e f t p inner) start small = round_ends n o e f t p (simple_from (node_after (cycle_at nodes n) o e 0) f t p inner)
    simple_round name onward s k from to path (goes_on n o e j f exit entry t front rest inner over way) start small =
        round_more n o e j f exit entry t front rest start small (simple_from (node_after (cycle_at nodes n) o e (suc j)) f exit front inner) over
        (simple_round n o e j entry t rest way start (omega (arith, small)))

  pub simple_path : (name from to : ℕ) (path : List ℕ) → IsEvenPath links nodes name from to path → IsSimpleEvenPath links nodes name from to path
  simple_path name from to path h = let r = simple_from name from to path h in r.simple
