-- Two links that share an end, joined there.
use Rattle.std.proofs.Common.{ℕ, ◌+◌, ◌<◌, ◌≡◌, ◌==◌, Bool, true, false, cond, List, length, arith, refl, sym, ◌∙◌, subst, inl, inr}
use Rattle.std.proofs.lemmas.List.{length-append}
use Rattle.std.proofs.lemmas.Bool.{eqb-true, eq-eqb, or_cases, or_left, or_right, both_ways}
use Rattle.fb_links.specs.declared.walk.Step.{Step}
use Rattle.fb_links.specs.Walks.{walk_weight, start_of, end_of, Runs, turned_walk, is_end, share_end, other_end, ending_at, starting_at, meeting_vertex, joined_walk}
use Rattle.fb_links.specs.Table.{IsLink}
use Rattle.fb_links.specs.Laws.{IsJoinedWalk}
use Rattle.fb_links.proofs.Turns.{Runs-append, Runs-turned_walk, Runs-ends, IsChained-from_Runs, weight-turned_walk, weight-append, length-turned_walk}

-- a vertex at an end of the walk that isn't its end is its start
at_start : (w : List Step) (v : ℕ) → is_end w v ≡ true → (v == end_of w) ≡ false → v ≡ start_of w
at_start w v at other =
    elim (or_cases (v == start_of w) (v == end_of w) at)
    [ inl e ↦ eqb-true v (start_of w) e | inr e ↦ absurd (both_ways (v == end_of w) other e) ]

at_end : (w : List Step) (v : ℕ) → is_end w v ≡ true → (v == start_of w) ≡ false → v ≡ end_of w
at_end w v at other =
    elim (or_cases (v == start_of w) (v == end_of w) at)
    [ inl e ↦ absurd (both_ways (v == start_of w) other e) | inr e ↦ eqb-true v (end_of w) e ]

ending_by : (w : List Step) (v : ℕ) (b : Bool) → (v == end_of w) ≡ b → IsLink w → is_end w v ≡ true
    → Runs (cond b w (turned_walk w)) (cond b (start_of w) (end_of w)) v
ending_by w v true is link at =
    subst (λ x. Runs w (start_of w) x) (sym (eqb-true v (end_of w) is)) link.chained
ending_by w v false is link at =
    subst (λ x. Runs (turned_walk w) (end_of w) x) (sym (at_start w v at is)) (Runs-turned_walk w (start_of w) (end_of w) link.chained)

pub ending_runs : (w : List Step) (v : ℕ) → IsLink w → is_end w v ≡ true → Runs (ending_at v w) (other_end v w) v
ending_runs w v link at = ending_by w v (v == end_of w) refl link at

starting_by : (w : List Step) (v : ℕ) (b c : Bool) → (v == start_of w) ≡ b → (v == end_of w) ≡ c → IsLink w
    → is_end w v ≡ true → Runs (cond b w (turned_walk w)) v (cond c (start_of w) (end_of w))
starting_by w v true true is also link at =
    let start = eqb-true v (start_of w) is in
    subst (λ x. Runs w x (start_of w)) (sym start)
    (subst (λ x. Runs w (start_of w) x) (sym (eqb-true v (end_of w) also) ∙ start) link.chained)
starting_by w v true false is also link at =
    subst (λ x. Runs w x (end_of w)) (sym (eqb-true v (start_of w) is)) link.chained
starting_by w v false true is also link at =
    subst (λ x. Runs (turned_walk w) x (start_of w)) (sym (eqb-true v (end_of w) also)) (Runs-turned_walk w (start_of w) (end_of w) link.chained)
starting_by w v false false is also link at =
    absurd (both_ways (v == end_of w) also (eq-eqb v (end_of w) (at_end w v at is)))

pub starting_runs : (w : List Step) (v : ℕ) → IsLink w → is_end w v ≡ true → Runs (starting_at v w) v (other_end v w)
starting_runs w v link at = starting_by w v (v == start_of w) (v == end_of w) refl refl link at

either_weight : (b : Bool) (w : List Step) → walk_weight (cond b w (turned_walk w)) ≡ walk_weight w
either_weight true w = refl
either_weight false w = weight-turned_walk w

either_length : (b : Bool) (w : List Step) → length (cond b w (turned_walk w)) ≡ length w
either_length true w = refl
either_length false w = length-turned_walk w

-- either end of a walk is one
start_is_end : (w : List Step) → is_end w (start_of w) ≡ true
start_is_end w = or_left (start_of w == start_of w) (start_of w == end_of w) (eq-eqb (start_of w) (start_of w) refl)

end_is_end : (w : List Step) → is_end w (end_of w) ≡ true
end_is_end w = or_right (end_of w == start_of w) (end_of w == end_of w) (eq-eqb (end_of w) (end_of w) refl)

meets_first : (a : List Step) (c : Bool) → is_end a (cond c (end_of a) (start_of a)) ≡ true
meets_first a true = end_is_end a
meets_first a false = start_is_end a

meets_second : (a b : List Step) (c : Bool) → is_end b (end_of a) ≡ c → share_end a b ≡ true
    → is_end b (cond c (end_of a) (start_of a)) ≡ true
meets_second a b true is share = is
meets_second a b false is share =
    elim (or_cases (is_end b (end_of a)) (is_end b (start_of a)) share)
    [ inl e ↦ absurd (both_ways (is_end b (end_of a)) is e) | inr e ↦ e ]

pub joined_weight : (a b : List Step) → walk_weight (joined_walk a b) ≡ walk_weight a + walk_weight b
joined_weight a b =
    omega (arith, weight-append (ending_at (meeting_vertex a b) a) (starting_at (meeting_vertex a b) b), either_weight (meeting_vertex a b == end_of a) a, either_weight (meeting_vertex a b == start_of b) b)

joined_length : (a b : List Step) → length (joined_walk a b) ≡ length a + length b
joined_length a b =
    omega (arith, length-append (ending_at (meeting_vertex a b) a) (starting_at (meeting_vertex a b) b), either_length (meeting_vertex a b == end_of a) a, either_length (meeting_vertex a b == start_of b) b)

pub walk_joined : (a b : List Step) → IsLink a → IsLink b → share_end a b ≡ true → IsJoinedWalk a b
walk_joined a b first second share =
    let some : 0 < length (joined_walk a b) = omega (arith, joined_length a b, first.some) in
    let leads =
    Runs-append (ending_at (meeting_vertex a b) a) (starting_at (meeting_vertex a b) b) (other_end (meeting_vertex a b) a) (meeting_vertex a b) (other_end (meeting_vertex a b) b)
    (ending_runs a (meeting_vertex a b) first (meets_first a (is_end b (end_of a))))
    (starting_runs b (meeting_vertex a b) second (meets_second a b (is_end b (end_of a)) refl share)) in
    let ends = Runs-ends (joined_walk a b) (other_end (meeting_vertex a b) a) (other_end (meeting_vertex a b) b) some leads in
    record {
      some = some;
      leads = leads;
      chained = IsChained-from_Runs (joined_walk a b) (other_end (meeting_vertex a b) a) (other_end (meeting_vertex a b) b) some leads;
      start = ends.0;
      end = ends.1;
      weighs = joined_weight a b;
    }
