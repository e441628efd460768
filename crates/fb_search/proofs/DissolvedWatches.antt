-- The edges that are watched where trees end: their plus nodes limit nothing any more, and the edges at their minus nodes are
-- entered anew.
use Rattle.std.proofs.Common.{ℕ, ◌≡◌, ◌+◌, ◌<◌, ◌⊎◌, inl, inr, true, false, All, List, [], ◌∷◌, map, length, take, get_or, reverse, Some, refl, sym, ap, ◌∙◌, subst}
use Rattle.std.specs.List.{list_any}
use Rattle.std.specs.List.Sorted.{IsPermutation}
use Rattle.std.proofs.lemmas.List.{get_or-map, length-map}
use Rattle.std.proofs.lemmas.List.Sorted.{IsPermutation-map, IsPermutation-reverse}
use Rattle.std.proofs.lemmas.Bool.{false≢true}
use Rattle.fb_graph.specs.Certificate.{AreDistinct}
use Rattle.fb_graph.specs.Parity.{is_in}
use Rattle.fb_graph.specs.Problem.{Problem, edge_at, touches}
use Rattle.fb_graph.specs.Limits.{DecodingGraph, no_shot}
use Rattle.fb_graph.specs.Covers.{is_covered_by, passes}
use Rattle.fb_graph.specs.Dual.{Node, cover_of, is_live, top_at}
use Rattle.fb_graph.specs.Steps.{Roles}
use Rattle.fb_graph.proofs.Among.{IsAmong, among_All, among_is_in, none_any}
use Rattle.fb_graph.proofs.Members.{is_in-take_more}
use Rattle.fb_graph.proofs.Sets.{is_in-All}
use Rattle.fb_laws.specs.Trees.{EntryOf, minus_names}
use Rattle.fb_laws.proofs.OpenedBlossoms.{same_permuted}
use Rattle.fb_laws.proofs.SearchTrees.{cover_set}
use Rattle.fb_trees.specs.Branches.{entries_of, entry_of}
use Rattle.fb_trees.specs.declared.branch.Branch.{Branch}
use Rattle.fb_plan.specs.Plans.{PlanTree, problem_at}
use Rattle.fb_half.specs.Parts.{PartValue, graph_in, problem_in}
use Rattle.fb_obstacles.specs.InternalWatch.{StaysRight}
use Rattle.fb_obstacles.specs.InternalWatching.{Watches}
use Rattle.fb_obstacles.specs.Obstacles.{IsWatched, slack_at}
use Rattle.fb_obstacles.specs.Watched.{AreBounded, Watched}
use Rattle.fb_obstacles.proofs.ForgottenBounds.{right_twice}
use Rattle.fb_obstacles.proofs.WatchSteps.{bounded_by}
use Rattle.fb_search.specs.InternalGrowingEnds.{WatchesEach}
use Rattle.fb_search.proofs.ClosedWatches.{none_in}
use Rattle.fb_search.proofs.KeptBounds.{milder_under, slack_away}
use Rattle.fb_search.proofs.KeptWatches.{watch_kept}
use Rattle.fb_search.proofs.TakenVertices.{plus_over}

-- what is made of an element
map_to : (f : Branch → ℕ) (bs : List Branch) (b : Branch) → IsAmong b bs → IsAmong (f b) (map f bs)
map_to f [] b a = absurd a
map_to f (x ∷ xs) b (inl same) = inl (ap f same)
map_to f (x ∷ xs) b (inr a) = inr (map_to f xs b a)

-- the edge has no end at a node among these
abbrev IsAside : Problem → List Node → List ℕ → ℕ → Type 0
IsAside p nodes names k =
    (name v : ℕ) → is_in names name ≡ true → is_in (top_at nodes name) v ≡ true → touches v (edge_at p.edges k) ≡ false

pub each_first : (p : Problem) (nodes : List Node) (w : Watched) → WatchesEach p nodes [] w w
each_first p nodes w = record {
  room = refl;
  minus = refl;
  kept = λ k h. h;
  near = λ name v k mem held less touch. absurd (false≢true mem);
  bounds = λ first last each right. bounded_by first last w (λ k. each k (λ name v mem held. absurd (false≢true mem))) right;
}

-- the edges at one node more
pub each_on : (p : Problem) (nodes : List Node) (names : List ℕ) (i : ℕ) (a b c : Watched) → i < length names
    → WatchesEach p nodes (take i names) a b → Watches p (top_at nodes (get_or names i 0)) b c
    → WatchesEach p nodes (take (i + 1) names) a c
each_on p nodes names i a b c lt before more = record {
  room = more.room ∙ before.room;
  minus = more.minus ∙ before.minus;
  kept = λ k h. more.kept k (before.kept k h);
  near = λ name v k mem held less touch. at name v k held less touch (is_in-take_more names i name lt mem);
  bounds = bounds;
}
  where
    at : (name v k : ℕ) → is_in (top_at nodes name) v ≡ true → k < length p.edges → touches v (edge_at p.edges k) ≡ true
        → (is_in (take i names) name ≡ true) ⊎ (get_or names i 0 ≡ name) → is_in c.edges k ≡ true
    at name v k held less touch (inl old) = more.kept k (before.near name v k old held less touch)
    at name v k held less touch (inr same) = more.near v k (ap (λ n. is_in (top_at nodes n) v) same ∙ held) less touch

    away_all : (k : ℕ) → IsAside p nodes (take i names) k
        → list_any (λ u. touches u (edge_at p.edges k)) (top_at nodes (get_or names i 0)) ≡ false → (name v : ℕ)
        → is_in (top_at nodes name) v ≡ true → (is_in (take i names) name ≡ true) ⊎ (get_or names i 0 ≡ name)
        → touches v (edge_at p.edges k) ≡ false
    away_all k away none name v held (inl old) = away name v old held
    away_all k away none name v held (inr same) =
        none_in (λ u. touches u (edge_at p.edges k)) (top_at nodes (get_or names i 0)) none v
        (ap (λ n. is_in (top_at nodes n) v) same ∙ held)

    bounds : StaysRight (IsAside p nodes (take (i + 1) names)) a c
    bounds =
        right_twice (IsAside p nodes (take i names)) (IsAside p nodes (take (i + 1) names))
        (λ k. list_any (λ v. touches v (edge_at p.edges k)) (top_at nodes (get_or names i 0))) a b c
        (λ k none away name v mem held. away_all k away none name v held (is_in-take_more names i name lt mem))
        before.bounds
        (λ first last each.
        more.bounds first last
        (λ k away.
        each k
        (none_any (λ v. touches v (edge_at p.edges k)) (top_at nodes (get_or names i 0))
        (λ v among. away v (among_is_in (top_at nodes (get_or names i 0)) v among)))))

-- the edges at the minus node of one branch more
pub each_branch : (p q : Problem) → q ≡ p → (nodes : List Node) (branches : List Branch) (i : ℕ) (d : Branch) (a b c : Watched)
    → i < length branches → WatchesEach p nodes (take i (map (λ b. b.minus) branches)) a b
    → Watches q (top_at nodes (get_or branches i d).minus) b c
    → WatchesEach p nodes (take (i + 1) (map (λ b. b.minus) branches)) a c
each_branch p q same nodes branches i d a b c lt before more =
    each_on p nodes (map (λ b. b.minus) branches) i a b c
    (subst (λ n. i < n) (sym (length-map branches (λ (b : Branch). b.minus))) lt) before
    (subst (λ n. Watches p (top_at nodes n) b c) (sym (get_or-map (λ (b : Branch). b.minus) branches i d 0 lt))
    (subst (λ x. Watches x (top_at nodes (get_or branches i d).minus) b c) same more))

-- the minus nodes of branches, and of their entries
minus_read : (bs : List Branch) → minus_names (map entry_of bs) ≡ map (λ b. b.minus) bs
minus_read [] = refl
minus_read (b ∷ bs) = ap (λ l. b.minus ∷ l) (minus_read bs)

pub minus_same : (bs : List Branch) (es : List (EntryOf ℕ)) → entries_of bs ≡ es → (n : ℕ)
    → is_in (map (λ b. b.minus) bs) n ≡ is_in (minus_names es) n
minus_same bs es read n =
    sym (same_permuted (map (λ b. b.minus) bs) (minus_names es)
    (subst (IsPermutation (map (λ b. b.minus) bs)) (sym (minus_read (reverse bs)) ∙ ap minus_names read)
    (IsPermutation-map (λ (b : Branch). b.minus) bs (reverse bs) (IsPermutation-reverse bs))) n)

-- so if these are there, those are
pub branches_live : (nodes : List Node) (bs : List Branch) (es : List (EntryOf ℕ)) → entries_of bs ≡ es
    → All (λ n. is_live nodes n ≡ true) (minus_names es) → All (λ b. is_live nodes b.minus ≡ true) bs
branches_live nodes bs es read live =
    among_All (λ b. is_live nodes b.minus ≡ true) bs
    (λ b a.
    is_in-All (λ n. is_live nodes n ≡ true) (minus_names es) live b.minus
    (sym (minus_same bs es read b.minus) ∙ among_is_in (map (λ b. b.minus) bs) b.minus (map_to (λ b. b.minus) bs b a)))

-- some of the nodes, or the same ones in another list, where the others need not be told of
pub each_same : (p : Problem) (nodes : List Node) (names others : List ℕ) (old new : Watched)
    → ((n : ℕ) → is_in others n ≡ true → is_in names n ≡ true)
    → WatchesEach p nodes names old new → WatchesEach p nodes others old new
each_same p nodes names others old new same watches = record {
  room = watches.room;
  minus = watches.minus;
  kept = watches.kept;
  near = λ name v k mem held less touch. watches.near name v k (same name mem) held less touch;
  bounds = λ first last each. watches.bounds first last (λ k away. each k (λ name v mem held. away name v (same name mem) held));
}

-- Fewer nodes are plus, and those that are minus no more are among these.
module _ (p : Problem) (roles fewer : Roles) (nodes : List Node) (names : List ℕ) (old new : Watched)
    (plus : (n : ℕ) → fewer.is_plus n ≡ true → roles.is_plus n ≡ true)
    (minus : (n : ℕ) → roles.is_minus n ≡ true → (is_in names n ≡ true) ⊎ (fewer.is_minus n ≡ true))
    (watches : WatchesEach p nodes names old new) where
  pub watch_fewer : All (λ k. k < length p.edges) new.edges → IsWatched p roles nodes old.edges → IsWatched p fewer nodes new.edges
  watch_fewer within watch =
      watch_kept p roles fewer nodes nodes old.edges new.edges watch within watches.kept
      (λ v over. inl (still v (plus_over fewer.is_plus nodes v over))) (λ u v one. one)
    where
      still : (v : ℕ) → (name : ℕ) × (cover_of nodes v ≡ Some name) × (fewer.is_plus name ≡ true)
          → is_covered_by roles.is_plus nodes v ≡ true
      still v (name, cover, is) = ap (passes roles.is_plus) cover ∙ plus name is

  pub bounds_fewer : AreDistinct (map (λ n. n.name) nodes) → AreBounded (slack_at p roles nodes) old
      → AreBounded (slack_at p fewer nodes) new
  bounds_fewer distinct =
      watches.bounds (slack_at p roles nodes) (slack_at p fewer nodes)
      (λ k away.
      slack_away roles fewer nodes nodes At (edge_at p.edges k) (λ v. refl)
      (λ v off.
      milder_under roles fewer nodes nodes v refl (λ n cover is. plus n is)
      (λ n cover is. by n v cover off (minus n is)))
      (λ u v at_u at_v one. one)
      (λ v at. away at.0 v at.1 at.2))
    where
      At : ℕ → Type 0
      At v = (name : ℕ) × (is_in names name ≡ true) × (is_in (top_at nodes name) v ≡ true)

      by : (n v : ℕ) → cover_of nodes v ≡ Some n → ¬ At v → (is_in names n ≡ true) ⊎ (fewer.is_minus n ≡ true)
          → fewer.is_minus n ≡ true
      by n v cover off (inl among) = absurd (off (n, among, (cover_set nodes v n distinct cover).1))
      by n v cover off (inr is) = is

-- what is watched in the scope of the part's node, whose problem has no defects
pub kept_each : (part : PartValue) (g : DecodingGraph) (t : PlanTree) (n : ℕ) (nodes : List Node) (names : List ℕ) (old new : Watched)
    → g ≡ graph_in part → WatchesEach (problem_at g t n no_shot) nodes names old new → WatchesEach (problem_in part) nodes names old new
kept_each part g t n nodes names old new eg watches =
    let w : WatchesEach (problem_at (graph_in part) t n no_shot) nodes names old new =
    subst (λ h. WatchesEach (problem_at h t n no_shot) nodes names old new) eg watches in
    record { room = w.room; minus = w.minus; kept = w.kept; near = w.near; bounds = w.bounds }
