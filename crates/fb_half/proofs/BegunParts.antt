-- What a part keeps when its defects have become nodes.
use Rattle.std.proofs.Common.{ℕ, ◌≡◌, ◌<◌, ◌&&◌, Bool, true, false, List, [], ◌∷◌, ◌++◌, map, flat_map, length, get_or, All, Option, Some, None, is_some, nat_lt, not, refl, sym, ap, ◌∙◌, subst}
use Rattle.std.proofs.Math.Bool.{and-true}
use Rattle.std.proofs.lemmas.Bool.{ltb-true}
use Rattle.std.proofs.lemmas.List.{append-nil, get_or_default}
use Rattle.std.proofs.lemmas.List.Elements.{All-nil, All-cons, All-head, All-tail}
use Rattle.std.specs.List.{filter}
use Rattle.std.specs.List.Sorted.{IsStrictlyIncreasing}
use Rattle.fb_graph.specs.Parity.{is_in}
use Rattle.fb_graph.specs.Certificate.{AreDistinct}
use Rattle.fb_graph.specs.Limits.{DecodingGraph, IsShot, ShotValue, no_shot}
use Rattle.fb_graph.specs.Dual.{Node, defects_of, is_empty, is_live, is_outer, leaf}
use Rattle.fb_graph.specs.Signs.{shifted_defects}
use Rattle.fb_graph.specs.Singles.{nodes_of, vertices_of}
use Rattle.fb_graph.proofs.Sets.{distinct-filter, distinct_from_rising, is_in-filter, All-from_is_in}
use Rattle.fb_plan.specs.Plans.{JobValue, PlanTree, node_count, problem_at}
use Rattle.fb_plan.specs.Scopes.{scope_problem}
use Rattle.fb_plan.specs.declared.scope.NodeScope.{NodeScope}
use Rattle.fb_plan.specs.Laws.{IsJob}
use Rattle.fb_links.specs.declared.walk.Step.{Step}
use Rattle.fb_blossoms.specs.Nodes as blossoms
use Rattle.fb_laws.specs.PartStates.{IsPartState}
use Rattle.fb_laws.specs.StateMoves.{PartBegins, begun_state}
use Rattle.fb_half.specs.Beginnings.{IsBegun, leaves_by, own_defects, shot_defects}
use Rattle.fb_half.specs.InternalBeginnings.{IsStarted, empty_part}
use Rattle.fb_half.specs.Matchings.{IsMatchOf, MatchingValue, listed_names, match_links, matched_names}
use Rattle.fb_half.specs.Parts.{AreLinksOf, IsPart, PartValue, kept_links, problem_in, shot_of, solved_shot, state_of}
use Rattle.fb_half.specs.Translations.{children_at, cycles_by, link_by, ring_at, ring_links}
use Rattle.fb_half.proofs.ShiftedLists.{shifted_rises}
use Rattle.fb_half.proofs.Begun.{held_in, leaf_cycle, leaf_live, live_leaves, outer_leaves, single_names, single_nodes, single_values, single_vertices, singles_by}

pub same_function : {X Y : Type 0} (f g : X → Y) → ((x : X) → f x ≡ g x) → f ≡ g
same_function f g h = λ i x. h x i

pub single_real : (P : ℕ → Type 0) (names defects : List ℕ) → All P defects → All (λ s. P s.vertex) (singles_by names defects)
single_real P [] defects all = All-nil (λ s. P s.vertex)
single_real P (name ∷ names) [] all = All-nil (λ s. P s.vertex)
single_real P (name ∷ names) (v ∷ defects) all =
    All-cons (λ s. P s.vertex) (record { name = name; vertex = v; value = 0 }) (singles_by names defects) (All-head P v defects all)
    (single_real P names defects (All-tail P v defects all))

each_leaf : (P : Node → Type 0) → ((name v : ℕ) → P (leaf name v)) → (names defects : List ℕ) → All P (leaves_by names defects)
each_leaf P h [] defects = All-nil P
each_leaf P h (name ∷ names) [] = All-nil P
each_leaf P h (name ∷ names) (v ∷ defects) = All-cons P (leaf name v) (leaves_by names defects) (h name v) (each_leaf P h names defects)

none_flat : {X : Type 0} (f : X → List ℕ) → ((x : X) → f x ≡ []) → (xs : List X) → flat_map f xs ≡ []
none_flat f h [] = refl
none_flat f h (x ∷ xs) = ap (λ l. l ++ flat_map f xs) (h x) ∙ none_flat f h xs

pub kept_real : (test : ℕ → Bool) (xs : List ℕ) → All (λ v. test v ≡ true) (filter test xs)
kept_real test xs =
    All-from_is_in (λ v. test v ≡ true) (filter test xs) (λ v within. second (is_in xs v) (test v) (sym (is_in-filter test xs v) ∙ within))
  where
    second : (a b : Bool) → (a && b) ≡ true → b ≡ true
    second true b h = h
    second false true h = refl
    second false false h = h

pub begun_part : (w : PartValue) → PartBegins → IsJob w.job → w.slot < length w.job.shots → w.node < node_count w.job.plan
    → IsStarted (own_defects w) w.nodes w.store w.matching → w.links ≡ [] → IsPart w
begun_part w begins job slot node s none = record {
  job = job;
  slot = slot;
  node = node;
  state = state;
  agreed = record {
    live = λ name. live_in name ∙ sym (ap is_some (s.entries name) ∙ leaf_live names done name s.count);
    children =
        subst (All (λ n. n.children ≡ children_at w.store n.name)) (sym s.nodes_are)
        (each_leaf (λ n. n.children ≡ children_at w.store n.name) (λ name v. sym (ap (map (λ step. step.node)) (no_cycle name))) names done);
    leaves =
        subst (All (λ n. is_empty n.children ≡ true → defects_of n ≡ blossoms.defects_at w.store n.name)) (sym s.nodes_are)
        (held_in (blossoms.node_at w.store) names done s.names (λ x within. s.entries x));
  };
  links =
      subst (λ l. AreLinksOf (problem_in w) l (kept_links w)) (sym none)
      (subst (AreLinksOf (problem_in w) []) (sym none_kept)
      (record { distinct = tt; live = λ id. refl; steps = λ id walk e. absurd (none_there walk e) }));
  matching = record {
    distinct = subst AreDistinct (sym all_listed) s.names;
    live = λ name within. (
      live_in name ∙ (sym (ap (λ l. is_in l name) all_listed) ∙ within),
      ap (λ l. is_outer l name) s.nodes_are ∙ outer_leaves names done name,
    );
    all = λ name lives outer. ap (λ l. is_in l name) all_listed ∙ (sym (live_in name) ∙ lives);
    connects =
        subst (All (λ e. IsMatchOf (problem_in w) w.nodes (link_by w.links e.link) e.first e.second)) (sym s.matches)
        (All-nil (λ e. IsMatchOf (problem_in w) w.nodes (link_by w.links e.link) e.first e.second));
  };
}
  where
    names : List ℕ
    names = w.matching.unmatched

    done : List ℕ
    done = own_defects w

    none_there : (walk : List Step) → None ≡ Some walk → ⊥
    none_there walk e = cc

    live_in : (name : ℕ) → is_live w.nodes name ≡ is_in w.matching.unmatched name
    live_in name = ap (λ l. is_live l name) s.nodes_are ∙ live_leaves w.matching.unmatched (own_defects w) name s.count

    no_cycle : (name : ℕ) → blossoms.cycle_at w.store name ≡ []
    no_cycle name = ap blossoms.cycle_of (s.entries name) ∙ leaf_cycle w.matching.unmatched (own_defects w) name

    none_kept : kept_links w ≡ []
    none_kept =
        ap (λ l. match_links l ++ ring_links w.nodes w.store) s.matches
        ∙ none_flat (λ n. ring_at w.store n.name) (λ n. ap (map (λ step. step.link)) (no_cycle n.name)) w.nodes

    all_listed : listed_names w.matching ++ [] ≡ w.matching.unmatched
    all_listed =
        append-nil (listed_names w.matching)
        ∙ (ap (λ l. w.matching.unmatched ++ matched_names l) s.matches ∙ append-nil w.matching.unmatched)

    rises : IsStrictlyIncreasing (solved_shot w).defects
    rises = shifted_rises w.job.graph (shot_of w)

    defects_are : (v : ℕ) → (problem_in w).is_real v ≡ true
        → (problem_in w).is_defect v ≡ is_in (vertices_of (singles_by w.matching.unmatched (own_defects w))) v
    defects_are v real =
        sym (ap (λ l. is_in l v) (single_vertices w.matching.unmatched (own_defects w) s.count)
        ∙ (is_in-filter (problem_in w).is_real (solved_shot w).defects v ∙ (ap (λ b. is_in (solved_shot w).defects v && b) real ∙ and-true (is_in (solved_shot w).defects v))))

    state_begun : IsPartState (problem_in w) (begun_state (singles_by w.matching.unmatched (own_defects w)))
    state_begun =
        begins (problem_in w) (singles_by w.matching.unmatched (own_defects w))
        (subst AreDistinct (sym (single_names w.matching.unmatched (own_defects w) s.count)) s.names)
        (subst AreDistinct (sym (single_vertices w.matching.unmatched (own_defects w) s.count))
        (distinct-filter (problem_in w).is_real (solved_shot w).defects (distinct_from_rising (solved_shot w).defects rises)))
        (single_real (λ v. (problem_in w).is_real v ≡ true) w.matching.unmatched (own_defects w) (kept_real (problem_in w).is_real (solved_shot w).defects))
        (single_values w.matching.unmatched (own_defects w)) defects_are

    state : IsPartState (problem_in w) (state_of w)
    state =
        subst (λ l. IsPartState (problem_in w) (record {
          nodes = w.nodes;
          cycles = cycles_by w.links w.store;
          matches = map (link_by w.links) (match_links l);
          unmatched = w.matching.unmatched;
        })) (sym s.matches)
        (subst (λ f. IsPartState (problem_in w) (record { nodes = w.nodes; cycles = f; matches = []; unmatched = w.matching.unmatched }))
        (sym (same_function (cycles_by w.links w.store) (λ name. []) (λ name. ap (λ l. map (link_by w.links) (map (λ step. step.link) l)) (no_cycle name))))
        (subst (λ l. IsPartState (problem_in w) (record { nodes = l; cycles = λ name. []; matches = []; unmatched = w.matching.unmatched }))
        (single_nodes w.matching.unmatched (own_defects w) ∙ sym s.nodes_are)
        (subst (λ l. IsPartState (problem_in w) (record {
          nodes = nodes_of (singles_by w.matching.unmatched (own_defects w));
          cycles = λ name. [];
          matches = [];
          unmatched = l;
        })) (single_names w.matching.unmatched (own_defects w) s.count) state_begun)))

first_true : (a b : Bool) → (a && b) ≡ true → a ≡ true
first_true true b h = refl
first_true false b h = h

-- the defects of a shot are vertices
pub shot_below : (g : DecodingGraph) (shot : ShotValue) → IsShot g shot → All (λ v. v < g.vertices) shot.defects
shot_below g shot is =
    λ i d less.
    ltb-true (get_or shot.defects i d) g.vertices
    (first_true (nat_lt (get_or shot.defects i d) g.vertices) (not (is_in g.virtuals (get_or shot.defects i d))) (is.real i d less))

-- the defects of the shot that are real at the node, and the shifted ones
abbrev pub given_of : JobValue → ℕ → ℕ → List ℕ
given_of j s n = filter (problem_at j.graph j.plan n no_shot).is_real (get_or j.shots s no_shot).defects

abbrev pub own_of : JobValue → ℕ → ℕ → List ℕ
own_of j s n = filter (problem_at j.graph j.plan n no_shot).is_real (shifted_defects j.graph (get_or j.shots s no_shot))

pub shot_at : (j : JobValue) (s : ℕ) → IsJob j → s < length j.shots → IsShot j.graph (get_or j.shots s no_shot)
shot_at j s job less = job.shots s no_shot less

pub own_distinct : (j : JobValue) (s n : ℕ) → AreDistinct (own_of j s n)
own_distinct j s n =
    distinct-filter (problem_at j.graph j.plan n no_shot).is_real (shifted_defects j.graph (get_or j.shots s no_shot))
    (distinct_from_rising (shifted_defects j.graph (get_or j.shots s no_shot)) (shifted_rises j.graph (get_or j.shots s no_shot)))

pub own_real : (j : JobValue) (s n : ℕ) → All (λ v. (problem_at j.graph j.plan n no_shot).is_real v ≡ true) (own_of j s n)
own_real j s n = kept_real (problem_at j.graph j.plan n no_shot).is_real (shifted_defects j.graph (get_or j.shots s no_shot))

pub own_in : (w : PartValue) (j : JobValue) (s n : ℕ) (own : List ℕ) → w.job ≡ j → w.slot ≡ s → w.node ≡ n → own ≡ own_of j s n → own ≡ own_defects w
own_in w j s n own job slot node is =
    is
    ∙ sym (ap (λ x. own_of x w.slot w.node) job ∙ (ap (λ x. own_of j x w.node) slot ∙ ap (λ x. own_of j s x) node))

pub given_in : (w : PartValue) (j : JobValue) (s n : ℕ) (own : List ℕ) → w.job ≡ j → w.slot ≡ s → w.node ≡ n → own ≡ given_of j s n → own ≡ shot_defects w
given_in w j s n own job slot node is =
    is
    ∙ sym (ap (λ x. given_of x w.slot w.node) job ∙ (ap (λ x. given_of j x w.node) slot ∙ ap (λ x. given_of j s x) node))

pub empty_is : (j : JobValue) (s n : ℕ) (nodes : List Node) (links : List (Option (List Step))) (store : List (Option blossoms.Node)) (m : MatchingValue)
    → nodes ≡ [] → links ≡ [] → store ≡ [] → m ≡ record { matches = []; unmatched = [] }
    → record { job = j; slot = s; node = n; nodes = nodes; links = links; store = store; matching = m } ≡ empty_part j s n
empty_is j s n nodes links store m bare none blank free = rw (bare, none, blank, free)

pub begun_of : (w : PartValue) (j : JobValue) (s n : ℕ) (own : List ℕ) → PartBegins → w.job ≡ j → w.slot ≡ s → w.node ≡ n
    → IsJob j → s < length j.shots → n < node_count j.plan → own ≡ own_of j s n → IsStarted own w.nodes w.store w.matching → w.links ≡ [] → IsPart w
begun_of w j s n own begins job slot node is_job some within is started none =
    begun_part w begins (subst IsJob (sym job) is_job)
    (subst (λ x. w.slot < length x.shots) (sym job) (subst (λ x. x < length j.shots) (sym slot) some))
    (subst (λ x. w.node < node_count x.plan) (sym job) (subst (λ x. x < node_count j.plan) (sym node) within))
    (subst (λ l. IsStarted l w.nodes w.store w.matching) (own_in w j s n own job slot node is) started) none

pub begun_is : (w : PartValue) (j : JobValue) (s n : ℕ) (own : List ℕ) → w.job ≡ j → w.slot ≡ s → w.node ≡ n → own ≡ own_of j s n
    → IsStarted own w.nodes w.store w.matching → IsBegun j s n w
begun_is w j s n own job slot node is started =
    let same : own ≡ own_defects w = own_in w j s n own job slot node is in record {
      job = job;
      slot = slot;
      node = node;
      nodes = started.nodes_are ∙ ap (leaves_by w.matching.unmatched) same;
      count = started.count ∙ ap length same;
      matches = started.matches;
    }

-- a scope's real vertices are those of its graph and its node of the plan
pub scope_real : (scope : NodeScope) (g : DecodingGraph) (t : PlanTree) (n : ℕ) → scope.graph.now ≡ g → scope.plan.now ≡ t → scope.node ≡ n
    → (scope_problem scope).is_real ≡ (problem_at g t n no_shot).is_real
scope_real scope g t n graph plan node = λ i. (problem_at (graph i) (plan i) (node i) no_shot).is_real

-- the shot that is read is that of the slot
pub shot_read : (j : JobValue) (s : ℕ) (shots : List ShotValue) (read : ShotValue) → shots ≡ j.shots → s < length j.shots
    → read ≡ get_or shots s read → read ≡ get_or j.shots s no_shot
shot_read j s shots read same less is = is ∙ (ap (λ x. get_or x s read) same ∙ get_or_default j.shots s read no_shot less)
