-- The watch of a search after a cycle of its tree becomes a blossom: the minus nodes of the cycle are plus now.
use Rattle.std.proofs.Common.{ℕ, ◌≡◌, ◌≢◌, ◌+◌, ◌<◌, ◌⊎◌, inl, inr, not, cond, Bool, true, false, List, [], ◌∷◌, ◌==◌, map, length, take, get_or, All, Some, refl, sym, ap, ◌∙◌, subst, if◌then◌else◌}
use Rattle.std.specs.List.{list_any}
use Rattle.std.proofs.lemmas.Bool.{both_ways, cases_Bool, eqb-true, false≢true}
use Rattle.fb_graph.specs.Parity.{is_in}
use Rattle.fb_graph.specs.Problem.{Problem, edge_at, touches}
use Rattle.fb_graph.specs.Limits.{DecodingGraph, IsWithinLimits, no_shot}
use Rattle.fb_graph.specs.Certificate.{AreDistinct}
use Rattle.fb_graph.specs.Dual.{AreOuterApart, Node, all_cuts, cover_of, height_of, is_live, is_outer, top_at}
use Rattle.fb_graph.specs.Covers.{is_covered_by, passes}
use Rattle.fb_graph.specs.Moves.{MayJoin, joined_nodes}
use Rattle.fb_graph.proofs.Among.{among_is_in, among_live, any_among, cover_among, none_among, none_any}
use Rattle.fb_graph.proofs.Members.{is_in-take_more}
use Rattle.fb_graph.proofs.Sets.{is_in-cases, is_in-head, is_in-tail}
use Rattle.fb_regions.specs.declared.roles.Role.{Role}
use Rattle.fb_regions.specs.declared.roles.Role.TheVariants.{Minus}
use Rattle.fb_laws.specs.SearchBlossoms.{joined_tree, outer_branches, renamed_name, renamed_entry}
use Rattle.fb_laws.specs.Trees.{EntryOf, minus_names, plus_names, tree_names}
use Rattle.fb_laws.proofs.SearchTrees.{cover_set}
use Rattle.fb_plan.specs.Plans.{PlanTree, problem_at}
use Rattle.fb_half.specs.Parts.{PartValue, graph_in, problem_in}
use Rattle.fb_obstacles.specs.InternalWatch.{StaysRight}
use Rattle.fb_obstacles.specs.InternalWatching.{Watches}
use Rattle.fb_regions.specs.Paces.{grows, shrinks}
use Rattle.fb_obstacles.specs.Obstacles.{IsWatched, roles_by, slack_at}
use Rattle.fb_obstacles.specs.Watched.{AreBounded, Watched}
use Rattle.fb_obstacles.proofs.ForgottenBounds.{right_twice}
use Rattle.fb_obstacles.proofs.WatchSteps.{bounded_by}
use Rattle.fb_search.specs.InternalClosings.{WatchesMinusBy}
use Rattle.fb_search.proofs.BegunSearches.{touches_first, touches_second}
use Rattle.fb_search.proofs.CoversBefore.{cover_before}
use Rattle.fb_search.proofs.KeptBounds.{IsMilder, slack_away}
use Rattle.fb_search.proofs.KeptWatches.{IsWatchedAt, together_joined, watch_kept}
use Rattle.fb_search.proofs.Renamed.{cover_joined}
use Rattle.fb_search.proofs.RolesInTree.{only_minus}
use Rattle.fb_search.proofs.TakenVertices.{plus_over}

-- all of a list fail a test where no one passes it
pub none_in : (test : ℕ → Bool) (xs : List ℕ) → list_any test xs ≡ false → (v : ℕ) → is_in xs v ≡ true → test v ≡ false
none_in test xs none v within =
    let (x, a, e) = any_among (λ u. u == v) xs within in
    ap test (sym (eqb-true x v e)) ∙ none_among test xs none x a

-- the edge has no end at a minus node among these
abbrev IsAway : Problem → List Node → (ℕ → Role) → List ℕ → ℕ → Type 0
IsAway p nodes role names k =
    (name v : ℕ) → is_in names name ≡ true → role name ≡ Minus → is_in (top_at nodes name) v ≡ true
    → touches v (edge_at p.edges k) ≡ false

pub minus_first : (p : Problem) (nodes : List Node) (role : ℕ → Role) (w : Watched) → WatchesMinusBy p nodes role [] w w
minus_first p nodes role w = record {
  room = refl;
  minus = refl;
  kept = λ k h. h;
  near = λ name v k mem minus held less touch. absurd (false≢true mem);
  bounds = λ first last each right.
      bounded_by first last w (λ k. each k (λ name v mem minus held. absurd (false≢true mem))) right;
}

-- the edges at one minus node more
pub minus_on : (p : Problem) (nodes : List Node) (role : ℕ → Role) (names : List ℕ) (i : ℕ) (a b c : Watched) → i < length names
    → WatchesMinusBy p nodes role (take i names) a b → Watches p (top_at nodes (get_or names i 0)) b c
    → WatchesMinusBy p nodes role (take (i + 1) names) a c
minus_on p nodes role names i a b c lt before more = record {
  room = more.room ∙ before.room;
  minus = more.minus ∙ before.minus;
  kept = λ k h. more.kept k (before.kept k h);
  near = λ name v k mem minus held less touch. by name v k minus held less touch (is_in-take_more names i name lt mem);
  bounds = bounds;
}
  where
    by : (name v k : ℕ) → role name ≡ Minus → is_in (top_at nodes name) v ≡ true → k < length p.edges
        → touches v (edge_at p.edges k) ≡ true → (is_in (take i names) name ≡ true) ⊎ (get_or names i 0 ≡ name)
        → is_in c.edges k ≡ true
    by name v k minus held less touch (inl old) = more.kept k (before.near name v k old minus held less touch)
    by name v k minus held less touch (inr same) =
        more.near v k (ap (λ n. is_in (top_at nodes n) v) same ∙ held) less touch

    away_all : (k : ℕ) → IsAway p nodes role (take i names) k
        → list_any (λ u. touches u (edge_at p.edges k)) (top_at nodes (get_or names i 0)) ≡ false → (name v : ℕ)
        → role name ≡ Minus → is_in (top_at nodes name) v ≡ true
        → (is_in (take i names) name ≡ true) ⊎ (get_or names i 0 ≡ name) → touches v (edge_at p.edges k) ≡ false
    away_all k away none name v minus held (inl old) = away name v old minus held
    away_all k away none name v minus held (inr same) =
        none_in (λ u. touches u (edge_at p.edges k)) (top_at nodes (get_or names i 0)) none v
        (ap (λ n. is_in (top_at nodes n) v) same ∙ held)

    here : ℕ → Bool
    here k = list_any (λ v. touches v (edge_at p.edges k)) (top_at nodes (get_or names i 0))

    bounds : StaysRight (IsAway p nodes role (take (i + 1) names)) a c
    bounds =
        right_twice (IsAway p nodes role (take i names)) (IsAway p nodes role (take (i + 1) names)) here a b c
        (λ k none away name v mem minus held. away_all k away none name v minus held (is_in-take_more names i name lt mem))
        before.bounds
        (λ first last each.
        more.bounds first last
        (λ k away.
        each k
        (none_any (λ v. touches v (edge_at p.edges k)) (top_at nodes (get_or names i 0))
        (λ v among. away v (among_is_in (top_at nodes (get_or names i 0)) v among)))))

-- a node that isn't minus brings no edges
pub minus_past : (p : Problem) (nodes : List Node) (role : ℕ → Role) (names : List ℕ) (i : ℕ) (a b : Watched) → i < length names
    → ¬ (role (get_or names i 0) ≡ Minus) → WatchesMinusBy p nodes role (take i names) a b
    → WatchesMinusBy p nodes role (take (i + 1) names) a b
minus_past p nodes role names i a b lt other before = record {
  room = before.room;
  minus = before.minus;
  kept = before.kept;
  near = λ name v k mem minus held less touch. by name v k minus held less touch (is_in-take_more names i name lt mem);
  bounds = λ first last each right.
      before.bounds first last
      (λ k away.
      each k (λ name v mem minus held. away_past name v k minus held away (is_in-take_more names i name lt mem)))
      right;
}
  where
    by : (name v k : ℕ) → role name ≡ Minus → is_in (top_at nodes name) v ≡ true → k < length p.edges
        → touches v (edge_at p.edges k) ≡ true → (is_in (take i names) name ≡ true) ⊎ (get_or names i 0 ≡ name)
        → is_in b.edges k ≡ true
    by name v k minus held less touch (inl old) = before.near name v k old minus held less touch
    by name v k minus held less touch (inr same) = absurd (other (ap (role) same ∙ minus))

    away_past : (name v k : ℕ) → role name ≡ Minus → is_in (top_at nodes name) v ≡ true
        → IsAway p nodes role (take i names) k
        → (is_in (take i names) name ≡ true) ⊎ (get_or names i 0 ≡ name) → touches v (edge_at p.edges k) ≡ false
    away_past name v k minus held away (inl old) = away name v old minus held
    away_past name v k minus held away (inr same) = absurd (other (ap (role) same ∙ minus))

-- a plus node of the tree with the blossom in it, other than the blossom, was plus
pub plus_before : {L : Type 0} (joins : ℕ → Bool) (name root : ℕ) (tree : List (EntryOf L)) (n : ℕ) → n ≢ name
    → is_in (plus_names (renamed_name joins name root) (joined_tree joins name tree)) n ≡ true
    → is_in (plus_names root tree) n ≡ true
plus_before {L} joins name root tree n other there = each tree there
  where
    one : (x : ℕ) (b : Bool) → (if b then name else x) ≡ n → x ≡ n
    one x true same = absurd (other (sym same))
    one x false same = same

    base : (renamed_name joins name root ≡ n) ⊎ (is_in [] n ≡ true) → is_in (root ∷ []) n ≡ true
    base (inl same) = subst (λ m. is_in (root ∷ []) m ≡ true) (one root (joins root) same) (is_in-head root [])
    base (inr none) = absurd (false≢true none)

    each : (es : List (EntryOf L)) → is_in (plus_names (renamed_name joins name root) (joined_tree joins name es)) n ≡ true
        → is_in (plus_names root es) n ≡ true
    each [] h = base (is_in-cases (renamed_name joins name root) [] n h)
    each (e ∷ es) h = step (not (joins e.minus)) h (each es)
      where
        step : (b : Bool)
            → is_in
            (plus_names (renamed_name joins name root)
            (map (renamed_entry joins name) (cond b (e ∷ outer_branches joins es) (outer_branches joins es)))) n
            ≡ true
            → (is_in (plus_names (renamed_name joins name root) (joined_tree joins name es)) n ≡ true
            → is_in (plus_names root es) n ≡ true)
            → is_in (e.plus ∷ plus_names root es) n ≡ true
        step false h rest = is_in-tail e.plus (plus_names root es) n (rest h)
        step true h rest = by (is_in-cases (renamed_name joins name e.plus)
            (plus_names (renamed_name joins name root) (joined_tree joins name es)) n h)
          where
            by : (renamed_name joins name e.plus ≡ n) ⊎ (is_in (plus_names (renamed_name joins name root)
                (joined_tree joins name es)) n ≡ true)
                → is_in (e.plus ∷ plus_names root es) n ≡ true
            by (inl same) =
                subst (λ m. is_in (e.plus ∷ plus_names root es) m ≡ true) (one e.plus (joins e.plus) same)
                (is_in-head e.plus (plus_names root es))
            by (inr later) = is_in-tail e.plus (plus_names root es) n (rest later)

-- a minus node that isn't joined is a minus node of the tree with the blossom in it
pub minus_stays : (joins : ℕ → Bool) (name : ℕ) (tree : List (EntryOf ℕ)) (n : ℕ) → joins n ≡ false
    → is_in (minus_names tree) n ≡ true → is_in (minus_names (joined_tree joins name tree)) n ≡ true
minus_stays joins name [] n out there = there
minus_stays joins name (e ∷ es) n out there =
    put (joins e.minus) refl (is_in-cases e.minus (minus_names es) n there) (minus_stays joins name es n out)
  where
    put : (b : Bool) → joins e.minus ≡ b → (e.minus ≡ n) ⊎ (is_in (minus_names es) n ≡ true)
        → (is_in (minus_names es) n ≡ true → is_in (minus_names (joined_tree joins name es)) n ≡ true)
        → is_in
        (minus_names (map (renamed_entry joins name) (cond (not b) (e ∷ outer_branches joins es) (outer_branches joins es)))) n
        ≡ true
    put true h (inl same) later = absurd (both_ways (joins n) out (ap joins (sym same) ∙ h))
    put true h (inr older) later = later older
    put false h (inl same) later =
        subst (λ m. is_in (e.minus ∷ minus_names (joined_tree joins name es)) m ≡ true) same
        (is_in-head e.minus (minus_names (joined_tree joins name es)))
    put false h (inr older) later = is_in-tail e.minus (minus_names (joined_tree joins name es)) n (later older)

-- each node of a tree is plus or minus
pub plus_or_minus : {L : Type 0} (root : ℕ) (tree : List (EntryOf L)) (n : ℕ) → is_in (tree_names root tree) n ≡ true
    → (is_in (plus_names root tree) n ≡ true) ⊎ (is_in (minus_names tree) n ≡ true)
plus_or_minus root [] n there = inl there
plus_or_minus root (e ∷ es) n there = minus (is_in-cases e.minus (e.plus ∷ tree_names root es) n there)
    (plus_or_minus root es n)
  where
    older : (is_in (plus_names root es) n ≡ true) ⊎ (is_in (minus_names es) n ≡ true)
        → (is_in (plus_names root (e ∷ es)) n ≡ true) ⊎ (is_in (minus_names (e ∷ es)) n ≡ true)
    older (inl plus) = inl (is_in-tail e.plus (plus_names root es) n plus)
    older (inr minus) = inr (is_in-tail e.minus (minus_names es) n minus)

    plus : (e.plus ≡ n) ⊎ (is_in (tree_names root es) n ≡ true)
        → (is_in (tree_names root es) n ≡ true → (is_in (plus_names root es) n ≡ true)
        ⊎ (is_in (minus_names es) n ≡ true))
        → (is_in (plus_names root (e ∷ es)) n ≡ true) ⊎ (is_in (minus_names (e ∷ es)) n ≡ true)
    plus (inl same) later = inl (subst (λ m. is_in (e.plus ∷ plus_names root es) m ≡ true) same
        (is_in-head e.plus (plus_names root es)))
    plus (inr more) later = older (later more)

    minus : (e.minus ≡ n) ⊎ (is_in (e.plus ∷ tree_names root es) n ≡ true)
        → (is_in (tree_names root es) n ≡ true → (is_in (plus_names root es) n ≡ true)
        ⊎ (is_in (minus_names es) n ≡ true))
        → (is_in (plus_names root (e ∷ es)) n ≡ true) ⊎ (is_in (minus_names (e ∷ es)) n ≡ true)
    minus (inl same) later = inr (subst (λ m. is_in (e.minus ∷ minus_names es) m ≡ true) same
        (is_in-head e.minus (minus_names es)))
    minus (inr more) later = plus (is_in-cases e.plus (tree_names root es) n more) later

-- The roles of nodes before and after some of them are joined under a name that no node had: no other node becomes plus, and
-- the minus nodes that are not joined stay minus.
module _ (p : Problem) (nodes : List Node) (before after : ℕ → Role) (name : ℕ) (children : List ℕ) (old new : Watched)
    (limits : IsWithinLimits p) (names : AreDistinct (map (λ n. n.name) nodes)) (apart : AreOuterApart nodes)
    (apart_after : AreOuterApart (joined_nodes name children nodes))
    (outer : is_outer (joined_nodes name children nodes) name ≡ true)
    (may : MayJoin nodes name children)
    (there : (n : ℕ) → is_in children n ≡ true → (grows (before n) ≡ true) ⊎ (before n ≡ Minus))
    (plus_was : (n : ℕ) → n ≢ name → grows (after n) ≡ true → grows (before n) ≡ true)
    (minus_still : (n : ℕ) → n ≢ name → is_in children n ≡ false → shrinks (before n) ≡ true → shrinks (after n) ≡ true)
    (watches : WatchesMinusBy p nodes before children old new) where
  -- the edges at a vertex of a minus node of the cycle are watched
  watched_at : (n v : ℕ) → is_in children n ≡ true → before n ≡ Minus → is_in (top_at nodes n) v ≡ true
      → IsWatchedAt p (joined_nodes name children nodes) new.edges v
  watched_at n v child minus held k less (inl first) one =
      watches.near n v k child minus held less
      (ap (λ u. touches u (edge_at p.edges k)) (sym first) ∙ touches_first p k limits less)
  watched_at n v child minus held k less (inr second) one =
      watches.near n v k child minus held less
      (ap (λ u. touches u (edge_at p.edges k)) (sym second) ∙ touches_second p k limits less)

  abbrev Joined : List Node
  Joined = joined_nodes name children nodes

  -- a minus node of the cycle held the vertex
  abbrev WasMinus : ℕ → Type 0
  WasMinus v = (n : ℕ) × (is_in children n ≡ true) × (before n ≡ Minus) × (is_in (top_at nodes n) v ≡ true)

  held_by : (v n : ℕ) → cover_of nodes v ≡ Some n → is_in (top_at nodes n) v ≡ true
  held_by v n cover = (cover_set nodes v n names cover).1

  not_name : (v n : ℕ) → cover_of nodes v ≡ Some n → n ≢ name
  not_name v n cover same =
      let a = cover_among nodes v n cover in
      both_ways (is_live nodes name) may.fresh (ap (is_live nodes) (sym same) ∙ among_live nodes a.node n a.among a.named)

  over_before : (v : ℕ) → is_covered_by (roles_by after).is_plus Joined v ≡ true
      → (is_covered_by (roles_by before).is_plus nodes v ≡ true) ⊎ WasMinus v
  over_before v over =
      let (m, cover, plus) = plus_over (roles_by after).is_plus Joined v over in
      let (n, was, which) = cover_before nodes name children names apart may v m cover in by m plus n was which
    where
      still : (n : ℕ) → cover_of nodes v ≡ Some n → grows (before n) ≡ true
          → is_covered_by (roles_by before).is_plus nodes v ≡ true
      still n cover plus = ap (passes (roles_by before).is_plus) cover ∙ plus

      joined_one : (n : ℕ) → cover_of nodes v ≡ Some n → is_in children n ≡ true
          → (grows (before n) ≡ true) ⊎ (before n ≡ Minus)
          → (is_covered_by (roles_by before).is_plus nodes v ≡ true) ⊎ WasMinus v
      joined_one n cover child (inl plus) = inl (still n cover plus)
      joined_one n cover child (inr minus) = inr (n, child, minus, held_by v n cover)

      by : (m : ℕ) → (roles_by after).is_plus m ≡ true → (n : ℕ) → cover_of nodes v ≡ Some n
          → ((is_in children n ≡ true) × (m ≡ name)) ⊎ ((is_in children n ≡ false) × (m ≡ n))
          → (is_covered_by (roles_by before).is_plus nodes v ≡ true) ⊎ WasMinus v
      by m plus n cover (inl (child, same)) = joined_one n cover child (there n child)
      by m plus n cover (inr (out, same)) =
          inl (still n cover (plus_was n (not_name v n cover) (ap (roles_by after).is_plus (sym same) ∙ plus)))

  under_after : (v : ℕ) → ¬ WasMinus v → is_covered_by (roles_by before).is_minus nodes v ≡ true
      → is_covered_by (roles_by after).is_minus Joined v ≡ true
  under_after v away under =
      let (n, cover, minus) = plus_over (roles_by before).is_minus nodes v under in
      by n cover minus (cases_Bool (is_in children n))
    where
      by : (n : ℕ) → cover_of nodes v ≡ Some n → shrinks (before n) ≡ true
          → (is_in children n ≡ true) ⊎ (is_in children n ≡ false)
          → is_covered_by (roles_by after).is_minus Joined v ≡ true
      by n cover minus (inl child) = absurd (away (n, child, only_minus (before n) minus, held_by v n cover))
      by n cover minus (inr out) =
          ap (passes (roles_by after).is_minus) (cover_joined nodes name children apart_after v n cover out)
          ∙ minus_still n (not_name v n cover) out minus

  milder_closed : (v : ℕ) → ¬ WasMinus v → IsMilder (roles_by before) (roles_by after) nodes Joined v
  milder_closed v away = record { plus = λ over. by (over_before v over); minus = under_after v away }
    where
      by : (is_covered_by (roles_by before).is_plus nodes v ≡ true) ⊎ WasMinus v
          → is_covered_by (roles_by before).is_plus nodes v ≡ true
      by (inl before) = before
      by (inr was) = absurd (away was)

  pub watch_joined : IsWatched p (roles_by before) nodes old.edges → All (λ k. k < length p.edges) new.edges
      → IsWatched p (roles_by after) Joined new.edges
  watch_joined was below =
      watch_kept p (roles_by before) (roles_by after) nodes Joined old.edges new.edges was below watches.kept
      (λ v over. by v (over_before v over)) (together_joined nodes name children names apart_after outer)
    where
      by : (v : ℕ) → (is_covered_by (roles_by before).is_plus nodes v ≡ true) ⊎ WasMinus v
          → (is_covered_by (roles_by before).is_plus nodes v ≡ true) ⊎ IsWatchedAt p Joined new.edges v
      by v (inl before) = inl before
      by v (inr (n, child, minus, held)) = inr (watched_at n v child minus held)

  pub bounded_joined : ((v : ℕ) → height_of (all_cuts Joined) v ≡ height_of (all_cuts nodes) v)
      → AreBounded (slack_at p (roles_by before) nodes) old
      → AreBounded (slack_at p (roles_by after) Joined) new
  bounded_joined heights =
      watches.bounds (slack_at p (roles_by before) nodes) (slack_at p (roles_by after) Joined)
      (λ k away.
      slack_away (roles_by before) (roles_by after) nodes Joined WasMinus (edge_at p.edges k) heights
      milder_closed (λ u v at_u at_v one. together_joined nodes name children names apart_after outer u v one)
      (λ v was. away was.0 v was.1 was.2 was.3))

-- the same by the scope of the part's node, whose problem has no defects
pub watches_minus : (part : PartValue) (g : DecodingGraph) (t : PlanTree) (n : ℕ) (nodes : List Node) (role : ℕ → Role)
    (names : List ℕ) (old new : Watched) → g ≡ graph_in part
    → WatchesMinusBy (problem_at g t n no_shot) nodes role names old new
    → WatchesMinusBy (problem_in part) nodes role names old new
watches_minus part g t n nodes role names old new eg watches =
    let w : WatchesMinusBy (problem_at (graph_in part) t n no_shot) nodes role names old new =
    subst (λ h. WatchesMinusBy (problem_at h t n no_shot) nodes role names old new) eg watches in
    record { room = w.room; minus = w.minus; kept = w.kept; near = w.near; bounds = w.bounds }
