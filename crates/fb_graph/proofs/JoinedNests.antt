-- Outer nodes joined keep a nest.
use Rattle.std.proofs.Common.{ℕ, ◌≡◌, ◌%◌, ◌≤◌, ◌⊎◌, inl, inr, true, false, List, [], ◌∷◌, ◌++◌, map, length, All, refl, sym, ap, ◌∙◌, subst, arith}
use Rattle.std.specs.List.{concat}
use Rattle.std.proofs.lemmas.Bool.{both_ways, false_from_ne_true, cases_Bool, cases_eq}
use Rattle.std.proofs.lemmas.List.{length-map, append-nil}
use Rattle.std.proofs.lemmas.List.Elements.{All-nil, All-cons, All-head, All-tail, All-map, All-push, All-weaker}
use Rattle.fb_graph.specs.Parity.{is_odd_count, is_in}
use Rattle.fb_graph.specs.Problem.{Problem, with_defects}
use Rattle.fb_graph.specs.Certificate.{AreDistinct, IsOddCut}
use Rattle.fb_graph.specs.Printed.{DifferAsSets}
use Rattle.fb_graph.specs.Dual.{Node, AreApart, AreGrown, AreOuterApart, IsNestedOrApart, all_cuts, layers_of, leaves, height_of, is_live, is_outer, top_at}
use Rattle.fb_graph.specs.declared.parts.Cut.{Cut}
use Rattle.fb_graph.proofs.Members.{AreDistinct_push}
use Rattle.fb_graph.proofs.Sets.{All-from_is_in, is_in-All, is_in-head, is_in-tail}
use Rattle.fb_graph.specs.Ends.{AreAllApart}
use Rattle.fb_graph.specs.Nests.{IsNest, IsForest, IsFormed, IsFilled, AreJoinedLater, AreMany, HasSources, child_sets}
use Rattle.fb_graph.specs.Moves.{blossom, joined_nodes, MayJoin, NestJoined}
use Rattle.fb_graph.proofs.Among.{IsAmong, All_among, among_All, among_left, among_either, live_among, among_live, outer_among, top_among, top_left, apart_among, among_pairs, in_concat, from_concat}
use Rattle.fb_graph.proofs.EndSums.{apart_sym}
use Rattle.fb_graph.proofs.Forests.{IsUnder, cuts_under}
use Rattle.fb_graph.proofs.InsertedCuts.{IsInserted, AreFit, inserted_fit, same_weigh, sources_same}
use Rattle.fb_graph.proofs.AppendedNodes.{cuts_merged, leaves_merged, names_merged, outer_in}
use Rattle.fb_graph.proofs.NestParts.{grove_of, fit_of, nest_of, top_is_odd, top_holds, names_live, map_agree}
use Rattle.fb_graph.proofs.Unions.{distinct_union, odd_union}

-- a further node at the end
pub joined_push : (ns : List Node) (b : Node) → AreJoinedLater ns → All (λ n. is_in n.children b.name ≡ false) ns
    → All (λ n. AreApart n.children b.children) ns → is_in b.children b.name ≡ false → AreJoinedLater (ns ++ b ∷ [])
joined_push [] b old fresh apart own =
    (All-cons (λ m. is_in b.children m.name ≡ false) b [] own (All-nil (λ m. is_in b.children m.name ≡ false)), All-nil (λ m. AreApart b.children m.children), tt)
joined_push (n ∷ ns) b old fresh apart own = (
  All-push (λ m. is_in n.children m.name ≡ false) (n ∷ ns) b old.0 (All-head (λ x. is_in x.children b.name ≡ false) n ns fresh),
  All-push (λ m. AreApart n.children m.children) ns b old.1 (All-head (λ x. AreApart x.children b.children) n ns apart),
  joined_push ns b old.2 (All-tail (λ x. is_in x.children b.name ≡ false) n ns fresh) (All-tail (λ x. AreApart x.children b.children) n ns apart) own,
)

-- one of several children isn't the node of the name
another : (children : List ℕ) (name : ℕ) → AreMany children → (c : ℕ) × (is_in children c ≡ true) × (c ≡ name → ⊥)
another [] name many = absurd (let h : 3 ≤ 0 = many.three in omega arith)
another (a ∷ []) name many = absurd (let h : 3 ≤ 1 = many.three in omega arith)
another (a ∷ b ∷ cs) name many = step (cases_eq a name)
  where
    step : (a ≡ name) ⊎ (a ≡ name → ⊥) → (c : ℕ) × (is_in (a ∷ b ∷ cs) c ≡ true) × (c ≡ name → ⊥)
    step (inl e) = (
      b,
      is_in-tail a (b ∷ cs) b (is_in-head b cs),
      λ f. both_ways (is_in (b ∷ cs) a) many.distinct.0 (ap (is_in (b ∷ cs)) (e ∙ sym f) ∙ is_in-head b cs),
    )
    step (inr other) = (a, is_in-head a (b ∷ cs), other)

no_leaves : (name : ℕ) (children : List ℕ) (nodes : List Node) → 3 ≤ length children → leaves (blossom name children nodes ∷ []) ≡ []
no_leaves name [] nodes three = absurd (let h : 3 ≤ 0 = three in omega arith)
no_leaves name (c ∷ cs) nodes three = refl

-- an outer node of a name
record IsChild (nodes : List Node) (c : ℕ) : Type 0 where
  node : Node
  among : IsAmong node nodes
  named : node.name ≡ c
  outer : is_outer nodes node.name ≡ true
  top : top_at nodes c ≡ node.top.vertices

module _ (p : Problem) (nodes : List Node) (name : ℕ) (children : List ℕ) (may : MayJoin nodes name children) (nest : IsNest p nodes) where
  child : (c : ℕ) → is_in children c ≡ true → IsChild nodes c
  child c within =
      let (m, a, e) = live_among nodes c (is_in-All (λ x. is_live nodes x ≡ true) children may.live c within) in
      record {
        node = m;
        among = a;
        named = e;
        outer = ap (is_outer nodes) e ∙ is_in-All (λ x. is_outer nodes x ≡ true) children may.outer c within;
        top = ap (top_at nodes) (sym e) ∙ top_among nodes nest.dual.names m a;
      }

  two_apart : (a b : ℕ) → is_in children a ≡ true → is_in children b ≡ true → (a ≡ b → ⊥) → AreApart (top_at nodes a) (top_at nodes b)
  two_apart a b h k other =
      let one = child a h in
      let two = child b k in
      subst (λ s. AreApart s (top_at nodes b)) (sym one.top)
      (subst (AreApart one.node.top.vertices) (sym two.top)
      (apart_among nodes nest.dual.names nest.dual.apart one.node two.node one.among two.among
      (λ same. other (sym one.named ∙ (same ∙ two.named))) one.outer two.outer))

  all_apart : (cs : List ℕ) → AreDistinct cs → ((c : ℕ) → is_in cs c ≡ true → is_in children c ≡ true) → AreAllApart (map (top_at nodes) cs)
  all_apart [] distinct some = tt
  all_apart (c ∷ cs) distinct some = (
    All-map (AreApart (top_at nodes c)) (top_at nodes) cs
        (All-from_is_in (λ x. AreApart (top_at nodes c) (top_at nodes x)) cs
        (λ x h.
        two_apart c x (some c (is_in-head c cs)) (some x (is_in-tail c cs x h))
        (λ e. both_ways (is_in cs c) distinct.0 (ap (is_in cs) e ∙ h)))),
    all_apart cs distinct.1 (λ x h. some x (is_in-tail c cs x h)),
  )

  parted : AreAllApart (map (top_at nodes) children)
  parted = all_apart children may.many.distinct (λ c h. h)

  odd : IsOddCut (with_defects p (leaves nodes)) (blossom name children nodes).top
  odd = record {
    distinct = distinct_union (map (top_at nodes) children)
        (All-map AreDistinct (top_at nodes) children
        (All-from_is_in (λ c. AreDistinct (top_at nodes c)) children
        (λ c h. let is = child c h in subst AreDistinct (sym is.top) (top_is_odd p nodes nest is.node is.among).distinct)))
        parted;
    real = All-from_is_in (λ v. p.is_real v ≡ true) (concat (map (top_at nodes) children))
        (λ v h.
        let (c, among, within) = from_concat (top_at nodes) children v h in
        let is = child c among in
        is_in-All (λ u. p.is_real u ≡ true) is.node.top.vertices (top_is_odd p nodes nest is.node is.among).real v
        (ap (λ s. is_in s v) (sym is.top) ∙ within));
    odd = odd_union (is_in (leaves nodes)) (map (top_at nodes) children) (ap (λ n. n % 2) (length-map children (top_at nodes)) ∙ may.many.odd)
        (All-map (λ s. is_odd_count (is_in (leaves nodes)) s ≡ true) (top_at nodes) children
        (All-from_is_in (λ c. is_odd_count (is_in (leaves nodes)) (top_at nodes c) ≡ true) children
        (λ c h. let is = child c h in ap (is_odd_count (is_in (leaves nodes))) is.top ∙ (top_is_odd p nodes nest is.node is.among).odd)));
  }

  -- an outer node that isn't joined lies apart
  apart_others : (m : Node) → IsAmong m nodes → is_outer nodes m.name ≡ true → is_in children m.name ≡ false
      → AreApart m.top.vertices (concat (map (top_at nodes) children))
  apart_others m a outer other v within =
      false_from_ne_true (is_in (concat (map (top_at nodes) children)) v)
      (λ h.
      let (c, among, holds) = from_concat (top_at nodes) children v h in
      let is = child c among in
      both_ways (is_in is.node.top.vertices v)
      (apart_among nodes nest.dual.names nest.dual.apart m is.node a is.among
      (λ same. both_ways (is_in children m.name) other (ap (is_in children) (same ∙ is.named) ∙ among)) outer is.outer v within)
      (ap (λ s. is_in s v) (sym is.top) ∙ holds))

  beside : (c : Cut) → IsUnder nodes c.vertices
      → IsNestedOrApart c (blossom name children nodes).top × DifferAsSets c (blossom name children nodes).top
  beside c under = (nested (cases_Bool (is_in children under.node.name)), differs)
    where
      nested : (is_in children under.node.name ≡ true) ⊎ (is_in children under.node.name ≡ false) → IsNestedOrApart c (blossom name children nodes).top
      nested (inl e) =
          inl (λ v h.
          in_concat (top_at nodes) children under.node.name v e
          (ap (λ s. is_in s v) (top_among nodes nest.dual.names under.node under.among) ∙ under.within v h))
      nested (inr e) = inr (inr (λ v h. apart_others under.node under.among under.outer e v (under.within v h)))

      differs : DifferAsSets c (blossom name children nodes).top
      differs =
          let (x, among, other) = another children under.node.name may.many in
          let is = child x among in
          let (u, holds) = top_holds p nodes nest is.node is.among in
          let there : is_in (concat (map (top_at nodes) children)) u ≡ true =
          in_concat (top_at nodes) children x u among (ap (λ s. is_in s u) is.top ∙ holds) in
          let out : is_in under.node.top.vertices u ≡ false =
          apart_among nodes nest.dual.names nest.dual.apart is.node under.node is.among under.among (λ same. other (sym is.named ∙ same)) is.outer under.outer u holds in
          (u, λ same. both_ways (is_in under.node.top.vertices u) out (under.within u (same ∙ there)))

  pub insertion : IsInserted (blossom name children nodes).top (all_cuts nodes) (all_cuts (joined_nodes name children nodes))
  insertion = record {
    before = all_cuts nodes;
    after = [];
    old_is = sym (append-nil (all_cuts nodes));
    new_is = cuts_merged nodes (blossom name children nodes ∷ []);
    bare = refl;
  }

  pub same_leaves : leaves (joined_nodes name children nodes) ≡ leaves nodes
  same_leaves =
      leaves_merged nodes (blossom name children nodes ∷ [])
      ∙ (ap (λ l. leaves nodes ++ l) (no_leaves name children nodes may.many.three) ∙ append-nil (leaves nodes))

  pub height : (v : ℕ) → height_of (all_cuts (joined_nodes name children nodes)) v ≡ height_of (all_cuts nodes) v
  height v = same_weigh (λ s. is_in s v) (blossom name children nodes).top (all_cuts nodes) (all_cuts (joined_nodes name children nodes)) insertion

  fit : AreFit p (leaves (joined_nodes name children nodes)) (all_cuts (joined_nodes name children nodes))
  fit =
      subst (λ l. AreFit p l (all_cuts (joined_nodes name children nodes))) (sym same_leaves)
      (inserted_fit p (leaves nodes) (blossom name children nodes).top (all_cuts nodes) (all_cuts (joined_nodes name children nodes)) insertion (fit_of p nodes nest) odd
      (All-weaker (λ c. IsUnder nodes c.vertices)
      (λ c. IsNestedOrApart c (blossom name children nodes).top × DifferAsSets c (blossom name children nodes).top)
      beside (all_cuts nodes) (cuts_under nodes (grove_of p nodes nest))))

  names : AreDistinct (map (λ n. n.name) (joined_nodes name children nodes))
  names =
      subst AreDistinct (sym (names_merged nodes (blossom name children nodes ∷ [])))
      (AreDistinct_push (map (λ n. n.name) nodes) name nest.dual.names (names_live nodes name ∙ may.fresh))

  still_live : (c : ℕ) → is_live nodes c ≡ true → is_live (joined_nodes name children nodes) c ≡ true
  still_live c live =
      let (m, a, e) = live_among nodes c live in
      among_live (joined_nodes name children nodes) m c (among_left nodes (blossom name children nodes ∷ []) m a) e

  same_sets : (n : Node) → All (λ c. is_live nodes c ≡ true) n.children → child_sets (joined_nodes name children nodes) n ≡ child_sets nodes n
  same_sets n live =
      map_agree (top_at (joined_nodes name children nodes)) (top_at nodes) n.children
      (All-weaker (λ c. is_live nodes c ≡ true) (λ c. top_at (joined_nodes name children nodes) c ≡ top_at nodes c)
      (λ c h. top_left nodes (blossom name children nodes ∷ []) c h) n.children live)

  not_child : is_in children name ≡ false
  not_child =
      false_from_ne_true (is_in children name)
      (λ h. both_ways (is_live nodes name) may.fresh (is_in-All (λ c. is_live nodes c ≡ true) children may.live name h))

  forest : IsForest (joined_nodes name children nodes)
  forest = record {
    formed = All-push IsFormed nodes (blossom name children nodes) nest.forest.formed (inr may.many);
    live = All-push (λ n. All (λ c. is_live (joined_nodes name children nodes) c ≡ true) n.children) nodes (blossom name children nodes)
        (All-weaker (λ n. All (λ c. is_live nodes c ≡ true) n.children) (λ n. All (λ c. is_live (joined_nodes name children nodes) c ≡ true) n.children)
        (λ n h. All-weaker (λ c. is_live nodes c ≡ true) (λ c. is_live (joined_nodes name children nodes) c ≡ true) still_live n.children h) nodes nest.forest.live)
        (All-weaker (λ c. is_live nodes c ≡ true) (λ c. is_live (joined_nodes name children nodes) c ≡ true) still_live children may.live);
    joined = joined_push nodes (blossom name children nodes) nest.forest.joined
        (among_All (λ n. is_in n.children name ≡ false) nodes
        (λ n a.
        false_from_ne_true (is_in n.children name)
        (λ h.
        both_ways (is_live nodes name) may.fresh
        (is_in-All (λ c. is_live nodes c ≡ true) n.children (All_among (λ m. All (λ c. is_live nodes c ≡ true) m.children) nodes nest.forest.live n a) name h))))
        (among_All (λ n. AreApart n.children children) nodes
        (λ n a c h.
        false_from_ne_true (is_in children c)
        (λ k. both_ways (is_in n.children c) (outer_among nodes c (is_in-All (λ x. is_outer nodes x ≡ true) children may.outer c k) n a) h)))
        not_child;
    filled = All-push (IsFilled (joined_nodes name children nodes)) nodes (blossom name children nodes)
        (among_All (IsFilled (joined_nodes name children nodes)) nodes
        (λ n a some v.
        All_among (IsFilled nodes) nodes nest.forest.filled n a some v
        ∙ ap (λ l. is_in (concat l) v) (sym (same_sets n (All_among (λ m. All (λ c. is_live nodes c ≡ true) m.children) nodes nest.forest.live n a)))))
        (λ some v. ap (λ l. is_in (concat l) v) (sym (same_sets (blossom name children nodes) may.live)));
    parted = All-push (λ n. AreAllApart (child_sets (joined_nodes name children nodes) n)) nodes (blossom name children nodes)
        (among_All (λ n. AreAllApart (child_sets (joined_nodes name children nodes) n)) nodes
        (λ n a.
        subst AreAllApart (sym (same_sets n (All_among (λ m. All (λ c. is_live nodes c ≡ true) m.children) nodes nest.forest.live n a)))
        (All_among (λ m. AreAllApart (child_sets nodes m)) nodes nest.forest.parted n a)))
        (subst AreAllApart (sym (same_sets (blossom name children nodes) may.live)) parted);
  }

  outer_still : (n : ℕ) → is_outer (joined_nodes name children nodes) n ≡ true → (is_outer nodes n ≡ true) × (is_in children n ≡ false)
  outer_still n outer =
      let outs = outer_in nodes (blossom name children nodes ∷ []) n outer in
      (outs.0, outer_among (blossom name children nodes ∷ []) n outs.1 (blossom name children nodes) (inl refl))

  apart : AreOuterApart (joined_nodes name children nodes)
  apart =
      among_pairs (λ m n. is_outer (joined_nodes name children nodes) m.name ≡ true → is_outer (joined_nodes name children nodes) n.name ≡ true → AreApart m.top.vertices n.top.vertices)
      (joined_nodes name children nodes) names
      (λ m n a b other out_m out_n.
      by m n (among_either nodes (blossom name children nodes ∷ []) m a) (among_either nodes (blossom name children nodes ∷ []) n b) other
      (outer_still m.name out_m) (outer_still n.name out_n))
    where
      by : (m n : Node) → IsAmong m nodes ⊎ IsAmong m (blossom name children nodes ∷ []) → IsAmong n nodes ⊎ IsAmong n (blossom name children nodes ∷ [])
          → (m.name ≡ n.name → ⊥) → (is_outer nodes m.name ≡ true) × (is_in children m.name ≡ false) → (is_outer nodes n.name ≡ true) × (is_in children n.name ≡ false)
          → AreApart m.top.vertices n.top.vertices
      by m n (inl a) (inl b) other out_m out_n = apart_among nodes nest.dual.names nest.dual.apart m n a b other out_m.0 out_n.0
      by m n (inl a) (inr (inl e)) other out_m out_n = subst (λ x. AreApart m.top.vertices x.top.vertices) e (apart_others m a out_m.0 out_m.1)
      by m n (inr (inl e)) (inl b) other out_m out_n =
          subst (λ x. AreApart x.top.vertices n.top.vertices) e
          (apart_sym n.top.vertices (concat (map (top_at nodes) children)) (apart_others n b out_n.0 out_n.1))
      by m n (inr (inl e)) (inr (inl f)) other out_m out_n = absurd (other (ap (λ x. x.name) (sym e ∙ f)))
      by m n (inl a) (inr (inr b)) other out_m out_n = absurd b
      by m n (inr (inl e)) (inr (inr b)) other out_m out_n = absurd b
      by m n (inr (inr a)) b other out_m out_n = absurd a

  sources : All (λ n. HasSources (joined_nodes name children nodes) n.top.vertices) (joined_nodes name children nodes)
  sources =
      All-push (λ n. HasSources (joined_nodes name children nodes) n.top.vertices) nodes (blossom name children nodes)
      (All-weaker (λ n. HasSources nodes n.top.vertices) (λ n. HasSources (joined_nodes name children nodes) n.top.vertices)
      (λ n h. sources_same nodes (joined_nodes name children nodes) n.top.vertices same_leaves height h) nodes nest.sources)
      (sources_same nodes (joined_nodes name children nodes) (concat (map (top_at nodes) children)) same_leaves height
      (λ v within.
      let (c, among, holds) = from_concat (top_at nodes) children v within in
      let is = child c among in
      let (d, there, leaf, parity) = All_among (λ n. HasSources nodes n.top.vertices) nodes nest.sources is.node is.among v (ap (λ s. is_in s v) (sym is.top) ∙ holds) in
      (d, in_concat (top_at nodes) children c d among (ap (λ s. is_in s d) is.top ∙ there), leaf, parity)))

  nest_kept : IsNest p (joined_nodes name children nodes)
  nest_kept =
      nest_of p (joined_nodes name children nodes) fit (record {
        names = names;
        grown = All-push (λ n. AreGrown (layers_of n)) nodes (blossom name children nodes) nest.dual.grown (tt, tt);
        forest = forest;
      })
      apart (subst AreDistinct (sym same_leaves) nest.defects) sources

pub nest_joined : NestJoined
nest_joined p nodes name children may nest = nest_kept p nodes name children may nest
