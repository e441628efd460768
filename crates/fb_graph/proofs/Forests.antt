-- Each node lies within an outer one; so a few facts make a dual state.
use Rattle.std.proofs.Common.{ℕ, ◌≡◌, ◌+◌, ◌≤◌, ◌^◌, ◌⊎◌, inl, inr, cond, Bool, true, false, List, [], ◌∷◌, ◌++◌, map, All, AllPairs, Option, Some, None, refl, sym, ap, ◌∙◌, subst, arith, if◌then◌else◌}
use Rattle.std.specs.Option.{IsSome}
use Rattle.std.proofs.lemmas.Bool.{both_ways, false≢true, false_from_ne_true}
use Rattle.std.proofs.lemmas.List.Elements.{All-head, All-tail, All-weaker}
use Rattle.std.proofs.lemmas.List.Sums.{sum_by-cons}
use Rattle.fb_graph.specs.Parity.{is_in}
use Rattle.fb_graph.specs.Problem.{Problem, crosses, with_defects}
use Rattle.fb_graph.specs.Certificate.{AreDistinct, IsOddCut, IsPacking, total_value}
use Rattle.fb_graph.specs.Dual.{Node, AreApart, IsDual, IsHeld, IsNestedOrApart, IsWithin, AreGrown, AreOuterApart, HasRadius, all_cuts, layers_of, leaves, defects_of, first_vertices, is_empty, cover_of, height_of, is_live, is_outer, top_at}
use Rattle.fb_graph.specs.declared.parts.Cut.{Cut}
use Rattle.fb_graph.proofs.CutSums.{weigh_none, weigh-either}
use Rattle.fb_graph.proofs.Nodes.{All-flat_map, All-pieces, All-top, layers_within, layers_hold}
use Rattle.fb_graph.proofs.Sets.{is_in-All}
use Rattle.fb_graph.specs.Nests.{IsForest, IsFilled, AreJoinedLater, HasSources, first_set}
use Rattle.fb_graph.proofs.Among.{IsAmong, All_among, among_All, outer_or_not, among_outer, top_among, covered_by, cover_among, in_concat, leaf_among}
use Rattle.fb_graph.proofs.Booleans.{cond-differ}

-- all layers hold what the first one holds
pub first_held : (n : Node) (v : ℕ) → AreGrown (layers_of n) → is_in (first_set n) v ≡ true → All (λ c. is_in c.vertices v ≡ true) (layers_of n)
first_held n v grown within = by n.below grown within
  where
    by : (below : List Cut) → AreGrown (below ++ n.top ∷ []) → is_in (first_vertices (below ++ n.top ∷ [])) v ≡ true
        → All (λ c. is_in c.vertices v ≡ true) (below ++ n.top ∷ [])
    by [] g e = layers_hold n.top [] v g e
    by (c ∷ cs) g e = layers_hold c (cs ++ n.top ∷ []) v g e

pub first_within : (n : Node) (v : ℕ) → AreGrown (layers_of n) → is_in (first_set n) v ≡ true → is_in n.top.vertices v ≡ true
first_within n v grown within = All-top (λ c. is_in c.vertices v ≡ true) n.below n.top (first_held n v grown within)

pub defects_first : (n : Node) (d : ℕ) → is_in (defects_of n) d ≡ true → is_in (first_set n) d ≡ true
defects_first n d h = by (is_empty n.children) h
  where
    by : (b : Bool) → is_in (if b then first_set n else []) d ≡ true → is_in (first_set n) d ≡ true
    by true e = e
    by false e = absurd (false≢true e)

not_empty : (cs : List ℕ) (c : ℕ) → is_in cs c ≡ true → is_empty cs ≡ false
not_empty [] c h = absurd (false≢true h)
not_empty (x ∷ xs) c h = refl

-- what follows from a forest with distinct names and grown layers
pub record IsGrove (nodes : List Node) : Type 0 where
  pub names : AreDistinct (map (λ n. n.name) nodes)
  pub grown : All (λ n. AreGrown (layers_of n)) nodes
  pub forest : IsForest nodes

pub child_within : (nodes : List Node) → IsGrove nodes → (m q : Node) → IsAmong m nodes → IsAmong q nodes → is_in q.children m.name ≡ true
    → IsWithin m.top.vertices q.top.vertices
child_within nodes grove m q a b child v within =
    first_within q v (All_among (λ n. AreGrown (layers_of n)) nodes grove.grown q b)
    (All_among (IsFilled nodes) nodes grove.forest.filled q b (not_empty q.children m.name child) v
    ∙ in_concat (top_at nodes) q.children m.name v child (ap (λ s. is_in s v) (top_among nodes grove.names m a) ∙ within))

-- an outer node that holds the set
pub record IsUnder (nodes : List Node) (set : List ℕ) : Type 0 where
  pub node : Node
  pub among : IsAmong node nodes
  pub outer : is_outer nodes node.name ≡ true
  pub within : IsWithin set node.top.vertices

under_wider : (nodes : List Node) (inner set : List ℕ) → IsWithin inner set → IsUnder nodes set → IsUnder nodes inner
under_wider nodes inner set within is =
    record { node = is.node; among = is.among; outer = is.outer; within = λ v h. is.within v (within v h) }

-- a later node of the list joins its first or another
not_mine : (n : Node) (ns : List Node) → AreJoinedLater (n ∷ ns) → (x : Node) → IsAmong x (n ∷ ns) → is_in n.children x.name ≡ true → ⊥
not_mine n ns joined x b child =
    both_ways (is_in n.children x.name) (All_among (λ y. is_in n.children y.name ≡ false) (n ∷ ns) joined.0 x b) child

pub after : (n : Node) (ns : List Node) → AreJoinedLater (n ∷ ns) → (x q : Node) → IsAmong x (n ∷ ns) → is_in q.children x.name ≡ true
    → IsAmong q (n ∷ ns) → IsAmong q ns
after n ns joined x q b child (inl e) = absurd (not_mine n ns joined x b (ap (λ y. is_in y.children x.name) e ∙ child))
after n ns joined x q b child (inr c) = c

under_from : (nodes : List Node) → IsGrove nodes → (ns : List Node) → ((m : Node) → IsAmong m ns → IsAmong m nodes)
    → ((m q : Node) → IsAmong m ns → IsAmong q nodes → is_in q.children m.name ≡ true → IsAmong q ns)
    → AreJoinedLater ns → (m : Node) → IsAmong m ns → IsUnder nodes m.top.vertices
under_from nodes grove [] some later joined m a = absurd a
under_from nodes grove (n ∷ ns) some later joined m a =
    step a
    (under_from nodes grove ns (λ x b. some x (inr b))
    (λ x q b c child. after n ns joined x q (inr b) child (later x q (inr b) c child)) joined.2)
  where
    step : IsAmong m (n ∷ ns) → ((x : Node) → IsAmong x ns → IsUnder nodes x.top.vertices) → IsUnder nodes m.top.vertices
    step (inr b) earlier = earlier m b
    step (inl e) earlier = subst (λ x. IsUnder nodes x.top.vertices) e (up (outer_or_not nodes n.name))
      where
        up : (is_outer nodes n.name ≡ true) ⊎ ((q : Node) × IsAmong q nodes × (is_in q.children n.name ≡ true)) → IsUnder nodes n.top.vertices
        up (inl outer) = record { node = n; among = some n (inl refl); outer = outer; within = λ v h. h }
        up (inr (q, b, child)) =
            under_wider nodes n.top.vertices q.top.vertices (child_within nodes grove n q (some n (inl refl)) b child)
            (earlier q (after n ns joined n q (inl refl) child (later n q (inl refl) b child)))

pub under_outer : (nodes : List Node) → IsGrove nodes → (m : Node) → IsAmong m nodes → IsUnder nodes m.top.vertices
under_outer nodes grove = under_from nodes grove nodes (λ m a. a) (λ m q a b child. b) grove.forest.joined

pub cuts_under : (nodes : List Node) → IsGrove nodes → All (λ c. IsUnder nodes c.vertices) (all_cuts nodes)
cuts_under nodes grove =
    All-flat_map (λ c. IsUnder nodes c.vertices) layers_of nodes
    (among_All (λ n. All (λ c. IsUnder nodes c.vertices) (layers_of n)) nodes
    (λ n a.
    All-weaker (λ c. IsWithin c.vertices n.top.vertices) (λ c. IsUnder nodes c.vertices)
    (λ c within. under_wider nodes c.vertices n.top.vertices within (under_outer nodes grove n a))
    (layers_of n) (layers_within n.below n.top (All_among (λ x. AreGrown (layers_of x)) nodes grove.grown n a))))

-- a name that no node has is no child
pub absent_outer : (nodes : List Node) → IsForest nodes → (n : ℕ) → is_live nodes n ≡ false → is_outer nodes n ≡ true
absent_outer nodes forest n absent =
    among_outer nodes n
    (λ q a.
    false_from_ne_true (is_in q.children n)
    (λ h.
    both_ways (is_live nodes n) absent
    (is_in-All (λ c. is_live nodes c ≡ true) q.children
    (All_among (λ m. All (λ c. is_live nodes c ≡ true) m.children) nodes forest.live q a) n h)))

-- the facts from which all others follow
pub record IsBase (p : Problem) (nodes : List Node) : Type 0 where
  pub packing : IsPacking (with_defects p (leaves nodes)) (all_cuts nodes)
  pub laminar : AllPairs IsNestedOrApart (all_cuts nodes)
  pub held : All (IsHeld p) (all_cuts nodes)
  pub total : total_value (all_cuts nodes) ≤ 2 ^ 52
  pub grove : IsGrove nodes
  pub apart : AreOuterApart nodes
  pub sources : All (λ n. HasSources nodes n.top.vertices) nodes

radius : (n : Node) → AreGrown (layers_of n) → HasRadius n
radius n grown d leaf = whole (layers_of n) (first_held n d grown (defects_first n d leaf))
  where
    whole : (cuts : List Cut) → All (λ c. is_in c.vertices d ≡ true) cuts → height_of cuts d ≡ total_value cuts
    whole [] h = refl
    whole (c ∷ cs) h =
        omega (
          arith,
          ap (λ b. cond b c.value 0) (All-head (λ x. is_in x.vertices d ≡ true) c cs h),
          whole cs (All-tail (λ x. is_in x.vertices d ≡ true) c cs h),
          sum_by-cons (λ (x : Cut). cond (is_in x.vertices d) x.value 0) c cs,
          sum_by-cons (λ (x : Cut). x.value) c cs,
        )

pub tops_odd : (p : Problem) (nodes : List Node) → All (IsOddCut p) (all_cuts nodes) → (m : Node) → IsAmong m nodes → IsOddCut p m.top
tops_odd p nodes odd m a =
    All-top (IsOddCut p) m.below m.top (All_among (λ n. All (IsOddCut p) (layers_of n)) nodes (All-pieces (IsOddCut p) layers_of nodes odd) m a)

pub dual_of : (p : Problem) (nodes : List Node) → IsBase p nodes → IsDual p nodes
dual_of p nodes base = record {
  packing = base.packing;
  names = base.grove.names;
  laminar = base.laminar;
  grown = base.grove.grown;
  held = base.held;
  total = base.total;
  apart = base.apart;
  radii = All-weaker (λ n. AreGrown (layers_of n)) HasRadius radius nodes base.grove.grown;
  defects = λ d leaf.
      let (m, a, mine) = leaf_among nodes d leaf in
      let under = under_outer nodes base.grove m a in
      subst IsSome
      (sym (covered_by nodes d base.apart under.node under.among under.outer
      (under.within d (first_within m d (All_among (λ n. AreGrown (layers_of n)) nodes base.grove.grown m a) (defects_first m d mine)))))
      refl;
  real = λ v covered. real v (cover_of nodes v) refl (covered);
  uncovered = λ v none.
      weigh_none (λ s. is_in s v) (all_cuts nodes)
      (All-weaker (λ c. IsUnder nodes c.vertices) (λ c. is_in c.vertices v ≡ false)
      (λ c under.
      false_from_ne_true (is_in c.vertices v)
      (λ h.
      let some : cover_of nodes v ≡ Some under.node.name = covered_by nodes v base.apart under.node under.among under.outer (under.within v h) in
      let clash : None ≡ Some under.node.name = sym none ∙ some in
      absurd (cc)))
      (all_cuts nodes) (cuts_under nodes base.grove));
  loads = λ e differs.
      weigh-either (λ s. is_in s e.first) (λ s. is_in s e.second) (λ s. crosses s e) (all_cuts nodes)
      (All-weaker (λ c. IsUnder nodes c.vertices)
      (λ c. (x : ℕ) → cond (crosses c.vertices e) x 0 ≡ cond (is_in c.vertices e.first) x 0 + cond (is_in c.vertices e.second) x 0)
      (λ c under x.
      cond-differ (is_in c.vertices e.first) (is_in c.vertices e.second) x
      (λ h k.
      differs (
        under.node.name,
        covered_by nodes e.first base.apart under.node under.among under.outer (under.within e.first h),
        covered_by nodes e.second base.apart under.node under.among under.outer (under.within e.second k),
      )))
      (all_cuts nodes) (cuts_under nodes base.grove));
  parity = λ v name cover.
      let over = cover_among nodes v name cover in
      let (d, within, leaf, same) = All_among (λ n. HasSources nodes n.top.vertices) nodes base.sources over.node over.among v over.holds in
      (d, leaf, covered_by nodes d base.apart over.node over.among over.outer within ∙ ap Some over.named, same);
}
  where
    real : (v : ℕ) (o : Option ℕ) → cover_of nodes v ≡ o → IsSome (cover_of nodes v) → p.is_real v ≡ true
    real v None e some = absurd (false≢true (subst IsSome e some))
    real v (Some name) e some =
        let over = cover_among nodes v name e in
        is_in-All (λ u. p.is_real u ≡ true) over.node.top.vertices
        (tops_odd (with_defects p (leaves nodes)) nodes base.packing.odd over.node over.among).real v over.holds

-- a node's children are live
pub children_live : (nodes : List Node) → IsForest nodes → (n : Node) → IsAmong n nodes → All (λ c. is_live nodes c ≡ true) n.children
children_live nodes forest n a = All_among (λ m. All (λ c. is_live nodes c ≡ true) m.children) nodes forest.live n a

pub child_live : (nodes : List Node) → IsForest nodes → (n : Node) → IsAmong n nodes → (c : ℕ) → is_in n.children c ≡ true
    → is_live nodes c ≡ true
child_live nodes forest n a = is_in-All (λ c. is_live nodes c ≡ true) n.children (children_live nodes forest n a)

-- no two nodes join the same
pub one_parent : (ns : List Node) → AreJoinedLater ns → (m n : Node) → IsAmong m ns → IsAmong n ns → (c : ℕ) → is_in m.children c ≡ true
    → is_in n.children c ≡ true → m ≡ n
one_parent [] joined m n a b c h k = absurd a
one_parent (x ∷ xs) joined m n (inl e) (inl f) c h k = sym e ∙ f
one_parent (x ∷ xs) joined m n (inl e) (inr b) c h k =
    absurd
    (both_ways (is_in n.children c)
    (All_among (λ y. AreApart x.children y.children) xs joined.1 n b c (ap (λ y. is_in y.children c) e ∙ h)) k)
one_parent (x ∷ xs) joined m n (inr a) (inl f) c h k =
    absurd
    (both_ways (is_in m.children c)
    (All_among (λ y. AreApart x.children y.children) xs joined.1 m a c (ap (λ y. is_in y.children c) f ∙ k)) h)
one_parent (x ∷ xs) joined m n (inr a) (inr b) c h k = one_parent xs joined.2 m n a b c h k
