-- A vertex that is the first of each list that holds it, and lists where the one before it changes.
use Rattle.std.proofs.Common.{ℕ, zero, suc, ◌≡◌, ◌+◌, ◌==◌, ◌⊎◌, inl, inr, Bool, true, false, List, [], ◌∷◌, ◌++◌, map, Option, refl, sym, ap, ◌∙◌, subst}
use Rattle.std.proofs.lemmas.Bool.{both_ways, cases_eq, false≢true, eqb-true, or_cases, or_left, or_parts, or_right}
use Rattle.fb_graph.specs.Parity.{is_in}
use Rattle.fb_graph.specs.Problem.{Problem}
use Rattle.fb_graph.specs.Certificate.{AreDistinct}
use Rattle.fb_graph.specs.Dual.{Node, is_outer, top_at}
use Rattle.fb_graph.specs.Ends.{AreAllApart}
use Rattle.fb_graph.specs.Nests.{AreJoinedLater, child_sets}
use Rattle.fb_graph.proofs.Among.{IsAmong, All_among, among_map, apart_among, apart_of_two, outer_or_not, same_among, top_among}
use Rattle.fb_graph.proofs.Forests.{after, child_within}
use Rattle.fb_graph.proofs.Members.{is_in-append, distinct_left}
use Rattle.fb_graph.proofs.NestParts.{grove_of}
use Rattle.fb_graph.proofs.Sets.{is_in-head}
use Rattle.fb_regions.specs.declared.marks.Mark.{Mark}
use Rattle.fb_regions.specs.declared.region.Region.{Region}
use Rattle.fb_regions.specs.InternalKept.{IsKept}
use Rattle.fb_regions.specs.InternalListings.{BeginsFirst, IsListed}
use Rattle.fb_regions.specs.InternalNodes.{added_to, before_of, chain, first_of, node_of, nodes_of, under_of}
use Rattle.fb_regions.specs.Moves.{BeginsWith}
use Rattle.fb_regions.proofs.Chains.{chain_same}
use Rattle.fb_regions.proofs.Listings.{begins_in, begins_left, left_begins, same_first, some_begin}
use Rattle.fb_regions.proofs.Marking.{node_read}

-- the list begins with the vertex if it holds it
abbrev pub IsFront : ℕ → List ℕ → Type 0
IsFront f vs = is_in vs f ≡ true → BeginsWith f vs

pub distinct_apart : (xs ys : List ℕ) → AreDistinct (xs ++ ys) → (v : ℕ) → is_in xs v ≡ true → is_in ys v ≡ true → ⊥
distinct_apart [] ys d v h k = false≢true h
distinct_apart (x ∷ xs) ys d v h k = by (or_cases (x == v) (is_in xs v) h) (distinct_apart xs ys d.1 v)
  where
    by : ((x == v) ≡ true) ⊎ (is_in xs v ≡ true) → (is_in xs v ≡ true → is_in ys v ≡ true → ⊥) → ⊥
    by (inl e) rest =
        both_ways (is_in ys x) (or_parts (is_in xs x) (is_in ys x) (sym (is_in-append xs ys x) ∙ d.0)).1 (ap (is_in ys) (eqb-true x v e) ∙ k)
    by (inr e) rest = rest e k

-- back from the last vertex, where another one stands before the first
chain_front : (marks other : List (Option Mark)) (k v f : ℕ) → BeginsWith f (chain marks k v) → AreDistinct (chain marks k v)
    → ((u : ℕ) → (u ≡ f → ⊥) → before_of other u ≡ before_of marks u) → chain other k v ≡ chain marks k v
chain_front marks other zero v f begins distinct same = absurd begins
chain_front marks other (suc zero) v f begins distinct same = refl
chain_front marks other (suc (suc k)) v f begins distinct same =
    let rest : BeginsWith f (chain marks (suc k) (before_of marks v)) =
    left_begins f _ (chain marks (suc k) (before_of marks v)) (v ∷ []) (some_begin (chain marks k (before_of marks (before_of marks v))) (before_of marks v)).1 begins in
    ap (λ b. chain other (suc k) b ++ v ∷ [])
    (same v
    (λ e.
    distinct_apart (chain marks (suc k) (before_of marks v)) (v ∷ []) distinct f (begins_in f (chain marks (suc k) (before_of marks v)) rest)
    (begins_in f (v ∷ []) e)))
    ∙ ap (λ l. l ++ v ∷ [])
    (chain_front marks other (suc k) (before_of marks v) f rest (distinct_left (chain marks (suc k) (before_of marks v)) (v ∷ []) distinct) same)

pub chain_stays : (marks other : List (Option Mark)) (k v f : ℕ) → IsFront f (chain marks k v) → AreDistinct (chain marks k v)
    → ((u : ℕ) → (u ≡ f → ⊥) → before_of other u ≡ before_of marks u) → chain other k v ≡ chain marks k v
chain_stays marks other k v f front distinct same = by (is_in (chain marks k v) f) refl
  where
    by : (b : Bool) → is_in (chain marks k v) f ≡ b → chain other k v ≡ chain marks k v
    by true e = chain_front marks other k v f (front e) distinct same
    by false e =
        chain_same marks other k v (λ u h. same u (λ eq. both_ways (is_in (chain marks k v) f) e (ap (is_in (chain marks k v)) (sym eq) ∙ h)))

-- a node, and its list, where another vertex stands before its first one
module _ (marks other : List (Option Mark)) (r : Region) (f : ℕ) (is : IsListed marks r) (distinct : AreDistinct (first_of marks r ++ added_to marks r))
    (front : IsFront f (first_of marks r ++ added_to marks r)) (same : (u : ℕ) → (u ≡ f → ⊥) → before_of other u ≡ before_of marks u) where
  first_stays : first_of other r ≡ first_of marks r
  first_stays =
      chain_stays marks other r.base r.base_last f
      (λ h.
      left_begins f r.first (first_of marks r) (added_to marks r) is.first
      (front (is_in-append (first_of marks r) (added_to marks r) f ∙ or_left (is_in (first_of marks r) f) (is_in (added_to marks r) f) h)))
      (distinct_left (first_of marks r) (added_to marks r) distinct) same

  added_stays : added_to other r ≡ added_to marks r
  added_stays =
      chain_same marks other r.added r.last
      (λ u h. same u
      (λ eq.
      let k : is_in (added_to marks r) f ≡ true = ap (is_in (added_to marks r)) (sym eq) ∙ h in
      distinct_apart (first_of marks r) (added_to marks r) distinct f
      (begins_in f (first_of marks r)
      (left_begins f r.first (first_of marks r) (added_to marks r) is.first
      (front (is_in-append (first_of marks r) (added_to marks r) f ∙ or_right (is_in (first_of marks r) f) (is_in (added_to marks r) f) k))))
      k))

  pub node_stays : ((u : ℕ) → under_of other u ≡ under_of marks u) → node_of other r ≡ node_of marks r
  node_stays under = node_read marks other r first_stays added_stays (λ u h. under u)

  pub list_stays : IsListed other r
  list_stays = record {
    first = subst (BeginsWith r.first) (sym first_stays) is.first;
    whole =
        chain_stays marks other (r.base + r.added) r.last f (subst (IsFront f) (sym is.whole) front) (subst AreDistinct (sym is.whole) distinct) same
        ∙ (is.whole ∙ (ap (λ l. l ++ added_to marks r) (sym first_stays) ∙ ap (λ l. first_of other r ++ l) (sym added_stays)));
  }

-- the first vertex of an outer node
module _ (p : Problem) (regions : List Region) (marks : List (Option Mark)) (kept : IsKept p regions marks) (f : ℕ) (outer : Node)
    (among : IsAmong outer (nodes_of marks regions)) (out_of : is_outer (nodes_of marks regions) outer.name ≡ true)
    (begins : BeginsWith f outer.top.vertices) where
  abbrev nodes : List Node
  nodes = nodes_of marks regions

  -- a node that joins others begins as the first of them
  first_child : (q : Node) → IsAmong q nodes → BeginsWith f q.top.vertices → BeginsFirst nodes f q.children
  first_child q a b =
      let (r, in_regions, e) = among_map (node_of marks) regions q a in
      let is = All_among (IsListed marks) regions kept.listed r in_regions in
      let same : r.first ≡ f =
      same_first r.first f (node_of marks r).top.vertices (begins_left r.first (first_of marks r) (added_to marks r) is.first)
      (subst (λ n. BeginsWith f n.top.vertices) (sym e) b) in
      subst (λ n. BeginsFirst nodes f n.children) e
      (subst (λ v. BeginsFirst nodes v r.children.items) same (All_among (λ s. BeginsFirst nodes s.first s.children.items) regions kept.begins r in_regions))

  -- a child of a node that begins with it
  by_child : (cs : List ℕ) → AreAllApart (map (top_at nodes) cs) → BeginsFirst nodes f cs → (m : Node) → IsAmong m nodes
      → is_in cs m.name ≡ true → is_in m.top.vertices f ≡ true → BeginsWith f m.top.vertices
  by_child [] apart first m a child holds = absurd (false≢true child)
  by_child (c ∷ cs) apart first m a child holds = pick (cases_eq c m.name)
    where
      top : top_at nodes m.name ≡ m.top.vertices
      top = top_among nodes kept.nest.dual.names m a

      pick : (c ≡ m.name) ⊎ (c ≡ m.name → ⊥) → BeginsWith f m.top.vertices
      pick (inl e) = subst (BeginsWith f) (ap (top_at nodes) e ∙ top) first
      pick (inr other) =
          absurd (both_ways (is_in (top_at nodes m.name) f)
          (apart_of_two (top_at nodes) (c ∷ cs) apart c m.name (is_in-head c cs) child other f (begins_in f (top_at nodes c) first))
          (ap (λ s. is_in s f) top ∙ holds))

  front_from : (ns : List Node) → ((m : Node) → IsAmong m ns → IsAmong m nodes)
      → ((m q : Node) → IsAmong m ns → IsAmong q nodes → is_in q.children m.name ≡ true → IsAmong q ns)
      → AreJoinedLater ns → (m : Node) → IsAmong m ns → IsFront f m.top.vertices
  front_from [] some later joined m a = absurd a
  front_from (n ∷ ns) some later joined m a =
      step a
      (front_from ns (λ x b. some x (inr b))
      (λ x q b c child. after n ns joined x q (inr b) child (later x q (inr b) c child)) joined.2)
    where
      up : ((x : Node) → IsAmong x ns → IsFront f x.top.vertices)
          → (is_outer nodes n.name ≡ true) ⊎ ((q : Node) × IsAmong q nodes × (is_in q.children n.name ≡ true)) → IsFront f n.top.vertices
      up earlier (inl out) holds = pick (cases_eq outer.name n.name)
        where
          pick : (outer.name ≡ n.name) ⊎ (outer.name ≡ n.name → ⊥) → BeginsWith f n.top.vertices
          pick (inl e) =
              subst (λ x. BeginsWith f x.top.vertices) (same_among nodes kept.nest.dual.names outer n among (some n (inl refl)) e) begins
          pick (inr other) =
              absurd (both_ways (is_in n.top.vertices f)
              (apart_among nodes kept.nest.dual.names kept.nest.dual.apart outer n among (some n (inl refl)) other out_of out f
              (begins_in f outer.top.vertices begins))
              holds)
      up earlier (inr (q, b, child)) holds =
          let wider : is_in q.top.vertices f ≡ true = child_within nodes (grove_of p nodes kept.nest) n q (some n (inl refl)) b child f holds in
          by_child q.children (All_among (λ x. AreAllApart (child_sets nodes x)) nodes kept.nest.forest.parted q b)
          (first_child q b (earlier q (after n ns joined n q (inl refl) child (later n q (inl refl) b child)) wider)) n (some n (inl refl)) child holds

      step : IsAmong m (n ∷ ns) → ((x : Node) → IsAmong x ns → IsFront f x.top.vertices) → IsFront f m.top.vertices
      step (inr b) earlier = earlier m b
      step (inl e) earlier = subst (λ x. IsFront f x.top.vertices) e (up earlier (outer_or_not nodes n.name))

  pub fronts : (m : Node) → IsAmong m nodes → IsFront f m.top.vertices
  fronts = front_from nodes (λ m a. a) (λ m q a b child. b) kept.nest.forest.joined
