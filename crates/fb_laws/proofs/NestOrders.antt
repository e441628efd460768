-- Of two nodes of a nest the one lies within a child of the other, or they lie apart.
use Rattle.std.proofs.Common.{ℕ, ◌≡◌, ◌==◌, ◌⊎◌, inl, inr, true, false, List, [], ◌∷◌, ◌++◌, map, All, refl, sym, ap, ◌∙◌, subst}
use Rattle.std.proofs.Math.Bool.{or-false}
use Rattle.std.specs.List.{concat}
use Rattle.std.proofs.lemmas.Bool.{both_ways, cases_Bool, eq-eqb, false≢true, false_from_ne_true}
use Rattle.std.proofs.lemmas.List.{append-nil, append_assoc}
use Rattle.std.proofs.lemmas.List.Elements.{All-nil, All-cons, All-head}
use Rattle.fb_graph.specs.Parity.{is_in}
use Rattle.fb_graph.specs.Certificate.{AreDistinct}
use Rattle.fb_graph.specs.Dual.{Node, AreApart, AreGrown, AreOuterApart, IsWithin, layers_of, is_empty, is_live, is_outer, top_at}
use Rattle.fb_graph.proofs.Members.{distinct_left}
use Rattle.fb_graph.proofs.Nodes.{All-below, All-top}
use Rattle.fb_graph.proofs.Sets.{All-from_is_in, is_in-All}
use Rattle.fb_graph.specs.Ends.{AreAllApart}
use Rattle.fb_graph.specs.Nests.{IsFormed, IsFilled, AreJoinedLater, child_sets, first_set}
use Rattle.fb_graph.proofs.Among.{IsAmong, All_among, among_All, among_either, among_left, among_live, among_outer, among_pairs, among_right, apart_among, apart_of_two, in_concat, live_among, name_among, outer_among, top_among, top_left}
use Rattle.fb_graph.proofs.EndSums.{apart_sym}
use Rattle.fb_graph.proofs.Forests.{IsGrove, IsUnder, child_within, first_within, under_outer}
use Rattle.fb_laws.proofs.MergedParts.{distinct_across}
use Rattle.fb_graph.proofs.AppendedNodes.{names_merged}
use Rattle.fb_graph.proofs.NestParts.{map_agree}

-- a forest whose outer nodes lie apart, without what its values keep
pub record IsStand (nodes : List Node) : Type 0 where
  pub grove : IsGrove nodes
  pub apart : AreOuterApart nodes

-- what comes before the last node doesn't join it
last_free : (xs : List Node) (q : Node) → AreJoinedLater (xs ++ q ∷ [])
    → AreJoinedLater xs × All (λ m. is_in m.children q.name ≡ false) xs × (is_in q.children q.name ≡ false)
last_free [] q joined = (
  tt,
  All-nil (λ m. is_in m.children q.name ≡ false),
  All-head (λ m. is_in q.children m.name ≡ false) q []
      joined.0,
)
last_free (n ∷ ns) q joined =
    let (before, none, own) = last_free ns q joined.2 in (
      (
        All-below (λ m. is_in n.children m.name ≡ false) (n ∷ ns) q joined.0,
        All-below (λ m. AreApart n.children m.children) ns q joined.1,
        before,
      ),
      All-cons (λ m. is_in m.children q.name ≡ false) n ns
          (All-top (λ m. is_in n.children m.name ≡ false) (n ∷ ns) q joined.0) none,
      own,
    )

-- a node that joins another holds it in its first layer
pub filled_by : (nodes : List Node) (q : Node) (c : ℕ) → IsFilled nodes q → is_in q.children c ≡ true → (v : ℕ)
    → is_in (first_set q) v ≡ is_in (concat (child_sets nodes q)) v
filled_by nodes q c filled child = step q.children refl child
  where
    step : (cs : List ℕ) → q.children ≡ cs → is_in cs c ≡ true → (v : ℕ)
        → is_in (first_set q) v ≡ is_in (concat (child_sets nodes q)) v
    step [] e h v = absurd (false≢true h)
    step (x ∷ xs) e h v = filled (ap is_empty e) v

-- the nodes are one, the one lies within a child of the other or holds all its children, or the two lie apart
abbrev pub Relates : List Node → Node → Node → Type 0
Relates nodes m n =
    (m ≡ n) ⊎ (((x : Node) × IsAmong x nodes × (is_in n.children x.name ≡ true) × IsWithin m.top.vertices
    x.top.vertices)
    ⊎ (IsWithin (first_set n) (first_set m) ⊎ AreApart m.top.vertices (first_set n)))

module _ (xs : List Node) (q : Node) (stand : IsStand (xs ++ q ∷ [])) where
  free : AreJoinedLater xs × All (λ m. is_in m.children q.name ≡ false) xs × (is_in q.children q.name ≡ false)
  free = last_free xs q stand.grove.forest.joined

  in_all : (m : Node) → IsAmong m xs → IsAmong m (xs ++ q ∷ [])
  in_all m a = among_left xs (q ∷ []) m a

  q_in : IsAmong q (xs ++ q ∷ [])
  q_in = among_right xs (q ∷ []) q (inl refl)

  names : AreDistinct (map (λ n. n.name) xs)
  names =
      distinct_left (map (λ n. n.name) xs) (q.name ∷ [])
      (subst AreDistinct (names_merged xs (q ∷ [])) stand.grove.names)

  child_live : (m : Node) → IsAmong m xs → (c : ℕ) → is_in m.children c ≡ true → is_live xs c ≡ true
  child_live m a c child =
      let (x, b, e) =
      live_among (xs ++ q ∷ []) c
      (is_in-All (λ y. is_live (xs ++ q ∷ []) y ≡ true) m.children
      (All_among (λ y. All (λ z. is_live (xs ++ q ∷ []) z ≡ true) y.children) (xs ++ q ∷ []) stand.grove.forest.live m
      (in_all m a)) c child) in
      step x e (among_either xs (q ∷ []) x b)
    where
      step : (x : Node) → x.name ≡ c → IsAmong x xs ⊎ IsAmong x (q ∷ []) → is_live xs c ≡ true
      step x e (inl b) = among_live xs x c b e
      step x e (inr (inl same)) =
          absurd
          (both_ways (is_in m.children q.name) (All_among (λ y. is_in y.children q.name ≡ false) xs free.1 m a)
          (ap (is_in m.children) (ap (λ y. y.name) same ∙ e) ∙ child))
      step x e (inr (inr b)) = absurd b

  live_children : (m : Node) → IsAmong m xs → All (λ c. is_live xs c ≡ true) m.children
  live_children m a = All-from_is_in (λ c. is_live xs c ≡ true) m.children (child_live m a)

  same_sets : (m : Node) → IsAmong m xs → child_sets (xs ++ q ∷ []) m ≡ child_sets xs m
  same_sets m a =
      map_agree (top_at (xs ++ q ∷ [])) (top_at xs) m.children
      (λ i d less. top_left xs (q ∷ []) _ (live_children m a i d less))

  before_grove : IsGrove xs
  before_grove = record {
    names = names;
    grown = All-below (λ m. AreGrown (layers_of m)) xs q stand.grove.grown;
    forest = record {
      formed = All-below IsFormed xs q stand.grove.forest.formed;
      live = among_All (λ m. All (λ c. is_live xs c ≡ true) m.children) xs live_children;
      joined = free.0;
      filled = among_All (IsFilled xs) xs
          (λ m a some v.
          All_among (IsFilled (xs ++ q ∷ [])) (xs ++ q ∷ []) stand.grove.forest.filled m (in_all m a) some v
          ∙ ap (λ l. is_in (concat l) v) (same_sets m a));
      parted = among_All (λ m. AreAllApart (child_sets xs m)) xs
          (λ m a.
          subst AreAllApart (same_sets m a)
          (All_among (λ y. AreAllApart (child_sets (xs ++ q ∷ []) y)) (xs ++ q ∷ []) stand.grove.forest.parted m
          (in_all m a)));
    };
  }

  -- what was outer before the last node still is, or is joined by it
  outer_after : (m : Node) → is_outer xs m.name ≡ true
      → (is_outer (xs ++ q ∷ []) m.name ≡ true) ⊎ (is_in q.children m.name ≡ true)
  outer_after m outer = step (cases_Bool (is_in q.children m.name))
    where
      by : is_in q.children m.name ≡ false → (y : Node) → IsAmong y xs ⊎ IsAmong y (q ∷ [])
          → is_in y.children m.name ≡ false
      by none y (inl b) = outer_among xs m.name outer y b
      by none y (inr (inl e)) = ap (λ z. is_in z.children m.name) (sym e) ∙ none
      by none y (inr (inr b)) = absurd b

      step : (is_in q.children m.name ≡ true) ⊎ (is_in q.children m.name ≡ false)
          → (is_outer (xs ++ q ∷ []) m.name ≡ true) ⊎ (is_in q.children m.name ≡ true)
      step (inl h) = inr h
      step (inr h) = inl (among_outer (xs ++ q ∷ []) m.name (λ y b. by h y (among_either xs (q ∷ []) y b)))

  q_outer : is_outer (xs ++ q ∷ []) q.name ≡ true
  q_outer = among_outer (xs ++ q ∷ []) q.name (λ y b. by y (among_either xs (q ∷ []) y b))
    where
      by : (y : Node) → IsAmong y xs ⊎ IsAmong y (q ∷ []) → is_in y.children q.name ≡ false
      by y (inl b) = All_among (λ z. is_in z.children q.name ≡ false) xs free.1 y b
      by y (inr (inl e)) = ap (λ z. is_in z.children q.name) (sym e) ∙ free.2
      by y (inr (inr b)) = absurd b

  not_q : (m : Node) → IsAmong m xs → m.name ≡ q.name → ⊥
  not_q m a e =
      both_ways (is_in (q.name ∷ []) m.name)
      (distinct_across (map (λ n. n.name) xs) (q.name ∷ []) m.name
      (subst AreDistinct (names_merged xs (q ∷ [])) stand.grove.names) (name_among xs m a))
      (or-false (q.name == m.name) ∙ eq-eqb q.name m.name (sym e))

  beside_q : (m : Node) → IsAmong m xs → is_outer (xs ++ q ∷ []) m.name ≡ true
      → AreApart m.top.vertices q.top.vertices
  beside_q m a outer =
      apart_among (xs ++ q ∷ []) stand.grove.names stand.apart m q (in_all m a) q_in (not_q m a) outer q_outer

  child_of_q : (m : Node) → IsAmong m xs → is_in q.children m.name ≡ true → IsWithin m.top.vertices q.top.vertices
  child_of_q m a child = child_within (xs ++ q ∷ []) stand.grove m q (in_all m a) q_in child

  apart_of_child : (m n : Node) → IsAmong m xs → IsAmong n xs → is_outer (xs ++ q ∷ []) m.name ≡ true
      → is_in q.children n.name ≡ true → AreApart m.top.vertices n.top.vertices
  apart_of_child m n a b outer child v within =
      false_from_ne_true (is_in n.top.vertices v)
      (λ held. both_ways (is_in q.top.vertices v) (beside_q m a outer v within) (child_of_q n b child v held))

  pub before : IsStand xs
  before = record {
    grove = before_grove;
    apart =
        among_pairs
        (λ m n. is_outer xs m.name ≡ true → is_outer xs n.name ≡ true → AreApart m.top.vertices n.top.vertices) xs
        names
        (λ m n a b other out_m out_n. by m n a b other (outer_after m out_m) (outer_after n out_n));
  }
    where
      by : (m n : Node) → IsAmong m xs → IsAmong n xs → (m.name ≡ n.name → ⊥)
          → (is_outer (xs ++ q ∷ []) m.name ≡ true) ⊎ (is_in q.children m.name ≡ true)
          → (is_outer (xs ++ q ∷ []) n.name ≡ true) ⊎ (is_in q.children n.name ≡ true)
          → AreApart m.top.vertices n.top.vertices
      by m n a b other (inl h) (inl k) =
          apart_among (xs ++ q ∷ []) stand.grove.names stand.apart m n (in_all m a) (in_all n b) other h k
      by m n a b other (inl h) (inr k) = apart_of_child m n a b h k
      by m n a b other (inr h) (inl k) = apart_sym n.top.vertices m.top.vertices (apart_of_child n m b a k h)
      by m n a b other (inr h) (inr k) =
          subst (λ s. AreApart s n.top.vertices) (top_among (xs ++ q ∷ []) stand.grove.names m (in_all m a))
          (subst (AreApart (top_at (xs ++ q ∷ []) m.name)) (top_among (xs ++ q ∷ []) stand.grove.names n (in_all n b))
          (apart_of_two (top_at (xs ++ q ∷ [])) q.children
          (All_among (λ y. AreAllApart (child_sets (xs ++ q ∷ []) y)) (xs ++ q ∷ []) stand.grove.forest.parted q q_in)
          m.name n.name h k other))

  under : (m : Node) → IsAmong m xs → IsUnder xs m.top.vertices
  under m a = under_outer xs before_grove m a

  first_in : (m : Node) → IsAmong m (xs ++ q ∷ []) → IsWithin (first_set m) m.top.vertices
  first_in m a v held = first_within m v
      (All_among (λ y. AreGrown (layers_of y)) (xs ++ q ∷ []) stand.grove.grown m a) held

  pub old_to_last : (m : Node) → IsAmong m xs → Relates (xs ++ q ∷ []) m q
  old_to_last m a = step (under m a) (outer_after (under m a).node (under m a).outer)
    where
      step : (is : IsUnder xs m.top.vertices)
          → (is_outer (xs ++ q ∷ []) is.node.name ≡ true) ⊎ (is_in q.children is.node.name ≡ true)
          → Relates (xs ++ q ∷ []) m q
      step is (inr child) = inr (inl (is.node, in_all is.node is.among, child, is.within))
      step is (inl outer) =
          inr (inr (inr (λ v within.
          false_from_ne_true (is_in (first_set q) v)
          (λ held.
          both_ways (is_in q.top.vertices v) (beside_q is.node is.among outer v (is.within v within))
          (first_in q q_in v held)))))

  pub last_to_old : (n : Node) → IsAmong n xs → Relates (xs ++ q ∷ []) q n
  last_to_old n b = step (under n b) (outer_after (under n b).node (under n b).outer)
    where
      step : (is : IsUnder xs n.top.vertices)
          → (is_outer (xs ++ q ∷ []) is.node.name ≡ true) ⊎ (is_in q.children is.node.name ≡ true)
          → Relates (xs ++ q ∷ []) q n
      step is (inr child) =
          inr (inr (inl (λ v held.
          filled_by (xs ++ q ∷ []) q is.node.name
          (All_among (IsFilled (xs ++ q ∷ [])) (xs ++ q ∷ []) stand.grove.forest.filled q q_in) child v
          ∙ in_concat (top_at (xs ++ q ∷ [])) q.children is.node.name v child
          (ap (λ s. is_in s v) (top_among (xs ++ q ∷ []) stand.grove.names is.node (in_all is.node is.among))
          ∙ is.within v (first_in n (in_all n b) v held)))))
      step is (inl outer) =
          inr (inr (inr (λ v within.
          false_from_ne_true (is_in (first_set n) v)
          (λ held.
          both_ways (is_in q.top.vertices v)
          (beside_q is.node is.among outer v (is.within v (first_in n (in_all n b) v held))) within))))

by_pushes : (P : List Node → Type 0) → ((xs : List Node) (q : Node) → P xs → P (xs ++ q ∷ []))
    → (xs ns : List Node) → P xs
    → P (xs ++ ns)
by_pushes P step xs [] p = subst P (sym (append-nil xs)) p
by_pushes P step xs (n ∷ ns) p =
    subst P (append_assoc xs (n ∷ []) ns) (by_pushes P step (xs ++ n ∷ []) ns (step xs n p))

abbrev AreRelated : List Node → Type 0
AreRelated nodes = IsStand nodes → (m n : Node) → IsAmong m nodes → IsAmong n nodes → Relates nodes m n

related_push : (xs : List Node) (q : Node) → AreRelated xs → AreRelated (xs ++ q ∷ [])
related_push xs q earlier stand m n a b = step (among_either xs (q ∷ []) m a) (among_either xs (q ∷ []) n b)
  where
    wider : Relates xs m n → Relates (xs ++ q ∷ []) m n
    wider (inl e) = inl e
    wider (inr (inl (x, c, child, within))) = inr (inl (x, among_left xs (q ∷ []) x c, child, within))
    wider (inr (inr h)) = inr (inr h)

    step : IsAmong m xs ⊎ IsAmong m (q ∷ []) → IsAmong n xs ⊎ IsAmong n (q ∷ []) → Relates (xs ++ q ∷ []) m n
    step (inl c) (inl d) = wider (earlier (before xs q stand) m n c d)
    step (inl c) (inr (inl e)) = subst (Relates (xs ++ q ∷ []) m) e (old_to_last xs q stand m c)
    step (inr (inl e)) (inl d) = subst (λ y. Relates (xs ++ q ∷ []) y n) e (last_to_old xs q stand n d)
    step (inr (inl e)) (inr (inl f)) = inl (sym e ∙ f)
    step (inl c) (inr (inr d)) = absurd d
    step (inr (inl e)) (inr (inr d)) = absurd d
    step (inr (inr c)) d = absurd c

pub related : (nodes : List Node) → AreRelated nodes
related nodes = by_pushes AreRelated related_push [] nodes (λ stand m n a b. absurd a)
