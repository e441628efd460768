-- Nodes under other names are a nest where they were one.
use Rattle.std.proofs.Common.{ℕ, ◌≡◌, ◌%◌, ◌&&◌, ◌||◌, ◌⊎◌, inl, inr, not, cond, Bool, true, false, List, [], ◌∷◌, ◌++◌, map, All, Some, refl, sym, ap, ◌∙◌, subst, arith, if◌then◌else◌}
use Rattle.std.specs.List.{concat, find, list_any}
use Rattle.std.specs.Option.{option_map}
use Rattle.std.proofs.lemmas.Bool.{both_ways, false_from_ne_true, cases_Bool}
use Rattle.std.proofs.lemmas.List.{length-map}
use Rattle.std.proofs.lemmas.List.Elements.{All-map, All-weaker}
use Rattle.fb_graph.specs.Parity.{is_in}
use Rattle.fb_graph.specs.Problem.{Problem}
use Rattle.fb_graph.specs.Certificate.{AreDistinct}
use Rattle.fb_graph.specs.Dual.{Node, AreApart, AreGrown, AreOuterApart, all_cuts, cover_of, defects_of, first_vertices, height_of, is_empty, is_live, is_outer, layers_of, leaves, top_at}
use Rattle.fb_graph.specs.Ends.{AreAllApart}
use Rattle.fb_graph.specs.Nests.{IsNest, IsForest, IsFilled, IsFormed, AreJoinedLater, HasSources, child_sets}
use Rattle.fb_graph.specs.SourceWalks.{HasWalks}
use Rattle.fb_graph.specs.RenamedNodes.{AreRenamedApart, CoverRenamed, NestRenamed, OuterRenamed, WalksRenamed, renamed_node, renamed_nodes}
use Rattle.fb_graph.proofs.Among.{IsAmong, All_among, among_All, among_live, among_map, among_pairs, apart_among, live_among, map_among, top_among, own_live}
use Rattle.fb_graph.proofs.InsertedCuts.{AreFit, sources_same}
use Rattle.fb_graph.proofs.NestParts.{fit_of, nest_of, names_live}
use Rattle.fb_graph.proofs.Sets.{is_in-head, is_in-tail}
use Rattle.fb_graph.proofs.OddLabels.{member_of_map}
use Rattle.fb_graph.proofs.Forests.{child_live}
use Rattle.fb_graph.proofs.Members.{is_in-map}

-- members of a list under other names
-- a name is in the list under its new name only if it was before
pub same_renamed : (f : ℕ → ℕ) (xs : List ℕ) (x : ℕ) → ((y : ℕ) → is_in xs y ≡ true → f y ≡ f x → y ≡ x)
    → is_in (map f xs) (f x) ≡ is_in xs x
same_renamed f xs x once = step (cases_Bool (is_in xs x))
  where
    step : (is_in xs x ≡ true) ⊎ (is_in xs x ≡ false) → is_in (map f xs) (f x) ≡ is_in xs x
    step (inl within) = is_in-map f xs x within ∙ sym within
    step (inr out) =
        false_from_ne_true (is_in (map f xs) (f x))
        (λ h.
        let (y, among, e) = member_of_map f xs (f x) h in
        both_ways (is_in xs x) out (ap (is_in xs) (sym (once y among e)) ∙ among))
        ∙ sym out

pub distinct_renamed : (f : ℕ → ℕ) (xs : List ℕ) → ((x y : ℕ) → is_in xs x ≡ true → is_in xs y ≡ true → f x ≡ f y → x ≡ y)
    → AreDistinct xs → AreDistinct (map f xs)
distinct_renamed f [] once distinct = tt
distinct_renamed f (x ∷ xs) once distinct = (
  same_renamed f xs x (λ y among e. once y x (is_in-tail x xs y among) (is_in-head x xs) e) ∙ distinct.0,
  distinct_renamed f xs (λ y z a b e. once y z (is_in-tail x xs y a) (is_in-tail x xs z b) e) distinct.1,
)

pub cuts_renamed : (f : ℕ → ℕ) (ns : List Node) → all_cuts (renamed_nodes f ns) ≡ all_cuts ns
cuts_renamed f [] = refl
cuts_renamed f (n ∷ ns) = ap (λ l. layers_of n ++ l) (cuts_renamed f ns)

defects_renamed : (f : ℕ → ℕ) (n : Node) → defects_of (renamed_node f n) ≡ defects_of n
defects_renamed f n = by n.children
  where
    by : (cs : List ℕ) → (if is_empty (map f cs) then first_vertices (layers_of n) else []) ≡ (if is_empty cs then first_vertices (layers_of n) else [])
    by [] = refl
    by (c ∷ cs) = refl

pub leaves_renamed : (f : ℕ → ℕ) (ns : List Node) → leaves (renamed_nodes f ns) ≡ leaves ns
leaves_renamed f [] = refl
leaves_renamed f (n ∷ ns) =
    ap (λ l. l ++ leaves (renamed_nodes f ns)) (defects_renamed f n) ∙ ap (λ l. defects_of n ++ l) (leaves_renamed f ns)

names_renamed : (f : ℕ → ℕ) (ns : List Node) → map (λ n. n.name) (renamed_nodes f ns) ≡ map f (map (λ n. n.name) ns)
names_renamed f [] = refl
names_renamed f (n ∷ ns) = ap (λ l. f n.name ∷ l) (names_renamed f ns)

find_renamed : (f : ℕ → ℕ) (test old : Node → Bool) (ns : List Node) → ((n : Node) → IsAmong n ns → test (renamed_node f n) ≡ old n)
    → option_map (λ n. n.name) (find test (renamed_nodes f ns)) ≡ option_map f (option_map (λ n. n.name) (find old ns))
find_renamed f test old [] same = refl
find_renamed f test old (n ∷ ns) same =
    ap (λ b. option_map (λ m. m.name) (cond b (Some (renamed_node f n)) (find test (renamed_nodes f ns)))) (same n (inl refl))
    ∙ step (old n) (find_renamed f test old ns (λ m a. same m (inr a)))
  where
    step : (b : Bool)
        → option_map (λ m. m.name) (find test (renamed_nodes f ns)) ≡ option_map f (option_map (λ m. m.name) (find old ns))
        → option_map (λ m. m.name) (cond b (Some (renamed_node f n)) (find test (renamed_nodes f ns)))
        ≡ option_map f (option_map (λ m. m.name) (cond b (Some n) (find old ns)))
    step true rest = refl
    step false rest = rest

pub is_empty-map : (f : ℕ → ℕ) (cs : List ℕ) → is_empty (map f cs) ≡ is_empty cs
is_empty-map f [] = refl
is_empty-map f (c ∷ cs) = refl

module _ (p : Problem) (nodes : List Node) (f : ℕ → ℕ) (once : AreRenamedApart f nodes) (nest : IsNest p nodes) where
  -- a live name is a child's new name where it was a child's
  child_same : (n : Node) → IsAmong n nodes → (c : ℕ) → is_live nodes c ≡ true → is_in (map f n.children) (f c) ≡ is_in n.children c
  child_same n a c live = same_renamed f n.children c (λ y among e. once y c (child_live nodes nest.forest n a y among) live e)

  pub outer_same : (c : ℕ) → is_live nodes c ≡ true → is_outer (renamed_nodes f nodes) (f c) ≡ is_outer nodes c
  outer_same c live = ap not (by nodes (λ n a. child_same n a c live))
    where
      by : (ns : List Node) → ((n : Node) → IsAmong n ns → is_in (map f n.children) (f c) ≡ is_in n.children c)
          → list_any (λ n. is_in n.children (f c)) (renamed_nodes f ns) ≡ list_any (λ n. is_in n.children c) ns
      by [] same = refl
      by (n ∷ ns) same =
          ap (λ b. b || list_any (λ m. is_in m.children (f c)) (renamed_nodes f ns)) (same n (inl refl))
          ∙ ap (λ b. is_in n.children c || b) (by ns (λ m a. same m (inr a)))

  pub still_live : (c : ℕ) → is_live nodes c ≡ true → is_live (renamed_nodes f nodes) (f c) ≡ true
  still_live c live =
      let (m, a, e) = live_among nodes c live in
      among_live (renamed_nodes f nodes) (renamed_node f m) (f c) (map_among (renamed_node f) nodes m a) (ap f e)

  pub cover_same : (v : ℕ) → cover_of (renamed_nodes f nodes) v ≡ option_map f (cover_of nodes v)
  cover_same v =
      find_renamed f (λ n. is_outer (renamed_nodes f nodes) n.name && is_in n.top.vertices v)
      (λ n. is_outer nodes n.name && is_in n.top.vertices v) nodes
      (λ n a. ap (λ b. b && is_in n.top.vertices v) (outer_same n.name (own_live nodes n a)))

  names : AreDistinct (map (λ n. n.name) (renamed_nodes f nodes))
  names =
      subst AreDistinct (sym (names_renamed f nodes))
      (distinct_renamed f (map (λ n. n.name) nodes)
      (λ x y a b e. once x y (sym (names_live nodes x) ∙ a) (sym (names_live nodes y) ∙ b) e) nest.dual.names)

  top_same : (c : ℕ) → is_live nodes c ≡ true → top_at (renamed_nodes f nodes) (f c) ≡ top_at nodes c
  top_same c live =
      let (m, a, e) = live_among nodes c live in
      ap (λ x. top_at (renamed_nodes f nodes) (f x)) (sym e)
      ∙ (top_among (renamed_nodes f nodes) names (renamed_node f m) (map_among (renamed_node f) nodes m a)
      ∙ (sym (top_among nodes nest.dual.names m a) ∙ ap (top_at nodes) e))

  pub same_sets : (n : Node) → IsAmong n nodes → child_sets (renamed_nodes f nodes) (renamed_node f n) ≡ child_sets nodes n
  same_sets n a = by n.children (λ c among. top_same c (child_live nodes nest.forest n a c among))
    where
      by : (cs : List ℕ) → ((c : ℕ) → is_in cs c ≡ true → top_at (renamed_nodes f nodes) (f c) ≡ top_at nodes c)
          → map (top_at (renamed_nodes f nodes)) (map f cs) ≡ map (top_at nodes) cs
      by [] same = refl
      by (c ∷ cs) same =
          ap (λ s. s ∷ map (top_at (renamed_nodes f nodes)) (map f cs)) (same c (is_in-head c cs))
          ∙ ap (λ l. top_at nodes c ∷ l) (by cs (λ x among. same x (is_in-tail c cs x among)))

  formed : (n : Node) → IsAmong n nodes → IsFormed n → IsFormed (renamed_node f n)
  formed n a (inl childless) = inl (record { none = ap (map f) childless.none; defect = childless.defect })
  formed n a (inr many) =
      inr (record {
        three = omega (arith, many.three, length-map n.children f);
        odd = ap (λ k. k % 2) (length-map n.children f) ∙ many.odd;
        distinct = distinct_renamed f n.children (λ x y b c e. once x y (child_live nodes nest.forest n a x b) (child_live nodes nest.forest n a y c) e) many.distinct;
      })

  joined_later : (ns : List Node) → ((n : Node) → IsAmong n ns → IsAmong n nodes) → AreJoinedLater ns → AreJoinedLater (renamed_nodes f ns)
  joined_later [] some joined = tt
  joined_later (n ∷ ns) some joined = (
    All-map (λ m. is_in (map f n.children) m.name ≡ false) (renamed_node f) (n ∷ ns)
        (among_All (λ m. is_in (map f n.children) (f m.name) ≡ false) (n ∷ ns)
        (λ m a.
        child_same n (some n (inl refl)) m.name (own_live nodes m (some m a))
        ∙ All_among (λ x. is_in n.children x.name ≡ false) (n ∷ ns) joined.0 m a)),
    All-map (λ m. AreApart (map f n.children) m.children) (renamed_node f) ns
        (among_All (λ m. AreApart (map f n.children) (map f m.children)) ns
        (λ m a z within.
        let (x, among, e) = member_of_map f n.children z within in
        ap (is_in (map f m.children)) (sym e)
        ∙ (child_same m (some m (inr a)) x (child_live nodes nest.forest n (some n (inl refl)) x among)
        ∙ All_among (λ y. AreApart n.children y.children) ns joined.1 m a x among))),
    joined_later ns (λ m a. some m (inr a)) joined.2,
  )

  forest : IsForest (renamed_nodes f nodes)
  forest = record {
    formed = All-map IsFormed (renamed_node f) nodes
        (among_All (λ n. IsFormed (renamed_node f n)) nodes (λ n a. formed n a (All_among IsFormed nodes nest.forest.formed n a)));
    live = All-map (λ n. All (λ c. is_live (renamed_nodes f nodes) c ≡ true) n.children) (renamed_node f) nodes
        (among_All (λ n. All (λ c. is_live (renamed_nodes f nodes) c ≡ true) (map f n.children)) nodes
        (λ n a.
        All-map (λ c. is_live (renamed_nodes f nodes) c ≡ true) f n.children
        (All-weaker (λ c. is_live nodes c ≡ true) (λ c. is_live (renamed_nodes f nodes) (f c) ≡ true) still_live n.children
        (All_among (λ m. All (λ c. is_live nodes c ≡ true) m.children) nodes nest.forest.live n a))));
    joined = joined_later nodes (λ n a. a) nest.forest.joined;
    filled = All-map (IsFilled (renamed_nodes f nodes)) (renamed_node f) nodes
        (among_All (λ n. IsFilled (renamed_nodes f nodes) (renamed_node f n)) nodes
        (λ n a some v.
        All_among (IsFilled nodes) nodes nest.forest.filled n a (sym (is_empty-map f n.children) ∙ some) v
        ∙ ap (λ l. is_in (concat l) v) (sym (same_sets n a))));
    parted = All-map (λ n. AreAllApart (child_sets (renamed_nodes f nodes) n)) (renamed_node f) nodes
        (among_All (λ n. AreAllApart (child_sets (renamed_nodes f nodes) (renamed_node f n))) nodes
        (λ n a. subst AreAllApart (sym (same_sets n a)) (All_among (λ m. AreAllApart (child_sets nodes m)) nodes nest.forest.parted n a)));
  }

  apart : AreOuterApart (renamed_nodes f nodes)
  apart =
      among_pairs
      (λ m n. is_outer (renamed_nodes f nodes) m.name ≡ true → is_outer (renamed_nodes f nodes) n.name ≡ true
      → AreApart m.top.vertices n.top.vertices)
      (renamed_nodes f nodes) names
      (λ x y a b other out_x out_y.
      let (m, c, e) = among_map (renamed_node f) nodes x a in
      let (n, d, g) = among_map (renamed_node f) nodes y b in
      subst (λ z. AreApart z.top.vertices y.top.vertices) e
      (subst (λ z. AreApart m.top.vertices z.top.vertices) g
      (apart_among nodes nest.dual.names nest.dual.apart m n c d
      (λ same. other (ap (λ z. z.name) (sym e) ∙ (ap f same ∙ ap (λ z. z.name) g)))
      (outer m x c e out_x) (outer n y d g out_y))))
    where
      outer : (m x : Node) → IsAmong m nodes → renamed_node f m ≡ x → is_outer (renamed_nodes f nodes) x.name ≡ true → is_outer nodes m.name ≡ true
      outer m x a e out = sym (outer_same m.name (own_live nodes m a)) ∙ (ap (λ z. is_outer (renamed_nodes f nodes) z.name) e ∙ out)

  nest_kept : IsNest p (renamed_nodes f nodes)
  nest_kept =
      nest_of p (renamed_nodes f nodes)
      (subst (λ l. AreFit p l (all_cuts (renamed_nodes f nodes))) (sym (leaves_renamed f nodes))
      (subst (AreFit p (leaves nodes)) (sym (cuts_renamed f nodes)) (fit_of p nodes nest)))
      (record {
        names = names;
        grown = All-map (λ n. AreGrown (layers_of n)) (renamed_node f) nodes nest.dual.grown;
        forest = forest;
      })
      apart (subst AreDistinct (sym (leaves_renamed f nodes)) nest.defects)
      (All-map (λ n. HasSources (renamed_nodes f nodes) n.top.vertices) (renamed_node f) nodes
      (All-weaker (λ n. HasSources nodes n.top.vertices) (λ n. HasSources (renamed_nodes f nodes) n.top.vertices)
      (λ n has.
      sources_same nodes (renamed_nodes f nodes) n.top.vertices (leaves_renamed f nodes)
      (λ v. ap (λ cuts. height_of cuts v) (cuts_renamed f nodes)) has) nodes nest.sources))

pub nest_renamed : NestRenamed
nest_renamed p nodes f once nest = nest_kept p nodes f once nest

pub cover_renamed : CoverRenamed
cover_renamed p nodes f v once nest = cover_same p nodes f once nest v

pub outer_renamed : OuterRenamed
outer_renamed p nodes f name once nest live = outer_same p nodes f once nest name live

pub walks_renamed : WalksRenamed
walks_renamed p nodes f walks =
    subst (All (λ c. HasWalks p (renamed_nodes f nodes) c.vertices)) (sym (cuts_renamed f nodes))
    (All-weaker (λ c. HasWalks p nodes c.vertices) (λ c. HasWalks p (renamed_nodes f nodes) c.vertices)
    (λ c has v within.
    let (walk, d, is) = has v within in (
      walk,
      d,
      record {
        defect = ap (λ l. is_in l d) (leaves_renamed f nodes) ∙ is.defect;
        begins = is.begins;
        stays = is.stays;
        source = record {
          leads = is.source.leads;
          balance = omega (arith, is.source.balance, height d, height v);
        };
      },
    )) (all_cuts nodes) walks)
  where
    height : (v : ℕ) → height_of (all_cuts (renamed_nodes f nodes)) v ≡ height_of (all_cuts nodes) v
    height v = ap (λ cuts. height_of cuts v) (cuts_renamed f nodes)
