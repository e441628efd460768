-- Nodes changed in place, each with its name, its children and its first layer as they were.
use Rattle.std.proofs.Common.{ℕ, ◌≡◌, ◌==◌, ◌||◌, inl, inr, not, true, false, List, [], ◌∷◌, ◌++◌, map, length, All, refl, sym, ap, ◌∙◌, subst, if◌then◌else◌}
use Rattle.std.specs.List.{concat, list_any}
use Rattle.std.proofs.lemmas.List.Elements.{All-head, All-tail, All-map}
use Rattle.fb_graph.specs.Parity.{is_in}
use Rattle.fb_graph.specs.Certificate.{AreDistinct}
use Rattle.fb_graph.specs.Dual.{Node, AreApart, AreOuterApart, leaves, defects_of, is_empty, is_live, is_outer, top_at}
use Rattle.fb_graph.proofs.Sets.{All-from_is_in, is_in-All}
use Rattle.fb_graph.specs.Ends.{AreAllApart}
use Rattle.fb_graph.specs.Nests.{IsForest, IsFormed, IsFilled, AreMany, AreJoinedLater, first_set, child_sets}
use Rattle.fb_graph.proofs.Among.{IsAmong, All_among, among_All, among_any, among_map, map_among, live_among, among_pairs, top_among}
use Rattle.fb_graph.proofs.Forests.{IsGrove}
use Rattle.fb_graph.proofs.NestParts.{map_agree}

pub record AreKept (f : Node → Node) (nodes : List Node) : Type 0 where
  pub name : (n : Node) → (f n).name ≡ n.name
  pub children : (n : Node) → (f n).children ≡ n.children
  pub first : All (λ n. first_set (f n) ≡ first_set n) nodes
  pub inner : All (λ n. is_outer nodes n.name ≡ false → (f n).top.vertices ≡ n.top.vertices) nodes

pub mapped_names : (f : Node → Node) → ((n : Node) → (f n).name ≡ n.name) → (ns : List Node) → map (λ n. n.name) (map f ns) ≡ map (λ n. n.name) ns
mapped_names f same [] = refl
mapped_names f same (n ∷ ns) = ap (λ x. x ∷ map (λ m. m.name) (map f ns)) (same n) ∙ ap (λ l. n.name ∷ l) (mapped_names f same ns)

pub mapped_outer : (f : Node → Node) → ((n : Node) → (f n).children ≡ n.children) → (ns : List Node) (x : ℕ) → is_outer (map f ns) x ≡ is_outer ns x
mapped_outer f same ns x = ap not (by ns)
  where
    by : (ms : List Node) → list_any (λ n. is_in n.children x) (map f ms) ≡ list_any (λ n. is_in n.children x) ms
    by [] = refl
    by (m ∷ ms) = ap (λ l. is_in l x || list_any (λ n. is_in n.children x) (map f ms)) (same m) ∙ ap (λ b. is_in m.children x || b) (by ms)

pub mapped_live : (f : Node → Node) → ((n : Node) → (f n).name ≡ n.name) → (ns : List Node) (x : ℕ) → is_live (map f ns) x ≡ is_live ns x
mapped_live f same [] x = refl
mapped_live f same (n ∷ ns) x = ap (λ y. (y == x) || is_live (map f ns) x) (same n) ∙ ap (λ b. (n.name == x) || b) (mapped_live f same ns x)

pub mapped_leaves : (f : Node → Node) → ((n : Node) → (f n).children ≡ n.children) → (ns : List Node) → All (λ n. first_set (f n) ≡ first_set n) ns
    → leaves (map f ns) ≡ leaves ns
mapped_leaves f same [] first = refl
mapped_leaves f same (n ∷ ns) first =
    ap (λ l. (if is_empty l then first_set (f n) else []) ++ leaves (map f ns)) (same n)
    ∙ (ap (λ l. (if is_empty n.children then l else []) ++ leaves (map f ns)) (All-head (λ m. first_set (f m) ≡ first_set m) n ns first)
    ∙ ap (λ l. defects_of n ++ l) (mapped_leaves f same ns (All-tail (λ m. first_set (f m) ≡ first_set m) n ns first)))

mapped_joined : (f : Node → Node) → ((n : Node) → (f n).name ≡ n.name) → ((n : Node) → (f n).children ≡ n.children) → (ns : List Node)
    → AreJoinedLater ns → AreJoinedLater (map f ns)
mapped_joined f name children [] joined = tt
mapped_joined f name children (n ∷ ns) joined = (
  All-map (λ m. is_in (f n).children m.name ≡ false) f (n ∷ ns)
      (among_All (λ m. is_in (f n).children (f m).name ≡ false) (n ∷ ns)
      (λ m a.
      ap (λ l. is_in l (f m).name) (children n)
      ∙ (ap (is_in n.children) (name m) ∙ All_among (λ x. is_in n.children x.name ≡ false) (n ∷ ns) joined.0 m a))),
  All-map (λ m. AreApart (f n).children m.children) f ns
      (among_All (λ m. AreApart (f n).children (f m).children) ns
      (λ m a.
      subst (AreApart (f n).children) (sym (children m))
      (subst (λ l. AreApart l m.children) (sym (children n)) (All_among (λ x. AreApart n.children x.children) ns joined.1 m a)))),
  mapped_joined f name children ns joined.2,
)

module _ (f : Node → Node) (nodes : List Node) (kept : AreKept f nodes) (grove : IsGrove nodes) where
  pub names_mapped : AreDistinct (map (λ n. n.name) (map f nodes))
  names_mapped = subst AreDistinct (sym (mapped_names f kept.name nodes)) grove.names

  child_top : (n : Node) → IsAmong n nodes → (c : ℕ) → is_in n.children c ≡ true → top_at (map f nodes) c ≡ top_at nodes c
  child_top n a c within =
      let live : is_live nodes c ≡ true =
      is_in-All (λ x. is_live nodes x ≡ true) n.children (All_among (λ m. All (λ x. is_live nodes x ≡ true) m.children) nodes grove.forest.live n a) c within in
      let (m, b, e) = live_among nodes c live in
      let inner : is_outer nodes m.name ≡ false =
      ap not (among_any (λ x. is_in x.children m.name) nodes n a (ap (is_in n.children) e ∙ within)) in
      ap (top_at (map f nodes)) (sym e ∙ sym (kept.name m))
      ∙ (top_among (map f nodes) names_mapped (f m) (map_among f nodes m b)
      ∙ (All_among (λ x. is_outer nodes x.name ≡ false → (f x).top.vertices ≡ x.top.vertices) nodes kept.inner m b inner
      ∙ (sym (top_among nodes grove.names m b) ∙ ap (top_at nodes) e)))

  same_sets : (n : Node) → IsAmong n nodes → child_sets (map f nodes) (f n) ≡ child_sets nodes n
  same_sets n a =
      ap (map (top_at (map f nodes))) (kept.children n)
      ∙ map_agree (top_at (map f nodes)) (top_at nodes) n.children
      (All-from_is_in (λ c. top_at (map f nodes) c ≡ top_at nodes c) n.children (child_top n a))

  formed : (n : Node) → first_set (f n) ≡ first_set n → IsFormed n → IsFormed (f n)
  formed n first (inl childless) = inl (record { none = kept.children n ∙ childless.none; defect = ap length first ∙ childless.defect })
  formed n first (inr many) = inr (subst AreMany (sym (kept.children n)) many)

  pub forest_mapped : IsForest (map f nodes)
  forest_mapped = record {
    formed = All-map IsFormed f nodes
        (among_All (λ n. IsFormed (f n)) nodes
        (λ n a.
        formed n (All_among (λ m. first_set (f m) ≡ first_set m) nodes kept.first n a) (All_among IsFormed nodes grove.forest.formed n a)));
    live = All-map (λ n. All (λ c. is_live (map f nodes) c ≡ true) n.children) f nodes
        (among_All (λ n. All (λ c. is_live (map f nodes) c ≡ true) (f n).children) nodes
        (λ n a.
        subst (All (λ c. is_live (map f nodes) c ≡ true)) (sym (kept.children n))
        (λ i d less.
        mapped_live f kept.name nodes _
        ∙ All_among (λ m. All (λ c. is_live nodes c ≡ true) m.children) nodes grove.forest.live n a i d less)));
    joined = mapped_joined f kept.name kept.children nodes grove.forest.joined;
    filled = All-map (IsFilled (map f nodes)) f nodes
        (among_All (λ n. IsFilled (map f nodes) (f n)) nodes
        (λ n a some v.
        ap (λ l. is_in l v) (All_among (λ m. first_set (f m) ≡ first_set m) nodes kept.first n a)
        ∙ (All_among (IsFilled nodes) nodes grove.forest.filled n a (ap is_empty (sym (kept.children n)) ∙ some) v
        ∙ ap (λ l. is_in (concat l) v) (sym (same_sets n a)))));
    parted = All-map (λ n. AreAllApart (child_sets (map f nodes) n)) f nodes
        (among_All (λ n. AreAllApart (child_sets (map f nodes) (f n))) nodes
        (λ n a. subst AreAllApart (sym (same_sets n a)) (All_among (λ m. AreAllApart (child_sets nodes m)) nodes grove.forest.parted n a)));
  }

  pub apart_mapped : ((m n : Node) → IsAmong m nodes → IsAmong n nodes → (m.name ≡ n.name → ⊥) → is_outer nodes m.name ≡ true
      → is_outer nodes n.name ≡ true → AreApart (f m).top.vertices (f n).top.vertices) → AreOuterApart (map f nodes)
  apart_mapped h =
      among_pairs (λ m n. is_outer (map f nodes) m.name ≡ true → is_outer (map f nodes) n.name ≡ true → AreApart m.top.vertices n.top.vertices)
      (map f nodes) names_mapped
      (λ x y a b other out_x out_y.
      let (m, c, e) = among_map f nodes x a in
      let (n, d, g) = among_map f nodes y b in
      subst (λ z. AreApart z.top.vertices y.top.vertices) e
      (subst (λ z. AreApart (f m).top.vertices z.top.vertices) g
      (h m n c d
      (λ same. other (ap (λ z. z.name) (sym e) ∙ (kept.name m ∙ (same ∙ (sym (kept.name n) ∙ ap (λ z. z.name) g)))))
      (outer m x e out_x) (outer n y g out_y))))
    where
      outer : (m x : Node) → f m ≡ x → is_outer (map f nodes) x.name ≡ true → is_outer nodes m.name ≡ true
      outer m x e out =
          ap (is_outer nodes) (sym (kept.name m) ∙ ap (λ z. z.name) e) ∙ (sym (mapped_outer f kept.children nodes x.name) ∙ out)
