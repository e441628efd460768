-- Each cut of a nest lies within a child of a blossom or treats all its children alike.
use Rattle.std.proofs.Common.{ℕ, zero, suc, ◌≡◌, ◌<◌, ◌==◌, ◌⊎◌, inl, inr, true, false, List, [], ◌∷◌, map, length, All, get_or, sym, ap, ◌∙◌, subst, arith}
use Rattle.std.proofs.lemmas.Bool.{both_ways, eqb-true, false≢true, false_from_ne_true, or_cases}
use Rattle.std.proofs.lemmas.List.Elements.{All-map, All-filter}
use Rattle.fb_graph.specs.Parity.{is_in}
use Rattle.fb_graph.specs.Problem.{Problem}
use Rattle.fb_graph.specs.Certificate.{AreDistinct}
use Rattle.fb_graph.specs.Printed.{is_positive}
use Rattle.fb_graph.specs.Dual.{Node, AreApart, AreGrown, IsWithin, all_cuts, is_live, layers_of, top_at}
use Rattle.fb_graph.proofs.Nodes.{All-flat_map, layers_within}
use Rattle.fb_graph.proofs.Sets.{All-from_is_in, is_in-All, is_in-head, is_in-tail}
use Rattle.fb_graph.specs.Ends.{AreAllApart}
use Rattle.fb_laws.specs.Opening.{IsAlikeOver, IsWithinOne}
use Rattle.fb_laws.specs.Works.{positive_cuts}
use Rattle.fb_graph.specs.Nests.{IsNest, IsFilled, child_sets, first_set}
use Rattle.fb_laws.specs.NestSolutions.{NestOpened}
use Rattle.fb_graph.proofs.Among.{IsAmong, All_among, among_All, apart_of_two, in_concat, live_among, top_among}
use Rattle.fb_graph.proofs.Forests.{child_within, first_held}
use Rattle.fb_laws.proofs.NestOrders.{Relates, filled_by, related}
use Rattle.fb_graph.proofs.NestParts.{grove_of}

-- sets that lie apart do so in another order
apart_some : (f : ℕ → List ℕ) (all some : List ℕ) → AreAllApart (map f all) → AreDistinct some
    → ((c : ℕ) → is_in some c ≡ true → is_in all c ≡ true) → AreAllApart (map f some)
apart_some f all [] apart distinct within = tt
apart_some f all (x ∷ xs) apart distinct within = (
  All-map (AreApart (f x)) f xs
      (All-from_is_in (λ c. AreApart (f x) (f c)) xs
      (λ c h.
      apart_of_two f all apart x c (within x (is_in-head x xs)) (within c (is_in-tail x xs c h))
      (λ e. both_ways (is_in xs x) distinct.0 (ap (is_in xs) e ∙ h)))),
  apart_some f all xs apart distinct.1 (λ c h. within c (is_in-tail x xs c h)),
)

place_in : (f : ℕ → List ℕ) (xs : List ℕ) (c : ℕ) → is_in xs c ≡ true
    → (i : ℕ) × (i < length (map f xs)) × (get_or (map f xs) i [] ≡ f c)
place_in f [] c h = absurd (false≢true h)
place_in f (x ∷ xs) c h = step (or_cases (x == c) (is_in xs c) h) (place_in f xs c)
  where
    step : ((x == c) ≡ true) ⊎ (is_in xs c ≡ true)
        → (is_in xs c ≡ true → (i : ℕ) × (i < length (map f xs)) × (get_or (map f xs) i [] ≡ f c))
        → (i : ℕ) × (i < length (map f (x ∷ xs))) × (get_or (map f (x ∷ xs)) i [] ≡ f c)
    step (inl e) rest = (zero, omega arith, ap f (eqb-true x c e))
    step (inr e) rest = let (i, less, same) = rest e in (suc i, omega arith, same)

module _ (p : Problem) (nodes : List Node) (n : Node) (a : IsAmong n nodes) (kept : ℕ) (paired : List ℕ)
    (nest : IsNest p nodes)
    (same : (c : ℕ) → is_in (kept ∷ paired) c ≡ is_in n.children c) where
  child_set : (c : ℕ) → is_in (kept ∷ paired) c ≡ true → IsWithin (top_at nodes c) (first_set n)
  child_set c h v within =
      filled_by nodes n c (All_among (IsFilled nodes) nodes nest.forest.filled n a) (sym (same c) ∙ h) v
      ∙ in_concat (top_at nodes) n.children c v (sym (same c) ∙ h) within

  grown : (m : Node) → IsAmong m nodes → AreGrown (layers_of m)
  grown m b = All_among (λ x. AreGrown (layers_of x)) nodes nest.dual.grown m b

  -- a node whose first layer holds the blossom's
  above : (m : Node) → IsAmong m nodes → IsWithin (first_set n) (first_set m)
      → All (λ c. IsAlikeOver c (map (top_at nodes) paired)) (layers_of m)
  above m b holds i d less = (
    true,
    All-map (λ s. (v : ℕ) → is_in s v ≡ true → is_in (get_or (layers_of m) i d).vertices v ≡ true) (top_at nodes)
        paired
        (All-from_is_in (λ c. (v : ℕ) → is_in (top_at nodes c) v ≡ true → is_in (get_or (layers_of m) i d).vertices v
        ≡ true) paired
        (λ c h v within.
        first_held m v (grown m b) (holds v (child_set c (is_in-tail kept paired c h) v within)) i d less)),
  )

  beside : (m : Node) → IsAmong m nodes → AreApart m.top.vertices (first_set n)
      → All (λ c. IsAlikeOver c (map (top_at nodes) paired)) (layers_of m)
  beside m b apart i d less = (
    false,
    All-map (λ s. (v : ℕ) → is_in s v ≡ true → is_in (get_or (layers_of m) i d).vertices v ≡ false) (top_at nodes)
        paired
        (All-from_is_in (λ c. (v : ℕ) → is_in (top_at nodes c) v ≡ true → is_in (get_or (layers_of m) i d).vertices v
        ≡ false) paired
        (λ c h v within.
        false_from_ne_true (is_in (get_or (layers_of m) i d).vertices v)
        (λ held.
        both_ways (is_in (first_set n) v) (apart v (layers_within m.below m.top (grown m b) i d less v held))
        (child_set c (is_in-tail kept paired c h) v within)))),
  )

  within_child : (m x : Node) → IsAmong m nodes → IsAmong x nodes → is_in n.children x.name ≡ true
      → IsWithin m.top.vertices x.top.vertices
      → All (λ c. IsWithinOne c (map (top_at nodes) (kept ∷ paired))) (layers_of m)
  within_child m x b d child holds i e less =
      let (j, below, set) = place_in (top_at nodes) (kept ∷ paired) x.name (same x.name ∙ child) in (
        j,
        below,
        λ v within.
            ap (λ s. is_in s v) (set ∙ top_among nodes nest.dual.names x d)
            ∙ holds v (layers_within m.below m.top (grown m b) i e less v within),
      )

  of_node : (m : Node) → IsAmong m nodes → Relates nodes m n
      → All (λ c. IsWithinOne c (map (top_at nodes) (kept ∷ paired)) ⊎ IsAlikeOver c (map (top_at nodes) paired))
      (layers_of m)
  of_node m b (inl e) i d less = inr (above m b (λ v held. ap (λ x. is_in (first_set x) v) e ∙ held) i d less)
  of_node m b (inr (inl (x, c, child, holds))) i d less = inl (within_child m x b c child holds i d less)
  of_node m b (inr (inr (inl holds))) i d less = inr (above m b holds i d less)
  of_node m b (inr (inr (inr apart))) i d less = inr (beside m b apart i d less)

  pub nested : All (λ c. IsWithinOne c (map (top_at nodes) (kept ∷ paired)) ⊎ IsAlikeOver c
      (map (top_at nodes) paired))
      (positive_cuts nodes)
  nested =
      All-filter is_positive
      (λ c. IsWithinOne c (map (top_at nodes) (kept ∷ paired)) ⊎ IsAlikeOver c (map (top_at nodes) paired))
      (all_cuts nodes)
      (All-flat_map
      (λ c. IsWithinOne c (map (top_at nodes) (kept ∷ paired)) ⊎ IsAlikeOver c (map (top_at nodes) paired)) layers_of
      nodes
      (among_All
      (λ m. All (λ c. IsWithinOne c (map (top_at nodes) (kept ∷ paired)) ⊎ IsAlikeOver c (map (top_at nodes) paired))
      (layers_of m))
      nodes
      (λ m b. of_node m b (related nodes (record { grove = grove_of p nodes nest; apart = nest.dual.apart }) m n b
      a))))

  pub apart_sets : AreDistinct (kept ∷ paired) → AreAllApart (map (top_at nodes) (kept ∷ paired))
  apart_sets distinct =
      apart_some (top_at nodes) n.children (kept ∷ paired)
      (All_among (λ x. AreAllApart (child_sets nodes x)) nodes nest.forest.parted n a) distinct
      (λ c h. sym (same c) ∙ h)

  pub inside : All (λ s. IsWithin s n.top.vertices) (map (top_at nodes) (kept ∷ paired))
  inside =
      All-map (λ s. IsWithin s n.top.vertices) (top_at nodes) (kept ∷ paired)
      (All-from_is_in (λ c. IsWithin (top_at nodes c) n.top.vertices) (kept ∷ paired)
      (λ c h v within.
      let child : is_in n.children c ≡ true = sym (same c) ∙ h in
      let (m, b, e) =
      live_among nodes c
      (is_in-All (λ x. is_live nodes x ≡ true) n.children
      (All_among (λ y. All (λ x. is_live nodes x ≡ true) y.children) nodes nest.forest.live n a) c child) in
      child_within nodes (grove_of p nodes nest) m n b a (ap (is_in n.children) e ∙ child) v
      (ap (λ s. is_in s v) (sym (top_among nodes nest.dual.names m b) ∙ ap (top_at nodes) e) ∙ within)))

pub nest_opened : NestOpened
nest_opened p nodes name kept paired links nest live children pairs =
    let (n, a, e) = live_among nodes name live in
    let same : (c : ℕ) → is_in (kept ∷ paired) c ≡ is_in n.children c =
    All_among (λ x. x.name ≡ name → (c : ℕ) → is_in (kept ∷ paired) c ≡ is_in x.children c) nodes children.same n a e
    in
    let set : n.top.vertices ≡ top_at nodes name = sym (top_among nodes nest.dual.names n a) ∙ ap (top_at nodes) e in
    record {
      pairs = pairs;
      apart = apart_sets p nodes n a kept paired nest same children.distinct;
      within =
          subst (λ s. All (λ t. IsWithin t s) (map (top_at nodes) (kept ∷ paired))) set
          (inside p nodes n a kept paired nest same);
      nested = nested p nodes n a kept paired nest same;
    }
