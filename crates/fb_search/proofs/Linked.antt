-- Which numbers of links are live after a link is made or forgotten, and which links lead round the blossoms after nodes
-- are joined or a blossom is opened.
use Rattle.std.proofs.Common.{ℕ, ◌≡◌, ◌≢◌, ◌==◌, ◌||◌, ◌⊎◌, inl, inr, Bool, true, false, List, [], ◌∷◌, ◌++◌, map, Option, Some, is_some, refl, sym, ap, ◌∙◌, subst, append_assoc}
use Rattle.std.specs.List.Sorted.{IsPermutation}
use Rattle.std.proofs.lemmas.Bool.{both_ways, cases_eq, eqb-true, false_from_ne_true}
use Rattle.std.proofs.lemmas.List.{append-nil}
use Rattle.std.proofs.lemmas.List.Concat.{flat_map-append}
use Rattle.std.proofs.lemmas.List.Sorted.{IsPermutation-append_comm, IsPermutation-append_left, IsPermutation-append_right, IsPermutation-trans}
use Rattle.fb_graph.specs.Parity.{is_in}
use Rattle.fb_graph.specs.Problem.{Problem}
use Rattle.fb_graph.specs.Certificate.{AreDistinct}
use Rattle.fb_graph.specs.Dual.{Node, is_live}
use Rattle.fb_graph.specs.Moves.{blossom, joined_nodes, split_nodes}
use Rattle.fb_graph.proofs.Among.{IsAmong, among_live}
use Rattle.fb_graph.proofs.Places.{among_split, placed}
use Rattle.fb_graph.proofs.Sets.{is_in-head}
use Rattle.fb_links.specs.declared.cycle.CycleStep.{CycleStep}
use Rattle.fb_links.specs.declared.walk.Step.{Step}
use Rattle.fb_links.specs.Table as table
use Rattle.fb_blossoms.specs.Nodes.{Adds, TakesOff, cycle_of, node_at}
use Rattle.fb_blossoms.specs.Nodes as blossoms
use Rattle.fb_blossoms.proofs.Climbs.{same_some}
use Rattle.fb_laws.proofs.OpenedBlossoms.{distinct_permuted, same_permuted}
use Rattle.fb_half.specs.Parts.{AreLinksOf, AreStepsOf}
use Rattle.fb_half.specs.Translations.{ring_at, ring_links}
use Rattle.fb_search.proofs.Agreed.{nodes_of}

-- another number is in the longer list where it is in the shorter one
in_rest : (id : ℕ) (ids : List ℕ) (k : ℕ) → k ≢ id → is_in (id ∷ ids) k ≡ is_in ids k
in_rest id ids k differ =
    ap (λ b. b || is_in ids k) (false_from_ne_true (id == k) (λ same. differ (sym (eqb-true id k same))))

abbrev some_walk : Option (List Step) → Bool
some_walk o = is_some o

pub links_made : (p : Problem) (old new : List (Option (List Step))) (ids : List ℕ) (id : ℕ) (walk : List Step)
    → AreLinksOf p old ids → table.Adds old new id walk → AreStepsOf p walk → AreLinksOf p new (id ∷ ids)
links_made p old new ids id walk links adds steps = record {
  distinct = (sym (links.live id) ∙ ap some_walk adds.fresh, links.distinct);
  live = λ k. live k (cases_eq k id);
  steps = λ k w there. kept k w there (cases_eq k id);
}
  where
    live : (k : ℕ) → (k ≡ id) ⊎ (k ≡ id → ⊥) → table.is_live new k ≡ is_in (id ∷ ids) k
    live k (inl e) =
        ap (table.is_live new) e
        ∙ (ap some_walk adds.added ∙ (sym (is_in-head id ids) ∙ ap (is_in (id ∷ ids)) (sym e)))
    live k (inr differ) = ap some_walk (adds.others k differ) ∙ (links.live k ∙ sym (in_rest id ids k differ))

    kept : (k : ℕ) (w : List Step) → table.link_at new k ≡ Some w → (k ≡ id) ⊎ (k ≡ id → ⊥) → AreStepsOf p w
    kept k w there (inl e) =
        subst (AreStepsOf p) (same_some (table.link_at new k) walk w (ap (table.link_at new) e ∙ adds.added) there) steps
    kept k w there (inr differ) = links.steps k w (sym (adds.others k differ) ∙ there)

pub links_reordered : (p : Problem) (links : List (Option (List Step))) (ids others : List ℕ) → IsPermutation ids others
    → AreLinksOf p links ids → AreLinksOf p links others
links_reordered p links ids others moved are = record {
  distinct = distinct_permuted ids others moved are.distinct;
  live = λ id. are.live id ∙ sym (same_permuted ids others moved id);
  steps = are.steps;
}

rings_same : (old new : List (Option blossoms.Node)) (nodes : List Node)
    → ((n : Node) → IsAmong n nodes → node_at new n.name ≡ node_at old n.name)
    → ring_links nodes new ≡ ring_links nodes old
rings_same old new [] same = refl
rings_same old new (n ∷ ns) same =
    ap (λ (o : Option blossoms.Node). map (λ s. s.link) (cycle_of o) ++ ring_links ns new) (same n (inl refl))
    ∙ ap (λ l. ring_at old n.name ++ l) (rings_same old new ns (λ m a. same m (inr a)))

-- where the nodes of a cycle are joined its links come to those round blossoms
pub rings_joined : (nodes : List Node) (old new : List (Option blossoms.Node)) (name : ℕ) (cycle : List CycleStep)
    → is_live nodes name ≡ false → Adds old new name (blossoms.blossom old cycle)
    → ring_links (joined_nodes name (nodes_of cycle) nodes) new ≡ ring_links nodes old ++ map (λ s. s.link) cycle
rings_joined nodes old new name cycle fresh adds =
    flat_map-append (λ (n : Node). ring_at new n.name) nodes (blossom name (nodes_of cycle) nodes ∷ [])
    ∙ (ap (λ l. l ++ (ring_at new name ++ []))
    (rings_same old new nodes (λ n a.
    adds.others n.name (λ e. both_ways (is_live nodes name) fresh (among_live nodes n name a e))))
    ∙ ap (λ l. ring_links nodes old ++ l)
    (append-nil (ring_at new name) ∙ ap (λ (o : Option blossoms.Node). map (λ s. s.link) (cycle_of o)) adds.added))

-- where a blossom is opened the links round it go
pub rings_split : (nodes : List Node) (old new : List (Option blossoms.Node)) (name : ℕ)
    → AreDistinct (map (λ n. n.name) nodes) → is_live nodes name ≡ true → TakesOff old new name
    → IsPermutation (ring_links nodes old) (ring_at old name ++ ring_links (split_nodes name nodes) new)
rings_split nodes old new name distinct live gone =
    let at = placed nodes name distinct live in
    let front = ring_links at.before old in
    let back = ring_links at.after old in
    let whole : ring_links nodes old ≡ front ++ (ring_at old name ++ back) =
    ap (λ ns. ring_links ns old) at.whole
    ∙ (flat_map-append (λ (n : Node). ring_at old n.name) at.before (at.node ∷ at.after)
    ∙ ap (λ x. front ++ (ring_at old x ++ back)) at.named) in
    let rest : ring_links (split_nodes name nodes) new ≡ front ++ back =
    rings_same old new (split_nodes name nodes) (λ n a. gone.others n.name (among_split name nodes n a).1)
    ∙ (ap (λ ns. ring_links ns old) at.removed
    ∙ flat_map-append (λ (n : Node). ring_at old n.name) at.before at.after) in
    subst (λ l. IsPermutation l (ring_at old name ++ ring_links (split_nodes name nodes) new)) (sym whole)
    (subst (λ l. IsPermutation (front ++ (ring_at old name ++ back)) (ring_at old name ++ l)) (sym rest)
    (subst (λ l. IsPermutation l (ring_at old name ++ (front ++ back))) (append_assoc front (ring_at old name) back)
    (subst (IsPermutation ((front ++ ring_at old name) ++ back)) (append_assoc (ring_at old name) front back)
    (IsPermutation-append_left back (front ++ ring_at old name) (ring_at old name ++ front)
    (IsPermutation-append_comm front (ring_at old name))))))

-- where a cycle is closed by a further link, the numbers that are live then: those of the tree that are left, of the
-- matches, and round blossoms, the cycle's among them
pub closed_numbers : (closing : ℕ) (tree after cycle matches rings : List ℕ)
    → IsPermutation (closing ∷ tree) (after ++ cycle)
    → IsPermutation (closing ∷ (tree ++ (matches ++ rings))) (after ++ (matches ++ (rings ++ cycle)))
closed_numbers closing tree after cycle matches rings moved =
    IsPermutation-trans (closing ∷ (tree ++ (matches ++ rings))) ((after ++ cycle) ++ (matches ++ rings))
    (after ++ (matches ++ (rings ++ cycle)))
    (IsPermutation-append_left (matches ++ rings) (closing ∷ tree) (after ++ cycle) moved)
    (subst (λ l. IsPermutation l (after ++ (matches ++ (rings ++ cycle)))) (sym (append_assoc after cycle (matches ++ rings)))
    (IsPermutation-append_right after (cycle ++ (matches ++ rings)) (matches ++ (rings ++ cycle))
    (subst (IsPermutation (cycle ++ (matches ++ rings))) (append_assoc matches rings cycle)
    (IsPermutation-append_comm cycle (matches ++ rings)))))
