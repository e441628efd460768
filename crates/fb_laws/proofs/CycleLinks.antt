-- The links round the blossoms of a part: each lies under one outer node, and they stay where nodes change.
use Rattle.std.proofs.Common.{ℕ, ◌≡◌, inl, inr, Bool, true, false, List, [], ◌∷◌, ◌++◌, map, All, Some, refl, sym, ap, ◌∙◌, subst, if◌then◌else◌}
use Rattle.std.proofs.lemmas.Bool.{both_ways}
use Rattle.std.proofs.lemmas.List.Elements.{All-nil, All-cons, All-head, All-tail, All-append, All-map}
use Rattle.fb_graph.specs.Parity.{is_in}
use Rattle.fb_graph.specs.Problem.{Problem}
use Rattle.fb_graph.specs.Laws.{Link}
use Rattle.fb_graph.specs.Dual.{Node, AreUnderOne, cover_of, is_empty, is_live, top_at}
use Rattle.fb_graph.proofs.Nodes.{All-flat_map}
use Rattle.fb_graph.proofs.Sets.{All-from_is_in, is_in-All}
use Rattle.fb_graph.specs.Nests.{IsNest, child_sets}
use Rattle.fb_laws.specs.Paths.{Joins}
use Rattle.fb_laws.specs.PartStates.{AreChained, IsRing, all_cycle_links, links_at}
use Rattle.fb_graph.proofs.Among.{IsAmong, All_among, among_All, live_among, top_among, covered_by}
use Rattle.fb_graph.proofs.Forests.{child_within, under_outer}
use Rattle.fb_graph.proofs.NestParts.{grove_of}

-- what holds of the vertices of all sets holds of both ends of each link
chain_ends : (P : ℕ → Type 0) (from : List ℕ) (sets : List (List ℕ)) (links : List Link)
    → ((v : ℕ) → is_in from v ≡ true → P v) → All (λ s. (v : ℕ) → is_in s v ≡ true → P v) sets
    → AreChained from sets links → All (λ l. P l.from × P l.to) links
chain_ends P from [] [] here there chained = All-nil (λ (l : Link). P l.from × P l.to)
chain_ends P from [] (l ∷ links) here there chained = absurd chained
chain_ends P from (s ∷ sets) [] here there chained = absurd chained
chain_ends P from (s ∷ sets) (l ∷ links) here there (joins, rest) =
    let next : (v : ℕ) → is_in s v ≡ true → P v = All-head (λ (t : List ℕ). (v : ℕ) → is_in t v ≡ true → P v) s sets there in
    All-cons (λ (x : Link). P x.from × P x.to) l links (ends next joins)
    (chain_ends P s sets links next (All-tail (λ (t : List ℕ). (v : ℕ) → is_in t v ≡ true → P v) s sets there) rest)
  where
    ends : ((v : ℕ) → is_in s v ≡ true → P v) → Joins l from s → P l.from × P l.to
    ends next (v, inl (at_from, to), within) = (here l.from at_from, subst P (sym to) (next v within))
    ends next (v, inr (at_to, from_), within) = (subst P (sym from_) (next v within), here l.to at_to)

-- so it is for a ring round the children of a blossom
ring_ends : (P : ℕ → Type 0) (nodes : List Node) (children : List ℕ) (links : List Link) → is_empty children ≡ false
    → ((c : ℕ) → is_in children c ≡ true → (v : ℕ) → is_in (top_at nodes c) v ≡ true → P v)
    → IsRing (map (top_at nodes) children) links → All (λ l. P l.from × P l.to) links
ring_ends P nodes [] links some each ring = absurd (both_ways true some refl)
ring_ends P nodes (c ∷ cs) links some each ring =
    let all : All (λ s. (v : ℕ) → is_in s v ≡ true → P v) (map (top_at nodes) (c ∷ cs)) =
    All-map (λ (s : List ℕ). (v : ℕ) → is_in s v ≡ true → P v) (top_at nodes) (c ∷ cs)
    (All-from_is_in (λ n. (v : ℕ) → is_in (top_at nodes n) v ≡ true → P v) (c ∷ cs) each) in
    let first : (v : ℕ) → is_in (top_at nodes c) v ≡ true → P v =
    All-head (λ (s : List ℕ). (v : ℕ) → is_in s v ≡ true → P v) (top_at nodes c) (map (top_at nodes) cs) all in
    chain_ends P (top_at nodes c) (map (top_at nodes) cs ++ top_at nodes c ∷ []) links first
    (All-append (λ (s : List ℕ). (v : ℕ) → is_in s v ≡ true → P v) (map (top_at nodes) cs) (top_at nodes c ∷ [])
    (All-tail (λ (s : List ℕ). (v : ℕ) → is_in s v ≡ true → P v) (top_at nodes c) (map (top_at nodes) cs) all)
    (All-cons (λ (s : List ℕ). (v : ℕ) → is_in s v ≡ true → P v) (top_at nodes c) [] first
    (All-nil (λ (s : List ℕ). (v : ℕ) → is_in s v ≡ true → P v))))
    ring

-- a fact of all links, from that of each blossom's
pub each_cycle_link : (P : Link → Type 0) (nodes : List Node) (cycles : ℕ → List Link)
    → ((n : Node) → IsAmong n nodes → is_empty n.children ≡ false → All P (cycles n.name))
    → All P (all_cycle_links nodes cycles)
each_cycle_link P nodes cycles each =
    All-flat_map P (links_at cycles) nodes
    (among_All (λ n. All P (links_at cycles n)) nodes (λ n a. by n.name (is_empty n.children) (each n a)))
  where
    by : (name : ℕ) (b : Bool) → (b ≡ false → All P (cycles name)) → All P (if b then [] else cycles name)
    by name true h = All-nil P
    by name false h = h refl

-- each link round a blossom lies under one outer node
pub cycles_under_one : (p : Problem) (nodes : List Node) (cycles : ℕ → List Link) → IsNest p nodes
    → All (λ n. IsRing (child_sets nodes n) (cycles n.name)) nodes
    → All (λ l. AreUnderOne nodes l.from l.to) (all_cycle_links nodes cycles)
cycles_under_one p nodes cycles nest rings =
    each_cycle_link (λ l. AreUnderOne nodes l.from l.to) nodes cycles
    (λ n a some.
    let under = under_outer nodes (grove_of p nodes nest) n a in
    let both : All (λ l. (cover_of nodes l.from ≡ Some under.node.name) × (cover_of nodes l.to ≡ Some under.node.name)) (cycles n.name) =
    ring_ends (λ v. cover_of nodes v ≡ Some under.node.name) nodes n.children (cycles n.name) some
    (λ c child v within.
    let (m, b, named) = live_among nodes c (live n a c child) in
    covered_by nodes v nest.dual.apart under.node under.among under.outer
    (under.within v
    (child_within nodes (grove_of p nodes nest) m n b a (ap (is_in n.children) named ∙ child) v
    (ap (λ s. is_in s v) (sym (top_among nodes nest.dual.names m b) ∙ ap (top_at nodes) named) ∙ within))))
    (All_among (λ x. IsRing (child_sets nodes x) (cycles x.name)) nodes rings n a) in
    (λ i d less. (under.node.name, (both i d less).0, (both i d less).1)))
  where
    live : (n : Node) → IsAmong n nodes → (c : ℕ) → is_in n.children c ≡ true → is_live nodes c ≡ true
    live n a c child =
        is_in-All (λ x. is_live nodes x ≡ true) n.children
        (All_among (λ m. All (λ x. is_live nodes x ≡ true) m.children) nodes nest.forest.live n a) c child
