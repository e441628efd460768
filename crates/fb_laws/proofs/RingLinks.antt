-- Links round a cycle of outer nodes, by their names and by their sets.
use Rattle.std.proofs.Common.{ℕ, ◌≡◌, ◌⊎◌, inl, inr, true, List, [], ◌∷◌, ◌++◌, map, refl, ◌∙◌, subst}
use Rattle.std.proofs.lemmas.List.{map-append}
use Rattle.std.proofs.lemmas.Bool.{false≢true}
use Rattle.fb_graph.specs.Parity.{is_in}
use Rattle.fb_graph.specs.Certificate.{AreDistinct}
use Rattle.fb_graph.specs.Problem.{Problem}
use Rattle.fb_graph.specs.Laws.{Link}
use Rattle.fb_graph.specs.Dual.{Node, all_cuts, is_live, leaves, top_at}
use Rattle.fb_graph.proofs.Among.{IsAmong, All_among, among_All, among_left, among_right, among_either, among_live, cover_among, map_among}
use Rattle.fb_graph.proofs.Sets.{is_in-cases}
use Rattle.fb_graph.specs.Links.{IsTightLink}
use Rattle.fb_laws.specs.Fusion.{IsLinkOf}
use Rattle.fb_laws.specs.PartStates.{AreChained, IsRing}
use Rattle.fb_laws.specs.TreeCycles.{AreLinked, cycle_links, links_along, links_back}
use Rattle.fb_laws.specs.Trees.{Entry, grown_links, paired_links}
use Rattle.fb_laws.specs.Works.{AreMatchedLinks}
use Rattle.fb_laws.specs.Opening.{EndsAtDefects}
use Rattle.fb_laws.proofs.SearchTrees.{connected, connects_sym, joins_of}

chain_of_linked : (nodes : List Node) → AreDistinct (map (λ n. n.name) nodes) → (from : ℕ) (names : List ℕ) (links : List Link)
    → AreLinked nodes from names links → AreChained (top_at nodes from) (map (top_at nodes) names) links
chain_of_linked nodes distinct from [] [] linked = tt
chain_of_linked nodes distinct from [] (l ∷ links) linked = absurd linked
chain_of_linked nodes distinct from (n ∷ names) [] linked = absurd linked
chain_of_linked nodes distinct from (n ∷ names) (l ∷ links) (connects, rest) =
    (joins_of nodes l from n distinct connects, chain_of_linked nodes distinct n names links rest)

-- links from node to node round a cycle are a ring round their sets
pub ring_of_linked : (nodes : List Node) (first : ℕ) (names : List ℕ) (links : List Link) → AreDistinct (map (λ n. n.name) nodes)
    → AreLinked nodes first (names ++ first ∷ []) links → IsRing (map (top_at nodes) (first ∷ names)) links
ring_of_linked nodes first names links distinct linked =
    subst (λ sets. AreChained (top_at nodes first) sets links) (map-append (top_at nodes) names (first ∷ []))
    (chain_of_linked nodes distinct first (names ++ first ∷ []) links linked)

-- linked nodes are nodes of the state
pub linked_live : (nodes : List Node) (from : ℕ) (names : List ℕ) (links : List Link) → AreLinked nodes from names links
    → (n : ℕ) → is_in names n ≡ true → is_live nodes n ≡ true
linked_live nodes from [] links linked n within = absurd (false≢true within)
linked_live nodes from (m ∷ names) [] linked n within = absurd linked
linked_live nodes from (m ∷ names) (l ∷ links) (connects, rest) n within =
    step (is_in-cases m names n within) (linked_live nodes m names links rest n)
  where
    step : (m ≡ n) ⊎ (is_in names n ≡ true) → (is_in names n ≡ true → is_live nodes n ≡ true) → is_live nodes n ≡ true
    step (inl same) later =
        let (v, cover) = connected nodes l m from (connects_sym nodes l from m connects) in
        let over = cover_among nodes v m cover in
        among_live nodes over.node n over.among (over.named ∙ same)
    step (inr there) later = later there

-- links among tight ones are tight
pub links_among : (p : Problem) (nodes : List Node) (links some : List Link)
    → ((l : Link) → IsAmong l links → IsAmong l some) → AreMatchedLinks p nodes some → AreMatchedLinks p nodes links
links_among p nodes links some within are = record {
  tight = among_All (IsTightLink p (all_cuts nodes)) links (λ l a. All_among (IsTightLink p (all_cuts nodes)) some are.tight l (within l a));
  own = among_All (IsLinkOf p) links (λ l a. All_among (IsLinkOf p) some are.own l (within l a));
  at_defects = among_All (EndsAtDefects p (leaves nodes)) links (λ l a. All_among (EndsAtDefects p (leaves nodes)) some are.at_defects l (within l a));
}

abbrev IsLinkIn : Link → List Entry → Type 0
IsLinkIn l es = (e : Entry) × IsAmong e es × ((e.tree ≡ l) ⊎ (e.matched ≡ l))

along_link : (es : List Entry) (l : Link) → IsAmong l (links_along es) → IsLinkIn l es
along_link [] l a = absurd a
along_link (e ∷ es) l (inl same) = (e, inl refl, inl same)
along_link (e ∷ es) l (inr (inl same)) = (e, inl refl, inr same)
along_link (e ∷ es) l (inr (inr a)) = let (f, b, is) = along_link es l a in (f, inr b, is)

back_link : (es : List Entry) (l : Link) → IsAmong l (links_back es) → IsLinkIn l es
back_link [] l a = absurd a
back_link (e ∷ es) l a = step (among_either (links_back es) (e.matched ∷ e.tree ∷ []) l a) (back_link es l)
  where
    step : IsAmong l (links_back es) ⊎ IsAmong l (e.matched ∷ e.tree ∷ []) → (IsAmong l (links_back es) → IsLinkIn l es) → IsLinkIn l (e ∷ es)
    step (inl b) later = let (f, c, is) = later b in (f, inr c, is)
    step (inr (inl same)) later = (e, inl refl, inr same)
    step (inr (inr (inl same))) later = (e, inl refl, inl same)
    step (inr (inr (inr none))) later = absurd none

-- the links round a cycle of the tree are the tree's, but for the one that closes it
pub cycle_link_in : (tree up down : List Entry) (closing : Link) → ((e : Entry) → IsAmong e up → IsAmong e tree)
    → ((e : Entry) → IsAmong e down → IsAmong e tree) → (l : Link) → IsAmong l (cycle_links up closing down)
    → IsAmong l ((closing ∷ []) ++ (grown_links tree ++ paired_links tree))
cycle_link_in tree up down closing in_up in_down l a = step (among_either (links_along up) (closing ∷ links_back down) l a)
  where
    of_tree : (e : Entry) → IsAmong e tree → (e.tree ≡ l) ⊎ (e.matched ≡ l)
        → IsAmong l ((closing ∷ []) ++ (grown_links tree ++ paired_links tree))
    of_tree e b (inl same) =
        inr (among_left (grown_links tree) (paired_links tree) l (subst (λ x. IsAmong x (grown_links tree)) same (map_among (λ x. x.tree) tree e b)))
    of_tree e b (inr same) =
        inr (among_right (grown_links tree) (paired_links tree) l (subst (λ x. IsAmong x (paired_links tree)) same (map_among (λ x. x.matched) tree e b)))

    step : IsAmong l (links_along up) ⊎ IsAmong l (closing ∷ links_back down)
        → IsAmong l ((closing ∷ []) ++ (grown_links tree ++ paired_links tree))
    step (inl b) = let (e, c, is) = along_link up l b in of_tree e (in_up e c) is
    step (inr (inl same)) = inl same
    step (inr (inr b)) = let (e, c, is) = back_link down l b in of_tree e (in_down e c) is
