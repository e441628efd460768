-- The steps up to a node and those after it are the law's way and the law's couples.
use Rattle.std.proofs.Common.{ℕ, suc, ◌≡◌, ◌%◌, List, [], ◌∷◌, ◌++◌, map, length, take, drop, Option, Some, None, refl, sym, ap, ◌∙◌, subst, arith}
use Rattle.std.specs.List.Sorted.{IsPermutation}
use Rattle.std.proofs.lemmas.List.{append_assoc, map-append}
use Rattle.std.proofs.lemmas.List.Sorted.{IsPermutation-append_comm, IsPermutation-append_left, IsPermutation-append_right, IsPermutation-cons, IsPermutation-middle, IsPermutation-refl, IsPermutation-sym, IsPermutation-trans}
use Rattle.fb_graph.specs.Laws.{Link}
use Rattle.fb_links.specs.declared.cycle.CycleStep.{CycleStep}
use Rattle.fb_laws.specs.OpenedCycles.{Couple, grown_on, last_of, matched_beside, matched_on, paired_on}
use Rattle.fb_laws.specs.RingWays.{couples_along, passes_along}
use Rattle.fb_half.specs.Matchings.{match_links, matched_names}
use Rattle.fb_half.specs.declared.matches.Match.{Match}
use Rattle.fb_trees.specs.Replacements.{first_node, way_of}
use Rattle.fb_trees.specs.TreeLinks.{map_pass}
use Rattle.fb_search.specs.InternalOpenings.{between_on, couples_on, link_on, links_left, place_on, rest_on, way_on}
use Rattle.fb_search.proofs.Agreed.{nodes_of}
use Rattle.fb_search.proofs.OpenedPlaces.{IsPlacedOn, links_of, nodes-append, others_of}

-- the node of a match beside its first one
abbrev pub mate_of : Option ℕ → ℕ
mate_of None = 0
mate_of (Some b) = b

-- a match as the laws see it
abbrev pub couple_by : (ℕ → Link) → Match → Couple
couple_by f m = record { first = m.first; link = f m.link; second = mate_of m.second }

-- the passes along the way
pub passes_are : {M : Type 0} (f : ℕ → M) (before : List CycleStep) (s : CycleStep) (after : List CycleStep)
    → length before % 2 ≡ 0
    → passes_along (take (length before) (others_of (before ++ s ∷ after)))
    (take (length before) (map f (links_of (before ++ s ∷ after))))
    ≡ map (map_pass f) (way_of (before ++ s ∷ []))
passes_are f [] s after even = refl
passes_are f (a ∷ []) s after even = absurd (let e : 1 ≡ 0 = even in omega arith)
passes_are f (a ∷ b ∷ []) s after even = refl
passes_are f (a ∷ b ∷ c ∷ cs) s after even =
    ap (λ l. record { matched = f a.link; plus = b.node; tree = f b.link; minus = c.node } ∷ l)
    (passes_are f (c ∷ cs) s after (omega (arith, even)))

-- the couples after it
pub couples_are : (f : ℕ → Link) (rest : List CycleStep) (l : Link)
    → couples_along (nodes_of rest) (l ∷ map f (links_of rest)) ≡ map (couple_by f) (couples_on rest)
couples_are f [] l = refl
couples_are f (s ∷ []) l = refl
couples_are f (s ∷ t ∷ ss) l =
    ap (λ c. record { first = s.node; link = f s.link; second = t.node } ∷ c) (couples_are f ss (f t.link))

-- the steps after the way
later_nodes : (before : List CycleStep) (s : CycleStep) (after : List CycleStep)
    → drop (suc (length before)) (nodes_of (before ++ s ∷ after)) ≡ nodes_of after
later_nodes [] s after = refl
later_nodes (b ∷ bs) s after = later_nodes bs s after

pub nodes_after : (before : List CycleStep) (s : CycleStep) (after : List CycleStep)
    → drop (length before) (others_of (before ++ s ∷ after)) ≡ nodes_of after
nodes_after [] s after = refl
nodes_after (b ∷ bs) s after = later_nodes bs s after

pub links_after : (f : ℕ → Link) (before : List CycleStep) (s : CycleStep) (after : List CycleStep)
    → drop (length before) (map f (links_of (before ++ s ∷ after))) ≡ f s.link ∷ map f (links_of after)
links_after f [] s after = refl
links_after f (b ∷ bs) s after = links_after f bs s after

pub couples_links : (f : ℕ → Link) (ms : List Match) → matched_beside (map (couple_by f) ms) ≡ map f (match_links ms)
couples_links f [] = refl
couples_links f (m ∷ ms) = ap (λ l. f m.link ∷ l) (couples_links f ms)

-- an even number of steps are all in couples
pub couples_nodes : (rest : List CycleStep) → length rest % 2 ≡ 0 → matched_names (couples_on rest) ≡ nodes_of rest
couples_nodes [] even = refl
couples_nodes (s ∷ []) even = absurd (let e : 1 ≡ 0 = even in omega arith)
couples_nodes (s ∷ t ∷ ss) even = ap (λ l. s.node ∷ t.node ∷ l) (couples_nodes ss (omega (arith, even)))

-- their links by turns match them and lie between
pub couples_all : (rest : List CycleStep) → length rest % 2 ≡ 0
    → IsPermutation (links_of rest) (match_links (couples_on rest) ++ between_on rest)
couples_all [] even = IsPermutation-refl []
couples_all (s ∷ []) even = absurd (let e : 1 ≡ 0 = even in omega arith)
couples_all (s ∷ t ∷ ss) even =
    IsPermutation-cons s.link (t.link ∷ links_of ss) (match_links (couples_on ss) ++ t.link ∷ between_on ss)
    (IsPermutation-trans (t.link ∷ links_of ss) (t.link ∷ (match_links (couples_on ss) ++ between_on ss)) _
    (IsPermutation-cons t.link (links_of ss) (match_links (couples_on ss) ++ between_on ss)
    (couples_all ss (omega (arith, even))))
    (IsPermutation-sym (match_links (couples_on ss) ++ t.link ∷ between_on ss) _
    (IsPermutation-middle (match_links (couples_on ss)) t.link (between_on ss))))

-- the nodes of the way
pub way_nodes : (before : List CycleStep) (s : CycleStep) → length before % 2 ≡ 0
    → nodes_of (before ++ s ∷ [])
    ≡ paired_on (first_node (before ++ s ∷ [])) (way_of (before ++ s ∷ []))
    ++ last_of (first_node (before ++ s ∷ [])) (way_of (before ++ s ∷ [])) ∷ []
way_nodes [] s even = refl
way_nodes (a ∷ []) s even = absurd (let e : 1 ≡ 0 = even in omega arith)
way_nodes (a ∷ b ∷ []) s even = refl
way_nodes (a ∷ b ∷ c ∷ cs) s even = ap (λ l. a.node ∷ b.node ∷ l) (way_nodes (c ∷ cs) s (omega (arith, even)))

two_links : (x y : ℕ) (ls xs ys : List ℕ) → IsPermutation ls (xs ++ ys) → IsPermutation (x ∷ y ∷ ls) (y ∷ (xs ++ x ∷ ys))
two_links x y ls xs ys moved =
    IsPermutation-trans (x ∷ y ∷ ls) (x ∷ y ∷ (xs ++ ys)) (y ∷ (xs ++ x ∷ ys))
    (IsPermutation-append_right (x ∷ y ∷ []) ls (xs ++ ys) moved)
    (IsPermutation-trans (x ∷ y ∷ (xs ++ ys)) (y ∷ x ∷ (xs ++ ys)) (y ∷ (xs ++ x ∷ ys))
    (IsPermutation-append_left (xs ++ ys) (x ∷ y ∷ []) (y ∷ x ∷ []) (IsPermutation-append_comm (x ∷ []) (y ∷ [])))
    (IsPermutation-cons y (x ∷ (xs ++ ys)) (xs ++ x ∷ ys)
    (IsPermutation-sym (xs ++ x ∷ ys) (x ∷ (xs ++ ys)) (IsPermutation-middle xs x ys))))

-- its links by turns match nodes and are the tree's; the last step's link is neither
pub way_links : (before : List CycleStep) (s : CycleStep) → length before % 2 ≡ 0
    → IsPermutation (links_of before) (grown_on (way_of (before ++ s ∷ [])) ++ matched_on (way_of (before ++ s ∷ [])))
way_links [] s even = IsPermutation-refl []
way_links (a ∷ []) s even = absurd (let e : 1 ≡ 0 = even in omega arith)
way_links (a ∷ b ∷ []) s even = two_links a.link b.link [] [] [] (IsPermutation-refl [])
way_links (a ∷ b ∷ c ∷ cs) s even =
    two_links a.link b.link (links_of (c ∷ cs)) (grown_on (way_of ((c ∷ cs) ++ s ∷ [])))
    (matched_on (way_of ((c ∷ cs) ++ s ∷ []))) (way_links (c ∷ cs) s (omega (arith, even)))

-- all links round: those of the way, those that match couples, and those that are left
pub round_links : (before : List CycleStep) (s : CycleStep) (after : List CycleStep) → length before % 2 ≡ 0
    → length after % 2 ≡ 0
    → IsPermutation (links_of (before ++ s ∷ after))
    ((grown_on (way_of (before ++ s ∷ [])) ++ matched_on (way_of (before ++ s ∷ [])))
    ++ (match_links (couples_on after) ++ s.link ∷ between_on after))
round_links before s after even rest =
    subst (λ l. IsPermutation l (on ++ (match_links (couples_on after) ++ s.link ∷ between_on after)))
    (sym (map-append (λ x. x.link) before (s ∷ after)))
    (IsPermutation-trans (links_of before ++ s.link ∷ links_of after) (on ++ s.link ∷ links_of after) _
    (IsPermutation-append_left (s.link ∷ links_of after) (links_of before) on (way_links before s even))
    (IsPermutation-append_right on (s.link ∷ links_of after) (match_links (couples_on after) ++ s.link ∷ between_on after)
    (IsPermutation-trans (s.link ∷ links_of after) (s.link ∷ (match_links (couples_on after) ++ between_on after)) _
    (IsPermutation-cons s.link (links_of after) (match_links (couples_on after) ++ between_on after) (couples_all after rest))
    (IsPermutation-sym (match_links (couples_on after) ++ s.link ∷ between_on after) _
    (IsPermutation-middle (match_links (couples_on after)) s.link (between_on after))))))
  where
    on : List ℕ
    on = grown_on (way_of (before ++ s ∷ [])) ++ matched_on (way_of (before ++ s ∷ []))

-- what is read if the node's step is an even number of steps on
module _ (r : List CycleStep) (name : ℕ) (at : IsPlacedOn r name) (on : length at.before % 2 ≡ 0) where
  pub placed_nodes : nodes_of r ≡ nodes_of (way_on r name) ++ nodes_of (rest_on r name)
  placed_nodes =
      ap nodes_of (at.whole ∙ sym (append_assoc at.before (at.here ∷ []) at.after))
      ∙ (nodes-append (at.before ++ at.here ∷ []) at.after
      ∙ (ap (λ l. nodes_of l ++ nodes_of at.after) (sym at.way)
      ∙ ap (λ l. nodes_of (way_on r name) ++ nodes_of l) (sym at.rest)))

  pub placed_links : length at.after % 2 ≡ 0
      → IsPermutation (links_of r)
      ((grown_on (way_of (way_on r name)) ++ matched_on (way_of (way_on r name)))
      ++ (match_links (couples_on (rest_on r name)) ++ links_left r name))
  placed_links off =
      subst
      (λ w.
      IsPermutation (links_of r)
      ((grown_on (way_of w) ++ matched_on (way_of w)) ++ (match_links (couples_on (rest_on r name)) ++ links_left r name)))
      (sym at.way)
      (subst
      (λ a. IsPermutation (links_of r) (here ++ (match_links (couples_on a) ++ link_on r name ∷ between_on a)))
      (sym at.rest)
      (subst
      (λ l. IsPermutation (links_of r) (here ++ (match_links (couples_on at.after) ++ l ∷ between_on at.after)))
      (sym at.link)
      (subst
      (λ q. IsPermutation (links_of q) (here ++ (match_links (couples_on at.after) ++ at.here.link ∷ between_on at.after)))
      (sym at.whole) (round_links at.before at.here at.after on off))))
    where
      here : List ℕ
      here = grown_on (way_of (at.before ++ at.here ∷ [])) ++ matched_on (way_of (at.before ++ at.here ∷ []))

  module _ (f : ℕ → Link) where
    pub placed_passes : passes_along (take (place_on r name) (others_of r)) (take (place_on r name) (map f (links_of r)))
        ≡ map (map_pass f) (way_of (way_on r name))
    placed_passes =
        ap (λ k. passes_along (take k (others_of r)) (take k (map f (links_of r)))) at.place
        ∙ (ap (λ q. passes_along (take (length at.before) (others_of q)) (take (length at.before) (map f (links_of q))))
        at.whole
        ∙ (passes_are f at.before at.here at.after on ∙ ap (λ w. map (map_pass f) (way_of w)) (sym at.way)))

    pub placed_couples : couples_along (drop (place_on r name) (others_of r)) (drop (place_on r name) (map f (links_of r)))
        ≡ map (couple_by f) (couples_on (rest_on r name))
    placed_couples =
        ap (λ k. couples_along (drop k (others_of r)) (drop k (map f (links_of r)))) at.place
        ∙ (ap (λ q. couples_along (drop (length at.before) (others_of q)) (drop (length at.before) (map f (links_of q))))
        at.whole
        ∙ (ap (λ l. couples_along l (drop (length at.before) (map f (links_of (at.before ++ at.here ∷ at.after)))))
        (nodes_after at.before at.here at.after)
        ∙ (ap (couples_along (nodes_of at.after)) (links_after f at.before at.here at.after)
        ∙ (couples_are f at.after (f at.here.link) ∙ ap (λ a. map (couple_by f) (couples_on a)) (sym at.rest)))))
