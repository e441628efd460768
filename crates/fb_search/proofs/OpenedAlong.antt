-- A cycle opened between two of its nodes: the way, the couples and the links that are left, as the laws see them.
use Rattle.std.proofs.Common.{ℕ, ◌≡◌, ◌%◌, ◌<◌, ◌==◌, Bool, true, false, List, [], ◌∷◌, ◌++◌, map, length, take, drop, get_or, refl, sym, ap, ◌∙◌, subst, arith, if◌then◌else◌}
use Rattle.std.specs.List.Sorted.{IsPermutation}
use Rattle.std.proofs.lemmas.List.{drop-map, length-append, length-map, take-map}
use Rattle.std.proofs.lemmas.List.Sorted.{IsPermutation-append_comm, IsPermutation-cons, IsPermutation-map, IsPermutation-refl, IsPermutation-reverse, IsPermutation-trans, length_permutation}
use Rattle.fb_graph.specs.Parity.{is_in}
use Rattle.fb_graph.specs.Certificate.{AreDistinct}
use Rattle.fb_graph.specs.Laws.{Link}
use Rattle.fb_links.specs.declared.cycle.CycleStep.{CycleStep}
use Rattle.fb_laws.specs.OpenedCycles.{grown_on, last_of, matched_on, paired_on}
use Rattle.fb_laws.specs.OpenedLinks.{round_from}
use Rattle.fb_laws.specs.RingWays.{Round, couples_after, couples_along, even_steps, passes_along, round_at, way_to}
use Rattle.fb_laws.proofs.OpenedBlossoms.{distinct_permuted, in_permuted}
use Rattle.fb_half.specs.Matchings.{match_links, matched_names}
use Rattle.fb_trees.specs.Replacements.{first_node, way_of}
use Rattle.fb_trees.specs.TreeLinks.{map_pass}
use Rattle.fb_search.specs.InternalOpenings.{couples_on, even_on, links_left, place_on, rest_on, round_on, turned_on, way_on}
use Rattle.fb_search.proofs.Agreed.{nodes_of}
use Rattle.fb_search.proofs.OpenedPlaces.{IsPlacedOn, links_of, node_at_place, nodes-append, others_of, place_within, placed_on, round_is, turned_links, turned_nodes}
use Rattle.fb_search.proofs.OpenedRounds.{even_place, even_place_even, even_round_is, round_at_is, round_by}
use Rattle.fb_search.proofs.OpenedWays.{couple_by, couples_nodes, placed_couples, placed_links, placed_nodes, placed_passes, way_nodes}

-- the same nodes and links in the other direction
even_nodes : (r : List CycleStep) (name : ℕ) → IsPermutation (nodes_of r) (nodes_of (even_on r name))
even_nodes [] name = IsPermutation-refl []
even_nodes (s ∷ ss) name = by (place_on (s ∷ ss) name % 2 == 0)
  where
    by : (b : Bool) → IsPermutation (nodes_of (s ∷ ss)) (nodes_of (if b then s ∷ ss else turned_on (s ∷ ss)))
    by true = IsPermutation-refl (nodes_of (s ∷ ss))
    by false =
        subst (IsPermutation (nodes_of (s ∷ ss))) (sym (turned_nodes s ss))
        (IsPermutation-cons s.node (nodes_of ss) _ (IsPermutation-reverse (nodes_of ss)))

even_links : (r : List CycleStep) (name : ℕ) → IsPermutation (links_of r) (links_of (even_on r name))
even_links [] name = IsPermutation-refl []
even_links (s ∷ ss) name = by (place_on (s ∷ ss) name % 2 == 0)
  where
    by : (b : Bool) → IsPermutation (links_of (s ∷ ss)) (links_of (if b then s ∷ ss else turned_on (s ∷ ss)))
    by true = IsPermutation-refl (links_of (s ∷ ss))
    by false =
        subst (IsPermutation (links_of (s ∷ ss))) (sym (turned_links s ss)) (IsPermutation-reverse (links_of (s ∷ ss)))

abbrev head_of : List ℕ → ℕ
head_of [] = 0
head_of (x ∷ xs) = x

head_is : (r : List CycleStep) → first_node r ≡ head_of (nodes_of r)
head_is [] = refl
head_is (s ∷ ss) = refl

even_first : (r : List CycleStep) (name : ℕ) → first_node (even_on r name) ≡ first_node r
even_first [] name = refl
even_first (s ∷ ss) name = by (place_on (s ∷ ss) name % 2 == 0)
  where
    by : (b : Bool) → first_node (if b then s ∷ ss else turned_on (s ∷ ss)) ≡ s.node
    by true = refl
    by false = head_is (turned_on (s ∷ ss)) ∙ ap head_of (turned_nodes s ss)

first_kept : (before : List CycleStep) (s : CycleStep) (after : List CycleStep)
    → first_node (before ++ s ∷ []) ≡ first_node (before ++ s ∷ after)
first_kept [] s after = refl
first_kept (b ∷ bs) s after = refl

module _ (cycle : List CycleStep) (above below : ℕ) (distinct : AreDistinct (nodes_of cycle)) (odd : length cycle % 2 ≡ 1)
    (above_on : is_in (nodes_of cycle) above ≡ true) (below_on : is_in (nodes_of cycle) below ≡ true) where
  abbrev round : List CycleStep
  round = round_on cycle above

  abbrev even : List CycleStep
  even = even_on round below

  abbrev way : List CycleStep
  way = way_on even below

  abbrev rest : List CycleStep
  rest = rest_on even below

  at : IsPlacedOn cycle above
  at = placed_on cycle above above_on

  begun : IsPermutation cycle round
  begun =
      subst (IsPermutation cycle) (sym (round_is cycle above at))
      (subst (λ c. IsPermutation c ((at.here ∷ at.after) ++ at.before)) (sym at.whole)
      (IsPermutation-append_comm at.before (at.here ∷ at.after)))

  round_nodes : IsPermutation (nodes_of cycle) (nodes_of round)
  round_nodes = IsPermutation-map (λ s. s.node) cycle round begun

  round_on_it : is_in (nodes_of round) below ≡ true
  round_on_it = in_permuted (nodes_of cycle) (nodes_of round) round_nodes below below_on

  round_distinct : AreDistinct (nodes_of round)
  round_distinct = distinct_permuted (nodes_of cycle) (nodes_of round) round_nodes distinct

  all_nodes : IsPermutation (nodes_of cycle) (nodes_of even)
  all_nodes = IsPermutation-trans (nodes_of cycle) (nodes_of round) (nodes_of even) round_nodes (even_nodes round below)

  even_at : IsPlacedOn even below
  even_at = placed_on even below (in_permuted (nodes_of cycle) (nodes_of even) all_nodes below below_on)

  round_odd : length round % 2 ≡ 1
  round_odd = ap (λ k. k % 2) (length_permutation cycle round begun) ∙ odd

  even_size : length even ≡ length cycle
  even_size =
      sym (length-map even (λ s. s.node))
      ∙ (length_permutation (nodes_of cycle) (nodes_of even) all_nodes ∙ length-map cycle (λ s. s.node))

  before_even : length even_at.before % 2 ≡ 0
  before_even = ap (λ k. k % 2) (sym even_at.place) ∙ even_place_even round below round_odd round_distinct round_on_it

  after_even : length even_at.after % 2 ≡ 0
  after_even =
      omega (
        arith,
        before_even,
        even_size,
        odd,
        ap length even_at.whole,
        length-append even_at.before (even_at.here ∷ even_at.after),
      )

  pub way_odd : length way % 2 ≡ 1
  way_odd =
      ap (λ l. length l % 2) even_at.way
      ∙ omega (arith, before_even, length-append even_at.before (even_at.here ∷ []))

  pub rest_even : length rest % 2 ≡ 0
  rest_even = ap (λ l. length l % 2) even_at.rest ∙ after_even

  pub from_is : get_or (nodes_of cycle) (place_on cycle above) 0 ≡ above
  from_is = node_at_place cycle above above_on

  pub to_is : get_or (round_from (place_on cycle above) (nodes_of cycle)) (place_on round below) 0 ≡ below
  to_is =
      ap (λ l. get_or l (place_on round below) 0)
      (ap (λ l. l ++ take (place_on cycle above) (nodes_of cycle)) (drop-map (λ s. s.node) (place_on cycle above) cycle)
      ∙ (ap (λ l. nodes_of (drop (place_on cycle above) cycle) ++ l) (take-map (λ s. s.node) (place_on cycle above) cycle)
      ∙ sym (nodes-append (drop (place_on cycle above) cycle) (take (place_on cycle above) cycle))))
      ∙ node_at_place round below round_on_it

  pub steps_within : place_on round below < length (nodes_of cycle)
  steps_within =
      omega (arith, place_within round below round_on_it, length_permutation (nodes_of cycle) (nodes_of round) round_nodes)

  pub first_is : first_node way ≡ above
  first_is =
      ap first_node even_at.way
      ∙ (first_kept even_at.before even_at.here even_at.after
      ∙ (ap first_node (sym even_at.whole)
      ∙ (even_first round below ∙ (ap first_node (round_is cycle above at) ∙ at.named))))

  pub nodes_parted : IsPermutation (nodes_of cycle) (nodes_of way ++ nodes_of rest)
  nodes_parted = subst (IsPermutation (nodes_of cycle)) (placed_nodes even below even_at before_even) all_nodes

  pub links_parted : IsPermutation (links_of cycle)
      ((grown_on (way_of way) ++ matched_on (way_of way)) ++ (match_links (couples_on rest) ++ links_left even below))
  links_parted =
      IsPermutation-trans (links_of cycle) (links_of even) _
      (IsPermutation-trans (links_of cycle) (links_of round) (links_of even) (IsPermutation-map (λ s. s.link) cycle round begun)
      (even_links round below))
      (placed_links even below even_at before_even after_even)

  pub couples_listed : matched_names (couples_on rest) ≡ nodes_of rest
  couples_listed = couples_nodes rest rest_even

  pub way_listed : nodes_of way ≡ paired_on (first_node way) (way_of way) ++ last_of (first_node way) (way_of way) ∷ []
  way_listed =
      subst (λ w. nodes_of w ≡ paired_on (first_node w) (way_of w) ++ last_of (first_node w) (way_of w) ∷ [])
      (sym even_at.way) (way_nodes even_at.before even_at.here before_even)

  module _ (f : ℕ → Link) where
    abbrev Ring : Round Link
    Ring = round_at (place_on cycle above) (nodes_of cycle) (map f (links_of cycle))

    abbrev on : ℕ
    on = even_steps (place_on round below) (round_by f round)

    pub way_is : way_to (place_on round below) Ring ≡ map (map_pass f) (way_of way)
    way_is =
        ap (way_to (place_on round below)) (round_at_is f cycle above at)
        ∙ (ap (λ q. passes_along (take on q.others) (take on q.links))
        (even_round_is f round below)
        ∙ (ap (λ k. passes_along (take k (others_of even)) (take k (map f (links_of even))))
        (sym (even_place f round below round_distinct round_on_it))
        ∙ placed_passes even below even_at before_even f))

    pub couples_is : couples_after (place_on round below) Ring ≡ map (couple_by f) (couples_on rest)
    couples_is =
        ap (couples_after (place_on round below)) (round_at_is f cycle above at)
        ∙ (ap (λ q. couples_along (drop on q.others) (drop on q.links))
        (even_round_is f round below)
        ∙ (ap (λ k. couples_along (drop k (others_of even)) (drop k (map f (links_of even))))
        (sym (even_place f round below round_distinct round_on_it))
        ∙ placed_couples even below even_at before_even f))
