-- A perfect matching of tight links adds up to a correction of least weight.
use Rattle.std.proofs.Common.{ℕ, ◌<◌, ◌≤◌, cond, List, [], ◌∷◌, length, get_or, All, sum_by, flat_map, ◌∙◌, le_trans, le_of_eq, le_antisymm}
use Rattle.std.proofs.lemmas.List.Elements.{All-nil, All-append, All-head, All-tail}
use Rattle.fb_graph.specs.Parity.{is_odd_count}
use Rattle.fb_graph.specs.Problem.{Problem, Flips, edge_at, touches, crosses, weight_of}
use Rattle.fb_graph.specs.Certificate.{load_of, total_value}
use Rattle.fb_graph.specs.Components.{IsWalkBy}
use Rattle.fb_graph.specs.Laws.{Link, ends_of, IsPerfect, odd_edges, Resolving}
use Rattle.fb_graph.specs.declared.parts.Cut.{Cut}
use Rattle.fb_graph.proofs.ParitySums.{odd_agree, odd-flat_map}
use Rattle.fb_graph.proofs.Sums.{sum_le, sum_same, sum_exchange, sum-flat_map, sum_of_once}
use Rattle.fb_graph.proofs.Walks.{walk_parity, walk_within}
use Rattle.fb_graph.proofs.OddOnes.{odd_ones_rise, odd_ones_count, odd_ones_weigh}
use Rattle.fb_graph.proofs.Duality.{weak_duality}

-- the edges of the links' walks, one walk after another
abbrev pub steps_of : List Link → List ℕ
steps_of links = flat_map (λ l. l.walk) links

pub steps_within : (p : Problem) (links : List Link) → All (λ l. IsWalkBy p l.walk l.from l.to) links
    → All (λ k. k < length p.edges) (steps_of links)
steps_within p [] walks = All-nil (λ k. k < length p.edges)
steps_within p (l ∷ links) walks =
    All-append (λ k. k < length p.edges) l.walk (steps_of links)
    (walk_within p l.walk l.from l.to (All-head (λ m. IsWalkBy p m.walk m.from m.to) l links walks))
    (steps_within p links (All-tail (λ m. IsWalkBy p m.walk m.from m.to) l links walks))

pub links_flip : (p : Problem) (cuts : List Cut) (links : List Link) → IsPerfect p cuts links
    → Flips p (odd_edges p links)
links_flip p cuts links perfect v real =
    odd_ones_count (length p.edges) (steps_of links) (steps_within p links perfect.walks)
    (λ k. touches v (edge_at p.edges k))
    ∙ (odd-flat_map (λ l. l.walk) (λ k. touches v (edge_at p.edges k)) links
    ∙ (odd_agree (λ l. is_odd_count (λ k. touches v (edge_at p.edges k)) l.walk) (λ l. touches v (ends_of l)) links
    (λ i d less. walk_parity p (get_or links i d).walk (get_or links i d).from (get_or links i d).to
    (perfect.walks i d less) v)
    ∙ perfect.flips v real))

-- the walks together weigh at most what the cuts are worth
pub links-le-total : (p : Problem) (cuts : List Cut) (links : List Link) → IsPerfect p cuts links
    → weight_of p (steps_of links) ≤ total_value cuts
links-le-total p cuts links perfect =
    le_trans
    (le_of_eq
    (sum-flat_map (λ l. l.walk) (λ k. (edge_at p.edges k).weight) links
    ∙ (sum_same (λ l. weight_of p l.walk) (λ l. load_of cuts (ends_of l)) links perfect.tight
    ∙ sum_exchange (λ l c. cond (crosses c.vertices (ends_of l)) c.value 0) links cuts)))
    (sum_le (λ c. sum_by (λ l. cond (crosses c.vertices (ends_of l)) c.value 0) links) (λ c. c.value) cuts
    (λ i d less. sum_of_once (λ l. crosses (get_or cuts i d).vertices (ends_of l)) (get_or cuts i d).value links
    (perfect.once i d less)))

pub resolving : Resolving
resolving p cuts links packing perfect = record {
  edge_set = record {
    rising = (odd_ones_rise (length p.edges) (steps_of links)).0;
    within = (odd_ones_rise (length p.edges) (steps_of links)).1;
  };
  flips = links_flip p cuts links perfect;
  weighs =
      le_antisymm
      (le_trans
      (odd_ones_weigh (length p.edges) (steps_of links) (steps_within p links perfect.walks)
      (λ k. (edge_at p.edges k).weight))
      (links-le-total p cuts links perfect))
      (weak_duality p cuts (odd_edges p links) packing (odd_ones_rise (length p.edges) (steps_of links)).1
      (links_flip p cuts links perfect));
}
