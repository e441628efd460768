-- Odd components without boundary: they have no correction, and closed odd sets are such.
use Rattle.std.proofs.Common.{ℕ, ◌<◌, ◌≤◌, ◌≡◌, Bool, true, false, List, length, get_or, refl, sym, ap, ◌∙◌, arith}
use Rattle.std.proofs.lemmas.Bool.{false≢true, both_ways}
use Rattle.fb_graph.specs.Parity.{differ, is_odd_count, is_in}
use Rattle.fb_graph.specs.Problem.{Problem, edge_at, crosses}
use Rattle.fb_graph.specs.Components.{IsJoined, IsComponent, IsOddAt}
use Rattle.fb_graph.specs.Laws.{NoCorrection, CertifiedHasNoOdd, ClosedIsOdd, LeastIsFirstOdd, SomeIsFirstOdd}
use Rattle.fb_graph.proofs.ParitySums.{odd_agree, odd_none}
use Rattle.fb_graph.proofs.Sets.{All-from_is_in, is_in-All, member_of_odd, least_member}
use Rattle.fb_graph.proofs.Walks.{joined_trans, joined_sym, joined_ends, walk_stays}
use Rattle.fb_graph.proofs.Duality.{odd-crosses}

-- no edge leaves a component
pub component_uncrossed : (p : Problem) (v : ℕ) (members : List ℕ) → IsComponent p v members
    → (k : ℕ) → k < length p.edges → crosses members (edge_at p.edges k) ≡ false
component_uncrossed p v members component k within =
    same (is_in members (edge_at p.edges k).first) (is_in members (edge_at p.edges k).second)
    (λ h. component.whole _ (joined_trans p v _ _ (component.inside _ h) (joined_ends p k within)))
    (λ h. component.whole _ (joined_trans p v _ _ (component.inside _ h) (joined_sym p _ _ (joined_ends p k within))))
  where
    same : (a b : Bool) → (a ≡ true → b ≡ true) → (b ≡ true → a ≡ true) → differ a b ≡ false
    same true b there back = ap (differ true) (there refl)
    same false true there back = absurd (false≢true (back refl))
    same false false there back = refl

pub no_correction : NoCorrection
no_correction p v odd chosen within flips =
    both_ways (is_odd_count (λ k. crosses odd.members (edge_at p.edges k)) chosen)
    (odd_agree (λ k. crosses odd.members (edge_at p.edges k)) (λ k. false) chosen
    (λ i d less. component_uncrossed p v odd.members odd.component (get_or chosen i d) (within i d less))
    ∙ odd_none chosen)
    (odd-crosses p chosen odd.members flips odd.component.distinct
    (All-from_is_in (λ u. p.is_real u ≡ true) odd.members odd.real) ∙ odd.odd)

pub certified_has_no_odd : CertifiedHasNoOdd
certified_has_no_odd p chosen weight cuts best v odd = no_correction p v odd chosen best.edge_set.within best.flips

pub closed_is_odd : ClosedIsOdd
closed_is_odd p v set round odd = record {
  below = is_in-All (λ u. u < p.vertices) set round.below v round.holds;
  members = set;
  component = record {
    distinct = round.closed.distinct;
    inside = round.joined;
    whole = λ u joined. sym (walk_stays p set joined.0 v u round.closed.uncrossed joined.1) ∙ round.holds;
  };
  real = is_in-All (λ u. p.is_real u ≡ true) set round.closed.real;
  odd = odd;
}

pub least_is_first_odd : LeastIsFirstOdd
least_is_first_odd p v set round odd all least within bound = (
  closed_is_odd p least set
      (record {
        closed = round.closed;
        below = round.below;
        holds = within;
        joined = λ u h. joined_trans p least v u (joined_sym p v least (round.joined least within)) (round.joined u h);
      })
      odd,
  λ u less other. not_before u less other (member_of_odd p.is_defect other.members other.odd),
)
  where
    not_before : (u : ℕ) → u < least → (other : IsOddAt p u)
        → (w : ℕ) × (is_in other.members w ≡ true) × (p.is_defect w ≡ true) → ⊥
    not_before u less other (w, among, defect) =
        let joined : IsJoined p u w = other.component.inside w among in
        let here : is_in set u ≡ true =
        walk_stays p set joined.0 u w round.closed.uncrossed joined.1 ∙ all w defect (other.real w among) in
        let enough : least ≤ u = bound u here in
        omega arith

pub some_is_first_odd : SomeIsFirstOdd
some_is_first_odd p v set round odd all =
    let (least, within, bound) = least_member set v round.holds in
    (least, least_is_first_odd p v set round odd all least within bound)
