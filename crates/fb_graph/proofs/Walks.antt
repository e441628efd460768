-- Walks by edge numbers: joined, turned round, and kept within closed sets.
use Rattle.std.proofs.Common.{ℕ, ◌<◌, ◌≡◌, ◌==◌, false, List, [], ◌∷◌, ◌++◌, reverse, length, All, refl, sym, ap, ◌∙◌, subst, inl, inr}
use Rattle.std.proofs.lemmas.List.{reverse-append}
use Rattle.std.proofs.lemmas.List.Elements.{All-nil, All-cons}
use Rattle.fb_graph.specs.Parity.{differ, is_odd_count, is_in}
use Rattle.fb_graph.specs.Problem.{Problem, edge_at, no_edge, touches, crosses}
use Rattle.fb_graph.specs.Components.{Leads, IsWalkBy, IsJoined}
use Rattle.fb_graph.specs.Laws.{WalkParity}
use Rattle.fb_graph.specs.declared.parts.Edge.{Edge}
use Rattle.fb_graph.proofs.ParitySums.{differ_comm, differ_self, differ_through, same_from_differ}

pub Leads_flip : (e : Edge) (from to : ℕ) → Leads e from to → Leads e to from
Leads_flip e from to (inl h) = inr (h.1, h.0)
Leads_flip e from to (inr h) = inl (h.1, h.0)

pub IsWalkBy-append : (p : Problem) (ks ls : List ℕ) (a b c : ℕ) → IsWalkBy p ks a b → IsWalkBy p ls b c
    → IsWalkBy p (ks ++ ls) a c
IsWalkBy-append p [] ls a b c first second = subst (λ x. IsWalkBy p ls x c) (sym first) second
IsWalkBy-append p (k ∷ ks) ls a b c (next, within, leads, rest) second =
    (next, within, leads, IsWalkBy-append p ks ls next b c rest second)

pub IsWalkBy-one : (p : Problem) (k a b : ℕ) → k < length p.edges → Leads (edge_at p.edges k) a b
    → IsWalkBy p (k ∷ []) a b
IsWalkBy-one p k a b within leads = (b, within, leads, refl)

pub IsWalkBy-reverse : (p : Problem) (ks : List ℕ) (a b : ℕ) → IsWalkBy p ks a b → IsWalkBy p (reverse ks) b a
IsWalkBy-reverse p [] a b walk = sym walk
IsWalkBy-reverse p (k ∷ ks) a b (next, within, leads, rest) =
    subst (λ ls. IsWalkBy p ls b a) (sym (reverse-append (k ∷ []) ks))
    (IsWalkBy-append p (reverse ks) (k ∷ []) b next a (IsWalkBy-reverse p ks next b rest)
    (IsWalkBy-one p k next a within (Leads_flip (edge_at p.edges k) a next leads)))

-- a walk is one over the same edges
pub walk_same : (p q : Problem) → p.edges ≡ q.edges → (ks : List ℕ) (a b : ℕ) → IsWalkBy p ks a b → IsWalkBy q ks a b
walk_same p q edges [] a b walk = walk
walk_same p q edges (k ∷ ks) a b (next, within, leads, rest) = (
  next,
  subst (λ es. k < length es) edges within,
  subst (λ es. Leads (edge_at es k) a next) edges leads,
  walk_same p q edges ks next b rest,
)

pub joined_self : (p : Problem) (v : ℕ) → IsJoined p v v
joined_self p v = ([], refl)

pub joined_sym : (p : Problem) (a b : ℕ) → IsJoined p a b → IsJoined p b a
joined_sym p a b (ks, walk) = (reverse ks, IsWalkBy-reverse p ks a b walk)

pub joined_trans : (p : Problem) (a b c : ℕ) → IsJoined p a b → IsJoined p b c → IsJoined p a c
joined_trans p a b c (ks, walk) (ls, more) = (ks ++ ls, IsWalkBy-append p ks ls a b c walk more)

-- the ends of an edge are joined
pub joined_ends : (p : Problem) (k : ℕ) → k < length p.edges
    → IsJoined p (edge_at p.edges k).first (edge_at p.edges k).second
joined_ends p k within = (k ∷ [], IsWalkBy-one p k _ _ within (inl (refl, refl)))

-- an edge that doesn't cross a set has both ends in it or none
pub same_side : (set : List ℕ) (e : Edge) (a b : ℕ) → crosses set e ≡ false → Leads e a b → is_in set a ≡ is_in set b
same_side set e a b stays (inl (first, second)) =
    ap (is_in set) (sym first) ∙ (same_from_differ (is_in set e.first) (is_in set e.second) stays ∙ ap (is_in set) second)
same_side set e a b stays (inr (second, first)) =
    ap (is_in set) (sym second)
    ∙ (sym (same_from_differ (is_in set e.first) (is_in set e.second) stays) ∙ ap (is_in set) first)

-- a walk leaves no set that no edge crosses
pub walk_stays : (p : Problem) (set ks : List ℕ) (a b : ℕ) → All (λ e. crosses set e ≡ false) p.edges
    → IsWalkBy p ks a b → is_in set a ≡ is_in set b
walk_stays p set [] a b uncrossed walk = ap (is_in set) walk
walk_stays p set (k ∷ ks) a b uncrossed (next, within, leads, rest) =
    same_side set (edge_at p.edges k) a next (uncrossed k no_edge within) leads
    ∙ walk_stays p set ks next b uncrossed rest

-- what the edge touches, by the ends in the order of a step over it
pub touches_as_leads : (v : ℕ) (e : Edge) (from to : ℕ) → Leads e from to → touches v e ≡ differ (v == from) (v == to)
touches_as_leads v e from to (inl (first, second)) =
    ap (λ a. differ (v == a) (v == e.second)) first ∙ ap (λ b. differ (v == from) (v == b)) second
touches_as_leads v e from to (inr (second, first)) =
    differ_comm (v == e.first) (v == e.second)
    ∙ (ap (λ a. differ (v == a) (v == e.first)) second ∙ ap (λ b. differ (v == from) (v == b)) first)

pub walk_parity : WalkParity
walk_parity p [] from to walk v = sym (ap (λ a. differ (v == a) (v == to)) walk ∙ differ_self (v == to))
walk_parity p (k ∷ ks) from to (next, within, leads, rest) v =
    ap (λ a. differ a (is_odd_count (λ j. touches v (edge_at p.edges j)) ks))
    (touches_as_leads v (edge_at p.edges k) from next leads)
    ∙ (ap (differ (differ (v == from) (v == next))) (walk_parity p ks next to rest v)
    ∙ differ_through (v == from) (v == next) (v == to))

pub walk_within : (p : Problem) (ks : List ℕ) (from to : ℕ) → IsWalkBy p ks from to → All (λ k. k < length p.edges) ks
walk_within p [] from to walk = All-nil (λ k. k < length p.edges)
walk_within p (k ∷ ks) from to (next, within, leads, rest) =
    All-cons (λ j. j < length p.edges) k ks within (walk_within p ks next to rest)
