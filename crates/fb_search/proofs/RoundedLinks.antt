-- Two links to an outer node of one defect without potential, joined at the defect.
use Rattle.std.proofs.Common.{ℕ, ◌≡◌, ◌≢◌, ◌==◌, ◌<◌, ◌^◌, inl, inr, Bool, cond, true, false, List, [], ◌∷◌, map, All, arith, refl, sym, ap, ◌∙◌, subst}
use Rattle.std.proofs.lemmas.Bool.{both_ways, eq-eqb, eqb-true, or_cases, or_left, or_right}
use Rattle.std.proofs.lemmas.List.Elements.{All-head, All-tail, All-weaker}
use Rattle.std.proofs.lemmas.List.Sums.{sum_by_push}
use Rattle.fb_graph.specs.Problem.{Problem, crosses}
use Rattle.fb_graph.specs.declared.parts.Cut.{Cut}
use Rattle.fb_graph.specs.Certificate.{total_value}
use Rattle.fb_graph.specs.Laws.{ends_of}
use Rattle.fb_graph.specs.Links.{IsTightLink}
use Rattle.fb_graph.specs.Dual.{IsDual, Node, all_cuts, layers_at, layers_of}
use Rattle.fb_graph.specs.Nests.{IsNest}
use Rattle.fb_graph.proofs.CutSums.{weigh-le}
use Rattle.fb_laws.specs.Fusion.{IsLinkOf}
use Rattle.fb_laws.specs.SingleDefects.{HasEnd, IsDefectUnder, IsSingle, link_through}
use Rattle.fb_laws.specs.Trees.{Connects}
use Rattle.fb_laws.specs.Works.{AreMatchedLinks}
use Rattle.fb_laws.proofs.SingleDefects.{ends_meet_under, links_through, one_defect}
use Rattle.fb_links.specs.declared.walk.Step.{Step}
use Rattle.fb_links.specs.Walks.{end_of, is_end, joined_walk, meeting_vertex, share_end, start_of, walk_weight}
use Rattle.fb_half.specs.Parts.{AreStepsOf}
use Rattle.fb_half.specs.Translations.{link_of}
use Rattle.fb_obstacles.specs.Obstacles.{IsZeroDefect}
use Rattle.fb_search.proofs.StepWalks.{joined_steps, joined_through, steps_weigh}

-- the walks may be joined, and are then a tight link between the two nodes
pub record AreRounded (p : Problem) (nodes : List Node) (a b : ℕ) (first second : List Step) : Type 0 where
  pub meet : share_end first second ≡ true
  pub light : walk_weight (joined_walk first second) < 2 ^ 64
  pub steps : AreStepsOf p (joined_walk first second)
  pub matched : AreMatchedLinks p nodes (link_of (joined_walk first second) ∷ [])
  pub connects : Connects nodes (link_of (joined_walk first second)) a b

-- a vertex at an end of the link is one at an end of the walk
end_there : (walk : List Step) (v : ℕ) → HasEnd (link_of walk) v → is_end walk v ≡ true
end_there walk v (inl same) = or_left (v == start_of walk) (v == end_of walk) (eq-eqb v (start_of walk) (sym same))
end_there walk v (inr same) = or_right (v == start_of walk) (v == end_of walk) (eq-eqb v (end_of walk) (sym same))

there_end : (walk : List Step) (v : ℕ) → is_end walk v ≡ true → HasEnd (link_of walk) v
there_end walk v is =
    elim (or_cases (v == start_of walk) (v == end_of walk) is)
    [ inl e ↦ inl (sym (eqb-true v (start_of walk) e)) | inr e ↦ inr (sym (eqb-true v (end_of walk) e)) ]

-- walks that have a vertex as an end of both share one
ends_shared : (first second : List Step) (v : ℕ) → HasEnd (link_of first) v → HasEnd (link_of second) v
    → share_end first second ≡ true
ends_shared first second v (inl same) other =
    or_right (is_end second (end_of first)) (is_end second (start_of first))
    (ap (is_end second) same ∙ end_there second v other)
ends_shared first second v (inr same) other =
    or_left (is_end second (end_of first)) (is_end second (start_of first))
    (ap (is_end second) same ∙ end_there second v other)

-- where they meet is an end of both
meeting_ends : (first second : List Step) → share_end first second ≡ true
    → HasEnd (link_of first) (meeting_vertex first second) × HasEnd (link_of second) (meeting_vertex first second)
meeting_ends first second share = by (is_end second (end_of first)) refl
  where
    by : (b : Bool) → is_end second (end_of first) ≡ b
        → HasEnd (link_of first) (cond b (end_of first) (start_of first))
        × HasEnd (link_of second) (cond b (end_of first) (start_of first))
    by true e = (inr refl, there_end second (end_of first) e)
    by false e = (
      inl refl,
      there_end second (start_of first)
          (elim (or_cases (is_end second (end_of first)) (is_end second (start_of first)) share)
          [ inl h ↦ absurd (both_ways (is_end second (end_of first)) e h) | inr h ↦ h ]),
    )

-- a node of one empty layer has no value
no_value : (name : ℕ) (ns : List Node)
    → All (λ n. n.name ≡ name → (n.children ≡ []) × (n.below ≡ []) × (n.top.value ≡ 0)) ns
    → total_value (layers_at ns name) ≡ 0
no_value name [] bare = refl
no_value name (n ∷ ns) bare = by (n.name == name) refl (no_value name ns (All-tail Bare n ns bare))
  where
    Bare : Node → Type 0
    Bare m = m.name ≡ name → (m.children ≡ []) × (m.below ≡ []) × (m.top.value ≡ 0)

    by : (b : Bool) → (n.name == name) ≡ b → total_value (layers_at ns name) ≡ 0
        → total_value (cond b (layers_of n) (layers_at ns name)) ≡ 0
    by true e rest =
        let is = All-head Bare n ns bare (eqb-true n.name name e) in
        omega (arith, sum_by_push (λ (c : Cut). c.value) n.below n.top, ap total_value is.1, is.2)
    by false e rest = rest

-- a tight link weighs no more than all cuts together
light_link : (p : Problem) (nodes : List Node) (walk : List Step) → IsDual p nodes → AreStepsOf p walk
    → AreMatchedLinks p nodes (link_of walk ∷ []) → walk_weight walk < 2 ^ 64
light_link p nodes walk dual steps are =
    let tight : IsTightLink p (all_cuts nodes) (link_of walk) =
    All-head (IsTightLink p (all_cuts nodes)) (link_of walk) [] are.tight in
    omega (
      arith,
      steps_weigh p walk steps,
      tight.tight,
      weigh-le (λ s. crosses s (ends_of (link_of walk))) (all_cuts nodes),
      dual.total,
    )

-- the walk of a link of the problem has a step
some_steps : (p : Problem) (walk : List Step) → IsLinkOf p (link_of walk) → walk ≢ []
some_steps p walk own none = own.moves (ap (map (λ s. s.edge)) none)

-- Two tight links to the node of a defect without potential may be joined, and are then a tight link.
pub links_rounded : (p : Problem) (nodes : List Node) (first second : List Step) (a name b : ℕ) → IsNest p nodes
    → IsZeroDefect nodes name → AreMatchedLinks p nodes (link_of first ∷ link_of second ∷ [])
    → Connects nodes (link_of first) a name → Connects nodes (link_of second) name b → (a ≡ name → ⊥) → (name ≡ b → ⊥)
    → (a ≡ b → ⊥) → AreStepsOf p first → AreStepsOf p second → AreRounded p nodes a b first second
links_rounded p nodes first second a name b nest zero are to_first to_second apart_a apart_b apart steps others =
    let single : IsSingle nodes name =
    All-weaker (λ (n : Node). n.name ≡ name → (n.children ≡ []) × (n.below ≡ []) × (n.top.value ≡ 0))
    (λ (n : Node). n.name ≡ name → n.children ≡ []) (λ n is same. (is same).0) nodes zero.bare in
    let (d, under, end, other, matched, connects) =
    links_through p nodes (link_of first) (link_of second) a name b nest single (no_value name nodes zero.bare) are
    to_first to_second apart_a apart_b apart in
    let share = ends_shared first second d end other in
    let ends = meeting_ends first second share in
    let at_meeting : IsDefectUnder nodes name (meeting_vertex first second) =
    ends_meet_under p nodes (link_of first) (link_of second) a name b (meeting_vertex first second) nest.dual are to_first
    to_second apart_a apart_b apart ends.0 ends.1 in
    let same : d ≡ meeting_vertex first second =
    one_defect p nodes name d (meeting_vertex first second) nest single under at_meeting in
    let is : link_through d (link_of first) (link_of second) ≡ link_of (joined_walk first second) =
    ap (λ v. link_through v (link_of first) (link_of second)) same
    ∙ sym (joined_through first second (some_steps p first own_first) (some_steps p second own_second)) in
    let whole : AreMatchedLinks p nodes (link_of (joined_walk first second) ∷ []) =
    subst (λ l. AreMatchedLinks p nodes (l ∷ [])) is matched in
    let along = joined_steps p first second steps others in
    record {
      meet = share;
      light = light_link p nodes (joined_walk first second) nest.dual along whole;
      steps = along;
      matched = whole;
      connects = subst (λ l. Connects nodes l a b) is connects;
    }
  where
    own_first : IsLinkOf p (link_of first)
    own_first = All-head (IsLinkOf p) (link_of first) (link_of second ∷ []) are.own

    own_second : IsLinkOf p (link_of second)
    own_second =
        All-head (IsLinkOf p) (link_of second) [] (All-tail (IsLinkOf p) (link_of first) (link_of second ∷ []) are.own)
