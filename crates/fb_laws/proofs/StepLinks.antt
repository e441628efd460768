-- Links of walks that are kept step by step.
use Rattle.std.proofs.Common.{ℕ, ◌≡◌, ◌≢◌, ◌==◌, Bool, true, false, List, [], ◌∷◌, ◌++◌, map, reverse, All, refl, sym, ap, ◌∙◌, subst, if◌then◌else◌}
use Rattle.std.proofs.lemmas.List.{map-append, reverse-append}
use Rattle.std.proofs.lemmas.List.Elements.{All-head, All-map, All-tail, All-weaker}
use Rattle.fb_graph.specs.Problem.{Problem, edge_at}
use Rattle.fb_graph.specs.Components.{IsWalkBy, Leads}
use Rattle.fb_graph.specs.Laws.{has_real_end}
use Rattle.fb_laws.specs.MetLinks.{joined_link, turned_link}
use Rattle.fb_laws.proofs.MetLinks.{not_nil}
use Rattle.fb_laws.specs.SingleDefects.{ending_link}
use Rattle.fb_laws.specs.StepLinks.{StepParts, IsStepOf, IsTurn, LeadsAlong, StepsAreLink, EdgesTurned, StepsTurned, StepsJoined, StepsThrough, begin_of, end_after, ending_steps, link_of_steps, starting_steps}

walk_of : {S : Type 0} (p : Problem) (parts : StepParts S) (walk : List S) (from to : ℕ) → LeadsAlong parts walk from to
    → All (IsStepOf p parts) walk → IsWalkBy p (map parts.edge walk) from to
walk_of p parts [] from to leads steps = leads
walk_of p parts (s ∷ ss) from to (begins, onward) steps =
    let step = All-head (IsStepOf p parts) s ss steps in (
      parts.to s,
      step.within,
      subst (λ v. Leads (edge_at p.edges (parts.edge s)) v (parts.to s)) begins step.leads,
      walk_of p parts ss (parts.to s) to onward (All-tail (IsStepOf p parts) s ss steps),
    )

pub steps_are_link : (S : Type 0) → StepsAreLink S
steps_are_link S p parts walk some leads steps = record {
  walk = walk_of p parts walk (begin_of parts walk) (end_after parts 0 walk) leads steps;
  moves = some_edges walk some;
  real = All-map (λ k. has_real_end p (edge_at p.edges k) ≡ true) parts.edge walk
      (All-weaker (IsStepOf p parts) (λ s. has_real_end p (edge_at p.edges (parts.edge s)) ≡ true) (λ s is. is.real) walk steps);
}
  where
    some_edges : (ss : List S) → ss ≢ [] → map parts.edge ss ≢ []
    some_edges [] filled e = filled refl
    some_edges (s ∷ ss) filled e = let h : (parts.edge s ∷ map parts.edge ss) ≡ [] = e in cc

turned_cons : {S : Type 0} (turn : S → S) (s : S) (ss : List S) → map turn (reverse (s ∷ ss)) ≡ map turn (reverse ss) ++ turn s ∷ []
turned_cons turn s ss = ap (map turn) (reverse-append (s ∷ []) ss) ∙ map-append turn (reverse ss) (s ∷ [])

pub edges_turned : (S : Type 0) → EdgesTurned S
edges_turned S parts turn [] is = refl
edges_turned S parts turn (s ∷ ss) is =
    ap (map parts.edge) (turned_cons turn s ss)
    ∙ (map-append parts.edge (map turn (reverse ss)) (turn s ∷ [])
    ∙ (ap (λ l. l ++ parts.edge (turn s) ∷ []) (edges_turned S parts turn ss is)
    ∙ (ap (λ k. reverse (map parts.edge ss) ++ k ∷ []) (is.edge s) ∙ sym (reverse-append (parts.edge s ∷ []) (map parts.edge ss)))))

end_push : {S : Type 0} (parts : StepParts S) (at : ℕ) (walk : List S) (s : S) → end_after parts at (walk ++ s ∷ []) ≡ parts.to s
end_push parts at [] s = refl
end_push parts at (x ∷ xs) s = end_push parts (parts.to x) xs s

-- a walk that has a step ends where its last one does, whatever came before
end_any : {S : Type 0} (parts : StepParts S) (at other : ℕ) (walk : List S) → walk ≢ [] → end_after parts at walk ≡ end_after parts other walk
end_any parts at other [] some = absurd (some refl)
end_any parts at other (s ∷ ss) some = refl

begin_append : {S : Type 0} (parts : StepParts S) (walk more : List S) → walk ≢ [] → begin_of parts (walk ++ more) ≡ begin_of parts walk
begin_append parts [] more some = absurd (some refl)
begin_append parts (s ∷ ss) more some = refl

end_append : {S : Type 0} (parts : StepParts S) (at : ℕ) (walk more : List S) → more ≢ [] → end_after parts at (walk ++ more) ≡ end_after parts 0 more
end_append parts at [] more some = end_any parts at 0 more some
end_append parts at (s ∷ ss) more some = end_append parts (parts.to s) ss more some

-- a walk gone back has a step where it had one
turned_some : {S : Type 0} (turn : S → S) (walk : List S) → walk ≢ [] → map turn (reverse walk) ≢ []
turned_some turn [] some e = some refl
turned_some turn (s ∷ ss) some e = not_nil (map turn (reverse ss)) (turn s) [] (sym (turned_cons turn s ss) ∙ e)

-- where the walk gone back begins
begin_turned : {S : Type 0} (parts : StepParts S) (turn : S → S) (walk : List S) (at : ℕ) → IsTurn parts turn → walk ≢ []
    → begin_of parts (map turn (reverse walk)) ≡ end_after parts at walk
begin_turned parts turn [] at is some = absurd (some refl)
begin_turned parts turn (s ∷ []) at is some = is.from s
begin_turned parts turn (s ∷ x ∷ xs) at is some =
    let onward : (x ∷ xs) ≢ [] = λ e. (let h : (x ∷ xs) ≡ [] = e in cc) in
    ap (begin_of parts) (turned_cons turn s (x ∷ xs))
    ∙ (begin_append parts (map turn (reverse (x ∷ xs))) (turn s ∷ []) (turned_some turn (x ∷ xs) onward)
    ∙ begin_turned parts turn (x ∷ xs) (parts.to s) is onward)

end_turned : {S : Type 0} (parts : StepParts S) (turn : S → S) (walk : List S) → IsTurn parts turn → walk ≢ []
    → end_after parts 0 (map turn (reverse walk)) ≡ begin_of parts walk
end_turned parts turn [] is some = absurd (some refl)
end_turned parts turn (s ∷ ss) is some =
    ap (end_after parts 0) (turned_cons turn s ss) ∙ (end_push parts 0 (map turn (reverse ss)) (turn s) ∙ is.to s)

pub steps_turned : (S : Type 0) → StepsTurned S
steps_turned S parts turn walk is some =
    rw (begin_turned parts turn walk 0 is some, end_turned parts turn walk is some, edges_turned S parts turn walk is) refl

pub steps_joined : (S : Type 0) → StepsJoined S
steps_joined S parts walk more some others =
    rw (begin_append parts walk more some, end_append parts 0 walk more others, map-append parts.edge walk more) refl

pub steps_through : (S : Type 0) → StepsThrough S
steps_through S parts turn v walk more is some others =
    steps_joined S parts (ending_steps parts turn v walk) (starting_steps parts turn v more)
    (either_some (v == end_after parts 0 walk) walk some) (either_some (v == begin_of parts more) more others)
    ∙ (ap (λ l. joined_link l (link_of_steps parts (starting_steps parts turn v more)))
    (either (v == end_after parts 0 walk) walk some)
    ∙ ap (joined_link (ending_link v (link_of_steps parts walk))) (either (v == begin_of parts more) more others))
  where
    either_some : (b : Bool) (ss : List S) → ss ≢ [] → (if b then ss else map turn (reverse ss)) ≢ []
    either_some true ss filled = filled
    either_some false ss filled = turned_some turn ss filled

    either : (b : Bool) (ss : List S) → ss ≢ []
        → link_of_steps parts (if b then ss else map turn (reverse ss))
        ≡ (if b then link_of_steps parts ss else turned_link (link_of_steps parts ss))
    either true ss filled = refl
    either false ss filled = steps_turned S parts turn ss is filled
