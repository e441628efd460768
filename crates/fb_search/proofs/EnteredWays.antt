-- Minus nodes that are entered one after another.
use Rattle.std.proofs.Common.{ℕ, ◌≡◌, ◌+◌, ◌*◌, ◌<◌, ◌≤◌, ◌⊎◌, inl, inr, true, List, [], get_or, length, map, take, take_all, refl, sym, ap, ◌∙◌, subst, arith}
use Rattle.std.proofs.lemmas.Bool.{false≢true}
use Rattle.std.proofs.lemmas.List.{get_or-map, get_or_default, length-map, take-map}
use Rattle.fb_graph.specs.Dual.{Node}
use Rattle.fb_graph.specs.Parity.{is_in}
use Rattle.fb_graph.proofs.Members.{is_in-take_more}
use Rattle.fb_links.specs.declared.cycle.CycleStep.{CycleStep}
use Rattle.fb_regions.specs.Moves.{node_named}
use Rattle.fb_regions.specs.declared.roles.Role.{Role}
use Rattle.fb_regions.specs.declared.roles.Role.TheVariants.{Minus}
use Rattle.fb_trees.specs.TreeSteps.{step}
use Rattle.fb_obstacles.specs.InternalWatching.{EntersNode}
use Rattle.fb_obstacles.specs.Watched.{Watched, has_bound}
use Rattle.fb_search.specs.InternalOpenings.{EntersWay}

map_taken : (steps : List CycleStep) (i : ℕ) → map (λ (s : CycleStep). s.node) (take i steps) ≡ take i (map (λ (s : CycleStep). s.node) steps)
map_taken steps i = sym (take-map (λ (s : CycleStep). s.node) i steps)

pub none_entered : (nodes : List Node) (role : ℕ → Role) (w : Watched) → EntersWay nodes role [] w w
none_entered nodes role w = record {
  same = refl;
  entered = λ name on minus. absurd (false≢true on);
  kept = λ other most is. is;
}

on_more : (steps : List CycleStep) (i name : ℕ) → i < length steps → is_in (map (λ (s : CycleStep). s.node) (take (i + 1) steps)) name ≡ true
    → (is_in (map (λ (s : CycleStep). s.node) (take i steps)) name ≡ true) ⊎ ((get_or steps i (step 0 0)).node ≡ name)
on_more steps i name less on =
    by (is_in-take_more (map (λ (s : CycleStep). s.node) steps) i name (omega (arith, less, length-map steps (λ (s : CycleStep). s.node)))
    (ap (λ l. is_in l name) (sym (map_taken steps (i + 1))) ∙ on))
  where
    by : (is_in (take i (map (λ (s : CycleStep). s.node) steps)) name ≡ true) ⊎ (get_or (map (λ (s : CycleStep). s.node) steps) i 0 ≡ name)
        → (is_in (map (λ (s : CycleStep). s.node) (take i steps)) name ≡ true) ⊎ ((get_or steps i (step 0 0)).node ≡ name)
    by (inl h) = inl (ap (λ l. is_in l name) (map_taken steps i) ∙ h)
    by (inr same) = inr (sym (get_or-map (λ (s : CycleStep). s.node) steps i (step 0 0) 0 less) ∙ same)

-- a minus node more
pub one_entered : (nodes : List Node) (role : ℕ → Role) (steps : List CycleStep) (i name : ℕ) (d : CycleStep) (a b c : Watched) → i < length steps
    → (get_or steps i d).node ≡ name → EntersNode name (2 * (node_named nodes name).top.value) b c
    → EntersWay nodes role (take i steps) a b → EntersWay nodes role (take (i + 1) steps) a c
one_entered nodes role steps i name d a b c less here enters before = record {
  same = enters.same ∙ ap (λ (w : Watched). record w { nodes = c.nodes }) before.same;
  entered = λ other on minus. by other minus (on_more steps i other less on);
  kept = λ other most is. enters.kept other most (before.kept other most is);
}
  where
    by : (other : ℕ) → role other ≡ Minus
        → (is_in (map (λ (s : CycleStep). s.node) (take i steps)) other ≡ true) ⊎ ((get_or steps i (step 0 0)).node ≡ other)
        → has_bound c.nodes other (2 * (node_named nodes other).top.value) ≡ true
    by other minus (inl on) = enters.kept other (2 * (node_named nodes other).top.value) (before.entered other on minus)
    by other minus (inr same) =
        subst (λ n. has_bound c.nodes n (2 * (node_named nodes n).top.value) ≡ true) (sym here ∙ (ap (λ (s : CycleStep). s.node) (get_or_default steps i d (step 0 0) less) ∙ same)) enters.entered

-- another node
pub other_passed : (nodes : List Node) (role : ℕ → Role) (steps : List CycleStep) (i name : ℕ) (d : CycleStep) (a b : Watched) → i < length steps
    → (get_or steps i d).node ≡ name → (role name ≡ Minus → ⊥)
    → EntersWay nodes role (take i steps) a b → EntersWay nodes role (take (i + 1) steps) a b
other_passed nodes role steps i name d a b less here other before = record {
  same = before.same;
  entered = λ n on minus. by n minus (on_more steps i n less on);
  kept = before.kept;
}
  where
    by : (n : ℕ) → role n ≡ Minus
        → (is_in (map (λ (s : CycleStep). s.node) (take i steps)) n ≡ true) ⊎ ((get_or steps i (step 0 0)).node ≡ n)
        → has_bound b.nodes n (2 * (node_named nodes n).top.value) ≡ true
    by n minus (inl on) = before.entered n on minus
    by n minus (inr same) = absurd (other (ap role (sym here ∙ (ap (λ (s : CycleStep). s.node) (get_or_default steps i d (step 0 0) less) ∙ same)) ∙ minus))

pub all_entered : (nodes : List Node) (role : ℕ → Role) (steps : List CycleStep) (i : ℕ) (a b : Watched) → length steps ≤ i
    → EntersWay nodes role (take i steps) a b → EntersWay nodes role steps a b
all_entered nodes role steps i a b whole entered = subst (λ l. EntersWay nodes role l a b) (take_all i steps whole) entered
