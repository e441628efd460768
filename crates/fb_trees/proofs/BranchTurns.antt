-- A tree of one node steps as that node grows.
use Rattle.std.proofs.Common.{ℕ, ◌≡◌, ◌≤◌, true, false, List, [], ◌∷◌, ◌++◌, length, take, refl, sym, ap, ◌∙◌, subst, map, reverse}
use Rattle.std.proofs.lemmas.Bool.{false≢true}
use Rattle.std.proofs.lemmas.List.{take_all}
use Rattle.std.proofs.lemmas.List.Sorted.{IsPermutation-append_comm, IsPermutation-cons, IsPermutation-map, IsPermutation-reverse, IsPermutation-trans}
use Rattle.fb_graph.specs.Parity.{is_in}
use Rattle.fb_graph.specs.Problem.{Problem}
use Rattle.fb_graph.specs.Dual.{AllowsGrowth, IsCrossed, Node, change_at, is_live, is_outer, thicker_node, top_at}
use Rattle.fb_graph.specs.Steps.{MayStep, stepped_nodes}
use Rattle.fb_graph.proofs.Sets.{is_in-head}
use Rattle.fb_graph.proofs.StepTurns.{no_turn, same_roles}
use Rattle.fb_laws.specs.Trees.{minus_names, plus_names, roles_of}
use Rattle.fb_laws.proofs.OpenedBlossoms.{same_permuted}
use Rattle.fb_trees.specs.Branches.{Grown, entries_of, entry_of}
use Rattle.fb_trees.specs.declared.branch.Branch.{Branch}
use Rattle.fb_trees.specs.TreesOver.{AreOver, IsTreeOver, roles_by_names}
use Rattle.fb_trees.proofs.NodeTurns.{grown_turn, plus_turn}
use Rattle.std.specs.List.Sorted.{IsPermutation}

-- the names of the minus nodes
abbrev pub minus_of : List Branch → List ℕ
minus_of bs = map (λ b. b.minus) bs

-- the names of the plus nodes but for the root
abbrev pub plus_of : List Branch → List ℕ
plus_of bs = map (λ b. b.plus) bs

minus_read : (bs : List Branch) → minus_names (map entry_of bs) ≡ minus_of bs
minus_read [] = refl
minus_read (b ∷ bs) = ap (λ l. b.minus ∷ l) (minus_read bs)

plus_read : (root : ℕ) (bs : List Branch) → plus_names root (map entry_of bs) ≡ plus_of bs ++ root ∷ []
plus_read root [] = refl
plus_read root (b ∷ bs) = ap (λ l. b.plus ∷ l) (plus_read root bs)

pub minus_moved : (bs : List Branch) → IsPermutation (minus_of bs) (minus_names (entries_of bs))
minus_moved bs =
    subst (IsPermutation (minus_of bs)) (sym (minus_read (reverse bs)))
    (IsPermutation-map (λ b. b.minus) bs (reverse bs) (IsPermutation-reverse bs))

pub plus_moved : (root : ℕ) (bs : List Branch) → IsPermutation (root ∷ plus_of bs) (plus_names root (entries_of bs))
plus_moved root bs =
    subst (IsPermutation (root ∷ plus_of bs)) (sym (plus_read root (reverse bs)))
    (IsPermutation-trans (root ∷ plus_of bs) (root ∷ plus_of (reverse bs)) (plus_of (reverse bs) ++ root ∷ [])
    (IsPermutation-cons root (plus_of bs) (plus_of (reverse bs))
    (IsPermutation-map (λ b. b.plus) bs (reverse bs) (IsPermutation-reverse bs)))
    (IsPermutation-append_comm (root ∷ []) (plus_of (reverse bs))))

module _ (p : Problem) (t : Grown) (nodes : List Node) (are : IsTreeOver p t nodes) (k : ℕ)
    (may : MayStep p (roles_of t.root t.branches) nodes k) (bs : List Branch) (read : entries_of bs ≡ t.branches) where
  over : AreOver p (plus_names t.root t.branches) (minus_names t.branches) nodes
  over = record {
    roles = are.roles;
    plus_once = are.plus;
    minus_once = are.minus;
    plus_live = are.plus_live;
    minus_live = are.minus_live;
    crossed = are.crossed;
  }

  same_minus : (n : ℕ) → is_in (minus_of bs) n ≡ is_in (minus_names t.branches) n
  same_minus n =
      sym (same_permuted (minus_of bs) (minus_names (entries_of bs)) (minus_moved bs) n)
      ∙ ap (λ es. is_in (minus_names es) n) read

  same_plus : (n : ℕ) → is_in (t.root ∷ plus_of bs) n ≡ is_in (plus_names t.root t.branches) n
  same_plus n =
      sym (same_permuted (t.root ∷ plus_of bs) (plus_names t.root (entries_of bs)) (plus_moved t.root bs) n)
      ∙ ap (λ es. is_in (plus_names t.root es) n) read

  root_is_plus : is_in (plus_names t.root t.branches) t.root ≡ true
  root_is_plus = sym (same_plus t.root) ∙ is_in-head t.root (plus_of bs)

  not_minus : (n : ℕ) → is_in (plus_names t.root t.branches) n ≡ true → is_in (minus_of bs) n ≡ false
  not_minus n plus = same_minus n ∙ are.roles.exclusive n plus

  pub none_yet : nodes ≡ stepped_nodes (roles_by_names [] (minus_of (take 0 bs))) k nodes
  none_yet = sym (no_turn k nodes)

  pub root_may : (i : ℕ) → length bs ≤ i
      → (is_live (stepped_nodes (roles_by_names [] (minus_of (take i bs))) k nodes) t.root ≡ true)
      × (is_outer (stepped_nodes (roles_by_names [] (minus_of (take i bs))) k nodes) t.root ≡ true)
      × IsCrossed p (top_at (stepped_nodes (roles_by_names [] (minus_of (take i bs))) k nodes) t.root)
      × AllowsGrowth p (stepped_nodes (roles_by_names [] (minus_of (take i bs))) k nodes) (top_at (stepped_nodes (roles_by_names [] (minus_of (take i bs))) k nodes) t.root) k
  root_may i all =
      plus_turn p (plus_names t.root t.branches) (minus_names t.branches) nodes over [] (minus_of (take i bs)) k t.root may
      (λ n. ap (λ l. is_in (minus_of l) n) (take_all i bs all) ∙ same_minus n)
      (λ n none. absurd (false≢true none)) root_is_plus refl

  pub root_done : (i : ℕ) → length bs ≤ i
      → change_at t.root (thicker_node k) (stepped_nodes (roles_by_names [] (minus_of (take i bs))) k nodes)
      ≡ stepped_nodes (roles_by_names (t.root ∷ plus_of (take 0 bs)) (minus_of bs)) k nodes
  root_done i all =
      ap (λ l. change_at t.root (thicker_node k) (stepped_nodes (roles_by_names [] (minus_of l)) k nodes)) (take_all i bs all)
      ∙ grown_turn [] (minus_of bs) k t.root nodes refl (not_minus t.root root_is_plus)

  pub all_done : (i : ℕ) → length bs ≤ i
      → stepped_nodes (roles_by_names (t.root ∷ plus_of (take i bs)) (minus_of bs)) k nodes
      ≡ stepped_nodes (roles_of t.root t.branches) k nodes
  all_done i all =
      ap (λ l. stepped_nodes (roles_by_names (t.root ∷ plus_of l) (minus_of bs)) k nodes) (take_all i bs all)
      ∙ same_roles (roles_by_names (t.root ∷ plus_of bs) (minus_of bs)) (roles_of t.root t.branches) k nodes same_plus same_minus
