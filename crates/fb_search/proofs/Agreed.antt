-- That the dual state and the store of blossoms have the same nodes is kept where nodes are joined and where a blossom
-- is opened.
use Rattle.std.proofs.Common.{ℕ, ◌≡◌, ◌≢◌, ◌==◌, ◌||◌, ◌⊎◌, ◌%◌, ◌≤◌, inl, inr, true, false, List, [], ◌∷◌, map, length, Option, Some, None, is_some, refl, sym, ap, ◌∙◌, subst, arith}
use Rattle.std.proofs.lemmas.Bool.{both_ways, false_from_ne_true, cases_eq}
use Rattle.std.proofs.lemmas.List.{length-map}
use Rattle.fb_graph.specs.Parity.{is_in}
use Rattle.fb_graph.specs.Certificate.{AreDistinct}
use Rattle.fb_graph.specs.Dual.{Node, defects_of, is_empty, is_live, is_outer}
use Rattle.fb_graph.specs.Moves.{MayJoin, MaySplit, blossom, joined_nodes, split_nodes}
use Rattle.fb_graph.proofs.Among.{IsAmong, All_among, among_All, among_either, among_left, among_live, among_right, live_among, outer_among}
use Rattle.fb_graph.proofs.Places.{among_split, split_among}
use Rattle.fb_graph.proofs.Sets.{is_in-All}
use Rattle.fb_links.specs.declared.cycle.CycleStep.{CycleStep}
use Rattle.fb_blossoms.specs.Nodes.{Adds, AreOuter, IsOddCycle, IsOuter, TakesOff, cycle_at, cycle_of, defects_at, is_on, node_at}
use Rattle.fb_blossoms.specs.Nodes as blossoms
use Rattle.fb_half.specs.Parts.{AreAgreed}
use Rattle.fb_half.specs.Translations.{children_at}
use Rattle.fb_graph.proofs.Booleans.{same_bool}

-- the nodes of a cycle
abbrev pub nodes_of : List CycleStep → List ℕ
nodes_of cycle = map (λ s. s.node) cycle

pub on_is_in : (cycle : List CycleStep) (x : ℕ) → is_on cycle x ≡ is_in (nodes_of cycle) x
on_is_in [] x = refl
on_is_in (s ∷ ss) x = ap (λ b. (s.node == x) || b) (on_is_in ss x)

pub steps_distinct : (cycle : List CycleStep) → AreDistinct (nodes_of cycle) → blossoms.HasDistinctNodes cycle
steps_distinct [] distinct = tt
steps_distinct (s ∷ ss) distinct = (on_is_in ss s.node ∙ distinct.0, steps_distinct ss distinct.1)

-- only a live node has a cycle
on_live : (store : List (Option blossoms.Node)) (p x : ℕ) → is_on (cycle_at store p) x ≡ true → blossoms.is_live store p ≡ true
on_live store p x on = step (node_at store p) on
  where
    step : (o : Option blossoms.Node) → is_on (cycle_of o) x ≡ true → is_some o ≡ true
    step None e = absurd (both_ways false refl e)
    step (Some n) e = refl

-- nodes that are outer in the dual state are so in the store
pub outer_in_store : (nodes : List Node) (store : List (Option blossoms.Node)) (name : ℕ) → AreAgreed nodes store
    → is_outer nodes name ≡ true → IsOuter store name
outer_in_store nodes store name agreed outer p =
    false_from_ne_true (is_on (cycle_at store p) name) (λ on.
    let (n, a, named) = live_among nodes p (agreed.live p ∙ on_live store p name on) in
    both_ways (is_in n.children name) (outer_among nodes name outer n a)
    (ap (λ cs. is_in cs name) (All_among (λ m. m.children ≡ children_at store m.name) nodes agreed.children n a)
    ∙ (ap (λ x. is_in (children_at store x) name) named ∙ (sym (on_is_in (cycle_at store p) name) ∙ on))))

-- where nodes may be joined in the dual state, their cycle may be formed in the store
pub cycle_odd : (nodes : List Node) (store : List (Option blossoms.Node)) (name : ℕ) (cycle : List CycleStep)
    → AreAgreed nodes store → MayJoin nodes name (nodes_of cycle) → IsOddCycle store cycle
cycle_odd nodes store name cycle agreed may = record {
  odd = subst (λ k. k % 2 ≡ 1) (length-map cycle (λ s. s.node)) may.many.odd;
  three = subst (λ k. 3 ≤ k) (length-map cycle (λ s. s.node)) may.many.three;
  distinct = steps_distinct cycle may.many.distinct;
  live = λ x on.
      sym (agreed.live x)
      ∙ is_in-All (λ c. is_live nodes c ≡ true) (nodes_of cycle) may.live x (sym (on_is_in cycle x) ∙ on);
}

pub cycle_outer : (nodes : List Node) (store : List (Option blossoms.Node)) (name : ℕ) (cycle : List CycleStep)
    → AreAgreed nodes store → MayJoin nodes name (nodes_of cycle) → AreOuter store cycle
cycle_outer nodes store name cycle agreed may x on =
    outer_in_store nodes store x agreed
    (is_in-All (λ c. is_outer nodes c ≡ true) (nodes_of cycle) may.outer x (sym (on_is_in cycle x) ∙ on))

-- a node that is not changed in the store agrees as before
record Agrees (store : List (Option blossoms.Node)) (n : Node) : Type 0 where
  children : n.children ≡ children_at store n.name
  leaf : is_empty n.children ≡ true → defects_of n ≡ defects_at store n.name

agrees : (nodes : List Node) (store : List (Option blossoms.Node)) → AreAgreed nodes store → (n : Node) → IsAmong n nodes
    → Agrees store n
agrees nodes store agreed n a = record {
  children = All_among (λ m. m.children ≡ children_at store m.name) nodes agreed.children n a;
  leaf = All_among (λ m. is_empty m.children ≡ true → defects_of m ≡ defects_at store m.name) nodes agreed.leaves n a;
}

still_agrees : (old new : List (Option blossoms.Node)) (n : Node) → node_at new n.name ≡ node_at old n.name → Agrees old n → Agrees new n
still_agrees old new n same was = record {
  children = was.children ∙ ap (λ o. nodes_of (cycle_of o)) (sym same);
  leaf = λ none. was.leaf none ∙ ap (λ o. blossoms.defects_of o) (sym same);
}

from_each : (nodes : List Node) (store : List (Option blossoms.Node))
    → ((name : ℕ) → is_live nodes name ≡ blossoms.is_live store name)
    → ((n : Node) → IsAmong n nodes → Agrees store n) → AreAgreed nodes store
from_each nodes store live each = record {
  live = live;
  children = among_All (λ n. n.children ≡ children_at store n.name) nodes (λ n a. (each n a).children);
  leaves = among_All (λ n. is_empty n.children ≡ true → defects_of n ≡ defects_at store n.name) nodes (λ n a. (each n a).leaf);
}

module _ (nodes : List Node) (old new : List (Option blossoms.Node)) (name : ℕ) (cycle : List CycleStep)
    (agreed : AreAgreed nodes old) (may : MayJoin nodes name (nodes_of cycle))
    (adds : Adds old new name (blossoms.blossom old cycle)) where
  other : (n : Node) → IsAmong n nodes → n.name ≢ name
  other n a same = both_ways (is_live nodes name) may.fresh (among_live nodes n name a same)

  made : Agrees new (blossom name (nodes_of cycle) nodes)
  made = record {
    children = ap (λ o. nodes_of (cycle_of o)) (sym adds.added);
    leaf = λ none. absurd (some (nodes_of cycle) may.many.three none);
  }
    where
      some : (xs : List ℕ) → 3 ≤ length xs → is_empty xs ≡ true → ⊥
      some [] three none = let h : 3 ≤ 0 = three in omega arith
      some (x ∷ xs) three none = both_ways false refl none

  same_live : (x : ℕ) → is_live (joined_nodes name (nodes_of cycle) nodes) x ≡ blossoms.is_live new x
  same_live x = step (cases_eq x name)
    where
      made_among : IsAmong (blossom name (nodes_of cycle) nodes) (joined_nodes name (nodes_of cycle) nodes)
      made_among = among_right nodes (blossom name (nodes_of cycle) nodes ∷ []) (blossom name (nodes_of cycle) nodes) (inl refl)

      there : x ≢ name → is_live (joined_nodes name (nodes_of cycle) nodes) x ≡ true → is_live nodes x ≡ true
      there differ live =
          let (n, a, named) = live_among (joined_nodes name (nodes_of cycle) nodes) x live in
          by n named (among_either nodes (blossom name (nodes_of cycle) nodes ∷ []) n a)
        where
          by : (n : Node) → n.name ≡ x → IsAmong n nodes ⊎ IsAmong n (blossom name (nodes_of cycle) nodes ∷ []) → is_live nodes x ≡ true
          by n named (inl b) = among_live nodes n x b named
          by n named (inr (inl e)) = absurd (differ (sym named ∙ ap (λ m. m.name) (sym e)))
          by n named (inr (inr b)) = absurd b

      back : is_live nodes x ≡ true → is_live (joined_nodes name (nodes_of cycle) nodes) x ≡ true
      back live =
          let (n, a, named) = live_among nodes x live in
          among_live (joined_nodes name (nodes_of cycle) nodes) n x (among_left nodes (blossom name (nodes_of cycle) nodes ∷ []) n a) named

      step : (x ≡ name) ⊎ (x ≡ name → ⊥) → is_live (joined_nodes name (nodes_of cycle) nodes) x ≡ blossoms.is_live new x
      step (inl e) =
          among_live (joined_nodes name (nodes_of cycle) nodes) (blossom name (nodes_of cycle) nodes) x made_among (sym e)
          ∙ (ap (λ (o : Option blossoms.Node). is_some o) (sym adds.added) ∙ ap (blossoms.is_live new) (sym e))
      step (inr differ) =
          same_bool (is_live (joined_nodes name (nodes_of cycle) nodes) x) (is_live nodes x) (there differ) back
          ∙ (agreed.live x ∙ ap (λ (o : Option blossoms.Node). is_some o) (sym (adds.others x differ)))

  -- after the nodes of a cycle are joined
  pub agreed_joined : AreAgreed (joined_nodes name (nodes_of cycle) nodes) new
  agreed_joined =
      from_each (joined_nodes name (nodes_of cycle) nodes) new same_live (λ n a.
      by n (among_either nodes (blossom name (nodes_of cycle) nodes ∷ []) n a))
    where
      by : (n : Node) → IsAmong n nodes ⊎ IsAmong n (blossom name (nodes_of cycle) nodes ∷ []) → Agrees new n
      by n (inl b) = still_agrees old new n (adds.others n.name (other n b)) (agrees nodes old agreed n b)
      by n (inr (inl e)) = subst (Agrees new) e made
      by n (inr (inr b)) = absurd b

module _ (nodes : List Node) (old new : List (Option blossoms.Node)) (name : ℕ) (agreed : AreAgreed nodes old)
    (gone : TakesOff old new name) where
  split_live : (x : ℕ) → is_live (split_nodes name nodes) x ≡ blossoms.is_live new x
  split_live x = step (cases_eq x name)
    where
      before : is_live (split_nodes name nodes) x ≡ true → is_live nodes x ≡ true
      before live =
          let (n, a, named) = live_among (split_nodes name nodes) x live in
          among_live nodes n x (among_split name nodes n a).0 named

      after : x ≢ name → is_live nodes x ≡ true → is_live (split_nodes name nodes) x ≡ true
      after differ live =
          let (n, a, named) = live_among nodes x live in
          among_live (split_nodes name nodes) n x (split_among name nodes n a (λ e. differ (sym named ∙ e))) named

      step : (x ≡ name) ⊎ (x ≡ name → ⊥) → is_live (split_nodes name nodes) x ≡ blossoms.is_live new x
      step (inl e) =
          false_from_ne_true (is_live (split_nodes name nodes) x) (λ live.
          let (n, a, named) = live_among (split_nodes name nodes) x live in
          (among_split name nodes n a).1 (named ∙ e))
          ∙ (ap (λ (o : Option blossoms.Node). is_some o) (sym gone.gone) ∙ ap (blossoms.is_live new) (sym e))
      step (inr differ) =
          same_bool (is_live (split_nodes name nodes) x) (is_live nodes x) before (after differ)
          ∙ (agreed.live x ∙ ap (λ (o : Option blossoms.Node). is_some o) (sym (gone.others x differ)))

  -- after a blossom is opened
  pub agreed_split : AreAgreed (split_nodes name nodes) new
  agreed_split =
      from_each (split_nodes name nodes) new split_live (λ n a.
      let (b, differ) = among_split name nodes n a in
      still_agrees old new n (gone.others n.name differ) (agrees nodes old agreed n b))

-- a blossom that may be split in the dual state has a cycle in the store
pub cycle_there : (nodes : List Node) (store : List (Option blossoms.Node)) (name : ℕ) → AreAgreed nodes store
    → MaySplit nodes name → cycle_at store name ≢ []
cycle_there nodes store name agreed may none =
    let (n, a, named) = live_among nodes name may.live in
    let some : is_empty n.children ≡ false = (All_among (λ m. m.name ≡ name → (is_empty m.children ≡ false) × (m.below ≡ []) × (m.top.value ≡ 0)) nodes may.bare n a named).0 in
    let here : n.children ≡ [] =
    (agrees nodes store agreed n a).children ∙ (ap (λ x. children_at store x) named ∙ ap nodes_of none) in
    both_ways (is_empty n.children) some (ap is_empty here)
