-- The match of an outer node.
use Rattle.std.proofs.Common.{ℕ, ◌≡◌, ◌+◌, ◌≤◌, ◌⊎◌, inl, inr, Bool, true, false, List, [], ◌∷◌, ◌++◌, map, All, Some, refl, sym, ap, ◌∙◌, subst, arith}
use Rattle.std.proofs.lemmas.Bool.{both_ways, false_from_ne_true, cases_Bool}
use Rattle.std.proofs.lemmas.List.Elements.{All-cons, All-head, All-weaker}
use Rattle.fb_graph.specs.Parity.{is_in}
use Rattle.fb_graph.specs.Problem.{Problem, with_defects}
use Rattle.fb_graph.specs.Certificate.{AreDistinct}
use Rattle.fb_graph.specs.Counts.{as_count}
use Rattle.fb_graph.specs.Ends.{ends_in}
use Rattle.fb_graph.specs.Laws.{Link}
use Rattle.fb_graph.specs.Dual.{Node, IsDual, cover_of, is_live, is_outer, leaves, no_node, top_at}
use Rattle.fb_graph.proofs.Among.{live_among, covered_by}
use Rattle.fb_graph.proofs.Crossings.{cover_found}
use Rattle.fb_graph.proofs.EndSums.{ends_append, ends_of_one, ends-cons}
use Rattle.fb_graph.proofs.Forests.{tops_odd}
use Rattle.fb_graph.proofs.Sets.{is_in-head, is_in-tail, member_of_odd}
use Rattle.fb_laws.specs.Trees.{Entry, Connects, IsTree, paired_links, tree_names}
use Rattle.fb_laws.specs.Works.{AreMatchedLinks, IsSetOf}
use Rattle.fb_laws.specs.MatchLinks.{EndsElsewhere, HasMatch, LeadsToBoundary, LeadsToMate, MatchOf, MatchOfMet, MateOutside}
use Rattle.fb_laws.specs.Opening.{EndsAtDefects}
use Rattle.fb_laws.proofs.SearchStates.{outside, links_right}
use Rattle.fb_laws.proofs.SearchTrees.{connected, connects_sym, cover_set, end_of, matched_named, no_ends}
use Rattle.fb_graph.proofs.Nodes.{All-right}
use Rattle.fb_graph.proofs.Options.{some_name}

-- the one link of a list that has an end in the set
record HasOneEnd (set : List ℕ) (links : List Link) : Type 0 where
  before : List Link
  link : Link
  after : List Link
  place : links ≡ before ++ link ∷ after
  one : ends_of_one set link ≡ 1
  others : All (λ l. (is_in set l.from ≡ false) × (is_in set l.to ≡ false)) (before ++ after)

one_end : (set : List ℕ) (links : List Link) → ends_in set links ≡ 1 → HasOneEnd set links
one_end set [] one = absurd (let h : 0 ≡ 1 = one in omega arith)
one_end set (l ∷ links) one = step (is_in set l.from) (is_in set l.to) refl refl (one_end set links)
  where
    sum : ends_of_one set l + ends_in set links ≡ 1
    sum = sym (ends-cons set l links) ∙ one

    here : ends_of_one set l ≡ 1 → HasOneEnd set (l ∷ links)
    here mine = record {
      before = [];
      link = l;
      after = links;
      place = refl;
      one = mine;
      others = no_ends set links (omega (arith, sum, mine));
    }

    step : (a b : Bool) → is_in set l.from ≡ a → is_in set l.to ≡ b → (ends_in set links ≡ 1 → HasOneEnd set links)
        → HasOneEnd set (l ∷ links)
    step true true from to rest = absurd (omega (arith, sum, ap as_count from, ap as_count to))
    step true false from to rest = here (omega (arith, ap as_count from, ap as_count to))
    step false true from to rest = here (omega (arith, ap as_count from, ap as_count to))
    step false false from to rest =
        let found = rest (omega (arith, sum, ap as_count from, ap as_count to)) in
        record {
          before = l ∷ found.before;
          link = found.link;
          after = found.after;
          place = ap (λ ls. l ∷ ls) found.place;
          one = found.one;
          others = All-cons (λ m. (is_in set m.from ≡ false) × (is_in set m.to ≡ false)) l (found.before ++ found.after)
              (from, to) found.others;
        }

-- a vertex under the live outer node
covers_some : (p : Problem) (nodes : List Node) (name : ℕ) → IsDual p nodes → is_live nodes name ≡ true → is_outer nodes name ≡ true
    → (v : ℕ) × (cover_of nodes v ≡ Some name)
covers_some p nodes name dual live outer =
    let (m, a, named) = live_among nodes name live in
    let (v, within, leaf) =
    member_of_odd (is_in (leaves nodes)) m.top.vertices (tops_odd (with_defects p (leaves nodes)) nodes dual.packing.odd m a).odd in
    (v, covered_by nodes v dual.apart m a (ap (is_outer nodes) named ∙ outer) within ∙ ap Some named)

module _ (p : Problem) (nodes : List Node) (links : List Link) (name : ℕ) (dual : IsDual p nodes) (are : AreMatchedLinks p nodes links)
    (outer : IsSetOf nodes name (top_at nodes name)) where
  -- a vertex of the node's set is under it
  pub under : (v : ℕ) → is_in (top_at nodes name) v ≡ true → cover_of nodes v ≡ Some name
  under v within =
      let (i, less, out, named, same) = outer in
      cover_found nodes v dual.apart i no_node less (ap (is_outer nodes) named ∙ out) (ap (λ s. is_in s v) same ∙ within)
      ∙ ap Some named

  -- and each other one isn't
  beyond : (v : ℕ) → is_in (top_at nodes name) v ≡ false → cover_of nodes v ≡ Some name → ⊥
  beyond v out cover = both_ways (is_in (top_at nodes name) v) out (cover_set nodes v name dual.names cover).1

  -- a link with one end in the set leads to the boundary or to a mate
  leads : (l : Link) → ends_of_one (top_at nodes name) l ≡ 1
      → EndsAtDefects p (leaves nodes) l
      → LeadsToBoundary p nodes name l ⊎ LeadsToMate nodes name l
  leads l one (from_leaf, to_leaf) = step (is_in (top_at nodes name) l.from) (is_in (top_at nodes name) l.to) refl refl
    where
      from_here : cover_of nodes l.from ≡ Some name → is_in (top_at nodes name) l.to ≡ false
          → (p.is_real l.to ≡ true) ⊎ (p.is_real l.to ≡ false) → LeadsToBoundary p nodes name l ⊎ LeadsToMate nodes name l
      from_here cover out (inl real) =
          let (m, other) = some_name (cover_of nodes l.to) (dual.defects l.to (to_leaf real)) in
          inr (m, inl (cover, other), λ same. beyond l.to out (other ∙ ap Some (sym same)))
      from_here cover out (inr unreal) = inl (l.to, inl (cover, refl), unreal)

      to_here : cover_of nodes l.to ≡ Some name → is_in (top_at nodes name) l.from ≡ false
          → (p.is_real l.from ≡ true) ⊎ (p.is_real l.from ≡ false) → LeadsToBoundary p nodes name l ⊎ LeadsToMate nodes name l
      to_here cover out (inl real) =
          let (m, other) = some_name (cover_of nodes l.from) (dual.defects l.from (from_leaf real)) in
          inr (m, inr (cover, other), λ same. beyond l.from out (other ∙ ap Some (sym same)))
      to_here cover out (inr unreal) = inl (l.from, inr (cover, refl), unreal)

      step : (a b : Bool) → is_in (top_at nodes name) l.from ≡ a → is_in (top_at nodes name) l.to ≡ b
          → LeadsToBoundary p nodes name l ⊎ LeadsToMate nodes name l
      step true true from to = absurd (omega (arith, one, ap as_count from, ap as_count to))
      step true false from to = from_here (under l.from from) to (cases_Bool (p.is_real l.to))
      step false true from to = to_here (under l.to to) from (cases_Bool (p.is_real l.from))
      step false false from to = absurd (omega (arith, one, ap as_count from, ap as_count to))

  pub match_among : ends_in (top_at nodes name) links ≡ 1 → HasMatch p nodes links name
  match_among one =
      let found = one_end (top_at nodes name) links one in (
        found.before,
        found.link,
        found.after,
        found.place,
        record {
          leads = leads found.link found.one
              (All-head (EndsAtDefects p (leaves nodes)) found.link found.after
              (All-right (EndsAtDefects p (leaves nodes)) found.before (found.link ∷ found.after) (subst (All (EndsAtDefects p (leaves nodes))) found.place are.at_defects)));
          others = All-weaker (λ l. (is_in (top_at nodes name) l.from ≡ false) × (is_in (top_at nodes name) l.to ≡ false))
              (EndsElsewhere nodes name) (λ l out. (beyond l.from out.0, beyond l.to out.1)) (found.before ++ found.after)
              found.others;
        },
      )

pub set_of : (p : Problem) (nodes : List Node) (name : ℕ) → IsDual p nodes → is_live nodes name ≡ true → is_outer nodes name ≡ true
    → IsSetOf nodes name (top_at nodes name)
set_of p nodes name dual live outer =
    let (v, cover) = covers_some p nodes name dual live outer in
    (cover_set nodes v name dual.names cover).0

pub match_of : MatchOf
match_of p nodes links unmatched name work live outer taken =
    let set = set_of p nodes name work.dual live outer in
    let one = matched_named p nodes links unmatched name (top_at nodes name) work set in
    match_among p nodes links name work.dual work.links_are set (omega (arith, one, ap as_count taken))

-- the matched links of a tree end under its nodes alone
pub none_in_tree : (nodes : List Node) (root : ℕ) (tree : List Entry) (name : ℕ) → AreDistinct (map (λ n. n.name) nodes)
    → IsTree nodes root tree → is_in (tree_names root tree) name ≡ false
    → ((v n : ℕ) → cover_of nodes v ≡ Some n → (n ≡ name → ⊥) → is_in (top_at nodes name) v ≡ false)
    → ends_in (top_at nodes name) (paired_links tree) ≡ 0
none_in_tree nodes root [] name distinct joined out other = refl
none_in_tree nodes root (e ∷ es) name distinct (parent, grown, matched, joined) out other =
    omega (
      arith,
      ends-cons (top_at nodes name) e.matched (paired_links es),
      ends matched,
      none_in_tree nodes root es name distinct joined
          (false_from_ne_true (is_in (tree_names root es) name)
          (λ h.
          both_ways (is_in (tree_names root (e ∷ es)) name) out
          (is_in-tail e.minus (e.plus ∷ tree_names root es) name (is_in-tail e.plus (tree_names root es) name h)))) other,
    )
  where
    not_minus : e.minus ≡ name → ⊥
    not_minus same =
        both_ways (is_in (tree_names root (e ∷ es)) name) out
        (subst (λ n. is_in (tree_names root (e ∷ es)) n ≡ true) same (is_in-head e.minus (e.plus ∷ tree_names root es)))

    not_plus : e.plus ≡ name → ⊥
    not_plus same =
        both_ways (is_in (tree_names root (e ∷ es)) name) out
        (subst (λ n. is_in (tree_names root (e ∷ es)) n ≡ true) same
        (is_in-tail e.minus (e.plus ∷ tree_names root es) e.plus (is_in-head e.plus (tree_names root es))))

    ends : Connects nodes e.matched e.minus e.plus → ends_of_one (top_at nodes name) e.matched ≡ 0
    ends (inl (from, to)) =
        omega (
          arith,
          ap as_count (other e.matched.from e.minus from not_minus),
          ap as_count (other e.matched.to e.plus to not_plus),
        )
    ends (inr (to, from)) =
        omega (
          arith,
          ap as_count (other e.matched.to e.minus to not_minus),
          ap as_count (other e.matched.from e.plus from not_plus),
        )

-- links of the end of a list
pub match_of_met : MatchOfMet
match_of_met p nodes tree rest unmatched root r name state live outer out = step (cases_Bool (is_in unmatched name))
  where
    set : IsSetOf nodes name (top_at nodes name)
    set = set_of p nodes name state.matching.dual live outer

    other : (v n : ℕ) → cover_of nodes v ≡ Some n → (n ≡ name → ⊥) → is_in (top_at nodes name) v ≡ false
    other v n cover differs =
        false_from_ne_true (is_in (top_at nodes name) v)
        (λ within.
        let both : Some n ≡ Some name =
        sym cover ∙ under p nodes rest name state.matching.dual
        (links_right p nodes (paired_links tree) rest state.matching.links_are) set v within in
        let same : n ≡ name = cc in
        differs same)

    step : (is_in unmatched name ≡ true) ⊎ (is_in unmatched name ≡ false) → (is_in unmatched name ≡ true) ⊎ HasMatch p nodes rest name
    step (inl open_) = inl open_
    step (inr taken) =
        let one = matched_named p nodes (paired_links tree ++ rest) unmatched name (top_at nodes name) state.matching set in
        inr
        (match_among p nodes rest name state.matching.dual (links_right p nodes (paired_links tree) rest state.matching.links_are) set
        (omega (
          arith,
          one,
          ap as_count taken,
          ends_append (top_at nodes name) (paired_links tree) rest,
          none_in_tree nodes root tree name state.matching.dual.names state.joined out other,
        )))

pub mate_outside : MateOutside
mate_outside p nodes tree before l after unmatched root r name mate state connects = (
  not_in_tree connects,
  taken name (connected nodes l name mate connects) (end_at connects),
  taken mate (connected nodes l mate name (connects_sym nodes l name mate connects)) (end_at (connects_sym nodes l name mate connects)),
)
  where
    Outside : Link → Type 0
    Outside m =
        ((n : ℕ) → cover_of nodes m.from ≡ Some n → is_in (tree_names root tree) n ≡ false)
        × ((n : ℕ) → cover_of nodes m.to ≡ Some n → is_in (tree_names root tree) n ≡ false)

    out : Outside l
    out =
        All-head Outside l after
        (All-right Outside before (l ∷ after) (outside p nodes tree (before ++ l ∷ after) unmatched root r state))

    not_in_tree : Connects nodes l name mate → is_in (tree_names root tree) mate ≡ false
    not_in_tree (inl (from, to)) = out.1 mate to
    not_in_tree (inr (to, from)) = out.0 mate from

    end_at : {a b : ℕ} → Connects nodes l a b → 1 ≤ ends_of_one (top_at nodes a) l
    end_at {a} {b} h = end_of nodes l a b state.matching.dual.names h

    taken : (n : ℕ) → (v : ℕ) × (cover_of nodes v ≡ Some n) → 1 ≤ ends_of_one (top_at nodes n) l → is_in unmatched n ≡ false
    taken n (v, cover) some =
        let one = matched_named p nodes (paired_links tree ++ (before ++ l ∷ after)) unmatched n (top_at nodes n) state.matching
        (cover_set nodes v n state.matching.dual.names cover).0 in
        false_from_ne_true (is_in unmatched n)
        (λ open_.
        omega (
          arith,
          one,
          some,
          ap as_count open_,
          ends_append (top_at nodes n) (paired_links tree) (before ++ l ∷ after),
          ends_append (top_at nodes n) before (l ∷ after),
          ends-cons (top_at nodes n) l after,
        ))
