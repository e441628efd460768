-- A minus blossom of a half-solved part opened along its ring.
use Rattle.std.proofs.Common.{ℕ, zero, suc, ◌≡◌, ◌+◌, ◌<◌, ◌⊎◌, inl, inr, true, false, List, [], ◌∷◌, ◌++◌, length, take, drop, get_or, All, IsSome, Some, refl, sym, ap, ◌∙◌, subst, arith}
use Rattle.std.specs.List.Sorted.{IsPermutation}
use Rattle.std.proofs.lemmas.Bool.{both_ways, false_from_ne_true}
use Rattle.std.proofs.lemmas.List.{get_or_default}
use Rattle.std.proofs.lemmas.List.Elements.{All-head}
use Rattle.std.proofs.lemmas.List.Sorted.{IsPermutation-sym, IsPermutation-trans, length_permutation}
use Rattle.fb_graph.specs.Parity.{is_in}
use Rattle.fb_graph.specs.Problem.{Problem}
use Rattle.fb_graph.specs.Laws.{Link}
use Rattle.fb_graph.specs.Dual.{Node, cover_of, is_live, is_outer, leaves, top_at}
use Rattle.fb_graph.specs.Moves.{MaySplit, split_nodes}
use Rattle.fb_graph.specs.Nests.{AreMany, IsNest}
use Rattle.fb_graph.proofs.Among.{IsAmong, All_among, live_among, top_among}
use Rattle.fb_graph.proofs.Sets.{is_in-All}
use Rattle.fb_graph.proofs.NestParts.{joins_many, split_is_bare}
use Rattle.fb_laws.specs.OpenedCycles.{IsOpenedCycle, last_of, paired_of}
use Rattle.fb_laws.specs.OpenedLinks.{round_from}
use Rattle.fb_laws.specs.PartStates.{AreCycles, SearchState}
use Rattle.fb_laws.specs.RingWays.{Round, IsRoundFrom, IsWayRound, couples_after, way_to}
use Rattle.fb_laws.specs.SearchOpenings.{IsSplit}
use Rattle.fb_laws.specs.StateOpenings.{AreLinkedRound, IsFreed}
use Rattle.fb_laws.specs.StateRings.{ChildAtEnd, CycleAlong, MayOpenAlong, StateOpenedAlong, round_of}
use Rattle.fb_laws.specs.Trees.{Connects, Entry}
use Rattle.fb_laws.specs.Opening.{EndsAtDefects}
use Rattle.fb_laws.specs.UnmatchedNames.{AreOuterNames}
use Rattle.fb_laws.proofs.CycleMoves.{child_inner}
use Rattle.fb_laws.proofs.OpenedBlossoms.{distinct_permuted, in_permuted, same_permuted}
use Rattle.fb_laws.proofs.OpenedParts.{matched_some, round_among}
use Rattle.fb_laws.proofs.RingWays.{even_way_round, round_begun}
use Rattle.fb_laws.proofs.SplitStates.{child_covers, is_split}
use Rattle.fb_laws.proofs.StateOpenings.{cycle_freed, state_opened}

pub child_at_end : ChildAtEnd
child_at_end p nodes name other child d l nest may are differs connects children held ends =
    by (live_among nodes name may.live)
  where
    by : (b : Node) × IsAmong b nodes × (b.name ≡ name) → Connects (split_nodes name nodes) l other child
    by (b, a, named) = step connects ends
      where
        mine : is_in b.children child ≡ true
        mine = All_among (λ n. n.name ≡ name → is_in n.children child ≡ true) nodes children b a named

        parts : IsSplit nodes (split_nodes name nodes) name b.children
        parts =
            subst (λ x. IsSplit nodes (split_nodes x nodes) x b.children) named
            (is_split p nodes b b.children a (subst (MaySplit nodes) (sym named) may) nest (λ n. refl))

        there : cover_of (split_nodes name nodes) d ≡ Some child
        there =
            let (m, among, is) =
            live_among nodes child
            (is_in-All (λ c. is_live nodes c ≡ true) b.children
            (All_among (λ n. All (λ c. is_live nodes c ≡ true) n.children) nodes nest.forest.live b a) child mine) in
            subst (λ x. cover_of (split_nodes x nodes) d ≡ Some m.name) named
            (child_covers p nodes b b.children a (subst (MaySplit nodes) (sym named) may) nest (λ n. refl) m among
            (ap (is_in b.children) is ∙ mine) d
            (ap (λ s. is_in s d) (sym (top_among nodes nest.dual.names m among) ∙ ap (top_at nodes) is) ∙ held))
            ∙ ap Some is

        at : EndsAtDefects p (leaves nodes) l
        at =
            All-head
            (EndsAtDefects p (leaves nodes)) l [] are.at_defects

        stays : (v : ℕ) → (p.is_real v ≡ true → is_in (leaves nodes) v ≡ true) → cover_of nodes v ≡ Some other
            → (cover_of (split_nodes name nodes) v ≡ Some other) × (is_in b.children other ≡ false)
        stays v defect cover =
            parts.outside v other (defect (nest.dual.real v (subst IsSome (sym cover) refl))) cover differs

        -- the end under the other node isn't in the child
        apart : (v : ℕ) → (p.is_real v ≡ true → is_in (leaves nodes) v ≡ true) → cover_of nodes v ≡ Some other → d ≡ v → ⊥
        apart v defect cover same =
            let (kept, out) = stays v defect cover in
            let one : Some child ≡ Some other =
            sym there ∙ (ap (cover_of (split_nodes name nodes)) same ∙ kept) in
            both_ways (is_in b.children other) out (let e : child ≡ other = cc in ap (is_in b.children) (sym e) ∙ mine)

        step : Connects nodes l other name → (d ≡ l.from) ⊎ (d ≡ l.to) → Connects (split_nodes name nodes) l other child
        step (inl (from, to)) (inl e) = absurd (apart l.from at.0 from e)
        step (inl (from, to)) (inr e) =
            inl ((stays l.from at.0 from).0, ap (cover_of (split_nodes name nodes)) (sym e) ∙ there)
        step (inr (to, from)) (inl e) =
            inr ((stays l.to at.1 to).0, ap (cover_of (split_nodes name nodes)) (sym e) ∙ there)
        step (inr (to, from)) (inr e) = absurd (apart l.to at.1 to e)

drop_at : (xs : List ℕ) (k d : ℕ) → k < length xs → drop k xs ≡ get_or xs k d ∷ drop (k + 1) xs
drop_at [] k d less = absurd (omega (arith, less))
drop_at (x ∷ xs) zero d less = refl
drop_at (x ∷ xs) (suc k) d less =
    let next : suc k + 1 ≡ suc (k + 1) = omega arith in
    drop_at xs k d (omega (arith, less)) ∙ ap (λ i. get_or xs k d ∷ drop i (x ∷ xs)) (sym next)

module _ (p : Problem) (s : SearchState) (newer older : List Entry) (e : Entry) (first : ℕ) (names : List ℕ)
    (place steps : ℕ) (nest : IsNest p s.nodes) (cycles : AreCycles p s.nodes s.cycles) (outer : AreOuterNames s.nodes s.unmatched)
    (may : MayOpenAlong s newer older e (first ∷ names) place steps) (b : Node) (among : IsAmong b s.nodes) (named : b.name ≡ e.minus) where
  abbrev Others : List Node
  Others = split_nodes e.minus s.nodes

  abbrev From : ℕ
  From = get_or (first ∷ names) place 0

  abbrev Ring : Round Link
  Ring = round_of s e (first ∷ names) place

  children_are : b.children ≡ first ∷ names
  children_are = All_among (λ n. n.name ≡ e.minus → n.children ≡ first ∷ names) s.nodes may.children_are b among named

  freed : IsFreed p s.nodes b.children e.minus (s.cycles e.minus)
  freed =
      All_among (λ n. n.name ≡ e.minus → IsFreed p s.nodes n.children e.minus (s.cycles e.minus)) s.nodes
      (cycle_freed p s.nodes s.cycles e.minus may.may_split nest cycles) b among named

  many : AreMany b.children
  many =
      joins_many p s.nodes nest b among (split_is_bare s.nodes e.minus may.may_split b among named).0

  begun : IsRoundFrom Others From Ring × IsPermutation (first ∷ names) (From ∷ Ring.others)
  begun =
      subst (λ f. IsRoundFrom Others f Ring × IsPermutation (first ∷ names) (f ∷ Ring.others))
      (get_or_default (first ∷ names) place first 0 may.place_below)
      (round_begun Others first names (s.cycles e.minus) place
      (subst (λ l. AreLinkedRound Others l (s.cycles e.minus)) children_are freed.linked)
      (let less : place < length (first ∷ names) = may.place_below in omega (arith, less)))

  size : length (From ∷ Ring.others) ≡ length (first ∷ names)
  size = length_permutation (first ∷ names) (From ∷ Ring.others) begun.1

  along : IsWayRound Others From (get_or (From ∷ Ring.others) steps From) Ring (way_to steps Ring) (couples_after steps Ring)
  along =
      even_way_round Others From Ring steps begun.0
      (omega (arith, size, many.odd, ap length children_are))
      (let less : steps < length (first ∷ names) = may.steps_below in omega (arith, size, less))

  -- the child at which the matched link ends
  to_is : get_or (round_from place (first ∷ names)) steps 0 ≡ get_or (From ∷ Ring.others) steps From
  to_is =
      ap (λ l. get_or (l ++ take place (first ∷ names)) steps 0) (drop_at (first ∷ names) place 0 may.place_below)
      ∙ get_or_default (From ∷ Ring.others) steps 0 From
      (let less : steps < length (first ∷ names) = may.steps_below in omega (arith, size, less))

  moved : IsPermutation b.children (last_of From (way_to steps Ring) ∷ paired_of From (way_to steps Ring) (couples_after steps Ring))
  moved =
      subst
      (λ l. IsPermutation l (last_of From (way_to steps Ring) ∷ paired_of From (way_to steps Ring) (couples_after steps Ring)))
      (sym children_are)
      (IsPermutation-trans (first ∷ names) (From ∷ Ring.others) _ begun.1 along.all)

  pub opened_cycle : IsOpenedCycle p s.nodes Others e From (way_to steps Ring) (couples_after steps Ring) s.unmatched
  opened_cycle = record {
    split =
        subst
        (λ x.
        IsSplit s.nodes (split_nodes x s.nodes) x
        (last_of From (way_to steps Ring) ∷ paired_of From (way_to steps Ring) (couples_after steps Ring)))
        named
        (is_split p s.nodes b _ among (subst (MaySplit s.nodes) (sym named) may.may_split) nest
        (same_permuted b.children _ moved));
    distinct = distinct_permuted b.children _ moved many.distinct;
    above = may.above;
    below = subst (λ n. Connects Others e.matched n e.plus) (to_is ∙ sym along.ends) may.below;
    passed = along.passed;
    coupled = along.coupled;
    links =
        along.links p s.nodes
        (matched_some p s.nodes (s.cycles e.minus) Ring.links (λ l a. round_among place (s.cycles e.minus) l a) freed.tight);
    closed = λ n within.
        false_from_ne_true (is_in s.unmatched n)
        (λ opens.
        both_ways (is_outer s.nodes n)
        (child_inner s.nodes b n among (in_permuted _ b.children (IsPermutation-sym b.children _ moved) n within))
        (outer n opens));
  }

pub way_along : (p : Problem) (s : SearchState) (newer older : List Entry) (e : Entry) (children : List ℕ) (place steps : ℕ)
    → IsNest p s.nodes → AreCycles p s.nodes s.cycles → AreOuterNames s.nodes s.unmatched
    → MayOpenAlong s newer older e children place steps
    → IsOpenedCycle p s.nodes (split_nodes e.minus s.nodes) e (get_or children place 0)
    (way_to steps (round_of s e children place)) (couples_after steps (round_of s e children place)) s.unmatched
way_along p s newer older e [] place steps nest cycles outer may = absurd (omega (arith, may.place_below))
way_along p s newer older e (first ∷ names) place steps nest cycles outer may =
    let (b, among, named) = live_among s.nodes e.minus may.may_split.live in
    opened_cycle p s newer older e first names place steps nest cycles outer may b among named

pub cycle_along : CycleAlong
cycle_along p s newer older e children place steps state may =
    way_along p s newer older e children place steps state.search.nest state.cycles state.search.outer may

pub state_opened_along : StateOpenedAlong
state_opened_along p s newer older e children place steps state may =
    state_opened p s newer older e (get_or children place 0) (way_to steps (round_of s e children place))
    (couples_after steps (round_of s e children place)) may.tree may.may_split
    (cycle_along p s newer older e children place steps state may) state
