-- A closed set with an odd number of defects holds an odd component.
use Rattle.std.proofs.Common.{ℕ, ◌+◌, ◌<◌, ◌≤◌, ◌≡◌, ◌⊎◌, ◌&&◌, Bool, true, false, not, cond, List, [], ◌∷◌, length, get_or, All, filter, refl, sym, ap, ◌∙◌, subst, inl, inr, zero, suc, arith}
use Rattle.std.proofs.lemmas.Bool.{false≢true, both_ways}
use Rattle.std.proofs.lemmas.List.Elements.{All-filter, All-from_get_or}
use Rattle.std.proofs.lemmas.List.Sums.{sum_by-cons, length-filter, count_by-le-length}
use Rattle.fb_graph.specs.Parity.{differ, is_odd_count, is_in}
use Rattle.fb_graph.specs.Problem.{Problem, edge_at, no_edge, crosses}
use Rattle.fb_graph.specs.Certificate.{AreDistinct}
use Rattle.fb_graph.specs.Components.{IsJoined, IsOddAt}
use Rattle.fb_graph.specs.Laws.{IsClosed, NoOddComponent, NoOddClosedSet}
use Rattle.fb_graph.specs.declared.parts.Edge.{Edge}
use Rattle.fb_graph.proofs.ParitySums.{differ_self, same_from_differ, odd-differ, odd-filter, odd_same}
use Rattle.fb_graph.proofs.Sets.{All-from_is_in, is_in-All, is_in-cases, is_in-head, is_in-tail, is_in-filter, distinct-filter, odd_same_set, length-le_from_within}
use Rattle.fb_graph.proofs.Walks.{joined_self, joined_sym, joined_trans, joined_ends}
use Rattle.fb_graph.proofs.OddComponents.{component_uncrossed, closed_is_odd}
use Rattle.fb_graph.proofs.ClosedSets.{none_or_some}

-- a part of a set, all of it joined to v
record IsGrown (p : Problem) (set : List ℕ) (v : ℕ) (part : List ℕ) : Type 0 where
  distinct : AreDistinct part
  within : (u : ℕ) → is_in part u ≡ true → is_in set u ≡ true
  holds : is_in part v ≡ true
  joined : (u : ℕ) → is_in part u ≡ true → IsJoined p v u

grown_by_one : (p : Problem) (set : List ℕ) (v : ℕ) (part : List ℕ) (w u : ℕ) → IsGrown p set v part
    → is_in part w ≡ true → is_in part u ≡ false → IsJoined p w u → is_in set w ≡ is_in set u
    → IsGrown p set v (u ∷ part)
grown_by_one p set v part w u grown inner outer joined same = record {
  distinct = (outer, grown.distinct);
  within = λ x h. within x (is_in-cases u part x h);
  holds = is_in-tail u part v grown.holds;
  joined = λ x h. reaches x (is_in-cases u part x h);
}
  where
    within : (x : ℕ) → (u ≡ x) ⊎ (is_in part x ≡ true) → is_in set x ≡ true
    within x (inl e) = ap (is_in set) (sym e) ∙ (sym same ∙ grown.within w inner)
    within x (inr h) = grown.within x h

    reaches : (x : ℕ) → (u ≡ x) ⊎ (is_in part x ≡ true) → IsJoined p v x
    reaches x (inl e) = subst (IsJoined p v) e (joined_trans p v w u (grown.joined w inner) joined)
    reaches x (inr h) = grown.joined x h

-- an edge that crosses the part leads to a further member of the closed set
grown_over : (p : Problem) (set : List ℕ) (v : ℕ) (part : List ℕ) (k : ℕ) → IsClosed p set → IsGrown p set v part
    → k < length p.edges → crosses part (edge_at p.edges k) ≡ true → (u : ℕ) × IsGrown p set v (u ∷ part)
grown_over p set v part k closed grown less crossed =
    step (is_in part (edge_at p.edges k).first) (is_in part (edge_at p.edges k).second) refl refl crossed
  where
    same : is_in set (edge_at p.edges k).first ≡ is_in set (edge_at p.edges k).second
    same = same_from_differ _ _ (closed.uncrossed k no_edge less)

    step : (a b : Bool) → is_in part (edge_at p.edges k).first ≡ a → is_in part (edge_at p.edges k).second ≡ b
        → differ (is_in part (edge_at p.edges k).first) (is_in part (edge_at p.edges k).second) ≡ true
        → (u : ℕ) × IsGrown p set v (u ∷ part)
    step true false inner outer h = (
      (edge_at p.edges k).second,
      grown_by_one p set v part (edge_at p.edges k).first (edge_at p.edges k).second grown inner outer
          (joined_ends p k less) same,
    )
    step false true outer inner h = (
      (edge_at p.edges k).first,
      grown_by_one p set v part (edge_at p.edges k).second (edge_at p.edges k).first grown inner outer
          (joined_sym p _ _ (joined_ends p k less)) (sym same),
    )
    step true true first second h = absurd (false≢true (sym (ap (λ a. differ a true) first) ∙ (sym (ap (differ _) second) ∙ h)))
    step false false first second h =
        absurd (false≢true (sym (ap (λ a. differ a false) first) ∙ (sym (ap (differ _) second) ∙ h)))

-- a part of a closed set can be grown until no edge crosses it
closure : (p : Problem) (set : List ℕ) (v fuel : ℕ) (part : List ℕ) → IsClosed p set → IsGrown p set v part
    → length set ≤ fuel + length part
    → (whole : List ℕ) × IsGrown p set v whole × All (λ e. crosses whole e ≡ false) p.edges
closure p set v zero part closed grown enough = step (none_or_some (crosses part) p.edges no_edge)
  where
    step : All (λ e. crosses part e ≡ false) p.edges
        ⊎ (k : ℕ) × (k < length p.edges) × (crosses part (edge_at p.edges k) ≡ true)
        → (whole : List ℕ) × IsGrown p set v whole × All (λ e. crosses whole e ≡ false) p.edges
    step (inl uncrossed) = (part, grown, uncrossed)
    step (inr (k, less, crossed)) =
        let (u, more) = grown_over p set v part k closed grown less crossed in
        absurd (omega (arith, length-le_from_within (u ∷ part) set more.distinct closed.distinct more.within))
closure p set v (suc fuel) part closed grown enough =
    step (none_or_some (crosses part) p.edges no_edge)
    (λ u more. closure p set v fuel (u ∷ part) closed more (omega arith))
  where
    step : All (λ e. crosses part e ≡ false) p.edges
        ⊎ (k : ℕ) × (k < length p.edges) × (crosses part (edge_at p.edges k) ≡ true)
        → ((u : ℕ) → IsGrown p set v (u ∷ part)
        → (whole : List ℕ) × IsGrown p set v whole × All (λ e. crosses whole e ≡ false) p.edges)
        → (whole : List ℕ) × IsGrown p set v whole × All (λ e. crosses whole e ≡ false) p.edges
    step (inl uncrossed) further = (part, grown, uncrossed)
    step (inr (k, less, crossed)) further =
        let (u, more) = grown_over p set v part k closed grown less crossed in
        further u more

abbrev out_of : List ℕ → ℕ → Bool
out_of whole v = not (is_in whole v)

-- what is left of a closed set without a closed part is closed
closed_rest : (p : Problem) (set whole : List ℕ) → IsClosed p set → All (λ e. crosses whole e ≡ false) p.edges
    → IsClosed p (filter (out_of whole) set)
closed_rest p set whole closed uncrossed = record {
  distinct = distinct-filter (out_of whole) set closed.distinct;
  real = All-filter (out_of whole) (λ v. p.is_real v ≡ true) set closed.real;
  uncrossed = λ k d less. stays (get_or p.edges k d) (closed.uncrossed k d less) (uncrossed k d less);
}
  where
    stays : (e : Edge) → crosses set e ≡ false → crosses whole e ≡ false
        → crosses (filter (out_of whole) set) e ≡ false
    stays e first second =
        ap (λ a. differ a (is_in (filter (out_of whole) set) e.second))
        (is_in-filter (out_of whole) set e.first
        ∙ (ap (λ a. a && out_of whole e.first) (same_from_differ _ _ first)
        ∙ (ap (λ a. is_in set e.second && not a) (same_from_differ _ _ second)
        ∙ sym (is_in-filter (out_of whole) set e.second))))
        ∙ differ_self (is_in (filter (out_of whole) set) e.second)

-- the parity of a list is that of the elements kept and of those left out
odd-split : (test keep : ℕ → Bool) (xs : List ℕ)
    → is_odd_count test xs ≡ differ (is_odd_count test (filter keep xs)) (is_odd_count test (filter (λ x. not (keep x)) xs))
odd-split test keep xs =
    odd_same test (λ x. differ (keep x && test x) (not (keep x) && test x)) (λ x. either (keep x) (test x)) xs
    ∙ (odd-differ (λ x. keep x && test x) (λ x. not (keep x) && test x) xs
    ∙ (ap (λ a. differ a (is_odd_count (λ x. not (keep x) && test x) xs)) (sym (odd-filter keep test xs))
    ∙ ap (differ (is_odd_count test (filter keep xs))) (sym (odd-filter (λ x. not (keep x)) test xs))))
  where
    either : (a b : Bool) → b ≡ differ (a && b) (not a && b)
    either true true = refl
    either true false = refl
    either false true = refl
    either false false = refl

odd_rest : (test : ℕ → Bool) (set whole : List ℕ) → AreDistinct set → AreDistinct whole
    → ((u : ℕ) → is_in whole u ≡ true → is_in set u ≡ true) → is_odd_count test set ≡ true
    → is_odd_count test whole ≡ false → is_odd_count test (filter (out_of whole) set) ≡ true
odd_rest test set whole first second within odd even =
    rest (is_odd_count test (filter (is_in whole) set)) (is_odd_count test (filter (out_of whole) set))
    (odd_same_set test (filter (is_in whole) set) whole (distinct-filter (is_in whole) set first) second
    (λ v. is_in-filter (is_in whole) set v ∙ among (is_in set v) (is_in whole v) (within v)) ∙ even)
    (sym (odd-split test (is_in whole) set) ∙ odd)
  where
    among : (a b : Bool) → (b ≡ true → a ≡ true) → (a && b) ≡ b
    among true b h = refl
    among false true h = absurd (false≢true (h refl))
    among false false h = refl

    rest : (a b : Bool) → a ≡ false → differ a b ≡ true → b ≡ true
    rest true b e h = absurd (false≢true (sym e))
    rest false true e h = refl
    rest false false e h = absurd (false≢true h)

-- an odd closed set holds a vertex whose component is odd
pub odd_component_within : (p : Problem) → ((v : ℕ) → p.is_real v ≡ true → v < p.vertices)
    → (fuel : ℕ) (set : List ℕ) → length set ≤ fuel → IsClosed p set → is_odd_count p.is_defect set ≡ true
    → (v : ℕ) × IsOddAt p v
odd_component_within p below fuel [] enough closed odd = absurd (false≢true odd)
odd_component_within p below zero (w ∷ ws) enough closed odd = absurd (omega arith)
odd_component_within p below (suc fuel) (w ∷ ws) enough closed odd =
    step (closure p (w ∷ ws) w (length ws) (w ∷ []) closed alone (omega arith))
    (λ rest shorter closed' odd'. odd_component_within p below fuel rest shorter closed' odd')
  where
    alone : IsGrown p (w ∷ ws) w (w ∷ [])
    alone = record {
      distinct = (refl, tt);
      within = λ u h. first u (is_in-cases w [] u h);
      holds = is_in-head w [];
      joined = λ u h. itself u (is_in-cases w [] u h);
    }
      where
        first : (u : ℕ) → (w ≡ u) ⊎ (is_in [] u ≡ true) → is_in (w ∷ ws) u ≡ true
        first u (inl e) = ap (is_in (w ∷ ws)) (sym e) ∙ is_in-head w ws
        first u (inr h) = absurd (false≢true h)

        itself : (u : ℕ) → (w ≡ u) ⊎ (is_in [] u ≡ true) → IsJoined p w u
        itself u (inl e) = subst (IsJoined p w) e (joined_self p w)
        itself u (inr h) = absurd (false≢true h)

    step : (whole : List ℕ) × IsGrown p (w ∷ ws) w whole × All (λ e. crosses whole e ≡ false) p.edges
        → ((rest : List ℕ) → length rest ≤ fuel → IsClosed p rest → is_odd_count p.is_defect rest ≡ true
        → (v : ℕ) × IsOddAt p v)
        → (v : ℕ) × IsOddAt p v
    step (whole, grown, uncrossed) further = split (is_odd_count p.is_defect whole) refl
      where
        real : (u : ℕ) → is_in whole u ≡ true → p.is_real u ≡ true
        real u h = is_in-All (λ v. p.is_real v ≡ true) (w ∷ ws) closed.real u (grown.within u h)

        shorter : length (filter (out_of whole) (w ∷ ws)) ≤ fuel
        shorter =
            let gone : cond {A = ℕ} (out_of whole w) 1 0 ≡ 0 = ap (λ b. cond {A = ℕ} (not b) 1 0) grown.holds in
            omega (
              arith,
              length-filter (out_of whole) (w ∷ ws),
              sum_by-cons (λ u. cond {A = ℕ} (out_of whole u) 1 0) w ws,
              count_by-le-length (out_of whole) ws,
            )

        split : (b : Bool) → is_odd_count p.is_defect whole ≡ b → (v : ℕ) × IsOddAt p v
        split true e = (
          w,
          closed_is_odd p w whole
              (record {
                closed = record {
                  distinct = grown.distinct;
                  real = All-from_is_in (λ u. p.is_real u ≡ true) whole real;
                  uncrossed = uncrossed;
                };
                below = All-from_is_in (λ u. u < p.vertices) whole (λ u h. below u (real u h));
                holds = grown.holds;
                joined = grown.joined;
              })
              e,
        )
        split false e =
            further (filter (out_of whole) (w ∷ ws)) shorter (closed_rest p (w ∷ ws) whole closed uncrossed)
            (odd_rest p.is_defect (w ∷ ws) whole closed.distinct grown.distinct grown.within odd e)

pub no_odd_component : NoOddComponent
no_odd_component p below none set closed = step (is_odd_count p.is_defect set) refl
  where
    step : (b : Bool) → is_odd_count p.is_defect set ≡ b → b ≡ false
    step true e =
        let (v, odd) = odd_component_within p below (length set) set (omega arith) closed e in
        absurd (none v odd)
    step false e = refl

pub no_odd_closed_set : NoOddClosedSet
no_odd_closed_set p none v odd =
    both_ways (is_odd_count p.is_defect odd.members)
    (none odd.members (record {
      distinct = odd.component.distinct;
      real = All-from_is_in (λ u. p.is_real u ≡ true) odd.members odd.real;
      uncrossed =
          All-from_get_or (λ e. crosses odd.members e ≡ false) p.edges no_edge
          (component_uncrossed p v odd.members odd.component);
    }))
    odd.odd
