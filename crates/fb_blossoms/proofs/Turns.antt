-- The legs of a path round a cycle.
use Rattle.std.proofs.Common.{◌≡◌, ℕ, suc, ◌+◌, ◌*◌, ◌%◌, ◌<◌, Bool, true, List, [], ◌∷◌, ◌++◌, length, reverse, Option, refl, sym, ◌∙◌, ap, subst, arith, append_assoc, Result, Ok, Err, OnOk}
use Rattle.std.proofs.lemmas.List.{append-nil, reverse-append}
use Rattle.fb_links.specs.Lists.{is_in}
use Rattle.fb_links.specs.declared.walk.Step.{Step}
use Rattle.fb_blossoms.specs.declared.cycles.Round.{Round}
use Rattle.fb_blossoms.specs.declared.ways.Way.{Way}
use Rattle.fb_blossoms.specs.declared.legs.Ends.{Ends}
use Rattle.fb_blossoms.specs.declared.legs.Leg.{Leg}
use Rattle.fb_blossoms.specs.declared.legs.Leg.TheVariants.{Inside, Over}
use Rattle.fb_blossoms.specs.Nodes.{IsNested, Node, cycle_at, defects_at, defects_of, is_on}
use Rattle.fb_blossoms.specs.Links.{AreLinked, LeadsOver, link_after, node_after, place_after, step_at}
use Rattle.fb_blossoms.specs.Paths.{GoesRound, IsEvenPath, ends_here, goes_on, goes_round, stays}
use Rattle.fb_blossoms.specs.InternalForest.{IsPlaceOf}
use Rattle.fb_blossoms.specs.InternalWays.{IsWay, LeadsDown}
use Rattle.fb_blossoms.specs.InternalLegs.{AllBecome, AreEndWays, AreLegs, GoesOn, IsLeg, IsRoundOf, Replaces, legs_size}
use Rattle.fb_blossoms.proofs.Nested.{one_in}
use Rattle.fb_blossoms.proofs.Rounds.{child_within, none_after, on_place}
use Rattle.fb_blossoms.proofs.Sizes.{passed, round_shorter, size_append}
use Rattle.fb_blossoms.proofs.LegLists.{become_both, become_one, become_split, legs_both, legs_split, one_become}

-- a node holds the defects to which ways lead down from it
pub way_holds : (nodes : List (Option Node)) (nested : IsNested nodes) (name d : ℕ) (xs : List ℕ) → LeadsDown nodes name d xs
    → is_in (defects_at nodes name) d ≡ true
way_holds nodes nested name d [] h = ap (λ o. is_in (defects_of o) d) h ∙ one_in d
way_holds nodes nested name d (x ∷ xs) h = child_within nodes nested name x h.0 d (way_holds nodes nested x d xs h.1)

-- the last node of a way is taken off: it is the child that the rest leads down from
pub way_shorter_by : (nodes : List (Option Node)) (name d x : ℕ) (old new : List ℕ) → LeadsDown nodes name d (reverse old) → old ≡ new ++ x ∷ []
    → (is_on (cycle_at nodes name) x ≡ true) × LeadsDown nodes x d (reverse new)
way_shorter_by nodes name d x old new h e =
    let f : reverse old ≡ x ∷ reverse new = ap reverse e ∙ reverse-append new (x ∷ []) in
    let P : List ℕ → Type 0 = LeadsDown nodes name d in
    subst P f h

module _ (links : List (Option (List Step))) (nodes : List (Option Node)) (name : ℕ) (onward : Bool) (s : ℕ) where
  -- the legs before, and those of the last k steps round the node's cycle; the path leaves the child before them at the
  -- end of the way
  pub record IsUnderRound (before : List Leg) (k : ℕ) (at : Way) (to : ℕ) (legs : List Leg) : Type 0 where
    pub valid : AreLegs nodes before → AreLegs nodes legs
    pub held : IsWay nodes (node_after (cycle_at nodes name) onward s k) at
    pub rounds : (q : List ℕ) → AllBecome links nodes legs q → (rest : List ℕ) × (later : List ℕ) × (q ≡ rest ++ later)
        × AllBecome links nodes before later
        × ((x : ℕ) (front : List ℕ) → IsEvenPath links nodes (node_after (cycle_at nodes name) onward s k) x at.defect front
        → GoesRound links nodes name onward s k x to (front ++ rest))
    pub size : legs_size nodes legs ≡ legs_size nodes before + 3 * passed nodes (cycle_at nodes name) onward s k + 2 * k

  pub round_start : (before : List Leg) (at : Way) → IsWay nodes (node_after (cycle_at nodes name) onward s 0) at → IsUnderRound before 0 at at.defect before
  round_start before at h = record {
    valid = λ b. b;
    held = h;
    rounds = λ q a. (
      [],
      q,
      refl,
      a,
      λ x front inner.
          let P : List ℕ → Type 0 = GoesRound links nodes name onward s 0 x at.defect in
          subst P (sym (append-nil front)) (ends_here name onward s x at.defect front inner),
    );
    size = omega arith;
  }

  module _ (nested : IsNested nodes) (linked : AreLinked links nodes (cycle_at nodes name)) (start : s < length (cycle_at nodes name))
      (before : List Leg) (k : ℕ) (at : Way) (to : ℕ) (legs : List Leg) (so_far : IsUnderRound before k at to legs) (small : k < length (cycle_at nodes name)) where
    abbrev here : ℕ
    here = node_after (cycle_at nodes name) onward s k

    one_more : (from : Way) → legs_size nodes (legs ++ Inside here (record { from = from; to = at }) ∷ [])
        ≡ legs_size nodes before + 3 * passed nodes (cycle_at nodes name) onward s (suc k) + 2 * k + 1
    one_more from = omega (arith, size_append nodes legs (Inside here (record { from = from; to = at }) ∷ []), so_far.size)

    pub round_more : (l : ℕ) (ends : Ends) → AreEndWays links nodes l (node_after (cycle_at nodes name) onward s (k + 1)) here ends
        → l ≡ link_after (cycle_at nodes name) onward s k
        → IsUnderRound before (k + 1) ends.from to ((legs ++ Inside here (record { from = ends.to; to = at }) ∷ []) ++ Over l ∷ [])
    round_more l ends over is = record {
      valid = λ b. legs_both links nodes _ (Over l ∷ []) (legs_both links nodes legs _ (so_far.valid b) ((over.to, so_far.held), tt)) (tt, tt);
      held = over.from;
      rounds = λ q h.
          let r = become_split links nodes (legs ++ Inside here (record { from = ends.to; to = at }) ∷ []) (Over l ∷ []) q h in
          let t = become_split links nodes legs (Inside here (record { from = ends.to; to = at }) ∷ []) r.0 r.3 in
          let w = so_far.rounds t.0 t.3 in
          let by : r.1 ≡ l ∷ [] = become_one links nodes (Over l) r.1 r.4 in
          let inner : IsEvenPath links nodes here ends.to.defect at.defect t.1 = become_one links nodes (Inside here (record { from = ends.to; to = at })) t.1 t.4 in
          let e : q ≡ (l ∷ (t.1 ++ w.0)) ++ w.1 =
          r.2 ∙ (ap (λ y. y ++ r.0) by ∙ ap (λ y. l ∷ y) (t.2 ∙ (ap (λ y. t.1 ++ y) w.2 ∙ sym (append_assoc t.1 w.0 w.1)))) in (
            l ∷ (t.1 ++ w.0),
            w.1,
            e,
            w.3,
            λ x front first.
                let n : k + 1 ≡ suc k = omega arith in
                let P : ℕ → Type 0 = λ j. IsEvenPath links nodes (node_after (cycle_at nodes name) onward s j) x ends.from.defect front in
                let Q : ℕ → Type 0 = λ j. LeadsOver links nodes (link_after (cycle_at nodes name) onward s k) (node_after (cycle_at nodes name) onward s j) ends.from.defect here ends.to.defect in
                let R : ℕ → Type 0 = λ m. LeadsOver links nodes m (node_after (cycle_at nodes name) onward s (k + 1)) ends.from.defect here ends.to.defect in
                let S : ℕ → Type 0 = λ j. GoesRound links nodes name onward s j x to (front ++ l ∷ (t.1 ++ w.0)) in
                let T : ℕ → Type 0 = λ m. GoesRound links nodes name onward s (suc k) x to (front ++ m ∷ (t.1 ++ w.0)) in
                subst S (sym n)
                (subst T (sym is)
                (goes_on name onward s k x ends.from.defect ends.to.defect to front (t.1 ++ w.0) (subst P n first) (subst Q n (subst R is over.over)) (w.4 ends.to.defect t.1 inner))),
          );
      size =
          let e : k + 1 ≡ suc k = omega arith in
          let f : passed nodes (cycle_at nodes name) onward s (k + 1) ≡ passed nodes (cycle_at nodes name) onward s (suc k) = ap (passed nodes (cycle_at nodes name) onward s) e in
          omega (arith, size_append nodes (legs ++ Inside here (record { from = ends.to; to = at }) ∷ []) (Over l ∷ []), one_more ends.to, f);
    }

    pub round_end : (ends : Ends) → IsWay nodes here ends.from → ends.to.defect ≡ to → k % 2 ≡ 0
        → Replaces links nodes before (Inside name ends) [] (legs ++ Inside here (record { from = ends.from; to = at }) ∷ [])
    round_end ends from ends_at even = record {
      legs = λ b. legs_both links nodes legs _ (so_far.valid b) ((from, so_far.held), tt);
      become = λ q h.
          let t = become_split links nodes legs (Inside here (record { from = ends.from; to = at }) ∷ []) q h in
          let w = so_far.rounds t.0 t.3 in
          let inner : IsEvenPath links nodes here ends.from.defect at.defect t.1 = become_one links nodes (Inside here (record { from = ends.from; to = at })) t.1 t.4 in
          let P : ℕ → Type 0 = λ d. IsEvenPath links nodes name ends.from.defect d (t.1 ++ w.0) in
          let path : IsEvenPath links nodes name ends.from.defect ends.to.defect (t.1 ++ w.0) =
          subst P (sym ends_at) (goes_round name ends.from.defect to (t.1 ++ w.0) onward s k start small even (w.4 ends.from.defect t.1 inner)) in
          let e : q ≡ (t.1 ++ w.0) ++ w.1 = t.2 ∙ (ap (λ y. t.1 ++ y) w.2 ∙ sym (append_assoc t.1 w.0 w.1)) in
          let Q : List ℕ → Type 0 = AllBecome links nodes (before ++ Inside name ends ∷ []) in
          subst Q (sym e) (become_both links nodes before (Inside name ends ∷ []) w.1 (t.1 ++ w.0) w.3 (one_become links nodes (Inside name ends) (t.1 ++ w.0) path));
      shorter = omega (arith, one_more ends.from, round_shorter links nodes nested name s linked start onward k small);
    }

pub end_ways_as : (links : List (Option (List Step))) (nodes : List (Option Node)) (l x y v w : ℕ) (ends : Ends) → AreEndWays links nodes l x y ends
    → x ≡ v → y ≡ w → AreEndWays links nodes l v w ends
end_ways_as links nodes l x y v w ends h e f =
    let P : ℕ → Type 0 = λ a. AreEndWays links nodes l a w ends in
    let Q : ℕ → Type 0 = λ b. AreEndWays links nodes l x b ends in
    subst P e (subst Q f h)

-- the even way round between the places of two children
pub round_of : (nodes : List (Option Node)) (name : ℕ) (round : Round) (ends : Ends) (count first last x y : ℕ) → count ≡ length (cycle_at nodes name)
    → IsPlaceOf (cycle_at nodes name) x first → IsPlaceOf (cycle_at nodes name) y last → round.end ≡ last → round.steps < count → round.steps % 2 ≡ 0
    → place_after count round.onward last round.steps ≡ first → IsWay nodes x ends.from → IsWay nodes y ends.to → IsRoundOf nodes name round ends
round_of nodes name round ends count first last x y counted a b at steps even there from to =
    let less : round.end < length (cycle_at nodes name) = omega (arith, at, b.0) in
    let P : ℕ → Type 0 = λ z. IsWay nodes z ends.from in
    let Q : ℕ → Type 0 = λ z. IsWay nodes z ends.to in
    let first_is : place_after (length (cycle_at nodes name)) round.onward round.end round.steps ≡ first =
    ap (λ e. place_after (length (cycle_at nodes name)) round.onward e round.steps) at ∙ (ap (λ n. place_after n round.onward last round.steps) (sym counted) ∙ there) in
    let last_is : (step_at (cycle_at nodes name) round.end).node ≡ y = ap (λ k. (step_at (cycle_at nodes name) k).node) at ∙ b.1 in
    record {
      end = less;
      steps = omega (arith, steps, counted);
      even = even;
      from = subst P (sym (ap (λ k. (step_at (cycle_at nodes name) k).node) first_is ∙ a.1)) from;
      to = subst Q (sym (none_after (cycle_at nodes name) round.onward round.end y less last_is)) to;
    }

-- a leg whose ends are in one child gives way to the leg inside the child
pub replaced_by_child : (links : List (Option (List Step))) (nodes : List (Option Node)) (nested : IsNested nodes) (before : List Leg) (name x : ℕ) (ends inner : Ends)
    → AreLinked links nodes (cycle_at nodes name) → is_on (cycle_at nodes name) x ≡ true → IsLeg nodes (Inside x inner)
    → inner.from.defect ≡ ends.from.defect → inner.to.defect ≡ ends.to.defect
    → Replaces links nodes before (Inside name ends) [] (before ++ Inside x inner ∷ [])
replaced_by_child links nodes nested before name x ends inner linked on leg from to =
    let p = on_place (cycle_at nodes name) x on in
    let at : node_after (cycle_at nodes name) true p.0 0 ≡ x = none_after (cycle_at nodes name) true p.0 x p.1 p.2 in
    let some : 0 < length (cycle_at nodes name) = omega (arith, p.1) in
    record {
      legs = λ b. legs_both links nodes before (Inside x inner ∷ []) b (leg, tt);
      become = λ q h.
          let t = become_split links nodes before (Inside x inner ∷ []) q h in
          let path : IsEvenPath links nodes x inner.from.defect inner.to.defect t.1 = become_one links nodes (Inside x inner) t.1 t.4 in
          let P : ℕ → Type 0 = λ y. IsEvenPath links nodes y inner.from.defect inner.to.defect t.1 in
          let Q : ℕ → Type 0 = λ d. IsEvenPath links nodes name d ends.to.defect t.1 in
          let R : ℕ → Type 0 = λ d. IsEvenPath links nodes name inner.from.defect d t.1 in
          let whole : IsEvenPath links nodes name inner.from.defect inner.to.defect t.1 =
          goes_round name inner.from.defect inner.to.defect t.1 true p.0 0 p.1 some refl (ends_here name true p.0 inner.from.defect inner.to.defect t.1 (subst P (sym at) path)) in
          let S : List ℕ → Type 0 = AllBecome links nodes (before ++ Inside name ends ∷ []) in
          subst S (sym t.2) (become_both links nodes before (Inside name ends ∷ []) t.0 t.1 t.3 (one_become links nodes (Inside name ends) t.1 (subst Q from (subst R to whole))));
      shorter =
          let size : length (defects_at nodes (node_after (cycle_at nodes name) true p.0 0)) ≡ length (defects_at nodes x) = ap (λ y. length (defects_at nodes y)) at in
          omega (arith, size_append nodes before (Inside x inner ∷ []), size, round_shorter links nodes nested name p.0 linked p.1 true 0 some);
    }

-- a leg with other ways to the same defects gives way to the same legs
pub replaces_as : (links : List (Option (List Step))) (nodes : List (Option Node)) (before after : List Leg) (name : ℕ) (inner ends : Ends)
    → inner.from.defect ≡ ends.from.defect → inner.to.defect ≡ ends.to.defect
    → Replaces links nodes before (Inside name inner) [] after → Replaces links nodes before (Inside name ends) [] after
replaces_as links nodes before after name inner ends from to h = record {
  legs = h.legs;
  become = λ q a.
      let t = become_split links nodes before (Inside name inner ∷ []) q (h.become q a) in
      let path : IsEvenPath links nodes name inner.from.defect inner.to.defect t.1 = become_one links nodes (Inside name inner) t.1 t.4 in
      let Q : ℕ → Type 0 = λ d. IsEvenPath links nodes name d ends.to.defect t.1 in
      let R : ℕ → Type 0 = λ d. IsEvenPath links nodes name inner.from.defect d t.1 in
      let S : List ℕ → Type 0 = AllBecome links nodes (before ++ Inside name ends ∷ []) in
      subst S (sym t.2) (become_both links nodes before (Inside name ends ∷ []) t.0 t.1 t.3 (one_become links nodes (Inside name ends) t.1 (subst Q from (subst R to path))));
  shorter = h.shorter;
}

-- a leg from a defect to itself gives way to none
pub replaced_by_none : (links : List (Option (List Step))) (nodes : List (Option Node)) (nested : IsNested nodes) (before : List Leg) (name : ℕ) (ends : Ends)
    → IsLeg nodes (Inside name ends) → ends.from.defect ≡ ends.to.defect → Replaces links nodes before (Inside name ends) [] before
replaced_by_none links nodes nested before name ends leg e = record {
  legs = λ b. b;
  become = λ q a.
      let P : ℕ → Type 0 = λ t. IsEvenPath links nodes name ends.from.defect t [] in
      become_both links nodes before (Inside name ends ∷ []) q [] a
      (one_become links nodes (Inside name ends) [] (subst P e (stays name ends.from.defect (way_holds nodes nested name ends.from.defect _ leg.0))));
  shorter = omega arith;
}

-- and one over a link to the link
pub replaced_over : (links : List (Option (List Step))) (nodes : List (Option Node)) (before : List Leg) (l : ℕ)
    → Replaces links nodes before (Over l) (l ∷ []) before
replaced_over links nodes before l = record {
  legs = λ b. b;
  become = λ q a. become_both links nodes before (Over l ∷ []) q (l ∷ []) a (one_become links nodes (Over l) (l ∷ []) refl);
  shorter = omega arith;
}

pub goes_over : (links : List (Option (List Step))) (nodes : List (Option Node)) (before : List Leg) (l : ℕ) (old new : List ℕ)
    → new ≡ old ++ l ∷ [] → GoesOn links nodes before (Over l) old before new
goes_over links nodes before l old new e = record { gone = l ∷ []; grown = e; replaced = replaced_over links nodes before l }

pub way_shorter : (links : List (Option (List Step))) (nodes : List (Option Node)) (todo before after : List Leg) (leg : Leg) (old new : List ℕ)
    → todo ≡ before ++ leg ∷ [] → GoesOn links nodes before leg old after new → legs_size nodes after < legs_size nodes todo
way_shorter links nodes todo before after leg old new popped h =
    omega (arith, ap (legs_size nodes) popped, size_append nodes before (leg ∷ []), h.replaced.shorter)

-- the path so far and what is left become an even path
pub record IsUnderWay (links : List (Option (List Step))) (nodes : List (Option Node)) (name from to : ℕ) (todo : List Leg) (path : List ℕ) : Type 0 where
  pub valid : AreLegs nodes todo
  pub become : (q : List ℕ) → AllBecome links nodes todo q → IsEvenPath links nodes name from to (path ++ q)

module _ (links : List (Option (List Step))) (nodes : List (Option Node)) (name from to : ℕ) where
  pub way_goes_on : (todo before after : List Leg) (leg : Leg) (old new : List ℕ) → IsUnderWay links nodes name from to todo old → todo ≡ before ++ leg ∷ []
      → GoesOn links nodes before leg old after new → IsUnderWay links nodes name from to after new
  way_goes_on todo before after leg old new way popped h =
      let P : List Leg → Type 0 = λ t. IsUnderWay links nodes name from to t old in
      let was : IsUnderWay links nodes name from to (before ++ leg ∷ []) old = subst P popped way in
      record {
        valid = h.replaced.legs (legs_split links nodes before (leg ∷ []) was.valid).0;
        become = λ q a.
            let e : new ++ q ≡ old ++ (h.gone ++ q) = ap (λ n. n ++ q) h.grown ∙ append_assoc old h.gone q in
            let Q : List ℕ → Type 0 = IsEvenPath links nodes name from to in
            subst Q (sym e) (was.become (h.gone ++ q) (h.replaced.become q a));
      }

  pub way_leg : (todo before : List Leg) (leg : Leg) (old : List ℕ) → IsUnderWay links nodes name from to todo old → todo ≡ before ++ leg ∷ [] → IsLeg nodes leg
  way_leg todo before leg old way popped =
      let P : List Leg → Type 0 = λ t. IsUnderWay links nodes name from to t old in
      (legs_split links nodes before (leg ∷ []) (subst P popped way).valid).1.0

  pub way_ends : (todo before : List Leg) (path : List ℕ) → IsUnderWay links nodes name from to todo path → todo ≡ before ++ [] → before ≡ []
      → IsEvenPath links nodes name from to path
  way_ends todo before path way popped none =
      let e : todo ≡ [] = popped ∙ (append-nil before ∙ none) in
      let P : List Leg → Type 0 = λ t. AllBecome links nodes t [] in
      let Q : List ℕ → Type 0 = IsEvenPath links nodes name from to in
      subst Q (append-nil path) (way.become [] (subst P (sym e) refl))

pub on_ok : {T E : Type 0} (P Q : Type 0) (r : Result T E) → (P → Q) → OnOk r P → OnOk r Q
on_ok P Q (Ok x) f h = f h
on_ok P Q (Err e) f h = tt
