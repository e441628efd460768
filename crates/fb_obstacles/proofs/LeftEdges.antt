-- The watch after a node absorbs a vertex: edges between two vertices of the node leave it.
use Rattle.std.proofs.Common.{ℕ, ◌≡◌, ◌==◌, ◌+◌, ◌<◌, ◌≤◌, ◌||◌, Bool, true, false, not, List, [], ◌∷◌, ◌++◌, filter, get_or, length, take, refl, sym, ap, ◌∙◌, subst, if◌then◌else◌, ◌&&◌, ◌⊎◌, inl, inr, arith}
use Rattle.std.proofs.Math.Bool.{and-true, or-false, or-true}
use Rattle.std.specs.List.{range_with_len}
use Rattle.std.proofs.lemmas.List.{take_all, take_more}
use Rattle.std.proofs.lemmas.Bool.{and_right, both_ways, cases_eq, cond-false, cond-true, eq-eqb, eqb-true, false≢true, ne_eqb}
use Rattle.fb_graph.proofs.Sets.{equal_sym, is_in_at}
use Rattle.fb_graph.specs.Parity.{is_in}
use Rattle.fb_graph.specs.Problem.{Problem, edge_at, touches}
use Rattle.fb_graph.specs.Dual.{AreUnderOne, Node, cover_of}
use Rattle.fb_graph.specs.Steps.{Roles}
use Rattle.fb_graph.specs.declared.parts.Edge.{Edge}
use Rattle.fb_graph.proofs.Members.{is_in_push}
use Rattle.fb_graph.proofs.Ranges.{is_in-filter-range}
use Rattle.fb_obstacles.specs.InnerEdges.{is_inner}
use Rattle.fb_obstacles.specs.Obstacles.{slack_at}
use Rattle.fb_obstacles.specs.Watched.{Watched, AreBounded}
use Rattle.fb_obstacles.proofs.HeldEnds.{same_node}
use Rattle.fb_obstacles.specs.InternalWatch.{StaysRightAbove}
use Rattle.fb_obstacles.specs.InternalWatching.{WatchesOuter, WatchesTaken}
use Rattle.fb_obstacles.proofs.ForgottenBounds.{bounded_twice}
use Rattle.fb_obstacles.proofs.WatchSteps.{bounded_by, touched, untouched}

-- an edge whose ends aren't under one node is not inner
pub outer_edge : (nodes : List Node) (e : Edge) → ¬ AreUnderOne nodes e.first e.second → is_inner nodes e ≡ false
outer_edge nodes e apart = by (is_inner nodes e) refl
  where
    by : (b : Bool) → is_inner nodes e ≡ b → is_inner nodes e ≡ false
    by true inner = absurd (apart (same_node (cover_of nodes e.first) (cover_of nodes e.second) inner))
    by false outer = outer

-- edge after edge
pub watched_first : (p : Problem) (roles : Roles) (nodes : List Node) (w : Watched) → WatchesOuter p roles nodes [] w w
watched_first p roles nodes w = record {
  room = refl;
  minus = refl;
  watched = λ k. refl;
  bounds = λ before after less enough right. bounded_by before after w (λ k. less k refl) right;
}

pub watched_more : (p : Problem) (roles : Roles) (nodes : List Node) (edges : List ℕ) (i : ℕ) (a b c : Watched) → i < length edges
    → WatchesOuter p roles nodes (take i edges) a b → WatchesOuter p roles nodes (get_or edges i 0 ∷ []) b c
    → WatchesOuter p roles nodes (take (i + 1) edges) a c
watched_more p roles nodes edges i a b c lt before more =
    subst (λ l. WatchesOuter p roles nodes l a c) (sym (take_more edges i 0 lt)) (record {
      room = more.room ∙ before.room;
      minus = more.minus ∙ before.minus;
      watched = by;
      bounds =
          bounded_twice (slack_at p roles nodes) (is_in (take i edges)) (is_in (get_or edges i 0 ∷ []))
          (is_in (take i edges ++ get_or edges i 0 ∷ [])) a b c
          (λ k was. is_in_push (take i edges) (get_or edges i 0) k ∙ ap (λ x. x || (get_or edges i 0 == k)) was)
          (λ k here. is_in_push (take i edges) (get_or edges i 0) k ∙ last (get_or edges i 0 == k) (is_in (take i edges) k) here)
          (λ k before here. is_in_push (take i edges) (get_or edges i 0) k ∙ neither (get_or edges i 0 == k) (is_in (take i edges) k) here before)
          before.bounds more.bounds;
    })
  where
    both : (e h x y : Bool) → (if e || false then x else (if h then x else y)) ≡ (if h || e then x else y)
    both true true x y = refl
    both true false x y = refl
    both false true x y = refl
    both false false x y = refl

    last : (e h : Bool) → (e || false) ≡ true → (h || e) ≡ true
    last true h here = or-true h
    last false h here = absurd (false≢true here)

    neither : (e h : Bool) → (e || false) ≡ false → h ≡ false → (h || e) ≡ false
    neither true h here before = absurd (false≢true (sym here))
    neither false h here before = ap (λ x. x || false) before

    by : (k : ℕ) → is_in c.edges k
        ≡ (if is_in (take i edges ++ get_or edges i 0 ∷ []) k then not (is_inner nodes (edge_at p.edges k)) else is_in a.edges k)
    by k =
        more.watched k
        ∙ ap (λ t. if (get_or edges i 0 == k) || false then not (is_inner nodes (edge_at p.edges k)) else t) (before.watched k)
        ∙ both (get_or edges i 0 == k) (is_in (take i edges) k) (not (is_inner nodes (edge_at p.edges k))) (is_in a.edges k)
        ∙ sym (ap (λ t. if t then not (is_inner nodes (edge_at p.edges k)) else is_in a.edges k)
        (is_in_push (take i edges) (get_or edges i 0) k))

pub watched_whole : (p : Problem) (roles : Roles) (nodes : List Node) (edges : List ℕ) (i : ℕ) (a b : Watched) → length edges ≤ i
    → WatchesOuter p roles nodes (take i edges) a b → WatchesOuter p roles nodes edges a b
watched_whole p roles nodes edges i a b all outer = subst (λ l. WatchesOuter p roles nodes l a b) (take_all i edges all) outer

-- an inner edge leaves
pub watched_left : (p : Problem) (roles : Roles) (nodes : List Node) (edge : ℕ) (old new : Watched) → is_inner nodes (edge_at p.edges edge) ≡ true
    → new.edge_count ≡ old.edge_count → ((k : ℕ) → is_in new.edges k ≡ (is_in old.edges k && not (k == edge)))
    → ((limit : ℕ → ℕ) → AreBounded limit old → AreBounded limit new) → new.nodes ≡ old.nodes
    → WatchesOuter p roles nodes (edge ∷ []) old new
watched_left p roles nodes edge old new inner room left bounds minus = record {
  room = room;
  minus = minus;
  watched = λ k. left k ∙ by k (cases_eq k edge);
  bounds = λ before after less enough right i inside.
      omega (
        arith,
        bounds before right i inside,
        less (get_or new.edges i 0) (ap (λ b. b || false) (elsewhere i inside)),
      );
}
  where
    by : (k : ℕ) → (k ≡ edge) ⊎ (k ≡ edge → ⊥) → (is_in old.edges k && not (k == edge))
        ≡ (if (edge == k) || false then not (is_inner nodes (edge_at p.edges k)) else is_in old.edges k)
    by k (inl same) =
        rw (eq-eqb k edge same, eq-eqb edge k (sym same))
        (and_right (is_in old.edges k) false refl ∙ sym (ap (λ b. not b) (ap (λ j. is_inner nodes (edge_at p.edges j)) same ∙ inner)))
    by k (inr other) = rw (ne_eqb k edge other, ne_eqb edge k (λ e. other (sym e))) (and-true (is_in old.edges k))

    elsewhere : (i : ℕ) → i < length new.edges → (edge == get_or new.edges i 0) ≡ false
    elsewhere i less =
        ne_eqb edge (get_or new.edges i 0)
        (λ same. both_ways (is_in new.edges edge)
        (left edge ∙ (ap (λ b. is_in old.edges edge && not b) (eq-eqb edge edge refl) ∙ and_right (is_in old.edges edge) false refl))
        (ap (is_in new.edges) same ∙ is_in_at new.edges i 0 less))

-- another edge is watched
pub watched_entered : (p : Problem) (roles : Roles) (nodes : List Node) (edge bound : ℕ) (old new : Watched)
    → is_inner nodes (edge_at p.edges edge) ≡ false → new.edge_count ≡ old.edge_count
    → ((k : ℕ) → is_in new.edges k ≡ (is_in old.edges k || (k == edge)))
    → bound ≤ slack_at p roles nodes edge → StaysRightAbove (λ _. bound) (λ k. k == edge) old new → new.nodes ≡ old.nodes
    → WatchesOuter p roles nodes (edge ∷ []) old new
watched_entered p roles nodes edge bound old new outer room entered most right minus = record {
  room = room;
  minus = minus;
  watched = λ k. entered k ∙ by k (cases_eq k edge);
  bounds = λ before after less enough.
      right before after (λ k other. less k (here k other))
      (λ k is.
      let same : k ≡ edge = eqb-true k edge is in
      omega (
        arith,
        most,
        ap (slack_at p roles nodes) same,
        enough k (ap (λ b. b || false) (eq-eqb edge k (sym same))),
      ));
}
  where
    here : (k : ℕ) → (k == edge) ≡ false → ((edge == k) || false) ≡ false
    here k other = ap (λ b. b || false) (equal_sym edge k ∙ other)

    by : (k : ℕ) → (k ≡ edge) ⊎ (k ≡ edge → ⊥) → (is_in old.edges k || (k == edge))
        ≡ (if (edge == k) || false then not (is_inner nodes (edge_at p.edges k)) else is_in old.edges k)
    by k (inl same) =
        rw (eq-eqb k edge same, eq-eqb edge k (sym same))
        (or-true (is_in old.edges k) ∙ sym (ap (λ b. not b) (ap (λ j. is_inner nodes (edge_at p.edges j)) same ∙ outer)))
    by k (inr other) = rw (ne_eqb k edge other, ne_eqb edge k (λ e. other (sym e))) (or-false (is_in old.edges k))

-- the edges at a vertex
pub taken_watched : (p : Problem) (roles : Roles) (nodes : List Node) (v : ℕ) (edges : List ℕ) (old new : Watched)
    → edges ≡ filter (λ k. touches v (edge_at p.edges k)) (range_with_len 0 (length p.edges))
    → WatchesOuter p roles nodes edges old new → WatchesTaken p roles nodes v old new
taken_watched p roles nodes v edges old new e outer = record {
  room = outer.room;
  minus = outer.minus;
  bounds = λ before after less enough.
      outer.bounds before after (λ k out. less k (untouched p v edges k e out)) (λ k in_it. enough k (touched p v edges k e in_it));
  watched = λ k less.
      outer.watched k
      ∙ ap (λ t. if t then not (is_inner nodes (edge_at p.edges k)) else is_in old.edges k)
      (ap (λ l. is_in l k) e ∙ is_in-filter-range (λ j. touches v (edge_at p.edges j)) (length p.edges) k less);
}

module _ (p : Problem) (roles : Roles) (nodes : List Node) (v : ℕ) (old new : Watched) (taken : WatchesTaken p roles nodes v old new) (k : ℕ)
    (less : k < length p.edges) where
  -- at the vertex all edges are watched but the inner ones
  pub watched_at : touches v (edge_at p.edges k) ≡ true
      → ¬ AreUnderOne nodes (edge_at p.edges k).first (edge_at p.edges k).second → is_in new.edges k ≡ true
  watched_at at apart =
      taken.watched k less
      ∙ cond-true (touches v (edge_at p.edges k)) (not (is_inner nodes (edge_at p.edges k))) (is_in old.edges k) at
      ∙ ap (λ b. not b) (outer_edge nodes (edge_at p.edges k) apart)

  -- elsewhere the same edges are watched as before
  pub watched_elsewhere : touches v (edge_at p.edges k) ≡ false → is_in new.edges k ≡ is_in old.edges k
  watched_elsewhere away =
      taken.watched k less
      ∙ cond-false (touches v (edge_at p.edges k)) (not (is_inner nodes (edge_at p.edges k))) (is_in old.edges k) away
