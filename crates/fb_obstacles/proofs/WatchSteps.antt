-- Edges that come under watch, vertex after vertex, and a node's vertices passed over from the last one back.
use Rattle.std.proofs.Common.{ℕ, ◌≡◌, ◌+◌, ◌<◌, ◌≤◌, ◌==◌, ◌&&◌, ◌||◌, ◌⊎◌, Bool, inl, inr, true, false, List, [], ◌∷◌, ◌++◌, length, take, filter, get_or, refl, sym, ap, ◌∙◌, arith, reverse, Option, Some, append-nil, append_assoc}
use Rattle.std.specs.List.{range_with_len}
use Rattle.std.proofs.Math.Bool.{and-false}
use Rattle.std.proofs.lemmas.Bool.{cases_lt, eq-eqb, false≢true, or_cases, or_left, or_right}
use Rattle.std.proofs.lemmas.List.{get_or_past, reverse-append, reverse-reverse, take_more}
use Rattle.fb_graph.specs.Parity.{is_in}
use Rattle.fb_graph.specs.Problem.{Problem, edge_at, no_edge, touches}
use Rattle.fb_graph.proofs.Members.{is_in_push, is_in-take_more, is_in-append}
use Rattle.fb_graph.proofs.ParitySums.{differ_self}
use Rattle.fb_graph.proofs.Ranges.{is_in-filter-range}
use Rattle.fb_graph.proofs.Sets.{equal_sym, is_in-cases, is_in-filter, is_in-head}
use Rattle.fb_obstacles.specs.Watched.{AreBounded, Watched}
use Rattle.fb_obstacles.specs.InternalWatch.{StaysRight}
use Rattle.fb_obstacles.specs.InternalWatching.{Enters, Watches}
use Rattle.fb_obstacles.proofs.ForgottenBounds.{right_twice}
use Rattle.fb_regions.specs.Listed.{back_from, listed_before}

-- bounds are right for greater limits too
pub bounded_by : (old new : ℕ → ℕ) (watched : Watched) → ((k : ℕ) → old k ≤ new k) → AreBounded old watched
    → AreBounded new watched
bounded_by old new watched more bounds i less =
    omega (arith, bounds i less, more (get_or watched.edges i 0))

-- an edge that isn't listed at the vertex doesn't touch it
pub untouched : (p : Problem) (v : ℕ) (es : List ℕ) (k : ℕ)
    → es ≡ filter (λ k. touches v (edge_at p.edges k)) (range_with_len 0 (length p.edges)) → is_in es k ≡ false
    → touches v (edge_at p.edges k) ≡ false
untouched p v es k e out = by (cases_lt k (length p.edges))
  where
    by : (k < length p.edges) ⊎ (length p.edges ≤ k) → touches v (edge_at p.edges k) ≡ false
    by (inl less) =
        sym (ap (λ l. is_in l k) e ∙ is_in-filter-range (λ j. touches v (edge_at p.edges j)) (length p.edges) k less) ∙ out
    by (inr past) = ap (touches v) (get_or_past p.edges k no_edge past) ∙ differ_self (v == 0)

-- an edge that doesn't touch the vertex isn't listed at it
pub unlisted : (p : Problem) (v : ℕ) (es : List ℕ) (k : ℕ)
    → es ≡ filter (λ k. touches v (edge_at p.edges k)) (range_with_len 0 (length p.edges))
    → touches v (edge_at p.edges k) ≡ false → is_in es k ≡ false
unlisted p v es k e out =
    ap (λ l. is_in l k) e
    ∙ (is_in-filter (λ j. touches v (edge_at p.edges j)) (range_with_len 0 (length p.edges)) k
    ∙ (ap (λ b. is_in (range_with_len 0 (length p.edges)) k && b) out ∙ and-false (is_in (range_with_len 0 (length p.edges)) k)))

-- so one that is listed there does
pub touched : (p : Problem) (v : ℕ) (es : List ℕ) (k : ℕ)
    → es ≡ filter (λ k. touches v (edge_at p.edges k)) (range_with_len 0 (length p.edges)) → is_in es k ≡ true
    → touches v (edge_at p.edges k) ≡ true
touched p v es k e held = by (touches v (edge_at p.edges k)) refl
  where
    by : (b : Bool) → touches v (edge_at p.edges k) ≡ b → b ≡ true
    by true is = refl
    by false is = absurd (false≢true (sym (unlisted p v es k e is) ∙ held))

-- vertex after vertex
pub watched_none : (p : Problem) (w : Watched) → Watches p [] w w
watched_none p w = record {
  room = refl;
  minus = refl;
  kept = λ k h. h;
  near = λ v k mem below touch. absurd (false≢true mem);
  only = λ k held none. held;
  bounds = λ before after less right.
      bounded_by before after w (λ k. less k (λ v mem. absurd (false≢true mem))) right;
}

-- the edges at one vertex more
pub watched_more : (p : Problem) (vs : List ℕ) (v : ℕ) (es : List ℕ) (a b c : Watched)
    → es ≡ filter (λ k. touches v (edge_at p.edges k)) (range_with_len 0 (length p.edges))
    → Watches p vs a b → Enters es b c → Watches p (v ∷ vs) a c
watched_more p vs v es a b c e before more = record {
  room = more.room ∙ before.room;
  minus = more.minus ∙ before.minus;
  bounds =
      right_twice (λ k. (u : ℕ) → is_in vs u ≡ true → touches u (edge_at p.edges k) ≡ false)
      (λ k. (u : ℕ) → is_in (v ∷ vs) u ≡ true → touches u (edge_at p.edges k) ≡ false) (is_in es) a b c away before.bounds
      more.bounds;
  kept = λ k h. more.kept k (before.kept k h);
  only = λ k held none.
      before.only k (more.only k held (unlisted p v es k e (none v (is_in-head v vs))))
      (λ u mem. none u (or_right (v == u) (is_in vs u) mem));
  near = λ u k mem below touch. near u k below touch (is_in-cases v vs u mem);
}
  where
    near : (u k : ℕ) → k < length p.edges → touches u (edge_at p.edges k) ≡ true → (v ≡ u) ⊎ (is_in vs u ≡ true)
        → is_in c.edges k ≡ true
    near u k below touch (inl same) =
        more.entered k (rw e (is_in-filter-range (λ j. touches v (edge_at p.edges j)) (length p.edges) k below
        ∙ ap (λ w. touches w (edge_at p.edges k)) same ∙ touch))
    near u k below touch (inr old) = more.kept k (before.near u k old below touch)

    away : (k : ℕ) → is_in es k ≡ false → ((u : ℕ) → is_in vs u ≡ true → touches u (edge_at p.edges k) ≡ false)
        → (u : ℕ) → is_in (v ∷ vs) u ≡ true → touches u (edge_at p.edges k) ≡ false
    away k out none u mem = by (is_in-cases v vs u mem)
      where
        by : (v ≡ u) ⊎ (is_in vs u ≡ true) → touches u (edge_at p.edges k) ≡ false
        by (inl same) = ap (λ w. touches w (edge_at p.edges k)) (sym same) ∙ untouched p v es k e out
        by (inr old) = none u old

-- one edge more
pub entered_on : (edges : List ℕ) (i : ℕ) (a b c : Watched) → i < length edges → c.edge_count ≡ b.edge_count
    → ((k : ℕ) → is_in c.edges k ≡ (is_in b.edges k || (k == get_or edges i 0)))
    → StaysRight (λ k. (k == get_or edges i 0) ≡ false) b c → c.nodes ≡ b.nodes → Enters (take i edges) a b → Enters (take (i + 1) edges) a c
entered_on edges i a b c lt room entered right minus before = record {
  room = room ∙ before.room;
  minus = minus ∙ before.minus;
  kept = λ k h. still k (before.kept k h);
  entered = λ k mem. by k (is_in-take_more edges i k lt mem);
  only = λ k held absent. was k absent (or_cases (is_in b.edges k) (k == get_or edges i 0) (sym (entered k) ∙ held));
  bounds =
      right_twice (λ k. is_in (take i edges) k ≡ false) (λ k. is_in (take (i + 1) edges) k ≡ false)
      (λ k. k == get_or edges i 0) a b c out before.bounds right;
}
  where
    still : (k : ℕ) → is_in b.edges k ≡ true → is_in c.edges k ≡ true
    still k h = entered k ∙ ap (λ x. x || (k == get_or edges i 0)) h

    by : (k : ℕ) → (is_in (take i edges) k ≡ true) ⊎ (get_or edges i 0 ≡ k) → is_in c.edges k ≡ true
    by k (inl old) = still k (before.entered k old)
    by k (inr same) = entered k ∙ or_right (is_in b.edges k) (k == get_or edges i 0) (eq-eqb k (get_or edges i 0) (sym same))

    more : (k : ℕ) → is_in (take (i + 1) edges) k ≡ (is_in (take i edges) k || (get_or edges i 0 == k))
    more k = ap (λ l. is_in l k) (take_more edges i 0 lt) ∙ is_in_push (take i edges) (get_or edges i 0) k

    was : (k : ℕ) → is_in (take (i + 1) edges) k ≡ false
        → (is_in b.edges k ≡ true) ⊎ ((k == get_or edges i 0) ≡ true) → is_in a.edges k ≡ true
    was k absent (inl held) = before.only k held (absent_before (is_in (take i edges) k) refl)
      where
        absent_before : (x : Bool) → is_in (take i edges) k ≡ x → is_in (take i edges) k ≡ false
        absent_before false is = is
        absent_before true is =
            absurd (false≢true (sym absent ∙ (more k ∙ or_left (is_in (take i edges) k) (get_or edges i 0 == k) is)))
    was k absent (inr same) =
        absurd (false≢true (sym absent ∙ (more k
        ∙ or_right (is_in (take i edges) k) (get_or edges i 0 == k) (equal_sym (get_or edges i 0) k ∙ same))))

    out : (k : ℕ) → (k == get_or edges i 0) ≡ false → is_in (take i edges) k ≡ false → is_in (take (i + 1) edges) k ≡ false
    out k other absent =
        ap (λ l. is_in l k) (take_more edges i 0 lt)
        ∙ (is_in_push (take i edges) (get_or edges i 0) k
        ∙ (ap (λ x. x || (get_or edges i 0 == k)) absent ∙ (equal_sym (get_or edges i 0) k ∙ other)))

-- all vertices behind the next one are passed, and the edges at them watched
pub record ArePassed (p : Problem) (vs : List ℕ) (next : Option ℕ) (old new : Watched) : Type 0 where
  pub passed : List ℕ
  pub whole : reverse (back_from vs next) ++ passed ≡ vs
  pub watched : Watches p passed old new

-- the list is read up to v, and then come those that are passed
turned : (rest passed : List ℕ) (v : ℕ) → reverse (v ∷ rest) ++ passed ≡ reverse rest ++ v ∷ passed
turned rest passed v =
    ap (λ l. l ++ passed) (reverse-append (v ∷ []) rest) ∙ append_assoc (reverse rest) (v ∷ []) passed

module _ (p : Problem) (vs : List ℕ) where
  pub none_passed : (last : ℕ) (a : Watched) → back_from vs (Some last) ≡ reverse vs → ArePassed p vs (Some last) a a
  none_passed last a all = record {
    passed = [];
    whole = append-nil (reverse (back_from vs (Some last))) ∙ (ap reverse all ∙ reverse-reverse vs);
    watched = watched_none p a;
  }

  pub next_held : (next : Option ℕ) (v : ℕ) (a b : Watched) → next ≡ Some v → ArePassed p vs next a b → is_in vs v ≡ true
  next_held next v a b is before =
      let rest : List ℕ = reverse (listed_before vs v) in
      ap (λ l. is_in l v)
      (sym before.whole
      ∙ (ap (λ o. reverse (back_from vs o) ++ before.passed) is ∙ turned rest before.passed v))
      ∙ (is_in-append (reverse rest) (v ∷ before.passed) v
      ∙ or_right (is_in (reverse rest) v) (is_in (v ∷ before.passed) v) (is_in-head v before.passed))

  pub one_passed : (next further : Option ℕ) (v : ℕ) (es : List ℕ) (a b c : Watched) → next ≡ Some v
      → back_from vs (Some v) ≡ v ∷ back_from vs further
      → es ≡ filter (λ k. touches v (edge_at p.edges k)) (range_with_len 0 (length p.edges))
      → ArePassed p vs next a b → Enters es b c → ArePassed p vs further a c
  one_passed next further v es a b c is rest e before more = record {
    passed = v ∷ before.passed;
    whole = sym (turned (back_from vs further) before.passed v)
        ∙ (ap (λ l. reverse l ++ before.passed) (sym rest)
        ∙ (ap (λ o. reverse (back_from vs o) ++ before.passed) (sym is) ∙ before.whole));
    watched = watched_more p before.passed v es a b c e before.watched more;
  }
