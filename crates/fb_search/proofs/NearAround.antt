-- What one pass over the edges at a single defect finds: of those to a target one with the least residue, and the least
-- residue of the others.
use Rattle.std.proofs.Common.{ℕ, ◌≡◌, ◌≢◌, ◌+◌, ◌≤◌, ◌<◌, ◌==◌, ◌&&◌, ◌||◌, ◌⊎◌, inl, inr, Bool, true, false, List, [], ◌∷◌, ◌++◌, length, take, filter, get_or, Some, None, refl, sym, ap, ◌∙◌, subst, arith, min, nat_lt, if◌then◌else◌}
use Rattle.std.specs.Prelude.{IfSome, Option}
use Rattle.std.specs.List.{range_with_len}
use Rattle.std.proofs.lemmas.Bool.{eqb-true, false≢true, ltb-false, ltb-true}
use Rattle.std.proofs.lemmas.List.{take_all, take_more}
use Rattle.fb_blossoms.proofs.Nested.{is_in-one}
use Rattle.fb_graph.specs.Components.{Leads}
use Rattle.fb_graph.specs.Dual.{Node, cover_of}
use Rattle.fb_graph.specs.Limits.{IsWithinLimits}
use Rattle.fb_graph.specs.Nests.{IsNest}
use Rattle.fb_graph.specs.Parity.{differ, is_in}
use Rattle.fb_graph.specs.Problem.{Problem, edge_at, touches}
use Rattle.fb_graph.specs.declared.parts.Edge.{Edge}
use Rattle.fb_graph.proofs.Members.{is_in-append}
use Rattle.fb_graph.proofs.Ranges.{is_in-filter-range}
use Rattle.fb_obstacles.specs.Obstacles.{residue_of}
use Rattle.fb_obstacles.specs.declared.singles.Around.{Around}
use Rattle.fb_obstacles.specs.declared.singles.EdgeAtSingle.{EdgeAtSingle}
use Rattle.fb_obstacles.specs.InternalSingles.{HasRoom, IsReach, is_nearer, room_with, with_best}
use Rattle.fb_search.specs.InternalNear.{IsTarget, is_target, with_reach}
use Rattle.fb_search.proofs.NearEdges.{target_is}
use Rattle.fb_search.proofs.NearMatches.{leads_apart, touches_from}
use Rattle.fb_graph.proofs.Walks.{Leads_flip}

-- an edge leads from a vertex to one other
leads_one : (e : Edge) (v f g : ℕ) → Leads e v f → Leads e v g → f ≡ g
leads_one e v f g (inl (a, b)) (inl (c, d)) = sym b ∙ d
leads_one e v f g (inl (a, b)) (inr (c, d)) = sym b ∙ c ∙ sym a ∙ d
leads_one e v f g (inr (a, b)) (inl (c, d)) = sym b ∙ c ∙ sym a ∙ d
leads_one e v f g (inr (a, b)) (inr (c, d)) = sym b ∙ d

-- an edge that touches two vertices leads from the one to the other
leads_between : (e : Edge) (v f : ℕ) → v ≢ f → touches v e ≡ true → touches f e ≡ true → Leads e v f
leads_between e v f apart at far = by (v == e.first) refl (v == e.second) refl (f == e.first) refl (f == e.second) refl at far
  where
    by : (a : Bool) → (v == e.first) ≡ a → (b : Bool) → (v == e.second) ≡ b → (c : Bool) → (f == e.first) ≡ c
        → (d : Bool) → (f == e.second) ≡ d → differ a b ≡ true → differ c d ≡ true → Leads e v f
    by true is b ib c ic true id at far = inl (sym (eqb-true v e.first is), sym (eqb-true f e.second id))
    by true is b ib true ic false id at far = absurd (apart (eqb-true v e.first is ∙ sym (eqb-true f e.first ic)))
    by true is b ib false ic false id at far = absurd (false≢true far)
    by false is true ib true ic d id at far = inr (sym (eqb-true v e.second ib), sym (eqb-true f e.first ic))
    by false is true ib false ic true id at far = absurd (apart (eqb-true v e.second ib ∙ sym (eqb-true f e.second id)))
    by false is true ib false ic false id at far = absurd (false≢true far)
    by false is false ib c ic d id at far = absurd (false≢true at)

is_in-push : (xs : List ℕ) (y k : ℕ) → is_in (xs ++ y ∷ []) k ≡ true → (y ≡ k) ⊎ (is_in xs k ≡ true)
is_in-push xs y k within = by (is_in xs k) refl (sym (is_in-append xs (y ∷ []) k) ∙ within)
  where
    by : (b : Bool) → is_in xs k ≡ b → (b || is_in (y ∷ []) k) ≡ true → (y ≡ k) ⊎ (is_in xs k ≡ true)
    by true old within = inr old
    by false old within = inl (is_in-one y k within)

-- the best edge has at most this residue
abbrev pub IsAtMost : Option EdgeAtSingle → ℕ → Type 0
IsAtMost None n = ⊥
IsAtMost (Some r) n = r.length ≤ n

-- the best edge is this one
abbrev pub IsBest : Option EdgeAtSingle → ℕ → Type 0
IsBest None k = ⊥
IsBest (Some r) k = r.edge ≡ k

-- what was found among these edges at the vertex
pub record IsAround (p : Problem) (nodes : List Node) (unmatched : List ℕ) (v : ℕ) (items : List ℕ) (a : Around) : Type 0 where
  pub reach : IfSome a.best (IsReach p nodes v)
  pub target : IfSome a.best (λ r. is_target p nodes unmatched r.far r.other ≡ true)
  pub least : (k f : ℕ) → is_in items k ≡ true → Leads (edge_at p.edges k) v f
      → is_target p nodes unmatched f (cover_of nodes f) ≡ true → IsAtMost a.best (residue_of nodes (edge_at p.edges k))
  pub others : (k : ℕ) → is_in items k ≡ true → IsBest a.best k ⊎ (a.room ≤ residue_of nodes (edge_at p.edges k))

module _ (p : Problem) (nodes : List Node) (unmatched : List ℕ) (v : ℕ) where
  module _ (r : EdgeAtSingle) (is : IsReach p nodes v r) where
    -- a target at the end of this edge is one that it reaches
    same_target : (k f : ℕ) → r.edge ≡ k → Leads (edge_at p.edges k) v f
        → is_target p nodes unmatched f (cover_of nodes f) ≡ true → is_target p nodes unmatched r.far r.other ≡ true
    same_target k f same leads target =
        let one : f ≡ r.far =
        leads_one (edge_at p.edges k) v f r.far leads (subst (λ j. Leads (edge_at p.edges j) v r.far) same is.leads) in
        subst (λ o. is_target p nodes unmatched r.far o ≡ true) (sym is.covered)
        (subst (λ x. is_target p nodes unmatched x (cover_of nodes x) ≡ true) one target)

    its_residue : (k : ℕ) → r.edge ≡ k → r.length ≡ residue_of nodes (edge_at p.edges k)
    its_residue k same = is.residue ∙ ap (λ j. residue_of nodes (edge_at p.edges j)) same

    -- it is the best one
    with_best_is : (items more : List ℕ) (a : Around) → IsAround p nodes unmatched v items a
        → ((k : ℕ) → is_in more k ≡ true → (r.edge ≡ k) ⊎ (is_in items k ≡ true))
        → is_nearer r a.best ≡ true → is_target p nodes unmatched r.far r.other ≡ true
        → IsAround p nodes unmatched v more (with_best a r)
    with_best_is items more a was cases nearer target = record {
      reach = is;
      target = target;
      least = λ k f within leads good. by_least k f leads good (cases k within);
      others = λ k within. by_others k (cases k within);
    }
      where
        less : (best : Option EdgeAtSingle) (n : ℕ) → is_nearer r best ≡ true → IsAtMost best n → r.length ≤ n
        less None n near most = absurd most
        less (Some b) n near most = omega (arith, ltb-true r.length b.length near, most)

        by_least : (k f : ℕ) → Leads (edge_at p.edges k) v f → is_target p nodes unmatched f (cover_of nodes f) ≡ true
            → (r.edge ≡ k) ⊎ (is_in items k ≡ true) → r.length ≤ residue_of nodes (edge_at p.edges k)
        by_least k f leads good (inl same) = omega (arith, its_residue k same)
        by_least k f leads good (inr old) =
            less a.best (residue_of nodes (edge_at p.edges k)) nearer (was.least k f old leads good)

        room_of : (best : Option EdgeAtSingle) (k : ℕ) → IfSome best (IsReach p nodes v)
            → IsBest best k ⊎ (a.room ≤ residue_of nodes (edge_at p.edges k))
            → room_with best a.room ≤ residue_of nodes (edge_at p.edges k)
        room_of None k reach (inl none) = absurd none
        room_of None k reach (inr le) = le
        room_of (Some b) k reach (inl same) =
            omega (arith, reach.residue, ap (λ j. residue_of nodes (edge_at p.edges j)) same)
        room_of (Some b) k reach (inr le) = omega (arith, le)

        by_others : (k : ℕ) → (r.edge ≡ k) ⊎ (is_in items k ≡ true)
            → (r.edge ≡ k) ⊎ (room_with a.best a.room ≤ residue_of nodes (edge_at p.edges k))
        by_others k (inl same) = inl same
        by_others k (inr old) = inr (room_of a.best k was.reach (was.others k old))

    -- or another one is
    without_best_is : (items more : List ℕ) (a : Around) → IsAround p nodes unmatched v items a
        → ((k : ℕ) → is_in more k ≡ true → (r.edge ≡ k) ⊎ (is_in items k ≡ true))
        → (is_nearer r a.best && is_target p nodes unmatched r.far r.other) ≡ false
        → IsAround p nodes unmatched v more (record { best = a.best; room = min a.room r.length })
    without_best_is items more a was cases other = record {
      reach = was.reach;
      target = was.target;
      least = λ k f within leads good. by_least k f leads good (cases k within);
      others = λ k within. by_others k (cases k within);
    }
      where
        farther : (best : Option EdgeAtSingle) (b : Bool) (n : ℕ) → b ≡ true → r.length ≡ n → (is_nearer r best && b) ≡ false
            → IsAtMost best n
        farther None b n good same not_both = absurd (false≢true (sym not_both ∙ good))
        farther (Some best) true n good same not_both = by (nat_lt r.length best.length) refl not_both
          where
            by : (c : Bool) → nat_lt r.length best.length ≡ c → (c && true) ≡ false → best.length ≤ n
            by true is both = absurd (false≢true (sym both))
            by false is both = omega (arith, ltb-false r.length best.length is, same)
        farther (Some best) false n good same not_both = absurd (false≢true good)

        by_least : (k f : ℕ) → Leads (edge_at p.edges k) v f → is_target p nodes unmatched f (cover_of nodes f) ≡ true
            → (r.edge ≡ k) ⊎ (is_in items k ≡ true) → IsAtMost a.best (residue_of nodes (edge_at p.edges k))
        by_least k f leads good (inl same) =
            farther a.best (is_target p nodes unmatched r.far r.other) (residue_of nodes (edge_at p.edges k))
            (same_target k f same leads good) (its_residue k same) other
        by_least k f leads good (inr old) = was.least k f old leads good

        by_others : (k : ℕ) → (r.edge ≡ k) ⊎ (is_in items k ≡ true)
            → IsBest a.best k ⊎ (min a.room r.length ≤ residue_of nodes (edge_at p.edges k))
        by_others k (inl same) = inr (omega (arith, its_residue k same))
        by_others k (inr old) = by (was.others k old)
          where
            by : IsBest a.best k ⊎ (a.room ≤ residue_of nodes (edge_at p.edges k))
                → IsBest a.best k ⊎ (min a.room r.length ≤ residue_of nodes (edge_at p.edges k))
            by (inl best) = inl best
            by (inr le) = inr (omega (arith, le))

    -- a further edge of the list
    pub around_more : (i : ℕ) (items : List ℕ) (a : Around) → i < length items → r.edge ≡ get_or items i 0
        → IsAround p nodes unmatched v (take i items) a
        → IsAround p nodes unmatched v (take (i + 1) items) (with_reach p nodes unmatched a r)
    around_more i items a less same was =
        by (is_nearer r a.best) refl (is_target p nodes unmatched r.far r.other) refl
      where
        cases : (k : ℕ) → is_in (take (i + 1) items) k ≡ true → (r.edge ≡ k) ⊎ (is_in (take i items) k ≡ true)
        cases k within =
            let more = take_more items i 0 less ∙ ap (λ x. take i items ++ x ∷ []) (sym same) in
            is_in-push (take i items) r.edge k (ap (λ l. is_in l k) (sym more) ∙ within)

        by : (b : Bool) → is_nearer r a.best ≡ b → (c : Bool) → is_target p nodes unmatched r.far r.other ≡ c
            → IsAround p nodes unmatched v (take (i + 1) items) (with_reach p nodes unmatched a r)
        by true near true good =
            rw (near, good) (with_best_is (take i items) (take (i + 1) items) a was cases near good)
        by true near false good =
            rw (near, good) (without_best_is (take i items) (take (i + 1) items) a was cases (rw (near, good) refl))
        by false near c good =
            rw near (without_best_is (take i items) (take (i + 1) items) a was cases (rw near refl))

  -- all edges at the vertex were looked at
  pub around_all : (i : ℕ) (items : List ℕ) (a : Around) → IsWithinLimits p → IsNest p nodes
      → items ≡ filter (λ k. touches v (edge_at p.edges k)) (range_with_len 0 (length p.edges)) → length items ≤ i
      → IsAround p nodes unmatched v (take i items) a
      → IfSome a.best (λ r. IsTarget p nodes unmatched r.far r.other)
      × IfSome a.best (λ r. HasRoom p.edges nodes v r.far r.length a.room)
  around_all i items a limits nest are all was = by a.best was.reach was.target was.least was.others
    where
      by : (best : Option EdgeAtSingle) → IfSome best (IsReach p nodes v)
          → IfSome best (λ r. is_target p nodes unmatched r.far r.other ≡ true)
          → ((k f : ℕ) → is_in (take i items) k ≡ true → Leads (edge_at p.edges k) v f
          → is_target p nodes unmatched f (cover_of nodes f) ≡ true → IsAtMost best (residue_of nodes (edge_at p.edges k)))
          → ((k : ℕ) → is_in (take i items) k ≡ true → IsBest best k ⊎ (a.room ≤ residue_of nodes (edge_at p.edges k)))
          → IfSome best (λ r. IsTarget p nodes unmatched r.far r.other)
          × IfSome best (λ r. HasRoom p.edges nodes v r.far r.length a.room)
      by None reach target least others = (tt, tt)
      by (Some r) reach target least others =
          (target_is p nodes unmatched r.far r.other nest reach.covered target, room)
        where
          apart : v ≢ r.far
          apart = leads_apart p r.edge v r.far limits reach.within reach.leads

          good : is_target p nodes unmatched r.far (cover_of nodes r.far) ≡ true
          good = subst (λ o. is_target p nodes unmatched r.far o ≡ true) reach.covered target

          room : HasRoom p.edges nodes v r.far r.length a.room
          room k less at = split (touches r.far (edge_at p.edges k)) refl
            where
              listed : is_in (take i items) k ≡ true
              listed =
                  ap (λ l. is_in l k) (take_all i items all ∙ are)
                  ∙ (is_in-filter-range (λ j. touches v (edge_at p.edges j)) (length p.edges) k less ∙ at)

              beside : touches r.far (edge_at p.edges k) ≡ false → IsBest (Some r) k ⊎ (a.room ≤ residue_of nodes (edge_at p.edges k))
                  → a.room ≤ residue_of nodes (edge_at p.edges k)
              beside off (inl same) =
                  absurd (false≢true (sym off ∙ (ap (λ j. touches r.far (edge_at p.edges j)) (sym same)
                  ∙ touches_from p r.edge r.far v limits reach.within (Leads_flip (edge_at p.edges r.edge) v r.far reach.leads))))
              beside off (inr le) = le

              split : (b : Bool) → touches r.far (edge_at p.edges k) ≡ b
                  → (if b then r.length else a.room) ≤ residue_of nodes (edge_at p.edges k)
              split true far = least k r.far listed (leads_between (edge_at p.edges k) v r.far apart at far) good
              split false off = beside off (others k listed)
