-- A part's blossoms opened, from the one made last to the one made first.
use Rattle.std.proofs.Common.{ℕ, zero, suc, ◌≡◌, ◌+◌, ◌≤◌, ◌==◌, ◌⊎◌, inl, inr, Bool, true, false, List, [], ◌∷◌, ◌++◌, cond, map, length, take, drop, get_or, filter, flat_map, sum_by, All, refl, sym, ap, ◌∙◌, subst, arith, if◌then◌else◌}
use Rattle.std.specs.List.{concat}
use Rattle.std.specs.List.Sorted.{IsPermutation}
use Rattle.std.proofs.lemmas.Bool.{both_ways, cases_Bool, eqb-true}
use Rattle.std.proofs.lemmas.List.{append-nil, append_assoc, length-append, length-map, map-append}
use Rattle.std.proofs.lemmas.List.Elements.{All-nil, All-cons, All-head}
use Rattle.std.proofs.lemmas.List.Sorted.{IsPermutation-append_comm, IsPermutation-refl, list_any-IsPermutation}
use Rattle.std.proofs.lemmas.List.Sums.{sum_by-cons}
use Rattle.fb_graph.specs.Parity.{is_in}
use Rattle.fb_graph.specs.Problem.{Problem}
use Rattle.fb_graph.specs.Certificate.{AreDistinct}
use Rattle.fb_graph.specs.Laws.{Link}
use Rattle.fb_graph.specs.Dual.{Node, AreApart, AreGrown, all_cuts, is_empty, is_outer, layers_of, leaves, top_at}
use Rattle.fb_graph.specs.Counts.{as_count}
use Rattle.fb_graph.specs.Ends.{ends_in, crossing_links, AreAllApart}
use Rattle.fb_graph.specs.Links.{IsTightLink}
use Rattle.fb_graph.specs.Nests.{IsNest, IsFilled, AreMany, AreJoinedLater, child_sets, first_set}
use Rattle.fb_graph.proofs.Among.{IsAmong, All_among, among_All, among_either, among_left, among_right, among_live, among_outer, any_among, apart_among, apart_of_two, map_among, name_among, other_name, same_among, top_among, is_in-empty}
use Rattle.fb_graph.proofs.AppendedNodes.{names_merged}
use Rattle.fb_graph.proofs.EndSums.{apart_sym, ends_union}
use Rattle.fb_graph.proofs.Forests.{child_within, first_within}
use Rattle.fb_graph.proofs.NestParts.{grove_of, joins_many, top_is_odd}
use Rattle.fb_graph.proofs.Sets.{is_in-All}
use Rattle.fb_graph.proofs.Sums.{sum_same}
use Rattle.fb_graph.proofs.Unions.{distinct_append}
use Rattle.fb_graph.proofs.Booleans.{same_bool}
use Rattle.fb_graph.proofs.Members.{distinct_left}
use Rattle.fb_laws.specs.Blossoms.{ArePaired}
use Rattle.fb_laws.specs.Fusion.{IsLinkOf}
use Rattle.fb_laws.specs.NestSolutions.{leaf_sets}
use Rattle.fb_laws.specs.OpenedLinks.{every_second, opened_over, pair_links, place_of, has_end, round_from, with_opened}
use Rattle.fb_laws.specs.Opening.{IsLevel, IsOpening, EndsAtDefects}
use Rattle.fb_laws.specs.PartStates.{AreCycles, IsRing, all_cycle_links, links_at}
use Rattle.fb_laws.specs.Works.{AreMatchedLinks, IsMatching, positive_cuts}
use Rattle.fb_laws.proofs.HalvesKept.{half_level}
use Rattle.fb_laws.proofs.MergedParts.{distinct_across}
use Rattle.fb_laws.proofs.NestOpenings.{nest_opened}
use Rattle.fb_laws.proofs.OpenedLevels.{level_permuted, next_level}
use Rattle.fb_laws.proofs.OpenedRings.{IsOnlyOne, only_one, pairs_round}
use Rattle.fb_laws.proofs.SearchStates.{links_joined}
use Rattle.fb_laws.proofs.SolvedNests.{defects_in_first}
use Rattle.fb_laws.proofs.TreePaths.{distinct_right}

-- No closed node joins the node, and it is closed itself or joins none.
pub record IsTop (closed : List Node) (m : Node) : Type 0 where
  pub own : IsAmong m closed ⊎ (is_empty m.children ≡ true)
  pub free : (q : Node) → IsAmong q closed → is_in q.children m.name ≡ false

-- the level at which some nodes are closed still
pub record IsOpenTo (p : Problem) (nodes closed : List Node) (links : List Link) : Type 0 where
  pub ends : (m : Node) → IsAmong m nodes → IsTop closed m → ends_in m.top.vertices links ≡ 1
  pub apart : (m n : Node) → IsAmong m nodes → IsAmong n nodes → IsTop closed m → IsTop closed n
      → (m.name ≡ n.name → ⊥) → AreApart m.top.vertices n.top.vertices
  pub once : All (λ c. crossing_links c.vertices links ≤ 1) (positive_cuts nodes)
  pub matched : AreMatchedLinks p nodes links

begun : (p : Problem) (nodes : List Node) (links : List Link) → IsMatching p nodes links []
    → IsOpenTo p nodes nodes links
begun p nodes links work = record {
  ends = λ m a top.
      omega (
        arith,
        All_among (λ n. is_outer nodes n.name ≡ true → ends_in n.top.vertices links + 0 ≡ 1) nodes work.matched m a
            (among_outer nodes m.name top.free),
      );
  apart = λ m n a b top_m top_n other.
      apart_among nodes work.dual.names work.dual.apart m n a b other (among_outer nodes m.name top_m.free)
      (among_outer nodes n.name top_n.free);
  once = (half_level p nodes links work).once;
  matched = work.links_are;
}

-- no node joins itself or a later one
joined_before : (before : List Node) (q : Node) (after : List Node) → AreJoinedLater (before ++ q ∷ after) → (m : Node)
    → IsAmong m (before ++ q ∷ []) → is_in m.children q.name ≡ false
joined_before [] q after joined m (inl e) =
    ap (λ x. is_in x.children q.name) (sym e) ∙ All-head (λ x. is_in q.children x.name ≡ false) q after joined.0
joined_before [] q after joined m (inr a) = absurd a
joined_before (z ∷ zs) q after joined m (inl e) =
    ap (λ x. is_in x.children q.name) (sym e)
    ∙ All_among (λ x. is_in z.children x.name ≡ false) (z ∷ (zs ++ q ∷ after)) joined.0 q
    (inr (among_right zs (q ∷ after) q (inl refl)))
joined_before (z ∷ zs) q after joined m (inr a) = joined_before zs q after joined.2 m a

sum_map : {X Y : Type 0} (g : Y → ℕ) (f : X → Y) (xs : List X) → sum_by g (map f xs) ≡ sum_by (λ x. g (f x)) xs
sum_map g f [] = refl
sum_map g f (x ∷ xs) =
    omega (arith, sum_by-cons g (f x) (map f xs), sum_by-cons (λ y. g (f y)) x xs, sum_map g f xs)

unmapped : {X Y : Type 0} (P : Y → Type 0) (f : X → Y) (xs : List X) → All (λ x. P (f x)) xs → All P (map f xs)
unmapped P f [] all = All-nil P
unmapped {X} P f (x ∷ xs) all =
    All-cons P (f x) (map f xs) (All-head (λ (y : X). P (f y)) x xs all)
    (unmapped P f xs (λ i d less. all (suc i) d (omega (arith, less))))

pub in_among : (xs : List ℕ) (v : ℕ) → is_in xs v ≡ true → IsAmong v xs
in_among xs v within =
    let (u, a, e) = any_among (λ w. w == v) xs within in subst (λ w. IsAmong w xs) (eqb-true u v e) a

second_among : {X : Type 0} (xs : List X) (x : X) → IsAmong x (every_second xs) → IsAmong x xs
second_among [] x a = absurd a
second_among (y ∷ []) x a = absurd a
second_among (y ∷ z ∷ xs) x (inl e) = inr (inl e)
second_among (y ∷ z ∷ xs) x (inr a) = inr (inr (second_among xs x a))

drop_among : {X : Type 0} (i : ℕ) (xs : List X) (x : X) → IsAmong x (drop i xs) → IsAmong x xs
drop_among zero xs x a = a
drop_among (suc i) [] x a = absurd a
drop_among (suc i) (y ∷ xs) x a = inr (drop_among i xs x a)

take_among : {X : Type 0} (i : ℕ) (xs : List X) (x : X) → IsAmong x (take i xs) → IsAmong x xs
take_among zero xs x a = absurd a
take_among (suc i) [] x a = absurd a
take_among (suc i) (y ∷ xs) x (inl e) = inl e
take_among (suc i) (y ∷ xs) x (inr a) = inr (take_among i xs x a)

pub round_among : {X : Type 0} (i : ℕ) (xs : List X) (x : X) → IsAmong x (round_from i xs) → IsAmong x xs
round_among {X} i xs x a = step (among_either (drop i xs) (take i xs) x a)
  where
    step : IsAmong x (drop i xs) ⊎ IsAmong x (take i xs) → IsAmong x xs
    step (inl b) = drop_among i xs x b
    step (inr b) = take_among i xs x b

pub flat_among : {X Y : Type 0} (g : X → List Y) (xs : List X) (x : X) (y : Y) → IsAmong x xs → IsAmong y (g x)
    → IsAmong y (flat_map g xs)
flat_among g [] x y a b = absurd a
flat_among g (z ∷ zs) x y (inl e) b =
    among_left (g z) (flat_map g zs) y (subst (λ w. IsAmong y (g w)) (sym e) b)
flat_among g (z ∷ zs) x y (inr a) b = among_right (g z) (flat_map g zs) y (flat_among g zs x y a b)

pub matched_some : (p : Problem) (nodes : List Node) (links some : List Link)
    → ((l : Link) → IsAmong l some → IsAmong l links) → AreMatchedLinks p nodes links → AreMatchedLinks p nodes some
matched_some p nodes links some within are = record {
  tight = over (IsTightLink p (all_cuts nodes)) are.tight;
  own = over (IsLinkOf p) are.own;
  at_defects =
      over
      (EndsAtDefects p (leaves nodes))
      are.at_defects;
}
  where
    over : (P : Link → Type 0) → All P links → All P some
    over P all = among_All P some (λ l a. All_among P links all l (within l a))

module _ (p : Problem) (nodes : List Node) (cycles : ℕ → List Link) (nest : IsNest p nodes)
    (are : AreCycles p nodes cycles) (before after : List Node) (q : Node) (is : nodes ≡ before ++ q ∷ after)
    (links : List Link) (level : IsOpenTo p nodes (before ++ q ∷ []) links) where
  q_in : IsAmong q nodes
  q_in = subst (IsAmong q) (sym is) (among_right before (q ∷ after) q (inl refl))

  q_free : (m : Node) → IsAmong m (before ++ q ∷ []) → is_in m.children q.name ≡ false
  q_free m a = joined_before before q after (subst AreJoinedLater is nest.forest.joined) m a

  q_top : IsTop (before ++ q ∷ []) q
  q_top = record { own = inl (among_right before (q ∷ []) q (inl refl)); free = q_free }

  not_q : (m : Node) → IsAmong m before → m.name ≡ q.name → ⊥
  not_q m a e =
      both_ways (is_in (map (λ n. n.name) (q ∷ after)) m.name)
      (distinct_across (map (λ n. n.name) before) (map (λ n. n.name) (q ∷ after)) m.name
      (subst AreDistinct (names_merged before (q ∷ after))
      (subst (λ l. AreDistinct (map (λ n. n.name) l)) is nest.dual.names)) (name_among before m a))
      (ap (is_in (map (λ n. n.name) (q ∷ after))) e ∙ name_among (q ∷ after) q (inl refl))

  -- what q doesn't join was there before
  was_top : (m : Node) → IsTop before m → is_in q.children m.name ≡ false → IsTop (before ++ q ∷ []) m
  was_top m top none = record {
    own = wider top.own;
    free = λ n a. by n (among_either before (q ∷ []) n a);
  }
    where
      wider : IsAmong m before ⊎ (is_empty m.children ≡ true)
          → IsAmong m (before ++ q ∷ []) ⊎ (is_empty m.children ≡ true)
      wider (inl a) = inl (among_left before (q ∷ []) m a)
      wider (inr e) = inr e

      by : (n : Node) → IsAmong n before ⊎ IsAmong n (q ∷ []) → is_in n.children m.name ≡ false
      by n (inl a) = top.free n a
      by n (inr (inl e)) = ap (λ x. is_in x.children m.name) (sym e) ∙ none
      by n (inr (inr a)) = absurd a

  childless_turn : is_empty q.children ≡ true → IsOpenTo p nodes before links
  childless_turn none = record {
    ends = λ m a top. level.ends m a (up m top);
    apart = λ m n a b top_m top_n other. level.apart m n a b (up m top_m) (up n top_n) other;
    once = level.once;
    matched = level.matched;
  }
    where
      up : (m : Node) → IsTop before m → IsTop (before ++ q ∷ []) m
      up m top = was_top m top (is_in-empty q.children m.name none)

  abbrev Sets : List (List ℕ)
  Sets = child_sets nodes q

  q_set : top_at nodes q.name ≡ q.top.vertices
  q_set = top_among nodes nest.dual.names q q_in

  parted : AreAllApart Sets
  parted = All_among (λ n. AreAllApart (child_sets nodes n)) nodes nest.forest.parted q q_in

  child_in : (m : Node) → IsAmong m nodes → is_in q.children m.name ≡ true
      → (v : ℕ) → is_in m.top.vertices v ≡ true → is_in q.top.vertices v ≡ true
  child_in m a child = child_within nodes (grove_of p nodes nest) m q a q_in child

  filled : is_empty q.children ≡ false → (v : ℕ) → is_in (first_set q) v ≡ is_in (concat Sets) v
  filled some = All_among (IsFilled nodes) nodes nest.forest.filled q q_in some

  -- a defect, or a vertex that isn't real, lies in a child where it lies in the blossom
  same_at : is_empty q.children ≡ false → (v : ℕ) → (p.is_real v ≡ true → is_in (leaves nodes) v ≡ true)
      → is_in (concat Sets) v ≡ is_in q.top.vertices v
  same_at some v at =
      same_bool (is_in (concat Sets) v) (is_in q.top.vertices v)
      (λ h.
      first_within q v (All_among (λ x. AreGrown (layers_of x)) nodes nest.dual.grown q q_in) (filled some v ∙ h))
      (λ h.
      sym (filled some v)
      ∙ All_among
      (λ n. (d : ℕ) → is_in (leaves nodes) d ≡ true → is_in n.top.vertices d ≡ true → is_in (first_set n) d ≡ true)
      nodes (defects_in_first p nodes nest) q q_in v
      (at (is_in-All (λ u. p.is_real u ≡ true) q.top.vertices (top_is_odd p nodes nest q q_in).real v h)) h)

  -- so the one end at the blossom lies in its children
  pub one_end : is_empty q.children ≡ false → sum_by (λ s. ends_in s links) Sets ≡ 1
  one_end some =
      sym (ends_union Sets links parted)
      ∙ (sum_same (λ l. as_count (is_in (concat Sets) l.from) + as_count (is_in (concat Sets) l.to))
      (λ l. as_count (is_in q.top.vertices l.from) + as_count (is_in q.top.vertices l.to)) links
      (λ i d less.
      let l : Link = get_or links i d in
      ap (λ x. as_count x + as_count (is_in (concat Sets) l.to))
      (same_at some l.from (level.matched.at_defects i d less).0)
      ∙ ap (λ x. as_count (is_in q.top.vertices l.from) + as_count x)
      (same_at some l.to (level.matched.at_defects i d less).1))
      ∙ level.ends q q_in q_top)

  many : is_empty q.children ≡ false → AreMany q.children
  many = joins_many p nodes nest q q_in

  abbrev More : List Link
  More = pair_links links Sets (cycles q.name)

  module _ (some : is_empty q.children ≡ false) (us : List ℕ) (c : ℕ) (vs : List ℕ) (cs : q.children ≡ us ++ c ∷ vs)
      (at : ends_in (top_at nodes c) links ≡ 1) (none : All (λ x. ends_in (top_at nodes x) links ≡ 0) us) where
    moved : IsPermutation (us ++ c ∷ vs) (c ∷ (vs ++ us))
    moved = IsPermutation-append_comm us (c ∷ vs)

    same_names : (x : ℕ) → is_in (c ∷ (vs ++ us)) x ≡ is_in q.children x
    same_names x =
        sym (list_any-IsPermutation (λ u. u == x) (us ++ c ∷ vs) (c ∷ (vs ++ us)) moved)
        ∙ ap (λ l. is_in l x) (sym cs)

    differ : AreDistinct (c ∷ (vs ++ us))
    differ =
        let all : AreDistinct (us ++ c ∷ vs) = subst AreDistinct cs (many some).distinct in
        distinct_append (c ∷ vs) us (distinct_right us (c ∷ vs) all) (distinct_left us (c ∷ vs) all)
        (apart_sym us (c ∷ vs) (λ v within. distinct_across us (c ∷ vs) v all within))

    sets_are : Sets ≡ map (top_at nodes) us ++ top_at nodes c ∷ map (top_at nodes) vs
    sets_are = ap (map (top_at nodes)) cs ∙ map-append (top_at nodes) us (c ∷ vs)

    pairs : ArePaired (map (top_at nodes) (vs ++ us)) More
    pairs =
        subst (λ l. ArePaired l More) (sym (map-append (top_at nodes) vs us))
        (subst (λ l. ArePaired (map (top_at nodes) vs ++ map (top_at nodes) us) (pair_links links l (cycles q.name)))
        (sym sets_are)
        (pairs_round links (map (top_at nodes) us) (top_at nodes c) (map (top_at nodes) vs) (cycles q.name)
        (unmapped (λ s. ends_in s links ≡ 0) (top_at nodes) us none) at
        (subst (λ l. IsRing l (cycles q.name)) sets_are
        (All_among (λ n. IsRing (child_sets nodes n) (cycles n.name)) nodes are.rings q q_in))
        (omega (
          arith,
          (many some).odd,
          ap length cs,
          length-append us (c ∷ vs),
          length-append (map (top_at nodes) vs) (map (top_at nodes) us),
          length-map vs (top_at nodes),
          length-map us (top_at nodes),
        ))))

    opening : IsOpening (positive_cuts nodes) (top_at nodes q.name) (top_at nodes c)
        (map (top_at nodes) (vs ++ us)) More
    opening =
        nest_opened p nodes q.name c (vs ++ us) More nest (among_live nodes q q.name q_in refl)
        (record {
          same =
              among_All (λ n. n.name ≡ q.name → (x : ℕ) → is_in (c ∷ (vs ++ us)) x ≡ is_in n.children x) nodes
              (λ n a e x.
              same_names x
              ∙ ap (λ y. is_in y.children x) (same_among nodes nest.dual.names q n q_in a (sym e)));
          distinct = differ;
        })
        pairs

    -- the level after it, of the children and of sets beside the blossom
    after_it : (rest : List (List ℕ)) → All (AreApart (top_at nodes q.name)) rest → AreAllApart rest
        → All (λ s. ends_in s links ≡ 1) rest
        → IsLevel (positive_cuts nodes) (map (top_at nodes) (c ∷ (vs ++ us)) ++ rest) (links ++ More)
    after_it rest beside apart ends =
        level_permuted (positive_cuts nodes) (map (top_at nodes) (c ∷ (vs ++ us)) ++ rest)
        (map (top_at nodes) (c ∷ (vs ++ us)) ++ rest) (More ++ links) (links ++ More) (IsPermutation-refl _)
        (IsPermutation-append_comm More links)
        (next_level (positive_cuts nodes) (top_at nodes q.name) (top_at nodes c) (map (top_at nodes) (vs ++ us)) rest
        links More
        (record {
          apart = (beside, apart);
          ends =
              All-cons (λ s. ends_in s links ≡ 1) (top_at nodes q.name) rest
              (ap (λ s. ends_in s links) q_set ∙ level.ends q q_in q_top) ends;
          once = level.once;
        })
        opening at)

    alone : IsLevel (positive_cuts nodes) (map (top_at nodes) (c ∷ (vs ++ us)) ++ []) (links ++ More)
    alone = after_it [] (All-nil (AreApart (top_at nodes q.name))) tt (All-nil (λ s. ends_in s links ≡ 1))

    child_end : (m : Node) → IsAmong m nodes → is_in q.children m.name ≡ true
        → ends_in m.top.vertices (links ++ More) ≡ 1
    child_end m a child =
        ap (λ s. ends_in s (links ++ More)) (sym (top_among nodes nest.dual.names m a))
        ∙ All_among (λ s. ends_in s (links ++ More) ≡ 1) (map (top_at nodes) (c ∷ (vs ++ us)) ++ []) alone.ends
        (top_at nodes m.name)
        (among_left (map (top_at nodes) (c ∷ (vs ++ us))) [] (top_at nodes m.name)
        (map_among (top_at nodes) (c ∷ (vs ++ us)) m.name
        (in_among (c ∷ (vs ++ us)) m.name (same_names m.name ∙ child))))

    beside_end : (m : Node) → IsAmong m nodes → IsTop (before ++ q ∷ []) m → (m.name ≡ q.name → ⊥)
        → ends_in m.top.vertices (links ++ More) ≡ 1
    beside_end m a top other =
        All_among (λ s. ends_in s (links ++ More) ≡ 1)
        (map (top_at nodes) (c ∷ (vs ++ us)) ++ m.top.vertices ∷ [])
        (after_it (m.top.vertices ∷ [])
        (All-cons (AreApart (top_at nodes q.name)) m.top.vertices []
        (subst (λ s. AreApart s m.top.vertices) (sym q_set)
        (level.apart q m q_in a q_top top (λ e. other (sym e))))
        (All-nil (AreApart (top_at nodes q.name))))
        (All-nil (AreApart m.top.vertices), tt)
        (All-cons (λ s. ends_in s links ≡ 1) m.top.vertices [] (level.ends m a top)
        (All-nil (λ s. ends_in s links ≡ 1)))).ends
        m.top.vertices
        (among_right (map (top_at nodes) (c ∷ (vs ++ us))) (m.top.vertices ∷ []) m.top.vertices (inl refl))

    more_matched : AreMatchedLinks p nodes More
    more_matched =
        matched_some p nodes (all_cycle_links nodes cycles) More
        (λ l a.
        flat_among (links_at cycles) nodes q l q_in
        (subst (λ b. IsAmong l (if b then [] else cycles q.name)) (sym some)
        (round_among (place_of (has_end links) Sets) (cycles q.name) l
        (second_among (round_from (place_of (has_end links) Sets) (cycles q.name)) l a))))
        are.links

    not_now : (m : Node) → IsAmong m nodes → IsTop before m → m.name ≡ q.name → ⊥
    not_now m a top e = by top.own
      where
        by : IsAmong m before ⊎ (is_empty m.children ≡ true) → ⊥
        by (inl b) = not_q m b e
        by (inr childless) =
            both_ways (is_empty q.children) some
            (ap (λ n. is_empty n.children) (sym (same_among nodes nest.dual.names m q a q_in e)) ∙ childless)

    opened : IsOpenTo p nodes before (links ++ More)
    opened = record {
      ends = λ m a top. ends_of m a top (cases_Bool (is_in q.children m.name));
      apart = λ m n a b top_m top_n other.
          parts m n a b top_m top_n other (cases_Bool (is_in q.children m.name))
          (cases_Bool (is_in q.children n.name));
      once = alone.once;
      matched = links_joined p nodes links More level.matched more_matched;
    }
      where
        ends_of : (m : Node) → IsAmong m nodes → IsTop before m
            → (is_in q.children m.name ≡ true) ⊎ (is_in q.children m.name ≡ false)
            → ends_in m.top.vertices (links ++ More) ≡ 1
        ends_of m a top (inl child) = child_end m a child
        ends_of m a top (inr out) = beside_end m a (was_top m top out) (not_now m a top)

        child_beside : (m n : Node) → IsAmong m nodes → IsAmong n nodes → is_in q.children m.name ≡ true
            → IsTop before n → is_in q.children n.name ≡ false → AreApart m.top.vertices n.top.vertices
        child_beside m n a b child top out v within =
            level.apart q n q_in b q_top (was_top n top out) (λ e. not_now n b top (sym e)) v
            (child_in m a child v within)

        parts : (m n : Node) → IsAmong m nodes → IsAmong n nodes → IsTop before m → IsTop before n
            → (m.name ≡ n.name → ⊥) → (is_in q.children m.name ≡ true) ⊎ (is_in q.children m.name ≡ false)
            → (is_in q.children n.name ≡ true) ⊎ (is_in q.children n.name ≡ false)
            → AreApart m.top.vertices n.top.vertices
        parts m n a b top_m top_n other (inl h) (inl k) =
            subst (λ s. AreApart s n.top.vertices) (top_among nodes nest.dual.names m a)
            (subst (AreApart (top_at nodes m.name)) (top_among nodes nest.dual.names n b)
            (apart_of_two (top_at nodes) q.children parted m.name n.name h k other))
        parts m n a b top_m top_n other (inl h) (inr k) = child_beside m n a b h top_n k
        parts m n a b top_m top_n other (inr h) (inl k) =
            apart_sym n.top.vertices m.top.vertices (child_beside n m b a k top_m h)
        parts m n a b top_m top_n other (inr h) (inr k) =
            level.apart m n a b (was_top m top_m h) (was_top n top_n k) other

  pub turn : IsOpenTo p nodes before (with_opened nodes cycles q links)
  turn = step (cases_Bool (is_empty q.children))
    where
      step : (is_empty q.children ≡ true) ⊎ (is_empty q.children ≡ false)
          → IsOpenTo p nodes before (with_opened nodes cycles q links)
      step (inl none) =
          subst (λ b. IsOpenTo p nodes before (links ++ (if b then [] else More))) (sym none)
          (subst (IsOpenTo p nodes before) (sym (append-nil links)) (childless_turn none))
      step (inr some) =
          let one : IsOnlyOne (λ x. ends_in (top_at nodes x) links) q.children =
          only_one (λ x. ends_in (top_at nodes x) links) q.children
          (sym (sum_map (λ s. ends_in s links) (top_at nodes) q.children) ∙ one_end some) in
          subst (λ b. IsOpenTo p nodes before (links ++ (if b then [] else More))) (sym some)
          (opened some one.before one.one one.after one.is one.at one.none)

module _ (p : Problem) (nodes : List Node) (cycles : ℕ → List Link) (matches : List Link) (nest : IsNest p nodes)
    (are : AreCycles p nodes cycles) (work : IsMatching p nodes matches []) where
  pub opened_to : (closed over : List Node) → nodes ≡ closed ++ over
      → IsOpenTo p nodes closed (opened_over nodes cycles over matches)
  opened_to closed [] is =
      subst (λ l. IsOpenTo p nodes l matches) (is ∙ append-nil closed) (begun p nodes matches work)
  opened_to closed (n ∷ ns) is =
      turn p nodes cycles nest are closed ns n is (opened_over nodes cycles ns matches)
      (opened_to (closed ++ n ∷ []) ns (is ∙ sym (append_assoc closed (n ∷ []) ns)))

  pub end_at_turn : (before after : List Node) (n : Node) → nodes ≡ before ++ n ∷ after → is_empty n.children ≡ false
      → sum_by (λ s. ends_in s (opened_over nodes cycles after matches)) (child_sets nodes n) ≡ 1
  end_at_turn before after n is some =
      one_end p nodes cycles nest are before after n is (opened_over nodes cycles after matches)
      (opened_to (before ++ n ∷ []) after (is ∙ sym (append_assoc before (n ∷ []) after))) some

  -- with all over, the sets of the nodes without children are the level
  childless_all : (P : List ℕ → Type 0) (ns : List Node)
      → ((m : Node) → IsAmong m ns → is_empty m.children ≡ true → P m.top.vertices) → All P (leaf_sets ns)
  childless_all P [] each = All-nil P
  childless_all P (n ∷ ns) each =
      step (is_empty n.children) refl (childless_all P ns (λ m a e. each m (inr a) e))
    where
      step : (b : Bool) → is_empty n.children ≡ b → All P (leaf_sets ns)
          → All P (map (λ m. m.top.vertices) (cond b (n ∷ filter (λ m. is_empty m.children) ns)
          (filter (λ m. is_empty m.children) ns)))
      step true e rest = All-cons P n.top.vertices (leaf_sets ns) (each n (inl refl) e) rest
      step false e rest = rest

  childless_apart : (ns : List Node)
      → ((m n : Node) → IsAmong m ns → IsAmong n ns → is_empty m.children ≡ true → is_empty n.children ≡ true
      → (m.name ≡ n.name → ⊥) → AreApart m.top.vertices n.top.vertices)
      → AreDistinct (map (λ n. n.name) ns) → AreAllApart (leaf_sets ns)
  childless_apart [] each distinct = tt
  childless_apart (n ∷ ns) each distinct =
      step (is_empty n.children) refl (childless_apart ns (λ m k a b. each m k (inr a) (inr b)) distinct.1)
    where
      step : (b : Bool) → is_empty n.children ≡ b → AreAllApart (leaf_sets ns)
          → AreAllApart (map (λ m. m.top.vertices) (cond b (n ∷ filter (λ m. is_empty m.children) ns)
          (filter (λ m. is_empty m.children) ns)))
      step true e rest = (
        childless_all (AreApart n.top.vertices) ns
            (λ m a k. each n m (inl refl) (inr a) e k (other_name n ns distinct m a)),
        rest,
      )
      step false e rest = rest

  childless_top : (m : Node) → is_empty m.children ≡ true → IsTop [] m
  childless_top m none = record { own = inr none; free = λ q a. absurd a }

  pub opened_level : IsLevel (positive_cuts nodes) (leaf_sets nodes) (opened_over nodes cycles nodes matches)
  opened_level =
      let last : IsOpenTo p nodes [] (opened_over nodes cycles nodes matches) = opened_to [] nodes refl in
      record {
        apart =
            childless_apart nodes
            (λ m n a b childless_m childless_n other. last.apart m n a b (childless_top m childless_m) (childless_top n childless_n) other)
            nest.dual.names;
        ends =
            childless_all (λ s. ends_in s (opened_over nodes cycles nodes matches) ≡ 1) nodes
            (λ m a childless. last.ends m a (childless_top m childless));
        once = last.once;
      }

  pub opened_matched : AreMatchedLinks p nodes (opened_over nodes cycles nodes matches)
  opened_matched = (opened_to [] nodes refl).matched
