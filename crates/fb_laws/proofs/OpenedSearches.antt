-- A blossom opened in a search.
use Rattle.std.proofs.Common.{ℕ, ◌≡◌, ◌+◌, ◌%◌, ◌≤◌, ◌<◌, ◌==◌, ◌||◌, ◌⊎◌, inl, inr, Bool, true, false, List, [], ◌∷◌, ◌++◌, length, All, Option, Some, None, IsSome, get_or, refl, sym, ap, ◌∙◌, subst, arith}
use Rattle.std.proofs.lemmas.Bool.{both_ways, false≢true, cases_Bool, cases_eq, eqb-true, eq-eqb, ne_eqb, false_from_ne_true}
use Rattle.std.proofs.lemmas.List.Elements.{All-head, All-tail, All-from_get_or}
use Rattle.fb_graph.specs.Parity.{is_in}
use Rattle.fb_graph.specs.Problem.{Problem}
use Rattle.fb_graph.specs.Certificate.{AreDistinct}
use Rattle.fb_graph.specs.Laws.{Link}
use Rattle.fb_graph.specs.Dual.{Node, IsDual, all_cuts, leaves, cover_of, height_of, is_outer, node_at, no_node, top_at}
use Rattle.fb_graph.proofs.ClosedSets.{not_held}
use Rattle.fb_graph.proofs.Sets.{is_in-cases, is_in-head, is_in-tail, member_of_odd}
use Rattle.fb_graph.specs.Counts.{as_count}
use Rattle.fb_graph.specs.Ends.{ends_in}
use Rattle.fb_laws.specs.Opening.{EndAtDefects}
use Rattle.fb_laws.specs.Works.{AreMatchedLinks, IsSetOf}
use Rattle.fb_laws.specs.Trees.{Connects}
use Rattle.fb_laws.specs.SearchOpenings.{IsSplit, PairUp, MatchingOpened}
use Rattle.fb_graph.proofs.Crossings.{cover_found, cover_holds}
use Rattle.fb_graph.proofs.EndSums.{ends-cons, ends_append, ends_of_one}
use Rattle.fb_laws.proofs.MatchedNodes.{odd_top}
use Rattle.fb_laws.proofs.SearchStates.{links_joined}
use Rattle.fb_laws.proofs.SearchTrees.{cover_set, matched_named, top_at_place}
use Rattle.fb_laws.proofs.LayeredSearches.{ends_agree}

-- a set of an outer node holds a vertex where it covers it
pub held_by : (p : Problem) (nodes : List Node) (n m v : ℕ) (set : List ℕ) → IsDual p nodes → IsSetOf nodes n set → cover_of nodes v ≡ Some m
    → is_in set v ≡ (m == n)
held_by p nodes n m v set dual (j, below, outer, named, same) cover = step (cases_eq m n)
  where
    step : (m ≡ n) ⊎ (m ≡ n → ⊥) → is_in set v ≡ (m == n)
    step (inl is) =
        ap (λ s. is_in s v) (sym same)
        ∙ (cover_holds nodes v n dual.names (cover ∙ ap Some is) j below named ∙ sym (eq-eqb m n is))
    step (inr other) =
        false_from_ne_true (is_in set v)
        (λ within.
        let found = cover_found nodes v dual.apart j no_node below (ap (is_outer nodes) named ∙ outer) (ap (λ s. is_in s v) same ∙ within) in
        other (let is : m ≡ n = cc in is))
        ∙ sym (ne_eqb m n other)

-- the ends of paired links in a node's set
pair_ends : (p : Problem) (nodes : List Node) (n : ℕ) (set : List ℕ) → IsDual p nodes → IsSetOf nodes n set → (names : List ℕ) (links : List Link)
    → PairUp nodes names links → AreDistinct names → ends_in set links ≡ as_count (is_in names n)
pair_ends p nodes n set dual is [] [] paired distinct = refl
pair_ends p nodes n set dual is (a ∷ b ∷ names) (l ∷ links) (connects, paired) (a_new, (b_new, distinct)) =
    omega (
      arith,
      ends-cons set l links,
      one connects,
      pair_ends p nodes n set dual is names links paired distinct,
      each (a == n) (b == n) (is_in names n)
          (λ e. false_from_ne_true (b == n)
          (λ f. both_ways (is_in (b ∷ names) a) a_new (subst (λ x. is_in (b ∷ names) x ≡ true) (eqb-true b n f ∙ sym (eqb-true a n e)) (is_in-head b names))))
          (λ e. false_from_ne_true (is_in names n)
          (λ f. both_ways (is_in (b ∷ names) a) a_new (is_in-tail b names a (ap (is_in names) (eqb-true a n e) ∙ f))))
          (λ e. false_from_ne_true (is_in names n)
          (λ f. both_ways (is_in names b) b_new (ap (is_in names) (eqb-true b n e) ∙ f))),
    )
  where
    one : Connects nodes l a b → ends_of_one set l ≡ as_count (a == n) + as_count (b == n)
    one (inl (from, to)) =
        omega (arith, ap as_count (held_by p nodes n a l.from set dual is from), ap as_count (held_by p nodes n b l.to set dual is to))
    one (inr (to, from)) =
        omega (arith, ap as_count (held_by p nodes n a l.to set dual is to), ap as_count (held_by p nodes n b l.from set dual is from))

    each : (x y z : Bool) → (x ≡ true → y ≡ false) → (x ≡ true → z ≡ false) → (y ≡ true → z ≡ false)
        → as_count (x || (y || z)) ≡ as_count x + as_count y + as_count z
    each true true z h k m = absurd (false≢true (sym (h refl)))
    each true false true h k m = absurd (false≢true (sym (k refl)))
    each true false false h k m = refl
    each false true true h k m = absurd (false≢true (sym (m refl)))
    each false true false h k m = refl
    each false false true h k m = refl
    each false false false h k m = refl
pair_ends p nodes n set dual is (a ∷ []) links paired distinct = absurd paired
pair_ends p nodes n set dual is [] (l ∷ links) paired distinct = absurd paired
pair_ends p nodes n set dual is (a ∷ b ∷ names) [] paired distinct = absurd paired

abbrev Fewer : List ℕ → List ℕ → List ℕ → ℕ → Type 0
Fewer a b whole v = as_count (is_in a v) + as_count (is_in b v) ≤ as_count (is_in whole v)

ends_fewer : (a b whole : List ℕ) (links : List Link) → All (λ l. Fewer a b whole l.from × Fewer a b whole l.to) links
    → ends_in a links + ends_in b links ≤ ends_in whole links
ends_fewer a b whole [] fewer = omega arith
ends_fewer a b whole (l ∷ links) fewer =
    let here = All-head (λ m. Fewer a b whole m.from × Fewer a b whole m.to) l links fewer in
    omega (
      arith,
      ends-cons a l links,
      ends-cons b l links,
      ends-cons whole l links,
      here.0,
      here.1,
      ends_fewer a b whole links (All-tail (λ m. Fewer a b whole m.from × Fewer a b whole m.to) l links fewer),
    )

module _ (p : Problem) (nodes others : List Node) (blossom : ℕ) (children : List ℕ) (split : IsSplit nodes others blossom children) (old : IsDual p nodes) (dual : IsDual p others) where
  pub leaf_before : (d : ℕ) → is_in (leaves others) d ≡ true → is_in (leaves nodes) d ≡ true
  leaf_before d leaf = ap (λ l. is_in l d) (sym split.defects) ∙ leaf

  -- the node over a defect before
  pub cover_split : (d n : ℕ) → is_in (leaves nodes) d ≡ true → cover_of others d ≡ Some n
      → (cover_of nodes d ≡ Some n) × (n ≡ blossom → ⊥) × (is_in children n ≡ false) ⊎ (cover_of nodes d ≡ Some blossom) × (is_in children n ≡ true)
  cover_split d n leaf cover = step (cover_of nodes d) refl (old.defects d leaf)
    where
      Goal : Type 0
      Goal = (cover_of nodes d ≡ Some n) × (n ≡ blossom → ⊥) × (is_in children n ≡ false) ⊎ (cover_of nodes d ≡ Some blossom) × (is_in children n ≡ true)

      by : (m : ℕ) → cover_of nodes d ≡ Some m → (m ≡ blossom) ⊎ (m ≡ blossom → ⊥) → Goal
      by m is (inl same) =
          let (c, there, child) = split.inside d leaf (is ∙ ap Some same) in
          let alike : c ≡ n = cc in
          inr (is ∙ ap Some same, ap (is_in children) (sym alike) ∙ child)
      by m is (inr other) =
          let (there, out) = split.outside d m leaf is other in
          let alike : m ≡ n = cc in
          inl (is ∙ ap Some alike, (λ same. other (alike ∙ same)), ap (is_in children) (sym alike) ∙ out)

      step : (o : Option ℕ) → cover_of nodes d ≡ o → IsSome (cover_of nodes d) → Goal
      step None none some = absurd (false≢true (subst IsSome none some))
      step (Some m) is some = by m is (cases_eq m blossom)

  pub links_split : (links : List Link) → AreMatchedLinks p nodes links → AreMatchedLinks p others links
  links_split links are = record {
    tight = λ i d less. record {
      walk = (are.tight i d less).walk;
      tight = (are.tight i d less).tight ∙ sym (split.loads (record { first = (get_or links i d).from; second = (get_or links i d).to; weight = 0 }));
    };
    own = are.own;
    at_defects = subst (λ l. EndAtDefects p l links) (sym split.defects) are.at_defects;
  }

  -- a set's ends follow from the defects
  pub at_ends : (P : ℕ → Type 0) (links : List Link) → EndAtDefects p (leaves nodes) links → ((v : ℕ) → p.is_real v ≡ false → P v)
      → ((v : ℕ) → is_in (leaves nodes) v ≡ true → P v) → All (λ l. P l.from × P l.to) links
  at_ends P links at unreal leaf i d less = (one (get_or links i d).from (at i d less).0, one (get_or links i d).to (at i d less).1)
    where
      one : (v : ℕ) → (p.is_real v ≡ true → is_in (leaves nodes) v ≡ true) → P v
      one v is = step (cases_Bool (p.is_real v))
        where
          step : (p.is_real v ≡ true) ⊎ (p.is_real v ≡ false) → P v
          step (inl real) = leaf v (is real)
          step (inr off) = unreal v off

  pub unheld : (ns : List Node) (n v : ℕ) (set : List ℕ) → IsDual p ns → IsSetOf ns n set → p.is_real v ≡ false → is_in set v ≡ false
  unheld ns n v set whole (j, below, outer, named, same) off =
      ap (λ s. is_in s v) (sym same) ∙ not_held p (node_at ns j).top.vertices v (odd_top p ns j whole below).real off

  -- a node that is none of the children has the ends that it had
  ends_outside : (n : ℕ) (set set' : List ℕ) (links : List Link) → EndAtDefects p (leaves nodes) links → IsSetOf nodes n set → IsSetOf others n set'
      → (n ≡ blossom → ⊥) → is_in children n ≡ false → ends_in set' links ≡ ends_in set links
  ends_outside n set set' links at is is' other out =
      ends_agree set' set links
      (at_ends (λ v. is_in set' v ≡ is_in set v) links at
      (λ v off. unheld others n v set' dual is' off ∙ sym (unheld nodes n v set old is off))
      (λ v leaf. by v leaf (cover_of nodes v) refl (old.defects v leaf)))
    where
      by : (v : ℕ) → is_in (leaves nodes) v ≡ true → (o : Option ℕ) → cover_of nodes v ≡ o → IsSome (cover_of nodes v) → is_in set' v ≡ is_in set v
      by v leaf None none some = absurd (false≢true (subst IsSome none some))
      by v leaf (Some m) cover some = step (cases_eq m blossom)
        where
          step : (m ≡ blossom) ⊎ (m ≡ blossom → ⊥) → is_in set' v ≡ is_in set v
          step (inl same) =
              let (c, there, child) = split.inside v leaf (cover ∙ ap Some same) in
              held_by p others n c v set' dual is' there
              ∙ (ne_eqb c n (λ alike. both_ways (is_in children n) out (ap (is_in children) (sym alike) ∙ child))
              ∙ sym (held_by p nodes n m v set old is cover ∙ ne_eqb m n (λ alike. other (sym alike ∙ same))))
          step (inr apart) =
              held_by p others n m v set' dual is' (split.outside v m leaf cover apart).0 ∙ sym (held_by p nodes n m v set old is cover)

  -- two different children have at most the ends of the blossom
  ends_children : (a b : ℕ) (set set' whole : List ℕ) (links : List Link) → EndAtDefects p (leaves nodes) links → IsSetOf others a set
      → IsSetOf others b set' → IsSetOf nodes blossom whole → is_in children a ≡ true → is_in children b ≡ true → (a ≡ b → ⊥)
      → ends_in set links + ends_in set' links ≤ ends_in whole links
  ends_children a b set set' whole links at is is' is_whole child child' differ_ =
      ends_fewer set set' whole links
      (at_ends (Fewer set set' whole) links at
      (λ v off.
      omega (
        arith,
        ap as_count (unheld others a v set dual is off),
        ap as_count (unheld others b v set' dual is' off),
      ))
      (λ v leaf. by v leaf (cover_of nodes v) refl (old.defects v leaf)))
    where
      not_both : (c : ℕ) → as_count (c == a) + as_count (c == b) ≤ 1
      not_both c = step (cases_Bool (c == a)) (cases_Bool (c == b))
        where
          step : ((c == a) ≡ true) ⊎ ((c == a) ≡ false) → ((c == b) ≡ true) ⊎ ((c == b) ≡ false) → as_count (c == a) + as_count (c == b) ≤ 1
          step (inl x) (inl y) = absurd (differ_ (sym (eqb-true c a x) ∙ eqb-true c b y))
          step (inl x) (inr y) = omega (arith, ap as_count x, ap as_count y)
          step (inr x) (inl y) = omega (arith, ap as_count x, ap as_count y)
          step (inr x) (inr y) = omega (arith, ap as_count x, ap as_count y)

      by : (v : ℕ) → is_in (leaves nodes) v ≡ true → (o : Option ℕ) → cover_of nodes v ≡ o → IsSome (cover_of nodes v) → Fewer set set' whole v
      by v leaf None none some = absurd (false≢true (subst IsSome none some))
      by v leaf (Some m) cover some = step (cases_eq m blossom)
        where
          step : (m ≡ blossom) ⊎ (m ≡ blossom → ⊥) → Fewer set set' whole v
          step (inl same) =
              let (c, there, is_child) = split.inside v leaf (cover ∙ ap Some same) in
              omega (
                arith,
                ap as_count (held_by p others a c v set dual is there),
                ap as_count (held_by p others b c v set' dual is' there),
                ap as_count (held_by p nodes blossom m v whole old is_whole cover ∙ eq-eqb m blossom same),
                not_both c,
              )
          step (inr apart) =
              let (there, out) = split.outside v m leaf cover apart in
              omega (
                arith,
                ap as_count
                    (held_by p others a m v set dual is there
                    ∙ ne_eqb m a (λ alike. both_ways (is_in children m) out (ap (is_in children) alike ∙ child))),
                ap as_count
                    (held_by p others b m v set' dual is' there
                    ∙ ne_eqb m b (λ alike. both_ways (is_in children m) out (ap (is_in children) alike ∙ child'))),
              )

pub matching_opened : MatchingOpened
matching_opened p nodes others blossom kept paired more links unmatched split distinct pairs new kept_is one_kept closed none_open dual work = record {
  dual = dual;
  defects = λ v real. work.defects v real ∙ ap (λ l. is_in l v) (sym split.defects);
  links_are = links_joined p others more links new (links_split p nodes others blossom (kept ∷ paired) split old dual links work.links_are);
  matched =
      All-from_get_or (λ n. is_outer others n.name ≡ true → ends_in n.top.vertices (more ++ links) + as_count (is_in unmatched n.name) ≡ 1) others no_node
      matched;
  one_parity = λ d e n leaf among cover covered.
      let at : is_in (leaves nodes) d ≡ true = leaf_before p nodes others blossom (kept ∷ paired) split old dual d leaf in
      let at' : is_in (leaves nodes) e ≡ true = leaf_before p nodes others blossom (kept ∷ paired) split old dual e among in
      ap (λ h. h % 2) (split.heights d)
      ∙ (parity d e n at at' (cover_split p nodes others blossom (kept ∷ paired) split old dual d n at cover)
      (cover_split p nodes others blossom (kept ∷ paired) split old dual e n at' covered)
      ∙ ap (λ h. h % 2) (sym (split.heights e)));
}
  where
    old : IsDual p nodes
    old = work.dual

    parity : (d e n : ℕ) → is_in (leaves nodes) d ≡ true → is_in (leaves nodes) e ≡ true
        → (cover_of nodes d ≡ Some n) × (n ≡ blossom → ⊥) × (is_in (kept ∷ paired) n ≡ false) ⊎ (cover_of nodes d ≡ Some blossom) × (is_in (kept ∷ paired) n ≡ true)
        → (cover_of nodes e ≡ Some n) × (n ≡ blossom → ⊥) × (is_in (kept ∷ paired) n ≡ false) ⊎ (cover_of nodes e ≡ Some blossom) × (is_in (kept ∷ paired) n ≡ true)
        → height_of (all_cuts nodes) d % 2 ≡ height_of (all_cuts nodes) e % 2
    parity d e n at at' (inl (here, other, out)) (inl (there, other_, out_)) = work.one_parity d e n at at' here there
    parity d e n at at' (inr (here, child)) (inr (there, child')) = work.one_parity d e blossom at at' here there
    parity d e n at at' (inl (here, other, out)) (inr (there, child)) = absurd (both_ways (is_in (kept ∷ paired) n) out child)
    parity d e n at at' (inr (here, child)) (inl (there, other, out)) = absurd (both_ways (is_in (kept ∷ paired) n) out child)

    matched : (i : ℕ) → i < length others → is_outer others (node_at others i).name ≡ true
        → ends_in (node_at others i).top.vertices (more ++ links) + as_count (is_in unmatched (node_at others i).name) ≡ 1
    matched i less outer =
        step (cover_split p nodes others blossom (kept ∷ paired) split old dual member.0 n at
        (cover_found others member.0 dual.apart i no_node less outer member.1))
        (pair_ends p others n set dual is paired more pairs distinct.1)
        (ends_append set more links)
      where
        n : ℕ
        n = (node_at others i).name

        set : List ℕ
        set = (node_at others i).top.vertices

        member : (u : ℕ) × (is_in (node_at others i).top.vertices u ≡ true) × (is_in (leaves others) u ≡ true)
        member = member_of_odd (is_in (leaves others)) (node_at others i).top.vertices (odd_top p others i dual less).odd

        at : is_in (leaves nodes) member.0 ≡ true
        at = leaf_before p nodes others blossom (kept ∷ paired) split old dual member.0 member.2

        is : IsSetOf others (node_at others i).name (node_at others i).top.vertices
        is = (i, less, outer, refl, refl)

        -- the blossom's own end
        whole_one : cover_of nodes member.0 ≡ Some blossom → ends_in (top_at nodes blossom) links ≡ 1
        whole_one here =
            omega (
              arith,
              matched_named p nodes links unmatched blossom (top_at nodes blossom) work (cover_set nodes member.0 blossom old.names here).0,
              ap as_count closed,
            )

        kept_set : IsSetOf others kept (top_at others kept)
        kept_set = (cover_set others kept_is.0 kept dual.names kept_is.2).0

        by_child : cover_of nodes member.0 ≡ Some blossom → is_in (kept ∷ paired) (node_at others i).name ≡ true
            → (kept ≡ (node_at others i).name) ⊎ (is_in paired (node_at others i).name ≡ true)
            → ends_in (node_at others i).top.vertices more ≡ as_count (is_in paired (node_at others i).name)
            → ends_in (node_at others i).top.vertices (more ++ links) ≡ ends_in (node_at others i).top.vertices more + ends_in (node_at others i).top.vertices links
            → ends_in (node_at others i).top.vertices (more ++ links) + as_count (is_in unmatched (node_at others i).name) ≡ 1
        by_child here child (inl same) first sum =
            omega (
              arith,
              first,
              sum,
              ap as_count (none_open (node_at others i).name child),
              ap as_count (ap (is_in paired) (sym same) ∙ distinct.0),
              ap (λ s. ends_in s links) (sym (top_at_place others dual.names i less) ∙ ap (top_at others) (sym same)),
              one_kept,
            )
        by_child here child (inr there) first sum =
            let other : kept ≡ (node_at others i).name → ⊥ =
            λ same. both_ways (is_in paired kept) distinct.0 (ap (is_in paired) same ∙ there) in
            omega (
              arith,
              first,
              sum,
              ap as_count (none_open (node_at others i).name child),
              ap as_count there,
              whole_one here,
              one_kept,
              ends_children p nodes others blossom (kept ∷ paired) split old dual kept (node_at others i).name (top_at others kept)
                  (node_at others i).top.vertices (top_at nodes blossom) links work.links_are.at_defects kept_set is
                  (cover_set nodes member.0 blossom old.names here).0 (is_in-head kept paired) child other,
            )

        step : (cover_of nodes member.0 ≡ Some (node_at others i).name) × ((node_at others i).name ≡ blossom → ⊥) × (is_in (kept ∷ paired) (node_at others i).name ≡ false)
            ⊎ (cover_of nodes member.0 ≡ Some blossom) × (is_in (kept ∷ paired) (node_at others i).name ≡ true)
            → ends_in (node_at others i).top.vertices more ≡ as_count (is_in paired (node_at others i).name)
            → ends_in (node_at others i).top.vertices (more ++ links) ≡ ends_in (node_at others i).top.vertices more + ends_in (node_at others i).top.vertices links
            → ends_in (node_at others i).top.vertices (more ++ links) + as_count (is_in unmatched (node_at others i).name) ≡ 1
        step (inl (here, other, out)) first sum =
            let there = (cover_set nodes member.0 (node_at others i).name old.names here).0 in
            omega (
              arith,
              first,
              sum,
              ap as_count
                  (false_from_ne_true (is_in paired (node_at others i).name)
                  (λ among. both_ways (is_in (kept ∷ paired) (node_at others i).name) out (is_in-tail kept paired (node_at others i).name among))),
              ends_outside p nodes others blossom (kept ∷ paired) split old dual (node_at others i).name (top_at nodes (node_at others i).name)
                  (node_at others i).top.vertices links work.links_are.at_defects there is other out,
              matched_named p nodes links unmatched (node_at others i).name (top_at nodes (node_at others i).name) work there,
            )
        step (inr (here, child)) first sum =
            by_child here child (is_in-cases kept paired (node_at others i).name child) first sum
