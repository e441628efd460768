-- The even way between two nodes of an odd cycle.
use Rattle.std.proofs.Common.{ℕ, zero, suc, ◌≡◌, ◌+◌, ◌%◌, ◌⊎◌, inl, inr, true, List, [], ◌∷◌, ◌++◌, reverse, length, refl, sym, ap, ◌∙◌, subst, arith}
use Rattle.std.specs.List.Sorted.{IsPermutation}
use Rattle.std.proofs.lemmas.Bool.{false≢true}
use Rattle.std.proofs.lemmas.List.{append_assoc, length-append, length-reverse, reverse-append}
use Rattle.std.proofs.lemmas.List.Elements.{All-nil, All-cons}
use Rattle.std.proofs.lemmas.List.Sorted.{IsPermutation-refl, IsPermutation-cons, IsPermutation-trans, IsPermutation-reverse, IsPermutation-to_front, IsPermutation-append_comm, IsPermutation-append_left}
use Rattle.fb_graph.specs.Parity.{is_in}
use Rattle.fb_graph.specs.Problem.{Problem}
use Rattle.fb_graph.specs.Laws.{Link}
use Rattle.fb_graph.specs.Dual.{Node}
use Rattle.fb_graph.proofs.Sets.{is_in-cases}
use Rattle.fb_laws.specs.Works.{AreMatchedLinks}
use Rattle.fb_laws.specs.Trees.{Connects}
use Rattle.fb_laws.specs.TreeCycles.{AreLinked}
use Rattle.fb_laws.specs.OpenedCycles.{Pass, Couple, ArePassed, AreCoupled, last_of, paired_on, paired_beside, paired_of, matched_on, grown_on, matched_beside, WayRound}
use Rattle.fb_laws.proofs.OpenedCycles.{links_moved}
use Rattle.fb_laws.proofs.SearchStates.{links_joined, links_right, links_left}
use Rattle.fb_laws.proofs.SearchTrees.{connects_sym}
use Rattle.fb_graph.proofs.Floods.{is_in-both, is_in-left, is_in-right}

parity : (n : ℕ) → (n % 2 ≡ 1) ⊎ (n % 2 ≡ 0)
parity zero = inr refl
parity (suc n) = step (parity n)
  where
    step : (n % 2 ≡ 1) ⊎ (n % 2 ≡ 0) → (suc n % 2 ≡ 1) ⊎ (suc n % 2 ≡ 0)
    step (inl odd) = inr (omega (arith, odd))
    step (inr even) = inl (omega (arith, even))

pub split_in : (xs : List ℕ) (v : ℕ) → is_in xs v ≡ true → (before : List ℕ) × (after : List ℕ) × (xs ≡ before ++ v ∷ after)
split_in [] v within = absurd (false≢true within)
split_in (x ∷ xs) v within = step (is_in-cases x xs v within) (split_in xs v)
  where
    step : (x ≡ v) ⊎ (is_in xs v ≡ true)
        → (is_in xs v ≡ true → (before : List ℕ) × (after : List ℕ) × (xs ≡ before ++ v ∷ after))
        → (before : List ℕ) × (after : List ℕ) × (x ∷ xs ≡ before ++ v ∷ after)
    step (inl same) rest = ([], xs, ap (λ y. y ∷ xs) same)
    step (inr there) rest = let (before, after, is) = rest there in (x ∷ before, after, ap (λ l. x ∷ l) is)

module _ (nodes : List Node) where
  -- a round cut at a node, and put together
  pub linked_cut : (from : ℕ) (before : List ℕ) (v : ℕ) (after : List ℕ) (links : List Link) → AreLinked nodes from (before ++ v ∷ after) links
      → (first : List Link) × (second : List Link) × (links ≡ first ++ second) × AreLinked nodes from (before ++ v ∷ []) first
      × AreLinked nodes v after second
  linked_cut from [] v after [] linked = absurd linked
  linked_cut from [] v after (l ∷ ls) linked = (l ∷ [], ls, refl, (linked.0, tt), linked.1)
  linked_cut from (n ∷ ns) v after [] linked = absurd linked
  linked_cut from (n ∷ ns) v after (l ∷ ls) linked =
      let (first, second, is, one, other) = linked_cut n ns v after ls linked.1 in
      (l ∷ first, second, ap (λ x. l ∷ x) is, (linked.0, one), other)

  pub linked_join : (from : ℕ) (before : List ℕ) (v : ℕ) (after : List ℕ) (first second : List Link) → AreLinked nodes from (before ++ v ∷ []) first
      → AreLinked nodes v after second → AreLinked nodes from (before ++ v ∷ after) (first ++ second)
  linked_join from [] v after [] second one other = absurd one
  linked_join from [] v after (l ∷ []) second one other = (one.0, other)
  linked_join from [] v after (l ∷ m ∷ ms) second one other = absurd one.1
  linked_join from (n ∷ ns) v after [] second one other = absurd one
  linked_join from (n ∷ ns) v after (l ∷ ls) second one other = (one.0, linked_join n ns v after ls second one.1 other)

  pub linked_turned : (from : ℕ) (names : List ℕ) (to : ℕ) (links : List Link) → AreLinked nodes from (names ++ to ∷ []) links
      → AreLinked nodes to (reverse names ++ from ∷ []) (reverse links)
  linked_turned from [] to [] linked = absurd linked
  linked_turned from [] to (l ∷ []) linked = (connects_sym nodes l from to linked.0, tt)
  linked_turned from [] to (l ∷ m ∷ ms) linked = absurd linked.1
  linked_turned from (n ∷ ns) to [] linked = absurd linked
  linked_turned from (n ∷ ns) to (l ∷ ls) linked =
      subst (λ x. AreLinked nodes to (x ++ from ∷ []) (reverse (l ∷ ls))) (sym (reverse-append (n ∷ []) ns))
      (subst (λ x. AreLinked nodes to ((reverse ns ++ n ∷ []) ++ from ∷ []) x) (sym (reverse-append (l ∷ []) ls))
      (subst (λ x. AreLinked nodes to x (reverse ls ++ l ∷ [])) (sym (append_assoc (reverse ns) (n ∷ []) (from ∷ [])))
      (linked_join to (reverse ns) n (from ∷ []) (reverse ls) (l ∷ []) (linked_turned n ns to ls linked.1) (connects_sym nodes l from n linked.0, tt))))

  abbrev Kept : List Link → List Link → Type 0
  Kept links some = (q : Problem) (ns : List Node) → AreMatchedLinks q ns links → AreMatchedLinks q ns some

  abbrev HasWay : ℕ → List ℕ → List Link → ℕ → Type 0
  HasWay from names links to =
      (way : List Pass) × (last_of from way ≡ to) × ArePassed nodes from way × (from ∷ (names ++ to ∷ []) ≡ paired_on from way ++ to ∷ [])
      × Kept links (matched_on way) × Kept links (grown_on way)

  kept_cons : (l m : Link) (links some : List Link) → Kept links some → Kept (l ∷ m ∷ links) (l ∷ some)
  kept_cons l m links some kept q ns are =
      links_joined q ns (l ∷ []) some (links_left q ns (l ∷ []) (m ∷ links) are) (kept q ns (links_right q ns (l ∷ m ∷ []) links are))

  kept_next : (l m : Link) (links some : List Link) → Kept links some → Kept (l ∷ m ∷ links) (m ∷ some)
  kept_next l m links some kept q ns are =
      links_joined q ns (m ∷ []) some (links_left q ns (m ∷ []) links (links_right q ns (l ∷ []) (m ∷ links) are))
      (kept q ns (links_right q ns (l ∷ m ∷ []) links are))

  way_on : (from : ℕ) (names : List ℕ) (links : List Link) (to : ℕ) → AreLinked nodes from (names ++ to ∷ []) links → length names % 2 ≡ 1
      → HasWay from names links to
  way_on from [] links to linked odd = absurd (omega (arith, odd))
  way_on from (n ∷ []) [] to linked odd = absurd linked
  way_on from (n ∷ []) (l ∷ []) to linked odd = absurd linked.1
  way_on from (n ∷ []) (l ∷ m ∷ []) to linked odd = (
    record { matched = l; plus = n; tree = m; minus = to } ∷ [],
    refl,
    (linked.0, linked.1.0, tt),
    refl,
    λ q ns are. links_left q ns (l ∷ []) (m ∷ []) are,
    λ q ns are. links_right q ns (l ∷ []) (m ∷ []) are,
  )
  way_on from (n ∷ []) (l ∷ m ∷ k ∷ ks) to linked odd = absurd linked.1.1
  way_on from (n ∷ o ∷ ns) [] to linked odd = absurd linked
  way_on from (n ∷ o ∷ ns) (l ∷ []) to linked odd = absurd linked.1
  way_on from (n ∷ o ∷ ns) (l ∷ m ∷ ls) to linked odd =
      let (way, ends, passed, names_are, matched, grown) = way_on o ns ls to linked.1.1 (omega (arith, odd)) in (
        record { matched = l; plus = n; tree = m; minus = o } ∷ way,
        ends,
        (linked.0, linked.1.0, passed),
        ap (λ x. from ∷ n ∷ x) names_are,
        kept_cons l m ls (matched_on way) matched,
        kept_next l m ls (grown_on way) grown,
      )

  couples_on : (from : ℕ) (names : List ℕ) (links : List Link) (to : ℕ) → AreLinked nodes from (names ++ to ∷ []) links → length names % 2 ≡ 0
      → (couples : List Couple) × AreCoupled nodes couples × (names ≡ paired_beside couples) × Kept links (matched_beside couples)
  couples_on from [] links to linked even = ([], All-nil (λ c. Connects nodes c.link c.first c.second), refl, λ q ns are. links_left q ns [] links are)
  couples_on from (n ∷ []) links to linked even = absurd (omega (arith, even))
  couples_on from (n ∷ o ∷ ns) [] to linked even = absurd linked
  couples_on from (n ∷ o ∷ ns) (l ∷ []) to linked even = absurd linked.1
  couples_on from (n ∷ o ∷ ns) (l ∷ m ∷ ls) to linked even =
      let (couples, coupled, names_are, kept) = couples_on o ns ls to linked.1.1 (omega (arith, even)) in (
        record { first = n; link = m; second = o } ∷ couples,
        All-cons (λ c. Connects nodes c.link c.first c.second) (record { first = n; link = m; second = o }) couples linked.1.0 coupled,
        ap (λ x. n ∷ o ∷ x) names_are,
        kept_next l m ls (matched_beside couples) kept,
      )

  abbrev Ways : List ℕ → List Link → ℕ → ℕ → Type 0
  Ways all links from to =
      (way : List Pass) × (couples : List Couple) × (last_of from way ≡ to) × ArePassed nodes from way × AreCoupled nodes couples
      × IsPermutation all (last_of from way ∷ paired_of from way couples)
      × Kept links (matched_on way ++ (grown_on way ++ matched_beside couples))

  -- the same way round, its nodes and links in another order
  ways_moved : (all others : List ℕ) (links more : List Link) (from to : ℕ) → IsPermutation all others → Kept links more → Ways others more from to
      → Ways all links from to
  ways_moved all others links more from to moved kept (way, couples, ends, passed, coupled, permuted, keeps) = (
    way,
    couples,
    ends,
    passed,
    coupled,
    IsPermutation-trans all others (last_of from way ∷ paired_of from way couples) moved permuted,
    λ q ns are. keeps q ns (kept q ns are),
  )

  -- an odd number of nodes on the way there, and an even number on the way back
  one_way : (from to : ℕ) (there back : List ℕ) (on off : List Link) → AreLinked nodes from (there ++ to ∷ []) on
      → AreLinked nodes to (back ++ from ∷ []) off → length there % 2 ≡ 1 → length back % 2 ≡ 0
      → Ways (from ∷ (there ++ to ∷ back)) (on ++ off) from to
  one_way from to there back on off linked round odd even =
      let (way, ends, passed, names_are, matched, grown) = way_on from there on to linked odd in
      let (couples, coupled, beside, kept) = couples_on to back off from round even in (
        way,
        couples,
        ends,
        passed,
        coupled,
        subst (λ z. IsPermutation (from ∷ (there ++ to ∷ back)) (z ∷ paired_of from way couples)) (sym ends)
            (subst (λ l. IsPermutation l (to ∷ paired_of from way couples))
            (sym (ap (λ l. from ∷ l) (sym (append_assoc there (to ∷ []) back)) ∙ (ap (λ l. l ++ back) names_are ∙ ap (λ l. (paired_on from way ++ to ∷ []) ++ l) beside)))
            (IsPermutation-append_left (paired_beside couples) (paired_on from way ++ to ∷ []) (to ∷ paired_on from way)
            (IsPermutation-to_front (paired_on from way) to))),
        λ q ns are.
            links_joined q ns (matched_on way) (grown_on way ++ matched_beside couples) (matched q ns (links_left q ns on off are))
            (links_joined q ns (grown_on way) (matched_beside couples) (grown q ns (links_left q ns on off are))
            (kept q ns (links_right q ns on off are))),
      )

  -- from a node round to itself, all others are in pairs
  no_way : (from : ℕ) (names : List ℕ) (links : List Link) → AreLinked nodes from (names ++ from ∷ []) links → length names % 2 ≡ 0
      → Ways (from ∷ names) links from from
  no_way from names links linked even =
      let (couples, coupled, beside, kept) = couples_on from names links from linked even in
      ([], couples, refl, tt, coupled, subst (λ l. IsPermutation (from ∷ names) (from ∷ l)) beside (IsPermutation-refl (from ∷ names)), kept)

  -- round from the one node, to another
  from_one : (from to : ℕ) (names : List ℕ) (links : List Link) → AreLinked nodes from (names ++ from ∷ []) links → length names % 2 ≡ 0
      → is_in (from ∷ names) to ≡ true → Ways (from ∷ names) links from to
  from_one from to names links linked even within = step (is_in-cases from names to within)
    where
      turned : (us vs : List ℕ) → IsPermutation (from ∷ (us ++ to ∷ vs)) (from ∷ (reverse vs ++ to ∷ reverse us))
      turned us vs =
          IsPermutation-cons from (us ++ to ∷ vs) (reverse vs ++ to ∷ reverse us)
          (subst (IsPermutation (us ++ to ∷ vs))
          (reverse-append us (to ∷ vs)
          ∙ (ap (λ l. l ++ reverse us) (reverse-append (to ∷ []) vs) ∙ append_assoc (reverse vs) (to ∷ []) (reverse us)))
          (IsPermutation-reverse (us ++ to ∷ vs)))

      by : (us vs : List ℕ) → names ≡ us ++ to ∷ vs → (length us % 2 ≡ 1) ⊎ (length us % 2 ≡ 0) → Ways (from ∷ names) links from to
      by us vs is parity =
          let (on, off, parts, one, other) =
          linked_cut from us to (vs ++ from ∷ []) links
          (subst (λ l. AreLinked nodes from l links) (ap (λ l. l ++ from ∷ []) is ∙ append_assoc us (to ∷ vs) (from ∷ [])) linked) in
          let size : length us + (1 + length vs) ≡ length names = omega (arith, sym (length-append us (to ∷ vs)) ∙ sym (ap length is)) in
          subst (λ l. Ways (from ∷ l) links from to) (sym is)
          (subst (λ l. Ways (from ∷ (us ++ to ∷ vs)) l from to) (sym parts) (pick us vs on off one other size parity))
        where
          pick : (us vs : List ℕ) (on off : List Link) → AreLinked nodes from (us ++ to ∷ []) on → AreLinked nodes to (vs ++ from ∷ []) off
              → length us + (1 + length vs) ≡ length names → (length us % 2 ≡ 1) ⊎ (length us % 2 ≡ 0)
              → Ways (from ∷ (us ++ to ∷ vs)) (on ++ off) from to
          pick us vs on off one other size (inl odd) = one_way from to us vs on off one other odd (omega (arith, odd, even, size))
          pick us vs on off one other size (inr is_even) =
              ways_moved (from ∷ (us ++ to ∷ vs)) (from ∷ (reverse vs ++ to ∷ reverse us)) (on ++ off) (reverse off ++ reverse on) from to
              (turned us vs)
              (λ q ns are.
              subst (AreMatchedLinks q ns) (reverse-append on off)
              (links_moved q ns (on ++ off) (reverse (on ++ off)) (IsPermutation-reverse (on ++ off)) are))
              (one_way from to (reverse vs) (reverse us) (reverse off) (reverse on) (linked_turned to vs from off other)
              (linked_turned from us to on one) (omega (arith, is_even, even, size, length-reverse vs))
              (omega (arith, is_even, length-reverse us)))

      step : (from ≡ to) ⊎ (is_in names to ≡ true) → Ways (from ∷ names) links from to
      step (inl same) = subst (Ways (from ∷ names) links from) same (no_way from names links linked even)
      step (inr there) = let (us, vs, is) = split_in names to there in by us vs is (parity (length us))

  -- the round begun at another of its nodes
  begun : (first from to : ℕ) (names : List ℕ) (links : List Link) → AreLinked nodes first (names ++ first ∷ []) links → length names % 2 ≡ 0
      → is_in (first ∷ names) from ≡ true → is_in (first ∷ names) to ≡ true → Ways (first ∷ names) links from to
  begun first from to names links linked even within there = step (is_in-cases first names from within)
    where
      step : (first ≡ from) ⊎ (is_in names from ≡ true) → Ways (first ∷ names) links from to
      step (inl same) = subst (λ f. Ways (first ∷ names) links f to) same (from_one first to names links linked even there)
      step (inr at) =
          let (us, vs, is) = split_in names from at in
          subst (λ l. Ways (first ∷ l) links from to) (sym is)
          (around us vs
          (linked_cut first us from (vs ++ first ∷ []) links
          (subst (λ l. AreLinked nodes first l links) (ap (λ l. l ++ first ∷ []) is ∙ append_assoc us (from ∷ vs) (first ∷ [])) linked))
          (omega (arith, even, sym (length-append us (from ∷ vs)) ∙ sym (ap length is)))
          (is_in-both (first ∷ us) (from ∷ vs) to (ap (λ l. is_in (first ∷ l) to) (sym is) ∙ there)))
        where
          around : (us vs : List ℕ)
              → (one : List Link) × (other : List Link) × (links ≡ one ++ other) × AreLinked nodes first (us ++ from ∷ []) one
              × AreLinked nodes from (vs ++ first ∷ []) other
              → (length us + (1 + length vs)) % 2 ≡ 0 → (is_in (first ∷ us) to ≡ true) ⊎ (is_in (from ∷ vs) to ≡ true)
              → Ways (first ∷ (us ++ from ∷ vs)) links from to
          around us vs (one, other, parts, here, round) size among =
              ways_moved (first ∷ (us ++ from ∷ vs)) (from ∷ (vs ++ first ∷ us)) links (other ++ one) from to
              (IsPermutation-append_comm (first ∷ us) (from ∷ vs))
              (λ q ns are.
              links_moved q ns (one ++ other) (other ++ one) (IsPermutation-append_comm one other) (subst (AreMatchedLinks q ns) parts are))
              (from_one from to (vs ++ first ∷ us) (other ++ one)
              (subst (λ l. AreLinked nodes from l (other ++ one)) (sym (append_assoc vs (first ∷ us) (from ∷ [])))
              (linked_join from vs first (us ++ from ∷ []) other one round here))
              (omega (arith, size, length-append vs (first ∷ us))) (turned among))
            where
              turned : (is_in (first ∷ us) to ≡ true) ⊎ (is_in (from ∷ vs) to ≡ true) → is_in (from ∷ (vs ++ first ∷ us)) to ≡ true
              turned (inl h) = is_in-right (from ∷ vs) (first ∷ us) to h
              turned (inr h) = is_in-left (from ∷ vs) (first ∷ us) to h

pub way_round : WayRound
way_round nodes first names links from to linked even within there = begun nodes first from to names links linked even within there
