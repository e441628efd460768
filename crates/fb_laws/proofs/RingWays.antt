-- The even way round a ring and the couples beside it, link by link.
use Rattle.std.proofs.Common.{ℕ, zero, suc, ◌≡◌, ◌+◌, ◌-◌, ◌%◌, ◌≤◌, ◌<◌, ◌==◌, ◌⊎◌, inl, inr, Bool, true, false, List, [], ◌∷◌, ◌++◌, length, take, drop, reverse, get_or, refl, sym, ap, ◌∙◌, subst, arith, if◌then◌else◌}
use Rattle.std.specs.List.Sorted.{IsPermutation}
use Rattle.std.proofs.lemmas.Bool.{eqb-true, eq-eqb, both_ways}
use Rattle.std.proofs.lemmas.List.{append-nil, append_assoc, get_or-reverse, length-drop, length-reverse, length-take-le, take-append-drop}
use Rattle.std.proofs.lemmas.List.Elements.{All-nil, All-cons}
use Rattle.std.proofs.lemmas.List.Sorted.{IsPermutation-refl, IsPermutation-append_comm, IsPermutation-append_left, IsPermutation-cons, IsPermutation-reverse, IsPermutation-to_front, IsPermutation-trans, length_permutation}
use Rattle.fb_graph.specs.Laws.{Link}
use Rattle.fb_graph.specs.Dual.{Node}
use Rattle.fb_graph.proofs.Among.{IsAmong}
use Rattle.fb_laws.specs.OpenedCycles.{Couple, Pass, ArePassed, AreCoupled, last_of, paired_on, paired_beside, paired_of, matched_on, grown_on, matched_beside}
use Rattle.fb_laws.specs.OpenedLinks.{round_from}
use Rattle.fb_laws.specs.RingWays.{IsRoundFrom, IsWayRound, EvenWayRound, RoundBegun, BlossomOpenedAlong, couples_after, couples_along, passes_along, turned_round, way_to}
use Rattle.fb_laws.specs.TreeCycles.{AreLinked}
use Rattle.fb_laws.specs.Trees.{Connects}
use Rattle.fb_laws.specs.Works.{AreMatchedLinks}
use Rattle.fb_laws.proofs.CycleWays.{linked_join, linked_turned}
use Rattle.fb_laws.proofs.OpenedBlossoms.{even, opened}
use Rattle.fb_laws.proofs.OpenedCycles.{links_moved}
use Rattle.fb_laws.proofs.OpenedParts.{matched_some, round_among}
use Rattle.fb_laws.proofs.SearchStates.{links_joined, links_right, links_left}

-- the last of the names, or the one that they come from
last_name : ℕ → List ℕ → ℕ
last_name from [] = from
last_name from (n ∷ ns) = last_name n ns

last_at : (from : ℕ) (names : List ℕ) (k d : ℕ) → k ≤ length names
    → last_name from (take k names) ≡ get_or (from ∷ names) k d
unfolding last_name
last_at from names zero d less = refl
last_at from [] (suc k) d less = absurd (omega (arith, less))
last_at from (n ∷ ns) (suc k) d less = last_at n ns k d (omega (arith, less))

module _ (nodes : List Node) where
  linked_parts : (from : ℕ) (xs ys : List ℕ) (links : List Link) → AreLinked nodes from (xs ++ ys) links
      → AreLinked nodes from xs (take (length xs) links)
      × AreLinked nodes (last_name from xs) ys (drop (length xs) links)
  unfolding last_name
  linked_parts from [] ys links linked = (tt, linked)
  linked_parts from (x ∷ xs) ys [] linked = absurd linked
  linked_parts from (x ∷ xs) ys (l ∷ ls) linked =
      let rest = linked_parts x xs ys ls linked.1 in ((linked.0, rest.0), rest.1)

  passed_along : (from : ℕ) (names : List ℕ) (links : List Link) → AreLinked nodes from names links
      → length names % 2 ≡ 0
      → (last_of from (passes_along names links) ≡ last_name from names)
      × ArePassed nodes from (passes_along names links)
      × (from ∷ names ≡ paired_on from (passes_along names links) ++ last_name from names ∷ [])
  unfolding last_name
  passed_along from [] [] linked even = (refl, tt, refl)
  passed_along from [] (l ∷ links) linked even = absurd linked
  passed_along from (n ∷ []) links linked even = absurd (omega (arith, even))
  passed_along from (n ∷ o ∷ ns) [] linked even = absurd linked
  passed_along from (n ∷ o ∷ ns) (l ∷ []) linked even = absurd linked.1
  passed_along from (n ∷ o ∷ ns) (l ∷ m ∷ ls) linked even =
      let (ends, passed, names) = passed_along o ns ls linked.1.1 (omega (arith, even)) in
      (ends, (linked.0, linked.1.0, passed), ap (λ x. from ∷ n ∷ x) names)

  coupled_along : (from : ℕ) (names : List ℕ) (to : ℕ) (links : List Link) → AreLinked nodes from (names ++ to ∷ []) links
      → length names % 2 ≡ 0
      → AreCoupled nodes (couples_along names links) × (names ≡ paired_beside (couples_along names links))
  coupled_along from [] to links linked even = (All-nil (λ c. Connects nodes c.link c.first c.second), refl)
  coupled_along from (n ∷ []) to links linked even = absurd (omega (arith, even))
  coupled_along from (n ∷ o ∷ ns) to [] linked even = absurd linked
  coupled_along from (n ∷ o ∷ ns) to (l ∷ []) linked even = absurd linked.1
  coupled_along from (n ∷ o ∷ ns) to (l ∷ m ∷ ls) linked even =
      let (coupled, names) = coupled_along o ns to ls linked.1.1 (omega (arith, even)) in (
        All-cons (λ c. Connects nodes c.link c.first c.second) (record { first = n; link = m; second = o })
            (couples_along ns ls) linked.1.0 coupled,
        ap (λ x. n ∷ o ∷ x) names,
      )

matched_among : (names : List ℕ) (links : List Link) (l : Link) → IsAmong l (matched_on (passes_along names links))
    → IsAmong l links
matched_among [] links l a = absurd a
matched_among (n ∷ []) links l a = absurd a
matched_among (n ∷ o ∷ ns) [] l a = absurd a
matched_among (n ∷ o ∷ ns) (k ∷ []) l a = absurd a
matched_among (n ∷ o ∷ ns) (k ∷ m ∷ ms) l (inl e) = inl e
matched_among (n ∷ o ∷ ns) (k ∷ m ∷ ms) l (inr a) = inr (inr (matched_among ns ms l a))

grown_among : (names : List ℕ) (links : List Link) (l : Link) → IsAmong l (grown_on (passes_along names links))
    → IsAmong l links
grown_among [] links l a = absurd a
grown_among (n ∷ []) links l a = absurd a
grown_among (n ∷ o ∷ ns) [] l a = absurd a
grown_among (n ∷ o ∷ ns) (k ∷ []) l a = absurd a
grown_among (n ∷ o ∷ ns) (k ∷ m ∷ ms) l (inl e) = inr (inl e)
grown_among (n ∷ o ∷ ns) (k ∷ m ∷ ms) l (inr a) = inr (inr (grown_among ns ms l a))

beside_among : (names : List ℕ) (links : List Link) (l : Link)
    → IsAmong l (matched_beside (couples_along names links)) → IsAmong l links
beside_among [] links l a = absurd a
beside_among (n ∷ []) links l a = absurd a
beside_among (n ∷ o ∷ ns) [] l a = absurd a
beside_among (n ∷ o ∷ ns) (k ∷ []) l a = absurd a
beside_among (n ∷ o ∷ ns) (k ∷ m ∷ ms) l (inl e) = inr (inl e)
beside_among (n ∷ o ∷ ns) (k ∷ m ∷ ms) l (inr a) = inr (inr (beside_among ns ms l a))

-- an even number of links on
module _ (nodes : List Node) (from : ℕ) (others : List ℕ) (links : List Link) (k : ℕ)
    (linked : AreLinked nodes from (others ++ from ∷ []) links) (odd : length others % 2 ≡ 0)
    (low : k ≤ length others) (even_k : k % 2 ≡ 0) where
  abbrev On : List ℕ
  On = take k others

  abbrev Off : List ℕ
  Off = drop k others

  abbrev Way : List Pass
  Way = passes_along On (take k links)

  abbrev Beside : List Couple
  Beside = couples_along Off (drop k links)

  size : length On ≡ k
  size = length-take-le k others low

  parts : AreLinked nodes from On (take k links) × AreLinked nodes (last_name from On) (Off ++ from ∷ []) (drop k links)
  parts =
      let both =
      linked_parts nodes from On (Off ++ from ∷ []) links
      (subst (λ l. AreLinked nodes from l links)
      (sym (ap (λ l. l ++ from ∷ []) (take-append-drop k others)) ∙ append_assoc On Off (from ∷ [])) linked) in (
        subst (λ i. AreLinked nodes from On (take i links)) size both.0,
        subst (λ i. AreLinked nodes (last_name from On) (Off ++ from ∷ []) (drop i links)) size both.1,
      )

  along : (last_of from Way ≡ last_name from On) × ArePassed nodes from Way
      × (from ∷ On ≡ paired_on from Way ++ last_name from On ∷ [])
  along = passed_along nodes from On (take k links) parts.0 (omega (arith, size, even_k))

  beside : AreCoupled nodes Beside × (Off ≡ paired_beside Beside)
  beside =
      coupled_along nodes (last_name from On) Off from (drop k links) parts.1
      (omega (arith, length-drop k others, even_k, odd, low))

  names : from ∷ others ≡ (paired_on from Way ++ last_name from On ∷ []) ++ paired_beside Beside
  names =
      ap (λ l. from ∷ l) (sym (take-append-drop k others))
      ∙ (ap (λ l. l ++ Off) along.2 ∙ ap (λ l. (paired_on from Way ++ last_name from On ∷ []) ++ l) beside.1)

  pub even_on : IsWayRound nodes from (get_or (from ∷ others) k from) (record { others = others; links = links })
      Way Beside
  even_on = record {
    ends = along.0 ∙ last_at from others k from low;
    passed = along.1;
    coupled = beside.0;
    all =
        subst (λ z. IsPermutation (from ∷ others) (z ∷ paired_of from Way Beside)) (sym along.0)
        (subst (λ l. IsPermutation l (last_name from On ∷ paired_of from Way Beside)) (sym names)
        (IsPermutation-append_left (paired_beside Beside) (paired_on from Way ++ last_name from On ∷ [])
        (last_name from On ∷ paired_on from Way) (IsPermutation-to_front (paired_on from Way) (last_name from On))));
    links = λ q ns are.
        let split : AreMatchedLinks q ns (take k links ++ drop k links) =
        subst (AreMatchedLinks q ns) (sym (take-append-drop k links)) are in
        let on : AreMatchedLinks q ns (take k links) = links_left q ns (take k links) (drop k links) split in
        let off : AreMatchedLinks q ns (drop k links) = links_right q ns (take k links) (drop k links) split in
        links_joined q ns (matched_on Way) (grown_on Way ++ matched_beside Beside)
        (matched_some q ns (take k links) (matched_on Way) (matched_among On (take k links)) on)
        (links_joined q ns (grown_on Way) (matched_beside Beside)
        (matched_some q ns (take k links) (grown_on Way) (grown_among On (take k links)) on)
        (matched_some q ns (drop k links) (matched_beside Beside) (beside_among Off (drop k links)) off));
  }

pub not_even : (n : ℕ) → (n % 2 == 0) ≡ false → n % 2 ≡ 1
not_even n e = step (cases_of (n % 2) (omega arith))
  where
    cases_of : (k : ℕ) → k < 2 → (k ≡ 0) ⊎ (k ≡ 1)
    cases_of zero less = inl refl
    cases_of (suc zero) less = inr refl
    cases_of (suc (suc k)) less = absurd (omega (arith, less))

    step : (n % 2 ≡ 0) ⊎ (n % 2 ≡ 1) → n % 2 ≡ 1
    step (inl none) = absurd (both_ways (n % 2 == 0) e (eq-eqb (n % 2) 0 none))
    step (inr one) = one

-- Back, the node is as many links on as are left of the round.
back_at : (from : ℕ) (others : List ℕ) (steps : ℕ) → steps % 2 ≡ 1 → steps ≤ length others
    → get_or (from ∷ reverse others) (length others + 1 - steps) from ≡ get_or (from ∷ others) steps from
back_at from others zero odd low = absurd (omega (arith, odd))
back_at from others (suc s) odd low =
    let first : length others + 1 - suc s ≡ suc (length others - 1 - s) = omega (arith, low) in
    let back : length others - 1 - (length others - 1 - s) ≡ s = omega (arith, low) in
    ap (λ i. get_or (from ∷ reverse others) i from) first
    ∙ (get_or-reverse others (length others - 1 - s) from (omega (arith, low)) ∙ ap (λ i. get_or others i from) back)

pub even_way_round : EvenWayRound
even_way_round nodes from r steps linked odd low = step (steps % 2 == 0) refl
  where
    on : steps % 2 ≡ 0
        → IsWayRound nodes from (get_or (from ∷ r.others) steps from) r
        (passes_along (take steps r.others) (take steps r.links)) (couples_along (drop steps r.others) (drop steps r.links))
    on is_even = even_on nodes from r.others r.links steps linked odd low is_even

    back : steps % 2 ≡ 1
        → IsWayRound nodes from (get_or (from ∷ r.others) steps from) r
        (passes_along (take (length r.others + 1 - steps) (reverse r.others))
        (take (length r.others + 1 - steps) (reverse r.links)))
        (couples_along (drop (length r.others + 1 - steps) (reverse r.others))
        (drop (length r.others + 1 - steps) (reverse r.links)))
    back is_odd =
        let size : length (reverse r.others) ≡ length r.others = length-reverse r.others in
        let turned =
        even_on nodes from (reverse r.others) (reverse r.links) (length r.others + 1 - steps)
        (linked_turned nodes from r.others from r.links linked) (omega (arith, odd, size))
        (omega (arith, is_odd, low, size)) (omega (arith, is_odd, odd, low)) in
        record {
          ends = turned.ends ∙ back_at from r.others steps is_odd low;
          passed = turned.passed;
          coupled = turned.coupled;
          all =
              IsPermutation-trans (from ∷ r.others) (from ∷ reverse r.others) _
              (IsPermutation-cons from r.others (reverse r.others) (IsPermutation-reverse r.others)) turned.all;
          links = λ q ns are.
              turned.links q ns (links_moved q ns r.links (reverse r.links) (IsPermutation-reverse r.links) are);
        }

    step : (b : Bool) → (steps % 2 == 0) ≡ b
        → IsWayRound nodes from (get_or (from ∷ r.others) steps from) r (way_to steps r) (couples_after steps r)
    step true e =
        subst
        (λ b.
        IsWayRound nodes from (get_or (from ∷ r.others) steps from) r
        (passes_along (take (if b then steps else length r.others + 1 - steps) (if b then r else turned_round r).others)
        (take (if b then steps else length r.others + 1 - steps) (if b then r else turned_round r).links))
        (couples_along (drop (if b then steps else length r.others + 1 - steps) (if b then r else turned_round r).others)
        (drop (if b then steps else length r.others + 1 - steps) (if b then r else turned_round r).links)))
        (sym e) (on (eqb-true (steps % 2) 0 e))
    step false e =
        subst
        (λ b.
        IsWayRound nodes from (get_or (from ∷ r.others) steps from) r
        (passes_along (take (if b then steps else length r.others + 1 - steps) (if b then r else turned_round r).others)
        (take (if b then steps else length r.others + 1 - steps) (if b then r else turned_round r).links))
        (couples_along (drop (if b then steps else length r.others + 1 - steps) (if b then r else turned_round r).others)
        (drop (if b then steps else length r.others + 1 - steps) (if b then r else turned_round r).links)))
        (sym e) (back (not_even steps e))

-- a list cut at a place
cut_at : (xs : List ℕ) (k d : ℕ) → k < length xs → xs ≡ take k xs ++ get_or xs k d ∷ drop (suc k) xs
cut_at [] k d less = absurd (omega (arith, less))
cut_at (x ∷ xs) zero d less = refl
cut_at (x ∷ xs) (suc k) d less = ap (λ l. x ∷ l) (cut_at xs k d (omega (arith, less)))

module _ (nodes : List Node) where
  linked_at : (from : ℕ) (before : List ℕ) (v : ℕ) (after : List ℕ) (links : List Link)
      → AreLinked nodes from (before ++ v ∷ after) links
      → AreLinked nodes from (before ++ v ∷ []) (take (suc (length before)) links)
      × AreLinked nodes v after (drop (suc (length before)) links)
  linked_at from [] v after [] linked = absurd linked
  linked_at from [] v after (l ∷ ls) linked = ((linked.0, tt), linked.1)
  linked_at from (n ∷ ns) v after [] linked = absurd linked
  linked_at from (n ∷ ns) v after (l ∷ ls) linked =
      let rest = linked_at n ns v after ls linked.1 in ((linked.0, rest.0), rest.1)

  begun_at : (first : ℕ) (before : List ℕ) (v : ℕ) (after : List ℕ) (links : List Link)
      → AreLinked nodes first ((before ++ v ∷ after) ++ first ∷ []) links
      → AreLinked nodes v ((after ++ first ∷ before) ++ v ∷ []) (round_from (suc (length before)) links)
  begun_at first before v after links linked =
      let parts =
      linked_at first before v (after ++ first ∷ []) links
      (subst (λ l. AreLinked nodes first l links) (append_assoc before (v ∷ after) (first ∷ [])) linked) in
      subst (λ l. AreLinked nodes v l (round_from (suc (length before)) links))
      (sym (append_assoc after (first ∷ before) (v ∷ [])))
      (linked_join nodes v after first (before ++ v ∷ []) (drop (suc (length before)) links)
      (take (suc (length before)) links) parts.1 parts.0)

pub round_begun : RoundBegun
round_begun nodes first names links zero linked low = (
  subst (AreLinked nodes first ((names ++ []) ++ first ∷ [])) (sym (append-nil links))
      (subst (λ l. AreLinked nodes first (l ++ first ∷ []) links) (sym (append-nil names)) linked),
  subst (λ l. IsPermutation (first ∷ names) (first ∷ l)) (sym (append-nil names)) (IsPermutation-refl (first ∷ names)),
)
round_begun nodes first names links (suc k) linked low =
    let less : k < length names = omega (arith, low) in
    let size : length (take k names) ≡ k = length-take-le k names (omega (arith, low)) in
    let next : suc k + 1 ≡ suc (suc k) = omega arith in
    let is : names ≡ take k names ++ get_or names k first ∷ drop (suc k) names = cut_at names k first less in (
      subst
          (λ i.
          AreLinked nodes (get_or names k first)
          ((drop i (first ∷ names) ++ first ∷ take k names) ++ get_or names k first ∷ []) (round_from (suc k) links))
          (sym next)
          (subst
          (λ i.
          AreLinked nodes (get_or names k first)
          ((drop (suc k) names ++ first ∷ take k names) ++ get_or names k first ∷ []) (round_from (suc i) links))
          size
          (begun_at nodes first (take k names) (get_or names k first) (drop (suc k) names) links
          (subst (λ l. AreLinked nodes first (l ++ first ∷ []) links) is linked))),
      subst
          (λ i. IsPermutation (first ∷ names) (get_or names k first ∷ (drop i (first ∷ names) ++ first ∷ take k names)))
          (sym next)
          (subst
          (λ l. IsPermutation (first ∷ l) (get_or names k first ∷ (drop (suc k) names ++ first ∷ take k names))) (sym is)
          (IsPermutation-append_comm (first ∷ take k names) (get_or names k first ∷ drop (suc k) names))),
    )

pub blossom_opened_along : BlossomOpenedAlong
blossom_opened_along p before after b newer older e rest unmatched root r first names links place steps from round nest
    may is state children linked are closed low from_is round_is few above below =
    opened p before after b newer older e rest unmatched root r first names links from
    (get_or (from ∷ round.others) steps from) nest may is state children are closed above below (way_to steps round)
    (couples_after steps round) along.ends along.passed along.coupled
    (IsPermutation-trans (first ∷ names) (from ∷ round.others) _ begun.1 along.all)
    (along.links p (before ++ b ∷ after)
    (matched_some p (before ++ b ∷ after) links round.links
    (λ l a. round_among place links l (subst (λ x. IsAmong l x.links) round_is a)) are))
  where
    begun : IsRoundFrom (before ++ after) from round × IsPermutation (first ∷ names) (from ∷ round.others)
    begun =
        subst
        (λ f. IsRoundFrom (before ++ after) f round × IsPermutation (first ∷ names) (f ∷ round.others)) (sym from_is)
        (subst
        (λ x.
        IsRoundFrom (before ++ after) (get_or (first ∷ names) place first) x
        × IsPermutation (first ∷ names) (get_or (first ∷ names) place first ∷ x.others))
        (sym round_is) (round_begun (before ++ after) first names links place linked low))

    size : length (from ∷ round.others) ≡ length (first ∷ names)
    size = length_permutation (first ∷ names) (from ∷ round.others) begun.1

    along : IsWayRound (before ++ after) from (get_or (from ∷ round.others) steps from) round (way_to steps round)
        (couples_after steps round)
    along =
        even_way_round (before ++ after) from round steps begun.0
        (omega (
          arith,
          size,
          even p before after b newer older e rest unmatched root r first names links from
              (get_or (from ∷ round.others) steps from) nest may is state children are closed above below,
        ))
        (omega (arith, size, few))
