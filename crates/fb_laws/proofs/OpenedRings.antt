-- A ring of links begun at another of its sets, and the pairs round it.
use Rattle.std.proofs.Common.{ℕ, zero, suc, ◌≡◌, ◌+◌, ◌%◌, ◌||◌, Bool, true, false, List, [], ◌∷◌, ◌++◌, length, take, drop, get_or, sum_by, All, refl, sym, ap, ◌∙◌, subst, arith, if◌then◌else◌}
use Rattle.std.proofs.lemmas.Bool.{false≢true, or_from}
use Rattle.std.proofs.lemmas.List.{append-nil, append_assoc}
use Rattle.std.proofs.lemmas.List.Elements.{All-nil, All-cons}
use Rattle.std.proofs.lemmas.List.Sums.{sum_by-cons, get_or-le-sum_by}
use Rattle.fb_graph.specs.Parity.{is_in}
use Rattle.fb_graph.specs.Laws.{Link}
use Rattle.fb_graph.specs.Counts.{as_count}
use Rattle.fb_graph.specs.Ends.{ends_in}
use Rattle.fb_laws.specs.Blossoms.{ArePaired}
use Rattle.fb_laws.specs.OpenedLinks.{has_end, place_of, round_from, every_second, pair_links, OnePlace}
use Rattle.fb_laws.specs.PartStates.{AreChained, IsRing}
use Rattle.fb_graph.proofs.EndSums.{ends-cons}

-- a chain cut at a set, and put together
pub chain_cut : (from : List ℕ) (before : List (List ℕ)) (set : List ℕ) (after : List (List ℕ)) (links : List Link)
    → AreChained from (before ++ set ∷ after) links
    → AreChained from (before ++ set ∷ []) (take (suc (length before)) links)
    × AreChained set after (drop (suc (length before)) links)
chain_cut from [] set after [] chained = absurd chained
chain_cut from [] set after (l ∷ ls) chained = ((chained.0, tt), chained.1)
chain_cut from (s ∷ ss) set after [] chained = absurd chained
chain_cut from (s ∷ ss) set after (l ∷ ls) chained =
    let rest = chain_cut s ss set after ls chained.1 in ((chained.0, rest.0), rest.1)

pub chain_join : (from : List ℕ) (before : List (List ℕ)) (set : List ℕ) (after : List (List ℕ))
    (links more : List Link) → AreChained from (before ++ set ∷ []) links → AreChained set after more
    → AreChained from (before ++ set ∷ after) (links ++ more)
chain_join from [] set after [] more one other = absurd one
chain_join from [] set after (l ∷ []) more one other = (one.0, other)
chain_join from [] set after (l ∷ m ∷ ms) more one other = absurd one.1
chain_join from (s ∷ ss) set after [] more one other = absurd one
chain_join from (s ∷ ss) set after (l ∷ ls) more one other = (
  one.0,
  chain_join s ss set after ls more one.1 other,
)

pub ring_turned : (before : List (List ℕ)) (set : List ℕ) (after : List (List ℕ)) (ring : List Link)
    → IsRing (before ++ set ∷ after) ring
    → AreChained set ((after ++ before) ++ set ∷ []) (round_from (length before) ring)
ring_turned [] set after ring is =
    subst (AreChained set ((after ++ []) ++ set ∷ [])) (sym (append-nil ring))
    (subst (λ l. AreChained set (l ++ set ∷ []) ring) (sym (append-nil after)) is)
ring_turned (s ∷ ss) set after ring is =
    let parts =
    chain_cut s ss set (after ++ s ∷ []) ring
    (subst (λ l. AreChained s l ring) (append_assoc ss (set ∷ after) (s ∷ [])) is) in
    subst (λ l. AreChained set l (round_from (suc (length ss)) ring)) (sym (append_assoc after (s ∷ ss) (set ∷ [])))
    (chain_join set after s (ss ++ set ∷ []) (drop (suc (length ss)) ring) (take (suc (length ss)) ring) parts.1
    parts.0)

-- an even number of sets between the ends of a chain are in pairs
pub chain_paired : (from : List ℕ) (sets : List (List ℕ)) (to : List ℕ) (links : List Link)
    → AreChained from (sets ++ to ∷ []) links → length sets % 2 ≡ 0 → ArePaired sets (every_second links)
chain_paired from [] to [] chained even = tt
chain_paired from [] to (l ∷ []) chained even = tt
chain_paired from [] to (l ∷ m ∷ ms) chained even = absurd chained.1
chain_paired from (s ∷ []) to links chained even = absurd (omega (arith, even))
chain_paired from (s ∷ t ∷ ss) to [] chained even = absurd chained
chain_paired from (s ∷ t ∷ ss) to (l ∷ []) chained even = absurd chained.1
chain_paired from (s ∷ t ∷ ss) to (l ∷ m ∷ ls) chained even = (
  chained.1.0,
  chain_paired t ss to ls chained.1.1 (omega (arith, even)),
)

-- a set without ends, and one with some
pub no_end : (links : List Link) (set : List ℕ) → ends_in set links ≡ 0 → has_end links set ≡ false
no_end [] set none = refl
no_end (l ∷ ls) set none =
    or_from (is_in set l.from || is_in set l.to) (has_end ls set)
    (by (is_in set l.from) (is_in set l.to) (omega (arith, none, ends-cons set l ls)))
    (no_end ls set (omega (arith, none, ends-cons set l ls)))
  where
    by : (a b : Bool) → as_count a + as_count b ≡ 0 → (a || b) ≡ false
    by true true e = absurd (omega (arith, e))
    by true false e = absurd (omega (arith, e))
    by false true e = absurd (omega (arith, e))
    by false false e = refl

pub some_end : (links : List Link) (set : List ℕ) (n : ℕ) → ends_in set links ≡ suc n → has_end links set ≡ true
some_end [] set n some = absurd (omega (arith, some))
some_end (l ∷ ls) set n some =
    by (is_in set l.from) (is_in set l.to) (λ none. some_end ls set n (omega (arith, some, ends-cons set l ls, none)))
  where
    by : (a b : Bool) → (as_count a + as_count b ≡ 0 → has_end ls set ≡ true) → ((a || b) || has_end ls set) ≡ true
    by true b rest = refl
    by false true rest = refl
    by false false rest = rest refl

-- where a sum is 1, one part is 1 and all others are 0
pub record IsOnlyOne {X : Type 0} (f : X → ℕ) (xs : List X) : Type 0 where
  pub before : List X
  pub one : X
  pub after : List X
  pub is : xs ≡ before ++ one ∷ after
  pub at : f one ≡ 1
  pub none : All (λ x. f x ≡ 0) before

pub only_one : {X : Type 0} (f : X → ℕ) (xs : List X) → sum_by f xs ≡ 1 → IsOnlyOne f xs
only_one f [] sum = absurd (omega (arith, sum))
only_one {X} f (x ∷ xs) sum = step (f x) refl (omega (arith, sum, sum_by-cons f x xs)) (only_one f xs)
  where
    step : (n : ℕ) → f x ≡ n → n + sum_by f xs ≡ 1 → (sum_by f xs ≡ 1 → IsOnlyOne f xs) → IsOnlyOne f (x ∷ xs)
    step zero e total rest =
        let is = rest (omega (arith, total)) in
        record {
          before = x ∷ is.before;
          one = is.one;
          after = is.after;
          is = ap (λ l. x ∷ l) is.is;
          at = is.at;
          none = All-cons (λ y. f y ≡ 0) x is.before e is.none;
        }
    step (suc n) e total rest = record {
      before = [];
      one = x;
      after = xs;
      is = refl;
      at = omega (arith, e, total);
      none = All-nil (λ y. f y ≡ 0);
    }

pub place_at : (links : List Link) (before : List (List ℕ)) (set : List ℕ) (after : List (List ℕ))
    → All (λ s. ends_in s links ≡ 0) before → ends_in set links ≡ 1
    → place_of (has_end links) (before ++ set ∷ after) ≡ length before
place_at links [] set after none one = ap (λ b. if b then 0 else 1 + place_of (has_end links) after) (some_end links set 0 one)
place_at links (s ∷ ss) set after none one =
    ap (λ b. if b then 0 else 1 + place_of (has_end links) (ss ++ set ∷ after))
    (no_end links s (none 0 s (omega arith)))
    ∙ omega (arith, place_at links ss set after (λ i d less. none (suc i) d (omega arith)) one)

pub one_place : OnePlace
one_place links [] i sum less has = absurd (omega (arith, less))
one_place links (s ∷ ss) zero sum less has = ap (λ b. if b then 0 else 1 + place_of (has_end links) ss) has
one_place links (s ∷ ss) (suc i) sum less has =
    by (ends_in s links) refl (λ rest. one_place links ss i rest (omega (arith, less)) has)
  where
    by : (n : ℕ) → ends_in s links ≡ n
        → (sum_by (λ set. ends_in set links) ss ≡ 1 → place_of (has_end links) ss ≡ i)
        → (if has_end links s then 0 else 1 + place_of (has_end links) ss) ≡ suc i
    by zero e rest =
        ap (λ b. if b then 0 else 1 + place_of (has_end links) ss) (no_end links s e)
        ∙ omega (arith, rest (omega (arith, sum, e, sum_by-cons (λ set. ends_in set links) s ss)))
    by (suc n) e rest =
        absurd
        (false≢true
        (sym
        (no_end links (get_or ss i [])
        (omega (
          arith,
          get_or-le-sum_by (λ set. ends_in set links) ss i [] (omega (arith, less)),
          sum,
          e,
          sum_by-cons (λ set. ends_in set links) s ss,
        )))
        ∙ has))

-- So the sets beside the one in which a link ends are in pairs.
pub pairs_round : (links : List Link) (before : List (List ℕ)) (set : List ℕ) (after : List (List ℕ))
    (ring : List Link) → All (λ s. ends_in s links ≡ 0) before → ends_in set links ≡ 1
    → IsRing (before ++ set ∷ after) ring → length (after ++ before) % 2 ≡ 0
    → ArePaired (after ++ before) (pair_links links (before ++ set ∷ after) ring)
pairs_round links before set after ring none one is even =
    chain_paired set (after ++ before) set (round_from (place_of (has_end links) (before ++ set ∷ after)) ring)
    (subst (λ i. AreChained set ((after ++ before) ++ set ∷ []) (round_from i ring))
    (sym (place_at links before set after none one)) (ring_turned before set after ring is))
    even
