-- A row is good just where it is right.
use Rattle.std.proofs.Common.{ℕ, ℤ, ◌+◌, ◌<◌, ◌≡◌, ◌≢◌, ◌==◌, not, nat_lt, cond, Bool, true, false, List, [], ◌∷◌, length, get_or, All, Option, Some, None, refl, sym, ap, ◌∙◌, arith}
use Rattle.std.specs.List.{find}
use Rattle.std.specs.List.Sorted.{IsStrictlyIncreasing}
use Rattle.std.specs.Option.{option_map, option_or, is_some}
use Rattle.std.specs.Ordering.{int_eq, nat_cmp, is_lt}
use Rattle.std.specs.Cmp.Lexicographic.{slice_cmp}
use Rattle.std.specs.declared.cmp.Ordering.{Ordering}
use Rattle.std.specs.declared.cmp.Ordering.TheVariants.{Less, Equal, Greater}
use Rattle.std.proofs.lemmas.Bool.Decides.{Decides-int_eq}
use Rattle.std.proofs.lemmas.Bool.{false≢true, lt-ltb, ltb-true, not-false, and_from, not_from_false}
use Rattle.std.proofs.lemmas.List.Elements.{All-cons, All-head, All-nil, All-tail}
use Rattle.fb_graph.specs.Certificate.{AreDistinct, AreRising, IsBefore, IsOddCut}
use Rattle.fb_graph.specs.Limits.{DecodingGraph, ShotValue}
use Rattle.fb_graph.specs.Signs.{shifted_defects, solved_problem}
use Rattle.fb_graph.specs.Parity.{is_in, is_odd_count}
use Rattle.fb_graph.specs.Problem.{Problem}
use Rattle.fb_graph.specs.declared.parts.Cut.{Cut}
use Rattle.fb_graph.proofs.Sets.{distinct_from_rising, rising-cons, rising-nil, rising-one, rising-tail}
use Rattle.fb_graph.proofs.Options.{is_some-none}
use Rattle.fb_verify.proofs.Marked.{real-below}
use Rattle.fb_verify.specs.Verdicts.{cut_fault, cuts_fault, fault_of_two, fault_if, first_beyond, first_fall, first_fall_after}
use Rattle.fb_verify.specs.declared.verdicts.Verdict.{Verdict}
use Rattle.fb_verify.specs.declared.verdicts.Verdict.TheVariants.{Good, CutEmpty, VertexOutOfRange, CutsNotRising, CutHoldsVirtual, CutEven}
use Rattle.fb_verify.proofs.Leasts.{below-from_beyond}

-- the parts of the first of two faults
pub or_none : (a b : Option Verdict) → option_or a b ≡ None → (a ≡ None) × (b ≡ None)
or_none None b e = (refl, e)
or_none (Some v) b e = cc

pub map_none : (f : ℕ → Verdict) (o : Option ℕ) → option_map f o ≡ None → o ≡ None
map_none f None e = refl
map_none f (Some v) e = cc

where_none : (b : Bool) (v : Verdict) → fault_if b v ≡ None → b ≡ false
where_none true v e = cc
where_none false v e = refl

pub two_none : (f : ℤ → ℤ → Verdict) (a b : ℤ) → fault_of_two f a b ≡ None → a ≡ b
two_none f a b e = step (int_eq a b) refl e
  where
    step : (t : Bool) → int_eq a b ≡ t → cond t None (Some (f a b)) ≡ None → a ≡ b
    step true h e = (Decides-int_eq a b).0 h
    step false h e = cc

-- no fault is `Good`
pub or_bad : (a b : Option Verdict) → a ≢ Some Good → b ≢ Some Good → option_or a b ≢ Some Good
or_bad None b f g = g
or_bad (Some v) b f g = f

pub map_bad : (f : ℕ → Verdict) → ((k : ℕ) → f k ≢ Good) → (o : Option ℕ) → option_map f o ≢ Some Good
map_bad f bad None e = cc
map_bad f bad (Some k) e = bad k cc

where_bad : (b : Bool) (v : Verdict) → v ≢ Good → fault_if b v ≢ Some Good
where_bad true v bad e = bad cc
where_bad false v bad e = cc

pub two_bad : (f : ℤ → ℤ → Verdict) → ((a b : ℤ) → f a b ≢ Good) → (a b : ℤ) → fault_of_two f a b ≢ Some Good
two_bad f bad a b e = step (int_eq a b) e
  where
    step : (t : Bool) → cond t None (Some (f a b)) ≡ Some Good → ⊥
    step true e = cc
    step false e = bad a b cc

cut_bad : (g : DecodingGraph) (shot : ShotValue) (j : ℕ) (before vertices : List ℕ) → cut_fault g shot j before vertices ≢ Some Good
cut_bad g shot j before vertices =
    or_bad (fault_if (length vertices == 0) (CutEmpty j)) _ (where_bad (length vertices == 0) (CutEmpty j) (λ e. cc))
    (or_bad (option_map VertexOutOfRange (first_beyond g.vertices vertices)) _ (map_bad VertexOutOfRange (λ k e. cc) (first_beyond g.vertices vertices))
    (or_bad (fault_if (is_some (first_fall vertices)) (CutsNotRising j)) _ (where_bad (is_some (first_fall vertices)) (CutsNotRising j) (λ e. cc))
    (or_bad (fault_if (not (is_lt (slice_cmp nat_cmp before vertices))) (CutsNotRising j)) _ (where_bad (not (is_lt (slice_cmp nat_cmp before vertices))) (CutsNotRising j) (λ e. cc))
    (or_bad (option_map CutHoldsVirtual (find (is_in g.virtuals) vertices)) _ (map_bad CutHoldsVirtual (λ k e. cc) (find (is_in g.virtuals) vertices))
    (or_bad (fault_if (not (is_odd_count (is_in (shifted_defects g shot)) vertices)) (CutEven j)) None (where_bad (not (is_odd_count (is_in (shifted_defects g shot)) vertices)) (CutEven j) (λ e. cc)) (λ e. cc))))))

pub cuts_bad : (g : DecodingGraph) (shot : ShotValue) (j : ℕ) (before : List ℕ) (cuts : List Cut) → cuts_fault g shot j before cuts ≢ Some Good
cuts_bad g shot j before [] = λ e. cc
cuts_bad g shot j before (c ∷ cs) =
    or_bad (cut_fault g shot j before c.vertices) (cuts_fault g shot (j + 1) c.vertices cs)
    (cut_bad g shot j before c.vertices) (cuts_bad g shot (j + 1) c.vertices cs)

-- rising lists
rising_after : (k : ℕ) (ks : List ℕ) → first_fall_after k ks ≡ None → IsStrictlyIncreasing (k ∷ ks)
rising_after k [] e = rising-one k
rising_after k (j ∷ js) e = step (nat_lt k j) refl e (rising_after j js)
  where
    step : (b : Bool) → nat_lt k j ≡ b → cond b (first_fall_after j js) (Some j) ≡ None
        → (first_fall_after j js ≡ None → IsStrictlyIncreasing (j ∷ js)) → IsStrictlyIncreasing (k ∷ j ∷ js)
    step true h e ih = rising-cons k j js (ltb-true k j h) (ih e)
    step false h e ih = cc

pub rising-from_fall : (ks : List ℕ) → first_fall ks ≡ None → IsStrictlyIncreasing ks
rising-from_fall [] e = rising-nil
rising-from_fall (k ∷ ks) e = rising_after k ks e

fall_after-from_rising : (k : ℕ) (ks : List ℕ) → IsStrictlyIncreasing (k ∷ ks) → first_fall_after k ks ≡ None
fall_after-from_rising k [] rising = refl
fall_after-from_rising k (j ∷ js) rising =
    rw (lt-ltb k j (rising 0 (omega arith))) (fall_after-from_rising j js (rising-tail k (j ∷ js) rising))

pub fall-from_rising : (ks : List ℕ) → IsStrictlyIncreasing ks → first_fall ks ≡ None
fall-from_rising [] rising = refl
fall-from_rising (k ∷ ks) rising = fall_after-from_rising k ks rising

-- a look-up that finds none
all-from_none : (p : ℕ → Bool) (xs : List ℕ) → find p xs ≡ None → All (λ x. p x ≡ false) xs
all-from_none p [] e = All-nil _
all-from_none p (x ∷ xs) e = step (p x) refl e (all-from_none p xs)
  where
    step : (b : Bool) → p x ≡ b → cond b (Some x) (find p xs) ≡ None → (find p xs ≡ None → All (λ y. p y ≡ false) xs)
        → All (λ y. p y ≡ false) (x ∷ xs)
    step true h e ih = cc
    step false h e ih = All-cons (λ y. p y ≡ false) x xs h (ih e)

pub none-from_all : (p : ℕ → Bool) (xs : List ℕ) → All (λ x. p x ≡ false) xs → find p xs ≡ None
none-from_all p [] all = refl
none-from_all p (x ∷ xs) all =
    rw (All-head (λ y. p y ≡ false) x xs all) (none-from_all p xs (All-tail (λ y. p y ≡ false) x xs all))

-- a cut that keeps its rules by itself, but for its value
pub record IsListed (p : Problem) (c : Cut) : Type 0 where
  pub odd : IsOddCut p c
  pub rising : IsStrictlyIncreasing c.vertices

is_less : (o : Ordering) → is_lt o ≡ true → o ≡ Less
is_less Less e = refl
is_less Equal e = absurd (false≢true e)
is_less Greater e = absurd (false≢true e)

-- the vertices before, as a cut
abbrev pub as_cut : List ℕ → Cut
as_cut vertices = record { value = 0; vertices = vertices }

pub before_same : (a b : Cut) → a.vertices ≡ b.vertices → (cuts : List Cut) → IsBefore a cuts → IsBefore b cuts
before_same a b same [] before = tt
before_same a b same (c ∷ cs) before = ap (λ vs. slice_cmp nat_cmp vs c.vertices) (sym same) ∙ before

cut-from_none : (g : DecodingGraph) (shot : ShotValue) (j : ℕ) (before : List ℕ) (c : Cut)
    → cut_fault g shot j before c.vertices ≡ None
    → IsListed (solved_problem g shot) c × (slice_cmp nat_cmp before c.vertices ≡ Less)
cut-from_none g shot j before c none =
    let (empty, others) = or_none (fault_if (length c.vertices == 0) (CutEmpty j)) _ none in
    let (beyond, rest) = or_none (option_map VertexOutOfRange (first_beyond g.vertices c.vertices)) _ others in
    let (fall, rest_2) = or_none (fault_if (is_some (first_fall c.vertices)) (CutsNotRising j)) _ rest in
    let (order, rest_3) = or_none (fault_if (not (is_lt (slice_cmp nat_cmp before c.vertices))) (CutsNotRising j)) _ rest_2 in
    let (virtual, rest_4) = or_none (option_map CutHoldsVirtual (find (is_in g.virtuals) c.vertices)) _ rest_3 in
    let (even, rest_5) = or_none (fault_if (not (is_odd_count (is_in (shifted_defects g shot)) c.vertices)) (CutEven j)) None rest_4 in
    let rising : IsStrictlyIncreasing c.vertices =
    rising-from_fall c.vertices (is_some-none (first_fall c.vertices) (where_none (is_some (first_fall c.vertices)) (CutsNotRising j) fall)) in
    let below = below-from_beyond g.vertices c.vertices (map_none VertexOutOfRange (first_beyond g.vertices c.vertices) beyond) in
    let real = all-from_none (is_in g.virtuals) c.vertices (map_none CutHoldsVirtual (find (is_in g.virtuals) c.vertices) virtual) in (
      record {
        odd = record {
          distinct = distinct_from_rising c.vertices rising;
          real = λ k d less. and_from (nat_lt (get_or c.vertices k d) g.vertices) (not (is_in g.virtuals (get_or c.vertices k d)))
              (lt-ltb (get_or c.vertices k d) g.vertices (below k d less)) (not_from_false (is_in g.virtuals (get_or c.vertices k d)) (real k d less));
          odd = not-false (is_odd_count (is_in (shifted_defects g shot)) c.vertices)
              (where_none (not (is_odd_count (is_in (shifted_defects g shot)) c.vertices)) (CutEven j) even);
        };
        rising = rising;
      },
      is_less (slice_cmp nat_cmp before c.vertices)
          (not-false (is_lt (slice_cmp nat_cmp before c.vertices))
          (where_none (not (is_lt (slice_cmp nat_cmp before c.vertices))) (CutsNotRising j) order)),
    )

pub cuts-from_none : (g : DecodingGraph) (shot : ShotValue) (j : ℕ) (before : List ℕ) (cuts : List Cut)
    → cuts_fault g shot j before cuts ≡ None
    → All (IsListed (solved_problem g shot)) cuts × AreRising (as_cut before ∷ cuts)
cuts-from_none g shot j before [] none = (All-nil _, (tt, tt))
cuts-from_none g shot j before (c ∷ cs) none =
    let (here, later) = or_none (cut_fault g shot j before c.vertices) (cuts_fault g shot (j + 1) c.vertices cs) none in
    let (listed, order) = cut-from_none g shot j before c here in
    let (all, rising) = cuts-from_none g shot (j + 1) c.vertices cs later in (
      All-cons (IsListed (solved_problem g shot)) c cs listed all,
      (order, (before_same (as_cut c.vertices) c refl cs rising.0, rising.1)),
    )

-- none of the cuts has a vertex twice or out of range
pub cuts_distinct : (g : DecodingGraph) (shot : ShotValue) (cuts : List Cut) → cuts_fault g shot 0 [] cuts ≡ None
    → All (λ c. AreDistinct c.vertices) cuts
cuts_distinct g shot cuts none k d less = ((cuts-from_none g shot 0 [] cuts none).0 k d less).odd.distinct

pub cuts_below : (g : DecodingGraph) (shot : ShotValue) (cuts : List Cut) → cuts_fault g shot 0 [] cuts ≡ None
    → All (λ c. All (λ v. v < g.vertices) c.vertices) cuts
cuts_below g shot cuts none k d less i e within =
    real-below g _ (((cuts-from_none g shot 0 [] cuts none).0 k d less).odd.real i e within)
