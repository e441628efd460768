-- Closed sets and packings of a problem and of its parts.
use Rattle.std.proofs.Common.{ℕ, ◌+◌, ◌<◌, ◌≤◌, ◌≡◌, ◌⊎◌, Bool, true, false, cond, List, [], ◌∷◌, ◌++◌, length, get_or, All, sym, ap, ◌∙◌, subst, inl, inr, suc, arith}
use Rattle.std.proofs.lemmas.Bool.{both_ways, false_from_ne_true, or_parts, cases_Bool}
use Rattle.std.proofs.lemmas.List.Elements.{All-nil, All-cons, All-append}
use Rattle.std.proofs.lemmas.List.Sums.{sum_by-append}
use Rattle.fb_graph.specs.Parity.{differ, is_odd_count, is_in}
use Rattle.fb_graph.specs.Problem.{Problem, edge_at, no_edge, crosses}
use Rattle.fb_graph.specs.Certificate.{IsOddCut, load_of}
use Rattle.fb_graph.specs.Laws.{IsPart, has_real_end, PartHasNoOddClosed, EdgeLeaves, PackingOfPart, PackingsJoined}
use Rattle.fb_graph.specs.Dual.{height_of}
use Rattle.fb_graph.specs.declared.parts.Edge.{Edge}
use Rattle.fb_graph.specs.declared.parts.Cut.{Cut}
use Rattle.fb_graph.proofs.CutSums.{weigh_none}
use Rattle.fb_graph.proofs.ParitySums.{odd_agree}
use Rattle.fb_graph.proofs.Sums.{sum_same, sum_zero}
use Rattle.fb_graph.proofs.Sets.{is_in-All}

-- a set of real vertices of a part holds the same defects in the whole
pub odd_of_part : (small large : Problem) (set : List ℕ) → IsPart small large
    → All (λ v. small.is_real v ≡ true) set → is_odd_count small.is_defect set ≡ is_odd_count large.is_defect set
odd_of_part small large set part real =
    odd_agree small.is_defect large.is_defect set (λ k d less. part.defects (get_or set k d) (real k d less))

pub part_has_no_odd_closed : PartHasNoOddClosed
part_has_no_odd_closed small large part none set closed =
    odd_of_part small large set part closed.real
    ∙ none set (record {
      distinct = closed.distinct;
      real = λ k d less. part.real (get_or set k d) (closed.real k d less);
      uncrossed = subst (λ edges. All (λ e. crosses set e ≡ false) edges) part.edges closed.uncrossed;
    })

-- no element passes, or one does
pub none_or_some : {X : Type 0} (test : X → Bool) (xs : List X) (d : X)
    → All (λ x. test x ≡ false) xs ⊎ (k : ℕ) × (k < length xs) × (test (get_or xs k d) ≡ true)
none_or_some test [] d = inl (All-nil (λ x. test x ≡ false))
none_or_some test (x ∷ xs) d = step (cases_Bool (test x)) (none_or_some test xs d)
  where
    step : (test x ≡ true) ⊎ (test x ≡ false)
        → All (λ y. test y ≡ false) xs ⊎ (k : ℕ) × (k < length xs) × (test (get_or xs k d) ≡ true)
        → All (λ y. test y ≡ false) (x ∷ xs) ⊎ (k : ℕ) × (k < length (x ∷ xs)) × (test (get_or (x ∷ xs) k d) ≡ true)
    step (inl here) rest = inr (0, omega arith, here)
    step (inr here) (inl none) = inl (All-cons (λ y. test y ≡ false) x xs here none)
    step (inr here) (inr (k, less, passes)) = inr (suc k, omega arith, passes)

pub edge_leaves : EdgeLeaves
edge_leaves p c none odd = step (none_or_some (crosses c.vertices) p.edges no_edge)
  where
    step : All (λ e. crosses c.vertices e ≡ false) p.edges
        ⊎ (k : ℕ) × (k < length p.edges) × (crosses c.vertices (edge_at p.edges k) ≡ true)
        → (k : ℕ) × (k < length p.edges) × (crosses c.vertices (edge_at p.edges k) ≡ true)
    step (inl uncrossed) =
        absurd (both_ways _
        (none c.vertices (record { distinct = odd.distinct; real = odd.real; uncrossed = uncrossed })) odd.odd)
    step (inr found) = found

pub odd_cut_of_part : (small large : Problem) (c : Cut) → IsPart small large → IsOddCut small c → IsOddCut large c
odd_cut_of_part small large c part odd = record {
  distinct = odd.distinct;
  real = λ k d less. part.real (get_or c.vertices k d) (odd.real k d less);
  odd = sym (odd_of_part small large c.vertices part odd.real) ∙ odd.odd;
}

pub packing_of_part : PackingOfPart
packing_of_part small large cuts part packing = record {
  odd = λ k d less. odd_cut_of_part small large (get_or cuts k d) part (packing.odd k d less);
  fits = subst (λ edges. All (λ e. load_of cuts e ≤ e.weight) edges) part.edges packing.fits;
}

-- a set of real vertices holds none that isn't real
pub not_held : (p : Problem) (set : List ℕ) (v : ℕ) → All (λ u. p.is_real u ≡ true) set
    → p.is_real v ≡ false → is_in set v ≡ false
not_held p set v real boundary =
    false_from_ne_true (is_in set v)
    (λ within. both_ways (p.is_real v) boundary (is_in-All (λ u. p.is_real u ≡ true) set real v within))

-- so that it has no potential
pub boundary_height : (p : Problem) (cuts : List Cut) (v : ℕ) → All (IsOddCut p) cuts → p.is_real v ≡ false
    → height_of cuts v ≡ 0
boundary_height p cuts v odd boundary =
    weigh_none (λ s. is_in s v) cuts (λ i d less. not_held p (get_or cuts i d).vertices v (odd i d less).real boundary)

-- an edge with no real end crosses no set of real vertices
pub uncrossed_by_unreal : (p : Problem) (set : List ℕ) (e : Edge) → All (λ v. p.is_real v ≡ true) set
    → has_real_end p e ≡ false → crosses set e ≡ false
uncrossed_by_unreal p set e real unreal =
    ap (λ a. differ a (is_in set e.second)) (not_held p set e.first real (or_parts _ _ unreal).0)
    ∙ ap (differ false) (not_held p set e.second real (or_parts _ _ unreal).1)

-- an edge with no real end has no load
pub load_of_unreal : (p : Problem) (cuts : List Cut) (e : Edge) → All (IsOddCut p) cuts → has_real_end p e ≡ false
    → load_of cuts e ≡ 0
load_of_unreal p cuts e odd unreal =
    sum_same (λ c. cond (crosses c.vertices e) c.value 0) (λ c. 0) cuts
    (λ k d less. ap (λ b. cond b (get_or cuts k d).value 0)
    (uncrossed_by_unreal p (get_or cuts k d).vertices e (odd k d less).real unreal))
    ∙ sum_zero cuts

pub load-append : (cuts more : List Cut) (e : Edge) → load_of (cuts ++ more) e ≡ load_of cuts e + load_of more e
load-append cuts more e = sum_by-append (λ c. cond (crosses c.vertices e) c.value 0) cuts more

pub packings_joined : PackingsJoined
packings_joined left right whole cuts more part other separated packing another = record {
  odd =
      All-append (IsOddCut whole) cuts more (packing_of_part left whole cuts part packing).odd
      (packing_of_part right whole more other another).odd;
  fits = λ k d less. fits (get_or whole.edges k d) ((packing_of_part left whole cuts part packing).fits k d less)
      ((packing_of_part right whole more other another).fits k d less)
      (subst (λ edges. All (λ e. has_real_end left e ≡ true → has_real_end right e ≡ false) edges) part.edges
      separated.edges k d less)
      (cases_Bool (has_real_end left (get_or whole.edges k d)));
}
  where
    fits : (e : Edge) → load_of cuts e ≤ e.weight → load_of more e ≤ e.weight
        → (has_real_end left e ≡ true → has_real_end right e ≡ false)
        → (has_real_end left e ≡ true) ⊎ (has_real_end left e ≡ false) → load_of (cuts ++ more) e ≤ e.weight
    fits e light lighter apart (inl real) =
        omega (arith, load-append cuts more e, load_of_unreal right more e another.odd (apart real))
    fits e light lighter apart (inr unreal) =
        omega (arith, load-append cuts more e, load_of_unreal left cuts e packing.odd unreal)
