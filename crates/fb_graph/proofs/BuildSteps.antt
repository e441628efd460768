-- The steps of the loops that build a graph.
use Rattle.std.proofs.Common.{◌≡◌, ◌≢◌, ℕ, zero, suc, ◌+◌, ◌<◌, Bool, true, false, cond, List, [], ◌∷◌, ◌++◌, length, take, drop, set, get_or, filter, Some, None, ℤ, nat_le, eqb, refl, sym, ap, ◌∙◌, inl, inr, arith, add-one, append-nil, length-set}
use Rattle.std.specs.List.{range_with_len}
use Rattle.std.proofs.Math.Seq.{drop-cons}
use Rattle.std.proofs.lemmas.Bool.{or_right, cases_eq, eq-eqb, ne_eqb, cond-true, cond-false}
use Rattle.std.proofs.lemmas.List.{take_more, get_or-set_same, get_or-set_other}
use Rattle.std.proofs.lemmas.List.Elements.{filter-append}
use Rattle.std.proofs.lemmas.List.Folds.{list_any_more}
use Rattle.fb_graph.specs.Parity.{is_in, differ}
use Rattle.fb_graph.specs.Problem.{edge_at, touches}
use Rattle.fb_graph.specs.Adjacency.{edges_at}
use Rattle.fb_graph.specs.InternalLayout.{with_edge}
use Rattle.fb_graph.specs.GraphRules.{edge_fault, edges_fault, virtuals_fault}
use Rattle.fb_graph.specs.declared.parts.Edge.{Edge}
use Rattle.fb_graph.specs.declared.faults.GraphFault.{GraphFault}
use Rattle.fb_graph.specs.declared.faults.GraphFault.TheVariants.{VirtualOutOfRange, VirtualRepeated}
use Rattle.fb_graph.proofs.Booleans.{or_nothing}

pub edges_fault_more : (n i : ℕ) (es : List (ℕ × ℕ × ℤ)) (d : ℕ × ℕ × ℤ) → i < length es
    → edge_fault n i (get_or es i d) ≡ None → edges_fault n i (drop i es) ≡ edges_fault n (i + 1) (drop (i + 1) es)
edges_fault_more n i es d lt good =
    rw (drop-cons es i d lt, good) (ap (λ j. edges_fault n (i + 1) (drop j es)) (sym (add-one i)))

pub edges_fault_stops : (n i : ℕ) (es : List (ℕ × ℕ × ℤ)) (d : ℕ × ℕ × ℤ) (fault : GraphFault) → i < length es
    → edge_fault n i (get_or es i d) ≡ Some fault → edges_fault n i (drop i es) ≡ Some fault
edges_fault_stops n i es d fault lt bad = rw (drop-cons es i d lt, bad) refl

pub virtuals_fault_more : (n i : ℕ) (vs : List ℕ) → i < length vs → nat_le n (get_or vs i 0) ≡ false
    → is_in (take i vs) (get_or vs i 0) ≡ false
    → virtuals_fault n (take i vs) i (drop i vs) ≡ virtuals_fault n (take (i + 1) vs) (i + 1) (drop (i + 1) vs)
virtuals_fault_more n i vs lt low new =
    rw (drop-cons vs i 0 lt, low, new, take_more vs i 0 lt)
    (ap (λ j. virtuals_fault n (take i vs ++ get_or vs i 0 ∷ []) (i + 1) (drop j vs)) (sym (add-one i)))

pub virtuals_fault_stops : (n i : ℕ) (vs : List ℕ) → i < length vs → nat_le n (get_or vs i 0) ≡ true
    → virtuals_fault n (take i vs) i (drop i vs) ≡ Some (VirtualOutOfRange i)
virtuals_fault_stops n i vs lt high = rw (drop-cons vs i 0 lt, high) refl

pub virtuals_fault_repeats : (n i : ℕ) (vs : List ℕ) → i < length vs → nat_le n (get_or vs i 0) ≡ false
    → is_in (take i vs) (get_or vs i 0) ≡ true
    → virtuals_fault n (take i vs) i (drop i vs) ≡ Some (VirtualRepeated i)
virtuals_fault_repeats n i vs lt low seen = rw (drop-cons vs i 0 lt, low, seen) refl

-- a flag set at v: the flags then tell of the list with v too
pub flags_more : (flags : List Bool) (n : ℕ) (vs : List ℕ) (i : ℕ) → length flags ≡ n → i < length vs → get_or vs i 0 < n
    → ((k : ℕ) → k < n → get_or flags k false ≡ is_in (take i vs) k)
    → (k : ℕ) → k < n → get_or (set flags (get_or vs i 0) true) k false ≡ is_in (take (i + 1) vs) k
flags_more flags n vs i len lt low known k below =
    rw (list_any_more (λ u. eqb u k) vs i 0 lt)
    (elim (cases_eq k (get_or vs i 0)) [
      | inl same ↦ ap (λ j. get_or (set flags (get_or vs i 0) true) j false) same
          ∙ get_or-set_same flags (get_or vs i 0) true false (omega arith)
          ∙ sym (or_right (is_in (take i vs) k) (eqb (get_or vs i 0) k) (eq-eqb (get_or vs i 0) k (sym same)))
      | inr other ↦ get_or-set_other flags (get_or vs i 0) k true false other ∙ known k below
          ∙ sym (or_nothing (is_in (take i vs) k) (eqb (get_or vs i 0) k) (ne_eqb (get_or vs i 0) k (λ e. other (sym e))))
    ])

pub range_push : (a n : ℕ) → range_with_len a (suc n) ≡ range_with_len a n ++ (a + n) ∷ []
range_push a zero = ap (λ x. x ∷ []) (omega arith)
range_push a (suc n) =
    ap (λ xs. a ∷ xs) (range_push (a + 1) n ∙ ap (λ m. range_with_len (a + 1) n ++ m ∷ []) (omega arith))

-- the numbers below n + 1 that pass
pub range_more : (p : ℕ → Bool) (n : ℕ)
    → filter p (range_with_len 0 (n + 1)) ≡ filter p (range_with_len 0 n) ++ cond (p n) (n ∷ []) []
range_more p n =
    ap (λ m. filter p (range_with_len 0 m)) (add-one n)
    ∙ ap (filter p) (range_push 0 n)
    ∙ filter-append p (range_with_len 0 n) ((0 + n) ∷ [])
    ∙ ap (λ m. filter p (range_with_len 0 n) ++ cond (p m) (m ∷ []) []) (omega arith)

differ_from : (a b x y : Bool) → a ≡ x → b ≡ y → differ a b ≡ differ x y
differ_from a b x y e f = rw (e, f) refl

-- the lists of the edges at each vertex once edge k, with the two ends u and w, has been put at both
pub adjacent_more : (edges : List Edge) (adjacent : List (List ℕ)) (n k : ℕ) → length adjacent ≡ n
    → (edge_at edges k).first < n → (edge_at edges k).second < n → (edge_at edges k).first ≢ (edge_at edges k).second
    → ((v : ℕ) → v < n → get_or adjacent v [] ≡ edges_at edges k v)
    → (v : ℕ) → v < n
    → get_or (with_edge adjacent (edge_at edges k) k) v [] ≡ edges_at edges (k + 1) v
adjacent_more edges adjacent n k len lu lw apart known v below =
    rw (range_more (λ j. touches v (edge_at edges j)) k)
    (elim (cases_eq v e.second) [
      | inl is_second ↦
          let not_first : (v ≡ e.first) → ⊥ = λ is_first. apart (sym is_first ∙ is_second) in
          ap (λ j. get_or outer j []) is_second
          ∙ get_or-set_same inner e.second (get_or adjacent e.second [] ++ k ∷ []) [] (omega (arith, len, length-set adjacent e.first (get_or adjacent e.first [] ++ k ∷ [])))
          ∙ ap (λ xs. xs ++ k ∷ []) (ap (λ j. get_or adjacent j []) (sym is_second) ∙ known v below)
          ∙ ap (λ xs. edges_at edges k v ++ xs) (sym (cond-true (touches v e) (k ∷ []) []
          (differ_from (eqb v e.first) (eqb v e.second) false true (ne_eqb v e.first not_first) (eq-eqb v e.second is_second))))
      | inr not_second ↦ elim (cases_eq v e.first) [
        | inl is_first ↦
            get_or-set_other inner e.second v (get_or adjacent e.second [] ++ k ∷ []) [] not_second
            ∙ ap (λ j. get_or inner j []) is_first
            ∙ get_or-set_same adjacent e.first (get_or adjacent e.first [] ++ k ∷ []) [] (omega (arith, len))
            ∙ ap (λ xs. xs ++ k ∷ []) (ap (λ j. get_or adjacent j []) (sym is_first) ∙ known v below)
            ∙ ap (λ xs. edges_at edges k v ++ xs) (sym (cond-true (touches v e) (k ∷ []) []
            (differ_from (eqb v e.first) (eqb v e.second) true false (eq-eqb v e.first is_first) (ne_eqb v e.second not_second))))
        | inr not_first ↦
            get_or-set_other inner e.second v (get_or adjacent e.second [] ++ k ∷ []) [] not_second
            ∙ get_or-set_other adjacent e.first v (get_or adjacent e.first [] ++ k ∷ []) [] not_first
            ∙ known v below
            ∙ sym (append-nil (edges_at edges k v))
            ∙ ap (λ xs. edges_at edges k v ++ xs) (sym (cond-false (touches v e) (k ∷ []) []
            (differ_from (eqb v e.first) (eqb v e.second) false false (ne_eqb v e.first not_first) (ne_eqb v e.second not_second))))
      ]
    ])
  where
    e : Edge
    e = edge_at edges k

    inner : List (List ℕ)
    inner = set adjacent e.first (get_or adjacent e.first [] ++ k ∷ [])

    outer : List (List ℕ)
    outer = set inner e.second (get_or adjacent e.second [] ++ k ∷ [])

pub length-with_edge : (adjacent : List (List ℕ)) (e : Edge) (k : ℕ) → length (with_edge adjacent e k) ≡ length adjacent
length-with_edge adjacent e k =
    length-set (set adjacent e.first (get_or adjacent e.first [] ++ k ∷ [])) e.second (get_or adjacent e.second [] ++ k ∷ [])
    ∙ length-set adjacent e.first (get_or adjacent e.first [] ++ k ∷ [])

pub ruleset range_steps = (range_more)

pub ruleset adjacent_steps = (adjacent_more, length-with_edge)
