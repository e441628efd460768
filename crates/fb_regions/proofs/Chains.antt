-- The vertices that a node absorbed, read from their marks, and the layers that they began.
use Rattle.std.proofs.Common.{ℕ, zero, suc, ◌≡◌, ◌+◌, ◌-◌, ◌<◌, ◌==◌, true, List, [], ◌∷◌, ◌++◌, length, reverse, Option, refl, sym, ap, ◌∙◌, arith, append_assoc}
use Rattle.std.proofs.lemmas.Bool.{or_left, or_right, eq-eqb}
use Rattle.std.proofs.lemmas.List.{length-append, append-nil, reverse-append}
use Rattle.fb_graph.specs.Parity.{is_in}
use Rattle.fb_graph.proofs.Members.{is_in_push, is_in_pushed}
use Rattle.fb_regions.specs.declared.marks.Mark.{Mark}
use Rattle.fb_regions.specs.InternalNodes.{before_of, chain, stack, under_of}

-- one vertex further back
pub chain_back : (marks : List (Option Mark)) (n i at : ℕ) (vs : List ℕ) → i < n
    → chain marks (n - (i + 1)) (before_of marks at) ++ reverse (vs ++ at ∷ []) ≡ chain marks (n - i) at ++ reverse vs
chain_back marks n i at vs less =
    let e : n - i ≡ suc (n - (i + 1)) = omega arith in
    ap (λ l. chain marks (n - (i + 1)) (before_of marks at) ++ l) (reverse-append vs (at ∷ []))
    ∙ (sym (append_assoc (chain marks (n - (i + 1)) (before_of marks at)) (at ∷ []) (reverse vs))
    ∙ ap (λ k. chain marks k at ++ reverse vs) (sym e))

-- the same vertices where each has the same one before it
pub chain_same : (marks other : List (Option Mark)) (k v : ℕ)
    → ((u : ℕ) → is_in (chain marks k v) u ≡ true → before_of other u ≡ before_of marks u) → chain other k v ≡ chain marks k v
chain_same marks other zero v same = refl
chain_same marks other (suc k) v same =
    ap (λ b. chain other k b ++ v ∷ []) (same v (is_in_pushed (chain marks k (before_of marks v)) v))
    ∙ ap (λ l. l ++ v ∷ [])
    (chain_same marks other k (before_of marks v)
    (λ u h.
    same u
    (is_in_push (chain marks k (before_of marks v)) v u ∙ or_left (is_in (chain marks k (before_of marks v)) u) (v == u) h)))

pub stack_same : (marks other : List (Option Mark)) (set vs : List ℕ)
    → ((u : ℕ) → is_in vs u ≡ true → under_of other u ≡ under_of marks u) → stack other set vs ≡ stack marks set vs
stack_same marks other set [] same = refl
stack_same marks other set (v ∷ vs) same =
    ap (λ x. record { value = x; vertices = set } ∷ stack other (set ++ v ∷ []) vs) (same v (or_left (v == v) (is_in vs v) (eq-eqb v v refl)))
    ∙ ap (λ l. record { value = under_of marks v; vertices = set } ∷ l)
    (stack_same marks other (set ++ v ∷ []) vs (λ u h. same u (or_right (v == u) (is_in vs u) h)))

-- a vertex more begins a layer more
pub stack_push : (marks : List (Option Mark)) (set vs : List ℕ) (v : ℕ)
    → stack marks set (vs ++ v ∷ []) ≡ stack marks set vs ++ record { value = under_of marks v; vertices = set ++ vs } ∷ []
stack_push marks set [] v = ap (λ s. record { value = under_of marks v; vertices = s } ∷ []) (sym (append-nil set))
stack_push marks set (w ∷ ws) v =
    ap (λ l. record { value = under_of marks w; vertices = set } ∷ l)
    (stack_push marks (set ++ w ∷ []) ws v
    ∙ ap (λ s. stack marks (set ++ w ∷ []) ws ++ record { value = under_of marks v; vertices = s } ∷ []) (append_assoc set (w ∷ []) ws))

pub length-chain : (marks : List (Option Mark)) (k v : ℕ) → length (chain marks k v) ≡ k
length-chain marks zero v = refl
length-chain marks (suc k) v = omega (arith, length-append (chain marks k (before_of marks v)) (v ∷ []), length-chain marks k (before_of marks v))

pub length-stack : (marks : List (Option Mark)) (set vs : List ℕ) → length (stack marks set vs) ≡ length vs
length-stack marks set [] = refl
length-stack marks set (v ∷ vs) = omega (arith, length-stack marks (set ++ v ∷ []) vs)
