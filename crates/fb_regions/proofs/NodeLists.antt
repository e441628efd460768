-- The list of a node's vertices, passed over from its last one to its first.
use Rattle.std.proofs.Common.{ℕ, zero, suc, ◌≡◌, ◌+◌, ◌==◌, ◌⊎◌, inl, inr, true, List, [], ◌∷◌, ◌++◌, get_or, reverse, Option, Some, None, refl, sym, ap, ◌∙◌, subst, append_assoc, append-nil}
use Rattle.std.specs.List.{last_or, position}
use Rattle.std.proofs.lemmas.List.{same_from_push}
use Rattle.fb_graph.specs.Certificate.{AreDistinct}
use Rattle.fb_graph.specs.Dual.{top_at}
use Rattle.fb_graph.specs.Parity.{is_in}
use Rattle.fb_graph.specs.Problem.{Problem}
use Rattle.fb_graph.proofs.Among.{All_among, map_among}
use Rattle.fb_graph.proofs.NestParts.{top_is_odd}
use Rattle.fb_regions.specs.declared.marks.Mark.{Mark}
use Rattle.fb_regions.specs.declared.region.Region.{Region}
use Rattle.fb_regions.specs.InternalKept.{IsKept}
use Rattle.fb_regions.specs.InternalListings.{IsListed}
use Rattle.fb_regions.specs.InternalNodes.{added_to, before_of, chain, first_of, node_of, nodes_of}
use Rattle.fb_regions.specs.Listed.{back_from, listed_before}
use Rattle.fb_regions.specs.Moves.{BeginsWith}
use Rattle.fb_regions.proofs.Found.{IsFound, found}
use Rattle.fb_regions.proofs.Listed.{Ends, back_over, before_here, ended, last_push, not_empty, parted}
use Rattle.fb_regions.proofs.Listings.{begins_left}

-- a chain ends with the vertex from which it goes back
pub chain_ends : (marks : List (Option Mark)) (n v u : ℕ) → BeginsWith u (chain marks n v) → last_or None (chain marks n v) ≡ Some v
chain_ends marks zero v u begins = absurd begins
chain_ends marks (suc n) v u begins = last_push None (chain marks n (before_of marks v)) v

-- two that follow one another in a chain
chain_follows : (marks : List (Option Mark)) (n l : ℕ) (xs ys : List ℕ) (u v : ℕ) → chain marks n l ≡ (xs ++ u ∷ []) ++ v ∷ ys
    → before_of marks v ≡ u
chain_follows marks zero l xs ys u v is = absurd (not_empty (xs ++ u ∷ []) ys v is)
chain_follows marks (suc n) l xs ys u v is =
    by (ended ys) (λ zs. chain_follows marks n (before_of marks l) xs zs u v)
  where
    last_is : (k : ℕ) → chain marks k (before_of marks l) ≡ xs ++ u ∷ [] → before_of marks l ≡ u
    last_is zero e = absurd (not_empty xs [] u e)
    last_is (suc k) e = (same_from_push (chain marks k (before_of marks (before_of marks l))) xs (before_of marks l) u e).1

    by : (ys ≡ []) ⊎ Ends ys
        → ((zs : List ℕ) → chain marks n (before_of marks l) ≡ (xs ++ u ∷ []) ++ v ∷ zs → before_of marks v ≡ u) → before_of marks v ≡ u
    by (inl none) rest =
        let same =
        same_from_push (chain marks n (before_of marks l)) (xs ++ u ∷ []) l v (is ∙ ap (λ t. (xs ++ u ∷ []) ++ v ∷ t) none) in
        ap (before_of marks) (sym same.1) ∙ last_is n same.0
    by (inr e) rest =
        rest e.front
        (same_from_push (chain marks n (before_of marks l)) ((xs ++ u ∷ []) ++ v ∷ e.front) l e.last
        (is ∙ (ap (λ t. (xs ++ u ∷ []) ++ v ∷ t) e.is ∙ sym (append_assoc (xs ++ u ∷ []) (v ∷ e.front) (e.last ∷ []))))).0

-- nothing is listed before the first
before_first : (first : ℕ) (vs : List ℕ) → BeginsWith first vs → last_or None (listed_before vs first) ≡ None
before_first first [] begins = absurd begins
before_first first (u ∷ us) begins = ap (λ w. last_or None (listed_before (w ∷ us) first)) begins ∙ ap (last_or None) (before_here [] us first refl)

-- before each later vertex of a chain the one that its mark tells
before_later : (marks : List (Option Mark)) (n l first v : ℕ) (vs : List ℕ) → chain marks n l ≡ vs → BeginsWith first vs → is_in vs v ≡ true
    → ¬ (v ≡ first) → last_or None (listed_before vs v) ≡ Some (before_of marks v)
before_later marks n l first v vs is begins held later = by (listed_before vs v) (ended (listed_before vs v)) (parted vs v held)
  where
    by : (xs : List ℕ) → (xs ≡ []) ⊎ Ends xs → (ys : List ℕ) × (vs ≡ xs ++ v ∷ ys) → last_or None xs ≡ Some (before_of marks v)
    by xs (inl none) (ys, whole) =
        absurd (later (subst (BeginsWith first) (whole ∙ ap (λ t. t ++ v ∷ ys) none) begins))
    by xs (inr e) (ys, whole) =
        ap (last_or None) e.is
        ∙ (last_push None e.front e.last
        ∙ ap Some (sym (chain_follows marks n l e.front ys e.last v (is ∙ (whole ∙ ap (λ t. t ++ v ∷ ys) e.is)))))

-- the node found at a place
module _ (p : Problem) (regions : List Region) (marks : List (Option Mark)) (kept : IsKept p regions marks) (name i : ℕ) (r : Region)
    (at : position (λ x. x.name == name) regions ≡ Some i) (is : r ≡ get_or regions i r) where
  abbrev vertices : List ℕ
  vertices = top_at (nodes_of marks regions) name

  there : IsFound marks regions name i r
  there = found marks regions name i r at is

  listed : IsListed marks r
  listed = All_among (IsListed marks) regions kept.listed r there.among

  whole : chain marks (r.base + r.added) r.last ≡ vertices
  whole = listed.whole ∙ there.top

  begins : BeginsWith r.first vertices
  begins = subst (BeginsWith r.first) there.top (begins_left r.first (first_of marks r) (added_to marks r) listed.first)

  distinct : AreDistinct vertices
  distinct =
      subst AreDistinct there.top
      (top_is_odd p (nodes_of marks regions) kept.nest (node_of marks r) (map_among (node_of marks) regions r there.among)).distinct

  pub list_ends : last_or None vertices ≡ Some r.last
  list_ends =
      ap (last_or None) (sym whole)
      ∙ chain_ends marks (r.base + r.added) r.last r.first (subst (BeginsWith r.first) (sym whole) begins)

  pub list_back : back_from vertices (Some r.last) ≡ reverse vertices
  list_back =
      ap (back_from vertices) (sym list_ends) ∙ back_over vertices vertices [] distinct (sym (append-nil vertices))

  -- what is listed before one of its vertices, and what a way back from it gives
  module _ (v : ℕ) (held : is_in vertices v ≡ true) where
    abbrev Follows : Option ℕ → Type 0
    Follows o =
        (o ≡ last_or None (listed_before vertices v)) × (back_from vertices (Some v) ≡ v ∷ back_from vertices o)

    follows : (o : Option ℕ) → o ≡ last_or None (listed_before vertices v) → Follows o
    follows o before =
        let parts = parted vertices v held in (
          before,
          ap (λ l. v ∷ l)
              (sym (back_over vertices (listed_before vertices v) (v ∷ parts.0) distinct parts.1) ∙ ap (back_from vertices) (sym before)),
        )

    pub none_follows : v ≡ r.first → Follows None
    none_follows e =
        follows None (sym (ap (λ u. last_or None (listed_before vertices u)) e ∙ before_first r.first vertices begins))

    pub some_follows : (u : ℕ) → u ≡ before_of marks v → ¬ (v ≡ r.first) → Follows (Some u)
    some_follows u before later =
        follows (Some u)
        (ap Some before ∙ sym (before_later marks (r.base + r.added) r.last r.first v vertices whole begins held later))
