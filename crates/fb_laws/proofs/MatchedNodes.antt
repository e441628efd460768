-- What augmenting makes of the nodes of a part.
use Rattle.std.proofs.Common.{ℕ, ◌≡◌, ◌+◌, ◌<◌, ◌==◌, ◌&&◌, ◌⊎◌, inl, inr, not, Bool, true, false, List, [], ◌∷◌, ◌++◌, length, All, get_or, refl, sym, ap, ◌∙◌, subst, arith}
use Rattle.std.proofs.lemmas.Bool.{false≢true, cases_eq, eqb-true, eq-eqb, ne_eqb, cases_order}
use Rattle.std.proofs.lemmas.List.Elements.{All-cons, All-append, All-from_get_or}
use Rattle.fb_graph.specs.Parity.{is_in}
use Rattle.fb_graph.specs.Problem.{Problem, with_defects}
use Rattle.fb_graph.specs.Certificate.{IsOddCut}
use Rattle.fb_graph.specs.Laws.{Link}
use Rattle.fb_graph.specs.Dual.{Node, IsDual, all_cuts, leaves, is_outer, node_at, no_node, AreApart}
use Rattle.fb_graph.proofs.ClosedSets.{not_held}
use Rattle.fb_graph.proofs.Nodes.{All-cuts-at, All-top, All-below, All-right}
use Rattle.fb_graph.proofs.Sets.{member_of_odd, is_in-filter}
use Rattle.fb_graph.specs.Counts.{as_count}
use Rattle.fb_graph.specs.Ends.{ends_in}
use Rattle.fb_laws.specs.Paths.{Branch, IsPath, LeadsOut, tip_of, tree_links, matched_links, holds, IsWhole, AreWholeOnPath}
use Rattle.fb_graph.specs.Links.{IsTightLink}
use Rattle.fb_laws.specs.Fusion.{IsLinkOf}
use Rattle.fb_laws.specs.Works.{AreMatchedLinks, IsSetOf, IsBranchOf, names_without, MatchingReleased, MatchingAugmented, MatchingMet}
use Rattle.fb_laws.specs.Opening.{EndsAtDefects}
use Rattle.fb_laws.proofs.BlossomSums.{whole_apart, whole_itself, holds_apart, holds_itself}
use Rattle.fb_graph.proofs.Crossings.{one_of_name}
use Rattle.fb_graph.proofs.EndSums.{apart_sym, ends_append, ends-cons}
use Rattle.fb_laws.proofs.PathSums.{augmented, ends_out}

-- an outer node's set is that of the name, or is apart from it
pub set_relation : (p : Problem) (nodes : List Node) (name : ℕ) (set : List ℕ) (i : ℕ) → IsDual p nodes → i < length nodes
    → is_outer nodes (node_at nodes i).name ≡ true → IsSetOf nodes name set
    → ((node_at nodes i).name ≡ name) × ((node_at nodes i).top.vertices ≡ set)
    ⊎ ((node_at nodes i).name ≡ name → ⊥) × AreApart (node_at nodes i).top.vertices set
set_relation p nodes name set i dual less outer (j, below, is, named, same) = step (cases_eq (node_at nodes i).name name)
  where
    outer_j : is_outer nodes (node_at nodes j).name ≡ true
    outer_j = ap (is_outer nodes) named ∙ is

    apart : (i ≡ j) ⊎ ((i < j) ⊎ (j < i)) → ((node_at nodes i).name ≡ name → ⊥) → AreApart (node_at nodes i).top.vertices set
    apart (inl e) other = absurd (other (ap (λ k. (node_at nodes k).name) e ∙ named))
    apart (inr (inl before)) other =
        subst (AreApart (node_at nodes i).top.vertices) same (dual.apart i j no_node before below outer outer_j)
    apart (inr (inr after)) other =
        subst (AreApart (node_at nodes i).top.vertices) same
        (apart_sym (node_at nodes j).top.vertices (node_at nodes i).top.vertices (dual.apart j i no_node after less outer_j outer))

    step : ((node_at nodes i).name ≡ name) ⊎ ((node_at nodes i).name ≡ name → ⊥)
        → ((node_at nodes i).name ≡ name) × ((node_at nodes i).top.vertices ≡ set)
        ⊎ ((node_at nodes i).name ≡ name → ⊥) × AreApart (node_at nodes i).top.vertices set
    step (inl e) =
        inl (e, ap (λ n. n.top.vertices) (one_of_name nodes dual.names i j less below (e ∙ sym named)) ∙ same)
    step (inr other) = inr (other, apart (cases_order i j) other)

pub set_whole : (p : Problem) (nodes : List Node) (name : ℕ) (set : List ℕ) (i : ℕ) → IsDual p nodes → i < length nodes
    → is_outer nodes (node_at nodes i).name ≡ true → IsSetOf nodes name set → IsWhole (node_at nodes i).top.vertices set
set_whole p nodes name set i dual less outer is = step (set_relation p nodes name set i dual less outer is)
  where
    step : ((node_at nodes i).name ≡ name) × ((node_at nodes i).top.vertices ≡ set)
        ⊎ ((node_at nodes i).name ≡ name → ⊥) × AreApart (node_at nodes i).top.vertices set
        → IsWhole (node_at nodes i).top.vertices set
    step (inl (e, same)) = subst (IsWhole (node_at nodes i).top.vertices) same (whole_itself (node_at nodes i).top.vertices)
    step (inr (other, apart)) = whole_apart (node_at nodes i).top.vertices set apart

pub odd_top : (p : Problem) (nodes : List Node) (i : ℕ) → IsDual p nodes → i < length nodes
    → IsOddCut (with_defects p (leaves nodes)) (node_at nodes i).top
odd_top p nodes i dual less =
    All-top (IsOddCut (with_defects p (leaves nodes))) (node_at nodes i).below (node_at nodes i).top
    (All-cuts-at (IsOddCut (with_defects p (leaves nodes))) nodes i less dual.packing.odd)

-- it holds the set where it has the name
pub set_held : (p : Problem) (nodes : List Node) (name : ℕ) (set : List ℕ) (i : ℕ) → IsDual p nodes → i < length nodes
    → is_outer nodes (node_at nodes i).name ≡ true → IsSetOf nodes name set
    → holds (node_at nodes i).top.vertices set ≡ ((node_at nodes i).name == name)
set_held p nodes name set i dual less outer is = step (set_relation p nodes name set i dual less outer is)
  where
    member : (v : ℕ) × (is_in (node_at nodes i).top.vertices v ≡ true) × (is_in (leaves nodes) v ≡ true)
    member = member_of_odd (is_in (leaves nodes)) (node_at nodes i).top.vertices (odd_top p nodes i dual less).odd

    step : ((node_at nodes i).name ≡ name) × ((node_at nodes i).top.vertices ≡ set)
        ⊎ ((node_at nodes i).name ≡ name → ⊥) × AreApart (node_at nodes i).top.vertices set
        → holds (node_at nodes i).top.vertices set ≡ ((node_at nodes i).name == name)
    step (inl (e, same)) =
        ap (holds (node_at nodes i).top.vertices) (sym same)
        ∙ (holds_itself (node_at nodes i).top.vertices member.0 member.1 ∙ sym (eq-eqb (node_at nodes i).name name e))
    step (inr (other, apart)) =
        holds_apart (node_at nodes i).top.vertices set apart ∙ sym (ne_eqb (node_at nodes i).name name other)

-- a vertex of the set likewise
vertex_held : (p : Problem) (nodes : List Node) (name : ℕ) (set : List ℕ) (v i : ℕ) → IsDual p nodes → i < length nodes
    → is_outer nodes (node_at nodes i).name ≡ true → IsSetOf nodes name set → is_in set v ≡ true
    → is_in (node_at nodes i).top.vertices v ≡ ((node_at nodes i).name == name)
vertex_held p nodes name set v i dual less outer is within = step (set_relation p nodes name set i dual less outer is)
  where
    step : ((node_at nodes i).name ≡ name) × ((node_at nodes i).top.vertices ≡ set)
        ⊎ ((node_at nodes i).name ≡ name → ⊥) × AreApart (node_at nodes i).top.vertices set
        → is_in (node_at nodes i).top.vertices v ≡ ((node_at nodes i).name == name)
    step (inl (e, same)) = ap (λ s. is_in s v) same ∙ (within ∙ sym (eq-eqb (node_at nodes i).name name e))
    step (inr (other, apart)) =
        apart_sym (node_at nodes i).top.vertices set apart v within ∙ sym (ne_eqb (node_at nodes i).name name other)

-- the tree's links and the one that leads out in the place of the matched ones
all_swapped : (P : Link → Type 0) (tree matched rest : List Link) (out : Link) → All P (tree ++ out ∷ []) → All P (matched ++ rest)
    → All P (tree ++ out ∷ rest)
all_swapped P tree matched rest out new old =
    All-append P tree (out ∷ rest) (All-below P tree out new)
    (All-cons P out rest (All-top P tree out new) (All-right P matched rest old))

links_swapped : (p : Problem) (nodes : List Node) (tree matched rest : List Link) (out : Link)
    → AreMatchedLinks p nodes (tree ++ out ∷ []) → AreMatchedLinks p nodes (matched ++ rest)
    → AreMatchedLinks p nodes (tree ++ out ∷ rest)
links_swapped p nodes tree matched rest out new old = record {
  tight = all_swapped (IsTightLink p (all_cuts nodes)) tree matched rest out new.tight old.tight;
  own = all_swapped (IsLinkOf p) tree matched rest out new.own old.own;
  at_defects =
      all_swapped
      (EndsAtDefects p (leaves nodes))
      tree matched rest out new.at_defects old.at_defects;
}

-- the ends in an outer node's set after augmenting
ends_augmented : (p : Problem) (nodes : List Node) (name : ℕ) (root : List ℕ) (path : List Branch) (out : Link) (v : ℕ)
    (rest : List Link) (i : ℕ) → IsDual p nodes → IsSetOf nodes name root → All (IsBranchOf nodes) path → IsPath root path
    → LeadsOut out (tip_of root path) v → i < length nodes → is_outer nodes (node_at nodes i).name ≡ true
    → ends_in (node_at nodes i).top.vertices (tree_links path ++ out ∷ rest)
    ≡ ends_in (node_at nodes i).top.vertices (matched_links path ++ rest) + as_count ((node_at nodes i).name == name)
    + as_count (is_in (node_at nodes i).top.vertices v)
ends_augmented p nodes name root path out v rest i dual is branches on leads less outer =
    omega (
      arith,
      augmented (node_at nodes i).top.vertices root path out v rest on whole leads,
      ap as_count (set_held p nodes name root i dual less outer is),
    )
  where
    whole : AreWholeOnPath (node_at nodes i).top.vertices root path
    whole = (
      set_whole p nodes name root i dual less outer is,
      λ j d below.
          let (minus, plus, minus_is, plus_is) = branches j d below in (
            set_whole p nodes minus (get_or path j d).minus i dual less outer minus_is,
            set_whole p nodes plus (get_or path j d).plus i dual less outer plus_is,
          ),
    )

removed : (u here : Bool) (old new : ℕ) → (here ≡ true → u ≡ true) → old + as_count u ≡ 1 → new ≡ old + as_count here + 0
    → new + as_count (u && not here) ≡ 1
removed true true old new h one e = omega arith
removed true false old new h one e = omega arith
removed false true old new h one e = absurd (false≢true (h refl))
removed false false old new h one e = omega arith

removed_two : (u here there : Bool) (old new : ℕ) → (here ≡ true → u ≡ true) → (there ≡ true → u ≡ true)
    → (here ≡ true → there ≡ true → ⊥) → old + as_count u ≡ 1 → new ≡ old + as_count here + as_count there
    → new + as_count ((u && not there) && not here) ≡ 1
removed_two u true true old new h k both one e = absurd (both refl refl)
removed_two true true false old new h k both one e = omega arith
removed_two true false true old new h k both one e = omega arith
removed_two true false false old new h k both one e = omega arith
removed_two false true false old new h k both one e = absurd (false≢true (h refl))
removed_two false false true old new h k both one e = absurd (false≢true (k refl))
removed_two false false false old new h k both one e = omega arith

named_among : (unmatched : List ℕ) (n name : ℕ) → is_in unmatched name ≡ true → (n == name) ≡ true → is_in unmatched n ≡ true
named_among unmatched n name among here = ap (is_in unmatched) (eqb-true n name here) ∙ among

pub matching_augmented : MatchingAugmented
matching_augmented p nodes name root path out v rest unmatched work is among branches on links leads boundary = record {
  dual = work.dual;
  defects = work.defects;
  links_are = links_swapped p nodes (tree_links path) (matched_links path) rest out links work.links_are;
  matched =
      All-from_get_or
      (λ n. is_outer nodes n.name ≡ true
      → ends_in n.top.vertices (tree_links path ++ out ∷ rest) + as_count (is_in (names_without name unmatched) n.name) ≡ 1)
      nodes no_node
      (λ i less outer.
      ap (λ b. ends_in (node_at nodes i).top.vertices (tree_links path ++ out ∷ rest) + as_count b)
      (is_in-filter (λ n. not (n == name)) unmatched (node_at nodes i).name)
      ∙ removed (is_in unmatched (node_at nodes i).name) ((node_at nodes i).name == name)
      (ends_in (node_at nodes i).top.vertices (matched_links path ++ rest))
      (ends_in (node_at nodes i).top.vertices (tree_links path ++ out ∷ rest))
      (named_among unmatched (node_at nodes i).name name among) (work.matched i no_node less outer)
      (omega (
        arith,
        ends_augmented p nodes name root path out v rest i work.dual is branches on leads less outer,
        ap as_count (not_held p (node_at nodes i).top.vertices v (odd_top p nodes i work.dual less).real boundary),
      )));
  one_parity = work.one_parity;
}

pub matching_met : MatchingMet
matching_met p nodes name other root set path out v rest unmatched work is among that met differ_ branches on links leads within = record {
  dual = work.dual;
  defects = work.defects;
  links_are = links_swapped p nodes (tree_links path) (matched_links path) rest out links work.links_are;
  matched =
      All-from_get_or
      (λ n. is_outer nodes n.name ≡ true
      → ends_in n.top.vertices (tree_links path ++ out ∷ rest) + as_count (is_in (names_without name (names_without other unmatched)) n.name) ≡ 1)
      nodes no_node
      (λ i less outer.
      ap (λ b. ends_in (node_at nodes i).top.vertices (tree_links path ++ out ∷ rest) + as_count b)
      (is_in-filter (λ n. not (n == name)) (names_without other unmatched) (node_at nodes i).name
      ∙ ap (λ b. b && not ((node_at nodes i).name == name)) (is_in-filter (λ n. not (n == other)) unmatched (node_at nodes i).name))
      ∙ removed_two (is_in unmatched (node_at nodes i).name) ((node_at nodes i).name == name) ((node_at nodes i).name == other)
      (ends_in (node_at nodes i).top.vertices (matched_links path ++ rest))
      (ends_in (node_at nodes i).top.vertices (tree_links path ++ out ∷ rest))
      (named_among unmatched (node_at nodes i).name name among) (named_among unmatched (node_at nodes i).name other met)
      (λ here there.
      differ_ (sym (eqb-true (node_at nodes i).name name here) ∙ eqb-true (node_at nodes i).name other there))
      (work.matched i no_node less outer)
      (omega (
        arith,
        ends_augmented p nodes name root path out v rest i work.dual is branches on leads less outer,
        ap as_count (vertex_held p nodes other set v i work.dual less outer that within),
      )));
  one_parity = work.one_parity;
}

released : (u here there : Bool) (old new : ℕ) → (here ≡ true → u ≡ true) → old + as_count there + as_count u ≡ 1
    → new ≡ old + as_count here + as_count there → new + as_count (u && not here) ≡ 1
released true true there old new h one e = omega arith
released true false there old new h one e = omega arith
released false true there old new h one e = absurd (false≢true (h refl))
released false false there old new h one e = omega arith

pub matching_released : MatchingReleased
matching_released p nodes name other root set path out old v b rest unmatched work is among that branches on links leads within away boundary = record {
  dual = work.dual;
  defects = work.defects;
  links_are = links_swapped p nodes (tree_links path) [] rest out links (record {
    tight = All-right (IsTightLink p (all_cuts nodes)) (old ∷ []) rest (All-right (IsTightLink p (all_cuts nodes)) (matched_links path) (old ∷ rest) work.links_are.tight);
    own = All-right (IsLinkOf p) (old ∷ []) rest (All-right (IsLinkOf p) (matched_links path) (old ∷ rest) work.links_are.own);
    at_defects = All-right (EndsAtDefects p (leaves nodes)) (old ∷ []) rest (All-right (EndsAtDefects p (leaves nodes)) (matched_links path) (old ∷ rest) work.links_are.at_defects);
  });
  matched =
      All-from_get_or
      (λ n. is_outer nodes n.name ≡ true
      → ends_in n.top.vertices (tree_links path ++ out ∷ rest) + as_count (is_in (names_without name unmatched) n.name) ≡ 1)
      nodes no_node
      (λ i less outer.
      ap (λ x. ends_in (node_at nodes i).top.vertices (tree_links path ++ out ∷ rest) + as_count x)
      (is_in-filter (λ n. not (n == name)) unmatched (node_at nodes i).name)
      ∙ released (is_in unmatched (node_at nodes i).name) ((node_at nodes i).name == name) ((node_at nodes i).name == other)
      (ends_in (node_at nodes i).top.vertices (matched_links path ++ rest))
      (ends_in (node_at nodes i).top.vertices (tree_links path ++ out ∷ rest))
      (named_among unmatched (node_at nodes i).name name among)
      (omega (
        arith,
        work.matched i no_node less outer,
        ends_append (node_at nodes i).top.vertices (matched_links path) rest,
        ends_append (node_at nodes i).top.vertices (matched_links path) (old ∷ rest),
        ends-cons (node_at nodes i).top.vertices old rest,
        ends_out (node_at nodes i).top.vertices set old b away (set_whole p nodes other set i work.dual less outer that),
        ap as_count (set_held p nodes other set i work.dual less outer that),
        ap as_count (not_held p (node_at nodes i).top.vertices b (odd_top p nodes i work.dual less).real boundary),
      ))
      (omega (
        arith,
        ends_augmented p nodes name root path out v rest i work.dual is branches on leads less outer,
        ap as_count (vertex_held p nodes other set v i work.dual less outer that within),
      )));
  one_parity = work.one_parity;
}
