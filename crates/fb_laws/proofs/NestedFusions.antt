-- The whole states of two parts as one.
use Rattle.std.proofs.Common.{ℕ, ◌≡◌, ◌%◌, ◌⊎◌, inl, inr, Bool, true, false, List, [], ◌∷◌, ◌++◌, map, All, Some, reverse, sym, ap, ◌∙◌, subst}
use Rattle.std.proofs.lemmas.Bool.{both_ways, false_from_ne_true, or_cases}
use Rattle.std.proofs.lemmas.List.{append_assoc}
use Rattle.std.proofs.lemmas.List.Elements.{All-nil, All-cons, All-head, All-tail, All-map, All-weaker}
use Rattle.fb_graph.specs.Parity.{is_in}
use Rattle.fb_graph.specs.Problem.{Problem}
use Rattle.fb_graph.specs.Laws.{Link}
use Rattle.fb_graph.specs.Dual.{Node, all_cuts, cover_of, height_of, is_live, is_outer, leaves, no_node, node_at}
use Rattle.fb_graph.proofs.Members.{is_in-append}
use Rattle.fb_graph.proofs.Sets.{is_in-All}
use Rattle.fb_graph.specs.Covers.{HaveParity}
use Rattle.fb_graph.specs.Links.{AreEven, IsTightLink}
use Rattle.fb_laws.specs.Merging.{Freed, freed_links, freed_names}
use Rattle.fb_laws.specs.NestFusion.{NestedMerged, NestedSeam}
use Rattle.fb_laws.specs.Paths.{LeadsOut}
use Rattle.fb_graph.specs.Singles.{nodes_of}
use Rattle.fb_laws.specs.UnmatchedNames.{AreOuterNames}
use Rattle.fb_laws.specs.Works.{IsMatching, IsSetOf}
use Rattle.fb_laws.specs.Opening.{EndsAtDefects}
use Rattle.fb_graph.proofs.Among.{among_live, cover_among}
use Rattle.fb_graph.proofs.Crossings.{cover_found}
use Rattle.fb_graph.proofs.MergedNests.{beside_of_parts, beside_of_singles, only_singles, only_singles_nest, walks_beside}
use Rattle.fb_laws.proofs.FusedParts.{seam_parity}
use Rattle.fb_laws.proofs.MergedParts.{matchings_merged, odd_in, real_held}
use Rattle.fb_graph.proofs.NestParts.{names_live}
use Rattle.fb_graph.proofs.NestUnions.{nests_beside, parity_beside}
use Rattle.fb_laws.proofs.PotentialParities.{parities_joined}
use Rattle.fb_laws.proofs.SeamStates.{seam_opened}
use Rattle.fb_graph.proofs.SourceWalks.{walks_begin}
use Rattle.fb_graph.proofs.SingleStates.{cuts_are, names_are, no_sum}
use Rattle.fb_graph.proofs.TightLinks.{turned_tight}
use Rattle.fb_laws.proofs.UnmatchedNames.{outer_beside, outer_singles_added}
use Rattle.fb_graph.proofs.Nodes.{All-left}

-- a node that covers a vertex is there
pub cover_live : (nodes : List Node) (v name : ℕ) → cover_of nodes v ≡ Some name → is_live nodes name ≡ true
cover_live nodes v name cover =
    let over = cover_among nodes v name cover in
    among_live nodes over.node name over.among over.named

-- names that no node has don't count
parity_absent : (nodes : List Node) (names : List ℕ) (r : ℕ)
    → ((n : ℕ) → is_in names n ≡ true → is_live nodes n ≡ false)
    → HaveParity (is_in names) nodes r
parity_absent nodes names r away d name leaf cover among =
    absurd (both_ways (is_live nodes name) (away name among) (cover_live nodes d name cover))

parity_both : (nodes : List Node) (names more : List ℕ) (r : ℕ) → HaveParity (is_in names) nodes r
    → HaveParity (is_in more) nodes r → HaveParity (is_in (names ++ more)) nodes r
parity_both nodes names more r one other d name leaf cover among =
    parities_joined (is_in names) (is_in more) nodes r one other d name leaf cover
    (sym (is_in-append names more name) ∙ among)

pub nested_merged : NestedMerged
nested_merged left right whole nodes others links more free open_ limits parts covered names first second one two =
    let beside = beside_of_parts left right whole nodes others parts names one.nest two.nest in
    let nest = nests_beside left right whole nodes others limits beside one.nest two.nest in
    record {
      nest = nest;
      work = record {
        matching =
            matchings_merged left right whole nodes others links more free open_
            parts covered nest.dual first second
            one.work.matching two.work.matching;
        even =
            parity_beside left right whole nodes others beside one.nest two.nest (is_in (free ++ open_)) 0
            (parity_both nodes free open_ 0 one.work.even (parity_absent nodes open_ 0 first))
            (parity_both others free open_ 0 (parity_absent others free 0 second) two.work.even);
      };
      walks = walks_beside left right whole nodes others beside one.nest two.nest one.walks two.walks;
      outer =
          outer_beside nodes others free open_ one.nest.forest two.nest.forest first second one.outer two.outer;
    }

module _ (p : Problem) (nodes : List Node) (seam : ℕ → Bool) (links : List Link) (unmatched : List ℕ)
    (even : AreEven p)
    (unreal : (v : ℕ) → seam v ≡ true → p.is_real v ≡ false) (work : IsMatching p nodes links unmatched) where
  abbrev IsFreed : Freed → Type 0
  IsFreed f = IsSetOf nodes f.name f.set × LeadsOut f.link f.set f.seam × (seam f.seam ≡ true)

  -- all defects under the node have even potentials
  abbrev IsEvenAt : Freed → Type 0
  IsEvenAt f = (d : ℕ) → is_in (leaves nodes) d ≡ true → cover_of nodes d ≡ Some f.name
      → height_of (all_cuts nodes) d % 2 ≡ 0

  one_even : (f : Freed) → IsTightLink p (all_cuts nodes) f.link → EndsAtDefects p (leaves nodes) f.link → IsFreed f → IsEvenAt f
  one_even f tight at ((i, less, outer, named, same), leads, at_seam) d leaf cover = step leads
    where
      -- by the defect at which the link ends
      by : (e : ℕ) → is_in f.set e ≡ true → (p.is_real e ≡ true → is_in (leaves nodes) e ≡ true)
          → height_of (all_cuts nodes) e % 2 ≡ 0 → height_of (all_cuts nodes) d % 2 ≡ 0
      by e within at_end even_end =
          let holds : is_in (node_at nodes i).top.vertices e ≡ true = ap (λ s. is_in s e) same ∙ within in
          let covered : cover_of nodes e ≡ Some f.name =
          cover_found nodes e work.dual.apart i no_node less (ap (is_outer nodes) named ∙ outer) holds
          ∙ ap Some named in
          work.one_parity d e f.name leaf (at_end (real_held p nodes i e work.dual less holds)) cover covered
          ∙ even_end

      step : LeadsOut f.link f.set f.seam → height_of (all_cuts nodes) d % 2 ≡ 0
      step (inl (within, to)) =
          by f.link.from within at.0
          (seam_parity p (all_cuts nodes) f.link even (odd_in p nodes work.dual work.defects) tight
          (ap p.is_real to ∙ unreal f.seam at_seam))
      step (inr (within, from)) =
          by f.link.to within at.1
          (seam_parity p (all_cuts nodes)
          (record { from = f.link.to; to = f.link.from; walk = reverse f.link.walk }) even
          (odd_in p nodes work.dual work.defects) (turned_tight p (all_cuts nodes) f.link tight)
          (ap p.is_real from ∙ unreal f.seam at_seam))

  each_even : (freed : List Freed) → All (IsTightLink p (all_cuts nodes)) (freed_links freed)
      → All (EndsAtDefects p (leaves nodes)) (freed_links freed)
      → All IsFreed freed → All IsEvenAt freed
  each_even [] tight at are = All-nil IsEvenAt
  each_even (f ∷ fs) tight at are =
      All-cons IsEvenAt f fs
      (one_even f (All-head (IsTightLink p (all_cuts nodes)) f.link (freed_links fs) tight)
      (All-head (EndsAtDefects p (leaves nodes)) f.link (freed_links fs) at)
      (All-head IsFreed f fs are))
      (each_even fs (All-tail (IsTightLink p (all_cuts nodes)) f.link (freed_links fs) tight)
      (All-tail (EndsAtDefects p (leaves nodes)) f.link (freed_links fs) at) (All-tail IsFreed f fs are))

  freed_parity : (freed : List Freed) → All (IsTightLink p (all_cuts nodes)) (freed_links freed)
      → All (EndsAtDefects p (leaves nodes)) (freed_links freed)
      → All IsFreed freed → HaveParity (is_in (freed_names freed)) nodes 0
  freed_parity freed tight at are d name leaf cover among =
      is_in-All (λ n. cover_of nodes d ≡ Some n → height_of (all_cuts nodes) d % 2 ≡ 0) (freed_names freed)
      (All-map (λ n. cover_of nodes d ≡ Some n → height_of (all_cuts nodes) d % 2 ≡ 0) (λ f. f.name) freed
      (All-weaker IsEvenAt (λ f. cover_of nodes d ≡ Some f.name → height_of (all_cuts nodes) d % 2 ≡ 0)
      (λ f h. h d leaf) freed
      (each_even freed tight at are)))
      name among cover

pub nested_seam : NestedSeam
nested_seam p whole nodes freed links singles seam unmatched even limits is distinct vertices real names state =
    let unreal : All (λ s. p.is_real s.vertex ≡ false) singles =
    All-weaker (λ s. seam s.vertex ≡ true) (λ s. p.is_real s.vertex ≡ false)
    (λ s at. is.unreal s.vertex at) singles is.at_seam in
    let beside = beside_of_singles p whole nodes singles is.part real unreal is.bare names state.nest in
    let two = only_singles_nest whole singles distinct vertices is.bare in
    let nest = nests_beside p (only_singles whole singles) whole nodes (nodes_of singles) limits beside state.nest two in
    record {
      nest = nest;
      work = record {
        matching = seam_opened p whole nodes freed links singles seam unmatched is nest.dual state.work.matching;
        even =
            parity_beside p (only_singles whole singles) whole nodes (nodes_of singles) beside state.nest two
            (is_in (unmatched ++ (freed_names freed ++ map (λ s. s.name) singles))) 0
            (parity_both nodes unmatched (freed_names freed ++ map (λ s. s.name) singles) 0 state.work.even
            (parity_both nodes (freed_names freed) (map (λ s. s.name) singles) 0 freed_even
            (parity_absent nodes (map (λ s. s.name) singles) 0 away)))
            (λ d name leaf cover among. ap (λ h. h % 2) (low d));
      };
      walks =
          walks_beside p (only_singles whole singles) whole nodes (nodes_of singles) beside state.nest two state.walks
          (walks_begin (only_singles whole singles) singles);
      outer =
          subst (AreOuterNames (nodes ++ nodes_of singles))
          (append_assoc unmatched (freed_names freed) (map (λ s. s.name) singles))
          (outer_singles_added nodes singles (unmatched ++ freed_names freed) state.nest.forest away outer_old);
    }
  where
    -- a freed node's set is that of an outer node
    outer_freed : (n : ℕ) → is_in (freed_names freed) n ≡ true → is_outer nodes n ≡ true
    outer_freed =
        is_in-All (λ n. is_outer nodes n ≡ true) (freed_names freed)
        (All-map (λ n. is_outer nodes n ≡ true) (λ f. f.name) freed
        (All-weaker (λ f. IsSetOf nodes f.name f.set × LeadsOut f.link f.set f.seam × (seam f.seam ≡ true))
        (λ f. is_outer nodes f.name ≡ true) (λ f ((i, less, outer, named, same), leads, at). outer) freed
        is.freed_are))

    outer_old : AreOuterNames nodes (unmatched ++ freed_names freed)
    outer_old n within =
        step
        (or_cases (is_in unmatched n) (is_in (freed_names freed) n)
        (sym (is_in-append unmatched (freed_names freed) n) ∙ within))
      where
        step : (is_in unmatched n ≡ true) ⊎ (is_in (freed_names freed) n ≡ true) → is_outer nodes n ≡ true
        step (inl h) = state.outer n h
        step (inr h) = outer_freed n h

    freed_even : HaveParity (is_in (freed_names freed)) nodes 0
    freed_even =
        freed_parity p nodes seam (freed_links freed ++ links) unmatched even is.unreal state.work.matching freed
        (All-left (IsTightLink p (all_cuts nodes)) (freed_links freed) links state.work.matching.links_are.tight)
        (All-left
        (EndsAtDefects p (leaves nodes))
        (freed_links freed) links state.work.matching.links_are.at_defects)
        is.freed_are

    away : (n : ℕ) → is_in (map (λ s. s.name) singles) n ≡ true → is_live nodes n ≡ false
    away n among =
        false_from_ne_true (is_live nodes n)
        (λ live.
        both_ways (is_live (nodes_of singles) n) (names n live)
        (sym (names_live (nodes_of singles) n) ∙ (ap (λ l. is_in l n) (names_are singles) ∙ among)))

    low : (d : ℕ) → height_of (all_cuts (nodes_of singles)) d ≡ 0
    low d = ap (λ cuts. height_of cuts d) (cuts_are singles) ∙ no_sum (λ s. is_in s d) singles is.bare
