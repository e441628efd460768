-- A node for one more defect keeps a nest and its source walks.
use Rattle.std.proofs.Common.{ℕ, ◌≡◌, ◌%◌, ◌==◌, ◌||◌, ◌⊎◌, inl, inr, true, false, List, [], ◌∷◌, ◌++◌, map, All, None, Some, get_or, refl, sym, ap, ◌∙◌, subst, arith}
use Rattle.std.proofs.Math.Bool.{or-false}
use Rattle.std.specs.List.{concat}
use Rattle.std.specs.Option.{IsSome}
use Rattle.std.proofs.lemmas.Bool.{both_ways, false≢true, false_from_ne_true, or_from, or_left, eq-eqb, eqb-true, ne_eqb}
use Rattle.std.proofs.lemmas.List.{append-nil}
use Rattle.std.proofs.lemmas.List.Elements.{All-nil, All-cons, All-push, All-weaker}
use Rattle.fb_graph.specs.Parity.{differ, is_in}
use Rattle.fb_graph.specs.Problem.{Problem, edge_at, with_defects}
use Rattle.fb_graph.specs.Certificate.{AreDistinct, IsOddCut}
use Rattle.fb_graph.specs.Printed.{DifferAsSets}
use Rattle.fb_graph.specs.Dual.{Node, AreApart, AreGrown, AreOuterApart, IsNestedOrApart, all_cuts, layers_of, leaf, leaves, height_of, is_empty, is_live, is_outer, top_at, cover_of}
use Rattle.fb_graph.specs.declared.parts.Cut.{Cut}
use Rattle.fb_graph.proofs.Members.{AreDistinct_push, is_in_push, is_in_pushed, is_odd_count-agree}
use Rattle.fb_graph.proofs.Nodes.{All-pieces, All-top}
use Rattle.fb_graph.specs.Ends.{AreAllApart}
use Rattle.fb_graph.specs.Nests.{IsNest, IsForest, IsFormed, IsFilled, HasSources, child_sets}
use Rattle.fb_graph.specs.SourceWalks.{IsEdgeIn, HasWalks, HaveWalks}
use Rattle.fb_graph.specs.NewLeaves.{MayAddLeaf, NestLeafAdded, WalksLeafAdded}
use Rattle.fb_graph.proofs.Among.{IsAmong, All_among, among_All, among_either, top_left, apart_among, among_pairs, covered_by}
use Rattle.fb_graph.proofs.EndSums.{apart_sym}
use Rattle.fb_graph.proofs.Forests.{IsUnder, cuts_under, child_live, children_live}
use Rattle.fb_graph.proofs.InsertedCuts.{IsInserted, AreFit, inserted_All, inserted_fit, same_weigh}
use Rattle.fb_graph.proofs.JoinedNests.{joined_push}
use Rattle.fb_graph.proofs.AppendedNodes.{cuts_merged, leaves_merged, names_merged, outer_in, live_left}
use Rattle.fb_graph.proofs.NestParts.{grove_of, fit_of, nest_of, names_live, map_agree}

module _ (p : Problem) (nodes : List Node) (name v : ℕ) (may : MayAddLeaf p nodes name v) (nest : IsNest p nodes) where
  -- no set holds the vertex
  pub not_held : All (λ c. is_in c.vertices v ≡ false) (all_cuts nodes)
  not_held =
      All-weaker (λ c. IsUnder nodes c.vertices) (λ c. is_in c.vertices v ≡ false)
      (λ c under.
      false_from_ne_true (is_in c.vertices v)
      (λ h.
      let some : cover_of nodes v ≡ Some under.node.name =
      covered_by nodes v nest.dual.apart under.node under.among under.outer (under.within v h) in
      let clash : None ≡ Some under.node.name = sym may.uncovered ∙ some in
      absurd (cc)))
      (all_cuts nodes) (cuts_under nodes (grove_of p nodes nest))

  insertion : IsInserted (leaf name v).top (all_cuts nodes) (all_cuts (nodes ++ leaf name v ∷ []))
  insertion = record {
    before = all_cuts nodes;
    after = [];
    old_is = sym (append-nil (all_cuts nodes));
    new_is = cuts_merged nodes (leaf name v ∷ []);
    bare = refl;
  }

  leaves_are : leaves (nodes ++ leaf name v ∷ []) ≡ leaves nodes ++ v ∷ []
  leaves_are = leaves_merged nodes (leaf name v ∷ [])

  pub height : (w : ℕ) → height_of (all_cuts (nodes ++ leaf name v ∷ [])) w ≡ height_of (all_cuts nodes) w
  height w = same_weigh (λ s. is_in s w) (leaf name v).top (all_cuts nodes) (all_cuts (nodes ++ leaf name v ∷ [])) insertion

  pub still_leaf : (d : ℕ) → is_in (leaves nodes) d ≡ true → is_in (leaves (nodes ++ leaf name v ∷ [])) d ≡ true
  still_leaf d h =
      ap (λ l. is_in l d) leaves_are ∙ (is_in_push (leaves nodes) v d ∙ or_left (is_in (leaves nodes) d) (v == d) h)

  pub is_leaf : is_in (leaves (nodes ++ leaf name v ∷ [])) v ≡ true
  is_leaf = ap (λ l. is_in l v) leaves_are ∙ is_in_pushed (leaves nodes) v

  not_leaf : is_in (leaves nodes) v ≡ false
  not_leaf =
      false_from_ne_true (is_in (leaves nodes) v)
      (λ h. false≢true (subst IsSome may.uncovered (nest.dual.defects v h)))

  odd_still : (c : Cut) → is_in c.vertices v ≡ false → IsOddCut (with_defects p (leaves nodes)) c
      → IsOddCut (with_defects p (leaves nodes ++ v ∷ [])) c
  odd_still c out odd = record {
    distinct = odd.distinct;
    real = odd.real;
    odd =
        is_odd_count-agree (is_in (leaves nodes ++ v ∷ [])) (is_in (leaves nodes)) c.vertices
        (λ w h.
        is_in_push (leaves nodes) v w
        ∙ (ap (λ b. is_in (leaves nodes) w || b)
        (ne_eqb v w (λ same. both_ways (is_in c.vertices v) out (ap (is_in c.vertices) same ∙ h)))
        ∙ or-false (is_in (leaves nodes) w)))
        ∙ odd.odd;
  }

  fit : AreFit p (leaves (nodes ++ leaf name v ∷ [])) (all_cuts (nodes ++ leaf name v ∷ []))
  fit =
      let old = fit_of p nodes nest in
      subst (λ l. AreFit p l (all_cuts (nodes ++ leaf name v ∷ []))) (sym leaves_are)
      (inserted_fit p (leaves nodes ++ v ∷ []) (leaf name v).top (all_cuts nodes) (all_cuts (nodes ++ leaf name v ∷ [])) insertion
      (record {
        packing = record {
          odd = λ i d less. odd_still (get_or (all_cuts nodes) i d) (not_held i d less) (old.packing.odd i d less);
          fits = old.packing.fits;
        };
        laminar = old.laminar;
        held = old.held;
        total = old.total;
        differ = old.differ;
      })
      (record {
        distinct = (refl, tt);
        real = All-cons (λ u. p.is_real u ≡ true) v [] may.real (All-nil (λ u. p.is_real u ≡ true));
        odd = ap (λ b. differ b false) (is_in_pushed (leaves nodes) v);
      })
      (All-weaker (λ c. is_in c.vertices v ≡ false) (λ c. IsNestedOrApart c (leaf name v).top × DifferAsSets c (leaf name v).top)
      (λ c out. (
        inr (inr (λ w h.
            or_from (v == w) false (ne_eqb v w (λ same. both_ways (is_in c.vertices v) out (ap (is_in c.vertices) same ∙ h))) refl)),
        (v, λ same. both_ways (is_in c.vertices v) out (same ∙ (or-false (v == v) ∙ eq-eqb v v refl))),
      )) (all_cuts nodes) not_held))

  same_sets : (n : Node) → IsAmong n nodes → child_sets (nodes ++ leaf name v ∷ []) n ≡ child_sets nodes n
  same_sets n a =
      map_agree (top_at (nodes ++ leaf name v ∷ [])) (top_at nodes) n.children
      (All-weaker (λ c. is_live nodes c ≡ true) (λ c. top_at (nodes ++ leaf name v ∷ []) c ≡ top_at nodes c)
      (top_left nodes (leaf name v ∷ [])) n.children (children_live nodes nest.forest n a))

  forest : IsForest (nodes ++ leaf name v ∷ [])
  forest = record {
    formed = All-push IsFormed nodes (leaf name v) nest.forest.formed (inl (record { none = refl; defect = refl }));
    live = All-push (λ n. All (λ c. is_live (nodes ++ leaf name v ∷ []) c ≡ true) n.children) nodes (leaf name v)
        (among_All (λ n. All (λ c. is_live (nodes ++ leaf name v ∷ []) c ≡ true) n.children) nodes
        (λ n a.
        All-weaker (λ c. is_live nodes c ≡ true) (λ c. is_live (nodes ++ leaf name v ∷ []) c ≡ true) (live_left nodes (leaf name v ∷ [])) n.children
        (children_live nodes nest.forest n a)))
        (All-nil (λ c. is_live (nodes ++ leaf name v ∷ []) c ≡ true));
    joined = joined_push nodes (leaf name v) nest.forest.joined
        (among_All (λ n. is_in n.children name ≡ false) nodes
        (λ n a.
        false_from_ne_true (is_in n.children name)
        (λ h. both_ways (is_live nodes name) may.fresh (child_live nodes nest.forest n a name h))))
        (among_All (λ n. AreApart n.children []) nodes (λ n a c h. refl))
        refl;
    filled = All-push (IsFilled (nodes ++ leaf name v ∷ [])) nodes (leaf name v)
        (among_All (IsFilled (nodes ++ leaf name v ∷ [])) nodes
        (λ n a some w.
        All_among (IsFilled nodes) nodes nest.forest.filled n a some w
        ∙ ap (λ l. is_in (concat l) w) (sym (same_sets n a))))
        (λ some w. absurd (both_ways (is_empty []) some refl));
    parted = All-push (λ n. AreAllApart (child_sets (nodes ++ leaf name v ∷ []) n)) nodes (leaf name v)
        (among_All (λ n. AreAllApart (child_sets (nodes ++ leaf name v ∷ []) n)) nodes
        (λ n a. subst AreAllApart (sym (same_sets n a)) (All_among (λ m. AreAllApart (child_sets nodes m)) nodes nest.forest.parted n a)))
        tt;
  }

  names : AreDistinct (map (λ n. n.name) (nodes ++ leaf name v ∷ []))
  names =
      subst AreDistinct (sym (names_merged nodes (leaf name v ∷ [])))
      (AreDistinct_push (map (λ n. n.name) nodes) name nest.dual.names (names_live nodes name ∙ may.fresh))

  out_of_tops : (m : Node) → IsAmong m nodes → AreApart m.top.vertices (v ∷ [])
  out_of_tops m a w h =
      or_from (v == w) false
      (ne_eqb v w
      (λ same.
      both_ways (is_in m.top.vertices v)
      (All-top (λ c. is_in c.vertices v ≡ false) m.below m.top
      (All_among (λ n. All (λ c. is_in c.vertices v ≡ false) (layers_of n)) nodes
      (All-pieces (λ c. is_in c.vertices v ≡ false) layers_of nodes not_held) m a))
      (ap (is_in m.top.vertices) same ∙ h)))
      refl

  apart : AreOuterApart (nodes ++ leaf name v ∷ [])
  apart =
      among_pairs
      (λ m n. is_outer (nodes ++ leaf name v ∷ []) m.name ≡ true → is_outer (nodes ++ leaf name v ∷ []) n.name ≡ true
      → AreApart m.top.vertices n.top.vertices)
      (nodes ++ leaf name v ∷ []) names
      (λ m n a b other out_m out_n.
      by m n (among_either nodes (leaf name v ∷ []) m a) (among_either nodes (leaf name v ∷ []) n b) other
      (outer_in nodes (leaf name v ∷ []) m.name out_m).0 (outer_in nodes (leaf name v ∷ []) n.name out_n).0)
    where
      by : (m n : Node) → IsAmong m nodes ⊎ IsAmong m (leaf name v ∷ []) → IsAmong n nodes ⊎ IsAmong n (leaf name v ∷ [])
          → (m.name ≡ n.name → ⊥) → is_outer nodes m.name ≡ true → is_outer nodes n.name ≡ true
          → AreApart m.top.vertices n.top.vertices
      by m n (inl a) (inl b) other out_m out_n = apart_among nodes nest.dual.names nest.dual.apart m n a b other out_m out_n
      by m n (inl a) (inr (inl e)) other out_m out_n = subst (λ x. AreApart m.top.vertices x.top.vertices) e (out_of_tops m a)
      by m n (inr (inl e)) (inl b) other out_m out_n =
          subst (λ x. AreApart x.top.vertices n.top.vertices) e (apart_sym n.top.vertices (v ∷ []) (out_of_tops n b))
      by m n (inr (inl e)) (inr (inl f)) other out_m out_n = absurd (other (ap (λ x. x.name) (sym e ∙ f)))
      by m n (inl a) (inr (inr b)) other out_m out_n = absurd b
      by m n (inr (inl e)) (inr (inr b)) other out_m out_n = absurd b
      by m n (inr (inr a)) b other out_m out_n = absurd a

  sources : All (λ n. HasSources (nodes ++ leaf name v ∷ []) n.top.vertices) (nodes ++ leaf name v ∷ [])
  sources =
      All-push (λ n. HasSources (nodes ++ leaf name v ∷ []) n.top.vertices) nodes (leaf name v)
      (All-weaker (λ n. HasSources nodes n.top.vertices) (λ n. HasSources (nodes ++ leaf name v ∷ []) n.top.vertices)
      (λ n has w within.
      let (d, holds, leaf_d, parity) = has w within in
      (d, holds, still_leaf d leaf_d, ap (λ h. h % 2) (height d) ∙ (parity ∙ ap (λ h. h % 2) (sym (height w))))) nodes nest.sources)
      (λ w within. (w, within, ap (is_in (leaves (nodes ++ leaf name v ∷ []))) (own w within) ∙ is_leaf, refl))
    where
      own : (w : ℕ) → is_in (v ∷ []) w ≡ true → w ≡ v
      own w within = sym (eqb-true v w (sym (or-false (v == w)) ∙ within))

  nest_kept : IsNest p (nodes ++ leaf name v ∷ [])
  nest_kept =
      nest_of p (nodes ++ leaf name v ∷ []) fit (record {
        names = names;
        grown = All-push (λ n. AreGrown (layers_of n)) nodes (leaf name v) nest.dual.grown (tt, tt);
        forest = forest;
      })
      apart (subst AreDistinct (sym leaves_are) (AreDistinct_push (leaves nodes) v nest.defects not_leaf)) sources

  walks_kept : HaveWalks p nodes → HaveWalks p (nodes ++ leaf name v ∷ [])
  walks_kept walks =
      inserted_All (λ c. HasWalks p (nodes ++ leaf name v ∷ []) c.vertices) (leaf name v).top (all_cuts nodes)
      (all_cuts (nodes ++ leaf name v ∷ [])) insertion
      (All-weaker (λ c. HasWalks p nodes c.vertices) (λ c. HasWalks p (nodes ++ leaf name v ∷ []) c.vertices)
      (λ c has w within.
      let (walk, d, is) = has w within in (
        walk,
        d,
        record {
          defect = still_leaf d is.defect;
          begins = is.begins;
          stays = is.stays;
          source = record { leads = is.source.leads; balance = omega (arith, is.source.balance, height d, height w) };
        },
      )) (all_cuts nodes) walks)
      (λ w within.
      let same : v ≡ w = eqb-true v w (sym (or-false (v == w)) ∙ within) in (
        [],
        w,
        record {
          defect = ap (is_in (leaves (nodes ++ leaf name v ∷ []))) (sym same) ∙ is_leaf;
          begins = within;
          stays = All-nil (λ k. IsEdgeIn (v ∷ []) (edge_at p.edges k));
          source = record { leads = refl; balance = omega arith };
        },
      ))

pub nest_leaf_added : NestLeafAdded
nest_leaf_added p nodes name v may nest = nest_kept p nodes name v may nest

pub walks_leaf_added : WalksLeafAdded
walks_leaf_added p nodes name v may nest walks = walks_kept p nodes name v may nest walks
