-- A search in which layers without value come and go.
use Rattle.std.proofs.Common.{ℕ, ◌≡◌, ◌+◌, ◌%◌, ◌<◌, ◌==◌, ◌&&◌, ◌||◌, ◌⊎◌, inl, inr, Bool, true, false, cond, List, ◌∷◌, ◌++◌, length, All, Some, None, IsSome, get_or, refl, sym, ap, ◌∙◌, subst, []}
use Rattle.std.specs.List.{find}
use Rattle.std.specs.Option.{option_map}
use Rattle.std.proofs.lemmas.Bool.{false≢true, cases_Bool, eqb-true}
use Rattle.std.proofs.lemmas.List.Elements.{All-head, All-tail, All-from_get_or}
use Rattle.fb_graph.specs.Parity.{is_in}
use Rattle.fb_graph.specs.Problem.{Problem}
use Rattle.fb_graph.specs.Laws.{Link}
use Rattle.fb_graph.specs.Dual.{Node, IsDual, leaves, cover_of, is_live, is_outer, node_at, no_node, top_at, change_at, taller_node}
use Rattle.fb_graph.proofs.ClosedSets.{not_held}
use Rattle.fb_graph.proofs.Members.{is_in_pushed}
use Rattle.fb_graph.proofs.Sets.{member_of_odd}
use Rattle.fb_graph.proofs.Sums.{sum_same}
use Rattle.fb_graph.specs.Counts.{as_count}
use Rattle.fb_graph.specs.Covers.{HaveParity}
use Rattle.fb_graph.specs.Ends.{ends_in}
use Rattle.fb_laws.specs.Opening.{EndAtDefects, EndsAtDefects}
use Rattle.fb_laws.specs.Works.{AreMatchedLinks, IsSetOf, IsMatching}
use Rattle.fb_laws.specs.Trees.{Entry, Connects, IsTree, grown_links, paired_links, tree_names}
use Rattle.fb_laws.specs.SearchLayers.{SearchAlike}
use Rattle.fb_graph.specs.Alike.{AreAlike, TallerCovered}
use Rattle.fb_graph.proofs.Crossings.{cover_found, cover_holds}
use Rattle.fb_graph.proofs.EndSums.{ends_of_one}
use Rattle.fb_laws.proofs.MatchedNodes.{odd_top}
use Rattle.fb_laws.proofs.SearchTrees.{cover_set, matched_named}
use Rattle.fb_graph.proofs.TallerNodes.{name_found, outer_taller}
use Rattle.fb_graph.proofs.Booleans.{same_bool}
use Rattle.fb_graph.proofs.Nodes.{All-left}

-- sets that agree at the links' ends have as many
pub ends_agree : (a b : List ℕ) (links : List Link)
    → All (λ l. (is_in a l.from ≡ is_in b l.from) × (is_in a l.to ≡ is_in b l.to)) links → ends_in a links ≡ ends_in b links
ends_agree a b links same =
    sum_same (ends_of_one a) (ends_of_one b) links
    (λ i d less.
    ap (λ x. as_count x + as_count (is_in a (get_or links i d).to)) (same i d less).0
    ∙ ap (λ x. as_count (is_in b (get_or links i d).from) + as_count x) (same i d less).1)

module _ (p : Problem) (nodes others : List Node) (alike : AreAlike nodes others) (dual : IsDual p nodes) where
  pub cover_kept : (v name : ℕ) → (p.is_real v ≡ true → is_in (leaves nodes) v ≡ true) → cover_of nodes v ≡ Some name
      → cover_of others v ≡ Some name
  cover_kept v name at cover = alike.covers v (at (dual.real v (subst IsSome (sym cover) refl))) ∙ cover

  -- a connected end is a defect, whose cover stays
  pub connects_kept : (l : Link) (a b : ℕ) → EndsAtDefects p (leaves nodes) l → Connects nodes l a b → Connects others l a b
  connects_kept l a b (at_from, at_to) (inl (from, to)) = inl (cover_kept l.from a at_from from, cover_kept l.to b at_to to)
  connects_kept l a b (at_from, at_to) (inr (to, from)) = inr (cover_kept l.to a at_to to, cover_kept l.from b at_from from)

module _ (p : Problem) (nodes others : List Node) (alike : AreAlike nodes others) (old : IsDual p nodes) (dual : IsDual p others) where
  before : (d : ℕ) → is_in (leaves others) d ≡ true → is_in (leaves nodes) d ≡ true
  before d leaf = ap (λ l. is_in l d) (sym alike.defects) ∙ leaf

  pub cover_before : (d name : ℕ) → is_in (leaves others) d ≡ true → cover_of others d ≡ Some name → cover_of nodes d ≡ Some name
  cover_before d name leaf cover = sym (alike.covers d (before d leaf)) ∙ cover

  pub parity_alike : (test : ℕ → Bool) (r : ℕ) → HaveParity test nodes r → HaveParity test others r
  parity_alike test r parity d name leaf cover passing =
      ap (λ h. h % 2) (alike.heights d) ∙ parity d name (before d leaf) (cover_before d name leaf cover) passing

  pub links_alike : (links : List Link) → AreMatchedLinks p nodes links → AreMatchedLinks p others links
  links_alike links are = record {
    tight = λ i d less. record {
      walk = (are.tight i d less).walk;
      tight = (are.tight i d less).tight ∙ sym (alike.loads (record { first = (get_or links i d).from; second = (get_or links i d).to; weight = 0 }));
    };
    own = are.own;
    at_defects = subst (λ l. EndAtDefects p l links) (sym alike.defects) are.at_defects;
  }

  tree_alike : (root : ℕ) (tree : List Entry) → EndAtDefects p (leaves nodes) (grown_links tree)
      → EndAtDefects p (leaves nodes) (paired_links tree) → IsTree nodes root tree → IsTree others root tree
  tree_alike root [] grown paired joined = tt
  tree_alike root (e ∷ es) grown paired (parent, tree, matched, joined) = (
    parent,
    connects_kept p nodes others alike old e.tree e.parent e.minus (All-head (EndsAtDefects p (leaves nodes)) e.tree (grown_links es) grown) tree,
    connects_kept p nodes others alike old e.matched e.minus e.plus (All-head (EndsAtDefects p (leaves nodes)) e.matched (paired_links es) paired) matched,
    tree_alike root es (All-tail (EndsAtDefects p (leaves nodes)) e.tree (grown_links es) grown) (All-tail (EndsAtDefects p (leaves nodes)) e.matched (paired_links es) paired) joined,
  )

  pub matching_alike : (links : List Link) (unmatched : List ℕ) → IsMatching p nodes links unmatched → IsMatching p others links unmatched
  matching_alike links unmatched work = record {
    dual = dual;
    defects = λ v real. work.defects v real ∙ ap (λ l. is_in l v) (sym alike.defects);
    links_are = links_alike links work.links_are;
    matched =
        All-from_get_or (λ n. is_outer others n.name ≡ true → ends_in n.top.vertices links + as_count (is_in unmatched n.name) ≡ 1) others no_node
        matched;
    one_parity = λ d e name leaf among cover covered.
        ap (λ h. h % 2) (alike.heights d)
        ∙ (work.one_parity d e name (before d leaf) (before e among) (cover_before d name leaf cover) (cover_before e name among covered)
        ∙ ap (λ h. h % 2) (sym (alike.heights e)));
  }
    where
      matched : (i : ℕ) → i < length others → is_outer others (node_at others i).name ≡ true
          → ends_in (node_at others i).top.vertices links + as_count (is_in unmatched (node_at others i).name) ≡ 1
      matched i less outer =
          ap (λ m. m + as_count (is_in unmatched (node_at others i).name))
          (ends_agree (node_at others i).top.vertices (top_at nodes (node_at others i).name) links
          (λ j d below. (
            same (get_or links j d).from (work.links_are.at_defects j d below).0,
            same (get_or links j d).to (work.links_are.at_defects j d below).1,
          )))
          ∙ matched_named p nodes links unmatched name (top_at nodes name) work set
        where
          name : ℕ
          name = (node_at others i).name

          member : (u : ℕ) × (is_in (node_at others i).top.vertices u ≡ true) × (is_in (leaves others) u ≡ true)
          member = member_of_odd (is_in (leaves others)) (node_at others i).top.vertices (odd_top p others i dual less).odd

          set : IsSetOf nodes (node_at others i).name (top_at nodes (node_at others i).name)
          set =
              (cover_set nodes member.0 (node_at others i).name old.names
              (cover_before member.0 (node_at others i).name member.2
              (cover_found others member.0 dual.apart i no_node less outer member.1))).0

          -- a vertex is in both or in neither
          same : (v : ℕ) → (p.is_real v ≡ true → is_in (leaves nodes) v ≡ true)
              → is_in (node_at others i).top.vertices v ≡ is_in (top_at nodes (node_at others i).name) v
          same v at = step (cases_Bool (p.is_real v)) set
            where
              step : (p.is_real v ≡ true) ⊎ (p.is_real v ≡ false) → IsSetOf nodes (node_at others i).name (top_at nodes (node_at others i).name)
                  → is_in (node_at others i).top.vertices v ≡ is_in (top_at nodes (node_at others i).name) v
              step (inl real) (j, below, outer_j, named, is) =
                  same_bool _ _
                  (λ within.
                  (cover_set nodes v (node_at others i).name old.names
                  (sym (alike.covers v (at real)) ∙ cover_found others v dual.apart i no_node less outer within)).1)
                  (λ within.
                  cover_holds others v (node_at others i).name dual.names
                  (alike.covers v (at real)
                  ∙ (cover_found nodes v old.apart j no_node below (ap (is_outer nodes) named ∙ outer_j) (ap (λ s. is_in s v) is ∙ within)
                  ∙ ap Some named)) i less refl)
              step (inr unreal) (j, below, outer_j, named, is) =
                  not_held p (node_at others i).top.vertices v (odd_top p others i dual less).real unreal
                  ∙ sym (ap (λ s. is_in s v) (sym is) ∙ not_held p (node_at nodes j).top.vertices v (odd_top p nodes j old below).real unreal)

pub search_alike : SearchAlike
search_alike p nodes others tree rest unmatched root r alike dual state = record {
  matching = matching_alike p nodes others alike state.matching.dual dual (paired_links tree ++ rest) unmatched state.matching;
  root_is = (
    state.root_is.0,
    ap (λ l. is_in l state.root_is.0) alike.defects ∙ state.root_is.1,
    alike.covers state.root_is.0 state.root_is.1 ∙ state.root_is.2,
  );
  open_root = state.open_root;
  names = state.names;
  joined =
      tree_alike p nodes others alike state.matching.dual dual root tree state.grown.at_defects
      (All-left (EndsAtDefects p (leaves nodes))
      (paired_links tree) rest state.matching.links_are.at_defects)
      state.joined;
  grown = links_alike p nodes others alike state.matching.dual dual (grown_links tree) state.grown;
  parity = parity_alike p nodes others alike state.matching.dual dual (is_in (tree_names root tree)) r state.parity;
}

found_here : (outer other : ℕ → Bool) → ((n : ℕ) → outer n ≡ other n) → (name v : ℕ) → outer name ≡ true → (ns : List Node) → is_live ns name ≡ true
    → name_found other v ns ≡ None → name_found outer v (change_at name (taller_node v) ns) ≡ Some name
found_here outer other alike name v is [] live none = absurd (false≢true live)
found_here outer other alike name v is (n ∷ ns) live none =
    step (cases_Bool (n.name == name)) (cases_Bool (other n.name && is_in n.top.vertices v)) (found_here outer other alike name v is ns)
  where
    old : Node → Bool
    old m = outer m.name && is_in m.top.vertices v

    new : Node → Bool
    new m = other m.name && is_in m.top.vertices v

    step : ((n.name == name) ≡ true) ⊎ ((n.name == name) ≡ false) → (new n ≡ true) ⊎ (new n ≡ false)
        → (is_live ns name ≡ true → name_found other v ns ≡ None → name_found outer v (change_at name (taller_node v) ns) ≡ Some name)
        → option_map (λ x. x.name) (cond (old (cond (n.name == name) (taller_node v n) n)) (Some (cond (n.name == name) (taller_node v n) n)) (find old (change_at name (taller_node v) ns)))
        ≡ Some name
    step (inl here) test ih =
        ap (λ b. option_map (λ x. x.name) (cond (old (cond b (taller_node v n) n)) (Some (cond b (taller_node v n) n)) (find old (change_at name (taller_node v) ns)))) here
        ∙ (ap (λ b. option_map (λ x. x.name) (cond (b && is_in (n.top.vertices ++ v ∷ []) v) (Some (taller_node v n)) (find old (change_at name (taller_node v) ns))))
        (ap outer (eqb-true n.name name here) ∙ is)
        ∙ (ap (λ b. option_map (λ x. x.name) (cond b (Some (taller_node v n)) (find old (change_at name (taller_node v) ns)))) (is_in_pushed n.top.vertices v)
        ∙ ap Some (eqb-true n.name name here)))
    step (inr there) (inl test) ih =
        let at : option_map (λ x. x.name) (cond (new n) (Some n) (find new ns)) ≡ Some n.name =
        ap (λ b. option_map (λ x. x.name) (cond b (Some n) (find new ns))) test in
        cc
    step (inr there) (inr test) ih =
        ap (λ b. option_map (λ x. x.name) (cond (old (cond b (taller_node v n) n)) (Some (cond b (taller_node v n) n)) (find old (change_at name (taller_node v) ns)))) there
        ∙ (ap (λ b. option_map (λ x. x.name) (cond b (Some n) (find old (change_at name (taller_node v) ns))))
        (ap (λ b. b && is_in n.top.vertices v) (alike n.name) ∙ test)
        ∙ ih (ap (λ b. b || is_live ns name) (sym there) ∙ live)
        (ap (λ b. option_map (λ x. x.name) (cond b (Some n) (find new ns))) (sym test) ∙ none))

pub taller_covered : TallerCovered
taller_covered nodes name v live outer none =
    found_here (is_outer (change_at name (taller_node v) nodes)) (is_outer nodes) (λ n. outer_taller name v n nodes) name v
    (outer_taller name v name nodes ∙ outer) nodes live none
