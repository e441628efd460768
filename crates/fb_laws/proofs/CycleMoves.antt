-- The links round blossoms where layers change.
use Rattle.std.proofs.Common.{ℕ, ◌≡◌, ◌==◌, not, cond, Bool, true, false, List, [], ◌∷◌, ◌++◌, map, get_or, All, refl, sym, ap, ◌∙◌, subst, if◌then◌else◌}
use Rattle.std.proofs.lemmas.Bool.{eqb-true, false_from_ne_true}
use Rattle.std.proofs.lemmas.List.Elements.{All-map}
use Rattle.fb_graph.specs.Parity.{is_in}
use Rattle.fb_graph.specs.Problem.{Problem}
use Rattle.fb_graph.specs.Certificate.{load_of}
use Rattle.fb_graph.specs.Laws.{Link, ends_of}
use Rattle.fb_graph.specs.Dual.{Node, IsDual, AreUnderOne, all_cuts, change_at, is_empty, is_live, is_outer, leaves, top_at}
use Rattle.fb_graph.specs.declared.parts.Edge.{Edge}
use Rattle.fb_graph.proofs.Sets.{All-from_is_in}
use Rattle.fb_graph.specs.Covers.{AreRoles}
use Rattle.fb_graph.specs.Nests.{child_sets}
use Rattle.fb_laws.specs.Opening.{EndAtDefects}
use Rattle.fb_laws.specs.PartStates.{IsRing, AreCycles, AreLiveNames, all_cycle_links, links_at}
use Rattle.fb_graph.specs.Steps.{Roles, AllowShrinking, stepped_nodes}
use Rattle.fb_laws.specs.Works.{AreMatchedLinks}
use Rattle.fb_graph.proofs.Among.{IsAmong, All_among, among_All, among_any}
use Rattle.fb_graph.proofs.Crossings.{level_within}
use Rattle.fb_graph.proofs.NestParts.{map_agree}
use Rattle.fb_graph.proofs.StepHeights.{leaves_stepped}
use Rattle.fb_graph.proofs.StepLoads.{tight_stepped}

-- links stay tight where the defects and all loads do
pub links_kept : (p : Problem) (nodes others : List Node) (links : List Link) → leaves others ≡ leaves nodes
    → ((e : Edge) → load_of (all_cuts others) e ≡ load_of (all_cuts nodes) e) → AreMatchedLinks p nodes links
    → AreMatchedLinks p others links
links_kept p nodes others links defects loads are = record {
  tight = λ i d less. record {
    walk = (are.tight i d less).walk;
    tight = (are.tight i d less).tight ∙ sym (loads (ends_of (get_or links i d)));
  };
  own = are.own;
  at_defects = subst (λ l. EndAtDefects p l links) (sym defects) are.at_defects;
}

-- and by a step, where each lies under one outer node
pub links_stepped : (p : Problem) (roles : Roles) (nodes : List Node) (k : ℕ) (links : List Link) → IsDual p nodes
    → AreRoles roles nodes → AllowShrinking roles nodes k → All (λ l. AreUnderOne nodes l.from l.to) links
    → AreMatchedLinks p nodes links → AreMatchedLinks p (stepped_nodes roles k nodes) links
links_stepped p roles nodes k links dual are tops under matched = record {
  tight = λ i d less. record {
    walk = (matched.tight i d less).walk;
    tight =
        tight_stepped p roles nodes k (get_or links i d) are.exclusive tops
        (level_within roles nodes (ends_of (get_or links i d)) dual.apart dual.names are (under i d less)) (matched.tight i d less).tight;
  };
  own = matched.own;
  at_defects = subst (λ l. EndAtDefects p l links) (sym (leaves_stepped roles nodes k)) matched.at_defects;
}

-- rings round nodes whose children keep their sets
pub rings_over : (nodes others some : List Node) (cycles : ℕ → List Link)
    → ((n : Node) → IsAmong n some → (c : ℕ) → is_in n.children c ≡ true → top_at others c ≡ top_at nodes c)
    → All (λ n. IsRing (child_sets nodes n) (cycles n.name)) some
    → All (λ n. IsRing (child_sets others n) (cycles n.name)) some
rings_over nodes others some cycles same rings =
    among_All (λ n. IsRing (child_sets others n) (cycles n.name)) some
    (λ n a.
    subst (λ sets. IsRing sets (cycles n.name))
    (sym
    (map_agree (top_at others) (top_at nodes) n.children
    (All-from_is_in (λ c. top_at others c ≡ top_at nodes c) n.children (same n a))))
    (All_among (λ x. IsRing (child_sets nodes x) (cycles x.name)) some rings n a))

-- no child of a node is outer
pub child_inner : (nodes : List Node) (n : Node) (c : ℕ) → IsAmong n nodes → is_in n.children c ≡ true → is_outer nodes c ≡ false
child_inner nodes n c a child = ap not (among_any (λ x. is_in x.children c) nodes n a child)

links_mapped : (f : Node → Node) (cycles : ℕ → List Link) → ((n : Node) → (f n).name ≡ n.name)
    → ((n : Node) → (f n).children ≡ n.children) → (nodes : List Node)
    → all_cycle_links (map f nodes) cycles ≡ all_cycle_links nodes cycles
links_mapped f cycles name children [] = refl
links_mapped f cycles name children (n ∷ ns) =
    ap (λ l. l ++ all_cycle_links (map f ns) cycles)
    (ap (λ cs. if is_empty cs then [] else cycles (f n).name) (children n)
    ∙ ap (λ m. if is_empty n.children then [] else cycles m) (name n))
    ∙ ap (λ l. links_at cycles n ++ l) (links_mapped f cycles name children ns)

-- nodes changed in place, the sets of children as they were
pub cycles_mapped : (p : Problem) (f : Node → Node) (nodes : List Node) (cycles : ℕ → List Link)
    → ((n : Node) → (f n).name ≡ n.name) → ((n : Node) → (f n).children ≡ n.children)
    → ((c : ℕ) → is_outer nodes c ≡ false → top_at (map f nodes) c ≡ top_at nodes c)
    → AreMatchedLinks p (map f nodes) (all_cycle_links nodes cycles) → AreCycles p nodes cycles
    → AreCycles p (map f nodes) cycles
cycles_mapped p f nodes cycles name children tops links old = record {
  rings =
      All-map (λ n. IsRing (child_sets (map f nodes) n) (cycles n.name)) f nodes
      (among_All (λ n. IsRing (child_sets (map f nodes) (f n)) (cycles (f n).name)) nodes
      (λ n a.
      subst (λ cs. IsRing (map (top_at (map f nodes)) cs) (cycles (f n).name)) (sym (children n))
      (subst (λ m. IsRing (child_sets (map f nodes) n) (cycles m)) (sym (name n))
      (All_among (λ x. IsRing (child_sets (map f nodes) x) (cycles x.name)) nodes kept n a))));
  links = subst (AreMatchedLinks p (map f nodes)) (sym (links_mapped f cycles name children nodes)) links;
}
  where
    kept : All (λ n. IsRing (child_sets (map f nodes) n) (cycles n.name)) nodes
    kept = rings_over nodes (map f nodes) nodes cycles (λ n a c child. tops c (child_inner nodes n c a child)) old.rings

-- the sets of all nodes but the one of a name that is changed
pub top_changed : (name : ℕ) (g : Node → Node) → ((n : Node) → (g n).name ≡ n.name) → (c : ℕ) → (c ≡ name → ⊥)
    → (nodes : List Node) → top_at (change_at name g nodes) c ≡ top_at nodes c
top_changed name g names c other [] = refl
top_changed name g names c other (n ∷ ns) = step (n.name == name) refl (top_changed name g names c other ns)
  where
    step : (b : Bool) → (n.name == name) ≡ b → top_at (change_at name g ns) c ≡ top_at ns c
        → top_at ((if b then g n else n) ∷ change_at name g ns) c ≡ top_at (n ∷ ns) c
    step false e ih = ap (λ s. cond (n.name == c) n.top.vertices s) ih
    step true e ih =
        let differs : (n.name == c) ≡ false =
        false_from_ne_true (n.name == c) (λ same. other (sym (eqb-true n.name c same) ∙ eqb-true n.name name e)) in
        ap (λ m. cond (m == c) (g n).top.vertices (top_at (change_at name g ns) c)) (names n)
        ∙ (ap (λ x. cond x (g n).top.vertices (top_at (change_at name g ns) c)) differs
        ∙ (ih ∙ ap (λ x. cond x n.top.vertices (top_at ns c)) (sym differs)))

pub names_kept : (nodes others : List Node) (names : List ℕ) → ((n : ℕ) → is_live nodes n ≡ true → is_live others n ≡ true)
    → AreLiveNames nodes names → AreLiveNames others names
names_kept nodes others names kept are = record {
  live = λ n within. kept n (are.live n within);
  distinct = are.distinct;
}
