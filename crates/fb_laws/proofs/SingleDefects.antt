-- The one defect under an outer node that joins no others, and links that meet there.
use Rattle.std.proofs.Common.{ℕ, ◌≡◌, ◌+◌, ◌==◌, ◌⊎◌, inl, inr, cond, true, false, List, [], ◌∷◌, map, length, All, Some, refl, sym, ap, ◌∙◌, subst, arith, if◌then◌else◌}
use Rattle.std.proofs.lemmas.Bool.{false≢true, false_from_ne_true, eq-eqb, ne_eqb, cases_eq}
use Rattle.std.proofs.lemmas.List.Elements.{All-head, All-weaker}
use Rattle.std.proofs.lemmas.List.Sums.{sum_by-append}
use Rattle.fb_graph.specs.Parity.{is_in}
use Rattle.fb_graph.specs.Problem.{Problem}
use Rattle.fb_graph.specs.Certificate.{AreDistinct, total_value}
use Rattle.fb_graph.specs.Laws.{Link}
use Rattle.fb_graph.specs.Links.{IsTightLink}
use Rattle.fb_graph.specs.Dual.{Node, AreGrown, HasRadius, IsDual, IsWithin, all_cuts, cover_of, height_of, is_outer, layers_at, layers_of, leaves}
use Rattle.fb_graph.specs.Nests.{IsNest, IsFormed, AreJoinedLater, first_set}
use Rattle.fb_graph.specs.declared.parts.Cut.{Cut}
use Rattle.fb_graph.proofs.Among.{IsAmong, All_among, among_All, covered_by, leaf_among, other_name, outer_or_not, same_among}
use Rattle.fb_graph.proofs.CutSums.{weigh_none}
use Rattle.fb_graph.proofs.Forests.{IsGrove, after, child_within, defects_first, first_within}
use Rattle.fb_graph.proofs.NestParts.{grove_of}
use Rattle.fb_graph.proofs.Nodes.{All-flat_map, layers_within, All-left}
use Rattle.fb_graph.proofs.Sets.{is_in-cases}
use Rattle.fb_laws.specs.MetLinks.{turned_link}
use Rattle.fb_laws.specs.SingleDefects.{DefectHeight, EndsMeetUnder, HasEnd, IsDefectUnder, IsSingle, LinksThrough, OneDefect, ending_link, starting_link}
use Rattle.fb_laws.specs.Trees.{Connects}
use Rattle.fb_laws.specs.Works.{AreMatchedLinks}
use Rattle.fb_laws.specs.Fusion.{IsLinkOf}
use Rattle.fb_laws.specs.Opening.{EndsAtDefects}
use Rattle.fb_laws.proofs.MetLinks.{covered_real, link_turned, links_joined}
use Rattle.fb_laws.proofs.SearchStates.{links_joined as matched_append, links_right}
use Rattle.fb_laws.proofs.SearchTrees.{connects_sym}

-- an outer blossom that holds the set
record IsUnderBlossom (nodes : List Node) (set : List ℕ) : Type 0 where
  node : Node
  among : IsAmong node nodes
  outer : is_outer nodes node.name ≡ true
  child : ℕ
  joins : is_in node.children child ≡ true
  within : IsWithin set node.top.vertices

-- each node is outer or lies in an outer blossom
outer_or_in : (nodes : List Node) → IsGrove nodes → (ns : List Node) → ((m : Node) → IsAmong m ns → IsAmong m nodes)
    → ((m q : Node) → IsAmong m ns → IsAmong q nodes → is_in q.children m.name ≡ true → IsAmong q ns)
    → AreJoinedLater ns → (m : Node) → IsAmong m ns → (is_outer nodes m.name ≡ true) ⊎ IsUnderBlossom nodes m.top.vertices
outer_or_in nodes grove [] some later joined m a = absurd a
outer_or_in nodes grove (n ∷ ns) some later joined m a =
    step a
    (outer_or_in nodes grove ns (λ x b. some x (inr b))
    (λ x q b c child. after n ns joined x q (inr b) child (later x q (inr b) c child)) joined.2)
  where
    step : IsAmong m (n ∷ ns) → ((x : Node) → IsAmong x ns → (is_outer nodes x.name ≡ true) ⊎ IsUnderBlossom nodes x.top.vertices)
        → (is_outer nodes m.name ≡ true) ⊎ IsUnderBlossom nodes m.top.vertices
    step (inr b) earlier = earlier m b
    step (inl e) earlier =
        subst (λ x. (is_outer nodes x.name ≡ true) ⊎ IsUnderBlossom nodes x.top.vertices) e (up (outer_or_not nodes n.name))
      where
        above : (q : Node) → IsAmong q nodes → is_in q.children n.name ≡ true
            → (is_outer nodes q.name ≡ true) ⊎ IsUnderBlossom nodes q.top.vertices → IsUnderBlossom nodes n.top.vertices
        above q b child (inl outer) = record {
          node = q;
          among = b;
          outer = outer;
          child = n.name;
          joins = child;
          within = child_within nodes grove n q (some n (inl refl)) b child;
        }
        above q b child (inr under) = record {
          node = under.node;
          among = under.among;
          outer = under.outer;
          child = under.child;
          joins = under.joins;
          within = λ v h. under.within v (child_within nodes grove n q (some n (inl refl)) b child v h);
        }

        up : (is_outer nodes n.name ≡ true) ⊎ ((q : Node) × IsAmong q nodes × (is_in q.children n.name ≡ true))
            → (is_outer nodes n.name ≡ true) ⊎ IsUnderBlossom nodes n.top.vertices
        up (inl outer) = inl outer
        up (inr (q, b, child)) =
            inr (above q b child (earlier q (after n ns joined n q (inl refl) child (later n q (inl refl) b child))))

layers_among : (ns : List Node) → AreDistinct (map (λ n. n.name) ns) → (m : Node) → IsAmong m ns → layers_at ns m.name ≡ layers_of m
layers_among [] distinct m a = absurd a
layers_among (n ∷ ns) distinct m (inl e) =
    subst (λ x. layers_at (n ∷ ns) x.name ≡ layers_of x) e
    (ap (λ b. if b then layers_of n else layers_at ns n.name) (eq-eqb n.name n.name refl))
layers_among (n ∷ ns) distinct m (inr a) =
    ap (λ b. if b then layers_of n else layers_at ns m.name) (ne_eqb n.name m.name (other_name n ns distinct m a))
    ∙ layers_among ns distinct.1 m a

-- where the vertex is in the layers of the named node alone, they make up its potential
height_at : (name d : ℕ) (ns : List Node) → AreDistinct (map (λ n. n.name) ns)
    → ((x : Node) → IsAmong x ns → (x.name ≡ name → ⊥) → All (λ c. is_in c.vertices d ≡ false) (layers_of x))
    → height_of (all_cuts ns) d ≡ height_of (layers_at ns name) d
height_at name d [] distinct out = refl
height_at name d (n ∷ ns) distinct out =
    sum_by-append (λ (c : Cut). cond (is_in c.vertices d) c.value 0) (layers_of n) (all_cuts ns)
    ∙ step (cases_eq n.name name) (height_at name d ns distinct.1 (λ x a. out x (inr a)))
  where
    step : (n.name ≡ name) ⊎ (n.name ≡ name → ⊥) → height_of (all_cuts ns) d ≡ height_of (layers_at ns name) d
        → height_of (layers_of n) d + height_of (all_cuts ns) d ≡ height_of (if n.name == name then layers_of n else layers_at ns name) d
    step (inl same) rest =
        omega (
          arith,
          weigh_none (λ s. is_in s d) (all_cuts ns)
              (All-flat_map (λ c. is_in c.vertices d ≡ false) layers_of ns
              (among_All (λ x. All (λ c. is_in c.vertices d ≡ false) (layers_of x)) ns
              (λ x a. out x (inr a) (λ e. other_name n ns distinct x a (same ∙ sym e))))),
          ap (λ b. height_of (if b then layers_of n else layers_at ns name) d) (eq-eqb n.name name same),
        )
    step (inr other) rest =
        omega (
          arith,
          weigh_none (λ s. is_in s d) (layers_of n) (out n (inl refl) other),
          rest,
          ap (λ b. height_of (if b then layers_of n else layers_at ns name) d) (ne_eqb n.name name other),
        )

-- of links that are matched each one is
links_of_two : (p : Problem) (nodes : List Node) (l m : Link) → AreMatchedLinks p nodes (l ∷ m ∷ [])
    → AreMatchedLinks p nodes (l ∷ []) × AreMatchedLinks p nodes (m ∷ [])
links_of_two p nodes l m are = (
  record {
    tight = All-left (IsTightLink p (all_cuts nodes)) (l ∷ []) (m ∷ []) are.tight;
    own = All-left (IsLinkOf p) (l ∷ []) (m ∷ []) are.own;
    at_defects = All-left
        (EndsAtDefects p (leaves nodes))
        (l ∷ []) (m ∷ []) are.at_defects;
  },
  links_right p nodes (l ∷ []) (m ∷ []) are,
)

links_two : (p : Problem) (nodes : List Node) (l m : Link) → AreMatchedLinks p nodes (l ∷ []) → AreMatchedLinks p nodes (m ∷ [])
    → AreMatchedLinks p nodes (l ∷ m ∷ [])
links_two p nodes l m one other = matched_append p nodes (l ∷ []) (m ∷ []) one other

at_ends : (p : Problem) (nodes : List Node) (l : Link) → AreMatchedLinks p nodes (l ∷ [])
    → EndsAtDefects p (leaves nodes) l
at_ends p nodes l are =
    All-head
    (EndsAtDefects p (leaves nodes))
    l [] are.at_defects

-- an end under a node is a defect
leaf_end : (p : Problem) (nodes : List Node) (v name : ℕ) → IsDual p nodes → (p.is_real v ≡ true → is_in (leaves nodes) v ≡ true)
    → cover_of nodes v ≡ Some name → is_in (leaves nodes) v ≡ true
leaf_end p nodes v name dual leaf cover = leaf (covered_real p nodes v name dual cover)

module _ (p : Problem) (nodes : List Node) (name : ℕ) (nest : IsNest p nodes) (single : IsSingle nodes name) where
  -- only the node itself holds a vertex under it
  mine : (x : Node) → IsAmong x nodes → (v : ℕ) → cover_of nodes v ≡ Some name → is_in x.top.vertices v ≡ true → x.name ≡ name
  mine x a v cover within = step (outer_or_in nodes (grove_of p nodes nest) nodes (λ m b. b) (λ m q b c child. c) nest.forest.joined x a)
    where
      step : (is_outer nodes x.name ≡ true) ⊎ IsUnderBlossom nodes x.top.vertices → x.name ≡ name
      step (inl outer) =
          let both : Some x.name ≡ Some name = sym (covered_by nodes v nest.dual.apart x a outer within) ∙ cover in
          cc
      step (inr under) =
          let both : Some under.node.name ≡ Some name =
          sym (covered_by nodes v nest.dual.apart under.node under.among under.outer (under.within v within)) ∙ cover in
          let same : under.node.name ≡ name = cc in
          let none = All_among (λ n. n.name ≡ name → n.children ≡ []) nodes single under.node under.among same in
          absurd (false≢true (sym (ap (λ cs. is_in cs under.child) none) ∙ under.joins))

  -- the node over a defect has it in its first layer
  in_first : (d : ℕ) → IsDefectUnder nodes name d → (m : Node) × IsAmong m nodes × (m.name ≡ name) × (is_in (first_set m) d ≡ true)
  in_first d is =
      let (m, a, leaf) = leaf_among nodes d is.defect in
      let first = defects_first m d leaf in
      let grown = All_among (λ n. AreGrown (layers_of n)) nodes nest.dual.grown m a in
      (m, a, mine m a d is.under (first_within m d grown first), first)

  one : (d e : ℕ) → IsDefectUnder nodes name d → IsDefectUnder nodes name e → d ≡ e
  one d e at_d at_e =
      let (m, a, named, first) = in_first d at_d in
      let (n, b, other, second) = in_first e at_e in
      let same : n ≡ m = same_among nodes nest.dual.names n m b a (other ∙ sym named) in
      let none = All_among (λ x. x.name ≡ name → x.children ≡ []) nodes single m a named in
      childless (first_set m) (length_one m none (All_among IsFormed nodes nest.forest.formed m a)) first
      (ap (λ x. is_in (first_set x) e) (sym same) ∙ second)
    where
      length_one : (m : Node) → m.children ≡ [] → IsFormed m → length (first_set m) ≡ 1
      length_one m none (inl is) = is.defect
      length_one m none (inr many) = absurd (omega (arith, many.three, ap length none))

      childless : (set : List ℕ) → length set ≡ 1 → is_in set d ≡ true → is_in set e ≡ true → d ≡ e
      childless [] short first second = absurd (false≢true first)
      childless (x ∷ []) short first second = sym (only d first) ∙ only e second
        where
          only : (v : ℕ) → is_in (x ∷ []) v ≡ true → x ≡ v
          only v h = pick (is_in-cases x [] v h)
            where
              pick : (x ≡ v) ⊎ (is_in [] v ≡ true) → x ≡ v
              pick (inl same) = same
              pick (inr none) = absurd (false≢true none)
      childless (x ∷ y ∷ ys) short first second = absurd (omega (arith, short))

  height : (d : ℕ) → IsDefectUnder nodes name d → height_of (all_cuts nodes) d ≡ total_value (layers_at nodes name)
  height d is =
      let (m, a, leaf) = leaf_among nodes d is.defect in
      let grown = All_among (λ n. AreGrown (layers_of n)) nodes nest.dual.grown m a in
      let named = mine m a d is.under (first_within m d grown (defects_first m d leaf)) in
      let layers = ap (layers_at nodes) (sym named) ∙ layers_among nodes nest.dual.names m a in
      height_at name d nodes nest.dual.names
      (λ x b other.
      All-weaker (λ c. IsWithin c.vertices x.top.vertices) (λ c. is_in c.vertices d ≡ false)
      (λ c within. false_from_ne_true (is_in c.vertices d) (λ h. other (mine x b d is.under (within d h)))) (layers_of x)
      (layers_within x.below x.top (All_among (λ n. AreGrown (layers_of n)) nodes nest.dual.grown x b)))
      ∙ (ap (λ cuts. height_of cuts d) layers
      ∙ (All_among HasRadius nodes nest.dual.radii m a d leaf ∙ ap total_value (sym layers)))

pub one_defect : OneDefect
one_defect p nodes name d e nest single at_d at_e = one p nodes name nest single d e at_d at_e

pub defect_height : DefectHeight
defect_height p nodes name d nest single is = height p nodes name nest single d is

-- a link that has its other end elsewhere, turned to end at the vertex or to begin there
record IsTurnedTo (p : Problem) (nodes : List Node) (d a name : ℕ) (l : Link) : Type 0 where
  end : HasEnd l d
  defect : IsDefectUnder nodes name d
  ending_at : (ending_link d l).to ≡ d
  ending_from : cover_of nodes (ending_link d l).from ≡ Some a
  ending_are : AreMatchedLinks p nodes (ending_link d l ∷ [])
  starting_at : (starting_link d l).from ≡ d
  starting_to : cover_of nodes (starting_link d l).to ≡ Some a
  starting_are : AreMatchedLinks p nodes (starting_link d l ∷ [])

turned_to : (p : Problem) (nodes : List Node) (l : Link) (a name : ℕ) → IsDual p nodes → AreMatchedLinks p nodes (l ∷ [])
    → Connects nodes l a name → (a ≡ name → ⊥) → (d : ℕ) × IsTurnedTo p nodes d a name l
turned_to p nodes l a name dual are (inl (from, to)) other = (
  l.to,
  record {
    end = inr refl;
    defect = record { defect = leaf_end p nodes l.to name dual (at_ends p nodes l are).1 to; under = to };
    ending_at = ap (λ x. x.to) ending;
    ending_from = ap (λ x. cover_of nodes x.from) ending ∙ from;
    ending_are = subst (λ x. AreMatchedLinks p nodes (x ∷ [])) (sym ending) are;
    starting_at = ap (λ x. x.from) starting;
    starting_to = ap (λ x. cover_of nodes x.to) starting ∙ from;
    starting_are = subst (λ x. AreMatchedLinks p nodes (x ∷ [])) (sym starting) (link_turned p nodes l are).0;
  },
)
  where
    ending : ending_link l.to l ≡ l
    ending = ap (λ b. if b then l else turned_link l) (eq-eqb l.to l.to refl)

    starting : starting_link l.to l ≡ turned_link l
    starting =
        ap (λ b. if b then l else turned_link l)
        (ne_eqb l.to l.from
        (λ same. let both : Some a ≡ Some name = sym from ∙ (ap (cover_of nodes) (sym same) ∙ to) in let clash : a ≡ name = cc in other clash))
turned_to p nodes l a name dual are (inr (to, from)) other = (
  l.from,
  record {
    end = inl refl;
    defect = record { defect = leaf_end p nodes l.from name dual (at_ends p nodes l are).0 from; under = from };
    ending_at = ap (λ x. x.to) ending;
    ending_from = ap (λ x. cover_of nodes x.from) ending ∙ to;
    ending_are = subst (λ x. AreMatchedLinks p nodes (x ∷ [])) (sym ending) (link_turned p nodes l are).0;
    starting_at = ap (λ x. x.from) starting;
    starting_to = ap (λ x. cover_of nodes x.to) starting ∙ to;
    starting_are = subst (λ x. AreMatchedLinks p nodes (x ∷ [])) (sym starting) are;
  },
)
  where
    ending : ending_link l.from l ≡ turned_link l
    ending =
        ap (λ b. if b then l else turned_link l)
        (ne_eqb l.from l.to
        (λ same. let both : Some a ≡ Some name = sym to ∙ (ap (cover_of nodes) (sym same) ∙ from) in let clash : a ≡ name = cc in other clash))

    starting : starting_link l.from l ≡ l
    starting = ap (λ b. if b then l else turned_link l) (eq-eqb l.from l.from refl)

pub links_through : LinksThrough
links_through p nodes l m a name b nest single bare are to_l to_m other_a other_b differ =
    let parts = links_of_two p nodes l m are in
    let (d, first) = turned_to p nodes l a name nest.dual parts.0 to_l other_a in
    let (e, second) = turned_to p nodes m b name nest.dual parts.1 (connects_sym nodes m name b to_m) (λ same. other_b (sym same)) in
    let same : e ≡ d = one_defect p nodes name e d nest single second.defect first.defect in
    let onward : IsTurnedTo p nodes d b name m = subst (λ v. IsTurnedTo p nodes v b name m) same second in
    let low : height_of (all_cuts nodes) d ≡ 0 = defect_height p nodes name d nest single first.defect ∙ bare in
    let whole =
    links_joined p nodes (ending_link d l) (starting_link d m) a b nest.dual differ
    (links_two p nodes (ending_link d l) (starting_link d m) first.ending_are onward.starting_are)
    (first.ending_at ∙ sym onward.starting_at) (ap (height_of (all_cuts nodes)) first.ending_at ∙ low)
    first.ending_from onward.starting_to in (
      d,
      first.defect,
      first.end,
      onward.end,
      whole.0,
      whole.1,
    )

-- a vertex at an end of the link is a defect there, or under the node at the other end
end_under : (p : Problem) (nodes : List Node) (l : Link) (a name v : ℕ) → IsDual p nodes → AreMatchedLinks p nodes (l ∷ [])
    → Connects nodes l a name → HasEnd l v → (cover_of nodes v ≡ Some a) ⊎ IsDefectUnder nodes name v
end_under p nodes l a name v dual are (inl (from, to)) (inl same) = inl (ap (cover_of nodes) (sym same) ∙ from)
end_under p nodes l a name v dual are (inl (from, to)) (inr same) =
    inr (subst (IsDefectUnder nodes name) same
    (record { defect = leaf_end p nodes l.to name dual (at_ends p nodes l are).1 to; under = to }))
end_under p nodes l a name v dual are (inr (to, from)) (inl same) =
    inr (subst (IsDefectUnder nodes name) same
    (record { defect = leaf_end p nodes l.from name dual (at_ends p nodes l are).0 from; under = from }))
end_under p nodes l a name v dual are (inr (to, from)) (inr same) = inl (ap (cover_of nodes) (sym same) ∙ to)

pub ends_meet_under : EndsMeetUnder
ends_meet_under p nodes l m a name b v dual are to_l to_m other_a other_b differ end_l end_m =
    step (end_under p nodes l a name v dual (links_of_two p nodes l m are).0 to_l end_l)
    (end_under p nodes m b name v dual (links_of_two p nodes l m are).1 (connects_sym nodes m name b to_m) end_m)
  where
    one_name : (x y : ℕ) → cover_of nodes v ≡ Some x → cover_of nodes v ≡ Some y → x ≡ y
    one_name x y at_x at_y = let both : Some x ≡ Some y = sym at_x ∙ at_y in cc

    step : (cover_of nodes v ≡ Some a) ⊎ IsDefectUnder nodes name v → (cover_of nodes v ≡ Some b) ⊎ IsDefectUnder nodes name v
        → IsDefectUnder nodes name v
    step (inr is) other = is
    step (inl at_a) (inr is) = is
    step (inl at_a) (inl at_b) = absurd (differ (one_name a b at_a at_b))
