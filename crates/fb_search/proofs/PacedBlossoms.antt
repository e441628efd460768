-- How nodes move once nodes of one of several trees are joined in a blossom, or a minus blossom of it is opened: each still as
-- its role in the trees says.
use Rattle.std.proofs.Common.{ℕ, arith, ◌≤◌, ◌≡◌, ◌≢◌, ◌==◌, ◌||◌, ◌&&◌, ◌⊎◌, inl, inr, cond, not, Bool, true, false, All, List, [], ◌∷◌, ◌++◌, length, map, set, Option, Some, refl, sym, ap, ◌∙◌, subst, append_assoc}
use Rattle.std.proofs.lemmas.Bool.{both_ways, eq-eqb, eqb-true, false≢true, false_from_ne_true, or_parts}
use Rattle.std.proofs.lemmas.List.Elements.{All-head, All-tail}
use Rattle.fb_blossoms.specs.Nodes.{Adds}
use Rattle.fb_blossoms.specs.Nodes as blossoms
use Rattle.fb_graph.specs.Dual.{Node, is_live}
use Rattle.fb_graph.specs.Limits.{IsWithinLimits}
use Rattle.fb_graph.specs.Moves as moves
use Rattle.fb_graph.specs.Parity.{is_in}
use Rattle.fb_graph.proofs.Among.{among_left, among_live, among_right, live_among}
use Rattle.fb_graph.proofs.Booleans.{same_bool}
use Rattle.fb_graph.proofs.Floods.{is_in-left}
use Rattle.fb_graph.proofs.Places.{among_split}
use Rattle.fb_graph.proofs.Sets.{is_in-All, is_in-cases, is_in-head, is_in-tail}
use Rattle.fb_half.specs.Parts.{problem_in}
use Rattle.fb_links.proofs.MovedLinks.{Table}
use Rattle.fb_links.specs.declared.cycle.CycleStep.{CycleStep}
use Rattle.fb_laws.specs.OpenedCycles.{PassOf, opened_branches, opened_tree}
use Rattle.fb_laws.specs.SearchBlossoms.{joined_tree, outer_branches, renamed_entry, renamed_name}
use Rattle.fb_laws.specs.Trees.{EntryOf, minus_names, plus_names, tree_names}
use Rattle.fb_laws.proofs.OpenedBlossoms.{same_permuted}
use Rattle.fb_obstacles.specs.Watched.{Watched}
use Rattle.fb_regions.specs.Paces.{IsRepaced, Paced, pace_in, shrinks}
use Rattle.fb_regions.specs.declared.roles.Role.TheVariants.{Out}
use Rattle.fb_trees.specs.Branches.{Grown}
use Rattle.fb_trees.specs.Forests.{AreInPace, IsReplacedIn, role_among, tree_at}
use Rattle.fb_trees.specs.Replacements.{MayJoin, MayReplace, joined_grown, way_of}
use Rattle.fb_trees.specs.Rooted.{is_node}
use Rattle.fb_trees.specs.TreeSteps.{IsCycle}
use Rattle.fb_trees.proofs.ForestRoles.{role_of_none}
use Rattle.fb_search.specs.InternalGrowing.{GrowingValue, IsGrowing}
use Rattle.fb_search.specs.InternalGrowingRings.{ClosesIn}
use Rattle.fb_search.specs.InternalOpenings.{EntersWay}
use Rattle.fb_search.proofs.Agreed.{nodes_of}
use Rattle.fb_search.proofs.ClosedCycles.{steps_join, steps_replaced}
use Rattle.fb_search.proofs.ClosedWatches.{minus_stays, plus_before}
use Rattle.fb_search.proofs.MinusBounds.{minus_before}
use Rattle.fb_search.proofs.OpenedConditions.{way, way_named}
use Rattle.fb_search.proofs.OpenedNames.{along_after, along_beside, along_way, names-along}
use Rattle.fb_search.proofs.OpenedNumbers.{branches_are}
use Rattle.fb_search.proofs.Openings.{HasOpened, Opens}
use Rattle.fb_search.proofs.PacedMoves.{paced_set, role_put}
use Rattle.fb_search.proofs.RingCycles.{live_in, new_outside, ring_closes}
use Rattle.fb_search.proofs.RingOpenings.{opened_growing, ring_opened}
use Rattle.fb_search.proofs.RingRoles.{set_here}
use Rattle.fb_search.proofs.RingSearches.{forest_is, ring_new}
use Rattle.fb_search.proofs.TreesAlone.{alone, opening_among}

-- a plus node that isn't joined is a plus node of the tree with the blossom in it
plus_stays : (joins : ℕ → Bool) (name root : ℕ) (tree : List (EntryOf ℕ)) (n : ℕ) → joins n ≡ false
    → All (λ (e : EntryOf ℕ). joins e.minus ≡ true → (joins e.parent ≡ true) × (joins e.plus ≡ true)) tree
    → is_in (plus_names root tree) n ≡ true
    → is_in (plus_names (renamed_name joins name root) (joined_tree joins name tree)) n ≡ true
plus_stays joins name root [] n out inner there = by (is_in-cases root [] n there)
  where
    by : (root ≡ n) ⊎ (is_in [] n ≡ true) → is_in (renamed_name joins name root ∷ []) n ≡ true
    by (inl same) =
        subst (λ m. is_in (renamed_name joins name m ∷ []) n ≡ true) (sym same)
        (ap (λ b. is_in (cond b name n ∷ []) n) out ∙ is_in-head n [])
    by (inr none) = absurd (false≢true none)
plus_stays joins name root (e ∷ es) n out inner there =
    put (joins e.minus) refl (is_in-cases e.plus (plus_names root es) n there)
    (plus_stays joins name root es n out
    (All-tail (λ (e : EntryOf ℕ). joins e.minus ≡ true → (joins e.parent ≡ true) × (joins e.plus ≡ true)) e es inner))
  where
    rest : List ℕ
    rest = plus_names (renamed_name joins name root) (joined_tree joins name es)

    put : (b : Bool) → joins e.minus ≡ b → (e.plus ≡ n) ⊎ (is_in (plus_names root es) n ≡ true)
        → (is_in (plus_names root es) n ≡ true
        → is_in (plus_names (renamed_name joins name root) (joined_tree joins name es)) n ≡ true)
        → is_in
        (plus_names (renamed_name joins name root)
        (map (renamed_entry joins name) (cond (not b) (e ∷ outer_branches joins es) (outer_branches joins es)))) n ≡ true
    put true h (inl same) later =
        absurd
        (both_ways (joins n) out
        (ap joins (sym same)
        ∙ (All-head (λ (e : EntryOf ℕ). joins e.minus ≡ true → (joins e.parent ≡ true) × (joins e.plus ≡ true)) e es inner h).1))
    put true h (inr older) later = later older
    put false h (inl same) later =
        subst (λ m. is_in (renamed_name joins name m ∷ rest) n ≡ true) (sym same)
        (ap (λ b. is_in (cond b name n ∷ rest) n) out ∙ is_in-head n rest)
    put false h (inr older) later = is_in-tail (renamed_name joins name e.plus) rest n (later older)

-- the nodes that are joined, and the blossom, are there afterwards
joined_live : (nodes : List Node) (name : ℕ) (children : List ℕ) → moves.MayJoin nodes name children → (n : ℕ)
    → is_in children n ≡ true → is_live (moves.joined_nodes name children nodes) n ≡ true
joined_live nodes name children may n within =
    let (m, a, named) = live_among nodes n (is_in-All (λ c. is_live nodes c ≡ true) children may.live n within) in
    among_live (moves.joined_nodes name children nodes) m n (among_left nodes (moves.blossom name children nodes ∷ []) m a) named

made_live : (nodes : List Node) (name : ℕ) (children : List ℕ) → is_live (moves.joined_nodes name children nodes) name ≡ true
made_live nodes name children =
    among_live (moves.joined_nodes name children nodes) (moves.blossom name children nodes) name
    (among_right nodes (moves.blossom name children nodes ∷ []) (moves.blossom name children nodes) (inl refl)) refl

module _ (f : List (Option Grown)) (t : ℕ) (g : Grown) (at : tree_at f t ≡ Some g) (gone : List ℕ) (name : ℕ) (may : MayJoin g gone name) where
  role_joined : (n : ℕ) → is_in gone n ≡ false → n ≢ name → role_among f n ≡ role_among (set f t (Some (joined_grown g gone name))) n
  role_joined n out other =
      role_put f t g at n (joined_grown g gone name)
      (same_bool _ _ (plus_stays (is_in gone) name g.root g.branches n out may.taken.inner)
      (plus_before (is_in gone) name g.root g.branches n other))
      (same_bool _ _ (minus_stays (is_in gone) name g.branches n out) (minus_before (is_in gone) name g.branches n))

  -- the joined nodes and the blossom are given their roles, one after another
  pub paced_joined : {S : Type 0} (nodes : List Node) → moves.MayJoin nodes name gone → (before mid after : Paced S)
      → before.nodes ≡ moves.joined_nodes name gone nodes → IsRepaced before mid → AreInPace before f
      → ((n : ℕ) → pace_in mid n
      ≡ cond (is_in gone n && is_live before.nodes n) (role_among (set f t (Some (joined_grown g gone name))) n) (pace_in before n))
      → ((n : ℕ) → pace_in after n
      ≡ cond (is_in (name ∷ []) n && is_live mid.nodes n) (role_among (set f t (Some (joined_grown g gone name))) n) (pace_in mid n))
      → AreInPace after (set f t (Some (joined_grown g gone name)))
  paced_joined nodes join before mid after are same paced first second =
      paced_set mid after f (set f t (Some (joined_grown g gone name))) (is_in (name ∷ [])) made (λ n out. by n out (is_in gone n) refl)
      second
    where
      made : (n : ℕ) → is_in (name ∷ []) n ≡ true → is_live mid.nodes n ≡ true
      made n has = one (is_in-cases name [] n has)
        where
          one : (name ≡ n) ⊎ (is_in [] n ≡ true) → is_live mid.nodes n ≡ true
          one (inl same_name) =
              subst (λ m. is_live mid.nodes m ≡ true) same_name
              (ap (λ ns. is_live ns name) (ap (λ r. r.nodes) same ∙ are) ∙ made_live nodes name gone)
          one (inr none) = absurd (false≢true none)

      by : (n : ℕ) → is_in (name ∷ []) n ≡ false → (b : Bool) → is_in gone n ≡ b
          → pace_in mid n ≡ role_among (set f t (Some (joined_grown g gone name))) n
      by n out true is =
          first n
          ∙ (ap (λ b. cond (b && is_live before.nodes n) (role_among (set f t (Some (joined_grown g gone name))) n) (pace_in before n)) is
          ∙ ap (λ b. cond b (role_among (set f t (Some (joined_grown g gone name))) n) (pace_in before n))
          (ap (λ ns. is_live ns n) are ∙ joined_live nodes name gone join n is))
      by n out false is =
          first n
          ∙ (ap (λ b. cond (b && is_live before.nodes n) (role_among (set f t (Some (joined_grown g gone name))) n) (pace_in before n)) is
          ∙ (paced n
          ∙ role_joined n is (λ e. both_ways (name == n) (or_parts (name == n) false out).0 (eq-eqb name n (sym e)))))

-- the branches along the way beside a name that isn't on it
module _ (root n : ℕ) where
  plus_beside_way : (parent tree minus : ℕ) (way : List (PassOf ℕ)) (matched plus : ℕ) (es : List (EntryOf ℕ))
      → is_in (along_way minus way) n ≡ false
      → is_in (plus_names root (opened_branches parent tree minus way matched plus ++ es)) n ≡ ((plus == n) || is_in (plus_names root es) n)
  plus_beside_way parent tree minus [] matched plus es out = refl
  plus_beside_way parent tree minus (s ∷ ss) matched plus es out =
      let first = or_parts (minus == n) (is_in (s.plus ∷ along_way s.minus ss) n) out in
      let second = or_parts (s.plus == n) (is_in (along_way s.minus ss) n) first.1 in
      ap (λ l. is_in (plus_names root l) n)
      (append_assoc (opened_branches s.plus s.tree s.minus ss matched plus)
      (record { parent = parent; tree = tree; minus = minus; matched = s.matched; plus = s.plus } ∷ []) es)
      ∙ (plus_beside_way s.plus s.tree s.minus ss matched plus
      (record { parent = parent; tree = tree; minus = minus; matched = s.matched; plus = s.plus } ∷ es) second.1
      ∙ ap (λ b. (plus == n) || (b || is_in (plus_names root es) n)) second.0)

  minus_beside_way : (parent tree minus : ℕ) (way : List (PassOf ℕ)) (matched plus : ℕ) (es : List (EntryOf ℕ))
      → is_in (along_way minus way) n ≡ false
      → is_in (minus_names (opened_branches parent tree minus way matched plus ++ es)) n ≡ is_in (minus_names es) n
  minus_beside_way parent tree minus [] matched plus es out =
      ap (λ b. b || is_in (minus_names es) n) (or_parts (minus == n) false out).0
  minus_beside_way parent tree minus (s ∷ ss) matched plus es out =
      let first = or_parts (minus == n) (is_in (s.plus ∷ along_way s.minus ss) n) out in
      let second = or_parts (s.plus == n) (is_in (along_way s.minus ss) n) first.1 in
      ap (λ l. is_in (minus_names l) n)
      (append_assoc (opened_branches s.plus s.tree s.minus ss matched plus)
      (record { parent = parent; tree = tree; minus = minus; matched = s.matched; plus = s.plus } ∷ []) es)
      ∙ (minus_beside_way s.plus s.tree s.minus ss matched plus
      (record { parent = parent; tree = tree; minus = minus; matched = s.matched; plus = s.plus } ∷ es) second.1
      ∙ ap (λ b. b || is_in (minus_names es) n) first.0)

  plus_under : (newer a b : List (EntryOf ℕ)) → is_in (plus_names root a) n ≡ is_in (plus_names root b) n
      → is_in (plus_names root (newer ++ a)) n ≡ is_in (plus_names root (newer ++ b)) n
  plus_under [] a b same = same
  plus_under (x ∷ xs) a b same = ap (λ c. (x.plus == n) || c) (plus_under xs a b same)

  minus_under : (newer a b : List (EntryOf ℕ)) → is_in (minus_names a) n ≡ is_in (minus_names b) n
      → is_in (minus_names (newer ++ a)) n ≡ is_in (minus_names (newer ++ b)) n
  minus_under [] a b same = same
  minus_under (x ∷ xs) a b same = ap (λ c. (x.minus == n) || c) (minus_under xs a b same)

module _ (f : List (Option Grown)) (t : ℕ) (g tree : Grown) (at : tree_at f t ≡ Some g) (newer : List (EntryOf ℕ)) (e : EntryOf ℕ)
    (older : List (EntryOf ℕ)) (from : ℕ) (way : List (PassOf ℕ)) (was : g.branches ≡ newer ++ e ∷ older)
    (root : tree.root ≡ g.root) (now : tree.branches ≡ opened_tree newer e older from way) where
  role_opened : (n : ℕ) → is_in (along_way from way) n ≡ false → n ≢ e.minus → role_among f n ≡ role_among (set f t (Some tree)) n
  role_opened n out other =
      role_put f t g at n tree
      (ap (λ es. is_in (plus_names g.root es) n) was
      ∙ (plus_under g.root n newer (e ∷ older) (opened_branches e.parent e.tree from way e.matched e.plus ++ older)
      (sym (plus_beside_way g.root n e.parent e.tree from way e.matched e.plus older out))
      ∙ (ap (λ es. is_in (plus_names g.root es) n) (sym now) ∙ ap (λ r. is_in (plus_names r tree.branches) n) (sym root))))
      (ap (λ es. is_in (minus_names es) n) was
      ∙ (minus_under g.root n newer (e ∷ older) (opened_branches e.parent e.tree from way e.matched e.plus ++ older)
      (ap (λ b. b || is_in (minus_names older) n)
      (false_from_ne_true (e.minus == n) (λ h. other (sym (eqb-true e.minus n h))))
      ∙ sym (minus_beside_way g.root n e.parent e.tree from way e.matched e.plus older out))
      ∙ ap (λ es. is_in (minus_names es) n) (sym now)))

  -- the nodes on the way are in the tree then
  way_inside : (n : ℕ) → is_in (along_way from way) n ≡ true → is_node tree n ≡ true
  way_inside n on =
      ap (λ es. is_in (tree_names tree.root es) n) now
      ∙ (ap (λ l. is_in l n) (names-along tree.root (opened_tree newer e older from way))
      ∙ is_in-left _ (tree.root ∷ []) n
      (sym (same_permuted _ (along_way from way ++ along_beside newer e older) (along_after newer e older from way) n)
      ∙ is_in-left (along_way from way) (along_beside newer e older) n on))

  -- the blossom stops, and the nodes on the way are given their roles
  pub paced_opened : {S : Type 0} (name : ℕ) → e.minus ≡ name → (w : GrowingValue) → IsGrowing w → w.forest ≡ set f t (Some tree)
      → (nodes : List Node) → w.part.nodes ≡ moves.split_nodes name nodes → is_live nodes name ≡ true → (old mid before after : Paced S)
      → AreInPace old f → ((n : ℕ) → pace_in mid n ≡ cond ((n == name) && is_live nodes name) Out (pace_in old n))
      → before.nodes ≡ moves.split_nodes name nodes → ((n : ℕ) → pace_in before n ≡ pace_in mid n)
      → ((n : ℕ) → pace_in after n
      ≡ cond (is_in (along_way from way) n && is_live before.nodes n) (role_among (set f t (Some tree)) n) (pace_in before n))
      → AreInPace after (set f t (Some tree))
  paced_opened name named w are forest nodes are_split live old mid before after paced stopped split moved paces =
      paced_set before after f (set f t (Some tree)) (is_in (along_way from way)) there (λ n out. same n out (n == name) refl) paces
    where
      there : (n : ℕ) → is_in (along_way from way) n ≡ true → is_live before.nodes n ≡ true
      there n on =
          ap (λ ns. is_live ns n) (split ∙ sym are_split)
          ∙ live_in w are.state.0 are.state.1 t tree (ap (λ h. tree_at h t) forest ∙ set_here f t g tree at) n (way_inside n on)

      gone : is_live w.part.nodes name ≡ false
      gone =
          false_from_ne_true (is_live w.part.nodes name)
          (λ h.
          let (m, a, is) = live_among (moves.split_nodes name nodes) name (ap (λ ns. is_live ns name) (sym are_split) ∙ h) in
          (among_split name nodes m a).1 is)

      out_then : role_among (set f t (Some tree)) name ≡ Out
      out_then =
          ap (λ h. role_among h name) (sym forest)
          ∙ sym (role_of_none w.forest name (new_outside w are.state.0 are.state.1 name gone))

      same : (n : ℕ) → is_in (along_way from way) n ≡ false → (b : Bool) → (n == name) ≡ b
          → pace_in before n ≡ role_among (set f t (Some tree)) n
      same n out true is =
          moved n
          ∙ (stopped n
          ∙ (ap (λ b. cond (b && is_live nodes name) Out (pace_in old n)) is
          ∙ (ap (λ b. cond b Out (pace_in old n)) live
          ∙ (sym out_then ∙ ap (role_among (set f t (Some tree))) (sym (eqb-true n name is))))))
      same n out false is =
          moved n
          ∙ (stopped n
          ∙ (ap (λ b. cond (b && is_live nodes name) Out (pace_in old n)) is
          ∙ (paced n ∙ role_opened n out (λ e_is. both_ways (n == name) is (eq-eqb n name (e_is ∙ named))))))

many_join : (g : Grown) (gone : List ℕ) (s : CycleStep) → 3 ≤ length gone → MayReplace g gone (s ∷ []) → MayJoin g gone s.node
many_join g [] s many may = absurd (omega (arith, many))
many_join g (m ∷ []) s many may = absurd (omega (arith, many))
many_join g (m ∷ n ∷ ns) s many may = may

-- the nodes of a cycle and their blossom move by the trees that have the blossom
pub ring_paced : {S : Type 0} (w : GrowingValue) (a b closing : ℕ) (closes : ClosesIn w a b closing) (steps : List CycleStep)
    (is : IsCycle closes.grown a b closing steps) (name : ℕ) (store : List (Option blossoms.Node))
    (adds : Adds w.part.store store name (blossoms.blossom w.part.store steps)) (gone : List ℕ) (same : gone ≡ nodes_of steps) (link : ℕ)
    (forest : List (Option Grown))
    (replaced : IsReplacedIn w.forest gone (record { node = name; link = link } ∷ []) closes.tree closes.grown forest)
    (old before mid after : Paced S) → before ≡ record old { nodes = moves.joined_nodes name gone w.part.nodes } → IsRepaced before mid
    → AreInPace old w.forest
    → ((n : ℕ) → pace_in mid n ≡ cond (is_in gone n && is_live before.nodes n) (role_among forest n) (pace_in before n))
    → ((n : ℕ) → pace_in after n ≡ cond (is_in (name ∷ []) n && is_live mid.nodes n) (role_among forest n) (pace_in mid n))
    → AreInPace after forest
ring_paced {S} w a b closing closes steps is name store adds gone same link forest replaced old before mid after made repaced paced =
    subst
    (λ (h : List (Option Grown)).
    ((n : ℕ) → pace_in mid n ≡ cond (is_in gone n && is_live before.nodes n) (role_among h n) (pace_in before n))
    → ((n : ℕ) → pace_in after n ≡ cond (is_in (name ∷ []) n && is_live mid.nodes n) (role_among h n) (pace_in mid n))
    → AreInPace after h)
    (sym (forest_is w a b closing closes steps is name store adds gone same link forest replaced))
    (paced_joined w.forest closes.tree closes.grown closes.at gone name
    (many_join closes.grown gone (record { node = name; link = link })
    (subst (λ ns. 3 ≤ length ns) (sym same) joins.many.three)
    (subst (λ ns. MayReplace closes.grown ns (record { node = name; link = link } ∷ [])) (sym same)
    (steps_replaced w.part closes.grown closes.growing.state.0 a b closing (ring_closes w a b closing closes) steps is name link fresh)))
    w.part.nodes (subst (moves.MayJoin w.part.nodes name) (sym same) joins) before mid after (ap (λ r. r.nodes) made) repaced
    (λ n. ap (λ r. pace_in r n) made ∙ paced n))
  where
    fresh : is_live w.part.nodes name ≡ false
    fresh = ring_new w a b closing closes steps is name store adds

    joins : moves.MayJoin w.part.nodes name (nodes_of steps)
    joins = steps_join w.part closes.grown closes.growing.state.0 a b closing (ring_closes w a b closing closes) steps is name fresh

-- the children of a minus blossom that is opened move by the trees that have them
module _ (w : GrowingValue) (t : ℕ) (g : Grown) (at : tree_at w.forest t ≡ Some g) (are : IsGrowing w) (name : ℕ)
    (e : EntryOf ℕ) (above below : ℕ) (opens : Opens (alone w t g) name e above below) (links : Table)
    (store : List (Option blossoms.Node)) (tree : Grown) (watched : Watched)
    (has : HasOpened (alone w t g) name above below links store tree watched) (minus : shrinks (role_among w.forest name) ≡ true)
    (limits : IsWithinLimits (problem_in w.part)) (final : Watched)
    (enters : EntersWay (moves.split_nodes name w.part.nodes) (role_among (set w.forest t (Some tree)))
    (way (alone w t g) name e above below (opening_among w t g at are) opens) watched final) where
  pub open_paced : {S : Type 0} (old mid before after : Paced S) → AreInPace old w.forest
      → ((n : ℕ) → pace_in mid n ≡ cond ((n == name) && is_live w.part.nodes name) Out (pace_in old n))
      → before.nodes ≡ moves.split_nodes name w.part.nodes → ((n : ℕ) → pace_in before n ≡ pace_in mid n)
      → ((n : ℕ) → pace_in after n
      ≡ cond (is_in (nodes_of (way (alone w t g) name e above below (opening_among w t g at are) opens)) n && is_live before.nodes n)
      (role_among (set w.forest t (Some tree)) n) (pace_in before n))
      → AreInPace after (set w.forest t (Some tree))
  open_paced old mid before after paced stopped split moved paces =
      paced_opened w.forest t g tree at opens.branch.newer e opens.branch.older above
      (way_of (way (alone w t g) name e above below (opening_among w t g at are) opens)) opens.branch.there has.grown.root
      (branches_are (alone w t g) name e above below (opening_among w t g at are) opens links store tree watched has) name
      opens.branch.minus (record (opened_growing w t g at are name e above below opens links store tree watched has) { watched = final })
      (ring_opened w t g at are name e above below opens links store tree watched has minus limits final enters) refl w.part.nodes refl
      opens.may_split.live old mid before after paced stopped split moved
      (subst
      (λ (ns : List ℕ). (n : ℕ) → pace_in after n
      ≡ cond (is_in ns n && is_live before.nodes n) (role_among (set w.forest t (Some tree)) n) (pace_in before n))
      (way_named (alone w t g) name e above below (opening_among w t g at are) opens) paces)
