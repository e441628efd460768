-- A tree stays rooted where nodes are replaced.
use Rattle.std.proofs.Common.{ℕ, ◌≡◌, ◌==◌, ◌⊎◌, ◌%◌, not, inl, inr, cond, Bool, true, false, List, [], ◌∷◌, ◌++◌, map, length, refl, sym, ap, ◌∙◌, subst, arith, append_assoc}
use Rattle.std.proofs.lemmas.Bool.{both_ways, cases_Bool, eq-eqb, eqb-true, false_from_ne_true, false≢true, or_from, or_left, or_parts}
use Rattle.std.proofs.lemmas.List.{map-append}
use Rattle.std.proofs.lemmas.List.Elements.{All-head, All-map, All-tail}
use Rattle.fb_graph.specs.Parity.{is_in}
use Rattle.fb_graph.specs.Certificate.{AreDistinct}
use Rattle.fb_graph.specs.Dual.{AreApart}
use Rattle.fb_graph.proofs.Sets.{is_in-cases, is_in-head, is_in-tail}
use Rattle.fb_links.specs.declared.cycle.CycleStep.{CycleStep}
use Rattle.fb_laws.specs.Trees.{EntryOf, plus_names, tree_names}
use Rattle.fb_laws.specs.SearchBlossoms.{AreBranches, joined_tree, outer_branches, renamed_name, renamed_entry}
use Rattle.fb_laws.specs.OpenedCycles.{PassOf, opened_branches, opened_tree}
use Rattle.fb_laws.proofs.JoinedTrees as laws
use Rattle.fb_laws.proofs.JoinedTrees.{distinct_kept}
use Rattle.fb_laws.proofs.OpenedCycles.{still_plus}
use Rattle.fb_trees.specs.Branches.{Grown}
use Rattle.fb_trees.specs.Replacements.{MayJoin, MayOpen, first_node, way_from, way_of}
use Rattle.fb_trees.specs.Rooted.{AreHung, AreTakenIn, IsRooted, is_node}
use Rattle.fb_trees.specs.TreeLinks.{map_entry, map_pass}
use Rattle.fb_trees.proofs.Mapped.{joined_moved, names_moved, opened_moved, plus_moved}
use Rattle.fb_trees.proofs.Names.{no_link}

-- a blossom formed
taken_tail : (inside : ℕ → Bool) (base root : ℕ) (e : EntryOf ℕ) (es : List (EntryOf ℕ)) → AreTakenIn inside base root (e ∷ es)
    → AreTakenIn inside base root es
taken_tail inside base root e es are = record {
  inner = All-tail (λ x. inside x.minus ≡ true → (inside x.parent ≡ true) × (inside x.plus ≡ true)) e es are.inner;
  outer = All-tail (λ x. inside x.minus ≡ false → inside x.plus ≡ true → x.plus ≡ base) e es are.outer;
  roots = are.roots;
}

module _ (inside : ℕ → Bool) (name base root : ℕ) where
  abbrev new_tree : List (EntryOf ℕ) → List (EntryOf ℕ)
  new_tree es = joined_tree inside name es

  abbrev new_name : ℕ → ℕ
  new_name n = renamed_name inside name n

  -- what holds of the new tree, by whether the first branch is taken in
  by_first : (P : List (EntryOf ℕ) → Type 0) (e : EntryOf ℕ) (es : List (EntryOf ℕ))
      → (inside e.minus ≡ true → P (new_tree es)) → (inside e.minus ≡ false → P (renamed_entry inside name e ∷ new_tree es)) → P (new_tree (e ∷ es))
  by_first P e es taken left = step (cases_Bool (inside e.minus))
    where
      step : (inside e.minus ≡ true) ⊎ (inside e.minus ≡ false)
          → P (map (renamed_entry inside name) (cond (not (inside e.minus)) (e ∷ outer_branches inside es) (outer_branches inside es)))
      step (inl h) =
          subst (λ b. P (map (renamed_entry inside name) (cond (not b) (e ∷ outer_branches inside es) (outer_branches inside es)))) (sym h) (taken h)
      step (inr h) =
          subst (λ b. P (map (renamed_entry inside name) (cond (not b) (e ∷ outer_branches inside es) (outer_branches inside es)))) (sym h) (left h)

  plus_kept : (es : List (EntryOf ℕ)) → AreHung root es → AreTakenIn inside base root es → (n : ℕ) → is_in (plus_names root es) n ≡ true
      → is_in (plus_names (new_name root) (new_tree es)) (new_name n) ≡ true
  plus_kept [] hung are n within = by (is_in-cases root [] n within)
    where
      by : (root ≡ n) ⊎ (is_in [] n ≡ true) → is_in (new_name root ∷ []) (new_name n) ≡ true
      by (inl same) = subst (λ m. is_in (new_name root ∷ []) (new_name m) ≡ true) same (is_in-head (new_name root) [])
      by (inr none) = absurd (false≢true none)
  plus_kept (e ∷ es) (hung, older) are n within =
      by_first (λ l. is_in (plus_names (new_name root) l) (new_name n) ≡ true) e es
      (λ h. taken h (is_in-cases e.plus (plus_names root es) n within) (plus_kept es older (taken_tail inside base root e es are)))
      (λ h. left (is_in-cases e.plus (plus_names root es) n within) (plus_kept es older (taken_tail inside base root e es are)))
    where
      Rest : Type 0
      Rest = (m : ℕ) → is_in (plus_names root es) m ≡ true → is_in (plus_names (new_name root) (new_tree es)) (new_name m) ≡ true

      taken : inside e.minus ≡ true → (e.plus ≡ n) ⊎ (is_in (plus_names root es) n ≡ true) → Rest
          → is_in (plus_names (new_name root) (new_tree es)) (new_name n) ≡ true
      taken h (inl same) rest =
          let both = All-head (λ x. inside x.minus ≡ true → (inside x.parent ≡ true) × (inside x.plus ≡ true)) e es are.inner h in
          subst (λ m. is_in (plus_names (new_name root) (new_tree es)) m ≡ true)
          (ap (λ b. cond b name e.parent) both.0 ∙ (sym (ap (λ b. cond b name e.plus) both.1) ∙ ap new_name same)) (rest e.parent hung)
      taken h (inr there) rest = rest n there

      left : (e.plus ≡ n) ⊎ (is_in (plus_names root es) n ≡ true) → Rest
          → is_in (new_name e.plus ∷ plus_names (new_name root) (new_tree es)) (new_name n) ≡ true
      left (inl same) rest =
          subst (λ m. is_in (new_name e.plus ∷ plus_names (new_name root) (new_tree es)) (new_name m) ≡ true) same
          (is_in-head (new_name e.plus) (plus_names (new_name root) (new_tree es)))
      left (inr there) rest = is_in-tail (new_name e.plus) (plus_names (new_name root) (new_tree es)) (new_name n) (rest n there)

  hung_kept : (es : List (EntryOf ℕ)) → AreHung root es → AreTakenIn inside base root es → AreHung (new_name root) (new_tree es)
  hung_kept [] hung are = tt
  hung_kept (e ∷ es) (hung, older) are =
      by_first (AreHung (new_name root)) e es
      (λ h. hung_kept es older (taken_tail inside base root e es are))
      (λ h. (
        plus_kept es older (taken_tail inside base root e es are) e.parent hung,
        hung_kept es older (taken_tail inside base root e es are),
      ))

  linked_taken : (es : List (EntryOf ℕ)) → AreTakenIn inside base root es → AreBranches inside base root (map (map_entry no_link) es)
  linked_taken es are = record {
    inner = All-map (λ x. inside x.minus ≡ true → (inside x.parent ≡ true) × (inside x.plus ≡ true)) (map_entry no_link) es are.inner;
    outer = All-map (λ x. inside x.minus ≡ false → inside x.plus ≡ true → x.plus ≡ base) (map_entry no_link) es are.outer;
    roots = are.roots;
  }

  names_kept : (es : List (EntryOf ℕ)) → AreTakenIn inside base root es → AreDistinct (tree_names root es)
      → is_in (tree_names root es) name ≡ false → AreDistinct (tree_names (new_name root) (new_tree es))
  names_kept es are distinct fresh =
      subst AreDistinct
      (ap (tree_names (new_name root)) (joined_moved no_link inside name es) ∙ names_moved no_link (new_name root) (new_tree es))
      (distinct_kept inside name base root (map (map_entry no_link) es) (linked_taken es are)
      (subst AreDistinct (sym (names_moved no_link root es)) distinct)
      (ap (λ l. is_in l name) (names_moved no_link root es) ∙ fresh))

pub joined_rooted : (t : Grown) (gone : List ℕ) (name : ℕ) → IsRooted t.root t.branches → MayJoin t gone name
    → IsRooted (renamed_name (is_in gone) name t.root) (joined_tree (is_in gone) name t.branches)
joined_rooted t gone name rooted may = record {
  names = names_kept (is_in gone) name may.base t.root t.branches may.taken rooted.names may.fresh;
  hung = hung_kept (is_in gone) name may.base t.root t.branches rooted.hung may.taken;
}

-- its nodes are old ones, and the blossom
pub joined_names : (t : Grown) (gone : List ℕ) (name : ℕ) → MayJoin t gone name → (n : ℕ)
    → is_in (tree_names (renamed_name (is_in gone) name t.root) (joined_tree (is_in gone) name t.branches)) n ≡ true
    → (is_node t n ≡ true) ⊎ (n ≡ name)
joined_names t gone name may n within =
    by
    (laws.names_kept (is_in gone) name may.base t.root (map (map_entry no_link) t.branches)
    (linked_taken (is_in gone) name may.base t.root t.branches may.taken) n
    (ap (λ l. is_in l n)
    (ap (tree_names (renamed_name (is_in gone) name t.root)) (joined_moved no_link (is_in gone) name t.branches)
    ∙ names_moved no_link (renamed_name (is_in gone) name t.root) (joined_tree (is_in gone) name t.branches))
    ∙ within))
  where
    by : (is_in (tree_names t.root (map (map_entry no_link) t.branches)) n ≡ true) × (is_in gone n ≡ false)
        ⊎ (n ≡ name) × (is_in (tree_names t.root (map (map_entry no_link) t.branches)) may.base ≡ true)
        → (is_node t n ≡ true) ⊎ (n ≡ name)
    by (inl (old, out)) = inl (ap (λ l. is_in l n) (sym (names_moved no_link t.root t.branches)) ∙ old)
    by (inr (new, base)) = inr new

-- a blossom opened: the nodes of a way
abbrev nodes_on : ℕ → List (PassOf ℕ) → List ℕ
nodes_on from [] = from ∷ []
nodes_on from (s ∷ ss) = from ∷ s.plus ∷ nodes_on s.minus ss

-- the branches along a way on older ones
record IsOnto (root : ℕ) (older : List (EntryOf ℕ)) (parent minus : ℕ) (way : List (PassOf ℕ)) (plus : ℕ) : Type 0 where
  pub hung : AreHung root older
  pub parent_in : is_in (plus_names root older) parent ≡ true
  pub names : AreDistinct (tree_names root older)
  pub distinct : AreDistinct (nodes_on minus way)
  pub new : AreApart (nodes_on minus way) (tree_names root older)
  pub plus_new : is_in (tree_names root older) plus ≡ false
  pub plus_apart : is_in (nodes_on minus way) plus ≡ false

onto_next : (root : ℕ) (older : List (EntryOf ℕ)) (parent tree minus : ℕ) (s : PassOf ℕ) (ss : List (PassOf ℕ)) (plus : ℕ)
    → IsOnto root older parent minus (s ∷ ss) plus
    → IsOnto root (record { parent = parent; tree = tree; minus = minus; matched = s.matched; plus = s.plus } ∷ older) s.plus s.minus ss plus
onto_next root older parent tree minus s ss plus onto =
    let (minus_fresh, (s_fresh, distinct)) = onto.distinct in
    let (not_minus, rest) = or_parts (minus == plus) (is_in (s.plus ∷ nodes_on s.minus ss) plus) onto.plus_apart in
    let (not_plus, apart) = or_parts (s.plus == plus) (is_in (nodes_on s.minus ss) plus) rest in
    record {
      hung = (onto.parent_in, onto.hung);
      parent_in = is_in-head s.plus (plus_names root older);
      names = (
        or_from (s.plus == minus) (is_in (tree_names root older) minus)
            (false_from_ne_true (s.plus == minus)
            (λ same.
            both_ways (is_in (s.plus ∷ nodes_on s.minus ss) minus) minus_fresh
            (or_left (s.plus == minus) (is_in (nodes_on s.minus ss) minus) same)))
            (onto.new minus (is_in-head minus (s.plus ∷ nodes_on s.minus ss))),
        (onto.new s.plus (is_in-tail minus (s.plus ∷ nodes_on s.minus ss) s.plus (is_in-head s.plus (nodes_on s.minus ss))), onto.names),
      );
      distinct = distinct;
      new = λ n within.
          or_from (minus == n) (is_in (s.plus ∷ tree_names root older) n)
          (false_from_ne_true (minus == n)
          (λ same.
          both_ways (is_in (s.plus ∷ nodes_on s.minus ss) minus) minus_fresh
          (is_in-tail s.plus (nodes_on s.minus ss) minus (ap (is_in (nodes_on s.minus ss)) (eqb-true minus n same) ∙ within))))
          (or_from (s.plus == n) (is_in (tree_names root older) n)
          (false_from_ne_true (s.plus == n)
          (λ same. both_ways (is_in (nodes_on s.minus ss) s.plus) s_fresh (ap (is_in (nodes_on s.minus ss)) (eqb-true s.plus n same) ∙ within)))
          (onto.new n (is_in-tail minus (s.plus ∷ nodes_on s.minus ss) n (is_in-tail s.plus (nodes_on s.minus ss) n within))));
      plus_new = or_from (minus == plus) (is_in (s.plus ∷ tree_names root older) plus) not_minus
          (or_from (s.plus == plus) (is_in (tree_names root older) plus) not_plus onto.plus_new);
      plus_apart = apart;
    }

-- they are rooted, and have no other names
record IsLaid (root : ℕ) (older laid : List (EntryOf ℕ)) (nodes : List ℕ) (plus : ℕ) : Type 0 where
  pub rooted : IsRooted root laid
  pub within : (n : ℕ) → is_in (tree_names root laid) n ≡ true
      → (is_in nodes n ≡ true) ⊎ (is_in (plus ∷ tree_names root older) n ≡ true)

laid_on : (root : ℕ) (older : List (EntryOf ℕ)) (parent tree minus : ℕ) (way : List (PassOf ℕ)) (matched plus : ℕ)
    → IsOnto root older parent minus way plus
    → IsLaid root older (opened_branches parent tree minus way matched plus ++ older) (nodes_on minus way) plus
laid_on root older parent tree minus [] matched plus onto = record {
  rooted = record {
    names = (
      or_from (plus == minus) (is_in (tree_names root older) minus)
          (false_from_ne_true (plus == minus)
          (λ same.
          both_ways (is_in (minus ∷ []) plus) onto.plus_apart (subst (λ n. is_in (minus ∷ []) n ≡ true) (sym (eqb-true plus minus same)) (is_in-head minus []))))
          (onto.new minus (is_in-head minus [])),
      (onto.plus_new, onto.names),
    );
    hung = (onto.parent_in, onto.hung);
  };
  within = λ n among. by n (is_in-cases minus (plus ∷ tree_names root older) n among);
}
  where
    by : (n : ℕ) → (minus ≡ n) ⊎ (is_in (plus ∷ tree_names root older) n ≡ true)
        → (is_in (minus ∷ []) n ≡ true) ⊎ (is_in (plus ∷ tree_names root older) n ≡ true)
    by n (inl same) = inl (subst (λ m. is_in (minus ∷ []) m ≡ true) same (is_in-head minus []))
    by n (inr there) = inr there
laid_on root older parent tree minus (s ∷ ss) matched plus onto =
    let rest = laid_on root (first ∷ older) s.plus s.tree s.minus ss matched plus (onto_next root older parent tree minus s ss plus onto) in
    subst (λ l. IsLaid root older l (minus ∷ s.plus ∷ nodes_on s.minus ss) plus)
    (sym (append_assoc (opened_branches s.plus s.tree s.minus ss matched plus) (first ∷ []) older))
    (record { rooted = rest.rooted; within = λ n among. by n (rest.within n among) })
  where
    first : EntryOf ℕ
    first = record { parent = parent; tree = tree; minus = minus; matched = s.matched; plus = s.plus }

    old : (n : ℕ) → (minus ≡ n) ⊎ (is_in (s.plus ∷ tree_names root older) n ≡ true)
        → (is_in (minus ∷ s.plus ∷ nodes_on s.minus ss) n ≡ true) ⊎ (is_in (plus ∷ tree_names root older) n ≡ true)
    old n (inl same) = inl (or_left (minus == n) (is_in (s.plus ∷ nodes_on s.minus ss) n) (eq-eqb minus n same))
    old n (inr there) = later (is_in-cases s.plus (tree_names root older) n there)
      where
        later : (s.plus ≡ n) ⊎ (is_in (tree_names root older) n ≡ true)
            → (is_in (minus ∷ s.plus ∷ nodes_on s.minus ss) n ≡ true) ⊎ (is_in (plus ∷ tree_names root older) n ≡ true)
        later (inl same) = inl (is_in-tail minus (s.plus ∷ nodes_on s.minus ss) n (or_left (s.plus == n) (is_in (nodes_on s.minus ss) n) (eq-eqb s.plus n same)))
        later (inr below) = inr (is_in-tail plus (tree_names root older) n below)

    by : (n : ℕ) → (is_in (nodes_on s.minus ss) n ≡ true) ⊎ (is_in (plus ∷ minus ∷ s.plus ∷ tree_names root older) n ≡ true)
        → (is_in (minus ∷ s.plus ∷ nodes_on s.minus ss) n ≡ true) ⊎ (is_in (plus ∷ tree_names root older) n ≡ true)
    by n (inl there) = inl (is_in-tail minus (s.plus ∷ nodes_on s.minus ss) n (is_in-tail s.plus (nodes_on s.minus ss) n there))
    by n (inr there) = which (is_in-cases plus (minus ∷ s.plus ∷ tree_names root older) n there)
      where
        which : (plus ≡ n) ⊎ (is_in (minus ∷ s.plus ∷ tree_names root older) n ≡ true)
            → (is_in (minus ∷ s.plus ∷ nodes_on s.minus ss) n ≡ true) ⊎ (is_in (plus ∷ tree_names root older) n ≡ true)
        which (inl same) = inr (or_left (plus == n) (is_in (tree_names root older) n) (eq-eqb plus n same))
        which (inr below) = old n (is_in-cases minus (s.plus ∷ tree_names root older) n below)

-- what was plus still is
plus_stays : (newer older : List (EntryOf ℕ)) (e : EntryOf ℕ) (root from n : ℕ) (way : List (PassOf ℕ))
    → is_in (plus_names root (newer ++ e ∷ older)) n ≡ true → is_in (plus_names root (opened_tree newer e older from way)) n ≡ true
plus_stays newer older e root from n way plus =
    ap (λ l. is_in l n)
    (sym (ap (plus_names root) (opened_moved no_link newer older e from way) ∙ plus_moved no_link root (opened_tree newer e older from way)))
    ∙ still_plus (map (map_entry no_link) newer) (map (map_entry no_link) older) (map_entry no_link e) root from n (map (map_pass no_link) way)
    (ap (λ l. is_in l n)
    (ap (plus_names root) (sym (map-append (map_entry no_link) newer (e ∷ older))) ∙ plus_moved no_link root (newer ++ e ∷ older))
    ∙ plus)

record IsLaidIn (root : ℕ) (newer older : List (EntryOf ℕ)) (e : EntryOf ℕ) (from : ℕ) (way : List (PassOf ℕ)) : Type 0 where
  pub rooted : IsRooted root (opened_tree newer e older from way)
  pub within : (n : ℕ) → is_in (tree_names root (opened_tree newer e older from way)) n ≡ true
      → (is_in (nodes_on from way) n ≡ true) ⊎ (is_in (tree_names root (newer ++ e ∷ older)) n ≡ true)

laid_in : (root : ℕ) (newer older : List (EntryOf ℕ)) (e : EntryOf ℕ) (from : ℕ) (way : List (PassOf ℕ))
    → IsRooted root (newer ++ e ∷ older) → AreDistinct (nodes_on from way)
    → AreApart (nodes_on from way) (tree_names root (newer ++ e ∷ older)) → IsLaidIn root newer older e from way
laid_in root [] older e from way rooted distinct new =
    let laid = laid_on root older e.parent e.tree from way e.matched e.plus (record {
      hung = rooted.hung.1;
      parent_in = rooted.hung.0;
      names = rooted.names.1.1;
      distinct = distinct;
      new = λ n among. (or_parts (e.plus == n) (is_in (tree_names root older) n)
          (or_parts (e.minus == n) (is_in (e.plus ∷ tree_names root older) n) (new n among)).1).1;
      plus_new = rooted.names.1.0;
      plus_apart = false_from_ne_true (is_in (nodes_on from way) e.plus)
          (λ among.
          both_ways (is_in (e.minus ∷ e.plus ∷ tree_names root older) e.plus) (new e.plus among)
          (is_in-tail e.minus (e.plus ∷ tree_names root older) e.plus (is_in-head e.plus (tree_names root older))));
    }) in
    record { rooted = laid.rooted; within = λ n among. by n (laid.within n among) }
  where
    by : (n : ℕ) → (is_in (nodes_on from way) n ≡ true) ⊎ (is_in (e.plus ∷ tree_names root older) n ≡ true)
        → (is_in (nodes_on from way) n ≡ true) ⊎ (is_in (e.minus ∷ e.plus ∷ tree_names root older) n ≡ true)
    by n (inl there) = inl there
    by n (inr there) = inr (is_in-tail e.minus (e.plus ∷ tree_names root older) n there)
laid_in root (x ∷ xs) older e from way rooted distinct new =
    let rest = laid_in root xs older e from way (record { names = rooted.names.1.1; hung = rooted.hung.1 }) distinct
    (λ n among. (or_parts (x.plus == n) (is_in (tree_names root (xs ++ e ∷ older)) n)
    (or_parts (x.minus == n) (is_in (x.plus ∷ tree_names root (xs ++ e ∷ older)) n) (new n among)).1).1) in
    let minus_parts = or_parts (x.plus == x.minus) (is_in (tree_names root (xs ++ e ∷ older)) x.minus) rooted.names.0 in
    record {
      rooted = record {
        names = (
          or_from (x.plus == x.minus) (is_in (tree_names root (opened_tree xs e older from way)) x.minus) minus_parts.0
              (apart x.minus minus_parts.1 (is_in-head x.minus (x.plus ∷ tree_names root (xs ++ e ∷ older))) rest.within),
          (
            apart x.plus rooted.names.1.0
                (is_in-tail x.minus (x.plus ∷ tree_names root (xs ++ e ∷ older)) x.plus (is_in-head x.plus (tree_names root (xs ++ e ∷ older))))
                rest.within,
            rest.rooted.names,
          ),
        );
        hung = (plus_stays xs older e root from x.parent way rooted.hung.0, rest.rooted.hung);
      };
      within = λ n among.
          first n rest.within (is_in-cases x.minus (x.plus ∷ tree_names root (opened_tree xs e older from way)) n among);
    }
  where
    Within : Type 0
    Within = (n : ℕ) → is_in (tree_names root (opened_tree xs e older from way)) n ≡ true
        → (is_in (nodes_on from way) n ≡ true) ⊎ (is_in (tree_names root (xs ++ e ∷ older)) n ≡ true)

    apart : (m : ℕ) → is_in (tree_names root (xs ++ e ∷ older)) m ≡ false
        → is_in (x.minus ∷ x.plus ∷ tree_names root (xs ++ e ∷ older)) m ≡ true → Within
        → is_in (tree_names root (opened_tree xs e older from way)) m ≡ false
    apart m fresh here within =
        false_from_ne_true (is_in (tree_names root (opened_tree xs e older from way)) m) (λ there. by (within m there))
      where
        by : (is_in (nodes_on from way) m ≡ true) ⊎ (is_in (tree_names root (xs ++ e ∷ older)) m ≡ true) → ⊥
        by (inl on) = both_ways (is_in (x.minus ∷ x.plus ∷ tree_names root (xs ++ e ∷ older)) m) (new m on) here
        by (inr old) = both_ways (is_in (tree_names root (xs ++ e ∷ older)) m) fresh old

    Goal : ℕ → Type 0
    Goal n = (is_in (nodes_on from way) n ≡ true) ⊎ (is_in (x.minus ∷ x.plus ∷ tree_names root (xs ++ e ∷ older)) n ≡ true)

    last : (n : ℕ) → (is_in (nodes_on from way) n ≡ true) ⊎ (is_in (tree_names root (xs ++ e ∷ older)) n ≡ true) → Goal n
    last n (inl on) = inl on
    last n (inr old) =
        inr (is_in-tail x.minus (x.plus ∷ tree_names root (xs ++ e ∷ older)) n (is_in-tail x.plus (tree_names root (xs ++ e ∷ older)) n old))

    second : (n : ℕ) → Within → (x.plus ≡ n) ⊎ (is_in (tree_names root (opened_tree xs e older from way)) n ≡ true) → Goal n
    second n within (inl same) =
        inr (is_in-tail x.minus (x.plus ∷ tree_names root (xs ++ e ∷ older)) n
        (or_left (x.plus == n) (is_in (tree_names root (xs ++ e ∷ older)) n) (eq-eqb x.plus n same)))
    second n within (inr there) = last n (within n there)

    first : (n : ℕ) → Within → (x.minus ≡ n) ⊎ (is_in (x.plus ∷ tree_names root (opened_tree xs e older from way)) n ≡ true) → Goal n
    first n within (inl same) = inr (or_left (x.minus == n) (is_in (x.plus ∷ tree_names root (xs ++ e ∷ older)) n) (eq-eqb x.minus n same))
    first n within (inr there) = second n within (is_in-cases x.plus (tree_names root (opened_tree xs e older from way)) n there)

-- the nodes of an odd path are those of its way
path_nodes : (s : CycleStep) (ss : List CycleStep) → length ss % 2 ≡ 0
    → map (λ (x : CycleStep). x.node) (s ∷ ss) ≡ nodes_on s.node (way_from s ss)
path_nodes s [] even = refl
path_nodes s (t ∷ []) even = absurd (omega arith)
path_nodes s (t ∷ u ∷ us) even = ap (λ l. s.node ∷ t.node ∷ l) (path_nodes u us (omega arith))

odd_path_nodes : (path : List CycleStep) → length path % 2 ≡ 1
    → map (λ (x : CycleStep). x.node) path ≡ nodes_on (first_node path) (way_of path)
odd_path_nodes [] odd = absurd (omega arith)
odd_path_nodes (s ∷ ss) odd = path_nodes s ss (omega arith)

pub opened_rooted : (t : Grown) (name : ℕ) (path : List CycleStep) → IsRooted t.root t.branches → MayOpen t name path
    → (newer older : List (EntryOf ℕ)) (e : EntryOf ℕ) → t.branches ≡ newer ++ e ∷ older
    → IsRooted t.root (opened_tree newer e older (first_node path) (way_of path))
opened_rooted t name path rooted may newer older e is =
    let nodes = odd_path_nodes path may.odd in
    let laid = laid_in t.root newer older e (first_node path) (way_of path) (subst (IsRooted t.root) is rooted)
    (subst AreDistinct nodes may.distinct)
    (λ n among. ap (λ l. is_in (tree_names t.root l) n) (sym is) ∙ may.fresh n (ap (λ l. is_in l n) nodes ∙ among)) in
    laid.rooted

-- its nodes are old ones, and those of the path
pub opened_names : (t : Grown) (name : ℕ) (path : List CycleStep) → IsRooted t.root t.branches → MayOpen t name path
    → (newer older : List (EntryOf ℕ)) (e : EntryOf ℕ) → t.branches ≡ newer ++ e ∷ older → (n : ℕ)
    → is_in (tree_names t.root (opened_tree newer e older (first_node path) (way_of path))) n ≡ true
    → (is_node t n ≡ true) ⊎ (is_in (map (λ (x : CycleStep). x.node) path) n ≡ true)
opened_names t name path rooted may newer older e is n within =
    let nodes = odd_path_nodes path may.odd in
    let laid = laid_in t.root newer older e (first_node path) (way_of path) (subst (IsRooted t.root) is rooted)
    (subst AreDistinct nodes may.distinct)
    (λ m among. ap (λ l. is_in (tree_names t.root l) m) (sym is) ∙ may.fresh m (ap (λ l. is_in l m) nodes ∙ among)) in
    by nodes (laid.within n within)
  where
    by : map (λ (x : CycleStep). x.node) path ≡ nodes_on (first_node path) (way_of path)
        → (is_in (nodes_on (first_node path) (way_of path)) n ≡ true) ⊎ (is_in (tree_names t.root (newer ++ e ∷ older)) n ≡ true)
        → (is_node t n ≡ true) ⊎ (is_in (map (λ (x : CycleStep). x.node) path) n ≡ true)
    by nodes (inl new) = inr (ap (λ l. is_in l n) nodes ∙ new)
    by nodes (inr old) = inl (ap (λ l. is_in (tree_names t.root l) n) is ∙ old)
