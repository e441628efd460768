-- The branch of a minus node that has shrunk to its defect: its two links may be joined there, and close a cycle.
use Rattle.std.proofs.Common.{ℕ, ◌≡◌, ◌≢◌, ◌==◌, inl, inr, true, List, [], ◌∷◌, map, All, Some, refl, sym, ap, ◌∙◌, subst}
use Rattle.std.proofs.lemmas.Bool.{both_ways, eq-eqb}
use Rattle.std.proofs.lemmas.List.Elements.{All-cons, All-nil}
use Rattle.fb_graph.specs.Parity.{is_in}
use Rattle.fb_graph.specs.Problem.{Problem}
use Rattle.fb_graph.specs.Certificate.{AreDistinct}
use Rattle.fb_graph.specs.Dual.{Node, all_cuts, leaves}
use Rattle.fb_graph.specs.Laws.{Link}
use Rattle.fb_graph.specs.Links.{IsTightLink}
use Rattle.fb_graph.proofs.Among.{All_among, IsAmong, among_any, among_right, map_among}
use Rattle.fb_graph.proofs.Sets.{is_in-head, is_in-tail}
use Rattle.fb_laws.specs.Fusion.{IsLinkOf}
use Rattle.fb_laws.specs.LinkNumbers.{tree_links}
use Rattle.fb_laws.specs.Searches.{IsSearch}
use Rattle.fb_laws.specs.Trees.{Connects, Entry, EntryOf, IsTree, grown_links, paired_links, plus_names, tree_names}
use Rattle.fb_laws.specs.Works.{AreMatchedLinks}
use Rattle.fb_laws.specs.Opening.{EndsAtDefects}
use Rattle.fb_laws.proofs.OpenedCycles.{parent_plus}
use Rattle.fb_laws.proofs.SearchStates.{links_joined, links_left}
use Rattle.fb_laws.proofs.SearchTrees.{plus_in_tree}
use Rattle.fb_laws.proofs.TreePaths.{among_plus, tree_connects}
use Rattle.fb_links.specs.declared.walk.Step.{Step}
use Rattle.fb_links.specs.Table.{is_live, link_at, walk_at}
use Rattle.fb_links.specs.Walks.{joined_walk}
use Rattle.fb_trees.specs.Rooted.{IsBranchAt, IsPlus}
use Rattle.fb_trees.proofs.Mapped.{plus_moved}
use Rattle.fb_half.specs.Parts.{AreStepsOf, PartValue, problem_in}
use Rattle.fb_trees.specs.Branches.{Grown}
use Rattle.fb_graph.specs.Nests.{IsNest}
use Rattle.fb_half.specs.Translations.{entry_by, link_by}
use Rattle.fb_obstacles.specs.Obstacles.{IsZeroDefect}
use Rattle.fb_search.proofs.RoundedLinks.{AreRounded, links_rounded}
use Rattle.fb_search.proofs.StepWalks.{walk_there}
use Rattle.fb_graph.proofs.Floods.{is_in-left, is_in-right}

-- the three nodes of a branch are different
branch_apart : (nodes : List Node) (root : ℕ) (tree : List Entry) → AreDistinct (tree_names root tree)
    → IsTree nodes root tree → (e : Entry) → IsAmong e tree
    → (e.parent ≡ e.minus → ⊥) × (e.minus ≡ e.plus → ⊥) × (e.parent ≡ e.plus → ⊥)
branch_apart nodes root [] distinct joined_walk e a = absurd a
branch_apart nodes root (x ∷ xs) distinct joined_walk e (inr a) = branch_apart nodes root xs distinct.1.1 joined_walk.3 e a
branch_apart nodes root (x ∷ xs) distinct joined_walk e (inl same) =
    subst (λ y. (y.parent ≡ y.minus → ⊥) × (y.minus ≡ y.plus → ⊥) × (y.parent ≡ y.plus → ⊥)) same (
      λ clash.
          both_ways (is_in (x.plus ∷ tree_names root xs) x.minus) distinct.0
          (is_in-tail x.plus (tree_names root xs) x.minus (subst (λ n. is_in (tree_names root xs) n ≡ true) clash there)),
      λ clash.
          both_ways (is_in (x.plus ∷ tree_names root xs) x.minus) distinct.0
          (subst (λ n. is_in (x.plus ∷ tree_names root xs) n ≡ true) (sym clash) (is_in-head x.plus (tree_names root xs))),
      λ clash.
          both_ways (is_in (tree_names root xs) x.plus) distinct.1.0
          (subst (λ n. is_in (tree_names root xs) n ≡ true) clash there),
    )
  where
    there : is_in (tree_names root xs) x.parent ≡ true
    there = plus_in_tree root xs x.parent joined_walk.0

-- one of the links
pub link_among : (p : Problem) (nodes : List Node) (links : List Link) (l : Link) → AreMatchedLinks p nodes links
    → IsAmong l links → AreMatchedLinks p nodes (l ∷ [])
link_among p nodes links l are a = record {
  tight = one (IsTightLink p (all_cuts nodes)) are.tight;
  own = one (IsLinkOf p) are.own;
  at_defects = one
      (λ m.
      EndsAtDefects p (leaves nodes) m)
      are.at_defects;
}
  where
    one : (P : Link → Type 0) → All P links → All P (l ∷ [])
    one P all = All-cons P l [] (All_among P links all l a) (All-nil P)

-- the branch's links may be joined, and are then a link between its parent and its plus node
pub record IsRounding (part : PartValue) (tree : Grown) (e : EntryOf ℕ) : Type 0 where
  pub first : is_live part.links e.tree ≡ true
  pub second : is_live part.links e.matched ≡ true
  pub plus : IsPlus tree e.plus
  pub parent : IsPlus tree e.parent
  pub apart : e.plus ≢ e.parent
  pub links : AreRounded (problem_in part) part.nodes e.parent e.plus (walk_at part.links e.tree) (walk_at part.links e.matched)

-- so in a tree, whether or not others grow beside it
module _ (part : PartValue) (tree : Grown) (rest : List Link) (r : ℕ) (nest : IsNest (problem_in part) part.nodes)
    (search : IsSearch (problem_in part) part.nodes (map (entry_by part.links) tree.branches) rest part.matching.unmatched
    tree.root r)
    (live : (id : ℕ) → is_in (tree_links tree.branches) id ≡ true → is_live part.links id ≡ true)
    (steps : (id : ℕ) (walk : List Step) → link_at part.links id ≡ Some walk → AreStepsOf (problem_in part) walk)
    (name : ℕ) (e : EntryOf ℕ) (zero : IsZeroDefect part.nodes name) (at : IsBranchAt tree name e) where
  abbrev entries : List Entry
  entries = map (entry_by part.links) tree.branches

  abbrev entry : Entry
  entry = entry_by part.links e

  among : IsAmong e tree.branches
  among = subst (IsAmong e) (sym at.there) (among_right at.newer (e ∷ at.older) e (inl refl))

  listed : IsAmong entry entries
  listed = map_among (entry_by part.links) tree.branches e among

  connects : Connects part.nodes entry.tree e.parent e.minus × Connects part.nodes entry.matched e.minus e.plus
  connects = tree_connects part.nodes tree.root entries search.joined entry listed

  apart : (e.parent ≡ e.minus → ⊥) × (e.minus ≡ e.plus → ⊥) × (e.parent ≡ e.plus → ⊥)
  apart = branch_apart part.nodes tree.root entries search.names search.joined entry listed

  live_tree : is_live part.links e.tree ≡ true
  live_tree =
      live e.tree
      (is_in-left (grown_links tree.branches) (paired_links tree.branches) e.tree
      (among_any (λ id. id == e.tree) (grown_links tree.branches) e.tree
      (map_among (λ x. x.tree) tree.branches e among) (eq-eqb e.tree e.tree refl)))

  live_matched : is_live part.links e.matched ≡ true
  live_matched =
      live e.matched
      (is_in-right (grown_links tree.branches) (paired_links tree.branches) e.matched
      (among_any (λ id. id == e.matched) (paired_links tree.branches) e.matched
      (map_among (λ x. x.matched) tree.branches e among) (eq-eqb e.matched e.matched refl)))

  plus_of : (n : ℕ) → is_in (plus_names tree.root entries) n ≡ true → IsPlus tree n
  plus_of n h = sym (ap (λ names. is_in names n) (plus_moved (link_by part.links) tree.root tree.branches)) ∙ h

  pub rounding_in : IsRounding part tree e
  rounding_in = record {
    first = live_tree;
    second = live_matched;
    plus = plus_of e.plus (among_plus tree.root entries entry listed);
    parent = plus_of e.parent (parent_plus part.nodes tree.root entries search.joined entry listed);
    apart = λ same. apart.2 (sym same);
    links = links_rounded (problem_in part) part.nodes (walk_at part.links e.tree) (walk_at part.links e.matched) e.parent
        e.minus e.plus nest (subst (IsZeroDefect part.nodes) (sym at.minus) zero)
        (links_joined (problem_in part) part.nodes (link_by part.links e.tree ∷ []) (link_by part.links e.matched ∷ [])
        (link_among (problem_in part) part.nodes (grown_links entries) (link_by part.links e.tree) search.grown
        (map_among (λ x. x.tree) entries entry listed))
        (link_among (problem_in part) part.nodes (paired_links entries) (link_by part.links e.matched)
        (links_left (problem_in part) part.nodes (paired_links entries) rest search.matching.links_are)
        (map_among (λ x. x.matched) entries entry listed)))
        connects.0 connects.1 apart.0 apart.1 apart.2
        (steps e.tree (walk_at part.links e.tree) (walk_there part.links e.tree live_tree))
        (steps e.matched (walk_at part.links e.matched) (walk_there part.links e.matched live_matched));
  }
