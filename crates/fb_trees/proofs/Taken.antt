-- The branches that a blossom takes in, of a tree with its links in another form.
use Rattle.std.proofs.Common.{ℕ, ◌≡◌, Bool, true, false, List, map}
use Rattle.fb_graph.specs.Laws.{Link}
use Rattle.fb_laws.specs.Trees.{EntryOf}
use Rattle.fb_laws.specs.SearchBlossoms.{AreBranches}
use Rattle.fb_trees.specs.Rooted.{AreTakenIn}
use Rattle.fb_trees.specs.TreeLinks.{map_entry}
use Rattle.fb_graph.proofs.Among.{All_unmapped}

pub taken_from : (f : ℕ → Link) (joined : ℕ → Bool) (base root : ℕ) (tree : List (EntryOf ℕ))
    → AreBranches joined base root (map (map_entry f) tree) → AreTakenIn joined base root tree
taken_from f joined base root tree are = record {
  inner = All_unmapped (λ e. joined e.minus ≡ true → (joined e.parent ≡ true) × (joined e.plus ≡ true)) (map_entry f) tree are.inner;
  outer = All_unmapped (λ e. joined e.minus ≡ false → joined e.plus ≡ true → e.plus ≡ base) (map_entry f) tree are.outer;
  roots = are.roots;
}
