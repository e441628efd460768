-- A dual state doesn't see the problem's own defects, only those of its nodes: so a scope without defects may keep it.
use Rattle.std.specs.Prelude.{ℕ, List}
use Rattle.fb_graph.specs.Problem.{Problem, with_defects}
use Rattle.fb_graph.specs.Dual.{Node, IsDual}
use Rattle.fb_graph.specs.Nests.{IsNest}
use Rattle.fb_graph.specs.SourceWalks.{HaveWalks}

-- It is one of the problem if and only if it is one of the problem with other defects.
abbrev pub DualExchanged : Type 0
DualExchanged = (p : Problem) (nodes : List Node) (defects : List ℕ)
    → (IsDual p nodes → IsDual (with_defects p defects) nodes) × (IsDual (with_defects p defects) nodes → IsDual p nodes)

-- So is a nest, and its source walks stay.
abbrev pub NestExchanged : Type 0
NestExchanged = (p : Problem) (nodes : List Node) (defects : List ℕ)
    → (IsNest p nodes → IsNest (with_defects p defects) nodes) × (IsNest (with_defects p defects) nodes → IsNest p nodes)

abbrev pub WalksExchanged : Type 0
WalksExchanged = (p : Problem) (nodes : List Node) (defects : List ℕ)
    → (HaveWalks p nodes → HaveWalks (with_defects p defects) nodes)
    × (HaveWalks (with_defects p defects) nodes → HaveWalks p nodes)
