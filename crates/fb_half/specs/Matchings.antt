-- Which outer nodes are matched, by which links, and which are not.
use Rattle.std.specs.Prelude.{ℕ, ◌≡◌, true, false, List, ◌∷◌, ◌++◌, All, flat_map, map, Option, Some, None, option_to_list}
use Rattle.fb_graph.specs.Parity.{is_in}
use Rattle.fb_graph.specs.Problem.{Problem}
use Rattle.fb_graph.specs.Certificate.{AreDistinct}
use Rattle.fb_graph.specs.Laws.{Link}
use Rattle.fb_graph.specs.Dual.{Node, is_live, is_outer}
use Rattle.fb_laws.specs.Searches.{LeavesNode}
use Rattle.fb_laws.specs.Trees.{Connects}
use Rattle.fb_links.specs.declared.walk.Step.{Step}
use Rattle.fb_half.specs.Translations.{link_by}
use Rattle.fb_half.specs.declared.matches.Match.{Match}

pub record MatchingValue : Type 0 where
  pub matches : List Match
  -- the names of the outer nodes without a match
  pub unmatched : List ℕ

-- the nodes that the match matches
abbrev pub names_of : Match → List ℕ
names_of m = m.first ∷ option_to_list m.second

abbrev pub matched_names : List Match → List ℕ
matched_names matches = flat_map names_of matches

abbrev pub match_links : List Match → List ℕ
match_links matches = map (λ m. m.link) matches

-- all nodes that the matching lists
abbrev pub listed_names : MatchingValue → List ℕ
listed_names m = m.unmatched ++ matched_names m.matches

-- the link leads from the one node to the other, or to the boundary
abbrev pub IsMatchOf : Problem → List Node → Link → ℕ → Option ℕ → Type 0
IsMatchOf p nodes l a None = (v : ℕ) × LeavesNode nodes l a v × (p.is_real v ≡ false)
IsMatchOf p nodes l a (Some b) = Connects nodes l a b

-- Each outer node is listed once: as unmatched, at a match, or among the others (those of a tree that grows); and each
-- match's link connects its nodes.
pub record IsMatchingOf (p : Problem) (nodes : List Node) (table : List (Option (List Step))) (m : MatchingValue) (others : List ℕ) : Type 0 where
  pub distinct : AreDistinct (listed_names m ++ others)
  pub live : (name : ℕ) → is_in (listed_names m ++ others) name ≡ true
      → (is_live nodes name ≡ true) × (is_outer nodes name ≡ true)
  pub all : (name : ℕ) → is_live nodes name ≡ true → is_outer nodes name ≡ true
      → is_in (listed_names m ++ others) name ≡ true
  pub connects : All (λ e. IsMatchOf p nodes (link_by table e.link) e.first e.second) m.matches
