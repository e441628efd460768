-- The links that solve a part, by their numbers: the matches, and for each blossom every second link of its ring from
-- the child on in which a link ends (Edmonds 1965). The blossom made last comes first.
use Rattle.std.specs.Prelude.{ℕ, ◌≡◌, ◌||◌, Bool, List, [], ◌∷◌, ◌++◌, map, Option}
use Rattle.std.specs.List.{list_any}
use Rattle.fb_graph.specs.Parity.{is_in}
use Rattle.fb_links.specs.declared.walk.Step.{Step}
use Rattle.fb_links.specs.Table.{walk_at}
use Rattle.fb_links.specs.Walks.{start_of, end_of}
use Rattle.fb_blossoms.specs.Nodes.{IsNested, defects_at}
use Rattle.fb_blossoms.specs.Nodes as blossoms
use Rattle.fb_laws.specs.OpenedLinks.{every_second, opened_links, place_of, round_from}
use Rattle.fb_half.specs.Translations.{children_at, link_by, ring_at}
use Rattle.fb_half.specs.Matchings.{match_links}
use Rattle.fb_half.specs.Parts.{IsPart, PartValue, state_of}

-- the node holds one of the walk's ends
abbrev pub holds_end : List ℕ → List Step → Bool
holds_end defects walk = is_in defects (start_of walk) || is_in defects (end_of walk)

-- one of the links ends in the node
abbrev pub is_reached : List (Option (List Step)) → List (Option blossoms.Node) → List ℕ → ℕ → Bool
is_reached links store ids name = list_any (λ id. holds_end (defects_at store name) (walk_at links id)) ids

-- the links that match a blossom's children in pairs, but for the one in which a link ends
abbrev pub pair_numbers : List (Option (List Step)) → List (Option blossoms.Node) → List ℕ → ℕ → List ℕ
pair_numbers links store ids name =
    every_second (round_from (place_of (is_reached links store ids) (children_at store name)) (ring_at store name))

-- the links with these nodes opened, the last one first
abbrev pub opened_numbers : List (Option (List Step)) → List (Option blossoms.Node) → List ℕ → List ℕ → List ℕ
opened_numbers links store ids [] = ids
opened_numbers links store ids (name ∷ names) =
    let later = opened_numbers links store ids names in later ++ pair_numbers links store later name

-- the numbers of the links of a part with all its blossoms opened
abbrev pub numbers_of : PartValue → List ℕ
numbers_of w = opened_numbers w.links w.store (match_links w.matching.matches) (map (λ n. n.name) w.nodes)

-- They are the numbers of the links that solve it.
abbrev pub OpenedByNumber : Type 0
OpenedByNumber = (w : PartValue) → IsPart w → IsNested w.store
    → opened_links (state_of w) ≡ map (link_by w.links) (numbers_of w)
