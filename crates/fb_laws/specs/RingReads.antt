-- A ring read place by place, and rings of links by their numbers: for code that has a ring as a table.
use Rattle.std.specs.Prelude.{ℕ, ◌≡◌, ◌+◌, ◌*◌, ◌/◌, ◌%◌, ◌<◌, ◌≤◌, List, [], map, length, drop, get_or}
use Rattle.fb_graph.specs.Laws.{Link}
use Rattle.fb_graph.specs.Dual.{Node}
use Rattle.fb_laws.specs.OpenedCycles.{Pass, PassOf, matched_beside}
use Rattle.fb_laws.specs.OpenedLinks.{every_second, round_from}
use Rattle.fb_laws.specs.PartStates.{IsRing}
use Rattle.fb_laws.specs.Paths.{Joins}
use Rattle.fb_laws.specs.RingWays.{Round, IsRoundFrom, couples_after, even_round, even_steps, way_to}
use Rattle.fb_laws.specs.StateOpenings.{AreLinkedRound}
use Rattle.fb_laws.specs.Trees.{Connects}

-- Gone round from a place, the list has the elements in turn, after the last one the first.
abbrev pub RoundRead : Type 0
RoundRead = (ring : List ℕ) (place k d : ℕ) → place < length ring → k < length ring
    → get_or (round_from place ring) k d ≡ get_or ring ((place + k) % length ring) d

-- Of every two elements the second one is taken.
abbrev pub SecondRead : Type 0
SecondRead = (ring : List ℕ) (k d : ℕ) → get_or (every_second ring) k d ≡ get_or ring (2 * k + 1) d

abbrev pub SecondCount : Type 0
SecondCount = (ring : List ℕ) → length (every_second ring) ≡ length ring / 2

-- The links of a ring of numbers that are added are those of the numbers.
abbrev pub SecondByNumber : Type 0
SecondByNumber = (table : ℕ → Link) (place : ℕ) (ring : List ℕ)
    → every_second (round_from place (map table ring)) ≡ map table (every_second (round_from place ring))

-- the ring and the pass with links in the place of their numbers
abbrev pub round_by : (ℕ → Link) → Round ℕ → Round Link
round_by table r = record { others = r.others; links = map table r.links }

abbrev pub pass_by : (ℕ → Link) → PassOf ℕ → Pass
pass_by table s = record { matched = table s.matched; plus = s.plus; tree = table s.tree; minus = s.minus }

-- So is the way.
abbrev pub WayByNumber : Type 0
WayByNumber = (table : ℕ → Link) (steps : ℕ) (r : Round ℕ)
    → way_to steps (round_by table r) ≡ map (pass_by table) (way_to steps r)

-- A round has one link more than nodes beside the one at which it begins.
abbrev pub RoundLength : Type 0
RoundLength = (nodes : List Node) (from : ℕ) (r : Round Link) → IsRoundFrom nodes from r
    → length r.links ≡ length r.others + 1

-- So the couples beside the way are matched by every second link from its end on.
abbrev pub BesideByNumber : Type 0
BesideByNumber = (table : ℕ → Link) (steps : ℕ) (r : Round ℕ) → length r.links ≡ length r.others + 1
    → length r.others % 2 ≡ 0 → steps ≤ length r.others
    → matched_beside (couples_after steps (round_by table r))
    ≡ map table (every_second (drop (even_steps steps r) (even_round steps r).links))

abbrev pub no_link : Link
no_link = record { from = 0; to = 0; walk = [] }

-- In a ring of links each joins a set and the next one, and the last one joins the last set and the first.
abbrev pub RingAt : Type 0
RingAt = (sets : List (List ℕ)) (links : List Link) → IsRing sets links → 1 ≤ length sets
    → (length links ≡ length sets)
    × ((k : ℕ) → k < length sets
    → Joins (get_or links k no_link) (get_or sets k []) (get_or sets ((k + 1) % length sets) []))

-- The same of links round nodes by their names.
abbrev pub NamesAt : Type 0
NamesAt = (nodes : List Node) (names : List ℕ) (links : List Link) → AreLinkedRound nodes names links
    → 1 ≤ length names
    → (length links ≡ length names)
    × ((k : ℕ) → k < length names
    → Connects nodes (get_or links k no_link) (get_or names k 0) (get_or names ((k + 1) % length names) 0))
