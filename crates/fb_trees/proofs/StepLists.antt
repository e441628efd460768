-- Steps of branches, one branch more or less.
use Rattle.std.proofs.Common.{ℕ, zero, suc, ◌≡◌, ◌<◌, ◌≤◌, ◌+◌, ◌-◌, ◌⊎◌, inl, inr, min, Some, List, [], ◌∷◌, ◌++◌, map, length, get_or, take, drop, refl, sym, ap, ◌∙◌, arith, append_assoc}
use Rattle.std.proofs.lemmas.Bool.{cases_lt}
use Rattle.std.proofs.lemmas.Option.{none-some, same_Some}
use Rattle.std.specs.List.{slice_get}
use Rattle.std.proofs.lemmas.List.{drop_all, map-append, map_more}
use Rattle.fb_links.specs.declared.cycle.CycleStep.{CycleStep}
use Rattle.fb_laws.specs.Trees.{EntryOf}
use Rattle.fb_laws.specs.TreeCycles.{cycle_links, cycle_nodes, last_plus, links_along, links_back, nodes_along, nodes_back}
use Rattle.fb_trees.specs.declared.branch.Branch.{Branch}
use Rattle.fb_trees.specs.Branches.{entry_of}
use Rattle.fb_trees.specs.TreeSteps.{step, steps_up}
use Rattle.fb_trees.specs.InternalPaths.{common_count, steps_down}

-- up one branch more
pub up_push : (es : List (EntryOf ℕ)) (e : EntryOf ℕ) → steps_up (es ++ e ∷ []) ≡ step e.plus e.matched ∷ step e.minus e.tree ∷ steps_up es
up_push [] e = refl
up_push (x ∷ xs) e = ap (λ l. l ++ step x.plus x.matched ∷ step x.minus x.tree ∷ []) (up_push xs e)

pub up_more : (xs : List Branch) (i : ℕ) (d : Branch) → i < length xs
    → steps_up (map entry_of (take (i + 1) xs))
    ≡ step (get_or xs i d).plus (get_or xs i d).matched ∷ step (get_or xs i d).minus (get_or xs i d).tree ∷ steps_up (map entry_of (take i xs))
up_more xs i d below =
    ap steps_up (map_more entry_of xs i d below) ∙ up_push (map entry_of (take i xs)) (entry_of (get_or xs i d))

-- the nodes and the links of a cycle
nodes_down : (node : ℕ) (es : List (EntryOf ℕ)) (closing : ℕ) → map (λ (s : CycleStep). s.node) (steps_down node es closing) ≡ node ∷ nodes_along es
nodes_down node [] closing = refl
nodes_down node (e ∷ es) closing = ap (λ l. node ∷ e.minus ∷ l) (nodes_down e.plus es closing)

links_down : (node : ℕ) (es : List (EntryOf ℕ)) (closing : ℕ) → map (λ (s : CycleStep). s.link) (steps_down node es closing) ≡ links_along es ++ closing ∷ []
links_down node [] closing = refl
links_down node (e ∷ es) closing = ap (λ l. e.tree ∷ e.matched ∷ l) (links_down e.plus es closing)

pub nodes_up : (es : List (EntryOf ℕ)) → map (λ (s : CycleStep). s.node) (steps_up es) ≡ nodes_back es
nodes_up [] = refl
nodes_up (e ∷ es) =
    map-append (λ (s : CycleStep). s.node) (steps_up es) (step e.plus e.matched ∷ step e.minus e.tree ∷ [])
    ∙ ap (λ l. l ++ e.plus ∷ e.minus ∷ []) (nodes_up es)

pub links_up : (es : List (EntryOf ℕ)) → map (λ (s : CycleStep). s.link) (steps_up es) ≡ links_back es
links_up [] = refl
links_up (e ∷ es) =
    map-append (λ (s : CycleStep). s.link) (steps_up es) (step e.plus e.matched ∷ step e.minus e.tree ∷ [])
    ∙ ap (λ l. l ++ e.matched ∷ e.tree ∷ []) (links_up es)

pub nodes_round : (base : ℕ) (up : List (EntryOf ℕ)) (closing : ℕ) (down : List (EntryOf ℕ))
    → map (λ (s : CycleStep). s.node) (steps_down base up closing ++ steps_up down) ≡ base ∷ cycle_nodes up down
nodes_round base up closing down =
    map-append (λ (s : CycleStep). s.node) (steps_down base up closing) (steps_up down)
    ∙ (ap (λ l. l ++ map (λ (s : CycleStep). s.node) (steps_up down)) (nodes_down base up closing)
    ∙ ap (λ l. base ∷ (nodes_along up ++ l)) (nodes_up down))

pub links_round : (base : ℕ) (up : List (EntryOf ℕ)) (closing : ℕ) (down : List (EntryOf ℕ))
    → map (λ (s : CycleStep). s.link) (steps_down base up closing ++ steps_up down) ≡ cycle_links up closing down
links_round base up closing down =
    map-append (λ (s : CycleStep). s.link) (steps_down base up closing) (steps_up down)
    ∙ (ap (λ l. l ++ map (λ (s : CycleStep). s.link) (steps_up down)) (links_down base up closing)
    ∙ (ap (λ l. (links_along up ++ closing ∷ []) ++ l) (links_up down) ∙ append_assoc (links_along up) (closing ∷ []) (links_back down)))

-- the end of a path
pub last_push : (node : ℕ) (es : List (EntryOf ℕ)) (e : EntryOf ℕ) → last_plus node (es ++ e ∷ []) ≡ e.plus
last_push node [] e = refl
last_push node (x ∷ xs) e = last_push x.plus xs e

pub common_right : (xs : List (EntryOf ℕ)) → common_count xs [] ≡ 0
common_right [] = refl
common_right (x ∷ xs) = refl

common_end : (xs ys : List Branch) (i : ℕ) → (length xs ≤ i) ⊎ (length ys ≤ i)
    → common_count (map entry_of (drop i xs)) (map entry_of (drop i ys)) ≡ 0
common_end xs ys i (inl past) = ap (λ l. common_count (map entry_of l) (map entry_of (drop i ys))) (drop_all i xs past)
common_end xs ys i (inr past) =
    ap (λ l. common_count (map entry_of (drop i xs)) (map entry_of l)) (drop_all i ys past) ∙ common_right (map entry_of (drop i xs))

pub common_all : (xs ys : List Branch) (i n : ℕ) → n ≡ min (length xs) (length ys) → n ≤ i → i ≤ n
    → common_count (map entry_of xs) (map entry_of ys) ≡ i + common_count (map entry_of (drop i xs)) (map entry_of (drop i ys))
    → n ≡ common_count (map entry_of xs) (map entry_of ys)
common_all xs ys i n shorter past within total =
    let end : (length xs ≤ i) ⊎ (length ys ≤ i) = which (cases_lt (length xs) (length ys)) in
    let none : common_count (map entry_of (drop i xs)) (map entry_of (drop i ys)) ≡ 0 = common_end xs ys i end in
    omega arith
  where
    which : (length xs < length ys) ⊎ (length ys ≤ length xs) → (length xs ≤ i) ⊎ (length ys ≤ i)
    which (inl less) = inl (omega arith)
    which (inr more) = inr (omega arith)

last_from : (node : ℕ) (xs : List Branch) (k : ℕ) (b : Branch) → length xs ≡ k + 1 → slice_get xs k ≡ Some b
    → b.plus ≡ last_plus node (map entry_of xs)
last_from node [] k b long last = absurd (omega arith)
last_from node (x ∷ []) zero b long last = ap (λ y. y.plus) (sym (same_Some x b last))
last_from node (x ∷ y ∷ ys) zero b long last = absurd (omega arith)
last_from node (x ∷ xs) (suc k) b long last = last_from x.plus xs k b (omega arith) last

pub last_is : (node : ℕ) (xs : List Branch) (b : Branch) → slice_get xs (length xs - 1) ≡ Some b → b.plus ≡ last_plus node (map entry_of xs)
last_is node [] b last = absurd (none-some b last)
last_is node (x ∷ xs) b last = last_from node (x ∷ xs) (length (x ∷ xs) - 1) b (omega arith) last

-- one step of a list of steps up
pub up_step : (xs : List Branch) (i j : ℕ) (d : Branch) → j + 1 ≡ i → i ≤ length xs → (old mid new all : List CycleStep)
    → old ++ steps_up (map entry_of (take i xs)) ≡ all
    → mid ≡ old ++ step (get_or xs j d).plus (get_or xs j d).matched ∷ []
    → new ≡ mid ++ step (get_or xs j d).minus (get_or xs j d).tree ∷ []
    → new ++ steps_up (map entry_of (take j xs)) ≡ all
up_step xs i j d next within old mid new all is first second =
    let below : j < length xs = omega arith in
    ap (λ l. l ++ rest) (second ∙ (ap (λ l. l ++ below_step ∷ []) first ∙ append_assoc old (above_step ∷ []) (below_step ∷ [])))
    ∙ (append_assoc old (above_step ∷ below_step ∷ []) rest
    ∙ (ap (λ l. old ++ l) (sym (up_more xs j d below) ∙ ap (λ n. steps_up (map entry_of (take n xs))) next) ∙ is))
  where
    above_step : CycleStep
    above_step = step (get_or xs j d).plus (get_or xs j d).matched

    below_step : CycleStep
    below_step = step (get_or xs j d).minus (get_or xs j d).tree

    rest : List CycleStep
    rest = steps_up (map entry_of (take j xs))
