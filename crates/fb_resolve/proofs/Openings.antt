-- What a link reaches, and the node that is opened.
use Rattle.std.proofs.Common.{◌≡◌, ℕ, ◌+◌, ◌-◌, ◌==◌, ◌||◌, Bool, true, if◌then◌else◌, List, [], ◌∷◌, ◌++◌, length, map, take, drop, All, Option, refl, sym, ◌∙◌, ap, subst}
use Rattle.std.proofs.lemmas.Bool.{eq-eqb, or_left, or_right}
use Rattle.std.proofs.lemmas.List.Folds.{list_any-append}
use Rattle.fb_links.specs.declared.cycle.CycleStep.{CycleStep}
use Rattle.fb_links.specs.declared.walk.Step.{Step}
use Rattle.fb_links.specs.Table as table
use Rattle.fb_links.specs.Table.{walk_at}
use Rattle.fb_blossoms.specs.Nodes.{Node, cycle_at, defects_at, is_on}
use Rattle.fb_laws.specs.OpenedLinks.{every_second, place_of, round_from}
use Rattle.fb_half.specs.Translations.{children_at, ring_at}
use Rattle.fb_resolve.specs.Openings.{holds_end, is_reached, pair_numbers}
use Rattle.fb_resolve.specs.InternalMarks.{AreMarks, IsInside, is_marked}
use Rattle.fb_resolve.proofs.Rings.{All_pairs, rest_is}

-- tests that agree on the nodes of a cycle have the same first place in it
place_along : (f g : ℕ → Bool) (ss : List CycleStep) → ((x : ℕ) → is_on ss x ≡ true → f x ≡ g x)
    → place_of f (map (λ s. s.node) ss) ≡ place_of g (map (λ s. s.node) ss)
place_along f g [] same = refl
place_along f g (s ∷ ss) same =
    ap (λ b. if b then 0 else 1 + place_of f (map (λ s. s.node) ss)) (same s.node (or_left (s.node == s.node) (is_on ss s.node) (eq-eqb s.node s.node refl)))
    ∙ ap (λ n. if g s.node then 0 else 1 + n) (place_along f g ss (λ x on. same x (or_right (s.node == x) (is_on ss x) on)))

-- the links that are added, with the marks in the place of what the links reach
pub pairs_are : (links : List (Option (List Step))) (store : List (Option Node)) (ids : List ℕ) (marks : List Bool) (name place : ℕ)
    → AreMarks links store ids marks → place ≡ place_of (is_marked marks) (children_at store name)
    → every_second (round_from place (ring_at store name)) ≡ pair_numbers links store ids name
pairs_are links store ids marks name place are e =
    ap (λ i. every_second (round_from i (ring_at store name)))
    (e ∙ place_along (is_marked marks) (is_reached links store ids) (cycle_at store name) (λ x on. are x (name, on)))

-- the links behind those before are the pairs
pub live_pairs : (links : List (Option (List Step))) (old pairs all list : List ℕ) (n : ℕ) → n ≡ length old → list ≡ all → all ≡ old ++ pairs
    → All (λ id. table.is_live links id ≡ true) pairs
    → All (λ id. table.is_live links id ≡ true) (take (length list - n) (drop n list))
live_pairs links old pairs all list n count same e live =
    let P : List ℕ → Type 0 = All (λ id. table.is_live links id ≡ true) in
    let at : take (length list - n) (drop n list) ≡ pairs =
    ap (λ k. take (length list - k) (drop k list)) count ∙ rest_is old pairs list (same ∙ e) in
    subst P (sym at) live

-- and with them the marks are those of all links
pub marks_more : (links : List (Option (List Step))) (store : List (Option Node)) (old pairs all list : List ℕ) (n : ℕ) (before after : List Bool)
    → n ≡ length old → list ≡ all → all ≡ old ++ pairs → AreMarks links store old before
    → ((x : ℕ) → IsInside store x → is_marked after x ≡ (is_marked before x || is_reached links store (take (length list - n) (drop n list)) x))
    → AreMarks links store all after
marks_more links store old pairs all list n before after count same e are new x inside =
    let at : take (length list - n) (drop n list) ≡ pairs =
    ap (λ k. take (length list - k) (drop k list)) count ∙ rest_is old pairs list (same ∙ e) in
    new x inside
    ∙ (ap (λ l. is_marked before x || is_reached links store l x) at
    ∙ (ap (λ b. b || is_reached links store pairs x) (are x inside)
    ∙ (sym (list_any-append (λ id. holds_end (defects_at store x) (walk_at links id)) old pairs)
    ∙ ap (λ l. is_reached links store l x) (sym e))))

pub pairs_from : (links : List (Option (List Step))) (store : List (Option Node)) (ids : List ℕ) (marks : List Bool) (name place : ℕ)
    (cycle : List CycleStep) → cycle ≡ cycle_at store name → AreMarks links store ids marks
    → place ≡ place_of (is_marked marks) (map (λ s. s.node) cycle)
    → every_second (round_from place (map (λ s. s.link) cycle)) ≡ pair_numbers links store ids name
pairs_from links store ids marks name place cycle same are e =
    ap (λ (ss : List CycleStep). every_second (round_from place (map (λ s. s.link) ss))) same
    ∙ pairs_are links store ids marks name place are
    (e ∙ ap (λ (ss : List CycleStep). place_of (is_marked marks) (map (λ s. s.node) ss)) same)

pub live_from : (links : List (Option (List Step))) (store : List (Option Node)) (name place : ℕ) (cycle : List CycleStep)
    → cycle ≡ cycle_at store name → All (λ id. table.is_live links id ≡ true) (ring_at store name)
    → All (λ id. table.is_live links id ≡ true) (every_second (round_from place (map (λ s. s.link) cycle)))
live_from links store name place cycle same live =
    let P : List CycleStep → Type 0 = λ ss. All (λ id. table.is_live links id ≡ true) (map (λ s. s.link) ss) in
    All_pairs (λ id. table.is_live links id ≡ true) place (map (λ s. s.link) cycle) (subst P (sym same) live)
