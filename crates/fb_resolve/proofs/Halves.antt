-- What a solved part gives the calls of its row.
use Rattle.std.proofs.Common.{◌≡◌, ◌≤◌, ◌^◌, inl, inr, ℕ, ◌==◌, ◌||◌, Bool, true, false, List, [], ◌∷◌, ◌++◌, map, filter, cond, flat_map, All, AllPairs, Option, Some, None, is_some, refl, sym, ◌∙◌, ap, subst}
use Rattle.std.specs.List.Sorted.{IsStrictlyIncreasing}
use Rattle.std.proofs.lemmas.Bool.{both_ways, cases_Bool, eq-eqb, or_left, or_right}
use Rattle.std.proofs.lemmas.List.Elements.{All-append}
use Rattle.std.proofs.lemmas.List.Folds.{list_any-append}
use Rattle.std.proofs.lemmas.List.Kept.{AllPairs-filter}
use Rattle.std.specs.List.{AllZip}
use Rattle.std.specs.Prelude.{ℤ, pos, ◌+ℤ◌}
use Rattle.fb_graph.specs.Parity.{is_in, is_odd_count}
use Rattle.fb_graph.specs.Answers.{IsRight}
use Rattle.fb_graph.specs.Certificate.{AreRising, total_value}
use Rattle.fb_graph.specs.Limits.{IsGraph}
use Rattle.fb_graph.specs.Signs.{base_of}
use Rattle.fb_graph.specs.Printed.{DifferAsSets, HasPositiveCuts, IsResorted, is_positive}
use Rattle.fb_graph.specs.Dual.{Node, all_cuts}
use Rattle.fb_graph.specs.Dual as dual
use Rattle.fb_graph.specs.declared.parts.Cut.{Cut}
use Rattle.fb_graph.specs.declared.parts.Row.TheVariants.{Best}
use Rattle.fb_graph.proofs.Among.{IsAmong, among_All, among_any, live_among}
use Rattle.fb_plan.specs.Plans.{root_of}
use Rattle.fb_links.specs.declared.walk.Step.{Step}
use Rattle.fb_links.specs.Table as table
use Rattle.fb_links.specs.Table.{walk_at}
use Rattle.fb_blossoms.specs.Nodes.{IsNested, cycle_of, is_live, node_at}
use Rattle.fb_blossoms.specs.Nodes as blossoms
use Rattle.fb_laws.specs.OpenedLinks.{place_of}
use Rattle.fb_laws.specs.Works.{positive_cuts}
use Rattle.fb_laws.proofs.HalvesKept.{positive_total}
use Rattle.fb_laws.proofs.OpenedParts.{flat_among}
use Rattle.fb_half.specs.Translations.{children_at, ring_at, ring_links}
use Rattle.fb_half.specs.Matchings.{match_links}
use Rattle.fb_half.specs.Parts.{IsPart, PartValue, graph_in, shot_of}
use Rattle.fb_resolve.specs.Openings.{is_reached, numbers_of, opened_numbers, pair_numbers}
use Rattle.fb_resolve.proofs.NumberedLinks.{opened_by_number}
use Rattle.fb_resolve.proofs.Rings.{All_pairs}
use Rattle.fb_resolve.proofs.Roots.{root_right}

named : (nodes : List Node) (x : ℕ) → is_in (map (λ n. n.name) nodes) x ≡ dual.is_live nodes x
named [] x = refl
named (n ∷ ns) x = ap (λ b. (n.name == x) || b) (named ns x)

pub names_cover : (w : PartValue) (store : List (Option blossoms.Node)) (nodes : List Node) (names list : List ℕ) → IsPart w
    → store ≡ w.store → nodes ≡ w.nodes → names ≡ map (λ n. n.name) nodes → list ≡ names
    → (x : ℕ) → is_live store x ≡ true → is_in list x ≡ true
names_cover w store nodes names list part s n e l x live =
    ap (λ (k : List ℕ). is_in k x) (l ∙ e)
    ∙ (named nodes x ∙ (ap (λ (m : List Node). dual.is_live m x) n
    ∙ (part.agreed.live x ∙ (ap (λ (t : List (Option blossoms.Node)). is_live t x) (sym s) ∙ live))))

pub rings_live : (w : PartValue) (store : List (Option blossoms.Node)) (links : List (Option (List Step))) → IsPart w → store ≡ w.store
    → links ≡ w.links → (x : ℕ) → All (λ id. table.is_live links id ≡ true) (ring_at store x)
rings_live w store links part s l x =
    subst (λ (t : List (Option blossoms.Node)). All (λ id. table.is_live links id ≡ true) (ring_at t x)) (sym s)
    (subst (λ (k : List (Option (List Step))). All (λ id. table.is_live k id ≡ true) (ring_at w.store x)) (sym l)
    (among_All (λ id. table.is_live w.links id ≡ true) (ring_at w.store x) at))
  where
    dead : (o : Option blossoms.Node) (id : ℕ) → is_some o ≡ false → IsAmong id (map (λ s. s.link) (cycle_of o)) → ⊥
    dead None id e a = a
    dead (Some n) id e a = both_ways true e refl

    at : (id : ℕ) → IsAmong id (ring_at w.store x) → table.is_live w.links id ≡ true
    at id a = elim (cases_Bool (is_live w.store x)) [
      | inl live ↦
          let r : (m : Node) × IsAmong m w.nodes × (m.name ≡ x) = live_among w.nodes x (part.agreed.live x ∙ live) in
          let ring : IsAmong id (ring_links w.nodes w.store) =
          flat_among (λ (n : Node). ring_at w.store n.name) w.nodes r.0 id r.1 (subst (λ (k : ℕ). IsAmong id (ring_at w.store k)) (sym r.2) a) in
          part.links.live id
          ∙ (list_any-append (λ u. u == id) (match_links w.matching.matches) (ring_links w.nodes w.store)
          ∙ or_right (is_in (match_links w.matching.matches) id) (is_in (ring_links w.nodes w.store) id)
          (among_any (λ u. u == id) (ring_links w.nodes w.store) id ring (eq-eqb id id refl)))
      | inr none ↦ absurd (dead (node_at w.store x) id none a)
    ]

pub matches_live : (w : PartValue) → IsPart w → All (λ id. table.is_live w.links id ≡ true) (match_links w.matching.matches)
matches_live w part = among_All (λ id. table.is_live w.links id ≡ true) (match_links w.matching.matches)
    (λ id a.
    part.links.live id
    ∙ (list_any-append (λ u. u == id) (match_links w.matching.matches) (ring_links w.nodes w.store)
    ∙ or_left (is_in (match_links w.matching.matches) id) (is_in (ring_links w.nodes w.store) id)
    (among_any (λ u. u == id) (match_links w.matching.matches) id a (eq-eqb id id refl))))

pub all_numbers : (P : ℕ → Type 0) (links : List (Option (List Step))) (store : List (Option blossoms.Node)) (ids names : List ℕ)
    → All P ids → ((x : ℕ) → All P (ring_at store x)) → All P (opened_numbers links store ids names)
all_numbers P links store ids [] own rings = own
all_numbers P links store ids (n ∷ ns) own rings =
    let later : List ℕ = opened_numbers links store ids ns in
    All-append P later (pair_numbers links store later n) (all_numbers P links store ids ns own rings)
    (All_pairs P (place_of (is_reached links store later) (children_at store n)) (ring_at store n) (rings n))

pub record AreRead (w : PartValue) (store : List (Option blossoms.Node)) (links : List (Option (List Step))) (nodes : List Node) (matches names ids : List ℕ) : Type 0 where
  pub store_is : store ≡ w.store
  pub links_are : links ≡ w.links
  pub nodes_are : nodes ≡ w.nodes
  pub matches_are : matches ≡ match_links w.matching.matches
  pub names_are : names ≡ map (λ n. n.name) nodes
  pub ids_are : ids ≡ opened_numbers links store matches names

pub ids_read : (w : PartValue) (store : List (Option blossoms.Node)) (links : List (Option (List Step))) (nodes : List Node) (matches names ids : List ℕ)
    → AreRead w store links nodes matches names ids → ids ≡ numbers_of w
ids_read w store links nodes matches names ids r =
    r.ids_are
    ∙ (ap (λ (l : List (Option (List Step))). opened_numbers l store matches names) r.links_are
    ∙ (ap (λ (s : List (Option blossoms.Node)). opened_numbers w.links s matches names) r.store_is
    ∙ (ap (λ (m : List ℕ). opened_numbers w.links w.store m names) r.matches_are
    ∙ ap (opened_numbers w.links w.store (match_links w.matching.matches))
    (r.names_are ∙ ap (map (λ (n : Node). n.name)) r.nodes_are))))

pub ids_live : (w : PartValue) (links : List (Option (List Step))) (ids list : List ℕ) → IsPart w → links ≡ w.links → list ≡ ids
    → ids ≡ numbers_of w → All (λ id. table.is_live links id ≡ true) list
ids_live w links ids list part l e f =
    subst (λ (k : List (Option (List Step))). All (λ id. table.is_live k id ≡ true) list) (sym l)
    (subst (All (λ id. table.is_live w.links id ≡ true)) (sym (e ∙ f))
    (all_numbers (λ id. table.is_live w.links id ≡ true) w.links w.store (match_links w.matching.matches) (map (λ n. n.name) w.nodes)
    (matches_live w part) (rings_live w w.store w.links part refl refl)))

pub cuts_differ : (w : PartValue) (nodes : List Node) (cuts : List Cut) → IsPart w → nodes ≡ w.nodes
    → cuts ≡ positive_cuts nodes → AllPairs DifferAsSets cuts
cuts_differ w nodes cuts part n e =
    subst (AllPairs DifferAsSets) (sym (e ∙ ap positive_cuts n))
    (AllPairs-filter DifferAsSets is_positive (all_cuts w.nodes) part.state.work.nest.differ)

pub cuts_fit : (w : PartValue) (nodes : List Node) (cuts : List Cut) → IsPart w → nodes ≡ w.nodes
    → cuts ≡ positive_cuts nodes → total_value cuts ≤ 2 ^ 52
cuts_fit w nodes cuts part n e =
    subst (λ (k : ℕ). k ≤ 2 ^ 52) (sym (ap total_value (e ∙ ap positive_cuts n) ∙ positive_total w.nodes))
    part.state.work.nest.dual.total

-- the cuts of positive value among those of positive value are these
positive_twice : (cuts : List Cut) → filter is_positive (filter is_positive cuts) ≡ filter is_positive cuts
positive_twice [] = refl
positive_twice (c ∷ cs) = step (is_positive c) refl (positive_twice cs)
  where
    step : (b : Bool) → is_positive c ≡ b → filter is_positive (filter is_positive cs) ≡ filter is_positive cs
        → filter is_positive (cond b (c ∷ filter is_positive cs) (filter is_positive cs)) ≡ cond b (c ∷ filter is_positive cs) (filter is_positive cs)
    step true is twice =
        ap (λ b. cond b (c ∷ filter is_positive (filter is_positive cs)) (filter is_positive (filter is_positive cs))) is
        ∙ ap (λ (k : List Cut). c ∷ k) twice
    step false is twice = twice

-- what has the cuts of positive value of these has those of all
positive_of_all : (cuts printed : List Cut) → HasPositiveCuts (filter is_positive cuts) printed → HasPositiveCuts cuts printed
positive_of_all cuts printed has = record {
  resorted = has.resorted;
  each = subst (λ (k : List Cut). AllZip IsResorted k has.resorted) (positive_twice cuts) has.each;
  moved = has.moved;
}

pub right_row : (w : PartValue) (nodes : List Node) (links : List (Option (List Step))) (ids list edges signed ones : List ℕ) (cuts printed : List Cut)
    (base weight : ℤ) (total : ℕ) → IsGraph w.job.graph → IsPart w → IsNested w.store
    → w.node ≡ root_of w.job.plan → w.matching.unmatched ≡ [] → nodes ≡ w.nodes → links ≡ w.links → list ≡ ids → ids ≡ numbers_of w
    → edges ≡ flat_map (λ id. map (λ s. s.edge) (walk_at links id)) list → cuts ≡ positive_cuts nodes
    → ((test : ℕ → Bool) → is_odd_count test signed ≡ is_odd_count test (edges ++ (graph_in w).negatives))
    → IsStrictlyIncreasing ones → ((test : ℕ → Bool) → is_odd_count test ones ≡ is_odd_count test signed)
    → HasPositiveCuts cuts printed → AreRising printed → base ≡ base_of w.job.graph (shot_of w)
    → total ≡ total_value cuts → weight ≡ base +ℤ pos total
    → IsRight w.job.graph (shot_of w) (Best ones base weight printed)
right_row w nodes links ids list edges signed ones cuts printed base weight total graph part nested root matched n l e f walked c joined rising parity
    positive in_order base_is sum weighs =
    let whole : cuts ≡ positive_cuts w.nodes = c ∙ ap positive_cuts n in
    let edges_are : edges ≡ flat_map (λ id. map (λ s. s.edge) (walk_at w.links id)) (numbers_of w) =
    walked
    ∙ (ap (λ (k : List (Option (List Step))). flat_map (λ id. map (λ s. s.edge) (walk_at k id)) list) l
    ∙ ap (flat_map (λ id. map (λ s. s.edge) (walk_at w.links id))) (e ∙ f)) in
    let total_is : total ≡ total_value (all_cuts w.nodes) = sum ∙ (ap total_value whole ∙ positive_total w.nodes) in
    subst (λ (b : ℤ). IsRight w.job.graph (shot_of w) (Best ones b weight printed)) (sym base_is)
    (subst (λ (k : ℤ). IsRight w.job.graph (shot_of w) (Best ones (base_of w.job.graph (shot_of w)) k printed))
    (sym (weighs ∙ (λ i. base_is i +ℤ pos (total_is i))))
    (root_right opened_by_number w ones printed graph part nested root matched rising
    (λ k. parity (λ j. j == k) ∙ (joined (λ j. j == k) ∙ ap (λ (x : List ℕ). is_odd_count (λ j. j == k) (x ++ (graph_in w).negatives)) edges_are))
    (positive_of_all (all_cuts w.nodes) printed (subst (λ (d : List Cut). HasPositiveCuts d printed) whole positive)) in_order))
