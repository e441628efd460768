-- Two parts beside one another, the right one's nodes under new names: their nodes are those of the merged store.
use Rattle.std.proofs.Common.{ℕ, ◌≡◌, ◌==◌, ◌||◌, ◌⊎◌, inl, inr, true, false, if◌then◌else◌, List, [], ◌∷◌, ◌++◌, map, Option, Some, None, is_some, option_map, refl, sym, ap, ◌∙◌}
use Rattle.std.proofs.lemmas.Bool.{both_ways, false_from_ne_true, or_cases, or_left, or_right}
use Rattle.std.proofs.lemmas.List.Elements.{All-append, All-map}
use Rattle.std.proofs.lemmas.List.Folds.{list_any-append}
use Rattle.fb_graph.specs.Dual.{Node, defects_of, first_vertices, is_empty, is_live, layers_of}
use Rattle.fb_graph.specs.NestUnions.{HaveOwnNames}
use Rattle.fb_graph.specs.RenamedNodes.{AreRenamedApart, renamed_node, renamed_nodes}
use Rattle.fb_graph.proofs.Among.{All_among, among_All, among_live, among_map, live_among, map_among, own_live}
use Rattle.fb_links.specs.declared.cycle.CycleStep.{CycleStep}
use Rattle.fb_links.specs.Names.{name_by}
use Rattle.fb_blossoms.specs.Nodes as blossoms
use Rattle.fb_blossoms.specs.Merged as merged
use Rattle.fb_regions.specs.Merged.{AreNewNames}
use Rattle.fb_half.specs.Parts.{AreAgreed}
use Rattle.fb_half.specs.Translations.{children_at, ring_at}
use Rattle.fb_half.proofs.AddedSingles.{Store}
use Rattle.fb_graph.proofs.Booleans.{same_bool}
use Rattle.fb_graph.proofs.RenamedNodes.{is_empty-map}

cycle_renamed : (f g : ℕ → ℕ) (o : Option blossoms.Node)
    → blossoms.cycle_of (option_map (merged.renamed_node f g) o) ≡ merged.renamed_cycle f g (blossoms.cycle_of o)
cycle_renamed f g None = refl
cycle_renamed f g (Some n) = refl

defects_renamed : (f g : ℕ → ℕ) (o : Option blossoms.Node) → blossoms.defects_of (option_map (merged.renamed_node f g) o) ≡ blossoms.defects_of o
defects_renamed f g None = refl
defects_renamed f g (Some n) = refl

still_some : (f g : ℕ → ℕ) (o : Option blossoms.Node) → is_some (option_map (merged.renamed_node f g) o) ≡ is_some o
still_some f g None = refl
still_some f g (Some n) = refl

nodes_of_cycle : (f g : ℕ → ℕ) (c : List CycleStep) → map (λ s. s.node) (merged.renamed_cycle f g c) ≡ map f (map (λ s. s.node) c)
nodes_of_cycle f g [] = refl
nodes_of_cycle f g (s ∷ ss) = ap (λ l. f s.node ∷ l) (nodes_of_cycle f g ss)

links_of_cycle : (f g : ℕ → ℕ) (c : List CycleStep) → map (λ s. s.link) (merged.renamed_cycle f g c) ≡ map g (map (λ s. s.link) c)
links_of_cycle f g [] = refl
links_of_cycle f g (s ∷ ss) = ap (λ l. g s.link ∷ l) (links_of_cycle f g ss)

module _ (left right : List Node) (first second store : Store) (links names : List (ℕ × ℕ)) (one : AreAgreed left first)
    (two : AreAgreed right second) (both : merged.IsMerged first second store links names) where
  abbrev pub name : ℕ → ℕ
  name = name_by names

  abbrev pub link : ℕ → ℕ
  link = name_by links

  abbrev pub others : List Node
  others = renamed_nodes name right

  pub in_left : (x : ℕ) → is_live left x ≡ true → blossoms.node_at store x ≡ blossoms.node_at first x
  in_left x live = both.left_stays x (sym (one.live x) ∙ live)

  pub in_right : (a : ℕ) → is_live right a ≡ true
      → blossoms.node_at store (name a) ≡ option_map (merged.renamed_node name link) (blossoms.node_at second a)
  in_right a live = both.right_renamed a (sym (two.live a) ∙ live)

  pub apart : AreRenamedApart name right
  apart a b live other same = both.apart a b (sym (two.live a) ∙ live) (sym (two.live b) ∙ other) same

  pub not_left : (a : ℕ) → is_live right a ≡ true → is_live left (name a) ≡ false
  not_left a live = one.live (name a) ∙ ap is_some (both.fresh a (sym (two.live a) ∙ live))

  pub new_names : AreNewNames left right name
  new_names = record { apart = apart; fresh = not_left }

  -- each new name is that of a node
  pub old_of : (x : ℕ) → is_live others x ≡ true → (a : ℕ) × (is_live right a ≡ true) × (name a ≡ x)
  old_of x live =
      let (m, a, named) = live_among others x live in
      let (n, there, is) = among_map (renamed_node name) right m a in
      (n.name, among_live right n n.name there refl, ap (λ y. y.name) is ∙ named)

  pub still_live : (a : ℕ) → is_live right a ≡ true → is_live others (name a) ≡ true
  still_live a live =
      let (n, there, named) = live_among right a live in
      among_live others (renamed_node name n) (name a) (map_among (renamed_node name) right n there) (ap name named)

  pub own_names : HaveOwnNames left others
  own_names x live =
      false_from_ne_true (is_live others x)
      (λ h. let (a, there, named) = old_of x h in both_ways (is_live left x) (ap (is_live left) (sym named) ∙ not_left a there) live)

  pub live_either : (x : ℕ) → is_live (left ++ others) x ≡ (is_live left x || is_live others x)
  live_either x = list_any-append (λ n. n.name == x) left others

  live_same : (x : ℕ) → is_live (left ++ others) x ≡ blossoms.is_live store x
  live_same x =
      live_either x
      ∙ same_bool (is_live left x || is_live others x) (blossoms.is_live store x)
      (λ h. there (or_cases (is_live left x) (is_live others x) h)) (λ h. back (both.nothing_else x h))
    where
      there : (is_live left x ≡ true) ⊎ (is_live others x ≡ true) → blossoms.is_live store x ≡ true
      there (inl h) = ap is_some (in_left x h) ∙ (sym (one.live x) ∙ h)
      there (inr h) =
          let (a, live, named) = old_of x h in
          ap (blossoms.is_live store) (sym named)
          ∙ (ap is_some (in_right a live) ∙ (still_some name link (blossoms.node_at second a) ∙ (sym (two.live a) ∙ live)))

      back : (blossoms.is_live first x ≡ true) ⊎ ((a : ℕ) × (blossoms.is_live second a ≡ true) × (name a ≡ x))
          → (is_live left x || is_live others x) ≡ true
      back (inl h) = or_left (is_live left x) (is_live others x) (one.live x ∙ h)
      back (inr (a, live, named)) =
          or_right (is_live left x) (is_live others x) (ap (is_live others) (sym named) ∙ still_live a (two.live a ∙ live))

  pub ring_left : (x : ℕ) → is_live left x ≡ true → ring_at store x ≡ ring_at first x
  ring_left x live = ap (λ o. map (λ s. s.link) (blossoms.cycle_of o)) (in_left x live)

  pub ring_right : (a : ℕ) → is_live right a ≡ true → ring_at store (name a) ≡ map link (ring_at second a)
  ring_right a live =
      ap (λ o. map (λ s. s.link) (blossoms.cycle_of o)) (in_right a live)
      ∙ (ap (map (λ s. s.link)) (cycle_renamed name link (blossoms.node_at second a))
      ∙ links_of_cycle name link (blossoms.cycle_at second a))

  -- The merged store has the nodes of both.
  pub agreed_beside : AreAgreed (left ++ others) store
  agreed_beside = record {
    live = live_same;
    children =
        All-append (λ n. n.children ≡ children_at store n.name) left others
        (among_All (λ n. n.children ≡ children_at store n.name) left
        (λ n a.
        All_among (λ m. m.children ≡ children_at first m.name) left one.children n a
        ∙ ap (λ o. map (λ s. s.node) (blossoms.cycle_of o)) (sym (in_left n.name (own_live left n a)))))
        (All-map (λ n. n.children ≡ children_at store n.name) (renamed_node name) right
        (among_All (λ n. map name n.children ≡ children_at store (name n.name)) right
        (λ n a.
        ap (map name) (All_among (λ m. m.children ≡ children_at second m.name) right two.children n a)
        ∙ sym (ap (λ o. map (λ s. s.node) (blossoms.cycle_of o)) (in_right n.name (own_live right n a))
        ∙ (ap (map (λ s. s.node)) (cycle_renamed name link (blossoms.node_at second n.name))
        ∙ nodes_of_cycle name link (blossoms.cycle_at second n.name))))));
    leaves =
        All-append IsTrue left others
        (among_All IsTrue left
        (λ n a none.
        All_among (λ m. is_empty m.children ≡ true → defects_of m ≡ blossoms.defects_at first m.name) left one.leaves n a none
        ∙ ap blossoms.defects_of (sym (in_left n.name (own_live left n a)))))
        (All-map IsTrue (renamed_node name) right
        (among_All (λ n. IsTrue (renamed_node name n)) right
        (λ n a none.
        ap (λ b. if b then first_vertices (layers_of n) else []) (is_empty-map name n.children)
        ∙ (All_among (λ m. is_empty m.children ≡ true → defects_of m ≡ blossoms.defects_at second m.name) right two.leaves n a
        (sym (is_empty-map name n.children) ∙ none)
        ∙ sym (ap blossoms.defects_of (in_right n.name (own_live right n a)) ∙ defects_renamed name link (blossoms.node_at second n.name))))));
  }
    where
      IsTrue : Node → Type 0
      IsTrue n = is_empty n.children ≡ true → defects_of n ≡ blossoms.defects_at store n.name
