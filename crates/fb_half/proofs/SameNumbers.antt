-- Tables of a part without nodes beside those of another one, which keep their numbers.
use Rattle.std.proofs.Common.{ℕ, ◌≡◌, ◌≤◌, ◌==◌, if◌then◌else◌, Bool, true, false, List, [], ◌∷◌, map, count_by, Option, Some, None, is_some, option_map, refl, sym, ap, ◌∙◌, subst, inr, arith}
use Rattle.std.proofs.lemmas.Bool.{eqb-true, false≢true}
use Rattle.std.proofs.lemmas.List.{map-id}
use Rattle.std.proofs.lemmas.List.Elements.{All-map}
use Rattle.std.proofs.lemmas.List.Sums.{sum_by-cons}
use Rattle.fb_graph.specs.Certificate.{AreDistinct}
use Rattle.fb_graph.specs.Counts.{as_count}
use Rattle.fb_graph.specs.Dual.{Node}
use Rattle.fb_graph.specs.Parity.{is_in}
use Rattle.fb_graph.specs.RenamedNodes.{renamed_node, renamed_nodes}
use Rattle.fb_graph.proofs.Among.{among_All, among_is_in}
use Rattle.fb_graph.proofs.Sets.{count_equal, count_equal-le}
use Rattle.fb_links.specs.Lists as lists
use Rattle.fb_links.specs.Merged.{AreMerged, IsMoved}
use Rattle.fb_links.specs.Names.{name_by}
use Rattle.fb_links.specs.Table.{link_at}
use Rattle.fb_links.specs.Table as table
use Rattle.fb_blossoms.specs.Merged as merged
use Rattle.fb_blossoms.specs.Nodes as blossoms
use Rattle.fb_half.specs.declared.matches.Match.{Match}
use Rattle.fb_half.specs.Merged.{renamed_match, renamed_second}
use Rattle.fb_half.proofs.AddedSingles.{Store}
use Rattle.fb_links.proofs.MovedLinks.{Table}

-- each number beside itself
abbrev pub same_pairs : List ℕ → List (ℕ × ℕ)
same_pairs l = map (λ i. (i, i)) l

pub name_kept : (l : List ℕ) (a : ℕ) → name_by (same_pairs l) a ≡ a
name_kept [] a = refl
name_kept (i ∷ l) a = step (i == a) refl (name_kept l a)
  where
    step : (b : Bool) → (i == a) ≡ b → name_by (same_pairs l) a ≡ a → name_by (same_pairs (i ∷ l)) a ≡ a
    step true e ih = ap (λ b. if b then i else name_by (same_pairs l) a) e ∙ eqb-true i a e
    step false e ih = ap (λ b. if b then i else name_by (same_pairs l) a) e ∙ ih

pub names_kept : (l : List ℕ) → name_by (same_pairs l) ≡ (λ (a : ℕ). a)
names_kept l = λ i. λ a. name_kept l a i

firsts_are : (l : List ℕ) → map (λ (p : ℕ × ℕ). p.0) (same_pairs l) ≡ l
firsts_are [] = refl
firsts_are (i ∷ l) = ap (λ x. i ∷ x) (firsts_are l)

seconds_are : (l : List ℕ) → map (λ (p : ℕ × ℕ). p.1) (same_pairs l) ≡ l
seconds_are [] = refl
seconds_are (i ∷ l) = ap (λ x. i ∷ x) (seconds_are l)

counted : {X : Type 0} (p : X → Bool) (f : ℕ → X) (xs : List ℕ) → count_by p (map f xs) ≡ count_by (λ x. p (f x)) xs
counted p f [] = refl
counted p f (x ∷ xs) =
    omega (
      arith,
      sum_by-cons (λ y. as_count (p y)) (f x) (map f xs),
      sum_by-cons (λ y. as_count (p (f y))) x xs,
      counted p f xs,
    )

none_there : {X : Type 0} (o : Option X) → is_some o ≡ false → o ≡ None
none_there None h = refl
none_there (Some x) h = absurd (false≢true (sym h))

map_same : {X : Type 0} (f : X → X) (xs : List X) → ((x : X) → f x ≡ x) → map f xs ≡ xs
map_same f [] same = refl
map_same f (x ∷ xs) same = (λ i. same x i ∷ map_same f xs same i)

pub nodes_kept : (l : List ℕ) (nodes : List Node) → renamed_nodes (name_by (same_pairs l)) nodes ≡ nodes
nodes_kept l nodes =
    ap (λ f. renamed_nodes f nodes) (names_kept l)
    ∙ map_same (renamed_node (λ a. a)) nodes (λ n. ap (λ c. record n { children = c }) (map-id n.children))

second_kept : (o : Option ℕ) → renamed_second (λ a. a) o ≡ o
second_kept None = refl
second_kept (Some b) = refl

pub matches_kept : (links names : List ℕ) (ms : List Match) → map (renamed_match (name_by (same_pairs links)) (name_by (same_pairs names))) ms ≡ ms
matches_kept links names ms =
    (λ i. map (renamed_match (names_kept links i) (names_kept names i)) ms)
    ∙ map_same (renamed_match (λ a. a) (λ a. a)) ms (λ m. ap (λ o. record m { second = o }) (second_kept m.second))

apart_links : (l : List ℕ) → AreDistinct l → lists.AreDistinct l
apart_links [] d = tt
apart_links (x ∷ xs) d = (d.0, apart_links xs d.1)

pub tables_kept : (left right : Table) (ids : List ℕ) → AreDistinct ids → ((id : ℕ) → table.is_live right id ≡ is_in ids id)
    → ((id : ℕ) → table.is_live left id ≡ false) → AreMerged left right (same_pairs ids) right
tables_kept left right ids distinct live bare = record {
  listed = λ id. ap (λ l. is_in l id) (firsts_are ids) ∙ sym (live id);
  once = subst lists.AreDistinct (sym (firsts_are ids)) (apart_links ids distinct);
  moved = All-map (IsMoved right right) (λ i. (i, i)) ids
      (among_All (λ i. IsMoved right right (i, i)) ids (λ i a. (live i ∙ among_is_in ids i a, refl)));
  fresh = All-map (λ (p : ℕ × ℕ). link_at left p.1 ≡ None) (λ i. (i, i)) ids
      (among_All (λ i. link_at left i ≡ None) ids (λ i a. none_there (link_at left i) (bare i)));
  apart = subst lists.AreDistinct (sym (seconds_are ids)) (apart_links ids distinct);
  others = λ id out.
      none_there (link_at right id) (live id ∙ (ap (λ l. is_in l id) (sym (seconds_are ids)) ∙ out)) ∙ sym (none_there (link_at left id) (bare id));
}

pub stores_kept : (left right : Store) (ids names : List ℕ) → AreDistinct names → ((x : ℕ) → blossoms.is_live right x ≡ is_in names x)
    → ((x : ℕ) → blossoms.is_live left x ≡ false) → merged.IsMerged left right right (same_pairs ids) (same_pairs names)
stores_kept left right ids names distinct live bare = record {
  listed = λ a. counted (λ (p : ℕ × ℕ). p.0 == a) (λ i. (i, i)) names ∙ (count_equal names a distinct ∙ ap as_count (sym (live a)));
  distinct = λ b. subst (λ k. k ≤ 1) (sym (counted (λ (p : ℕ × ℕ). p.1 == b) (λ i. (i, i)) names)) (count_equal-le names b distinct);
  apart = λ a c here there same. sym (name_kept names a) ∙ (same ∙ name_kept names c);
  fresh = λ a here. none_there (blossoms.node_at left (name_by (same_pairs names) a)) (bare (name_by (same_pairs names) a));
  left_stays = λ x here. absurd (false≢true (sym (bare x) ∙ here));
  right_renamed = λ a here. ap (blossoms.node_at right) (name_kept names a) ∙ sym (node_kept (blossoms.node_at right a));
  nothing_else = λ x here. inr (x, here, name_kept names x);
}
  where
    node_kept : (o : Option blossoms.Node) → option_map (merged.renamed_node (name_by (same_pairs names)) (name_by (same_pairs ids))) o ≡ o
    node_kept o =
        (λ i. option_map (merged.renamed_node (names_kept names i) (names_kept ids i)) o)
        ∙ kept o
      where
        kept : (q : Option blossoms.Node) → option_map (merged.renamed_node (λ a. a) (λ a. a)) q ≡ q
        kept None = refl
        kept (Some n) = ap (λ c. Some (record n { cycle = c })) (map-id n.cycle)
