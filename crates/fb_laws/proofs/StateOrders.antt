-- What doesn't matter in a half-solved part, and which of its unmatched nodes stay.
use Rattle.std.proofs.Common.{ℕ, ◌≡◌, ◌+◌, ◌==◌, ◌&&◌, not, cond, Bool, true, false, List, [], ◌∷◌, ◌++◌, map, get_or, refl, sym, ap, ◌∙◌, subst}
use Rattle.std.specs.List.Sorted.{IsPermutation}
use Rattle.std.proofs.lemmas.Bool.{both_ways, eq-eqb, eqb-true, false_from_ne_true}
use Rattle.fb_graph.specs.Parity.{is_in}
use Rattle.fb_graph.specs.Problem.{Problem}
use Rattle.fb_graph.specs.Laws.{Link}
use Rattle.fb_graph.specs.Counts.{as_count}
use Rattle.fb_graph.specs.Dual.{Node, is_live}
use Rattle.fb_graph.specs.Ends.{ends_in}
use Rattle.fb_graph.proofs.Among.{IsAmong, among_live}
use Rattle.fb_graph.proofs.Sets.{is_in-filter, is_in-head, is_in-tail}
use Rattle.fb_laws.specs.Forming.{names_of}
use Rattle.fb_laws.specs.PartStates.{AreCycles, AreLiveNames}
use Rattle.fb_laws.specs.SearchBlossoms.{renamed_name}
use Rattle.fb_laws.specs.StateOrders.{PartReordered, SearchReordered, OthersStay, AgreeAt}
use Rattle.fb_laws.specs.Trees.{paired_links}
use Rattle.fb_laws.specs.UnmatchedNames.{AreOuterNames}
use Rattle.fb_laws.specs.Works.{AreMatchedLinks, IsMatching, names_without}
use Rattle.fb_laws.proofs.HalvesKept.{matching_permuted}
use Rattle.fb_laws.proofs.OpenedBlossoms.{distinct_permuted, same_permuted}
use Rattle.fb_laws.proofs.SearchStates.{search_permuted}
use Rattle.fb_laws.proofs.StateBlossoms.{child_in_tree, unmatched_is_root}
use Rattle.fb_laws.proofs.StateFusions.{links_same, rings_same}

pub cycles_agree : (p : Problem) (nodes : List Node) (cycles other : ℕ → List Link) → AgreeAt nodes cycles other
    → AreCycles p nodes cycles → AreCycles p nodes other
cycles_agree p nodes cycles other agree are = record {
  rings = rings_same nodes nodes cycles other same are.rings;
  links = subst (AreMatchedLinks p nodes) (sym (links_same cycles other nodes same)) are.links;
}
  where
    same : (n : Node) → IsAmong n nodes → other n.name ≡ cycles n.name
    same n a = agree n.name (among_live nodes n n.name a refl)

names_permuted : (nodes : List Node) (names other : List ℕ) → IsPermutation names other → AreLiveNames nodes names
    → AreLiveNames nodes other
names_permuted nodes names other moved are = record {
  live = λ n within. are.live n (sym (same_permuted names other moved n) ∙ within);
  distinct = distinct_permuted names other moved are.distinct;
}

outer_permuted : (nodes : List Node) (names other : List ℕ) → IsPermutation names other → AreOuterNames nodes names
    → AreOuterNames nodes other
outer_permuted nodes names other moved are n within = are n (sym (same_permuted names other moved n) ∙ within)

matching_renamed : (p : Problem) (nodes : List Node) (links : List Link) (unmatched other : List ℕ) → IsPermutation unmatched other
    → IsMatching p nodes links unmatched → IsMatching p nodes links other
matching_renamed p nodes links unmatched other moved matching = record {
  dual = matching.dual;
  defects = matching.defects;
  links_are = matching.links_are;
  matched = λ i d less outer.
      ap (λ b. ends_in (get_or nodes i d).top.vertices links + as_count b) (same_permuted unmatched other moved (get_or nodes i d).name)
      ∙ matching.matched i d less outer;
  one_parity = matching.one_parity;
}

pub part_reordered : PartReordered
part_reordered p s cycles matches unmatched agree links_moved names_moved state = record {
  work = record {
    nest = state.work.nest;
    work = record {
      matching =
          matching_renamed p s.nodes matches s.unmatched unmatched names_moved
          (matching_permuted p s.nodes s.matches matches s.unmatched links_moved state.work.work.matching);
      even = λ d name leaf cover among.
          state.work.work.even d name leaf cover (sym (same_permuted s.unmatched unmatched names_moved name) ∙ among);
    };
    walks = state.work.walks;
    outer = outer_permuted s.nodes s.unmatched unmatched names_moved state.work.outer;
  };
  cycles = cycles_agree p s.nodes s.cycles cycles agree state.cycles;
  names = names_permuted s.nodes s.unmatched unmatched names_moved state.names;
}

pub search_reordered : SearchReordered
search_reordered p s cycles rest unmatched agree links_moved names_moved state =
    let search = search_permuted p s.nodes s.tree s.rest rest s.unmatched s.root s.parity links_moved state.search.search in
    record {
      search = record {
        nest = state.search.nest;
        search = record {
          matching = matching_renamed p s.nodes (paired_links s.tree ++ rest) s.unmatched unmatched names_moved search.matching;
          root_is = search.root_is;
          open_root = same_permuted s.unmatched unmatched names_moved s.root ∙ search.open_root;
          names = search.names;
          joined = search.joined;
          grown = search.grown;
          parity = search.parity;
        };
        even = λ d name leaf cover among.
            state.search.even d name leaf cover
            (is_in-filter (λ n. not (n == s.root)) s.unmatched name
            ∙ (ap (λ b. b && not (name == s.root)) (sym (same_permuted s.unmatched unmatched names_moved name))
            ∙ (sym (is_in-filter (λ n. not (n == s.root)) unmatched name) ∙ among)));
        walks = state.search.walks;
        outer = outer_permuted s.nodes s.unmatched unmatched names_moved state.search.outer;
      };
      cycles = cycles_agree p s.nodes s.cycles cycles agree state.cycles;
      names = names_permuted s.nodes s.unmatched unmatched names_moved state.names;
    }

-- names in which only the root is replaced by a new name, without the root
renamed_without : (joined : ℕ → Bool) (name root : ℕ) (names : List ℕ) → ((n : ℕ) → is_in names n ≡ true → n ≡ name → ⊥)
    → ((n : ℕ) → is_in names n ≡ true → joined n ≡ true → n ≡ root)
    → names_without (renamed_name joined name root) (map (renamed_name joined name) names) ≡ names_without root names
renamed_without joined name root [] fresh alone = refl
renamed_without joined name root (x ∷ xs) fresh alone =
    step (joined x) refl
    (renamed_without joined name root xs (λ n within. fresh n (is_in-tail x xs n within)) (λ n within. alone n (is_in-tail x xs n within)))
  where
    W : List ℕ
    W = names_without (renamed_name joined name root) (map (renamed_name joined name) xs)

    same : joined x ≡ false → (b : Bool) → joined root ≡ b → (x == cond b name root) ≡ (x == root)
    same out true e =
        false_from_ne_true (x == name) (λ h. fresh x (is_in-head x xs) (eqb-true x name h))
        ∙ sym (false_from_ne_true (x == root) (λ h. both_ways (joined x) out (ap joined (eqb-true x root h) ∙ e)))
    same out false e = refl

    step : (b : Bool) → joined x ≡ b → names_without (renamed_name joined name root) (map (renamed_name joined name) xs) ≡ names_without root xs
        → names_without (cond (joined root) name root) (cond b name x ∷ map (renamed_name joined name) xs) ≡ names_without root (x ∷ xs)
    step true e ih =
        let is : x ≡ root = alone x (is_in-head x xs) e in
        ap (λ t. cond (not t) (name ∷ W) W) (ap (λ t. name == cond t name root) (ap joined (sym is) ∙ e) ∙ eq-eqb name name refl)
        ∙ (ih ∙ ap (λ t. cond (not t) (x ∷ names_without root xs) (names_without root xs)) (sym (eq-eqb x root is)))
    step false e ih =
        ap (λ t. cond (not t) (x ∷ W) W) (same e (joined root) refl)
        ∙ ap (λ l. cond (not (x == root)) (x ∷ l) l) ih

pub others_stay : OthersStay
others_stay p s name base others links joining fresh state =
    renamed_without (is_in (names_of (base ∷ others))) name s.root s.unmatched
    (λ n open_ same. both_ways (is_live s.nodes name) fresh (ap (is_live s.nodes) (sym same) ∙ state.names.live n open_))
    (λ n open_ within.
    unmatched_is_root p s state n (child_in_tree s.root s.tree (base ∷ others) joining.in_tree n within) open_)
