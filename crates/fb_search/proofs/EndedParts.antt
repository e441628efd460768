-- A search that has ended leaves a part.
use Rattle.std.proofs.Common.{ℕ, ◌≡◌, ◌==◌, ◌+◌, ◌<◌, ◌≤◌, ◌⊎◌, inl, inr, true, not, length, List, [], ◌∷◌, ◌++◌, cond, map, Option, None, unwrap_or, refl, sym, ap, subst, ◌∙◌, append_assoc}
use Rattle.std.specs.List.Sorted.{IsPermutation}
use Rattle.std.proofs.lemmas.Bool.{and_from, eqb-true, false≢true, ne_eqb, or_cases}
use Rattle.std.proofs.lemmas.List.{map-append}
use Rattle.std.proofs.lemmas.List.Sorted.{IsPermutation-append_comm, IsPermutation-cons, IsPermutation-middle, IsPermutation-sym, IsPermutation-trans, length_permutation}
use Rattle.fb_graph.specs.Parity.{is_in}
use Rattle.fb_graph.specs.Dual.{Node, is_live}
use Rattle.fb_graph.specs.Laws.{Link}
use Rattle.fb_graph.proofs.Sets.{is_in-filter, is_in-head, is_in-tail}
use Rattle.fb_laws.specs.StateMoves.{IsEnded, ended_state}
use Rattle.fb_laws.specs.StateOrders.{AgreeAt}
use Rattle.fb_laws.specs.Trees.{branches_beside, grown_links, paired_links, path_to, plus_names}
use Rattle.fb_laws.specs.Works.{names_without}
use Rattle.fb_laws.proofs.OpenedBlossoms.{same_permuted}
use Rattle.fb_laws.proofs.StateOrders.{part_reordered}
use Rattle.fb_blossoms.specs.Nodes as blossoms
use Rattle.fb_links.specs.declared.walk.Step.{Step}
use Rattle.fb_links.specs.Table.{Adds, link_at}
use Rattle.fb_trees.specs.Rooted.{AreHung}
use Rattle.fb_trees.proofs.Mapped.{beside_moved, grown_moved, paired_moved, path_moved}
use Rattle.fb_half.specs.declared.matches.Match.{Match}
use Rattle.fb_half.specs.Matchings.{IsMatchOf, IsMatchingOf, match_links}
use Rattle.fb_half.specs.Parts.{AreLinksOf, AreStepsOf, IsPart, PartValue}
use Rattle.fb_half.specs.Translations.{cycles_by, entry_by, link_by, link_of, ring_at, ring_links}
use Rattle.fb_search.specs.InternalSearching.{IsSearching, SearchValue, problem_of, searched_links, state_at}
use Rattle.fb_search.specs.Progress.{IsSearched}
use Rattle.fb_search.specs.InternalEndings.{Forgets, all_matches, ended_matches}
use Rattle.fb_search.proofs.EndedLinks.{link_kept, links_kept, links_permuted, new_number}
use Rattle.fb_search.proofs.EndedMatches.{AreTaken, ended_matching}
use Rattle.fb_search.proofs.EndedTrees.{matches_linked}
use Rattle.fb_links.proofs.MovedLinks.{Table}
use Rattle.fb_graph.proofs.Floods.{is_in-left, is_in-right}

pub map_same : (f g : ℕ → Link) (ids : List ℕ) → ((id : ℕ) → is_in ids id ≡ true → f id ≡ g id) → map f ids ≡ map g ids
map_same f g [] same = refl
map_same f g (x ∷ xs) same =
    (λ k. same x (is_in-head x xs) k ∷ map_same f g xs (λ id h. same id (is_in-tail x xs id h)) k)

-- the links round a live node are among those round all nodes
pub ring_within : (nodes : List Node) (store : List (Option blossoms.Node)) (n : ℕ) → is_live nodes n ≡ true → (id : ℕ)
    → is_in (ring_at store n) id ≡ true → is_in (ring_links nodes store) id ≡ true
ring_within [] store n live id within = cc
ring_within (x ∷ xs) store n live id within =
    by (or_cases (x.name == n) (is_live xs n) live) (λ there. ring_within xs store n there id within)
  where
    by : ((x.name == n) ≡ true) ⊎ (is_live xs n ≡ true) → (is_live xs n ≡ true → is_in (ring_links xs store) id ≡ true)
        → is_in (ring_links (x ∷ xs) store) id ≡ true
    by (inl here) rest =
        is_in-left (ring_at store x.name) (ring_links xs store) id
        (ap (λ m. is_in (ring_at store m) id) (eqb-true x.name n here) ∙ within)
    by (inr there) rest = is_in-right (ring_at store x.name) (ring_links xs store) id (rest there)

-- what the code makes of the search's links and matches
pub record IsEndedBy (w : SearchValue) (name : ℕ) (new : Table) (unmatched : List ℕ) (kept : List Match) (out : Match) : Type 0 where
  pub hung : AreHung w.tree.root w.tree.branches
  pub plus : is_in (plus_names w.tree.root w.tree.branches) name ≡ true
  -- the new link is stored, and then some links are forgotten
  pub mid : Table
  pub walk : List Step
  pub gone : List ℕ
  pub adds : Adds w.part.links mid out.link walk
  pub forgets : Forgets gone mid new
  pub steps : AreStepsOf (problem_of w) walk
  pub counted : IsPermutation (searched_links w)
      ((match_links (kept ++ ended_matches w.tree.branches name) ++ ring_links w.part.nodes w.part.store) ++ gone)
  pub takes : AreTaken w.part.matching w.tree.root name unmatched kept out
  pub leads : IsMatchOf (problem_of w) w.part.nodes (link_of walk) out.first out.second

-- the part where the search has ended
abbrev pub part_after : SearchValue → ℕ → Table → List ℕ → List Match → Match → PartValue
part_after w name new unmatched kept out = record w.part {
  links = new;
  matching = record { matches = all_matches kept w.tree.branches name out; unmatched = unmatched };
}

-- the links kept beside the new one
abbrev pub others_kept : SearchValue → ℕ → List Match → List ℕ
others_kept w name kept = match_links (kept ++ ended_matches w.tree.branches name) ++ ring_links w.part.nodes w.part.store

stays : (w : SearchValue) (name : ℕ) (new : Table) (unmatched : List ℕ) (kept : List Match) (out : Match) → IsSearching w
    → IsEndedBy w name new unmatched kept out → (id : ℕ) → is_in (others_kept w name kept) id ≡ true
    → link_at new id ≡ link_at w.part.links id
stays w name new unmatched kept out are is =
    link_kept (problem_of w) w.part.links is.mid new (searched_links w) (others_kept w name kept) is.gone out.link is.walk
    are.links is.counted is.adds is.forgets

stays_by : (w : SearchValue) (name : ℕ) (new : Table) (unmatched : List ℕ) (kept : List Match) (out : Match) → IsSearching w
    → IsEndedBy w name new unmatched kept out → (id : ℕ) → is_in (others_kept w name kept) id ≡ true
    → link_by new id ≡ link_by w.part.links id
stays_by w name new unmatched kept out are is id within =
    ap (λ o. link_of (unwrap_or o [])) (stays w name new unmatched kept out are is id within)

-- the numbers of its links, the new one last among the matches
links_after : (w : SearchValue) (name : ℕ) (kept : List Match) (out : Match)
    → match_links (all_matches kept w.tree.branches name out)
    ≡ match_links (kept ++ ended_matches w.tree.branches name) ++ out.link ∷ []
links_after w name kept out =
    ap match_links (sym (append_assoc kept (ended_matches w.tree.branches name) (out ∷ [])))
    ∙ map-append (λ m. m.link) (kept ++ ended_matches w.tree.branches name) (out ∷ [])

pub ended_links : (w : SearchValue) (name : ℕ) (new : Table) (unmatched : List ℕ) (kept : List Match) (out : Match) → IsSearching w
    → IsEndedBy w name new unmatched kept out
    → AreLinksOf (problem_of w) new
    (match_links (all_matches kept w.tree.branches name out) ++ ring_links w.part.nodes w.part.store)
ended_links w name new unmatched kept out are is =
    links_permuted (problem_of w) new (out.link ∷ others_kept w name kept) _
    (subst (λ l. IsPermutation (out.link ∷ others_kept w name kept) (l ++ rings)) (sym (links_after w name kept out))
    (subst (IsPermutation (out.link ∷ others_kept w name kept)) (sym (append_assoc before (out.link ∷ []) rings))
    (IsPermutation-sym _ _ (IsPermutation-middle before out.link rings))))
    (links_kept (problem_of w) w.part.links is.mid new (searched_links w) (others_kept w name kept) is.gone out.link is.walk
    are.links is.counted is.adds is.forgets is.steps)
  where
    before : List ℕ
    before = match_links (kept ++ ended_matches w.tree.branches name)

    rings : List ℕ
    rings = ring_links w.part.nodes w.part.store

-- the new link
new_link : (w : SearchValue) (name : ℕ) (new : Table) (unmatched : List ℕ) (kept : List Match) (out : Match) → IsSearching w
    → (is : IsEndedBy w name new unmatched kept out) → link_by new out.link ≡ link_of is.walk
new_link w name new unmatched kept out are is =
    ap (λ o. link_of (unwrap_or o []))
    (is.forgets out.link
    ∙ (ap (λ b. cond b None (link_at is.mid out.link))
    (new_number (problem_of w) w.part.links is.mid (searched_links w) (others_kept w name kept) is.gone out.link is.walk
    are.links is.counted is.adds).1
    ∙ is.adds.added))

pub ended_lists : (w : SearchValue) (name : ℕ) (new : Table) (unmatched : List ℕ) (kept : List Match) (out : Match) → IsSearching w
    → IsEndedBy w name new unmatched kept out
    → IsMatchingOf (problem_of w) w.part.nodes new (record { matches = all_matches kept w.tree.branches name out; unmatched = unmatched }) []
ended_lists w name new unmatched kept out are is =
    ended_matching (problem_of w) w.part.nodes w.part.links new w.part.matching w.tree.root name w.tree.branches unmatched kept out
    are.matching are.state.1.search.search.joined is.hung is.plus is.takes
    (λ id within. stays w name new unmatched kept out are is id
    (is_in-left (match_links (kept ++ ended_matches w.tree.branches name)) (ring_links w.part.nodes w.part.store) id within))
    (subst (λ l. IsMatchOf (problem_of w) w.part.nodes l out.first out.second)
    (sym (new_link w name new unmatched kept out are is)) is.leads)

-- four lists in the order of the law and in that of the code
pub reordered : {X : Type 0} (xs ys zs : List X) (x : X) → IsPermutation (xs ++ x ∷ (ys ++ zs)) ((zs ++ (xs ++ ys)) ++ x ∷ [])
reordered xs ys zs x =
    IsPermutation-trans _ _ _ (IsPermutation-middle xs x (ys ++ zs))
    (subst (λ l. IsPermutation (x ∷ l) ((zs ++ (xs ++ ys)) ++ x ∷ [])) (append_assoc xs ys zs)
    (IsPermutation-trans _ _ _ (IsPermutation-cons x _ _ (IsPermutation-append_comm (xs ++ ys) zs))
    (IsPermutation-append_comm (x ∷ []) (zs ++ (xs ++ ys)))))

-- the matches that the law gives, with the links that stay beside the tree
abbrev pub law_matches : SearchValue → ℕ → List Match → Link → List Link
law_matches w name kept out =
    grown_links (path_to (map (entry_by w.part.links) w.tree.branches) name)
    ++ out ∷ (paired_links (branches_beside (map (entry_by w.part.links) w.tree.branches) name) ++ map (link_by w.part.links) (match_links kept))

matches_after : (w : SearchValue) (name : ℕ) (new : Table) (unmatched : List ℕ) (kept : List Match) (out : Match) → IsSearching w
    → (is : IsEndedBy w name new unmatched kept out)
    → IsPermutation (law_matches w name kept (link_of is.walk))
    (map (link_by new) (match_links (all_matches kept w.tree.branches name out)))
matches_after w name new unmatched kept out are is =
    subst (IsPermutation (law_matches w name kept (link_of is.walk))) (sym whole)
    (subst (λ l. IsPermutation l ((others ++ (up ++ off)) ++ link_of is.walk ∷ [])) (sym law) (reordered up off others (link_of is.walk)))
  where
    by : ℕ → Link
    by = link_by w.part.links

    up : List Link
    up = map by (grown_links (path_to w.tree.branches name))

    off : List Link
    off = map by (paired_links (branches_beside w.tree.branches name))

    others : List Link
    others = map by (match_links kept)

    law : law_matches w name kept (link_of is.walk) ≡ up ++ link_of is.walk ∷ (off ++ others)
    law =
        (λ k. (ap grown_links (path_moved by w.tree.branches name) ∙ grown_moved by (path_to w.tree.branches name)) k
        ++ link_of is.walk
        ∷ ((ap paired_links (beside_moved by w.tree.branches name) ∙ paired_moved by (branches_beside w.tree.branches name)) k ++ others))

    before : List ℕ
    before = match_links (kept ++ ended_matches w.tree.branches name)

    same : map (link_by new) before ≡ map by before
    same =
        map_same (link_by new) by before
        (λ id within. stays_by w name new unmatched kept out are is id
        (is_in-left before (ring_links w.part.nodes w.part.store) id within))

    apart : map by before ≡ others ++ (up ++ off)
    apart =
        ap (map by) (map-append (λ m. m.link) kept (ended_matches w.tree.branches name))
        ∙ map-append by (match_links kept) (match_links (ended_matches w.tree.branches name))
        ∙ ap (λ l. others ++ map by l) (matches_linked w.tree.branches name)
        ∙ ap (λ l. others ++ l)
        (map-append by (grown_links (path_to w.tree.branches name)) (paired_links (branches_beside w.tree.branches name)))

    whole : map (link_by new) (match_links (all_matches kept w.tree.branches name out)) ≡ (others ++ (up ++ off)) ++ link_of is.walk ∷ []
    whole =
        ap (map (link_by new)) (links_after w name kept out)
        ∙ map-append (link_by new) before (out.link ∷ [])
        ∙ (λ k. (same ∙ apart) k ++ new_link w name new unmatched kept out are is k ∷ [])

-- The whole part, given what the law says of the state.
pub ended_part : (w : SearchValue) (name : ℕ) (new : Table) (unmatched named : List ℕ) (kept : List Match) (out : Match)
    (are : IsSearching w) (is : IsEndedBy w name new unmatched kept out) → IsPermutation named unmatched
    → length w.part.matching.unmatched ≤ length unmatched + 2
    → IsEnded (problem_of w) (state_at w are.state.0)
    (ended_state name (link_of is.walk) (map (link_by w.part.links) (match_links kept)) named (state_at w are.state.0))
    → IsPart (part_after w name new unmatched kept out)
    × IsSearched w.tree.root w.part (part_after w name new unmatched kept out)
ended_part w name new unmatched named kept out are is moved few law = (
  record {
    job = are.job;
    slot = are.slot;
    node = are.node;
    state =
        part_reordered (problem_of w)
        (ended_state name (link_of is.walk) (map (link_by w.part.links) (match_links kept)) named (state_at w are.state.0))
        (cycles_by new w.part.store) (map (link_by new) (match_links (all_matches kept w.tree.branches name out))) unmatched
        agree (matches_after w name new unmatched kept out are is) moved law.state;
    agreed = are.agreed;
    links = ended_links w name new unmatched kept out are is;
    matching = ended_lists w name new unmatched kept out are is;
  },
  record {
    part = record { job = refl; slot = refl; node = refl };
    others = λ n within. others n (sym (same_permuted named unmatched moved n) ∙ within);
    kept = λ n within. refl;
    fewer = subst (λ n. n < length w.part.matching.unmatched) (sym (length_permutation named unmatched moved)) law.fewer;
    few = few;
  },
)
  where
    agree : AgreeAt w.part.nodes (cycles_by w.part.links w.part.store) (cycles_by new w.part.store)
    agree n live =
        map_same (link_by new) (link_by w.part.links) (ring_at w.part.store n)
        (λ id within. stays_by w name new unmatched kept out are is id
        (is_in-right (match_links (kept ++ ended_matches w.tree.branches name)) (ring_links w.part.nodes w.part.store) id
        (ring_within w.part.nodes w.part.store n live id within)))

    others : (n : ℕ) → is_in named n ≡ true → is_in (names_without w.tree.root w.part.matching.unmatched) n ≡ true
    others n within =
        is_in-filter (λ x. not (x == w.tree.root)) w.part.matching.unmatched n
        ∙ and_from (is_in w.part.matching.unmatched n) (not (n == w.tree.root)) (law.others n within)
        (ap not (ne_eqb n w.tree.root (λ e. false≢true (sym law.matched ∙ (ap (is_in named) (sym e) ∙ within)))))
