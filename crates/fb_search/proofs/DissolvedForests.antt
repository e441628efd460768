-- What is kept while trees grow where some of them end, whose nodes are matched: the links, the matching and the whole state.
use Rattle.std.proofs.Common.{ℕ, ◌≡◌, ◌⊎◌, inl, inr, cond, not, true, All, List, [], ◌∷◌, ◌++◌, map, None, unwrap_or, refl, sym, ap, subst, ◌∙◌, append_assoc}
use Rattle.std.specs.List.Sorted.{IsPermutation}
use Rattle.std.proofs.lemmas.List.{map-append}
use Rattle.std.proofs.lemmas.List.Sorted.{IsPermutation-append_right, IsPermutation-cons, IsPermutation-middle, IsPermutation-refl, IsPermutation-sym, IsPermutation-trans}
use Rattle.fb_graph.specs.Parity.{is_in}
use Rattle.fb_graph.specs.Certificate.{AreDistinct}
use Rattle.fb_graph.specs.Laws.{Link}
use Rattle.fb_graph.proofs.Among.{IsAmong, All_among, among_All, among_either}
use Rattle.fb_graph.proofs.Floods.{is_in-left, is_in-right}
use Rattle.fb_graph.proofs.Sets.{distinct-filter, is_in-head, is_in-tail}
use Rattle.fb_laws.specs.ForestStates.{IsForestState}
use Rattle.fb_laws.specs.StateOrders.{AgreeAt}
use Rattle.fb_laws.specs.LinkNumbers.{tree_links}
use Rattle.fb_laws.specs.Trees.{EntryOf, grown_links, paired_links}
use Rattle.fb_laws.proofs.ForestParts.{forest_state_permuted, forest_state_relisted}
use Rattle.fb_laws.proofs.OpenedBlossoms.{distinct_permuted, same_permuted}
use Rattle.fb_laws.proofs.PermutedTrees.{pull}
use Rattle.fb_links.specs.declared.walk.Step.{Step}
use Rattle.fb_links.specs.Table.{Adds, link_at}
use Rattle.fb_links.proofs.MovedLinks.{Table}
use Rattle.fb_half.specs.declared.matches.Match.{Match}
use Rattle.fb_half.specs.Matchings.{IsMatchOf, IsMatchingOf, listed_names, match_links, matched_names}
use Rattle.fb_half.specs.Parts.{AreLinksOf, AreStepsOf, problem_in}
use Rattle.fb_half.specs.Translations.{cycles_by, entry_by, link_by, link_of, ring_at, ring_links}
use Rattle.fb_trees.specs.Branches.{Grown}
use Rattle.fb_trees.specs.Forests.{trees_in}
use Rattle.fb_search.specs.InternalEndings.{Forgets}
use Rattle.fb_search.specs.InternalGrowing.{GrowingValue, IsGrowing, all_along, forest_links, grown_ids, tree_by}
use Rattle.fb_search.proofs.EndedLinks.{link_kept, links_kept, links_permuted, new_number}
use Rattle.fb_search.proofs.EndedMatches.{LeadsBy, leads_still}
use Rattle.fb_search.proofs.EndedParts.{map_same, ring_within}
use Rattle.fb_search.proofs.WaitingNames.{linked_roots}
use Rattle.fb_search.proofs.WaitingStates.{waiting_among, waiting_read}

-- branches and trees whose links stay
entries_still : (old new : Table) (es : List (EntryOf ℕ))
    → ((id : ℕ) → is_in (grown_links es) id ≡ true → link_by new id ≡ link_by old id)
    → ((id : ℕ) → is_in (paired_links es) id ≡ true → link_by new id ≡ link_by old id)
    → map (entry_by new) es ≡ map (entry_by old) es
entries_still old new [] grown paired = refl
entries_still old new (e ∷ es) grown paired =
    (λ k.
    record {
      parent = e.parent;
      tree = grown e.tree (is_in-head e.tree (grown_links es)) k;
      minus = e.minus;
      matched = paired e.matched (is_in-head e.matched (paired_links es)) k;
      plus = e.plus;
    }
    ∷ entries_still old new es (λ id h. grown id (is_in-tail e.tree (grown_links es) id h))
    (λ id h. paired id (is_in-tail e.matched (paired_links es) id h)) k)

pub trees_still : (old new : Table) (gs : List Grown) → ((id : ℕ) → is_in (grown_ids gs) id ≡ true → link_by new id ≡ link_by old id)
    → map (tree_by new) gs ≡ map (tree_by old) gs
trees_still old new [] same = refl
trees_still old new (g ∷ gs) same =
    (λ k.
    record {
      root = g.root;
      branches =
          entries_still old new g.branches
          (λ id h.
          same id
          (is_in-left (tree_links g.branches) (grown_ids gs) id
          (is_in-left (grown_links g.branches) (paired_links g.branches) id h)))
          (λ id h.
          same id
          (is_in-left (tree_links g.branches) (grown_ids gs) id
          (is_in-right (grown_links g.branches) (paired_links g.branches) id h)))
          k;
    }
    ∷ trees_still old new gs (λ id h. same id (is_in-right (tree_links g.branches) (grown_ids gs) id h)) k)

-- What the calls have made of links and matches where trees end and these are left: matches that stay, those made of the trees
-- that end, and a last one over a new link. Some links are forgotten.
pub record IsLeft (w : GrowingValue) (left : List Grown) (new : Table) (unmatched : List ℕ) (kept ends : List Match) (out : Match) : Type 0 where
  pub mid : Table
  pub walk : List Step
  pub gone : List ℕ
  pub adds : Adds w.part.links mid out.link walk
  pub forgets : Forgets gone mid new
  pub steps : AreStepsOf (problem_in w.part) walk
  pub counted : IsPermutation (forest_links w)
      ((match_links (kept ++ ends) ++ (grown_ids left ++ ring_links w.part.nodes w.part.store)) ++ gone)
  pub listed : IsPermutation (listed_names w.part.matching ++ all_along (trees_in w.forest))
      ((unmatched ++ matched_names (kept ++ (ends ++ out ∷ []))) ++ all_along left)
  pub lead : (e : Match) → IsAmong e (kept ++ ends) → LeadsBy (problem_in w.part) w.part.nodes w.part.links e
  pub leads : IsMatchOf (problem_in w.part) w.part.nodes (link_of walk) out.first out.second

module _ (w : GrowingValue) (left : List Grown) (new : Table) (unmatched : List ℕ) (kept ends : List Match) (out : Match)
    (are : IsGrowing w) (is : IsLeft w left new unmatched kept ends out) where
  abbrev rings : List ℕ
  rings = ring_links w.part.nodes w.part.store

  abbrev before : List ℕ
  before = match_links (kept ++ ends)

  abbrev staying : List ℕ
  staying = before ++ (grown_ids left ++ rings)

  abbrev pub matches_left : List Match
  matches_left = kept ++ (ends ++ out ∷ [])

  pub stays : (id : ℕ) → is_in staying id ≡ true → link_at new id ≡ link_at w.part.links id
  stays =
      link_kept (problem_in w.part) w.part.links is.mid new (forest_links w) staying is.gone out.link is.walk are.links is.counted
      is.adds is.forgets

  pub stays_by : (id : ℕ) → is_in staying id ≡ true → link_by new id ≡ link_by w.part.links id
  stays_by id within = ap (λ o. link_of (unwrap_or o [])) (stays id within)

  pub out_link : link_by new out.link ≡ link_of is.walk
  out_link =
      ap (λ o. link_of (unwrap_or o []))
      (is.forgets out.link
      ∙ (ap (λ b. cond b None (link_at is.mid out.link))
      (new_number (problem_in w.part) w.part.links is.mid (forest_links w) staying is.gone out.link is.walk are.links is.counted
      is.adds).1
      ∙ is.adds.added))

  numbers_left : match_links matches_left ≡ before ++ out.link ∷ []
  numbers_left =
      ap match_links (sym (append_assoc kept ends (out ∷ []))) ∙ map-append (λ (m : Match). m.link) (kept ++ ends) (out ∷ [])

  pub links_left : AreLinksOf (problem_in w.part) new (grown_ids left ++ (match_links matches_left ++ rings))
  links_left =
      links_permuted (problem_in w.part) new (out.link ∷ staying) _
      (IsPermutation-trans _ _ _ (IsPermutation-cons out.link _ _ (pull before (grown_ids left) rings))
      (IsPermutation-trans _ _ _ (IsPermutation-sym _ _ (IsPermutation-middle (grown_ids left) out.link (before ++ rings)))
      (IsPermutation-append_right (grown_ids left) _ _
      (subst (λ l. IsPermutation (out.link ∷ (before ++ rings)) (l ++ rings)) (sym numbers_left)
      (subst (IsPermutation (out.link ∷ (before ++ rings))) (sym (append_assoc before (out.link ∷ []) rings))
      (IsPermutation-sym _ _ (IsPermutation-middle before out.link rings)))))))
      (links_kept (problem_in w.part) w.part.links is.mid new (forest_links w) staying is.gone out.link is.walk are.links is.counted
      is.adds is.forgets is.steps)

  pub matching_left : IsMatchingOf (problem_in w.part) w.part.nodes new (record { matches = matches_left; unmatched = unmatched }) (all_along left)
  matching_left = record {
    distinct = distinct_permuted _ _ is.listed are.matching.distinct;
    live = λ n within. are.matching.live n (sym (same_permuted _ _ is.listed n) ∙ within);
    all = λ n live outer. same_permuted _ _ is.listed n ∙ are.matching.all n live outer;
    connects = among_All (LeadsBy (problem_in w.part) w.part.nodes new) matches_left each;
  }
    where
      old : All (LeadsBy (problem_in w.part) w.part.nodes new) (kept ++ ends)
      old =
          leads_still (problem_in w.part) w.part.nodes w.part.links new (kept ++ ends)
          (λ id within. stays id (is_in-left before (grown_ids left ++ rings) id within)) is.lead

      last : LeadsBy (problem_in w.part) w.part.nodes new out
      last = subst (λ l. IsMatchOf (problem_in w.part) w.part.nodes l out.first out.second) (sym out_link) is.leads

      by : (e : Match) → IsAmong e (kept ++ ends) ⊎ IsAmong e (out ∷ []) → LeadsBy (problem_in w.part) w.part.nodes new e
      by e (inl a) = All_among (LeadsBy (problem_in w.part) w.part.nodes new) (kept ++ ends) old e a
      by e (inr (inl same)) = subst (LeadsBy (problem_in w.part) w.part.nodes new) same last
      by e (inr (inr none)) = absurd none

      each : (e : Match) → IsAmong e matches_left → LeadsBy (problem_in w.part) w.part.nodes new e
      each e a = by e (among_either (kept ++ ends) (out ∷ []) e (subst (IsAmong e) (sym (append_assoc kept ends (out ∷ []))) a))

  rest_left : map (link_by new) (match_links matches_left) ≡ map (link_by w.part.links) before ++ link_of is.walk ∷ []
  rest_left =
      ap (map (link_by new)) numbers_left
      ∙ (map-append (link_by new) before (out.link ∷ [])
      ∙ (λ k.
      map_same (link_by new) (link_by w.part.links) before
      (λ id within. stays_by id (is_in-left before (grown_ids left ++ rings) id within)) k
      ++ out_link k ∷ []))

  agree : AgreeAt w.part.nodes (cycles_by w.part.links w.part.store) (cycles_by new w.part.store)
  agree n live =
      map_same (link_by new) (link_by w.part.links) (ring_at w.part.store n)
      (λ id within.
      stays_by id
      (is_in-right before (grown_ids left ++ rings) id
      (is_in-right (grown_ids left) rings id (ring_within w.part.nodes w.part.store n live id within))))

  -- the nodes that wait, told by what a law says of the state
  pub waits_left : (rest : List Link) (named waits : List ℕ) (parity : ℕ) → IsPermutation named unmatched
      → IsForestState (problem_in w.part)
      (record {
        nodes = w.part.nodes;
        cycles = cycles_by w.part.links w.part.store;
        trees = map (tree_by w.part.links) left;
        rest = rest;
        unmatched = named;
        waiting = waits;
        parity = parity;
      })
      → (n : ℕ) → is_in (waiting_among left unmatched) n ≡ is_in waits n
  waits_left rest named waits parity listed state =
      waiting_read (problem_in w.part) _ left unmatched state (linked_roots w.part.links left)
      (λ n. same_permuted named unmatched listed n)

  -- the state, given what a law says of it
  pub state_left : (rest : List Link) (named waits : List ℕ) (parity : ℕ)
      → IsPermutation rest (map (link_by w.part.links) before ++ link_of is.walk ∷ []) → IsPermutation named unmatched
      → IsForestState (problem_in w.part)
      (record {
        nodes = w.part.nodes;
        cycles = cycles_by w.part.links w.part.store;
        trees = map (tree_by w.part.links) left;
        rest = rest;
        unmatched = named;
        waiting = waits;
        parity = parity;
      })
      → IsForestState (problem_in w.part)
      (record {
        nodes = w.part.nodes;
        cycles = cycles_by new w.part.store;
        trees = map (tree_by new) left;
        rest = map (link_by new) (match_links matches_left);
        unmatched = unmatched;
        waiting = waiting_among left unmatched;
        parity = parity;
      })
  state_left rest named waits parity moved listed state =
      forest_state_relisted (problem_in w.part) _ (cycles_by new w.part.store) unmatched (waiting_among left unmatched) agree distinct
      (λ n. same_permuted named unmatched listed n)
      (distinct-filter (λ n. not (is_in (map (λ (g : Grown). g.root) left) n)) unmatched distinct)
      (waits_left rest named waits parity listed state)
      (forest_state_permuted (problem_in w.part) _ (map (tree_by new) left) (map (link_by new) (match_links matches_left))
      (subst (IsPermutation (map (tree_by w.part.links) left)) (sym trees) (IsPermutation-refl (map (tree_by w.part.links) left)))
      (subst (IsPermutation rest) (sym rest_left) moved) state)
    where
      distinct : AreDistinct unmatched
      distinct = distinct_permuted named unmatched listed state.names.distinct

      trees : map (tree_by new) left ≡ map (tree_by w.part.links) left
      trees =
          trees_still w.part.links new left
          (λ id h. stays_by id (is_in-right before (grown_ids left ++ rings) id (is_in-left (grown_ids left) rings id h)))
