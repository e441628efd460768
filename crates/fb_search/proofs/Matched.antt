-- A matching lists each outer node once after some nodes, none of them matched, are joined: the new node in their place.
use Rattle.std.proofs.Common.{ℕ, ◌≡◌, ◌≢◌, ◌⊎◌, inl, inr, true, false, List, [], ◌∷◌, ◌++◌, All, Option, Some, None, refl, sym, ap, ◌∙◌, subst, option_to_list}
use Rattle.std.specs.List.Sorted.{IsPermutation}
use Rattle.std.proofs.lemmas.Bool.{both_ways, cases_eq, false_from_ne_true}
use Rattle.fb_graph.specs.Parity.{is_in}
use Rattle.fb_graph.specs.Problem.{Problem}
use Rattle.fb_graph.specs.Certificate.{AreDistinct}
use Rattle.fb_graph.specs.Laws.{Link}
use Rattle.fb_graph.specs.Dual.{Node, cover_of, is_live, is_outer}
use Rattle.fb_graph.specs.Moves.{blossom, joined_nodes}
use Rattle.fb_graph.proofs.Among.{IsAmong, All_among, among_All, among_either, among_left, among_live, among_outer, among_right, live_among, outer_among, among_is_in}
use Rattle.fb_graph.proofs.AppendedNodes.{outer_in}
use Rattle.fb_graph.proofs.Sets.{is_in-head, is_in-tail}
use Rattle.fb_graph.proofs.Unions.{distinct_append}
use Rattle.fb_links.specs.declared.walk.Step.{Step}
use Rattle.fb_laws.specs.Searches.{LeavesNode}
use Rattle.fb_laws.specs.Trees.{Connects}
use Rattle.fb_laws.proofs.MergedParts.{distinct_across}
use Rattle.fb_laws.proofs.OpenedBlossoms.{distinct_permuted, same_permuted}
use Rattle.fb_laws.proofs.OpenedParts.{flat_among, in_among}
use Rattle.fb_half.specs.Matchings.{IsMatchOf, IsMatchingOf, MatchingValue, listed_names, matched_names, names_of}
use Rattle.fb_half.specs.declared.matches.Match.{Match}
use Rattle.fb_half.specs.Translations.{link_by}
use Rattle.fb_graph.proofs.Floods.{is_in-both, is_in-left, is_in-right}
use Rattle.fb_graph.proofs.Members.{distinct_left}

-- The names of a tree after some of its nodes are joined under the new name.
pub record IsRenamed (children before after : List ℕ) (name : ℕ) : Type 0 where
  pub distinct : AreDistinct after
  pub made : is_in after name ≡ true
  pub from : (n : ℕ) → is_in after n ≡ true → n ≢ name → (is_in before n ≡ true) × (is_in children n ≡ false)
  pub kept : (n : ℕ) → is_in before n ≡ true → is_in children n ≡ false → is_in after n ≡ true

module _ (p : Problem) (nodes : List Node) (name : ℕ) (children : List ℕ) (links : List (Option (List Step)))
    (m m2 : MatchingValue) (others others2 outside before after : List ℕ) (was : IsMatchingOf p nodes links m others)
    (old_names : IsPermutation (listed_names m ++ others) (outside ++ before))
    (new_names : IsPermutation (outside ++ after) (listed_names m2 ++ others2)) (same : m2.matches ≡ m.matches)
    (renamed : IsRenamed children before after name)
    (within : (n : ℕ) → is_in children n ≡ true → is_in before n ≡ true) (fresh : is_live nodes name ≡ false)
    (outer : is_outer (joined_nodes name children nodes) name ≡ true)
    (matched : (n : ℕ) → is_in (matched_names m.matches) n ≡ true → is_in outside n ≡ true)
    (cover : (v n : ℕ) → cover_of nodes v ≡ Some n → is_in children n ≡ false
    → cover_of (joined_nodes name children nodes) v ≡ Some n) where
  made : Node
  made = blossom name children nodes

  distinct_before : AreDistinct (outside ++ before)
  distinct_before = distinct_permuted (listed_names m ++ others) (outside ++ before) old_names was.distinct

  listed : (n : ℕ) → is_in (outside ++ before) n ≡ true → (is_live nodes n ≡ true) × (is_outer nodes n ≡ true)
  listed n h = was.live n (sym (same_permuted (listed_names m ++ others) (outside ++ before) old_names n) ∙ h)

  not_child : (n : ℕ) → is_in outside n ≡ true → is_in children n ≡ false
  not_child n out =
      false_from_ne_true (is_in children n)
      (λ child. both_ways (is_in before n) (distinct_across outside before n distinct_before out) (within n child))

  outside_fresh : is_in outside name ≡ false
  outside_fresh =
      false_from_ne_true (is_in outside name)
      (λ h. both_ways (is_live nodes name) fresh (listed name (is_in-left outside before name h)).0)

  apart : (n : ℕ) → is_in outside n ≡ true → is_in after n ≡ false
  apart n out =
      false_from_ne_true (is_in after n)
      (λ there.
      both_ways (is_in before n) (distinct_across outside before n distinct_before out)
      (renamed.from n there (λ e. both_ways (is_in outside name) outside_fresh (ap (is_in outside) (sym e) ∙ out))).0)

  stays : (n : ℕ) → (is_live nodes n ≡ true) × (is_outer nodes n ≡ true) → is_in children n ≡ false
      → (is_live (joined_nodes name children nodes) n ≡ true) × (is_outer (joined_nodes name children nodes) n ≡ true)
  stays n (live, out) free =
      let (q, a, e) = live_among nodes n live in (
        among_live (joined_nodes name children nodes) q n (among_left nodes (blossom name children nodes ∷ []) q a) e,
        among_outer (joined_nodes name children nodes) n
            (λ r b. by r (among_either nodes (blossom name children nodes ∷ []) r b)),
      )
    where
      by : (r : Node) → IsAmong r nodes ⊎ IsAmong r (blossom name children nodes ∷ []) → is_in r.children n ≡ false
      by r (inl b) = outer_among nodes n out r b
      by r (inr (inl e)) = ap (λ (x : Node). is_in x.children n) (sym e) ∙ free
      by r (inr (inr b)) = absurd b

  made_live : is_live (joined_nodes name children nodes) name ≡ true
  made_live =
      among_live (joined_nodes name children nodes) (blossom name children nodes) name
      (among_right nodes (blossom name children nodes ∷ []) (blossom name children nodes) (inl refl)) refl

  each : (n : ℕ) → is_in (outside ++ after) n ≡ true
      → (is_live (joined_nodes name children nodes) n ≡ true) × (is_outer (joined_nodes name children nodes) n ≡ true)
  each n h = by (is_in-both outside after n h)
    where
      tree : is_in after n ≡ true → (n ≡ name) ⊎ (n ≡ name → ⊥)
          → (is_live (joined_nodes name children nodes) n ≡ true) × (is_outer (joined_nodes name children nodes) n ≡ true)
      tree there (inl e) =
          (ap (is_live (joined_nodes name children nodes)) e ∙ made_live, ap (is_outer (joined_nodes name children nodes)) e ∙ outer)
      tree there (inr differ) =
          let (b, free) = renamed.from n there differ in stays n (listed n (is_in-right outside before n b)) free

      by : (is_in outside n ≡ true) ⊎ (is_in after n ≡ true)
          → (is_live (joined_nodes name children nodes) n ≡ true) × (is_outer (joined_nodes name children nodes) n ≡ true)
      by (inl out) = stays n (listed n (is_in-left outside before n out)) (not_child n out)
      by (inr there) = tree there (cases_eq n name)

  every : (n : ℕ) → is_live (joined_nodes name children nodes) n ≡ true → is_outer (joined_nodes name children nodes) n ≡ true
      → is_in (outside ++ after) n ≡ true
  every n live out = by (cases_eq n name)
    where
      by : (n ≡ name) ⊎ (n ≡ name → ⊥) → is_in (outside ++ after) n ≡ true
      by (inl e) = is_in-right outside after n (ap (is_in after) e ∙ renamed.made)
      by (inr differ) =
          let parts = outer_in nodes (blossom name children nodes ∷ []) n out in
          let free : is_in children n ≡ false =
          outer_among (blossom name children nodes ∷ []) n parts.1 (blossom name children nodes) (inl refl) in
          let (q, a, e) = live_among (joined_nodes name children nodes) n live in
          let old : is_live nodes n ≡ true = before_live q e (among_either nodes (blossom name children nodes ∷ []) q a) in
          there free
          (is_in-both outside before n
          (same_permuted (listed_names m ++ others) (outside ++ before) old_names n ∙ was.all n old parts.0))
        where
          before_live : (q : Node) → q.name ≡ n → IsAmong q nodes ⊎ IsAmong q (blossom name children nodes ∷ [])
              → is_live nodes n ≡ true
          before_live q e (inl b) = among_live nodes q n b e
          before_live q e (inr (inl f)) = absurd (differ (sym e ∙ ap (λ (x : Node). x.name) (sym f)))
          before_live q e (inr (inr b)) = absurd b

          there : is_in children n ≡ false → (is_in outside n ≡ true) ⊎ (is_in before n ≡ true)
              → is_in (outside ++ after) n ≡ true
          there free (inl o) = is_in-left outside after n o
          there free (inr b) = is_in-right outside after n (renamed.kept n b free)

  moved : (l : Link) (a : ℕ) (b : Option ℕ) → is_in children a ≡ false
      → ((c : ℕ) → is_in (option_to_list b) c ≡ true → is_in children c ≡ false) → IsMatchOf p nodes l a b
      → IsMatchOf p (joined_nodes name children nodes) l a b
  moved l a None first second (v, leaves, real) = (v, leaves_on leaves, real)
    where
      leaves_on : LeavesNode nodes l a v → LeavesNode (joined_nodes name children nodes) l a v
      leaves_on (inl (c, e)) = inl (cover l.from a c first, e)
      leaves_on (inr (c, e)) = inr (cover l.to a c first, e)
  moved l a (Some b) first second connects = on connects
    where
      on : Connects nodes l a b → Connects (joined_nodes name children nodes) l a b
      on (inl (c, d)) = inl (cover l.from a c first, cover l.to b d (second b (is_in-head b [])))
      on (inr (c, d)) = inr (cover l.to a c first, cover l.from b d (second b (is_in-head b [])))

  free_names : (e : Match) → IsAmong e m.matches → (c : ℕ) → is_in (names_of e) c ≡ true → is_in children c ≡ false
  free_names e a c there =
      not_child c
      (matched c
      (among_is_in (matched_names m.matches) c (flat_among names_of m.matches e c a (in_among (names_of e) c there))))

  pub matching_joined : IsMatchingOf p (joined_nodes name children nodes) links m2 others2
  matching_joined = record {
    distinct = distinct_permuted (outside ++ after) (listed_names m2 ++ others2) new_names
        (distinct_append outside after (distinct_left outside before distinct_before) renamed.distinct apart);
    live = λ n h. each n (sym (same_permuted (outside ++ after) (listed_names m2 ++ others2) new_names n) ∙ h);
    all = λ n live out.
        same_permuted (outside ++ after) (listed_names m2 ++ others2) new_names n ∙ every n live out;
    connects =
        subst (All (λ e. IsMatchOf p (joined_nodes name children nodes) (link_by links e.link) e.first e.second)) (sym same)
        (among_All (λ e. IsMatchOf p (joined_nodes name children nodes) (link_by links e.link) e.first e.second) m.matches
        (λ e a.
        moved (link_by links e.link) e.first e.second
        (free_names e a e.first (is_in-head e.first (option_to_list e.second)))
        (λ c there. free_names e a c (is_in-tail e.first (option_to_list e.second) c there))
        (All_among (λ f. IsMatchOf p nodes (link_by links f.link) f.first f.second) m.matches was.connects e a)));
  }
