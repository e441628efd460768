-- The lists of outer nodes linked one after another, and what stays as it was.
use Rattle.std.proofs.Common.{ℕ, ◌≡◌, ◌+◌, ◌≤◌, ◌==◌, ◌||◌, ◌⊎◌, inl, inr, Bool, true, false, List, [], ◌∷◌, ◌++◌, length, map, set, Option, Some, None, refl, sym, ap, ◌∙◌, subst, arith, if◌then◌else◌, append_assoc}
use Rattle.std.specs.List.{All, concat}
use Rattle.std.proofs.lemmas.Bool.{both_ways, false≢true, false_from_ne_true, eq-eqb, eqb-true, or_cases}
use Rattle.std.proofs.lemmas.List.{append-nil, length-append}
use Rattle.std.proofs.lemmas.List.Elements.{All-head, All-tail}
use Rattle.fb_graph.specs.Parity.{is_in}
use Rattle.fb_graph.specs.Problem.{Problem}
use Rattle.fb_graph.specs.Dual.{Node, AreApart, is_live, is_outer, top_at}
use Rattle.fb_graph.specs.Ends.{AreAllApart}
use Rattle.fb_graph.proofs.Among.{IsAmong, All_among, among_All, map_among, top_among}
use Rattle.fb_graph.proofs.Members.{is_in-append}
use Rattle.fb_regions.specs.declared.listing.Listing.{Listing}
use Rattle.fb_regions.specs.declared.marks.Mark.{Mark}
use Rattle.fb_regions.specs.declared.region.Region.{Region}
use Rattle.fb_regions.specs.InternalKept.{IsKept}
use Rattle.fb_regions.specs.InternalListings.{IsListed, Linked, count_named, with_listing, linked_all, listing_at, region_named}
use Rattle.fb_regions.specs.InternalNodes.{added_to, before_in, chain, first_of, node_of, nodes_of}
use Rattle.fb_regions.specs.Moves.{BeginsWith}
use Rattle.fb_regions.proofs.Behind.{kept_front, new_front, nodes_behind}
use Rattle.fb_regions.proofs.Chains.{chain_same, length-chain}
use Rattle.fb_regions.proofs.Linking.{linked_first, linked_more}
use Rattle.fb_regions.proofs.Listings.{begins_in, begins_left, chain_append}
use Rattle.fb_regions.proofs.Marking.{mark_other}
use Rattle.fb_regions.proofs.Moved.{top_marks}

-- a live node, found by its name
pub record IsNamed (marks : List (Option Mark)) (regions : List Region) (c : ℕ) : Type 0 where
  pub region : Region
  pub among : IsAmong region regions
  pub named : region.name ≡ c
  pub is : region_named regions c ≡ Some region

pub live_named : (marks : List (Option Mark)) (regions : List Region) (c : ℕ) → is_live (nodes_of marks regions) c ≡ true → IsNamed marks regions c
live_named marks [] c live = absurd (false≢true live)
live_named marks (r ∷ rs) c live = by (r.name == c) refl live (live_named marks rs c)
  where
    by : (b : Bool) → (r.name == c) ≡ b → (b || is_live (nodes_of marks rs) c) ≡ true
        → (is_live (nodes_of marks rs) c ≡ true → IsNamed marks rs c) → IsNamed marks (r ∷ rs) c
    by true e h rest = record {
      region = r;
      among = inl refl;
      named = eqb-true r.name c e;
      is = ap (λ b. if b then Some r else region_named rs c) e;
    }
    by false e h rest =
        let n = rest h in
        record {
          region = n.region;
          among = inr n.among;
          named = n.named;
          is = ap (λ b. if b then Some r else region_named rs c) e ∙ n.is;
        }

apart_joined : (xs ys : List ℕ) (ss : List (List ℕ)) → All (AreApart xs) ss → All (AreApart ys) ss → All (AreApart (xs ++ ys)) ss
apart_joined xs ys ss one two =
    among_All (AreApart (xs ++ ys)) ss
    (λ s a v h.
    pick s v (All_among (AreApart xs) ss one s a v) (All_among (AreApart ys) ss two s a v)
    (or_cases (is_in xs v) (is_in ys v) (sym (is_in-append xs ys v) ∙ h)))
  where
    pick : (s : List ℕ) (v : ℕ) → (is_in xs v ≡ true → is_in s v ≡ false) → (is_in ys v ≡ true → is_in s v ≡ false)
        → (is_in xs v ≡ true) ⊎ (is_in ys v ≡ true) → is_in s v ≡ false
    pick s v f g (inl h) = f h
    pick s v f g (inr h) = g h

-- the marks keep a state of these nodes, and list these vertices
pub record IsLinked (p : Problem) (regions : List Region) (nodes : List Node) (vs : List ℕ) (s : Linked) : Type 0 where
  pub kept : IsKept p regions s.marks
  pub nodes_are : nodes_of s.marks regions ≡ nodes
  pub list : chain s.marks s.listing.count s.listing.last ≡ vs
  pub begins : BeginsWith s.listing.first vs

module _ (p : Problem) (regions : List Region) (nodes : List Node) where
  -- the list of one node
  own_list : (marks : List (Option Mark)) → IsKept p regions marks → nodes_of marks regions ≡ nodes → (c : ℕ) (n : IsNamed marks regions c)
      → IsLinked p regions nodes (top_at nodes c) (record { marks = marks; listing = listing_at n.region })
  own_list marks kept are c n =
      let is = All_among (IsListed marks) regions kept.listed n.region n.among in
      let top : top_at nodes c ≡ (node_of marks n.region).top.vertices =
      ap (λ ns. top_at ns c) (sym are) ∙ (ap (top_at (nodes_of marks regions)) (sym n.named)
      ∙ top_among (nodes_of marks regions) kept.nest.dual.names (node_of marks n.region) (map_among (node_of marks) regions n.region n.among)) in
      record {
        kept = kept;
        nodes_are = are;
        list = is.whole ∙ sym top;
        begins =
            subst (BeginsWith n.region.first) (sym top)
            (begins_left n.region.first (first_of marks n.region) (added_to marks n.region) is.first);
      }

  -- the list of an outer node behind one that is apart from it
  behind : (vs : List ℕ) (s : Linked) → IsLinked p regions nodes vs s → (c : ℕ) (n : IsNamed s.marks regions c) → is_outer nodes c ≡ true
      → AreApart vs (top_at nodes c) → IsLinked p regions nodes (vs ++ top_at nodes c) (with_listing s (listing_at n.region))
  behind vs s is c n outer apart =
      let own = own_list s.marks is.kept is.nodes_are c n in
      let f : ℕ = n.region.first in
      let node : Node = node_of s.marks n.region in
      let among = map_among (node_of s.marks) regions n.region n.among in
      let own_top = All_among (IsListed s.marks) regions is.kept.listed n.region n.among in
      let front : BeginsWith f node.top.vertices = begins_left f (first_of s.marks n.region) (added_to s.marks n.region) own_top.first in
      let (m, has, within) = top_marks s.marks (nodes_of s.marks regions) is.kept.sets node among f (begins_in f node.top.vertices front) in
      let out : is_outer (nodes_of s.marks regions) node.name ≡ true = ap (is_outer (nodes_of s.marks regions)) n.named ∙ (ap (λ ns. is_outer ns c) is.nodes_are ∙ outer) in
      let marks' : List (Option Mark) = set s.marks f (Some (record m { before = s.listing.last })) in
      let kept' = kept_front p regions s.marks is.kept f s.listing.last m has node among out front in
      let are' : nodes_of marks' regions ≡ nodes = nodes_behind p regions s.marks is.kept f s.listing.last m has node among out front ∙ is.nodes_are in
      let next = own_list marks' kept' are' c (record { region = n.region; among = n.among; named = n.named; is = n.is }) in
      let list : chain marks' (s.listing.count + (n.region.base + n.region.added)) n.region.last ≡ vs ++ top_at nodes c =
      chain_append marks' s.listing.count (n.region.base + n.region.added) n.region.last f (subst (BeginsWith f) (sym next.list) next.begins)
      ∙ (ap (λ b. chain marks' s.listing.count b ++ chain marks' (n.region.base + n.region.added) n.region.last)
      (ap before_in (new_front p regions s.marks is.kept f s.listing.last m has node among out front))
      ∙ (ap (λ l. l ++ chain marks' (n.region.base + n.region.added) n.region.last)
      (chain_same s.marks marks' s.listing.count s.listing.last
      (λ u h. ap before_in (mark_other s.marks f u (Some (record m { before = s.listing.last }))
      (λ e. both_ways (is_in (top_at nodes c) f)
      (apart f (ap (is_in vs) (sym e) ∙ (ap (λ l. is_in l u) (sym is.list) ∙ h)))
      (begins_in f (top_at nodes c) own.begins))))
      ∙ is.list)
      ∙ ap (λ l. vs ++ l) next.list)) in
      subst (IsLinked p regions nodes (vs ++ top_at nodes c)) (sym (linked_more s (listing_at n.region) (some s.listing.count is.list) ∙ ap (λ o. by o) has))
      (record { kept = kept'; nodes_are = are'; list = list; begins = begins_left s.listing.first vs (top_at nodes c) is.begins })
    where
      by : Option Mark → Linked
      by o = record {
        marks = elim o as (λ x. List (Option Mark)) [ None ↦ s.marks | Some x ↦ set s.marks n.region.first (Some (record x { before = s.listing.last })) ];
        listing = record { first = s.listing.first; count = s.listing.count + (n.region.base + n.region.added); last = n.region.last };
      }

      -- the list isn't empty
      some : (k : ℕ) → chain s.marks k s.listing.last ≡ vs → (k == 0) ≡ false
      some k e =
          false_from_ne_true (k == 0)
          (λ h. subst (BeginsWith s.listing.first) (sym e ∙ ap (λ i. chain s.marks i s.listing.last) (eqb-true k 0 h)) is.begins)

  linked_rest : (cs vs : List ℕ) (s : Linked) → IsLinked p regions nodes vs s → All (λ c. is_live nodes c ≡ true) cs
      → All (λ c. is_outer nodes c ≡ true) cs → AreAllApart (vs ∷ map (top_at nodes) cs)
      → IsLinked p regions nodes (vs ++ concat (map (top_at nodes) cs)) (linked_all regions cs s)
  linked_rest [] vs s is live outer apart = subst (λ l. IsLinked p regions nodes l s) (sym (append-nil vs)) is
  linked_rest (c ∷ cs) vs s is live outer apart =
      let n = live_named s.marks regions c
      (ap (λ ns. is_live ns c) is.nodes_are ∙ All-head (λ x. is_live nodes x ≡ true) c cs live) in
      let next = behind vs s is c n (All-head (λ x. is_outer nodes x ≡ true) c cs outer)
      (All-head (AreApart vs) (top_at nodes c) (map (top_at nodes) cs) apart.0) in
      subst (λ o. IsLinked p regions nodes (vs ++ (top_at nodes c ++ concat (map (top_at nodes) cs)))
      (linked_all regions cs (elim o as (λ x. Linked) [ None ↦ s | Some r ↦ with_listing s (listing_at r) ]))) (sym n.is)
      (subst (λ l. IsLinked p regions nodes l (linked_all regions cs (with_listing s (listing_at n.region))))
      (append_assoc vs (top_at nodes c) (concat (map (top_at nodes) cs)))
      (linked_rest cs (vs ++ top_at nodes c) (with_listing s (listing_at n.region)) next (All-tail (λ x. is_live nodes x ≡ true) c cs live)
      (All-tail (λ x. is_outer nodes x ≡ true) c cs outer)
      (apart_joined vs (top_at nodes c) (map (top_at nodes) cs) (All-tail (AreApart vs) (top_at nodes c) (map (top_at nodes) cs) apart.0) apart.1.0, apart.1.1)))

-- outer nodes, from the first one on
pub linked_nodes : (p : Problem) (regions : List Region) (marks : List (Option Mark)) → IsKept p regions marks → (cs : List ℕ) (listing : Listing)
    → 1 ≤ length cs → listing.count ≡ 0 → All (λ x. is_live (nodes_of marks regions) x ≡ true) cs
    → All (λ x. is_outer (nodes_of marks regions) x ≡ true) cs → AreAllApart (map (top_at (nodes_of marks regions)) cs)
    → IsLinked p regions (nodes_of marks regions) (concat (map (top_at (nodes_of marks regions)) cs))
    (linked_all regions cs (record { marks = marks; listing = listing }))
linked_nodes p regions marks kept [] listing some none live outer apart = absurd (let h : 1 ≤ 0 = some in omega arith)
linked_nodes p regions marks kept (c ∷ cs) listing some none live outer apart =
    let nodes = nodes_of marks regions in
    let n = live_named marks regions c (All-head (λ x. is_live nodes x ≡ true) c cs live) in
    let start : Linked = record { marks = marks; listing = listing } in
    subst (λ o. IsLinked p regions nodes (concat (map (top_at nodes) (c ∷ cs)))
    (linked_all regions cs (elim o as (λ x. Linked) [ None ↦ start | Some r ↦ with_listing start (listing_at r) ]))) (sym n.is)
    (subst (λ s. IsLinked p regions nodes (concat (map (top_at nodes) (c ∷ cs))) (linked_all regions cs s))
    (sym (linked_first start (listing_at n.region) (eq-eqb listing.count 0 none)))
    (linked_rest p regions nodes cs (top_at nodes c) (record { marks = marks; listing = listing_at n.region }) (own_list p regions nodes marks kept refl c n)
    (All-tail (λ x. is_live nodes x ≡ true) c cs live) (All-tail (λ x. is_outer nodes x ≡ true) c cs outer) apart))

-- how many vertices they are
pub counted : (p : Problem) (regions : List Region) (marks : List (Option Mark)) → IsKept p regions marks → (cs : List ℕ)
    → All (λ c. is_live (nodes_of marks regions) c ≡ true) cs
    → length (concat (map (top_at (nodes_of marks regions)) cs)) ≡ count_named regions cs
counted p regions marks kept [] live = refl
counted p regions marks kept (c ∷ cs) live =
    let nodes = nodes_of marks regions in
    let n = live_named marks regions c (All-head (λ x. is_live nodes x ≡ true) c cs live) in
    let own = own_list p regions nodes marks kept refl c n in
    omega (
      arith,
      length-append (top_at nodes c) (concat (map (top_at nodes) cs)),
      counted p regions marks kept cs (All-tail (λ x. is_live nodes x ≡ true) c cs live),
      ap length own.list,
      length-chain marks (n.region.base + n.region.added) n.region.last,
      ap (λ o. elim o as (λ x. ℕ) [ None ↦ 0 | Some r ↦ r.base + r.added ]) n.is,
    )
