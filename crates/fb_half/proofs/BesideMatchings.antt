-- Two parts beside one another, the right one's nodes under new names: their matchings are one.
use Rattle.std.proofs.Common.{ℕ, ◌≡◌, ◌==◌, ◌||◌, ◌⊎◌, inl, inr, true, false, List, [], ◌∷◌, ◌++◌, map, Option, Some, None, is_some, option_map, refl, sym, ap, ◌∙◌, subst, option_to_list}
use Rattle.std.proofs.lemmas.Bool.{both_ways, false_from_ne_true, or_cases, or_from, or_left, or_right}
use Rattle.std.proofs.lemmas.Grind.{flat_map-append}
use Rattle.std.proofs.lemmas.List.{append-nil, map-append}
use Rattle.std.proofs.lemmas.List.Elements.{All-append, All-map}
use Rattle.std.proofs.lemmas.List.Folds.{list_any-append}
use Rattle.fb_graph.specs.Parity.{is_in}
use Rattle.fb_graph.specs.Problem.{Problem}
use Rattle.fb_graph.specs.Certificate.{AreDistinct}
use Rattle.fb_graph.specs.Dual.{AreOuterApart, Node, cover_of, is_live, is_outer}
use Rattle.fb_graph.specs.Laws.{Link}
use Rattle.fb_graph.specs.Nests.{IsForest, IsNest}
use Rattle.fb_graph.specs.NestUnions.{AreParts, HaveOwnNames}
use Rattle.fb_graph.specs.RenamedNodes.{AreRenamedApart, renamed_node, renamed_nodes}
use Rattle.fb_graph.proofs.Among.{IsAmong, All_among, among_All, among_left, among_live, among_map, among_right, cover_among, covered_by, live_among}
use Rattle.fb_graph.proofs.AppendedNodes.{outer_both, outer_in}
use Rattle.fb_graph.proofs.Forests.{absent_outer}
use Rattle.fb_graph.proofs.Members.{is_in-append, is_in-map}
use Rattle.fb_graph.proofs.RenamedNodes.{cover_same, distinct_renamed, nest_renamed, outer_same, still_live}
use Rattle.fb_graph.proofs.Unions.{distinct_append}
use Rattle.fb_laws.specs.FusedStates.{without_seam}
use Rattle.fb_laws.specs.Fusion.{IsLinkOf}
use Rattle.fb_laws.proofs.FusedParts.{link_ends_away, parts_turned}
use Rattle.fb_half.specs.declared.matches.Match.{Match}
use Rattle.fb_half.specs.Matchings.{IsMatchOf, IsMatchingOf, MatchingValue, listed_names, matched_names, names_of}
use Rattle.fb_half.specs.Merged.{renamed_match, renamed_second}
use Rattle.fb_half.specs.Seams.{far_end}
use Rattle.fb_half.specs.Translations.{link_by}
use Rattle.fb_half.proofs.FarEnds.{AreRealBy, far_is}
use Rattle.fb_graph.proofs.OddLabels.{member_of_map}
use Rattle.fb_links.proofs.MovedLinks.{Table}

pub names_renamed : (g f : ℕ → ℕ) (ms : List Match) → matched_names (map (renamed_match g f) ms) ≡ map f (matched_names ms)
names_renamed g f [] = refl
names_renamed g f (m ∷ ms) =
    ap (λ l. (f m.first ∷ option_to_list (renamed_second f m.second)) ++ l) (names_renamed g f ms)
    ∙ (ap (λ l. (f m.first ∷ l) ++ map f (matched_names ms)) (by m.second) ∙ sym (map-append f (names_of m) (matched_names ms)))
  where
    by : (o : Option ℕ) → option_to_list (renamed_second f o) ≡ map f (option_to_list o)
    by None = refl
    by (Some b) = refl

-- all that a matching lists, where nothing is unmatched
pub all_matched : (m : MatchingValue) → m.unmatched ≡ [] → listed_names m ++ [] ≡ matched_names m.matches
all_matched m none = append-nil (listed_names m) ∙ ap (λ l. l ++ matched_names m.matches) none

module _ (p q whole : Problem) (left right : List Node) (f : ℕ → ℕ) (parts : AreParts p q whole) (once : AreRenamedApart f right)
    (names : HaveOwnNames left (renamed_nodes f right)) (one : IsNest p left) (two : IsNest q right)
    (apart : AreOuterApart (left ++ renamed_nodes f right)) where
  abbrev pub others : List Node
  others = renamed_nodes f right

  forest : IsForest left
  forest = one.forest

  grove : IsForest others
  grove = (nest_renamed q right f once two).forest

  not_left : (x : ℕ) → is_live others x ≡ true → is_live left x ≡ false
  not_left x h = false_from_ne_true (is_live left x) (λ k. both_ways (is_live others x) (names x k) h)

  outer_left : (x : ℕ) → is_live left x ≡ true → is_outer left x ≡ true → is_outer (left ++ others) x ≡ true
  outer_left x live outer = outer_both left others x outer (absent_outer others grove x (names x live))

  outer_right : (x : ℕ) → is_live others x ≡ true → is_outer others x ≡ true → is_outer (left ++ others) x ≡ true
  outer_right x live outer = outer_both left others x (absent_outer left forest x (not_left x live)) outer

  pub cover_left : (v m : ℕ) → cover_of left v ≡ Some m → cover_of (left ++ others) v ≡ Some m
  cover_left v m cover =
      let over = cover_among left v m cover in
      covered_by (left ++ others) v apart over.node (among_left left others over.node over.among)
      (outer_left over.node.name (among_live left over.node over.node.name over.among refl) over.outer) over.holds
      ∙ ap Some over.named

  cover_others : (v m : ℕ) → cover_of others v ≡ Some m → cover_of (left ++ others) v ≡ Some m
  cover_others v m cover =
      let over = cover_among others v m cover in
      covered_by (left ++ others) v apart over.node (among_right left others over.node over.among)
      (outer_right over.node.name (among_live others over.node over.node.name over.among refl) over.outer) over.holds
      ∙ ap Some over.named

  pub cover_right : (v m : ℕ) → cover_of right v ≡ Some m → cover_of (left ++ others) v ≡ Some (f m)
  cover_right v m cover = cover_others v (f m) (cover_same q right f once two v ∙ ap (option_map f) cover)

  abbrev pub middle : Problem
  middle = without_seam p q whole

  unreal : (v : ℕ) → p.is_real v ≡ false → q.is_real v ≡ false → middle.is_real v ≡ false
  unreal v a b = or_from (p.is_real v) (q.is_real v) a b

  leads_left : (l : Link) (a : ℕ) (second : Option ℕ) → IsLinkOf p l → IsMatchOf p left l a second → IsMatchOf middle (left ++ others) l a second
  leads_left l a (Some b) is (inl (from, to)) = inl (cover_left l.from a from, cover_left l.to b to)
  leads_left l a (Some b) is (inr (to, from)) = inr (cover_left l.to a to, cover_left l.from b from)
  leads_left l a None is (v, inl (from, to), real) =
      (v, inl (cover_left l.from a from, to), unreal v real (ap q.is_real (sym to) ∙ (link_ends_away p q whole l parts is).1))
  leads_left l a None is (v, inr (to, from), real) =
      (v, inr (cover_left l.to a to, from), unreal v real (ap q.is_real (sym from) ∙ (link_ends_away p q whole l parts is).0))

  turned : AreParts q p whole
  turned = parts_turned p q whole parts

  leads_right : (l : Link) (a : ℕ) (second : Option ℕ) → IsLinkOf q l → IsMatchOf q right l a second
      → IsMatchOf middle (left ++ others) l (f a) (renamed_second f second)
  leads_right l a (Some b) is (inl (from, to)) = inl (cover_right l.from a from, cover_right l.to b to)
  leads_right l a (Some b) is (inr (to, from)) = inr (cover_right l.to a to, cover_right l.from b from)
  leads_right l a None is (v, inl (from, to), real) =
      (v, inl (cover_right l.from a from, to), unreal v (ap p.is_real (sym to) ∙ (link_ends_away q p whole l turned is).1) real)
  leads_right l a None is (v, inr (to, from), real) =
      (v, inr (cover_right l.to a to, from), unreal v (ap p.is_real (sym from) ∙ (link_ends_away q p whole l turned is).0) real)

  module _ (held : AreRealBy middle.is_real (left ++ others)) where
    -- a match to the boundary ends there where it did
    pub far_left : (l : Link) (a : ℕ) (second : Option ℕ) → second ≡ None → IsLinkOf p l → IsMatchOf p left l a second
        → far_end middle.is_real l ≡ far_end p.is_real l
    far_left l a (Some b) none is at = absurd (let clash : Some b ≡ None = none in cc)
    far_left l a None none is (v, inl (from, to), real) =
        far_is middle.is_real (left ++ others) l a v held (inl (cover_left l.from a from, to))
        (unreal v real (ap q.is_real (sym to) ∙ (link_ends_away p q whole l parts is).1))
        ∙ sym (far_is p.is_real left l a v (λ u k c. one.dual.real u (ap is_some c)) (inl (from, to)) real)
    far_left l a None none is (v, inr (to, from), real) =
        far_is middle.is_real (left ++ others) l a v held (inr (cover_left l.to a to, from))
        (unreal v real (ap q.is_real (sym from) ∙ (link_ends_away p q whole l parts is).0))
        ∙ sym (far_is p.is_real left l a v (λ u k c. one.dual.real u (ap is_some c)) (inr (to, from)) real)

    pub far_right : (l : Link) (a : ℕ) (second : Option ℕ) → second ≡ None → IsLinkOf q l → IsMatchOf q right l a second
        → far_end middle.is_real l ≡ far_end q.is_real l
    far_right l a (Some b) none is at = absurd (let clash : Some b ≡ None = none in cc)
    far_right l a None none is (v, inl (from, to), real) =
        far_is middle.is_real (left ++ others) l (f a) v held (inl (cover_right l.from a from, to))
        (unreal v (ap p.is_real (sym to) ∙ (link_ends_away q p whole l turned is).1) real)
        ∙ sym (far_is q.is_real right l a v (λ u k c. two.dual.real u (ap is_some c)) (inl (from, to)) real)
    far_right l a None none is (v, inr (to, from), real) =
        far_is middle.is_real (left ++ others) l (f a) v held (inr (cover_right l.to a to, from))
        (unreal v (ap p.is_real (sym from) ∙ (link_ends_away q p whole l turned is).0) real)
        ∙ sym (far_is q.is_real right l a v (λ u k c. two.dual.real u (ap is_some c)) (inr (to, from)) real)

  module _ (first second table : Table) (g : ℕ → ℕ) (m n : MatchingValue) (matched : m.unmatched ≡ []) (others_matched : n.unmatched ≡ [])
      (here : IsMatchingOf p left first m []) (there : IsMatchingOf q right second n []) where
    abbrev pub mine : List ℕ
    mine = matched_names m.matches

    abbrev pub theirs : List ℕ
    theirs = matched_names n.matches

    mine_are : listed_names m ++ [] ≡ mine
    mine_are = all_matched m matched

    theirs_are : listed_names n ++ [] ≡ theirs
    theirs_are = all_matched n others_matched

    mine_live : (x : ℕ) → is_in mine x ≡ true → (is_live left x ≡ true) × (is_outer left x ≡ true)
    mine_live x h = here.live x (ap (λ l. is_in l x) mine_are ∙ h)

    theirs_live : (x : ℕ) → is_in theirs x ≡ true → (is_live right x ≡ true) × (is_outer right x ≡ true)
    theirs_live x h = there.live x (ap (λ l. is_in l x) theirs_are ∙ h)

    new_live : (a : ℕ) → is_live right a ≡ true → is_live others (f a) ≡ true
    new_live a live = still_live q right f once two a live

    away : (x : ℕ) → is_in mine x ≡ true → is_in (map f theirs) x ≡ false
    away x h =
        false_from_ne_true (is_in (map f theirs) x)
        (λ k.
        let (a, within, named) = member_of_map f theirs x k in
        both_ways (is_live left x) (not_left x (ap (is_live others) (sym named) ∙ new_live a (theirs_live a within).0)) (mine_live x h).0)

    pub listed_beside : AreDistinct (mine ++ map f theirs)
    listed_beside =
        distinct_append mine (map f theirs) (subst AreDistinct mine_are here.distinct)
        (distinct_renamed f theirs (λ x y a b e. once x y (theirs_live x a).0 (theirs_live y b).0 e) (subst AreDistinct theirs_are there.distinct)) away

    abbrev pub both : MatchingValue
    both = record { matches = m.matches ++ map (renamed_match g f) n.matches; unmatched = [] }

    listed_are : listed_names both ++ [] ≡ mine ++ map f theirs
    listed_are =
        append-nil (matched_names (m.matches ++ map (renamed_match g f) n.matches))
        ∙ (flat_map-append names_of m.matches (map (renamed_match g f) n.matches)
        ∙ ap (λ l. matched_names m.matches ++ l) (names_renamed g f n.matches))

    live_both : (x : ℕ) → is_live (left ++ others) x ≡ (is_live left x || is_live others x)
    live_both x = list_any-append (λ y. y.name == x) left others

    pub matching_beside : ((e : Match) → IsAmong e m.matches → IsLinkOf p (link_by first e.link))
        → ((e : Match) → IsAmong e n.matches → IsLinkOf q (link_by second e.link))
        → ((e : Match) → IsAmong e m.matches → link_by table e.link ≡ link_by first e.link)
        → ((e : Match) → IsAmong e n.matches → link_by table (g e.link) ≡ link_by second e.link)
        → IsMatchingOf middle (left ++ others) table both []
    matching_beside own_one own_two same moved = record {
      distinct = subst AreDistinct (sym listed_are) listed_beside;
      live = λ x within. live x (or_cases (is_in mine x) (is_in (map f theirs) x) (sym (is_in-append mine (map f theirs) x) ∙ (sym (ap (λ l. is_in l x) listed_are) ∙ within)));
      all = λ x lives outer. ap (λ l. is_in l x) listed_are ∙ (is_in-append mine (map f theirs) x ∙ all x outer (or_cases (is_live left x) (is_live others x) (sym (live_both x) ∙ lives)));
      connects =
          All-append Leads m.matches (map (renamed_match g f) n.matches)
          (among_All Leads m.matches
          (λ e a.
          subst (λ l. IsMatchOf middle (left ++ others) l e.first e.second) (sym (same e a))
          (leads_left (link_by first e.link) e.first e.second (own_one e a)
          (All_among (λ x. IsMatchOf p left (link_by first x.link) x.first x.second) m.matches here.connects e a))))
          (All-map Leads (renamed_match g f) n.matches
          (among_All (λ e. Leads (renamed_match g f e)) n.matches
          (λ e a.
          subst (λ l. IsMatchOf middle (left ++ others) l (f e.first) (renamed_second f e.second)) (sym (moved e a))
          (leads_right (link_by second e.link) e.first e.second (own_two e a)
          (All_among (λ x. IsMatchOf q right (link_by second x.link) x.first x.second) n.matches there.connects e a)))));
    }
      where
        Leads : Match → Type 0
        Leads e = IsMatchOf middle (left ++ others) (link_by table e.link) e.first e.second

        live : (x : ℕ) → (is_in mine x ≡ true) ⊎ (is_in (map f theirs) x ≡ true)
            → (is_live (left ++ others) x ≡ true) × (is_outer (left ++ others) x ≡ true)
        live x (inl h) =
            let (lives, outer) = mine_live x h in
            (live_both x ∙ or_left (is_live left x) (is_live others x) lives, outer_left x lives outer)
        live x (inr h) =
            let (a, within, named) = member_of_map f theirs x h in
            let (lives, outer) = theirs_live a within in
            let here_too : is_live others x ≡ true = ap (is_live others) (sym named) ∙ new_live a lives in (
              live_both x ∙ or_right (is_live left x) (is_live others x) here_too,
              outer_right x here_too (ap (is_outer others) (sym named) ∙ (outer_same q right f once two a lives ∙ outer)),
            )

        all : (x : ℕ) → is_outer (left ++ others) x ≡ true → (is_live left x ≡ true) ⊎ (is_live others x ≡ true)
            → (is_in mine x || is_in (map f theirs) x) ≡ true
        all x outer (inl h) =
            or_left (is_in mine x) (is_in (map f theirs) x)
            (sym (ap (λ l. is_in l x) mine_are) ∙ here.all x h (outer_in left others x outer).0)
        all x outer (inr h) =
            let (m_, a, is) = live_among others x h in
            let (e, among, same_node) = among_map (renamed_node f) right m_ a in
            let lives : is_live right e.name ≡ true = among_live right e e.name among refl in
            let named : f e.name ≡ x = ap (λ y. y.name) same_node ∙ is in
            or_right (is_in mine x) (is_in (map f theirs) x)
            (ap (is_in (map f theirs)) (sym named)
            ∙ is_in-map f theirs e.name
            (sym (ap (λ l. is_in l e.name) theirs_are)
            ∙ there.all e.name lives
            (sym (outer_same q right f once two e.name lives)
            ∙ (ap (is_outer others) named ∙ (outer_in left others x outer).1))))
