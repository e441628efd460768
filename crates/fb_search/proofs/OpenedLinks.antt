-- Links that are forgotten: the others stay as they were.
use Rattle.std.proofs.Common.{ℕ, ◌≡◌, ◌==◌, ◌||◌, ◌⊎◌, inl, inr, cond, Bool, true, false, List, [], ◌∷◌, ◌++◌, map, Option, Some, None, is_some, unwrap_or, refl, sym, ap, ◌∙◌}
use Rattle.std.proofs.Math.Bool.{or-false}
use Rattle.std.specs.List.Sorted.{IsPermutation}
use Rattle.std.proofs.lemmas.Bool.{cases_Bool, eq-eqb, false_from_ne_true, false≢true}
use Rattle.fb_graph.specs.Parity.{is_in}
use Rattle.fb_graph.specs.Certificate.{AreDistinct}
use Rattle.fb_graph.specs.Problem.{Problem}
use Rattle.fb_graph.specs.Dual.{Node, is_live}
use Rattle.fb_graph.proofs.Among.{among_any, live_among}
use Rattle.fb_graph.proofs.Members.{is_in-append, distinct_left}
use Rattle.fb_graph.proofs.Sets.{is_in-head, is_in-tail}
use Rattle.fb_links.specs.declared.walk.Step.{Step}
use Rattle.fb_links.specs.Table.{link_at}
use Rattle.fb_links.specs.Table as table
use Rattle.fb_blossoms.specs.Nodes as blossoms
use Rattle.fb_laws.specs.LinkNumbers.{tree_links}
use Rattle.fb_laws.specs.Trees.{EntryOf, grown_links, paired_links}
use Rattle.fb_laws.proofs.MergedParts.{distinct_across}
use Rattle.fb_laws.proofs.OpenedBlossoms.{distinct_permuted, same_permuted}
use Rattle.fb_laws.proofs.OpenedParts.{flat_among, in_among}
use Rattle.fb_half.specs.Parts.{AreLinksOf, AreStepsOf}
use Rattle.fb_half.specs.Translations.{entry_by, link_by, link_of, ring_at, ring_links}
use Rattle.fb_search.specs.InternalEndings.{Forgets}
use Rattle.fb_links.proofs.MovedLinks.{Table}
use Rattle.fb_graph.proofs.Floods.{is_in-left, is_in-right}

module _ (p : Problem) (old new : Table) (ids kept gone : List ℕ) (are : AreLinksOf p old ids) (moved : IsPermutation ids (kept ++ gone))
    (forgets : Forgets gone old new) where
  apart : AreDistinct (kept ++ gone)
  apart = distinct_permuted ids (kept ++ gone) moved are.distinct

  read : (k : ℕ) (b : Bool) → is_in gone k ≡ b → link_at new k ≡ cond b None (link_at old k)
  read k b e = forgets k ∙ ap (λ c. cond c None (link_at old k)) e

  -- a link that is kept
  pub link_stays : (k : ℕ) → is_in kept k ≡ true → link_by new k ≡ link_by old k
  link_stays k within = ap (λ o. link_of (unwrap_or o [])) (read k false (distinct_across kept gone k apart within))

  pub links_stay : AreLinksOf p new kept
  links_stay = record {
    distinct = distinct_left kept gone apart;
    live = λ k. live k (cases_Bool (is_in gone k));
    steps = λ k path there. along k path there (cases_Bool (is_in gone k));
  }
    where
      live : (k : ℕ) → (is_in gone k ≡ true) ⊎ (is_in gone k ≡ false) → table.is_live new k ≡ is_in kept k
      live k (inl g) =
          ap is_some (read k true g)
          ∙ sym (false_from_ne_true (is_in kept k) (λ h. false≢true (sym (distinct_across kept gone k apart h) ∙ g)))
      live k (inr g) =
          ap is_some (read k false g)
          ∙ (are.live k
          ∙ (sym (same_permuted ids (kept ++ gone) moved k)
          ∙ (is_in-append kept gone k ∙ (ap (λ b. is_in kept k || b) g ∙ or-false (is_in kept k)))))

      along : (k : ℕ) (path : List Step) → link_at new k ≡ Some path → (is_in gone k ≡ true) ⊎ (is_in gone k ≡ false)
          → AreStepsOf p path
      along k path there (inl g) = absurd (false≢true (ap is_some (sym (read k true g) ∙ there)))
      along k path there (inr g) = are.steps k path (sym (read k false g) ∙ there)

-- numbers that stand for the same links in both tables
abbrev pub AreSameLinks : Table → Table → List ℕ → Type 0
AreSameLinks old new ids = (k : ℕ) → is_in ids k ≡ true → link_by new k ≡ link_by old k

pub links_same : (old new : Table) (ids : List ℕ) → AreSameLinks old new ids → map (link_by new) ids ≡ map (link_by old) ids
links_same old new [] same = refl
links_same old new (k ∷ ks) same =
    ap (λ l. l ∷ map (link_by new) ks) (same k (is_in-head k ks))
    ∙ ap (λ ls. link_by old k ∷ ls) (links_same old new ks (λ j there. same j (is_in-tail k ks j there)))

pub entries_same : (old new : Table) (tree : List (EntryOf ℕ)) → AreSameLinks old new (tree_links tree)
    → map (entry_by new) tree ≡ map (entry_by old) tree
entries_same old new tree same =
    each tree (λ k there. same k (is_in-left (grown_links tree) (paired_links tree) k there))
    (λ k there. same k (is_in-right (grown_links tree) (paired_links tree) k there))
  where
    each : (es : List (EntryOf ℕ)) → AreSameLinks old new (grown_links es) → AreSameLinks old new (paired_links es)
        → map (entry_by new) es ≡ map (entry_by old) es
    each [] grown paired = refl
    each (e ∷ es) grown paired =
        ap
        (λ l. record { parent = e.parent; tree = l; minus = e.minus; matched = link_by new e.matched; plus = e.plus }
        ∷ map (entry_by new) es)
        (grown e.tree (is_in-head e.tree (grown_links es)))
        ∙ (ap
        (λ l. record { parent = e.parent; tree = link_by old e.tree; minus = e.minus; matched = l; plus = e.plus }
        ∷ map (entry_by new) es)
        (paired e.matched (is_in-head e.matched (paired_links es)))
        ∙ ap (λ l. entry_by old e ∷ l)
        (each es (λ k there. grown k (is_in-tail e.tree (grown_links es) k there))
        (λ k there. paired k (is_in-tail e.matched (paired_links es) k there))))

-- the links round a live node are among those round all blossoms
pub ring_among : (nodes : List Node) (store : List (Option blossoms.Node)) (name k : ℕ) → is_live nodes name ≡ true
    → is_in (ring_at store name) k ≡ true → is_in (ring_links nodes store) k ≡ true
ring_among nodes store name k live there =
    let (n, a, named) = live_among nodes name live in
    among_any (λ u. u == k) (ring_links nodes store) k
    (flat_among (λ (m : Node). ring_at store m.name) nodes n k a
    (in_among (ring_at store n.name) k (ap (λ x. is_in (ring_at store x) k) named ∙ there)))
    (eq-eqb k k refl)
