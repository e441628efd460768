-- The nodes of the two paths that a cycle is made of: no node is on both, nor twice on the cycle.
use Rattle.std.proofs.Common.{ℕ, ◌≡◌, ◌==◌, ◌||◌, ◌⊎◌, ◌+◌, ◌*◌, inl, inr, Bool, true, false, List, [], ◌∷◌, ◌++◌, length, refl, sym, ap, ◌∙◌, subst, arith}
use Rattle.std.proofs.lemmas.Bool.{both_ways, false≢true, false_from_ne_true, or_from}
use Rattle.std.proofs.lemmas.List.{length-append}
use Rattle.fb_graph.specs.Parity.{is_in}
use Rattle.fb_graph.specs.Certificate.{AreDistinct}
use Rattle.fb_graph.specs.Dual.{AreApart}
use Rattle.fb_graph.proofs.Among.{IsAmong, among_right}
use Rattle.fb_graph.proofs.Members.{is_in-append}
use Rattle.fb_graph.proofs.Sets.{is_in-cases, is_in-head, is_in-tail}
use Rattle.fb_graph.proofs.Unions.{distinct_append}
use Rattle.fb_laws.specs.Trees.{Entry, path_to, tree_names}
use Rattle.fb_laws.specs.TreeCycles.{ArePaths, cycle_nodes, last_plus, nodes_along, nodes_back}
use Rattle.fb_laws.proofs.MergedParts.{distinct_across}
use Rattle.fb_laws.proofs.TreePaths.{along_among, along_append, along_minus, distinct_right, last_in, length_along, path_among, path_begins, path_distinct, path_holds, same_branch, shared_begins}

or_turned : (a b c : Bool) → (c || (b || (a || false))) ≡ (a || (b || c))
or_turned true true true = refl
or_turned true true false = refl
or_turned true false true = refl
or_turned true false false = refl
or_turned false true true = refl
or_turned false true false = refl
or_turned false false true = refl
or_turned false false false = refl

-- the way back has the nodes of the way there
pub same_back : (es : List Entry) (n : ℕ) → is_in (nodes_back es) n ≡ is_in (nodes_along es) n
same_back [] n = refl
same_back (e ∷ es) n =
    is_in-append (nodes_back es) (e.plus ∷ e.minus ∷ []) n
    ∙ (or_turned (e.minus == n) (e.plus == n) (is_in (nodes_back es) n)
    ∙ ap (λ b. (e.minus == n) || ((e.plus == n) || b)) (same_back es n))

pub distinct_back : (es : List Entry) → AreDistinct (nodes_along es) → AreDistinct (nodes_back es)
distinct_back [] distinct = tt
distinct_back (e ∷ es) (minus_new, (plus_new, distinct)) =
    distinct_append (nodes_back es) (e.plus ∷ e.minus ∷ []) (distinct_back es distinct) (
      false_from_ne_true (is_in (e.minus ∷ []) e.plus) (λ there. turned (is_in-cases e.minus [] e.plus there)),
      (refl, tt),
    )
    (λ n within. false_from_ne_true (is_in (e.plus ∷ e.minus ∷ []) n) (λ there. first n (sym (same_back es n) ∙ within) (is_in-cases e.plus (e.minus ∷ []) n there)))
  where
    turned : (e.minus ≡ e.plus) ⊎ (is_in [] e.plus ≡ true) → ⊥
    turned (inl same) =
        both_ways (is_in (e.plus ∷ nodes_along es) e.minus) minus_new
        (subst (λ m. is_in (e.plus ∷ nodes_along es) m ≡ true) (sym same) (is_in-head e.plus (nodes_along es)))
    turned (inr none) = false≢true none

    second : (n : ℕ) → is_in (nodes_along es) n ≡ true → (e.minus ≡ n) ⊎ (is_in [] n ≡ true) → ⊥
    second n within (inl same) =
        both_ways (is_in (e.plus ∷ nodes_along es) e.minus) minus_new
        (is_in-tail e.plus (nodes_along es) e.minus (ap (is_in (nodes_along es)) same ∙ within))
    second n within (inr none) = false≢true none

    first : (n : ℕ) → is_in (nodes_along es) n ≡ true → (e.plus ≡ n) ⊎ (is_in (e.minus ∷ []) n ≡ true) → ⊥
    first n within (inl same) = both_ways (is_in (nodes_along es) e.plus) plus_new (ap (is_in (nodes_along es)) same ∙ within)
    first n within (inr there) = second n within (is_in-cases e.minus [] n there)

pub length_back : (es : List Entry) → length (nodes_back es) ≡ 2 * length es
length_back [] = refl
length_back (e ∷ es) = omega (arith, length-append (nodes_back es) (e.plus ∷ e.minus ∷ []), length_back es)

pub length_cycle : (up down : List Entry) → length (cycle_nodes up down) ≡ 2 * (length up + length down)
length_cycle up down = omega (arith, length-append (nodes_along up) (nodes_back down), length_along up, length_back down)

-- a branch of the end of a path is one of the path
pub end_among : (tree : List Entry) (a : ℕ) (shared up : List Entry) → path_to tree a ≡ shared ++ up → (g : Entry) → IsAmong g up
    → IsAmong g (path_to tree a)
end_among tree a shared up parts g h = subst (IsAmong g) (sym parts) (among_right shared up g h)

-- a path's nodes are distinct, those of its beginning beside those of its end
pub ends_distinct : (root : ℕ) (tree : List Entry) → AreDistinct (tree_names root tree) → (a : ℕ) (shared up : List Entry)
    → path_to tree a ≡ shared ++ up → AreDistinct ((root ∷ nodes_along shared) ++ nodes_along up)
ends_distinct root tree names a shared up parts =
    subst (λ l. AreDistinct (root ∷ l)) (ap nodes_along parts ∙ along_append shared up) (path_distinct root tree names a)

module _ (root : ℕ) (tree : List Entry) (names : AreDistinct (tree_names root tree)) (a b : ℕ) (shared up down : List Entry)
    (paths : ArePaths tree a b shared up down) where
  up_among : (g : Entry) → IsAmong g up → IsAmong g (path_to tree a)
  up_among = end_among tree a shared up paths.first

  down_among : (g : Entry) → IsAmong g down → IsAmong g (path_to tree b)
  down_among = end_among tree b shared down paths.second

  first_distinct : AreDistinct ((root ∷ nodes_along shared) ++ nodes_along up)
  first_distinct = ends_distinct root tree names a shared up paths.first

  second_distinct : AreDistinct ((root ∷ nodes_along shared) ++ nodes_along down)
  second_distinct = ends_distinct root tree names b shared down paths.second

  -- no branch is on both ways
  no_common : (g : Entry) → IsAmong g up → IsAmong g down → ⊥
  no_common g h k =
      let (ys, first) = path_begins root tree names a g (up_among g h) in
      let (zs, second) = path_begins root tree names b g (down_among g k) in
      let within : IsAmong g shared =
      shared_begins shared up down (path_to tree g.plus) ys zs (sym paths.first ∙ first) (sym paths.second ∙ second) paths.parted g
      (path_holds root tree names g (path_among tree a g (up_among g h))) in
      both_ways (is_in (nodes_along up) g.minus)
      (distinct_across (root ∷ nodes_along shared) (nodes_along up) g.minus first_distinct
      (is_in-tail root (nodes_along shared) g.minus (along_minus shared g within)))
      (along_minus up g h)

  pub ends_apart : AreApart (nodes_along up) (nodes_along down)
  ends_apart n within = false_from_ne_true (is_in (nodes_along down) n) (λ there. by (along_among up n within) (along_among down n there))
    where
      by : (e : Entry) × IsAmong e up × ((e.minus ≡ n) ⊎ (e.plus ≡ n)) → (f : Entry) × IsAmong f down × ((f.minus ≡ n) ⊎ (f.plus ≡ n)) → ⊥
      by (e, h, is) (f, k, is_) =
          let same : e ≡ f = same_branch root tree names e f (path_among tree a e (up_among e h)) (path_among tree b f (down_among f k)) n is is_ in
          no_common e h (subst (λ x. IsAmong x down) (sym same) k)

  pub distinct_cycle : AreDistinct (last_plus root shared ∷ cycle_nodes up down)
  distinct_cycle = (
    is_in-append (nodes_along up) (nodes_back down) (last_plus root shared)
        ∙ or_from (is_in (nodes_along up) (last_plus root shared)) (is_in (nodes_back down) (last_plus root shared))
        (distinct_across (root ∷ nodes_along shared) (nodes_along up) (last_plus root shared) first_distinct (last_in root shared))
        (same_back down (last_plus root shared)
        ∙ distinct_across (root ∷ nodes_along shared) (nodes_along down) (last_plus root shared) second_distinct (last_in root shared)),
    distinct_append (nodes_along up) (nodes_back down) (distinct_right (root ∷ nodes_along shared) (nodes_along up) first_distinct)
        (distinct_back down (distinct_right (root ∷ nodes_along shared) (nodes_along down) second_distinct))
        (λ n within. same_back down n ∙ ends_apart n within),
  )
