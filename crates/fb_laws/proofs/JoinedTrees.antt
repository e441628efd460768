-- A tree in which a blossom takes the place of branches.
use Rattle.std.proofs.Common.{ℕ, ◌≡◌, ◌⊎◌, inl, inr, not, Bool, true, false, cond, List, [], ◌∷◌, map, All, Some, refl, sym, ap, ◌∙◌, subst}
use Rattle.std.proofs.lemmas.Bool.{both_ways, false≢true, cases_Bool, false_from_ne_true}
use Rattle.std.proofs.lemmas.List.Elements.{All-nil, All-cons, All-head, All-tail}
use Rattle.fb_graph.specs.Parity.{is_in}
use Rattle.fb_graph.specs.Certificate.{AreDistinct}
use Rattle.fb_graph.specs.Laws.{Link}
use Rattle.fb_graph.specs.Dual.{Node, cover_of}
use Rattle.fb_graph.proofs.Sets.{is_in-cases, is_in-head, is_in-tail}
use Rattle.fb_laws.specs.Blossoms.{IsInside}
use Rattle.fb_laws.specs.Trees.{Entry, Connects, IsTree, grown_links, paired_links, plus_names, tree_names}
use Rattle.fb_laws.specs.SearchBlossoms.{renamed_name, renamed_entry, inner_branches, outer_branches, joined_tree, AreBranches}

pub branches_tail : (joined : ℕ → Bool) (base root : ℕ) (e : Entry) (es : List Entry) → AreBranches joined base root (e ∷ es) → AreBranches joined base root es
branches_tail joined base root e es are = record {
  inner = All-tail (λ x. joined x.minus ≡ true → (joined x.parent ≡ true) × (joined x.plus ≡ true)) e es are.inner;
  outer = All-tail (λ x. joined x.minus ≡ false → joined x.plus ≡ true → x.plus ≡ base) e es are.outer;
  roots = are.roots;
}

pub grown_joined : (joined : ℕ → Bool) (name : ℕ) (es : List Entry) → grown_links (map (renamed_entry joined name) es) ≡ grown_links es
grown_joined joined name [] = refl
grown_joined joined name (e ∷ es) = ap (λ l. e.tree ∷ l) (grown_joined joined name es)

pub paired_joined : (joined : ℕ → Bool) (name : ℕ) (es : List Entry) → paired_links (map (renamed_entry joined name) es) ≡ paired_links es
paired_joined joined name [] = refl
paired_joined joined name (e ∷ es) = ap (λ l. e.matched ∷ l) (paired_joined joined name es)

module _ (joined : ℕ → Bool) (name base root : ℕ) where
  pub new_in : (n : ℕ) → joined n ≡ true → renamed_name joined name n ≡ name
  new_in n e = ap (λ b. cond b name n) e

  pub new_out : (n : ℕ) → joined n ≡ false → renamed_name joined name n ≡ n
  new_out n e = ap (λ b. cond b name n) e

  -- what holds of the joined tree, by whether the first branch is taken in
  by_first : (P : List Entry → Type 0) (e : Entry) (es : List Entry)
      → (joined e.minus ≡ true → P (joined_tree joined name es))
      → (joined e.minus ≡ false → P (renamed_entry joined name e ∷ joined_tree joined name es))
      → P (joined_tree joined name (e ∷ es))
  by_first P e es inside outside = step (cases_Bool (joined e.minus))
    where
      step : (joined e.minus ≡ true) ⊎ (joined e.minus ≡ false)
          → P (map (renamed_entry joined name) (cond (not (joined e.minus)) (e ∷ outer_branches joined es) (outer_branches joined es)))
      step (inl h) =
          subst (λ b. P (map (renamed_entry joined name) (cond (not b) (e ∷ outer_branches joined es) (outer_branches joined es)))) (sym h) (inside h)
      step (inr h) =
          subst (λ b. P (map (renamed_entry joined name) (cond (not b) (e ∷ outer_branches joined es) (outer_branches joined es)))) (sym h) (outside h)

  -- plus nodes stay plus, under their new names
  pub plus_kept : (nodes : List Node) (tree : List Entry) → IsTree nodes root tree → AreBranches joined base root tree → (n : ℕ)
      → is_in (plus_names root tree) n ≡ true
      → is_in (plus_names (renamed_name joined name root) (joined_tree joined name tree)) (renamed_name joined name n) ≡ true
  plus_kept nodes [] tree are n among = step (is_in-cases root [] n among)
    where
      step : (root ≡ n) ⊎ (is_in [] n ≡ true) → is_in (renamed_name joined name root ∷ []) (renamed_name joined name n) ≡ true
      step (inl same) = subst (λ m. is_in (renamed_name joined name root ∷ []) (renamed_name joined name m) ≡ true) same (is_in-head (renamed_name joined name root) [])
      step (inr none) = absurd (false≢true none)
  plus_kept nodes (e ∷ es) (parent, tree, matched, joins) are n among =
      by_first (λ t. is_in (plus_names (renamed_name joined name root) t) (renamed_name joined name n) ≡ true) e es
      (λ taken. inside taken (is_in-cases e.plus (plus_names root es) n among) (plus_kept nodes es joins (branches_tail joined base root e es are)))
      (λ left. outside (is_in-cases e.plus (plus_names root es) n among) (plus_kept nodes es joins (branches_tail joined base root e es are)))
    where
      Kept : ℕ → Type 0
      Kept m = is_in (plus_names (renamed_name joined name root) (joined_tree joined name es)) (renamed_name joined name m) ≡ true

      inside : joined e.minus ≡ true → (e.plus ≡ n) ⊎ (is_in (plus_names root es) n ≡ true)
          → ((m : ℕ) → is_in (plus_names root es) m ≡ true → Kept m) → Kept n
      inside taken (inl same) rest =
          let both = All-head (λ x. joined x.minus ≡ true → (joined x.parent ≡ true) × (joined x.plus ≡ true)) e es are.inner taken in
          subst (λ m. is_in (plus_names (renamed_name joined name root) (joined_tree joined name es)) m ≡ true)
          (new_in e.parent both.0 ∙ (sym (new_in e.plus both.1) ∙ ap (renamed_name joined name) same)) (rest e.parent parent)
      inside taken (inr there) rest = rest n there

      outside : (e.plus ≡ n) ⊎ (is_in (plus_names root es) n ≡ true) → ((m : ℕ) → is_in (plus_names root es) m ≡ true → Kept m)
          → is_in (renamed_name joined name e.plus ∷ plus_names (renamed_name joined name root) (joined_tree joined name es)) (renamed_name joined name n) ≡ true
      outside (inl same) rest =
          subst (λ m. is_in (renamed_name joined name e.plus ∷ plus_names (renamed_name joined name root) (joined_tree joined name es)) (renamed_name joined name m) ≡ true) same
          (is_in-head (renamed_name joined name e.plus) (plus_names (renamed_name joined name root) (joined_tree joined name es)))
      outside (inr there) rest =
          is_in-tail (renamed_name joined name e.plus) (plus_names (renamed_name joined name root) (joined_tree joined name es)) (renamed_name joined name n) (rest n there)

  abbrev IsOld : List ℕ → ℕ → Type 0
  IsOld names m = (is_in names m ≡ true) × (joined m ≡ false) ⊎ (m ≡ name) × (is_in names base ≡ true)

  old_one : (names : List ℕ) (n m : ℕ) → is_in names n ≡ true → (joined n ≡ true → n ≡ base) → renamed_name joined name n ≡ m → IsOld names m
  old_one names n m among only same = step (cases_Bool (joined n))
    where
      step : (joined n ≡ true) ⊎ (joined n ≡ false) → IsOld names m
      step (inl h) = inr (sym same ∙ new_in n h, ap (is_in names) (sym (only h)) ∙ among)
      step (inr h) =
          let is : n ≡ m = sym (new_out n h) ∙ same in
          inl (ap (is_in names) (sym is) ∙ among, ap joined (sym is) ∙ h)

  old_more : (names more : List ℕ) (m : ℕ) → ((n : ℕ) → is_in names n ≡ true → is_in more n ≡ true) → IsOld names m → IsOld more m
  old_more names more m within (inl (among, out)) = inl (within m among, out)
  old_more names more m within (inr (is, among)) = inr (is, within base among)

  two_more : (e : Entry) (es : List Entry) (n : ℕ) → is_in (tree_names root es) n ≡ true → is_in (tree_names root (e ∷ es)) n ≡ true
  two_more e es n among = is_in-tail e.minus (e.plus ∷ tree_names root es) n (is_in-tail e.plus (tree_names root es) n among)

  -- the names of the joined tree are old ones, or the blossom's in the place of its base
  pub names_kept : (tree : List Entry) → AreBranches joined base root tree → (m : ℕ)
      → is_in (tree_names (renamed_name joined name root) (joined_tree joined name tree)) m ≡ true → IsOld (tree_names root tree) m
  names_kept [] are m among = step (is_in-cases (renamed_name joined name root) [] m among)
    where
      step : (renamed_name joined name root ≡ m) ⊎ (is_in [] m ≡ true) → IsOld (root ∷ []) m
      step (inl same) = old_one (root ∷ []) root m (is_in-head root []) are.roots same
      step (inr none) = absurd (false≢true none)
  names_kept (e ∷ es) are m among =
      by_first (λ t. is_in (tree_names (renamed_name joined name root) t) m ≡ true → IsOld (tree_names root (e ∷ es)) m) e es
      (λ taken there. later (names_kept es (branches_tail joined base root e es are) m there))
      (λ left there.
      step left (is_in-cases e.minus (renamed_name joined name e.plus ∷ tree_names (renamed_name joined name root) (joined_tree joined name es)) m there)
      (names_kept es (branches_tail joined base root e es are) m))
      among
    where
      later : IsOld (tree_names root es) m → IsOld (tree_names root (e ∷ es)) m
      later old = old_more (tree_names root es) (tree_names root (e ∷ es)) m (two_more e es) old

      last : joined e.minus ≡ false → (renamed_name joined name e.plus ≡ m) ⊎ (is_in (tree_names (renamed_name joined name root) (joined_tree joined name es)) m ≡ true)
          → (is_in (tree_names (renamed_name joined name root) (joined_tree joined name es)) m ≡ true → IsOld (tree_names root es) m)
          → IsOld (tree_names root (e ∷ es)) m
      last left (inl same) rest =
          old_one (tree_names root (e ∷ es)) e.plus m
          (is_in-tail e.minus (e.plus ∷ tree_names root es) e.plus (is_in-head e.plus (tree_names root es)))
          (All-head (λ x. joined x.minus ≡ false → joined x.plus ≡ true → x.plus ≡ base) e es are.outer left) same
      last left (inr there) rest = later (rest there)

      step : joined e.minus ≡ false
          → (e.minus ≡ m) ⊎ (is_in (renamed_name joined name e.plus ∷ tree_names (renamed_name joined name root) (joined_tree joined name es)) m ≡ true)
          → (is_in (tree_names (renamed_name joined name root) (joined_tree joined name es)) m ≡ true → IsOld (tree_names root es) m)
          → IsOld (tree_names root (e ∷ es)) m
      step left (inl same) rest =
          inl (subst (λ n. is_in (tree_names root (e ∷ es)) n ≡ true) same (is_in-head e.minus (e.plus ∷ tree_names root es)), ap joined (sym same) ∙ left)
      step left (inr there) rest =
          last left (is_in-cases (renamed_name joined name e.plus) (tree_names (renamed_name joined name root) (joined_tree joined name es)) m there) rest

  pub distinct_kept : (tree : List Entry) → AreBranches joined base root tree → AreDistinct (tree_names root tree)
      → is_in (tree_names root tree) name ≡ false → AreDistinct (tree_names (renamed_name joined name root) (joined_tree joined name tree))
  distinct_kept [] are distinct fresh = (refl, tt)
  distinct_kept (e ∷ es) are (minus_new, (plus_new, distinct)) fresh =
      by_first (λ t. AreDistinct (tree_names (renamed_name joined name root) t)) e es
      (λ taken. distinct_kept es (branches_tail joined base root e es are) distinct fresh_rest)
      (λ left. (
        false_from_ne_true (is_in (renamed_name joined name e.plus ∷ tree_names (renamed_name joined name root) (joined_tree joined name es)) e.minus)
            (λ there. minus_apart left (is_in-cases (renamed_name joined name e.plus) (tree_names (renamed_name joined name root) (joined_tree joined name es)) e.minus there)),
        (
          false_from_ne_true (is_in (tree_names (renamed_name joined name root) (joined_tree joined name es)) (renamed_name joined name e.plus))
              (λ there.
              plus_apart left (cases_Bool (joined e.plus))
              (names_kept es (branches_tail joined base root e es are) (renamed_name joined name e.plus) there)),
          distinct_kept es (branches_tail joined base root e es are) distinct fresh_rest,
        ),
      ))
    where
      not_fresh : (n : ℕ) → is_in (tree_names root (e ∷ es)) n ≡ true → n ≡ name → ⊥
      not_fresh n among same = both_ways (is_in (tree_names root (e ∷ es)) name) fresh (ap (is_in (tree_names root (e ∷ es))) (sym same) ∙ among)

      fresh_rest : is_in (tree_names root es) name ≡ false
      fresh_rest = false_from_ne_true (is_in (tree_names root es) name) (λ there. not_fresh name (two_more e es name there) refl)

      minus_here : is_in (tree_names root (e ∷ es)) e.minus ≡ true
      minus_here = is_in-head e.minus (e.plus ∷ tree_names root es)

      plus_here : is_in (tree_names root (e ∷ es)) e.plus ≡ true
      plus_here = is_in-tail e.minus (e.plus ∷ tree_names root es) e.plus (is_in-head e.plus (tree_names root es))

      old_minus : IsOld (tree_names root es) e.minus → ⊥
      old_minus (inl (among, out)) =
          both_ways (is_in (e.plus ∷ tree_names root es) e.minus) minus_new (is_in-tail e.plus (tree_names root es) e.minus among)
      old_minus (inr (is, among)) = not_fresh e.minus minus_here is

      minus_plus : joined e.minus ≡ false → renamed_name joined name e.plus ≡ e.minus → (joined e.plus ≡ true) ⊎ (joined e.plus ≡ false) → ⊥
      minus_plus left same (inl h) = not_fresh e.minus minus_here (sym same ∙ new_in e.plus h)
      minus_plus left same (inr h) =
          both_ways (is_in (e.plus ∷ tree_names root es) e.minus) minus_new
          (subst (λ n. is_in (e.plus ∷ tree_names root es) n ≡ true) (sym (new_out e.plus h) ∙ same) (is_in-head e.plus (tree_names root es)))

      minus_apart : joined e.minus ≡ false
          → (renamed_name joined name e.plus ≡ e.minus) ⊎ (is_in (tree_names (renamed_name joined name root) (joined_tree joined name es)) e.minus ≡ true) → ⊥
      minus_apart left (inl same) = minus_plus left same (cases_Bool (joined e.plus))
      minus_apart left (inr there) = old_minus (names_kept es (branches_tail joined base root e es are) e.minus there)

      plus_apart : joined e.minus ≡ false → (joined e.plus ≡ true) ⊎ (joined e.plus ≡ false)
          → IsOld (tree_names root es) (renamed_name joined name e.plus) → ⊥
      plus_apart left (inl h) (inl (among, out)) =
          not_fresh name (two_more e es name (ap (is_in (tree_names root es)) (sym (new_in e.plus h)) ∙ among)) refl
      plus_apart left (inl h) (inr (is, among)) =
          let same : e.plus ≡ base = All-head (λ x. joined x.minus ≡ false → joined x.plus ≡ true → x.plus ≡ base) e es are.outer left h in
          both_ways (is_in (tree_names root es) e.plus) plus_new (ap (is_in (tree_names root es)) same ∙ among)
      plus_apart left (inr h) (inl (among, out)) =
          both_ways (is_in (tree_names root es) e.plus) plus_new (ap (is_in (tree_names root es)) (sym (new_out e.plus h)) ∙ among)
      plus_apart left (inr h) (inr (is, among)) = not_fresh e.plus plus_here (sym (new_out e.plus h) ∙ is)

  pub tree_kept : (nodes others : List Node)
      → ((l : Link) (a b : ℕ) → Connects nodes l a b → Connects others l (renamed_name joined name a) (renamed_name joined name b))
      → (tree : List Entry) → IsTree nodes root tree → AreBranches joined base root tree
      → IsTree others (renamed_name joined name root) (joined_tree joined name tree)
  tree_kept nodes others moved [] tree are = tt
  tree_kept nodes others moved (e ∷ es) (parent, tree, matched, joins) are =
      by_first (IsTree others (renamed_name joined name root)) e es
      (λ taken. tree_kept nodes others moved es joins (branches_tail joined base root e es are))
      (λ left. (
        plus_kept nodes es joins (branches_tail joined base root e es are) e.parent parent,
        subst (Connects others e.tree (renamed_name joined name e.parent)) (new_out e.minus left) (moved e.tree e.parent e.minus tree),
        subst (λ n. Connects others e.matched n (renamed_name joined name e.plus)) (new_out e.minus left) (moved e.matched e.minus e.plus matched),
        tree_kept nodes others moved es joins (branches_tail joined base root e es are),
      ))

  -- matched links of branches that are taken in lie within the blossom
  pub inner_inside : (nodes : List Node) (union : List ℕ)
      → ((v n : ℕ) → cover_of nodes v ≡ Some n → joined n ≡ true → is_in union v ≡ true) → (tree : List Entry)
      → IsTree nodes root tree → AreBranches joined base root tree → All (IsInside union) (paired_links (inner_branches joined tree))
  inner_inside nodes union held [] tree are = All-nil (IsInside union)
  inner_inside nodes union held (e ∷ es) (parent, tree, matched, joins) are =
      step (cases_Bool (joined e.minus)) (inner_inside nodes union held es joins (branches_tail joined base root e es are))
    where
      both : joined e.minus ≡ true → Connects nodes e.matched e.minus e.plus → IsInside union e.matched
      both taken (inl (from, to)) = (
        held e.matched.from e.minus from taken,
        held e.matched.to e.plus to
            (All-head (λ x. joined x.minus ≡ true → (joined x.parent ≡ true) × (joined x.plus ≡ true)) e es are.inner taken).1,
      )
      both taken (inr (to, from)) = (
        held e.matched.from e.plus from
            (All-head (λ x. joined x.minus ≡ true → (joined x.parent ≡ true) × (joined x.plus ≡ true)) e es are.inner taken).1,
        held e.matched.to e.minus to taken,
      )

      step : (joined e.minus ≡ true) ⊎ (joined e.minus ≡ false) → All (IsInside union) (paired_links (inner_branches joined es))
          → All (IsInside union) (paired_links (cond (joined e.minus) (e ∷ inner_branches joined es) (inner_branches joined es)))
      step (inl h) rest =
          subst (λ b. All (IsInside union) (paired_links (cond b (e ∷ inner_branches joined es) (inner_branches joined es)))) (sym h)
          (All-cons (IsInside union) e.matched (paired_links (inner_branches joined es)) (both h matched) rest)
      step (inr h) rest =
          subst (λ b. All (IsInside union) (paired_links (cond b (e ∷ inner_branches joined es) (inner_branches joined es)))) (sym h) rest
