-- Paces of nodes that are set one after another.
use Rattle.std.proofs.Common.{ℕ, ◌≡◌, ◌==◌, ◌&&◌, ◌||◌, ◌<◌, ◌+◌, cond, Bool, true, false, List, [], ◌∷◌, ◌++◌, length, take, get_or, map, reverse, refl, sym, ap, ◌∙◌, subst}
use Rattle.std.proofs.lemmas.Bool.{eqb-true, false_from_ne_true, both_ways, eq-eqb}
use Rattle.std.proofs.lemmas.List.{append_assoc, map-append, reverse-append, take_more}
use Rattle.fb_graph.specs.Parity.{is_in}
use Rattle.fb_graph.specs.Dual.{is_live}
use Rattle.fb_graph.proofs.Members.{is_in_push}
use Rattle.fb_laws.specs.Trees.{EntryOf, tree_names}
use Rattle.fb_regions.specs.Paces.{IsRepaced, Paced, pace_in}
use Rattle.fb_regions.specs.declared.roles.Role.{Role}
use Rattle.fb_trees.specs.Branches.{entries_of, entry_of}
use Rattle.fb_trees.specs.declared.branch.Branch.{Branch}
use Rattle.fb_trees.specs.TreesOver.{branch_names}

or_false : (b : Bool) → (b || false) ≡ b
or_false true = refl
or_false false = refl

or_true : (b : Bool) → (b || true) ≡ true
or_true true = refl
or_true false = refl

-- one name more is set
pub set_next : (f : ℕ → Role) (live : ℕ → Bool) (done : List ℕ) (x n : ℕ) (old mid new : Role)
    → new ≡ cond ((n == x) && live x) (f x) mid → mid ≡ cond (is_in done n && live n) (f n) old
    → new ≡ cond (is_in (done ++ x ∷ []) n && live n) (f n) old
set_next f live done x n old mid new set was = by (n == x) refl
  where
    lives : (b : Bool) → live n ≡ b → new ≡ cond (live n) (f n) mid → is_in (done ++ x ∷ []) n ≡ true
        → new ≡ cond (is_in (done ++ x ∷ []) n && live n) (f n) old
    lives true l s has =
        s ∙ (ap (λ c. cond c (f n) mid) l
        ∙ sym (ap (λ c. cond (c && live n) (f n) old) has ∙ ap (λ c. cond c (f n) old) l))
    lives false l s has =
        s ∙ (ap (λ c. cond c (f n) mid) l
        ∙ (was ∙ (gone (is_in done n) ∙ sym (ap (λ c. cond (c && live n) (f n) old) has ∙ ap (λ c. cond c (f n) old) l))))
      where
        gone : (b : Bool) → cond (b && live n) (f n) old ≡ old
        gone true = ap (λ c. cond c (f n) old) l
        gone false = refl

    by : (b : Bool) → (n == x) ≡ b → new ≡ cond (is_in (done ++ x ∷ []) n && live n) (f n) old
    by true e =
        let same : x ≡ n = sym (eqb-true n x e) in
        let here : (x == n) ≡ true = eq-eqb x n same in
        lives (live n) refl (subst (λ y. new ≡ cond (live y) (f y) mid) same (set ∙ ap (λ c. cond (c && live x) (f x) mid) e))
        (is_in_push done x n ∙ (ap (λ c. is_in done n || c) here ∙ or_true (is_in done n)))
    by false e =
        let other : (x == n) ≡ false = false_from_ne_true (x == n) (λ h. both_ways (n == x) e (eq-eqb n x (sym (eqb-true x n h)))) in
        set ∙ (ap (λ c. cond (c && live x) (f x) mid) e
        ∙ (was ∙ ap (λ c. cond (c && live n) (f n) old)
        (sym (is_in_push done x n ∙ (ap (λ c. is_in done n || c) other ∙ or_false (is_in done n))))))

pub repaced_trans : {S : Type 0} (a b c : Paced S) → IsRepaced a b → IsRepaced b c → IsRepaced a c
repaced_trans {S} a b c first second =
    let moved : Paced S → Paced S = λ r. record r { plus = c.plus; minus = c.minus } in
    second ∙ ap moved first

-- some of the names are set, and nothing else has changed
pub record AreSet {S : Type 0} (f : ℕ → Role) (names : List ℕ) (before after : Paced S) : Type 0 where
  pub same : IsRepaced before after
  pub paces : (n : ℕ) → pace_in after n ≡ cond (is_in names n && is_live before.nodes n) (f n) (pace_in before n)

pub none_set : {S : Type 0} (f : ℕ → Role) (r : Paced S) → AreSet f [] r r
none_set f r = record { same = refl; paces = λ n. refl }

-- one name more is set
pub more_set : {S : Type 0} (f : ℕ → Role) (done : List ℕ) (x : ℕ) (pace : Role) (before mid after : Paced S) → AreSet f done before mid
    → pace ≡ f x → IsRepaced mid after
    → ((n : ℕ) → pace_in after n ≡ cond ((n == x) && is_live mid.nodes x) pace (pace_in mid n))
    → AreSet f (done ++ x ∷ []) before after
more_set f done x pace before mid after are is repaced paces = record {
  same = repaced_trans before mid after are.same repaced;
  paces = λ n.
      set_next f (is_live before.nodes) done x n (pace_in before n) (pace_in mid n) (pace_in after n)
      (paces n
      ∙ (ap (λ p. cond ((n == x) && is_live mid.nodes x) p (pace_in mid n)) is
      ∙ ap (λ ns. cond ((n == x) && is_live ns x) (f x) (pace_in mid n)) (ap (λ r. r.nodes) are.same)))
      (are.paces n);
}

names_append : (bs cs : List Branch) → branch_names (bs ++ cs) ≡ branch_names bs ++ branch_names cs
names_append [] cs = refl
names_append (b ∷ bs) cs = ap (λ l. b.minus ∷ b.plus ∷ l) (names_append bs cs)

-- the names of one branch more
pub names_next : (bs : List Branch) (i : ℕ) (d : Branch) → i < length bs
    → branch_names (take (i + 1) bs) ≡ (branch_names (take i bs) ++ (get_or bs i d).minus ∷ []) ++ (get_or bs i d).plus ∷ []
names_next bs i d less =
    ap branch_names (take_more bs i d less)
    ∙ (names_append (take i bs) (get_or bs i d ∷ [])
    ∙ sym (append_assoc (branch_names (take i bs)) ((get_or bs i d).minus ∷ []) ((get_or bs i d).plus ∷ [])))

tree_append : (root : ℕ) (es : List (EntryOf ℕ)) (e : EntryOf ℕ) (n : ℕ)
    → is_in (tree_names root (es ++ e ∷ [])) n ≡ ((e.minus == n) || ((e.plus == n) || is_in (tree_names root es) n))
tree_append root [] e n = refl
tree_append root (x ∷ es) e n =
    ap (λ b. (x.minus == n) || ((x.plus == n) || b)) (tree_append root es e n)
    ∙ turned (x.minus == n) (x.plus == n) (e.minus == n) (e.plus == n) (is_in (tree_names root es) n)
  where
    turned : (a b c d r : Bool) → (a || (b || (c || (d || r)))) ≡ (c || (d || (a || (b || r))))
    turned true b c d r = sym (ap (λ x. c || x) (or_true d) ∙ or_true c)
    turned false true c d r = sym (ap (λ x. c || x) (or_true d) ∙ or_true c)
    turned false false c d r = refl

-- a tree has its root and the nodes of its branches
pub tree_holds : (root : ℕ) (bs : List Branch) (n : ℕ)
    → is_in (tree_names root (entries_of bs)) n ≡ is_in (root ∷ branch_names bs) n
tree_holds root [] n = refl
tree_holds root (b ∷ bs) n =
    ap (λ l. is_in (tree_names root l) n)
    (ap (map entry_of) (reverse-append (b ∷ []) bs) ∙ map-append entry_of (reverse bs) (b ∷ []))
    ∙ (tree_append root (entries_of bs) (entry_of b) n
    ∙ (ap (λ x. (b.minus == n) || ((b.plus == n) || x)) (tree_holds root bs n)
    ∙ first (b.minus == n) (b.plus == n) (root == n) (is_in (branch_names bs) n)))
  where
    first : (a b c r : Bool) → (a || (b || (c || r))) ≡ (c || (a || (b || r)))
    first true b c r = sym (or_true c)
    first false true c r = sym (or_true c)
    first false false c r = refl

-- the nodes of one branch more are set
pub branch_set : {S : Type 0} (f : ℕ → Role) (bs : List Branch) (i : ℕ) (d : Branch) (pace : Role) (before mid half after : Paced S)
    → i < length bs → ((n : ℕ) → pace ≡ f n) → AreSet f (branch_names (take i bs)) before mid
    → IsRepaced mid half → ((n : ℕ) → pace_in half n ≡ cond ((n == (get_or bs i d).minus) && is_live mid.nodes (get_or bs i d).minus) pace (pace_in mid n))
    → IsRepaced half after → ((n : ℕ) → pace_in after n ≡ cond ((n == (get_or bs i d).plus) && is_live half.nodes (get_or bs i d).plus) pace (pace_in half n))
    → AreSet f (branch_names (take (i + 1) bs)) before after
branch_set f bs i d pace before mid half after less is are first paces second more =
    subst (λ l. AreSet f l before after) (sym (names_next bs i d less))
    (more_set f (branch_names (take i bs) ++ (get_or bs i d).minus ∷ []) (get_or bs i d).plus pace before half after
    (more_set f (branch_names (take i bs)) (get_or bs i d).minus pace before mid half are (is (get_or bs i d).minus) first paces)
    (is (get_or bs i d).plus) second more)

-- the root of a tree and the nodes of its branches are set
pub tree_set : {S : Type 0} (f : ℕ → Role) (root : ℕ) (bs : List Branch) (pace : Role) (before mid after : Paced S) → ((n : ℕ) → pace ≡ f n)
    → IsRepaced before mid → ((n : ℕ) → pace_in mid n ≡ cond ((n == root) && is_live before.nodes root) pace (pace_in before n))
    → AreSet f (branch_names bs) mid after → (n : ℕ)
    → pace_in after n ≡ cond (is_in (tree_names root (entries_of bs)) n && is_live before.nodes n) (f n) (pace_in before n)
tree_set f root bs pace before mid after is same paces are n =
    let one = more_set f [] root pace before before mid (none_set f before) (is root) same paces in
    are.paces n
    ∙ (ap (λ ns. cond (is_in (branch_names bs) n && is_live ns n) (f n) (pace_in mid n)) (ap (λ r. r.nodes) same)
    ∙ (ap (λ p. cond (is_in (branch_names bs) n && is_live before.nodes n) (f n) p) (one.paces n)
    ∙ (joined (is_in (branch_names bs) n) (root == n) (is_live before.nodes n) (f n) (pace_in before n)
    ∙ ap (λ b. cond (b && is_live before.nodes n) (f n) (pace_in before n)) (sym (tree_holds root bs n)))))
  where
    joined : (a b l : Bool) (x y : Role) → cond (a && l) x (cond ((b || false) && l) x y) ≡ cond ((b || a) && l) x y
    joined true true true x y = refl
    joined true true false x y = refl
    joined true false true x y = refl
    joined true false false x y = refl
    joined false true true x y = refl
    joined false true false x y = refl
    joined false false true x y = refl
    joined false false false x y = refl
