-- The nodes of a part that begins: each defect a leaf with the name at its place.
use Rattle.std.proofs.Common.{ℕ, ◌≡◌, ◌≢◌, ◌+◌, ◌==◌, ◌&&◌, ◌||◌, Bool, true, false, cond, List, [], ◌∷◌, ◌++◌, map, length, All, Option, Some, None, is_some, option_map, arith, refl, sym, ap, ◌∙◌, subst, length-append, if◌then◌else◌}
use Rattle.std.proofs.Math.Bool.{or-false}
use Rattle.std.specs.List.{find}
use Rattle.std.proofs.lemmas.Bool.{both_ways, eqb-true, eq-eqb, or_right, or_parts, and_right}
use Rattle.std.proofs.lemmas.List.Elements.{All-nil, All-cons}
use Rattle.fb_graph.specs.Parity.{is_in}
use Rattle.fb_graph.proofs.Members.{AreDistinct_push, is_in-append}
use Rattle.fb_graph.specs.Certificate.{AreDistinct}
use Rattle.fb_graph.specs.Dual.{Node, cover_of, is_live, defects_of, is_empty, is_outer, leaf}
use Rattle.fb_graph.specs.Singles.{Single, nodes_of, vertices_of}
use Rattle.fb_blossoms.specs.Nodes as blossoms
use Rattle.fb_half.specs.Beginnings.{leaves_by}
use Rattle.fb_half.specs.InternalBeginnings.{IsStarted, leaf_at}
use Rattle.fb_half.specs.Matchings.{MatchingValue, listed_names, matched_names}

abbrev pub singles_by : List ℕ → List ℕ → List Single
singles_by [] defects = []
singles_by (name ∷ names) [] = []
singles_by (name ∷ names) (v ∷ defects) = record { name = name; vertex = v; value = 0 } ∷ singles_by names defects

pub single_nodes : (names defects : List ℕ) → nodes_of (singles_by names defects) ≡ leaves_by names defects
single_nodes [] defects = refl
single_nodes (name ∷ names) [] = refl
single_nodes (name ∷ names) (v ∷ defects) = ap (λ l. leaf name v ∷ l) (single_nodes names defects)

pub single_names : (names defects : List ℕ) → length names ≡ length defects → map (λ s. s.name) (singles_by names defects) ≡ names
single_names [] defects same = refl
single_names (name ∷ names) [] same = absurd (omega arith)
single_names (name ∷ names) (v ∷ defects) same = ap (λ l. name ∷ l) (single_names names defects (omega arith))

pub single_vertices : (names defects : List ℕ) → length names ≡ length defects → vertices_of (singles_by names defects) ≡ defects
single_vertices [] [] same = refl
single_vertices [] (v ∷ defects) same = absurd (omega arith)
single_vertices (name ∷ names) [] same = absurd (omega arith)
single_vertices (name ∷ names) (v ∷ defects) same = ap (λ l. v ∷ l) (single_vertices names defects (omega arith))

pub single_values : (names defects : List ℕ) → All (λ s. s.value ≡ 0) (singles_by names defects)
single_values [] defects = All-nil (λ s. s.value ≡ 0)
single_values (name ∷ names) [] = All-nil (λ s. s.value ≡ 0)
single_values (name ∷ names) (v ∷ defects) =
    All-cons (λ s. s.value ≡ 0) (record { name = name; vertex = v; value = 0 }) (singles_by names defects) refl (single_values names defects)

pub leaves_pushed : (names defects : List ℕ) (name v : ℕ) → length names ≡ length defects
    → leaves_by (names ++ name ∷ []) (defects ++ v ∷ []) ≡ leaves_by names defects ++ leaf name v ∷ []
leaves_pushed [] [] name v same = refl
leaves_pushed [] (w ∷ defects) name v same = absurd (omega arith)
leaves_pushed (n ∷ names) [] name v same = absurd (omega arith)
leaves_pushed (n ∷ names) (w ∷ defects) name v same = ap (λ l. leaf n w ∷ l) (leaves_pushed names defects name v (omega arith))

pub live_leaves : (names defects : List ℕ) (x : ℕ) → length names ≡ length defects → is_live (leaves_by names defects) x ≡ is_in names x
live_leaves [] defects x same = refl
live_leaves (n ∷ names) [] x same = absurd (omega arith)
live_leaves (n ∷ names) (w ∷ defects) x same = ap (λ b. (n == x) || b) (live_leaves names defects x (omega arith))

-- no leaf joins others
pub outer_leaves : (names defects : List ℕ) (x : ℕ) → is_outer (leaves_by names defects) x ≡ true
outer_leaves [] defects x = refl
outer_leaves (n ∷ names) [] x = refl
outer_leaves (n ∷ names) (w ∷ defects) x = outer_leaves names defects x

uncovered_in : (all : List Node) (names defects : List ℕ) (v : ℕ) → is_in defects v ≡ false
    → find (λ n. is_outer all n.name && is_in n.top.vertices v) (leaves_by names defects) ≡ None
uncovered_in all [] defects v h = refl
uncovered_in all (n ∷ names) [] v h = refl
uncovered_in all (n ∷ names) (w ∷ defects) v h = by_cases (uncovered_in all names defects v) (w == v) refl
  where
    by_cases : (is_in defects v ≡ false → find (λ m. is_outer all m.name && is_in m.top.vertices v) (leaves_by names defects) ≡ None)
        → (b : Bool) → (w == v) ≡ b
        → find (λ m. is_outer all m.name && is_in m.top.vertices v) (leaf n w ∷ leaves_by names defects) ≡ None
    by_cases rest true is = absurd (both_ways (is_in (w ∷ defects) v) h (ap (λ b. b || is_in defects v) is))
    by_cases rest false is =
        ap (λ c. cond c (Some (leaf n w)) (find (λ m. is_outer all m.name && is_in m.top.vertices v) (leaves_by names defects)))
        (and_right (is_outer all n) ((w == v) || false) (or-false (w == v) ∙ is))
        ∙ rest (sym (ap (λ b. b || is_in defects v) is) ∙ h)

pub uncovered : (names defects : List ℕ) (v : ℕ) → is_in defects v ≡ false → cover_of (leaves_by names defects) v ≡ None
uncovered names defects v h = ap (option_map (λ n. n.name)) (uncovered_in (leaves_by names defects) names defects v h)

pub no_leaf : (names defects : List ℕ) (v x : ℕ) → is_in defects v ≡ false → leaf_at names defects x ≢ Some (blossoms.leaf v)
no_leaf [] defects v x h e = cc
no_leaf (n ∷ names) [] v x h e = cc
no_leaf (n ∷ names) (w ∷ defects) v x h e = by_cases (no_leaf names defects v x) (n == x) refl
  where
    same : (w ∷ []) ≡ (v ∷ []) → w ≡ v
    same l = cc

    by_cases : (is_in defects v ≡ false → leaf_at names defects x ≢ Some (blossoms.leaf v)) → (b : Bool) → (n == x) ≡ b → ⊥
    by_cases rest true is =
        let equal = same (ap blossoms.defects_of (sym (ap (λ b. if b then Some (blossoms.leaf w) else leaf_at names defects x) is) ∙ e)) in
        both_ways (is_in (w ∷ defects) v) h (ap (λ b. b || is_in defects v) (eq-eqb w v equal))
    by_cases rest false is =
        rest (or_parts (w == v) (is_in defects v) h).1 (sym (ap (λ b. if b then Some (blossoms.leaf w) else leaf_at names defects x) is) ∙ e)

pub leaf_pushed : (names defects : List ℕ) (name v x : ℕ) → length names ≡ length defects → is_in names name ≡ false
    → leaf_at (names ++ name ∷ []) (defects ++ v ∷ []) x ≡ (if name == x then Some (blossoms.leaf v) else leaf_at names defects x)
leaf_pushed [] [] name v x same fresh = refl
leaf_pushed [] (w ∷ defects) name v x same fresh = absurd (omega arith)
leaf_pushed (n ∷ names) [] name v x same fresh = absurd (omega arith)
leaf_pushed (n ∷ names) (w ∷ defects) name v x same fresh = by_cases (leaf_pushed names defects name v x (omega arith)) (n == x) refl
  where
    by_cases : (is_in names name ≡ false
        → leaf_at (names ++ name ∷ []) (defects ++ v ∷ []) x ≡ (if name == x then Some (blossoms.leaf v) else leaf_at names defects x))
        → (b : Bool) → (n == x) ≡ b
        → (if n == x then Some (blossoms.leaf w) else leaf_at (names ++ name ∷ []) (defects ++ v ∷ []) x)
        ≡ (if name == x then Some (blossoms.leaf v) else (if n == x then Some (blossoms.leaf w) else leaf_at names defects x))
    by_cases rest true is =
        let parts = or_parts (n == name) (is_in names name) fresh in
        other (name == x) refl (λ h. both_ways (n == name) parts.0 (eq-eqb n name (eqb-true n x is ∙ sym (eqb-true name x h)))) is
      where
        other : (b : Bool) → (name == x) ≡ b → ((name == x) ≡ true → ⊥) → (n == x) ≡ true
            → (if n == x then Some (blossoms.leaf w) else leaf_at (names ++ name ∷ []) (defects ++ v ∷ []) x)
            ≡ (if name == x then Some (blossoms.leaf v) else (if n == x then Some (blossoms.leaf w) else leaf_at names defects x))
        other true was not_so here = absurd (not_so was)
        other false was not_so here =
            ap (λ b. if b then Some (blossoms.leaf w) else leaf_at (names ++ name ∷ []) (defects ++ v ∷ []) x) here
            ∙ (sym (ap (λ b. if b then Some (blossoms.leaf w) else leaf_at names defects x) here)
            ∙ sym (ap (λ b. if b then Some (blossoms.leaf v) else (if n == x then Some (blossoms.leaf w) else leaf_at names defects x)) was))
    by_cases rest false is =
        let parts = or_parts (n == name) (is_in names name) fresh in
        ap (λ b. if b then Some (blossoms.leaf w) else leaf_at (names ++ name ∷ []) (defects ++ v ∷ []) x) is
        ∙ (rest parts.1
        ∙ ap (λ o. if name == x then Some (blossoms.leaf v) else o) (sym (ap (λ b. if b then Some (blossoms.leaf w) else leaf_at names defects x) is)))

pub leaf_live : (names defects : List ℕ) (x : ℕ) → length names ≡ length defects → is_some (leaf_at names defects x) ≡ is_in names x
leaf_live [] defects x same = refl
leaf_live (n ∷ names) [] x same = absurd (omega arith)
leaf_live (n ∷ names) (w ∷ defects) x same = by_cases (n == x) (leaf_live names defects x (omega arith))
  where
    by_cases : (b : Bool) → is_some (leaf_at names defects x) ≡ is_in names x
        → is_some (if b then Some (blossoms.leaf w) else leaf_at names defects x) ≡ (b || is_in names x)
    by_cases true rest = refl
    by_cases false rest = rest

-- a leaf has no cycle
pub leaf_cycle : (names defects : List ℕ) (x : ℕ) → blossoms.cycle_of (leaf_at names defects x) ≡ []
leaf_cycle [] defects x = refl
leaf_cycle (n ∷ names) [] x = refl
leaf_cycle (n ∷ names) (w ∷ defects) x = by_cases (n == x) (leaf_cycle names defects x)
  where
    by_cases : (b : Bool) → blossoms.cycle_of (leaf_at names defects x) ≡ []
        → blossoms.cycle_of (if b then Some (blossoms.leaf w) else leaf_at names defects x) ≡ []
    by_cases true rest = refl
    by_cases false rest = rest

-- the store has the defect of each leaf
pub held_in : (at : ℕ → Option blossoms.Node) (names defects : List ℕ) → AreDistinct names
    → ((x : ℕ) → is_in names x ≡ true → at x ≡ leaf_at names defects x)
    → All (λ n. is_empty n.children ≡ true → defects_of n ≡ blossoms.defects_of (at n.name)) (leaves_by names defects)
held_in at [] defects distinct same = All-nil (λ n. is_empty n.children ≡ true → defects_of n ≡ blossoms.defects_of (at n.name))
held_in at (n ∷ names) [] distinct same = All-nil (λ m. is_empty m.children ≡ true → defects_of m ≡ blossoms.defects_of (at m.name))
held_in at (n ∷ names) (w ∷ defects) distinct same =
    All-cons (λ m. is_empty m.children ≡ true → defects_of m ≡ blossoms.defects_of (at m.name)) (leaf n w) (leaves_by names defects)
    (λ none. sym (ap blossoms.defects_of
    (same n (ap (λ b. b || is_in names n) (eq-eqb n n refl))
    ∙ ap (λ b. if b then Some (blossoms.leaf w) else leaf_at names defects n) (eq-eqb n n refl))))
    (held_in at names defects distinct.1
    (λ x within. same x (or_right (n == x) (is_in names x) within) ∙ past x within (n == x) refl))
  where
    past : (x : ℕ) → is_in names x ≡ true → (b : Bool) → (n == x) ≡ b
        → (if n == x then Some (blossoms.leaf w) else leaf_at names defects x) ≡ leaf_at names defects x
    past x within true is =
        absurd (both_ways (is_in names n) distinct.0 (ap (is_in names) (eqb-true n x is) ∙ within))
    past x within false is = ap (λ b. if b then Some (blossoms.leaf w) else leaf_at names defects x) is

-- a name that the store doesn't have is new
pub fresh_name : (done : List ℕ) (nodes : List Node) (store : List (Option blossoms.Node)) (m : MatchingValue) (name : ℕ)
    → IsStarted done nodes store m → blossoms.node_at store name ≡ None → is_in m.unmatched name ≡ false
fresh_name done nodes store m name s none =
    sym (leaf_live m.unmatched done name s.count) ∙ ap is_some (sym (s.entries name) ∙ none)

pub started_more : (done : List ℕ) (nodes new_nodes : List Node) (store new_store : List (Option blossoms.Node)) (m new_m : MatchingValue) (name v : ℕ)
    → IsStarted done nodes store m → blossoms.Adds store new_store name (blossoms.leaf v) → new_nodes ≡ nodes ++ leaf name v ∷ []
    → new_m ≡ record { matches = m.matches; unmatched = m.unmatched ++ name ∷ [] } → IsStarted (done ++ v ∷ []) new_nodes new_store new_m
started_more done nodes new_nodes store new_store m new_m name v s adds nodes_new m_new =
    subst (λ l. IsStarted (done ++ v ∷ []) new_nodes new_store l) (sym m_new)
    (record {
      nodes_are =
          nodes_new ∙ (ap (λ l. l ++ leaf name v ∷ []) s.nodes_are ∙ sym (leaves_pushed m.unmatched done name v s.count));
      count = length-append m.unmatched (name ∷ []) ∙ (ap (λ n. n + 1) s.count ∙ sym (length-append done (v ∷ [])));
      matches = s.matches;
      names = AreDistinct_push m.unmatched name s.names fresh;
      entries = λ x. entry x (name == x) refl ∙ sym (leaf_pushed m.unmatched done name v x s.count fresh);
    })
  where
    fresh : is_in m.unmatched name ≡ false
    fresh = fresh_name done nodes store m name s adds.fresh

    entry : (x : ℕ) → (b : Bool) → (name == x) ≡ b
        → blossoms.node_at new_store x ≡ (if name == x then Some (blossoms.leaf v) else leaf_at m.unmatched done x)
    entry x true is =
        ap (blossoms.node_at new_store) (sym (eqb-true name x is))
        ∙ (adds.added ∙ sym (ap (λ b. if b then Some (blossoms.leaf v) else leaf_at m.unmatched done x) is))
    entry x false is =
        adds.others x (λ e. both_ways (name == x) is (eq-eqb name x (sym e)))
        ∙ (s.entries x ∙ sym (ap (λ b. if b then Some (blossoms.leaf v) else leaf_at m.unmatched done x) is))

-- nothing is listed before the defects become nodes but these
pub fresh_listed : (done : List ℕ) (nodes : List Node) (store : List (Option blossoms.Node)) (m : MatchingValue) (name : ℕ)
    → IsStarted done nodes store m → blossoms.node_at store name ≡ None → is_in (listed_names m) name ≡ false
fresh_listed done nodes store m name s none =
    ap (λ l. is_in (m.unmatched ++ matched_names l) name) s.matches
    ∙ (is_in-append m.unmatched [] name ∙ (or-false (is_in m.unmatched name) ∙ fresh_name done nodes store m name s none))
