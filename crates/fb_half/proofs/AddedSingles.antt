-- A part while the defects on its seam become nodes, one after another.
use Rattle.std.proofs.Common.{ℕ, ◌≡◌, ◌≢◌, ◌+◌, ◌==◌, ◌&&◌, ◌⊎◌, inl, inr, Bool, true, false, cond, if◌then◌else◌, List, [], ◌∷◌, ◌++◌, length, drop, Option, Some, None, is_some, option_map, refl, sym, ap, ◌∙◌, append_assoc, length-append}
use Rattle.std.specs.List.{find}
use Rattle.std.specs.Option.{option_or}
use Rattle.std.proofs.lemmas.Bool.{and_from, and_parts, both_ways, cases_Bool, eq-eqb, eqb-true, false_from_ne_true, or_cases, or_from, or_parts}
use Rattle.std.proofs.lemmas.List.Folds.{find-append, list_any-append}
use Rattle.fb_graph.specs.Parity.{is_in}
use Rattle.fb_graph.specs.Dual.{Node, cover_of, is_live, is_outer, leaf}
use Rattle.fb_graph.proofs.AppendedNodes.{outer_in}
use Rattle.fb_graph.proofs.Members.{AreDistinct_push, is_in-append, is_in_push}
use Rattle.fb_blossoms.specs.Nodes as blossoms
use Rattle.fb_half.specs.Beginnings.{leaves_by}
use Rattle.fb_half.specs.InternalBeginnings.{leaf_at}
use Rattle.fb_half.specs.InternalSeams.{AddsSingles}
use Rattle.fb_half.specs.Matchings.{MatchingValue, listed_names, matched_names}
use Rattle.fb_half.proofs.Begun.{leaf_live, leaf_pushed, leaves_pushed, live_leaves, no_leaf, uncovered}

abbrev pub Store : Type 0
Store = List (Option blossoms.Node)

-- what no element passes, none passes that asks for more
none_found : {X : Type 0} (weak strong : X → Bool) (xs : List X) → ((x : X) → strong x ≡ true → weak x ≡ true)
    → find weak xs ≡ None → find strong xs ≡ None
none_found weak strong [] more none = refl
none_found {X} weak strong (x ∷ xs) more none = step (weak x) (strong x) refl refl none (none_found weak strong xs more)
  where
    step : (a b : Bool) → weak x ≡ a → strong x ≡ b → cond a (Some x) (find weak xs) ≡ None
        → (find weak xs ≡ None → find strong xs ≡ None) → cond b (Some x) (find strong xs) ≡ None
    step true b is are h rest = absurd (let clash : Some x ≡ None = h in cc)
    step false true is are h rest = absurd (both_ways (weak x) is (more x are))
    step false false is are h rest = rest h

no_name : (o : Option Node) → option_map (λ n. n.name) o ≡ None → o ≡ None
no_name None h = refl
no_name (Some n) h = absurd (let clash : Some n.name ≡ None = h in cc)

-- a vertex under no node of either list is under none of both
pub uncovered_both : (nodes others : List Node) (v : ℕ) → cover_of nodes v ≡ None → cover_of others v ≡ None → cover_of (nodes ++ others) v ≡ None
uncovered_both nodes others v one two =
    ap (option_map (λ n. n.name))
    (find-append test nodes others
    ∙ (ap (λ o. option_or o (find test others)) (none_found (λ n. is_outer nodes n.name && is_in n.top.vertices v) test nodes (λ n h. left n h) (no_name _ one))
    ∙ none_found (λ n. is_outer others n.name && is_in n.top.vertices v) test others (λ n h. right n h) (no_name _ two)))
  where
    test : Node → Bool
    test n = is_outer (nodes ++ others) n.name && is_in n.top.vertices v

    left : (n : Node) → test n ≡ true → (is_outer nodes n.name && is_in n.top.vertices v) ≡ true
    left n h =
        let both = and_parts (is_outer (nodes ++ others) n.name) (is_in n.top.vertices v) h in
        and_from (is_outer nodes n.name) (is_in n.top.vertices v) (outer_in nodes others n.name both.0).0 both.1

    right : (n : Node) → test n ≡ true → (is_outer others n.name && is_in n.top.vertices v) ≡ true
    right n h =
        let both = and_parts (is_outer (nodes ++ others) n.name) (is_in n.top.vertices v) h in
        and_from (is_outer others n.name) (is_in n.top.vertices v) (outer_in nodes others n.name both.0).1 both.1

pub drop_front : {X : Type 0} (xs ys : List X) → drop (length xs) (xs ++ ys) ≡ ys
drop_front [] ys = refl
drop_front (x ∷ xs) ys = drop_front xs ys

module _ (names done : List ℕ) (nodes new_nodes : List Node) (store new_store : Store) (before after : MatchingValue)
    (s : AddsSingles names done nodes new_nodes store new_store before after) where
  pub still_uncovered : (v : ℕ) → cover_of nodes v ≡ None → is_in done v ≡ false → cover_of new_nodes v ≡ None
  still_uncovered v none other =
      ap (λ l. cover_of l v) s.nodes_are ∙ uncovered_both nodes (leaves_by names done) v none (uncovered names done v other)

  pub still_leafless : (v : ℕ) → ((x : ℕ) → blossoms.node_at store x ≢ Some (blossoms.leaf v)) → is_in done v ≡ false
      → (x : ℕ) → blossoms.node_at new_store x ≢ Some (blossoms.leaf v)
  still_leafless v none other x e = by (cases_Bool (is_in names x))
    where
      by : (is_in names x ≡ true) ⊎ (is_in names x ≡ false) → ⊥
      by (inl within) = no_leaf names done v x other (sym (s.added x within) ∙ e)
      by (inr out) = none x (sym (s.others x out) ∙ e)

  -- a name that the store doesn't have is none of these, and none of the old ones
  pub absent : (name : ℕ) → blossoms.node_at new_store name ≡ None → (is_in names name ≡ false) × (blossoms.node_at store name ≡ None)
  absent name none = (out, sym (s.others name out) ∙ none)
    where
      out : is_in names name ≡ false
      out =
          false_from_ne_true (is_in names name)
          (λ within.
          both_ways (is_some (leaf_at names done name)) (ap is_some (sym (s.added name within) ∙ none))
          (leaf_live names done name s.count ∙ within))

  pub still_live : ((name : ℕ) → blossoms.node_at store name ≡ None → is_live nodes name ≡ false)
      → (name : ℕ) → blossoms.node_at new_store name ≡ None → is_live new_nodes name ≡ false
  still_live free name none =
      let both = absent name none in
      ap (λ l. is_live l name) s.nodes_are
      ∙ (list_any-append (λ n. n.name == name) nodes (leaves_by names done)
      ∙ or_from (is_live nodes name) (is_live (leaves_by names done) name) (free name both.1)
      (live_leaves names done name s.count ∙ both.0))

  pub still_listed : ((name : ℕ) → blossoms.node_at store name ≡ None → is_in (listed_names before) name ≡ false)
      → (name : ℕ) → blossoms.node_at new_store name ≡ None → is_in (listed_names after) name ≡ false
  still_listed free name none =
      let both = absent name none in
      let old = or_parts (is_in before.unmatched name) (is_in (matched_names before.matches) name)
      (sym (is_in-append before.unmatched (matched_names before.matches) name) ∙ free name both.1) in
      ap (λ m. is_in (listed_names m) name) s.matching
      ∙ (is_in-append (before.unmatched ++ names) (matched_names before.matches) name
      ∙ or_from (is_in (before.unmatched ++ names) name) (is_in (matched_names before.matches) name)
      (is_in-append before.unmatched names name ∙ or_from (is_in before.unmatched name) (is_in names name) old.0 both.0) old.1)

  pub singles_added_more : (name v : ℕ) (more : List Node) (larger : Store) (later : MatchingValue) → blossoms.Adds new_store larger name (blossoms.leaf v)
      → more ≡ new_nodes ++ leaf name v ∷ [] → later ≡ record { matches = after.matches; unmatched = after.unmatched ++ name ∷ [] }
      → AddsSingles (names ++ name ∷ []) (done ++ v ∷ []) nodes more store larger before later
  singles_added_more name v more larger later adds nodes_new m_new = record {
    nodes_are =
        nodes_new
        ∙ (ap (λ l. l ++ leaf name v ∷ []) s.nodes_are
        ∙ (append_assoc nodes (leaves_by names done) (leaf name v ∷ []) ∙ ap (λ l. nodes ++ l) (sym (leaves_pushed names done name v s.count))));
    matching =
        m_new
        ∙ (ap (λ m. record { matches = m.matches; unmatched = m.unmatched ++ name ∷ [] }) s.matching
        ∙ ap (λ l. record { matches = before.matches; unmatched = l }) (append_assoc before.unmatched names (name ∷ [])));
    count = length-append names (name ∷ []) ∙ (ap (λ n. n + 1) s.count ∙ sym (length-append done (v ∷ [])));
    distinct = AreDistinct_push names name s.distinct new.0;
    fresh = λ x within. fresh x (or_cases (is_in names x) (name == x) (sym (is_in_push names name x) ∙ within));
    added = λ x within. added x within (cases_Bool (name == x));
    others = λ x out.
        let both = or_parts (is_in names x) (name == x) (sym (is_in_push names name x) ∙ out) in
        adds.others x (λ e. both_ways (name == x) both.1 (eq-eqb name x (sym e))) ∙ s.others x both.0;
  }
    where
      new : (is_in names name ≡ false) × (blossoms.node_at store name ≡ None)
      new = absent name adds.fresh

      fresh : (x : ℕ) → (is_in names x ≡ true) ⊎ ((name == x) ≡ true) → blossoms.node_at store x ≡ None
      fresh x (inl h) = s.fresh x h
      fresh x (inr e) = ap (blossoms.node_at store) (sym (eqb-true name x e)) ∙ new.1

      added : (x : ℕ) → is_in (names ++ name ∷ []) x ≡ true → ((name == x) ≡ true) ⊎ ((name == x) ≡ false)
          → blossoms.node_at larger x ≡ leaf_at (names ++ name ∷ []) (done ++ v ∷ []) x
      added x within (inl e) =
          ap (blossoms.node_at larger) (sym (eqb-true name x e))
          ∙ (adds.added
          ∙ (sym (ap (λ b. if b then Some (blossoms.leaf v) else leaf_at names done x) e) ∙ sym (leaf_pushed names done name v x s.count new.0)))
      added x within (inr other) =
          adds.others x (λ e. both_ways (name == x) other (eq-eqb name x (sym e)))
          ∙ (s.added x before_it
          ∙ (sym (ap (λ b. if b then Some (blossoms.leaf v) else leaf_at names done x) other) ∙ sym (leaf_pushed names done name v x s.count new.0)))
        where
          before_it : is_in names x ≡ true
          before_it = by (or_cases (is_in names x) (name == x) (sym (is_in_push names name x) ∙ within))
            where
              by : (is_in names x ≡ true) ⊎ ((name == x) ≡ true) → is_in names x ≡ true
              by (inl h) = h
              by (inr e) = absurd (both_ways (name == x) other e)

  -- the new name is the last of the unmatched ones
  pub names_more : (name : ℕ) (later : MatchingValue) → later ≡ record { matches = after.matches; unmatched = after.unmatched ++ name ∷ [] }
      → drop (length before.unmatched) later.unmatched ≡ names ++ name ∷ []
  names_more name later is =
      ap (λ m. drop (length before.unmatched) m.unmatched) is
      ∙ (ap (λ m. drop (length before.unmatched) (m.unmatched ++ name ∷ [])) s.matching
      ∙ (ap (drop (length before.unmatched)) (append_assoc before.unmatched names (name ∷ [])) ∙ drop_front before.unmatched (names ++ name ∷ [])))
