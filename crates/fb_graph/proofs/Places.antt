-- The node of a name among others.
use Rattle.std.proofs.Common.{ℕ, ◌≡◌, ◌==◌, ◌||◌, inl, inr, not, cond, Bool, true, false, List, [], ◌∷◌, ◌++◌, map, All, refl, sym, ap, ◌∙◌, if◌then◌else◌}
use Rattle.std.proofs.lemmas.Bool.{false≢true, false_from_ne_true, eqb-true, eqb-false}
use Rattle.std.proofs.lemmas.List.Concat.{flat_map-append}
use Rattle.std.proofs.lemmas.List.Elements.{All-cons, All-head, All-tail}
use Rattle.fb_graph.specs.Parity.{is_in}
use Rattle.fb_graph.specs.Certificate.{AreDistinct}
use Rattle.fb_graph.specs.Dual.{Node, AreApart, all_cuts, layers_of, leaves, defects_of, change_at, is_live}
use Rattle.fb_graph.specs.Nests.{AreJoinedLater}
use Rattle.fb_graph.specs.Moves.{split_nodes}
use Rattle.fb_graph.proofs.Among.{IsAmong, All_among, among_All, live_among, other_name}
use Rattle.fb_graph.proofs.NestParts.{names_live}

-- what comes before the node and after it
pub record IsPlaced (nodes : List Node) (name : ℕ) : Type 0 where
  pub before : List Node
  pub node : Node
  pub after : List Node
  pub named : node.name ≡ name
  pub whole : nodes ≡ before ++ node ∷ after
  pub removed : split_nodes name nodes ≡ before ++ after
  pub changed : (f : Node → Node) → change_at name f nodes ≡ before ++ f node ∷ after

others_kept : (name : ℕ) (ns : List Node) → ((m : Node) → IsAmong m ns → (m.name == name) ≡ false) → split_nodes name ns ≡ ns
others_kept name [] h = refl
others_kept name (n ∷ ns) h =
    ap (λ b. cond (not b) (n ∷ split_nodes name ns) (split_nodes name ns)) (h n (inl refl)) ∙ ap (λ l. n ∷ l) (others_kept name ns (λ m a. h m (inr a)))

others_unchanged : (name : ℕ) (f : Node → Node) (ns : List Node) → ((m : Node) → IsAmong m ns → (m.name == name) ≡ false) → change_at name f ns ≡ ns
others_unchanged name f [] h = refl
others_unchanged name f (n ∷ ns) h =
    ap (λ b. (if b then f n else n) ∷ change_at name f ns) (h n (inl refl)) ∙ ap (λ l. n ∷ l) (others_unchanged name f ns (λ m a. h m (inr a)))

pub placed : (nodes : List Node) (name : ℕ) → AreDistinct (map (λ n. n.name) nodes) → is_live nodes name ≡ true → IsPlaced nodes name
placed [] name distinct live = absurd (false≢true live)
placed (n ∷ ns) name distinct live = step (n.name == name) refl live (placed ns name distinct.1)
  where
    step : (b : Bool) → (n.name == name) ≡ b → is_live (n ∷ ns) name ≡ true → (is_live ns name ≡ true → IsPlaced ns name) → IsPlaced (n ∷ ns) name
    step true e h rest =
        let same : n.name ≡ name = eqb-true n.name name e in
        let others : (m : Node) → IsAmong m ns → (m.name == name) ≡ false =
        λ m a. false_from_ne_true (m.name == name) (λ f. other_name n ns distinct m a (same ∙ sym (eqb-true m.name name f))) in
        record {
          before = [];
          node = n;
          after = ns;
          named = same;
          whole = refl;
          removed = ap (λ b. cond (not b) (n ∷ split_nodes name ns) (split_nodes name ns)) e ∙ others_kept name ns others;
          changed = λ f. ap (λ b. (if b then f n else n) ∷ change_at name f ns) e ∙ ap (λ l. f n ∷ l) (others_unchanged name f ns others);
        }
    step false e h rest =
        let is : IsPlaced ns name = rest (sym (ap (λ b. b || is_live ns name) e) ∙ h) in
        record {
          before = n ∷ is.before;
          node = is.node;
          after = is.after;
          named = is.named;
          whole = ap (λ l. n ∷ l) is.whole;
          removed = ap (λ b. cond (not b) (n ∷ split_nodes name ns) (split_nodes name ns)) e ∙ ap (λ l. n ∷ l) is.removed;
          changed = λ f. ap (λ b. (if b then f n else n) ∷ change_at name f ns) e ∙ ap (λ l. n ∷ l) (is.changed f);
        }

pub cuts_at : (before after : List Node) (n : Node) → all_cuts (before ++ n ∷ after) ≡ all_cuts before ++ (layers_of n ++ all_cuts after)
cuts_at before after n = flat_map-append layers_of before (n ∷ after)

pub leaves_at : (before after : List Node) (n : Node) → leaves (before ++ n ∷ after) ≡ leaves before ++ (defects_of n ++ leaves after)
leaves_at before after n = flat_map-append defects_of before (n ∷ after)

pub among_split : (name : ℕ) (ns : List Node) (m : Node) → IsAmong m (split_nodes name ns) → IsAmong m ns × (m.name ≡ name → ⊥)
among_split name [] m a = absurd a
among_split name (n ∷ ns) m a = step (n.name == name) refl a (among_split name ns m)
  where
    step : (b : Bool) → (n.name == name) ≡ b → IsAmong m (cond (not b) (n ∷ split_nodes name ns) (split_nodes name ns))
        → (IsAmong m (split_nodes name ns) → IsAmong m ns × (m.name ≡ name → ⊥)) → IsAmong m (n ∷ ns) × (m.name ≡ name → ⊥)
    step true e h rest = let (b, other) = rest h in (inr b, other)
    step false e (inl f) rest = (inl f, λ same. eqb-false n.name name e (ap (λ x. x.name) f ∙ same))
    step false e (inr h) rest = let (b, other) = rest h in (inr b, other)

pub split_among : (name : ℕ) (ns : List Node) (m : Node) → IsAmong m ns → (m.name ≡ name → ⊥) → IsAmong m (split_nodes name ns)
split_among name [] m a other = absurd a
split_among name (n ∷ ns) m a other = step (n.name == name) refl a (λ b. split_among name ns m b other)
  where
    step : (b : Bool) → (n.name == name) ≡ b → IsAmong m (n ∷ ns) → (IsAmong m ns → IsAmong m (split_nodes name ns))
        → IsAmong m (cond (not b) (n ∷ split_nodes name ns) (split_nodes name ns))
    step true e (inl f) rest = absurd (other (ap (λ x. x.name) (sym f) ∙ eqb-true n.name name e))
    step true e (inr b) rest = rest b
    step false e (inl f) rest = inl f
    step false e (inr b) rest = inr (rest b)

pub split_All : (P : Node → Type 0) (name : ℕ) (ns : List Node) → All P ns → All P (split_nodes name ns)
split_All P name ns h = among_All P (split_nodes name ns) (λ m a. All_among P ns h m (among_split name ns m a).0)

pub split_names : (name : ℕ) (ns : List Node) → AreDistinct (map (λ n. n.name) ns) → AreDistinct (map (λ n. n.name) (split_nodes name ns))
split_names name [] distinct = tt
split_names name (n ∷ ns) distinct = step (not (n.name == name)) (split_names name ns distinct.1)
  where
    step : (b : Bool) → AreDistinct (map (λ x. x.name) (split_nodes name ns)) → AreDistinct (map (λ x. x.name) (cond b (n ∷ split_nodes name ns) (split_nodes name ns)))
    step true rest = (
      false_from_ne_true (is_in (map (λ x. x.name) (split_nodes name ns)) n.name)
          (λ h.
          let (m, a, e) = live_among (split_nodes name ns) n.name (sym (names_live (split_nodes name ns) n.name) ∙ h) in
          other_name n ns distinct m (among_split name ns m a).0 (sym e)),
      rest,
    )
    step false rest = rest

pub split_joined : (name : ℕ) (ns : List Node) → AreJoinedLater ns → AreJoinedLater (split_nodes name ns)
split_joined name [] joined = tt
split_joined name (n ∷ ns) joined = step (not (n.name == name)) (split_joined name ns joined.2)
  where
    step : (b : Bool) → AreJoinedLater (split_nodes name ns) → AreJoinedLater (cond b (n ∷ split_nodes name ns) (split_nodes name ns))
    step true rest = (
      All-cons (λ m. is_in n.children m.name ≡ false) n (split_nodes name ns) (All-head (λ m. is_in n.children m.name ≡ false) n ns joined.0)
          (split_All (λ m. is_in n.children m.name ≡ false) name ns (All-tail (λ m. is_in n.children m.name ≡ false) n ns joined.0)),
      split_All (λ m. AreApart n.children m.children) name ns joined.1,
      rest,
    )
    step false rest = rest
