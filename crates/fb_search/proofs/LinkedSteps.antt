-- The steps of a cycle whose links connect its nodes in the dual state are linked in the store of blossoms.
use Rattle.std.proofs.Common.{ℕ, zero, suc, ◌≡◌, ◌==◌, ◌+◌, ◌<◌, ◌&&◌, ◌||◌, ◌⊎◌, inl, inr, Bool, true, false, List, [], ◌∷◌, ◌++◌, map, length, get_or, All, Option, Some, IsSome, refl, sym, ap, ◌∙◌, subst, arith, if◌then◌else◌}
use Rattle.std.proofs.lemmas.Bool.{cases_Bool, eqb-false, eqb-true}
use Rattle.fb_graph.specs.Parity.{is_in}
use Rattle.fb_graph.specs.Problem.{Problem}
use Rattle.fb_graph.specs.Laws.{Link}
use Rattle.fb_graph.specs.Dual.{Node, cover_of, leaves}
use Rattle.fb_graph.specs.Nests.{IsNest}
use Rattle.fb_links.specs.declared.cycle.CycleStep.{CycleStep}
use Rattle.fb_links.specs.declared.walk.Step.{Step}
use Rattle.fb_links.specs.Table.{is_live, walk_at}
use Rattle.fb_blossoms.specs.Links.{joins, next_place, step_at}
use Rattle.fb_blossoms.specs.Links as blossoms_links
use Rattle.fb_blossoms.specs.Nodes.{IsNested, defects_at}
use Rattle.fb_blossoms.specs.Nodes as blossoms
use Rattle.fb_laws.specs.TreeCycles.{AreLinked}
use Rattle.fb_laws.specs.Trees.{Connects}
use Rattle.fb_laws.specs.Works.{AreMatchedLinks}
use Rattle.fb_laws.specs.Opening.{EndsAtDefects}
use Rattle.fb_laws.proofs.HeldDefects.{covered_is_held}
use Rattle.fb_half.specs.Parts.{AreAgreed}
use Rattle.fb_half.specs.Translations.{link_by}
use Rattle.fb_search.proofs.Agreed.{nodes_of}
use Rattle.fb_search.proofs.EnteredChildren.{are_held}
use Rattle.fb_graph.proofs.Among.{All_unmapped}

-- each step's link connects its node and the next one
chained : (nodes : List Node) (table : ℕ → Link) (s : CycleStep) (ss : List CycleStep) (last : ℕ)
    → AreLinked nodes s.node (nodes_of ss ++ last ∷ []) (map table (map (λ t. t.link) (s ∷ ss)))
    → (k : ℕ) → k < length (s ∷ ss)
    → Connects nodes (table (step_at (s ∷ ss) k).link) (step_at (s ∷ ss) k).node (get_or (nodes_of ss ++ last ∷ []) k 0)
chained nodes table s [] last linked zero less = linked.0
chained nodes table s [] last linked (suc k) less = absurd (omega (arith, less))
chained nodes table s (t ∷ ts) last linked zero less = linked.0
chained nodes table s (t ∷ ts) last linked (suc k) less = chained nodes table t ts last linked.1 k (omega (arith, less))

next_within : (ss : List CycleStep) (last k : ℕ) → k < length ss
    → get_or (nodes_of ss ++ last ∷ []) k 0 ≡ (step_at ss k).node
next_within [] last k less = absurd (omega (arith, less))
next_within (s ∷ ss) last zero less = refl
next_within (s ∷ ss) last (suc k) less = next_within ss last k (omega (arith, less))

next_at_end : (ss : List CycleStep) (last k : ℕ) → k ≡ length ss → get_or (nodes_of ss ++ last ∷ []) k 0 ≡ last
next_at_end [] last zero same = refl
next_at_end [] last (suc k) same = absurd (omega (arith, same))
next_at_end (s ∷ ss) last zero same = absurd (omega (arith, same))
next_at_end (s ∷ ss) last (suc k) same = next_at_end ss last k (omega (arith, same))

-- the next step's node, after the last one that of the first
next_node : (s : CycleStep) (ss : List CycleStep) (k : ℕ) → k < length (s ∷ ss)
    → get_or (nodes_of ss ++ s.node ∷ []) k 0 ≡ (step_at (s ∷ ss) (next_place (length (s ∷ ss)) k)).node
next_node s ss k less = by (cases_Bool (k + 1 == length (s ∷ ss)))
  where
    by : ((k + 1 == length (s ∷ ss)) ≡ true) ⊎ ((k + 1 == length (s ∷ ss)) ≡ false)
        → get_or (nodes_of ss ++ s.node ∷ []) k 0 ≡ (step_at (s ∷ ss) (next_place (length (s ∷ ss)) k)).node
    by (inl end) =
        let same : k + 1 ≡ length (s ∷ ss) = eqb-true (k + 1) (length (s ∷ ss)) end in
        next_at_end ss s.node k (omega (arith, same))
        ∙ sym (ap (λ b. (step_at (s ∷ ss) (if b then 0 else k + 1)).node) end)
    by (inr on) =
        let other : k + 1 ≡ length (s ∷ ss) → ⊥ = eqb-false (k + 1) (length (s ∷ ss)) on in
        let one : suc k ≡ k + 1 = omega arith in
        next_within ss s.node k (omega (arith, other, less))
        ∙ (ap (λ j. (step_at (s ∷ ss) j).node) one
        ∙ sym (ap (λ b. (step_at (s ∷ ss) (if b then 0 else k + 1)).node) on))

either_way : (a b c d : Bool) → ((a ≡ true) × (b ≡ true)) ⊎ ((c ≡ true) × (d ≡ true)) → ((a && b) || (c && d)) ≡ true
either_way true true c d (inl h) = refl
either_way true false c d (inl h) = cc
either_way false b c d (inl h) = cc
either_way true true c d (inr h) = refl
either_way true false true true (inr h) = refl
either_way true false true false (inr h) = cc
either_way true false false d (inr h) = cc
either_way false b true true (inr h) = refl
either_way false b true false (inr h) = cc
either_way false b false d (inr h) = cc

module _ (p : Problem) (nodes : List Node) (store : List (Option blossoms.Node)) (links : List (Option (List Step)))
    (nest : IsNest p nodes) (agreed : AreAgreed nodes store) (nested : IsNested store) where
  -- an outer node over the end of a link holds it
  end_held : (x d : ℕ) → (p.is_real d ≡ true → is_in (leaves nodes) d ≡ true) → cover_of nodes d ≡ Some x
      → is_in (defects_at store x) d ≡ true
  end_held x d own cover =
      (covered_is_held p nodes (defects_at store) x d nest (are_held nodes store agreed nested)
      (own (nest.dual.real d (subst IsSome (sym cover) refl))) cover).2

  joined_by : (id x y : ℕ) → EndsAtDefects p (leaves nodes) (link_by links id) → Connects nodes (link_by links id) x y
      → joins (walk_at links id) (defects_at store x) (defects_at store y) ≡ true
  joined_by id x y own connects =
      either_way (is_in (defects_at store x) (link_by links id).from) (is_in (defects_at store y) (link_by links id).to)
      (is_in (defects_at store y) (link_by links id).from) (is_in (defects_at store x) (link_by links id).to)
      (by connects)
    where
      by : Connects nodes (link_by links id) x y
          → ((is_in (defects_at store x) (link_by links id).from ≡ true)
          × (is_in (defects_at store y) (link_by links id).to ≡ true))
          ⊎ ((is_in (defects_at store y) (link_by links id).from ≡ true)
          × (is_in (defects_at store x) (link_by links id).to ≡ true))
      by (inl (from, to)) = inl (
        end_held x (link_by links id).from own.0 from,
        end_held y (link_by links id).to own.1 to,
      )
      by (inr (to, from)) = inr (
        end_held y (link_by links id).from own.0 from,
        end_held x (link_by links id).to own.1 to,
      )

  pub steps_linked : (first : ℕ) (names : List ℕ) (steps : List CycleStep) → nodes_of steps ≡ first ∷ names
      → AreLinked nodes first (names ++ first ∷ []) (map (link_by links) (map (λ s. s.link) steps))
      → All (λ id. is_live links id ≡ true) (map (λ s. s.link) steps)
      → AreMatchedLinks p nodes (map (link_by links) (map (λ s. s.link) steps))
      → blossoms_links.AreLinked links store steps
  steps_linked first names [] named linked live tight k less = absurd (omega (arith, less))
  steps_linked first names (s ∷ ss) named linked live tight k less = (
    All_unmapped (λ id. is_live links id ≡ true) (λ t. t.link) (s ∷ ss) live k none less,
    joined_by (step_at (s ∷ ss) k).link (step_at (s ∷ ss) k).node
        (step_at (s ∷ ss) (next_place (length (s ∷ ss)) k)).node
        (All_unmapped (λ id. EndsAtDefects p (leaves nodes) (link_by links id)) (λ t. t.link) (s ∷ ss)
        (All_unmapped (EndsAtDefects p (leaves nodes)) (link_by links) (map (λ t. t.link) (s ∷ ss)) tight.at_defects) k none less)
        (subst (Connects nodes (link_by links (step_at (s ∷ ss) k).link) (step_at (s ∷ ss) k).node)
        (next_node s ss k less)
        (chained nodes (link_by links) s ss s.node turned k less)),
  )
    where
      none : CycleStep
      none = record { node = 0; link = 0 }

      head_of : List ℕ → ℕ
      head_of [] = 0
      head_of (x ∷ xs) = x

      tail_of : List ℕ → List ℕ
      tail_of [] = []
      tail_of (x ∷ xs) = xs

      turned : AreLinked nodes s.node (nodes_of ss ++ s.node ∷ []) (map (link_by links) (map (λ t. t.link) (s ∷ ss)))
      turned =
          subst (λ n. AreLinked nodes n (nodes_of ss ++ n ∷ []) (map (link_by links) (map (λ t. t.link) (s ∷ ss))))
          (sym (ap head_of named))
          (subst (λ ns. AreLinked nodes first (ns ++ first ∷ []) (map (link_by links) (map (λ t. t.link) (s ∷ ss))))
          (sym (ap tail_of named))
          linked)
