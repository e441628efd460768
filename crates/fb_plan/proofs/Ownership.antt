-- The owners of the vertices, one after another.
use Rattle.std.proofs.Common.{ℕ, ◌+◌, ◌<◌, ◌≤◌, ◌≡◌, Bool, true, false, cond, List, [], ◌∷◌, ◌++◌, length, map, get_or, Option, Some, None, is_some, refl, sym, ap, ◌∙◌, inl, inr, arith}
use Rattle.std.specs.List.{range_with_len}
use Rattle.std.proofs.lemmas.Bool.{and_left, both_ways, cases_lt, le-ltb}
use Rattle.std.proofs.lemmas.List.{get_or_past}
use Rattle.std.proofs.lemmas.List.FromFn.{get_or-map-range_with_len, length-map-range_with_len, map-range_with_len_more}
use Rattle.fb_graph.specs.Limits.{DecodingGraph, is_real_in}
use Rattle.fb_plan.specs.Plans.{IsPlan, IsTree, are_unrelated, owner_of, real_owner, single_of}
use Rattle.fb_plan.proofs.Tables.{one_unit, tree_with_owners}
use Rattle.fb_plan.specs.InternalLayout.{given_owner, tree_of}

pub one_more : (g : DecodingGraph) (n v : ℕ)
    → map (real_owner g n) (range_with_len 0 (v + 1)) ≡ map (real_owner g n) (range_with_len 0 v) ++ real_owner g n v ∷ []
one_more g n v = map-range_with_len_more (real_owner g n) 0 v v (omega arith)

pub given_more : (g : DecodingGraph) (nodes : List ℕ) (v : ℕ)
    → map (given_owner g nodes) (range_with_len 0 (v + 1))
    ≡ map (given_owner g nodes) (range_with_len 0 v) ++ given_owner g nodes v ∷ []
given_more g nodes v = map-range_with_len_more (given_owner g nodes) 0 v v (omega arith)

-- the owner of a vertex where owners are told by a function, which gives none beyond the vertices
pub owner_told : (f : ℕ → Option ℕ) (n v : ℕ) → (n ≤ v → f v ≡ None) → get_or (map f (range_with_len 0 n)) v None ≡ f v
owner_told f n v beyond =
    elim (cases_lt v n) [
      | inl less ↦ get_or-map-range_with_len f 0 n v v None less (omega arith)
      | inr above ↦ get_or_past (map f (range_with_len 0 n)) v None (omega (arith, above, length-map-range_with_len f 0 n)) ∙ sym (beyond above)
    ]

pub unreal_beyond : (g : DecodingGraph) (v : ℕ) → g.vertices ≤ v → is_real_in g v ≡ false
unreal_beyond g v above = and_left _ _ (le-ltb v g.vertices above)

-- the owner of a vertex in the plan of one unit
pub single_owner : (g : DecodingGraph) (v : ℕ) → owner_of (single_of g) v ≡ real_owner g 0 v
single_owner g v =
    owner_told (real_owner g 0) g.vertices v
    (λ above. ap (λ b. cond b (Some 0) None) (unreal_beyond g v above))

zero_if : (b : Bool) (n : ℕ) → cond b (Some 0) None ≡ Some n → n ≡ 0
zero_if true n e = cc
zero_if false n e = absurd (both_ways false refl (ap is_some e))

pub single_owner_below : (g : DecodingGraph) (v n : ℕ)
    → get_or (map (real_owner g 0) (range_with_len 0 g.vertices)) v None ≡ Some n → n < 1
single_owner_below g v n is = omega (arith, zero_if (is_real_in g v) n (sym (single_owner g v) ∙ is))

pub single_is_plan : (g : DecodingGraph) → IsPlan g (single_of g)
single_is_plan g = record {
  tree = tree;
  count = length-map-range_with_len (real_owner g 0) 0 g.vertices;
  owned = λ v. ap is_some (single_owner g v) ∙ some_if (is_real_in g v);
  owners = λ v n is. omega (arith, single_owner_below g v n is);
  edges = λ k d less. related (owner_of (single_of g) (get_or g.edges k d).first) (owner_of (single_of g) (get_or g.edges k d).second)
      (is_real_in g (get_or g.edges k d).first) (is_real_in g (get_or g.edges k d).second) (single_owner g _) (single_owner g _);
}
  where
    tree : IsTree (single_of g)
    tree = tree_with_owners (tree_of 1 []) (single_of g).owners one_unit

    some_if : (b : Bool) → is_some {T = ℕ} (cond b (Some 0) None) ≡ b
    some_if true = refl
    some_if false = refl

    related : (first second : Option ℕ) (a b : Bool) → first ≡ cond a (Some 0) None → second ≡ cond b (Some 0) None
        → are_unrelated (single_of g) first second ≡ false
    related first second true true e f = rw (e, f) refl
    related first second true false e f = rw (e, f) refl
    related first second false b e f = rw e refl

pub single_count : (g : DecodingGraph) → length (single_of g).owners ≡ g.vertices
single_count g = length-map-range_with_len (real_owner g 0) 0 g.vertices

pub single_from : (g : DecodingGraph) (joins : List (ℕ × ℕ)) (owners : List (Option ℕ)) → joins ≡ []
    → owners ≡ (single_of g).owners → record { units = 1; joins = joins; owners = owners } ≡ single_of g
single_from g joins owners none same = rw (none, same) refl
