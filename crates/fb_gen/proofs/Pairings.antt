-- The levels of a plan by time: the steps of the loops that make them, and what the fusions are.
use Rattle.std.proofs.Common.{◌≡◌, ℕ, zero, suc, ◌+◌, ◌-◌, ◌<◌, ◌≤◌, List, [], ◌∷◌, ◌++◌, length, map, drop, get_or, refl, sym, ap, ◌∙◌, arith, add-one, append_assoc, append-nil, length-append}
use Rattle.std.specs.List.{range_with_len}
use Rattle.std.proofs.Math.Seq.{drop-cons}
use Rattle.std.proofs.lemmas.List.{map-append, length-map}
use Rattle.std.proofs.lemmas.List.FromFn.{length-range_with_len}
use Rattle.fb_graph.proofs.BuildSteps.{range_push}
use Rattle.fb_gen.specs.TimePlan.{first_level, fusions_of_level, level_above, fusions_from, time_fusions}
use Rattle.fb_gen.specs.declared.levels.Part.{Part}
use Rattle.fb_gen.specs.declared.levels.Fusion.{Fusion}

pub first_level_more : (n : ℕ) → first_level (n + 1) ≡ first_level n ++ record { seam = n; node = n } ∷ []
first_level_more n =
    ap first_level (add-one n)
    ∙ ap (map part) (range_push 0 n)
    ∙ map-append part (range_with_len 0 n) ((0 + n) ∷ [])
    ∙ ap (λ m. first_level n ++ part m ∷ []) (omega arith)
  where
    part : ℕ → Part
    part j = record { seam = j; node = j }

-- two more of a level's parts
drop_two : (level : List Part) (i : ℕ) (d : Part) → i + 1 < length level
    → drop i level ≡ get_or level i d ∷ get_or level (i + 1) d ∷ drop (i + 2) level
drop_two level i d less =
    let first : i < length level = omega arith in
    let next : suc (i + 1) ≡ i + 2 = omega arith in
    drop-cons level i d first
    ∙ ap (λ xs. get_or level i d ∷ xs) (ap (λ k. drop k level) (sym (add-one i)) ∙ drop-cons level (i + 1) d less
    ∙ ap (λ k. get_or level (i + 1) d ∷ drop k level) next)

pub fusions_of_two : (made : List Fusion) (level : List Part) (i : ℕ) (d : Part) → i + 1 < length level
    → made ++ fusions_of_level (drop i level)
    ≡ (made ++ record { left = (get_or level i d).node; right = (get_or level (i + 1) d).node; seam = (get_or level (i + 1) d).seam } ∷ [])
    ++ fusions_of_level (drop (i + 2) level)
fusions_of_two made level i d less =
    ap (λ xs. made ++ fusions_of_level xs) (drop_two level i d less)
    ∙ sym (append_assoc made (record { left = (get_or level i d).node; right = (get_or level (i + 1) d).node; seam = (get_or level (i + 1) d).seam } ∷ []) (fusions_of_level (drop (i + 2) level)))

pub above_of_two : (above level : List Part) (node i : ℕ) (d : Part) → i + 1 < length level
    → above ++ level_above node (drop i level)
    ≡ (above ++ record { seam = (get_or level i d).seam; node = node } ∷ []) ++ level_above (node + 1) (drop (i + 2) level)
above_of_two above level node i d less =
    ap (λ xs. above ++ level_above node xs) (drop_two level i d less)
    ∙ sym (append_assoc above (record { seam = (get_or level i d).seam; node = node } ∷ []) (level_above (node + 1) (drop (i + 2) level)))

-- at most one part is left
pub fusions_of_one : (level : List Part) → length level ≤ 1 → fusions_of_level level ≡ []
fusions_of_one [] few = refl
fusions_of_one (a ∷ []) few = refl
fusions_of_one (a ∷ b ∷ more) few = absurd (omega (arith, few))

pub above_of_one : (next : ℕ) (level : List Part) → length level ≤ 1 → level_above next level ≡ level
above_of_one next [] few = refl
above_of_one next (a ∷ []) few = refl
above_of_one next (a ∷ b ∷ more) few = absurd (omega (arith, few))

pub ruleset level_steps = (fusions_of_two, above_of_two, fusions_of_one, above_of_one)

pub length-level : (next : ℕ) (level : List Part)
    → length (fusions_of_level level) + length (level_above next level) ≡ length level
length-level next [] = refl
length-level next (a ∷ []) = refl
length-level next (a ∷ b ∷ more) = omega (arith, length-level (next + 1) more)

-- no level has fusions above one of at most one node
fusions_from_one : (levels next : ℕ) (level : List Part) → length level ≤ 1 → fusions_from levels next level ≡ []
fusions_from_one zero next level few = refl
fusions_from_one (suc levels) next level few =
    rw (fusions_of_one level few, above_of_one next level few)
    (fusions_from_one levels (next + 0) level few)

length-first_level : (units : ℕ) → length (first_level units) ≡ units
length-first_level units =
    length-map (range_with_len 0 units) (λ j. let part : Part = record { seam = j; node = j } in part) ∙ length-range_with_len 0 units

pub turn_begins : (units : ℕ) (made : List Fusion) (level : List Part) → made ≡ [] → level ≡ first_level units
    → (length made + length level ≤ units)
    × (fusions_from units units (first_level units) ≡ made ++ fusions_from (units - 0) (units + length made) level)
turn_begins units made level none first =
    let all : units ≡ units - 0 = omega arith in
    let next : units ≡ units + 0 = omega arith in
    rw (none, first) (
      omega (arith, length-first_level units),
      ap (λ n. fusions_from n units (first_level units)) all ∙ ap (λ n. fusions_from (units - 0) n (first_level units)) next,
    )

pub turn_ends : (units turn : ℕ) (made : List Fusion) (level : List Part) → length level ≤ 1
    → fusions_from units units (first_level units) ≡ made ++ fusions_from (units - turn) (units + length made) level
    → made ≡ time_fusions units
unfolding time_fusions
turn_ends units turn made level few so_far =
    sym (so_far ∙ ap (λ xs. made ++ xs) (fusions_from_one (units - turn) (units + length made) level few) ∙ append-nil made)

pub turns_over : (units turn : ℕ) (made : List Fusion) (level : List Part) → units ≤ turn
    → fusions_from units units (first_level units) ≡ made ++ fusions_from (units - turn) (units + length made) level
    → made ≡ time_fusions units
unfolding time_fusions
turns_over units turn made level past so_far =
    let none : units - turn ≡ 0 = omega arith in
    sym (so_far ∙ ap (λ n. made ++ fusions_from n (units + length made) level) none ∙ append-nil made)

pub turn_more : (units turn next : ℕ) (made more : List Fusion) (level above : List Part) → turn < units
    → next ≡ units + length made → more ≡ made ++ fusions_of_level level → above ≡ level_above next level
    → length made + length level ≤ units
    → fusions_from units units (first_level units) ≡ made ++ fusions_from (units - turn) (units + length made) level
    → (length more + length above ≤ units)
    × (fusions_from units units (first_level units) ≡ more ++ fusions_from (units - (turn + 1)) (units + length more) above)
turn_more units turn next made more level above less numbered grown raised few so_far =
    let here : List Fusion = fusions_of_level level in
    let one : units - turn ≡ suc (units - (turn + 1)) = omega arith in
    let count : units + length made + length here ≡ units + length (made ++ here) = omega (arith, length-append made here) in
    rw (grown, raised, numbered) (
      omega (arith, length-append made here, length-level (units + length made) level),
      so_far
          ∙ ap (λ n. made ++ fusions_from n (units + length made) level) one
          ∙ sym (append_assoc made here (fusions_from (units - (turn + 1)) (units + length made + length here) (level_above (units + length made) level)))
          ∙ ap (λ n. (made ++ here) ++ fusions_from (units - (turn + 1)) n (level_above (units + length made) level)) count,
    )
