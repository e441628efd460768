-- The roles that several trees give.
use Rattle.std.proofs.Common.{ℕ, ◌≡◌, Bool, true, false, List, Option, refl, ap, ◌∙◌, if◌then◌else◌}
use Rattle.std.proofs.lemmas.Bool.{false≢true}
use Rattle.fb_graph.specs.Parity.{is_in}
use Rattle.fb_regions.specs.declared.roles.Role.TheVariants.{Plus, Minus, Out}
use Rattle.fb_regions.specs.Paces.{grows, shrinks}
use Rattle.fb_trees.specs.Branches.{Grown}
use Rattle.fb_trees.specs.Forests.{all_minus, all_plus, role_among, trees_in}

module _ (forest : List (Option Grown)) (name : ℕ) where
  abbrev InPlus : Bool
  InPlus = is_in (all_plus (trees_in forest)) name

  abbrev InMinus : Bool
  InMinus = is_in (all_minus (trees_in forest)) name

  pub plus_among : grows (role_among forest name) ≡ true → is_in (all_plus (trees_in forest)) name ≡ true
  plus_among h = by InPlus InMinus h
    where
      by : (plus minus : Bool) → grows (if plus then Plus else (if minus then Minus else Out)) ≡ true → plus ≡ true
      by true minus h = refl
      by false true h = h
      by false false h = h

  pub minus_among : shrinks (role_among forest name) ≡ true → is_in (all_minus (trees_in forest)) name ≡ true
  minus_among h = by InPlus InMinus h
    where
      by : (plus minus : Bool) → shrinks (if plus then Plus else (if minus then Minus else Out)) ≡ true → minus ≡ true
      by true minus h = absurd (false≢true h)
      by false true h = refl
      by false false h = h

  pub minus_not_plus_among : shrinks (role_among forest name) ≡ true → is_in (all_plus (trees_in forest)) name ≡ false
  minus_not_plus_among h = by InPlus InMinus h
    where
      by : (plus minus : Bool) → shrinks (if plus then Plus else (if minus then Minus else Out)) ≡ true → plus ≡ false
      by true minus h = absurd (false≢true h)
      by false minus h = refl

  pub role_plus_among : is_in (all_plus (trees_in forest)) name ≡ true → grows (role_among forest name) ≡ true
  role_plus_among plus = ap (λ b. grows (if b then Plus else (if InMinus then Minus else Out))) plus

  pub role_minus_among : is_in (all_plus (trees_in forest)) name ≡ false → is_in (all_minus (trees_in forest)) name ≡ true
      → role_among forest name ≡ Minus
  role_minus_among out minus =
      ap (λ b. if b then Plus else (if InMinus then Minus else Out)) out ∙ ap (λ b. if b then Minus else Out) minus
