-- An element taken out of a list, with the last one put in its place.
use Rattle.std.proofs.Common.{ℕ, ◌≡◌, ◌≢◌, ◌+◌, ◌-◌, ◌<◌, List, length, get_or, arith, sym, ap, ◌∙◌, map}
use Rattle.std.proofs.Math.ListN.{set}
use Rattle.std.proofs.lemmas.List.{get_or-take, get_or-set_same, get_or-set_other, get_or_default, get_or-map, map-set, take-map, length-map}
use Rattle.std.specs.List.{swap_remove}
use Rattle.fb_regions.proofs.Stored.{length-swapped}

module _ {X : Type 0} where
  pub others_stay : (xs : List X) (i j : ℕ) (r d : X) → i < length xs → j ≢ i → j + 1 < length xs
      → get_or (swap_remove xs i r) j d ≡ get_or xs j d
  others_stay xs i j r d less other within = let small : j < length xs - 1 = omega arith in rw (get_or-take, get_or-set_other)

  last_there : (xs : List X) (i : ℕ) (r d : X) → i + 1 < length xs
      → get_or (swap_remove xs i r) i d ≡ get_or xs (length xs - 1) r
  last_there xs i r d less =
      let small : i < length xs - 1 = omega arith in
      let within : i < length xs = omega arith in
      rw (get_or-take, get_or-set_same)

  pub last_put : (xs : List X) (i : ℕ) (r d : X) → i + 1 < length xs
      → get_or (swap_remove xs i r) i d ≡ get_or xs (length (swap_remove xs i r)) d
  last_put xs i r d less =
      let short : length (swap_remove xs i r) + 1 ≡ length xs = length-swapped xs i r (omega arith) in
      let last : length xs - 1 ≡ length (swap_remove xs i r) = omega (arith, short) in
      last_there xs i r d less ∙ (ap (λ k. get_or xs k r) last ∙ get_or_default xs (length (swap_remove xs i r)) r d (omega (arith, short)))

  -- where the element came from that was put in the place
  pub moved_from : (xs : List X) (i : ℕ) (r moved : X) → i < length xs → i < length (swap_remove xs i r)
      → moved ≡ get_or (swap_remove xs i r) i moved → moved ≡ get_or xs (length (swap_remove xs i r)) moved
  moved_from xs i r moved less within is =
      let short = length-swapped xs i r less in is ∙ last_put xs i r moved (omega (arith, short))

  pub moved_below : (xs : List X) (i : ℕ) (r : X) → i < length xs → length (swap_remove xs i r) < length xs
  moved_below xs i r less = let short = length-swapped xs i r less in omega (arith, short)

  pub same_read : (xs : List X) (i : ℕ) (x y : X) → i < length xs → x ≡ get_or xs i x → y ≡ get_or xs i y → x ≡ y
  same_read xs i x y less is was = is ∙ (get_or_default xs i x y less ∙ sym was)

pub swap_removed : {X : Type 0} (f : X → ℕ) (xs : List X) (i : ℕ) (x : X) (y : ℕ) → i < length xs
    → swap_remove (map f xs) i y ≡ map f (swap_remove xs i x)
swap_removed f xs i x y less =
    let last : length xs - 1 < length xs = omega arith in
    rw (length-map xs f, get_or-map f xs (length xs - 1) x y last, ← map-set f xs i (get_or xs (length xs - 1) x), take-map f (length xs - 1) (set xs i (get_or xs (length xs - 1) x)))
