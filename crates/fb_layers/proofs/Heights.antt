-- How many layers there are among one more vertex.
use Rattle.std.proofs.Common.{ℕ, ◌+◌, ◌<◌, ◌≤◌, ◌≡◌, max, List, length, take, get_or, refl, ap, ◌∙◌}
use Rattle.std.specs.Prelude.{Option}
use Rattle.std.proofs.lemmas.List.{take_all, take_more}
use Rattle.std.proofs.lemmas.List.Recursion.{max_push}
use Rattle.fb_layers.specs.Layers.{depth_of, height_of}

pub height_more : (layers : List (Option ℕ)) (i : ℕ) (d : Option ℕ) → i < length layers
    → height_of (take (i + 1) layers) ≡ max (height_of (take i layers)) (depth_of (get_or layers i d))
height_more layers i d less =
    ap height_of (take_more layers i d less)
    ∙ max_push height_of depth_of refl (λ x xs. refl) (take i layers) (get_or layers i d)

pub height_all : (layers : List (Option ℕ)) (i : ℕ) → length layers ≤ i → height_of (take i layers) ≡ height_of layers
height_all layers i past = ap height_of (take_all i layers past)

pub ruleset heights = (height_more, height_all)
