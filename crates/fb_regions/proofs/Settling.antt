-- All nodes written down at a time, one after another.
use Rattle.std.proofs.Common.{ℕ, ◌≡◌, ◌+◌, ◌<◌, List, ◌++◌, length, set, take, drop, get_or, ap, ◌∙◌, arith}
use Rattle.std.proofs.lemmas.List.{get_or-set_same, get_or_default, set-set}
use Rattle.std.proofs.lemmas.List.Edits.{map_over_more}
use Rattle.fb_regions.specs.declared.region.Region.{Region}
use Rattle.fb_regions.specs.InternalClock.{all_at, now_at}

-- one more is written down, at that time and then as one whose pace began at 0
pub settled_more : (clock : ℕ) (all done : List Region) (i : ℕ) (d e new : Region) → i < length all → length done ≡ length all
    → done ≡ all_at clock (take i all) ++ drop i all → new ≡ record (now_at clock (get_or done i d)) { since = clock }
    → set (set done i new) i (record (get_or (set done i new) i e) { since = 0 }) ≡ all_at clock (take (i + 1) all) ++ drop (i + 1) all
settled_more clock all done i d e new less same so_far is =
    let old = get_or done i d in
    let rest : record (get_or (set done i new) i e) { since = 0 } ≡ now_at clock old =
    ap (λ (y : Region). record y { since = 0 }) (get_or-set_same done i new e (omega (arith, less, same)) ∙ is) in
    set-set done i new _
    ∙ (ap (set done i) rest ∙ map_over_more (now_at clock) all done i old less so_far (get_or_default done i d old (omega (arith, less, same))))
