use Rattle.std.proofs.Common.{ℕ, ◌≡◌, ◌-◌, ◌/◌, ◌%◌, ◌∙◌, ◌<◌, max, min, ap, arith}
use Rattle.fb_obstacles.specs.InternalSingles.{IsShare}
use Rattle.fb_obstacles.proofs.singles.share.Goals as goal

-- no share of an even residue is large enough where the one next to half of it is too small
none_shared : (residue room other least most about : ℕ) → least ≡ residue - (room - room % 2) → most ≡ min residue other
    → about ≡ min (max (residue / 2) least) most → about - about % 2 < least → residue % 2 ≡ 0 → (share : ℕ)
    → ¬ IsShare residue room other share
none_shared residue room other least most about low high near less even share is =
    let part = is.part in
    let within = is.within in
    let left = is.left in
    let whole = is.even in
    omega (arith, part, within, left, whole)

pub returns-else-least-share : goal.returns-else-least-share
returns-else-least-share c =
    none_shared c.args.residue c.args.room c.args.other_room c.saturating_sub-least.result c.min-most.result c.min-about.result
    c.saturating_sub-least.ensures c.min-most.ensures
    (c.min-about.ensures ∙ ap (λ n. min n c.min-most.result) c.max.ensures) c.if-least-share.false
