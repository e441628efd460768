-- Products that stay small.
use Rattle.std.proofs.Common.{ℕ, ◌*◌, ◌^◌, ◌<◌, ◌≤◌, arith}
use Rattle.std.proofs.Math.Nat.{mul-le-mul_left}
use Rattle.fb_book.specs.InternalBoard.{node_limit}

pub small_product : (slots nodes : ℕ) → slots < 2 ^ 32 → nodes < node_limit → slots * nodes ≤ 2 ^ 45
small_product slots nodes few small =
    let a : slots * nodes ≤ slots * node_limit = mul-le-mul_left slots (omega (arith, small)) in
    omega (arith, a, few)

pub ruleset products = (small_product)
