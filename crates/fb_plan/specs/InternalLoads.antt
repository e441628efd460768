-- What the ranges that hold a vertex add up to: their count, or the numbers of their nodes.
use Rattle.std.specs.Prelude.{ℕ, ◌<◌, ◌≤◌, ◌^◌, ◌==◌, Bool, cond, List, sum_by}
use Rattle.fb_plan.specs.Rules.{holds}
use Rattle.fb_plan.specs.declared.loads.Bound.{Bound}
use Rattle.fb_plan.specs.declared.loads.Bound.TheVariants.{Start, End}
use Rattle.fb_plan.specs.declared.loads.Measure.{Measure}
use Rattle.fb_plan.specs.declared.loads.Measure.TheVariants.{Ranges, Nodes}
use Rattle.fb_plan.specs.declared.parts.OwnedRange.{OwnedRange}

abbrev pub weight_of : Measure → OwnedRange → ℕ
weight_of Ranges c = 1
weight_of Nodes c = c.node

-- a range of vertices that doesn't end before it starts
pub record IsClaim (vertices : ℕ) (c : OwnedRange) : Type 0 where
  pub order : c.start ≤ c.end
  pub end : c.end ≤ vertices
  pub node : c.node < 2 ^ 64

-- the weights of the ranges that pass
abbrev pub weigh : Measure → (OwnedRange → Bool) → List OwnedRange → ℕ
weigh m test claims = sum_by (λ c. cond (test c) (weight_of m c) 0) claims

-- the weights of the ranges that hold the vertex
abbrev pub load_at : Measure → List OwnedRange → ℕ → ℕ
load_at m claims v = weigh m (holds v) claims

abbrev pub place_of : Bound → OwnedRange → ℕ
place_of Start c = c.start
place_of End c = c.end

-- the weights of the ranges whose bound the place is
abbrev pub bounded_at : Measure → Bound → List OwnedRange → ℕ → ℕ
bounded_at m bound claims v = weigh m (λ c. place_of bound c == v) claims
