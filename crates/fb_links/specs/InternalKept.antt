-- The invariant of `Links`: where the walks are in the table of steps, what holds of them, and of the free numbers.
use Rattle.std.specs.Prelude.{ℕ, ◌≡◌, ◌≢◌, ◌+◌, ◌<◌, ◌≤◌, List, [], ◌∷◌, length, get_or, map, count_by, Option, Some, None, is_some, option_map, All}
use Rattle.std.specs.List.{slice_range}
use Rattle.fb_links.specs.declared.span.Span.{Span}
use Rattle.fb_links.specs.declared.walk.Step.{Step}
use Rattle.fb_links.specs.Table.{IsLink}
use Rattle.fb_links.specs.Walks.{walk_weight}

-- the walk of this span of the table of steps
abbrev pub walk_in : List Step → Span → List Step
walk_in steps s = slice_range steps s.start s.end

-- the walks by the numbers of their links
abbrev pub walks_in : List Step → List (Option Span) → List (Option (List Step))
walks_in steps spans = map (option_map (walk_in steps)) spans

-- the span of the link of this number; `None` if no link has it
abbrev pub span_at : List (Option Span) → ℕ → Option Span
span_at spans id = get_or spans id None

-- the span lies in the table of steps
pub record IsInside (steps : List Step) (s : Span) : Type 0 where
  pub rises : s.start ≤ s.end
  pub within : s.end ≤ length steps

-- the span of a link
pub record IsSpan (steps : List Step) (s : Span) : Type 0 where
  pub inside : IsInside steps s
  pub link : IsLink (walk_in steps s)
  pub weighs : s.weight ≡ walk_weight (walk_in steps s)

-- an entry of the table of spans: no link, or the span of one
abbrev pub IsEntry : List Step → Option Span → Type 0
IsEntry steps None = Unit {0}
IsEntry steps (Some s) = IsSpan steps s

-- numbers of the table that no link has, none of them listed twice
abbrev pub AreFree : List (Option Span) → List ℕ → Type 0
AreFree spans [] = Unit {0}
AreFree spans (id ∷ ids) =
    (id < length spans) × (span_at spans id ≡ None) × All (λ k. k ≢ id) ids × AreFree spans ids

-- the free numbers, the last freed first; their list has room for all numbers of the table
pub record AreNumbered (spans : List (Option Span)) (free : List ℕ) (capacity : ℕ) : Type 0 where
  pub unused : AreFree spans free
  pub counted : length free + count_by is_some spans ≡ length spans
  pub room : length spans ≤ capacity

pub record IsKept (steps : List Step) (spans : List (Option Span)) (free : List ℕ) (capacity : ℕ) : Type 0 where
  pub entries : All (IsEntry steps) spans
  pub numbers : AreNumbered spans free capacity

-- the span is stored under a number that no link had, and nothing else changes
pub record Stores (old new : List (Option Span)) (id : ℕ) (span : Span) : Type 0 where
  pub fresh : span_at old id ≡ None
  pub added : span_at new id ≡ Some span
  pub others : (k : ℕ) → k ≢ id → span_at new k ≡ span_at old k

-- other spans have the same walks in another table of steps
pub record IsPacked (steps : List Step) (spans : List (Option Span)) (new_steps : List Step) (new_spans : List (Option Span))
    : Type 0 where
  pub entries : All (IsEntry new_steps) new_spans
  pub same : walks_in new_steps new_spans ≡ walks_in steps spans
