-- The index of a part's matches to the boundary, by the node of the plan that owns the vertex there.
use Rattle.std.specs.Prelude.{ℕ, ◌≡◌, if◌then◌else◌, Bool, true, List, [], All, Option, Some, None, option_map}
use Rattle.std.specs.Option.{unwrap_or}
use Rattle.std.specs.BTreeMap.{get}
use Rattle.std.specs.Ordering.{nat_cmp}
use Rattle.fb_graph.specs.Laws.{Link}
use Rattle.fb_graph.specs.Parity.{is_in}
use Rattle.fb_plan.specs.Plans.{PlanTree, owner_of}
use Rattle.fb_links.specs.declared.walk.Step.{Step}
use Rattle.fb_half.specs.declared.matches.Match.{Match}
use Rattle.fb_half.specs.declared.seams.Seams.{Seams}
use Rattle.fb_half.specs.Translations.{link_by}

-- the names that the index lists under the node of the plan
abbrev pub names_under : Seams → ℕ → List ℕ
names_under s owner = unwrap_or (option_map (λ v. v.items) (get nat_cmp s.names owner)) []

-- the end of a link to the boundary that lies there: its first one, if that isn't real, else its last one
abbrev pub far_end : (ℕ → Bool) → Link → ℕ
far_end is_real l = if is_real l.from then l.to else l.from

-- if the match leads to the boundary, and a node of the plan owns the vertex there, its node is listed under that one
abbrev pub IsListed : (ℕ → Bool) → PlanTree → Seams → List (Option (List Step)) → Match → Type 0
IsListed is_real t s links m = (owner : ℕ) → m.second ≡ None
    → owner_of t (far_end is_real (link_by links m.link)) ≡ Some owner → is_in (names_under s owner) m.first ≡ true

-- the index lists all matches to the boundary; it may list other nodes too
abbrev pub AreListed : (ℕ → Bool) → PlanTree → Seams → List (Option (List Step)) → List Match → Type 0
AreListed is_real t s links matches = All (IsListed is_real t s links) matches
