-- How the nodes of a part move while trees grow in it.
use Rattle.std.specs.Prelude.{List, Option}
use Rattle.fb_regions.specs.Paces.{rested}
use Rattle.fb_half.specs.Values.{HasScope}
use Rattle.fb_half.specs.declared.parts.Parts.{Parts}
use Rattle.fb_trees.specs.Branches.{Grown}
use Rattle.fb_trees.specs.Forests.{AreInPace}

-- the pieces with no node moving
abbrev pub rested_parts : Parts → Parts
rested_parts parts = record parts { regions = rested parts.regions }

-- Each node moves as its role in the trees says. With no node moving the pieces are those of a half-solved part.
pub record ArePaced (parts : Parts) (forest : List (Option Grown)) : Type 0 where
  pub scope : HasScope (rested_parts parts)
  pub paces : AreInPace parts.regions forest
