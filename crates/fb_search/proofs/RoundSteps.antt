-- Searches from some of a part's unmatched nodes, one after another.
use Rattle.std.proofs.Common.{◌∙◌}
use Rattle.fb_half.specs.Parts.{PartValue}
use Rattle.fb_search.specs.Progress.{IsSamePart}

pub same_trans : (before now after : PartValue) → IsSamePart before now → IsSamePart now after → IsSamePart before after
same_trans before now after was is = record {
  job = is.job ∙ was.job;
  slot = is.slot ∙ was.slot;
  node = is.node ∙ was.node;
}
