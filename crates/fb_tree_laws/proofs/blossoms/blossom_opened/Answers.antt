use Rattle.fb_laws.proofs.BlossomSums.{paired_ends, opened_once, opened_elsewhere, kept_child}
use Rattle.fb_tree_laws.proofs.blossoms.blossom_opened.Goals as goal

pub returns-clause-paired : goal.returns-clause-paired
returns-clause-paired c = paired_ends

pub returns-clause-once : goal.returns-clause-once
returns-clause-once c = opened_once

pub returns-clause-elsewhere : goal.returns-clause-elsewhere
returns-clause-elsewhere c = opened_elsewhere

pub returns-clause-kept : goal.returns-clause-kept
returns-clause-kept c = kept_child
