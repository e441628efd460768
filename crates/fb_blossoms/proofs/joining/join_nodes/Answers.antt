use Rattle.fb_links.specs.Names.{name_by}
use Rattle.fb_blossoms.proofs.Renamings.{joined_seen, once_seen}
use Rattle.fb_blossoms.proofs.joining.join_nodes.Goals as goal

pub rename_all-requires : goal.rename_all-requires
rename_all-requires c = once_seen c.in_ok-pairs.pairs.items c.deref-2.result.now c.deref-2.ensures.value c.in_ok-pairs.ensures.distinct

pub returns : goal.returns
returns c =
    joined_seen c.args.nodes.now c.args.right.now c.take_all.new.nodes c.rename_all.new.nodes c.args.more c.args.links.now c.in_ok-pairs.pairs.items
    c.deref.result.now c.deref-2.result.now (name_by c.in_ok-names.names) (name_by c.in_ok-link_names.link_names) c.in_ok-pairs.ensures
    c.deref.ensures.value c.deref-2.ensures.value c.in_ok-names.ensures c.in_ok-link_names.ensures c.in_ok-rename_all.ensures
