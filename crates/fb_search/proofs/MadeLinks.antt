-- Branches of trees stay where their links stay, whatever other links there are.
use Rattle.std.proofs.Common.{ℕ, ◌≡◌, true, List, [], ◌∷◌, map, refl}
use Rattle.fb_graph.specs.Parity.{is_in}
use Rattle.fb_graph.proofs.Sets.{is_in-head, is_in-tail}
use Rattle.fb_laws.specs.Trees.{EntryOf, grown_links, paired_links}
use Rattle.fb_half.specs.Translations.{entry_by, link_by}
use Rattle.fb_links.proofs.MovedLinks.{Table}

-- branches whose links stay
pub entries_same : (old new : Table) (tree : List (EntryOf ℕ))
    → ((id : ℕ) → is_in (grown_links tree) id ≡ true → link_by new id ≡ link_by old id)
    → ((id : ℕ) → is_in (paired_links tree) id ≡ true → link_by new id ≡ link_by old id)
    → map (entry_by new) tree ≡ map (entry_by old) tree
entries_same old new [] grown paired = refl
entries_same old new (e ∷ es) grown paired =
    (λ k.
    record {
      parent = e.parent;
      tree = grown e.tree (is_in-head e.tree (grown_links es)) k;
      minus = e.minus;
      matched = paired e.matched (is_in-head e.matched (paired_links es)) k;
      plus = e.plus;
    }
    ∷ entries_same old new es (λ id h. grown id (is_in-tail e.tree (grown_links es) id h))
    (λ id h. paired id (is_in-tail e.matched (paired_links es) id h)) k)
