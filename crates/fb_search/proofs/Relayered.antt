-- What stays where nodes have other layers over the same defects: the matching, the cycles, and which nodes are outer.
use Rattle.std.proofs.Common.{ℕ, ◌≡◌, inl, inr, true, List, [], ◌∷◌, ◌++◌, map, All, Option, Some, None, refl, sym, ap, ◌∙◌, if◌then◌else◌}
use Rattle.std.proofs.lemmas.List.Elements.{All-cons, All-head, All-map, All-nil, All-tail, All-weaker}
use Rattle.fb_graph.specs.Problem.{Problem}
use Rattle.fb_graph.specs.Laws.{Link}
use Rattle.fb_graph.specs.Alike.{AreAlike}
use Rattle.fb_graph.specs.Dual.{IsDual, Node, defects_of, is_empty, is_live, is_outer, leaves}
use Rattle.fb_graph.specs.Nests.{first_set}
use Rattle.fb_graph.proofs.Among.{All_among, among_All}
use Rattle.fb_graph.proofs.MappedNodes.{AreKept, mapped_outer, mapped_live}
use Rattle.fb_blossoms.specs.Nodes.{defects_at}
use Rattle.fb_blossoms.specs.Nodes as blossoms
use Rattle.fb_links.specs.declared.walk.Step.{Step}
use Rattle.fb_laws.specs.Opening.{EndAtDefects, EndsAtDefects}
use Rattle.fb_laws.specs.Searches.{LeavesNode}
use Rattle.fb_half.specs.Matchings.{IsMatchOf, IsMatchingOf, MatchingValue, match_links}
use Rattle.fb_half.specs.Parts.{AreAgreed}
use Rattle.fb_half.specs.Translations.{children_at, link_by, ring_at, ring_links}
use Rattle.fb_half.specs.declared.matches.Match.{Match}
use Rattle.fb_laws.proofs.LayeredSearches.{cover_kept, connects_kept}

module _ (f : Node → Node) (nodes : List Node) (kept : AreKept f nodes) where
  live_kept : (x : ℕ) → is_live (map f nodes) x ≡ is_live nodes x
  live_kept = mapped_live f kept.name nodes

  outer_kept : (x : ℕ) → is_outer (map f nodes) x ≡ is_outer nodes x
  outer_kept = mapped_outer f kept.children nodes

  defects_kept : (n : Node) → first_set (f n) ≡ first_set n → defects_of (f n) ≡ defects_of n
  defects_kept n first =
      ap (λ l. if is_empty l then first_set (f n) else []) (kept.children n)
      ∙ ap (λ l. if is_empty n.children then l else []) first

  pub agreed_relayered : (store : List (Option blossoms.Node)) → AreAgreed nodes store → AreAgreed (map f nodes) store
  agreed_relayered store agreed = record {
    live = λ x. live_kept x ∙ agreed.live x;
    children =
        All-map (λ n. n.children ≡ children_at store n.name) f nodes
        (All-weaker (λ n. n.children ≡ children_at store n.name) (λ n. (f n).children ≡ children_at store (f n).name)
        (λ n same. kept.children n ∙ (same ∙ ap (children_at store) (sym (kept.name n)))) nodes agreed.children);
    leaves =
        All-map (λ n. is_empty n.children ≡ true → defects_of n ≡ defects_at store n.name) f nodes
        (among_All (λ n. is_empty (f n).children ≡ true → defects_of (f n) ≡ defects_at store (f n).name) nodes
        (λ n a none.
        defects_kept n (All_among (λ m. first_set (f m) ≡ first_set m) nodes kept.first n a)
        ∙ (All_among (λ m. is_empty m.children ≡ true → defects_of m ≡ defects_at store m.name) nodes agreed.leaves n a
        (ap is_empty (sym (kept.children n)) ∙ none)
        ∙ ap (defects_at store) (sym (kept.name n)))));
  }

  pub ring_relayered : (store : List (Option blossoms.Node)) → ring_links (map f nodes) store ≡ ring_links nodes store
  ring_relayered store = by nodes
    where
      by : (ns : List Node) → ring_links (map f ns) store ≡ ring_links ns store
      by [] = refl
      by (n ∷ ns) =
          ap (λ x. ring_at store x ++ ring_links (map f ns) store) (kept.name n) ∙ ap (λ l. ring_at store n.name ++ l) (by ns)

module _ (p : Problem) (nodes others : List Node) (alike : AreAlike nodes others) (dual : IsDual p nodes) where
  leaves_kept : (l : Link) (a v : ℕ) → EndsAtDefects p (leaves nodes) l → LeavesNode nodes l a v → LeavesNode others l a v
  leaves_kept l a v (at_from, at_to) (inl (cover, end)) = inl (cover_kept p nodes others alike dual l.from a at_from cover, end)
  leaves_kept l a v (at_from, at_to) (inr (cover, end)) = inr (cover_kept p nodes others alike dual l.to a at_to cover, end)

  match_kept : (l : Link) (a : ℕ) (second : Option ℕ) → EndsAtDefects p (leaves nodes) l → IsMatchOf p nodes l a second
      → IsMatchOf p others l a second
  match_kept l a None at (v, leaves_node, real) = (v, leaves_kept l a v at leaves_node, real)
  match_kept l a (Some b) at connects = connects_kept p nodes others alike dual l a b at connects

  pub matches_kept : (links : List (Option (List Step))) (matches : List Match)
      → EndAtDefects p (leaves nodes) (map (link_by links) (match_links matches))
      → All (λ e. IsMatchOf p nodes (link_by links e.link) e.first e.second) matches
      → All (λ e. IsMatchOf p others (link_by links e.link) e.first e.second) matches
  matches_kept links [] at are = All-nil (λ e. IsMatchOf p others (link_by links e.link) e.first e.second)
  matches_kept links (m ∷ ms) at are =
      All-cons (λ e. IsMatchOf p others (link_by links e.link) e.first e.second) m ms
      (match_kept (link_by links m.link) m.first m.second
      (All-head (EndsAtDefects p (leaves nodes)) (link_by links m.link) (map (link_by links) (match_links ms)) at)
      (All-head (λ e. IsMatchOf p nodes (link_by links e.link) e.first e.second) m ms are))
      (matches_kept links ms
      (All-tail (EndsAtDefects p (leaves nodes)) (link_by links m.link) (map (link_by links) (match_links ms)) at)
      (All-tail (λ e. IsMatchOf p nodes (link_by links e.link) e.first e.second) m ms are))

pub matching_relayered : (p : Problem) (f : Node → Node) (nodes : List Node) (links : List (Option (List Step)))
    (m : MatchingValue) (outside : List ℕ) → AreKept f nodes → AreAlike nodes (map f nodes) → IsDual p nodes
    → EndAtDefects p (leaves nodes) (map (link_by links) (match_links m.matches)) → IsMatchingOf p nodes links m outside
    → IsMatchingOf p (map f nodes) links m outside
matching_relayered p f nodes links m outside kept alike dual at are = record {
  distinct = are.distinct;
  live = λ x listed. (live_kept f nodes kept x ∙ (are.live x listed).0, outer_kept f nodes kept x ∙ (are.live x listed).1);
  all = λ x live outer.
      are.all x (sym (live_kept f nodes kept x) ∙ live) (sym (outer_kept f nodes kept x) ∙ outer);
  connects = matches_kept p nodes (map f nodes) alike dual links m.matches at are.connects;
}
