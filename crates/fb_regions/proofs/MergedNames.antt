-- New names that are looked up in another way.
use Rattle.std.proofs.Common.{ℕ, ◌≡◌, List, map, option_map, Option, Some, None, refl, ap, ◌∙◌}
use Rattle.std.specs.Vec.{with_items}
use Rattle.fb_graph.proofs.NestParts.{map_agree}
use Rattle.fb_graph.proofs.Sets.{All-from_is_in}
use Rattle.fb_regions.specs.declared.heads.Beside.{Beside}
use Rattle.fb_regions.specs.declared.heads.Link.{Link}
use Rattle.fb_regions.specs.declared.marks.Mark.{Mark}
use Rattle.fb_regions.specs.declared.region.Region.{Region}
use Rattle.fb_regions.specs.InternalMerged.{AreMarksOver, mark_over, renamed_beside, renamed_link, renamed_region}
use Rattle.fb_regions.specs.InternalNodes.{mark_of}

abbrev named_as : Region → ℕ → List ℕ → Option ℕ → ℕ → Link → Region
named_as r name children parent head link =
    record r { name = name; children = with_items r.children children; parent = parent; head = head; link = link; since = 0 }

module _ (f g : ℕ → ℕ) (same : (a : ℕ) → f a ≡ g a) where
  pub region_by : (r : Region) → renamed_region f r ≡ renamed_region g r
  region_by r =
      ap (λ a. named_as r a (map f r.children.items) (option_map f r.parent) (f r.head) (renamed_link f r.link)) (same r.name)
      ∙ (ap (λ cs. named_as r (g r.name) cs (option_map f r.parent) (f r.head) (renamed_link f r.link))
      (map_agree f g r.children.items (All-from_is_in (λ c. f c ≡ g c) r.children.items (λ c h. same c)))
      ∙ (ap (λ o. named_as r (g r.name) (map g r.children.items) o (f r.head) (renamed_link f r.link)) (parent r.parent)
      ∙ (ap (λ h. named_as r (g r.name) (map g r.children.items) (option_map g r.parent) h (renamed_link f r.link)) (same r.head)
      ∙ (ap (λ t. named_as r (g r.name) (map g r.children.items) (option_map g r.parent) (g r.head) (record { top = t; beside = renamed_beside f r.link.beside }))
      (same r.link.top)
      ∙ ap (λ b. named_as r (g r.name) (map g r.children.items) (option_map g r.parent) (g r.head) (record { top = g r.link.top; beside = b }))
      (beside r.link.beside)))))
    where
      parent : (o : Option ℕ) → option_map f o ≡ option_map g o
      parent None = refl
      parent (Some a) = ap Some (same a)

      beside : (o : Option Beside) → renamed_beside f o ≡ renamed_beside g o
      beside None = refl
      beside (Some b) = ap (λ a. Some (record b { leaf = a })) (same b.leaf)

  pub marks_by : (left right both : List (Option Mark)) → AreMarksOver f left right both → AreMarksOver g left right both
  marks_by left right both over = record {
    count = over.count;
    marks = λ v. over.marks v ∙ by (mark_of right v) (mark_of left v);
  }
    where
      by : (o old : Option Mark) → mark_over f o old ≡ mark_over g o old
      by None old = refl
      by (Some m) old = ap (λ a. Some (record m { leaf = a })) (same m.leaf)
