-- A tree that ends at a node which was matched to the boundary: one more link is forgotten, that of its match.
use Rattle.std.proofs.Common.{ℕ, ◌≡◌, ◌||◌, ◌⊎◌, inl, inr, cond, true, false, Bool, List, ◌∷◌, Option, None, refl, sym, ap, ◌∙◌}
use Rattle.std.proofs.lemmas.Bool.{cases_eq, eq-eqb, ne_eqb}
use Rattle.fb_graph.specs.Parity.{is_in}
use Rattle.fb_links.specs.declared.walk.Step.{Step}
use Rattle.fb_links.specs.Table.{Removes, link_at}
use Rattle.fb_search.specs.InternalEndings.{Forgets}
use Rattle.fb_links.proofs.MovedLinks.{Table}

-- a link is forgotten before others
pub forgets_more : (id : ℕ) (gone : List ℕ) (old mid new : Table) → Removes old mid id → Forgets gone mid new → Forgets (id ∷ gone) old new
forgets_more id gone old mid new removes forgets k = by (cases_eq id k)
  where
    none : (b : Bool) → cond {A = Option (List Step)} b None None ≡ None
    none true = refl
    none false = refl

    by : (id ≡ k) ⊎ (id ≡ k → ⊥) → link_at new k ≡ cond (is_in (id ∷ gone) k) None (link_at old k)
    by (inl same) =
        forgets k
        ∙ (ap (λ o. cond (is_in gone k) None o) (ap (link_at mid) (sym same) ∙ removes.gone)
        ∙ (none (is_in gone k) ∙ sym (ap (λ b. cond (b || is_in gone k) None (link_at old k)) (eq-eqb id k same))))
    by (inr other) =
        forgets k
        ∙ (ap (λ o. cond (is_in gone k) None o) (removes.others k (λ e. other (sym e)))
        ∙ sym (ap (λ b. cond (b || is_in gone k) None (link_at old k)) (ne_eqb id k other)))
