-- What an edit inside one item makes of the links: names mean what they meant, and they find what
-- they found.
use Rattle.std.specs.Prelude.{◌≡◌, ℕ, ◌+◌, ◌∷◌, ◌++◌, take, drop}
use Rattle.snl_summary.specs.declared.summary.ItemKind.{ItemKind}
use Rattle.snl_scope.specs.Linked.{faults_of}
use Rattle.snl_scope.specs.LinkedItems.{LinkedItems}
use Rattle.snl_kept.specs.declared.plan.NewLinks.{NewLinks}
use Rattle.snl_kept.specs.NewLinks.{HasFaults, links_now}

-- Item i is of this kind, and the others are what they were.
pub record AreOwnLinks (before : LinkedItems) (i : ℕ) (kind : ItemKind) (links : NewLinks) : Type 0 where
  pub outlines : (links_now before links).outlines ≡ before.outlines
  pub kinds : (links_now before links).kinds ≡ take i before.kinds ++ (kind ∷ drop (i + 1) before.kinds)
  pub found : HasFaults before links
  pub same : faults_of (links_now before links) ≡ faults_of before
