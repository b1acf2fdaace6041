-- What an edit makes of the links of a text.
use Rattle.std.specs.Prelude.{◌≡◌, ℕ, List, ⊤}
use Rattle.snl_scope.specs.Linked.{faults_of}
use Rattle.snl_scope.specs.LinkedItems.{LinkedItems}
use Rattle.snl_kept.specs.declared.plan.NewLinks.{NewLinks}
use Rattle.snl_kept.specs.declared.plan.NewLinks.TheVariants as new
use Rattle.snl_kept.specs.Checks.{links_in}

-- The links after an edit: those before it, these with other kinds, or others.
abbrev pub links_now : LinkedItems → NewLinks → LinkedItems
links_now before new.Same = before
links_now before (new.Kinds k) = record { outlines = before.outlines; kinds = k.kinds.items }
links_now before (new.Other links) = links

-- Where other kinds come, what the links find comes with them.
abbrev pub HasFaults : LinkedItems → NewLinks → Type 0
HasFaults before (new.Kinds k) = k.faults.items ≡ faults_of (links_now before (new.Kinds k))
HasFaults before _ = ⊤

-- What is made of the links of the old text gives those of the new one.
pub record AreLinks (old text : List ℕ) (links : NewLinks) : Type 0 where
  pub are : links_now (links_in old) links ≡ links_in text
  pub faults : HasFaults (links_in old) links
