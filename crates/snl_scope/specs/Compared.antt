-- What names mean by two links, told by the numbers of names.
use Rattle.std.specs.Prelude.{◌≡◌, ℕ, List, length, take}
use Rattle.snl_scope.specs.declared.compared.Compared.{Compared}
use Rattle.snl_scope.specs.declared.names.namespaces.Namespace.{Namespace}
use Rattle.snl_summary.specs.declared.summary.Outline.{Outline}
use Rattle.snl_scope.specs.Names.{entries, number_in}
use Rattle.snl_scope.specs.NameTables.{number_by}

-- The numbers are those of these names, of which the ones before are the first ones after.
pub record ByNames (both : Compared) (before after : List (List ℕ)) : Type 0 where
  pub count : both.before.names ≡ length before
  pub count_after : both.after.names ≡ length after
  pub first : take (length before) after ≡ before
  pub found : (s : Namespace) (name : List ℕ) → number_by before both.before.first.now s name ≡ number_in (entries both.before.links.now.outlines) s name
  pub found_after : (s : Namespace) (name : List ℕ) → number_by after both.after.first.now s name ≡ number_in (entries both.after.links.now.outlines) s name

-- The links are of these outlines, and there are names whose numbers they tell by.
pub record AreCompared (ss ts : List Outline) (both : Compared) : Type 0 where
  pub is_before : both.before.links.now.outlines ≡ ss
  pub is_after : both.after.links.now.outlines ≡ ts
  pub before : List (List ℕ)
  pub after : List (List ℕ)
  pub by_names : ByNames both before after
