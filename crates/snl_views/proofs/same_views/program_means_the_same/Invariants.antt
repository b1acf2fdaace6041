use Rattle.std.proofs.Common.{◌≡◌, ◌<◌, ℕ, true}
use Rattle.snl_scope.specs.declared.names.namespaces.Namespace.TheVariants as namespace
use Rattle.snl_views.specs.SameMeanings.{same_under}
use Rattle.snl_views.proofs.same_views.program_means_the_same.Given as goal

-- the names so far mean what they meant
abbrev pub invariant-loop-name : goal.invariant-loop-name
invariant-loop-name l = (n : ℕ) → n < l.name → same_under l.both namespace.Program namespace.Program n ≡ true
