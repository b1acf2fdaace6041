-- Namespaces and keys are the same where their tests say so.
use Rattle.std.proofs.Common.{◌≡◌, true, nat_eq, refl, sym, ap, true≢false}
use Rattle.std.proofs.lemmas.Bool.Decides.{Decides-eqb}
use Rattle.std.proofs.lemmas.Bool.{and_parts}
use Rattle.snl_scope.specs.declared.names.namespaces.QualifiedName.{QualifiedName}
use Rattle.snl_scope.specs.declared.names.namespaces.Namespace.{Namespace}
use Rattle.snl_scope.specs.declared.names.namespaces.Namespace.TheVariants as namespace
use Rattle.snl_scope.specs.Names.{same_namespace}
use Rattle.snl_scope.specs.NameTables.{same_key}

pub namespace_true : (a b : Namespace) → same_namespace a b ≡ true → a ≡ b
namespace_true namespace.Program namespace.Program h = refl
namespace_true namespace.Program (namespace.StateSet b) h = absurd (true≢false (sym h))
namespace_true namespace.Program (namespace.State b) h = absurd (true≢false (sym h))
namespace_true namespace.Program namespace.Sets h = absurd (true≢false (sym h))
namespace_true namespace.Program (namespace.States b) h = absurd (true≢false (sym h))
namespace_true (namespace.StateSet a) namespace.Program h = absurd (true≢false (sym h))
namespace_true (namespace.StateSet a) (namespace.StateSet b) h = ap namespace.StateSet ((Decides-eqb a b).0 h)
namespace_true (namespace.StateSet a) (namespace.State b) h = absurd (true≢false (sym h))
namespace_true (namespace.StateSet a) namespace.Sets h = absurd (true≢false (sym h))
namespace_true (namespace.StateSet a) (namespace.States b) h = absurd (true≢false (sym h))
namespace_true (namespace.State a) namespace.Program h = absurd (true≢false (sym h))
namespace_true (namespace.State a) (namespace.StateSet b) h = absurd (true≢false (sym h))
namespace_true (namespace.State a) (namespace.State b) h = ap namespace.State ((Decides-eqb a b).0 h)
namespace_true (namespace.State a) namespace.Sets h = absurd (true≢false (sym h))
namespace_true (namespace.State a) (namespace.States b) h = absurd (true≢false (sym h))
namespace_true namespace.Sets namespace.Program h = absurd (true≢false (sym h))
namespace_true namespace.Sets (namespace.StateSet b) h = absurd (true≢false (sym h))
namespace_true namespace.Sets (namespace.State b) h = absurd (true≢false (sym h))
namespace_true namespace.Sets namespace.Sets h = refl
namespace_true namespace.Sets (namespace.States b) h = absurd (true≢false (sym h))
namespace_true (namespace.States a) namespace.Program h = absurd (true≢false (sym h))
namespace_true (namespace.States a) (namespace.StateSet b) h = absurd (true≢false (sym h))
namespace_true (namespace.States a) (namespace.State b) h = absurd (true≢false (sym h))
namespace_true (namespace.States a) namespace.Sets h = absurd (true≢false (sym h))
namespace_true (namespace.States a) (namespace.States b) h = ap namespace.States ((Decides-eqb a b).0 h)

pub key_true : (a b : QualifiedName) → same_key a b ≡ true → (a.namespace ≡ b.namespace) × (a.name ≡ b.name)
key_true a b h = let p = and_parts (same_namespace a.namespace b.namespace) (nat_eq a.name b.name) h in (namespace_true a.namespace b.namespace p.0, (Decides-eqb a.name b.name).0 p.1)
