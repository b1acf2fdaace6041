-- Spaces and keys are the same where their tests say so, and the tests are those that the code
-- derives.
use Rattle.std.proofs.Common.{◌≡◌, ℕ, true, ◌&&◌, List, nat_eq, refl, ap, ◌∙◌}
use Rattle.std.specs.Str.{bytes_eq}
use Rattle.std.proofs.lemmas.Bool.Decides.{Decides-eqb}
use Rattle.std.proofs.lemmas.Slice.Eq.{bytes_eq-Decides}
use Rattle.std.proofs.lemmas.Bool.{and_parts}
use Rattle.snl_scope.specs.declared.names.namespaces.QualifiedName.{QualifiedName}
use Rattle.snl_scope.specs.declared.names.namespaces.Namespace.{Namespace}
use Rattle.snl_scope.specs.declared.names.namespaces.Namespace.TheVariants as namespace
use Rattle.snl_scope.specs.contracts.names.namespaces.QualifiedNamePartialEq.TheImpl as key_eq
use Rattle.snl_scope.specs.contracts.names.namespaces.NamespacePartialEq.TheImpl as namespace_eq
use Rattle.snl_scope.specs.KeyLaws.{namespace_true}
use Rattle.snl_scope.specs.Names.{Entry, has_name, same_namespace}
use Rattle.snl_scope.specs.NameTables.{same_key}

namespace_is : (a b : Namespace) → namespace_eq.eq-value.it a b ≡ same_namespace a b
namespace_is namespace.Program namespace.Program = refl
namespace_is namespace.Program (namespace.StateSet b) = refl
namespace_is namespace.Program (namespace.State b) = refl
namespace_is namespace.Program namespace.Sets = refl
namespace_is namespace.Program (namespace.States b) = refl
namespace_is (namespace.StateSet a) namespace.Program = refl
namespace_is (namespace.StateSet a) (namespace.StateSet b) = refl
namespace_is (namespace.StateSet a) (namespace.State b) = refl
namespace_is (namespace.StateSet a) namespace.Sets = refl
namespace_is (namespace.StateSet a) (namespace.States b) = refl
namespace_is (namespace.State a) namespace.Program = refl
namespace_is (namespace.State a) (namespace.StateSet b) = refl
namespace_is (namespace.State a) (namespace.State b) = refl
namespace_is (namespace.State a) namespace.Sets = refl
namespace_is (namespace.State a) (namespace.States b) = refl
namespace_is namespace.Sets namespace.Program = refl
namespace_is namespace.Sets (namespace.StateSet b) = refl
namespace_is namespace.Sets (namespace.State b) = refl
namespace_is namespace.Sets namespace.Sets = refl
namespace_is namespace.Sets (namespace.States b) = refl
namespace_is (namespace.States a) namespace.Program = refl
namespace_is (namespace.States a) (namespace.StateSet b) = refl
namespace_is (namespace.States a) (namespace.State b) = refl
namespace_is (namespace.States a) namespace.Sets = refl
namespace_is (namespace.States a) (namespace.States b) = refl

pub key_is : (a b : QualifiedName) → key_eq.eq-value.it a b ≡ same_key a b
key_is a b = ap (λ c. c && nat_eq a.name b.name) (namespace_is a.namespace b.namespace)

pub namespace_same : (a : Namespace) → same_namespace a a ≡ true
namespace_same namespace.Program = refl
namespace_same (namespace.StateSet a) = (Decides-eqb a a).1 refl
namespace_same (namespace.State a) = (Decides-eqb a a).1 refl
namespace_same namespace.Sets = refl
namespace_same (namespace.States a) = (Decides-eqb a a).1 refl

-- what a key and an entry of a name are
pub key_same : (a : QualifiedName) → same_key a a ≡ true
key_same a = ap (λ b. b && nat_eq a.name a.name) (namespace_same a.namespace) ∙ (Decides-eqb a.name a.name).1 refl

pub name_true : (s : Namespace) (name : List ℕ) (e : Entry) → has_name s name e ≡ true → (s ≡ e.namespace) × (name ≡ e.name)
name_true s name e h = let p = and_parts (same_namespace s e.namespace) (bytes_eq name e.name) h in (namespace_true s e.namespace p.0, (bytes_eq-Decides name e.name).0 p.1)

pub name_same : (e : Entry) → has_name e.namespace e.name e ≡ true
name_same e = ap (λ b. b && bytes_eq e.name e.name) (namespace_same e.namespace) ∙ (bytes_eq-Decides e.name e.name).1 refl
