-- The numbers by which keys of tables are hashed, and that equal keys have equal numbers.
use Rattle.std.specs.Prelude.{◌≡◌, ℕ, ◌+◌, ◌-◌, ◌*◌, ◌++◌, true}
use Rattle.std.specs.Hash as fed
use Rattle.std.specs.Hash.{HashWrites}
use Rattle.std.proofs.Common.{refl, sym, ap, ◌∙◌, true≢false}
use Rattle.std.specs.Cmp.{first_so, second_so}
use Rattle.std.proofs.lemmas.Bool.Decides.{Decides-eqb}
use Rattle.snl_scope.specs.declared.clauses.clause_index.Claim.{Claim}
use Rattle.snl_scope.specs.declared.clauses.clause_index.Extent.{Extent}
use Rattle.snl_scope.specs.declared.clauses.clause_index.Extent.TheVariants as extent
use Rattle.snl_scope.specs.declared.clauses.clause_index.Purpose.{Purpose}
use Rattle.snl_scope.specs.declared.clauses.clause_index.Purpose.TheVariants as purpose
use Rattle.snl_scope.specs.contracts.clauses.clause_index.ClaimPartialEq.TheImpl as claim_eq
use Rattle.snl_scope.specs.contracts.clauses.clause_index.ExtentPartialEq.TheImpl as extent_eq
use Rattle.snl_scope.specs.contracts.clauses.clause_index.PurposePartialEq.TheImpl as purpose_eq
use Rattle.snl_scope.specs.declared.names.namespaces.QualifiedName.{QualifiedName}
use Rattle.snl_scope.specs.declared.names.namespaces.Namespace.{Namespace}
use Rattle.snl_scope.specs.declared.names.namespaces.Namespace.TheVariants as namespace
use Rattle.snl_scope.specs.contracts.names.namespaces.QualifiedNamePartialEq.TheImpl as key_eq
use Rattle.snl_scope.specs.contracts.names.namespaces.NamespacePartialEq.TheImpl as namespace_eq

-- That of a namespace. No item is both a state set and a state, so their scopes have one number.
abbrev pub namespace_number : Namespace → ℕ
namespace_number namespace.Program = 9223372036854775807
namespace_number (namespace.StateSet n) = n
namespace_number (namespace.State n) = n
namespace_number namespace.Sets = 9223372036854775808
namespace_number (namespace.States n) = 18446744073709551615 - n

abbrev pub key_number : QualifiedName → ℕ
key_number k = namespace_number k.namespace * 18446744073709551616 + k.name

same_number : (a b : Namespace) → namespace_eq.eq-value.it a b ≡ true → namespace_number a ≡ namespace_number b
same_number namespace.Program namespace.Program h = refl
same_number namespace.Program (namespace.StateSet b) h = absurd (true≢false (sym h))
same_number namespace.Program (namespace.State b) h = absurd (true≢false (sym h))
same_number namespace.Program namespace.Sets h = absurd (true≢false (sym h))
same_number namespace.Program (namespace.States b) h = absurd (true≢false (sym h))
same_number (namespace.StateSet a) namespace.Program h = absurd (true≢false (sym h))
same_number (namespace.StateSet a) (namespace.StateSet b) h = (Decides-eqb a b).0 h
same_number (namespace.StateSet a) (namespace.State b) h = absurd (true≢false (sym h))
same_number (namespace.StateSet a) namespace.Sets h = absurd (true≢false (sym h))
same_number (namespace.StateSet a) (namespace.States b) h = absurd (true≢false (sym h))
same_number (namespace.State a) namespace.Program h = absurd (true≢false (sym h))
same_number (namespace.State a) (namespace.StateSet b) h = absurd (true≢false (sym h))
same_number (namespace.State a) (namespace.State b) h = (Decides-eqb a b).0 h
same_number (namespace.State a) namespace.Sets h = absurd (true≢false (sym h))
same_number (namespace.State a) (namespace.States b) h = absurd (true≢false (sym h))
same_number namespace.Sets namespace.Program h = absurd (true≢false (sym h))
same_number namespace.Sets (namespace.StateSet b) h = absurd (true≢false (sym h))
same_number namespace.Sets (namespace.State b) h = absurd (true≢false (sym h))
same_number namespace.Sets namespace.Sets h = refl
same_number namespace.Sets (namespace.States b) h = absurd (true≢false (sym h))
same_number (namespace.States a) namespace.Program h = absurd (true≢false (sym h))
same_number (namespace.States a) (namespace.StateSet b) h = absurd (true≢false (sym h))
same_number (namespace.States a) (namespace.State b) h = absurd (true≢false (sym h))
same_number (namespace.States a) namespace.Sets h = absurd (true≢false (sym h))
same_number (namespace.States a) (namespace.States b) h = ap (λ n. 18446744073709551615 - n) ((Decides-eqb a b).0 h)

pub same_key_number : (a b : QualifiedName) → key_eq.eq-value.it a b ≡ true → key_number a ≡ key_number b
same_key_number a b h =
    let spaces = same_number a.namespace b.namespace (first_so _ _ h) in
    let names = (Decides-eqb a.name b.name).0 (second_so _ _ h) in
    ap (λ n. n * 18446744073709551616 + a.name) spaces ∙ ap (λ n. namespace_number b.namespace * 18446744073709551616 + n) names

abbrev pub purpose_number : Purpose → ℕ
purpose_number purpose.Assign = 0
purpose_number purpose.Monitor = 1
purpose_number purpose.Sync = 2

abbrev pub extent_number : Extent → ℕ
extent_number extent.Any = 18446744073709551615
extent_number extent.Whole = 18446744073709551614
extent_number (extent.Element k) = k

abbrev pub claim_fed : Claim → HashWrites
claim_fed m = fed.u8 (purpose_number m.purpose) ++ (fed.usize m.variable ++ fed.u64 (extent_number m.extent))

same_purpose_number : (a b : Purpose) → purpose_eq.eq-value.it a b ≡ true → purpose_number a ≡ purpose_number b
same_purpose_number purpose.Assign purpose.Assign h = refl
same_purpose_number purpose.Assign purpose.Monitor h = absurd (true≢false (sym h))
same_purpose_number purpose.Assign purpose.Sync h = absurd (true≢false (sym h))
same_purpose_number purpose.Monitor purpose.Assign h = absurd (true≢false (sym h))
same_purpose_number purpose.Monitor purpose.Monitor h = refl
same_purpose_number purpose.Monitor purpose.Sync h = absurd (true≢false (sym h))
same_purpose_number purpose.Sync purpose.Assign h = absurd (true≢false (sym h))
same_purpose_number purpose.Sync purpose.Monitor h = absurd (true≢false (sym h))
same_purpose_number purpose.Sync purpose.Sync h = refl

same_extent_number : (a b : Extent) → extent_eq.eq-value.it a b ≡ true → extent_number a ≡ extent_number b
same_extent_number extent.Any extent.Any h = refl
same_extent_number extent.Any extent.Whole h = absurd (true≢false (sym h))
same_extent_number extent.Any (extent.Element b) h = absurd (true≢false (sym h))
same_extent_number extent.Whole extent.Any h = absurd (true≢false (sym h))
same_extent_number extent.Whole extent.Whole h = refl
same_extent_number extent.Whole (extent.Element b) h = absurd (true≢false (sym h))
same_extent_number (extent.Element a) extent.Any h = absurd (true≢false (sym h))
same_extent_number (extent.Element a) extent.Whole h = absurd (true≢false (sym h))
same_extent_number (extent.Element a) (extent.Element b) h = (Decides-eqb a b).0 h

pub same_claim_fed : (a b : Claim) → claim_eq.eq-value.it a b ≡ true → claim_fed a ≡ claim_fed b
same_claim_fed a b h =
    let purposes = same_purpose_number a.purpose b.purpose (first_so _ _ h) in
    let rest = second_so _ _ h in
    let variables = (Decides-eqb a.variable b.variable).0 (first_so _ _ rest) in
    let extents = same_extent_number a.extent b.extent (second_so _ _ rest) in
    ap (λ n. fed.u8 n ++ (fed.usize a.variable ++ fed.u64 (extent_number a.extent))) purposes
    ∙ ap (λ n. fed.u8 (purpose_number b.purpose) ++ (fed.usize n ++ fed.u64 (extent_number a.extent))) variables
    ∙ ap (λ n. fed.u8 (purpose_number b.purpose) ++ (fed.usize b.variable ++ fed.u64 n)) extents
