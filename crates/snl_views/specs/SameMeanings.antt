-- What names mean before an edit and after it, namespace by namespace: where that is the same, items
-- see the same.
use Rattle.std.specs.Prelude.{◌≡◌, ℕ, ◌+◌, ◌-◌, ◌%◌, ◌^◌, Bool, true, false, if◌then◌else◌, List, get_or, nat_lt, Option, None, Some, option_map}
use Rattle.snl_scope.specs.declared.facts.Fact.{Fact}
use Rattle.snl_scope.specs.declared.names.namespaces.Namespace.{Namespace}
use Rattle.snl_scope.specs.declared.names.namespaces.Namespace.TheVariants as namespace
use Rattle.snl_scope.specs.declared.names.namespaces.QualifiedName.{QualifiedName}
use Rattle.snl_scope.specs.declared.compared.Compared.{Compared}
use Rattle.snl_scope.specs.declared.compared.Meanings.{Meanings}
use Rattle.snl_summary.specs.declared.summary.Outline.{Outline}
use Rattle.snl_scope.specs.Linked.{fact_at}
use Rattle.snl_scope.specs.Names.{entries, number_in}
use Rattle.snl_scope.specs.NameTables.{number_under}
use Rattle.snl_views.specs.declared.same_views.Moved.{Moved}
use Rattle.snl_views.specs.declared.same_views.Pair.{Pair}
use Rattle.snl_views.specs.declared.same_views.Side.{Side}
use Rattle.snl_views.specs.declared.same_views.Side.TheVariants as side
use Rattle.snl_views.specs.SameView.{same_known}

-- The numbers that an item gets and had, if it is kept.
abbrev pub number_after : Moved → ℕ → ℕ
number_after m k = if nat_lt k m.back then k else ((k - m.back) + m.stop) % 2 ^ 64

abbrev pub number_before : Moved → ℕ → ℕ
number_before m k = if nat_lt k m.front then k else ((k - m.stop) + m.back) % 2 ^ 64

-- What is known of the first that has a name in a namespace, if there is one.
abbrev pub meaning_of : List Outline → Namespace → List ℕ → Option (Option Fact)
meaning_of ss s name = option_map (fact_at ss) (number_in (entries ss) s name)

-- The same by the number of a name.
abbrev pub meaning_under : Meanings → Namespace → ℕ → Option (Option Fact)
meaning_under m s n = if nat_lt n m.names then option_map (fact_at m.links.now.outlines) (number_under m.first.now s n) else None

abbrev pub same_meaning : Option (Option Fact) → Option (Option Fact) → Bool
same_meaning None None = true
same_meaning (Some a) (Some b) = same_known a b
same_meaning _ _ = false

-- A name means in a namespace before what it means in another one after.
abbrev pub same_under : Compared → Namespace → Namespace → ℕ → Bool
same_under both s t n = same_meaning (meaning_under both.before s n) (meaning_under both.after t n)

-- The state set that a namespace is of, and the namespace of another set that is as this one.
abbrev pub set_in : Namespace → Option ℕ
set_in (namespace.StateSet k) = Some k
set_in (namespace.States k) = Some k
set_in _ = None

abbrev pub with_set : Namespace → ℕ → Namespace
with_set (namespace.StateSet k) n = namespace.StateSet n
with_set (namespace.States k) n = namespace.States n
with_set s n = s

-- A namespace of a state set, with the one on the other side of an edit.
abbrev pub pair_of : Moved → Side → Namespace → ℕ → Pair
pair_of m side.Before s k = record { before = s; after = with_set s (number_after m k); set = number_after m k }
pair_of m side.After s k = record { before = with_set s (number_before m k); after = s; set = k }

abbrev pub paired : Moved → Side → Namespace → Option Pair
paired m v s = option_map (pair_of m v s) (set_in s)

-- No number is marked that was not.
abbrev pub Unmarks : List Bool → List Bool → Type 0
Unmarks old new = (k : ℕ) → get_or new k false ≡ true → get_or old k false ≡ true

-- If a key is of a state set that is marked, its name means what it meant.
abbrev pub IsPaired : Compared → Moved → Side → List Bool → QualifiedName → Type 0
IsPaired both m v marks q = (p : Pair) → paired m v q.namespace ≡ Some p → get_or marks p.set false ≡ true → same_under both p.before p.after q.name ≡ true

-- Each name means in a namespace before what it means in another one after.
abbrev pub MeansTheSame : List Outline → Namespace → List Outline → Namespace → Type 0
MeansTheSame ss s ts t = (name : List ℕ) → same_meaning (meaning_of ss s name) (meaning_of ts t name) ≡ true

-- And so in the namespaces of two state sets.
pub record SameSets (ss : List Outline) (k : ℕ) (ts : List Outline) (t : ℕ) : Type 0 where
  pub declared : MeansTheSame ss (namespace.StateSet k) ts (namespace.StateSet t)
  pub states : MeansTheSame ss (namespace.States k) ts (namespace.States t)

-- What is in a state set sees what was in another one, or both are outside all.
abbrev pub SamePlace : List Outline → Option ℕ → List Outline → Option ℕ → Type 0
SamePlace ss None ts None = Unit {0}
SamePlace ss (Some k) ts (Some t) = SameSets ss k ts t
SamePlace ss _ ts _ = ⊥

-- What is known to mean the same: the names of the program, and those of the sets that are marked.
pub record AreSame (ss ts : List Outline) (moved : Moved) (marks : List Bool) (program : Bool) : Type 0 where
  pub in_program : program ≡ true → MeansTheSame ss namespace.Program ts namespace.Program
  pub in_sets : (k : ℕ) → number_before moved (number_after moved k) ≡ k → get_or marks (number_after moved k) false ≡ true → SameSets ss k ts (number_after moved k)

-- The outlines before an edit and after it.
pub record BothOutlines : Type 0 where
  pub before : List Outline
  pub after : List Outline

abbrev pub AreBoth : List Outline → List Outline → BothOutlines → Type 0
AreBoth ss ts both = both ≡ record { before = ss; after = ts }
