-- The order that the items at program level have.
use Rattle.std.specs.Prelude.{◌≡◌, ◌⊎◌, ℕ, ◌<◌, ◌≤◌, None, Some, length, slice_get}
use Rattle.snl_scope.specs.LinkedItems.{LinkedItems}
use Rattle.snl_scope.specs.Places.{enclosing_set}
use Rattle.snl_summary.specs.declared.summary.ItemKind.{ItemKind}
use Rattle.snl_summary.specs.declared.summary.ItemKind.TheVariants.{Faulty, Header, SsBegin, SsEnd, State, Entry, Exit, Declaration, Foreign, Clause, OptionLine, Function, StructDef, CBlock, Empty}

-- Where the parts of a program begin, as numbers of items: its declarations, entry blocks, state
-- sets and exit blocks, and what follows these.
pub record Parts : Type 0 where
  pub declarations : ℕ
  pub entries : ℕ
  pub state_sets : ℕ
  pub exits : ℕ
  pub rest : ℕ

-- They begin one after another; each may be empty.
pub record AreRising (p : Parts) : Type 0 where
  pub entries : p.declarations ≤ p.entries
  pub state_sets : p.entries ≤ p.state_sets
  pub exits : p.state_sets ≤ p.exits
  pub rest : p.exits ≤ p.rest

-- Before the entry blocks, or in what follows the exit blocks.
abbrev pub IsDeclared : Parts → ℕ → Type 0
IsDeclared p i = ((p.declarations ≤ i) × (i < p.entries)) ⊎ (p.rest ≤ i)

-- An item of this kind may be the one with the number. A state may not be at program level; C code,
-- `}`, the empty item and a faulty one may be anywhere.
abbrev pub MayBe : Parts → ℕ → ItemKind → Type 0
MayBe p i Header = i < p.declarations
MayBe p i Declaration = IsDeclared p i
MayBe p i Foreign = IsDeclared p i
MayBe p i Clause = IsDeclared p i
MayBe p i OptionLine = IsDeclared p i
MayBe p i Function = IsDeclared p i
MayBe p i StructDef = IsDeclared p i
MayBe p i Entry = (p.entries ≤ i) × (i < p.state_sets)
MayBe p i SsBegin = (p.state_sets ≤ i) × (i < p.exits)
MayBe p i Exit = (p.exits ≤ i) × (i < p.rest)
MayBe p i State = ⊥
MayBe p i Faulty = Unit {0}
MayBe p i SsEnd = Unit {0}
MayBe p i CBlock = Unit {0}
MayBe p i Empty = Unit {0}

-- The item is in no state set.
pub record IsAtProgramLevel (l : LinkedItems) (i : ℕ) : Type 0 where
  pub within : i < length l.outlines
  pub outside : enclosing_set l.outlines i ≡ None

-- The items at program level are in the order of the language: there are places between which they
-- are as they may be.
pub record IsInOrder (l : LinkedItems) : Type 0 where
  pub parts : Parts
  pub rising : AreRising parts
  pub each : (i : ℕ) (kind : ItemKind) → IsAtProgramLevel l i → slice_get l.kinds i ≡ Some kind → MayBe parts i kind

-- What may not be in a state set: a header, an option, an entry or exit block, a function or a
-- struct.
abbrev pub IsBarred : ItemKind → Type 0
IsBarred kind = (kind ≡ Header) ⊎ ((kind ≡ OptionLine) ⊎ ((kind ≡ Entry) ⊎ ((kind ≡ Exit) ⊎ ((kind ≡ Function) ⊎ (kind ≡ StructDef)))))

-- No such item is in a state set.
abbrev pub AreSetsFree : LinkedItems → Type 0
AreSetsFree l = (i set : ℕ) (kind : ItemKind) → enclosing_set l.outlines i ≡ Some set → slice_get l.kinds i ≡ Some kind → IsBarred kind → ⊥
