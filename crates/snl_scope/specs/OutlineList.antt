-- Outlines in flat lists: what each says, with its names as numbers of a book of names.
use Rattle.std.specs.Prelude.{◌≡◌, ◌≤◌, ◌<◌, ◌+◌, ◌++◌, ℕ, List, [], ◌∷◌, IfSome, drop, get_or, length, map, option_map, take}
use Rattle.std.specs.List.{AllByRecursion as Each}
use Rattle.snl_scope.specs.declared.outlines.cursor.Cursor.{Cursor}
use Rattle.snl_scope.specs.declared.outlines.cursor.ToldOutline.{ToldOutline}
use Rattle.snl_scope.specs.declared.outlines.flat.FlatClause.{FlatClause}
use Rattle.snl_scope.specs.declared.outlines.flat.FlatDeclared.{FlatDeclared}
use Rattle.snl_scope.specs.declared.outlines.flat.FlatOutline.{FlatOutline}
use Rattle.snl_scope.specs.declared.outlines.flat.FlatRef.{FlatRef}
use Rattle.snl_scope.specs.declared.outlines.making.Making.{Making}
use Rattle.snl_summary.specs.declared.summary.Declared.{Declared}
use Rattle.snl_summary.specs.declared.summary.NameRef.{NameRef}
use Rattle.snl_summary.specs.declared.summary.Outline.{Outline}
use Rattle.snl_summary.specs.declared.summary.VariableClause.{VariableClause}

-- The name with a number.
abbrev pub name_at : List (List ℕ) → ℕ → List ℕ
name_at names n = get_or names n []

abbrev pub declared_by : List (List ℕ) → FlatDeclared → Declared
declared_by names d = record { name = name_at names d.name; token = d.token; variable = d.variable }

abbrev pub ref_by : List (List ℕ) → FlatRef → NameRef
ref_by names m = record { name = name_at names m.name; token = m.token }

abbrev pub clause_by : List (List ℕ) → FlatClause → VariableClause
clause_by names c = record { variable = ref_by names c.variable; flag = option_map (ref_by names) c.flag; coverage = c.coverage; kind = c.kind }

-- An outline, by its own declarations and clauses.
abbrev pub outline_by : List (List ℕ) → FlatOutline → List FlatDeclared → List FlatClause → Outline
outline_by names h ds cs = record {
  declares = map (declared_by names) ds;
  clauses = map (clause_by names) cs;
  second = option_map (name_at names) h.second;
  role = h.role;
  opening = h.opening;
}

-- All outlines, each with the next declarations and clauses, as many as it has.
abbrev pub outlines_by : List (List ℕ) → List FlatOutline → List FlatDeclared → List FlatClause → List Outline
outlines_by names [] ds cs = []
outlines_by names (h ∷ hs) ds cs = outline_by names h (take h.declares ds) (take h.clauses cs) ∷ outlines_by names hs (drop h.declares ds) (drop h.clauses cs)

-- A sum.
abbrev pub total : List ℕ → ℕ
total [] = 0
total (c ∷ cs) = c + total cs

-- How many declarations outlines have, and how many clauses.
abbrev pub declares_in : List FlatOutline → ℕ
declares_in hs = total (map (λ h. h.declares) hs)

abbrev pub clauses_in : List FlatOutline → ℕ
clauses_in hs = total (map (λ h. h.clauses) hs)

-- All names of a clause are in the book.
pub record IsClauseNumbered (names : List (List ℕ)) (c : FlatClause) : Type 0 where
  pub variable : c.variable.name < length names
  pub flag : IfSome c.flag (λ m. m.name < length names)

-- Each name is in the book.
pub record AreNumbered (names : List (List ℕ)) (hs : List FlatOutline) (ds : List FlatDeclared) (cs : List FlatClause) : Type 0 where
  pub seconds : Each (λ h. IfSome h.second (λ n. n < length names)) hs
  pub declared : Each (λ d. d.name < length names) ds
  pub clauses : Each (IsClauseNumbered names) cs

-- The lists are those of outlines.
pub record AreFlat (names : List (List ℕ)) (hs : List FlatOutline) (ds : List FlatDeclared) (cs : List FlatClause) : Type 0 where
  pub numbered : AreNumbered names hs ds cs
  pub declares : declares_in hs ≡ length ds
  pub clauses : clauses_in hs ≡ length cs

-- Names, and outlines whose names are among them.
pub record NamedOutlines : Type 0 where
  pub names : List (List ℕ)
  pub outlines : List Outline

-- Each name that was there has the number that it had.
pub record Extends (old new : List (List ℕ)) : Type 0 where
  pub longer : length old ≤ length new
  pub same : (n : ℕ) → n < length old → get_or new n [] ≡ get_or old n []

-- How many declarations and clauses the first outlines have.
abbrev pub declares_before : List Outline → ℕ → ℕ
declares_before ss item = total (map (λ s. length s.declares) (take item ss))

abbrev pub clauses_before : List Outline → ℕ → ℕ
clauses_before ss item = total (map (λ s. length s.clauses) (take item ss))

-- A walk along outlines is at one of them, or after the last one.
pub record IsAt (ss : List Outline) (at : Cursor) : Type 0 where
  pub declares : at.declares ≡ declares_before ss at.item
  pub clauses : at.clauses ≡ clauses_before ss at.item

-- An outline that is told.
abbrev pub outline_of : List (List ℕ) → ToldOutline → Outline
outline_of names t = outline_by names t.head t.declares.now t.clauses.now

abbrev pub IsNumbered : List (List ℕ) → ToldOutline → Type 0
IsNumbered names t = AreNumbered names (t.head ∷ []) t.declares.now t.clauses.now

-- A list with some elements more, which are told as these; something holds of each.
pub record Adds {X Y : Type 0} (tell : X → Y) (P : X → Type 0) (old new : List X) (told : List Y) : Type 0 where
  pub more : List X
  pub list : new ≡ old ++ more
  pub as_told : map tell more ≡ told
  pub each : Each P more

-- A list of declarations with some more, by names that are in the book.
abbrev pub AddsDeclared : List (List ℕ) → List FlatDeclared → List FlatDeclared → List Declared → Type 0
AddsDeclared names old new told = Adds (declared_by names) (λ d. d.name < length names) old new told

abbrev pub AddsClauses : List (List ℕ) → List FlatClause → List FlatClause → List VariableClause → Type 0
AddsClauses names old new told = Adds (clause_by names) (IsClauseNumbered names) old new told

-- Flat lists tell outlines.
pub record Tells (m : Making) (ss : List Outline) : Type 0 where
  pub flat : AreFlat m.names m.heads.items m.declares.items m.clauses.items
  pub outlines : outlines_by m.names m.heads.items m.declares.items m.clauses.items ≡ ss
