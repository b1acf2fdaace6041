-- The tokens at which the names of an item are: those of each sort rise.
use Rattle.std.specs.Prelude.{ℕ, List, map, option_to_list}
use Rattle.std.specs.List.{flat_map}
use Rattle.std.specs.List.Sorted.{IsStrictlyIncreasing}
use Rattle.snl_summary.specs.declared.summary.Outline.{Outline}
use Rattle.snl_summary.specs.declared.summary.VariableClause.{VariableClause}

-- The tokens of the names that an item declares.
abbrev pub declared_tokens : Outline → List ℕ
declared_tokens s = map (λ d. d.token) s.declares

-- The tokens of the variables and of the flags of its clauses.
abbrev pub variable_tokens : Outline → List ℕ
variable_tokens s = map (λ c. c.variable.token) s.clauses

abbrev pub tokens_of_flag : VariableClause → List ℕ
tokens_of_flag c = map (λ m. m.token) (option_to_list c.flag)

abbrev pub flag_tokens : Outline → List ℕ
flag_tokens s = flat_map tokens_of_flag s.clauses

-- Each name of one sort is at a token of its own, after that of the name before it.
pub record TokensRise (s : Outline) : Type 0 where
  pub declared : IsStrictlyIncreasing (declared_tokens s)
  pub variables : IsStrictlyIncreasing (variable_tokens s)
  pub flags : IsStrictlyIncreasing (flag_tokens s)
