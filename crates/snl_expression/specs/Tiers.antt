-- The tier of the operator that is next, as the code that goes from tier to tier asks for it.
use Rattle.std.specs.Prelude.{ℕ, ◌&&◌, Option, Some, None, if◌then◌else◌, nat_le, nat_lt, option_map}
use Rattle.snl_lex.specs.declared.kind.Kind.{Kind}
use Rattle.snl_grammar.specs.Operators.{binary_of, tier}

abbrev pub tier_in : Option Kind → Option ℕ
tier_in None = None
tier_in (Some d) = option_map tier (binary_of d)

-- above one tier, and not above another
abbrev pub tier_between : ℕ → ℕ → Option ℕ → Option ℕ
tier_between done most None = None
tier_between done most (Some n) = if nat_lt done n && nat_le n most then Some n else None
