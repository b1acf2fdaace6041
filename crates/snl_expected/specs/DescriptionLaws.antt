-- What it is that a description names a kind.
use Rattle.std.specs.Prelude.{◌≡◌, ◌⊎◌, true}
use Rattle.std.specs.List.{Contains}
use Rattle.snl_lex.specs.declared.kind.Kind.{Kind}
use Rattle.snl_expected.specs.Groups.{Described, is_covered}

-- A group that is named stands for it, or it is named by itself.
abbrev pub IsDescribed : Described → Kind → Type 0
IsDescribed description k = (is_covered description.groups k ≡ true) ⊎ Contains description.kinds k
