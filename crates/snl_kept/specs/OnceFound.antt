-- No offset and code occur twice in what is found in a text.
use Rattle.std.specs.Prelude.{◌≡◌, List}
use Rattle.std.specs.List.{AllPairs}
use Rattle.snl_kept.specs.declared.found.findings.Finding.{Finding}

-- Two findings don't have one offset and one code.
abbrev pub DifferInPlace : Finding → Finding → Type 0
DifferInPlace x y = x.offset ≡ y.offset → x.code ≡ y.code → ⊥

-- No two of them have one offset and one code.
abbrev pub ArePlacedOnce : List Finding → Type 0
ArePlacedOnce xs = AllPairs DifferInPlace xs
