-- The token that a reader of whole items blames.
use Rattle.std.proofs.Common.{◌≡◌, ℕ, ◌-◌, min, List, length, Err, ap, ◌∙◌, arith}
use Rattle.snl_lex.specs.declared.kind.Kind.{Kind}
use Rattle.snl_grammar.specs.Tokens.{ahead}
use Rattle.snl_grammar.specs.Reading.Items.{levels, whole_item, blamed_in, fault_of}
use Rattle.snl_grammar.specs.TokenLaws.{length-ahead}

place_of : (count at left : ℕ) → left ≡ count - at → min (count - left) (count - 1) ≡ min at (count - 1)
place_of count at left e = omega (arith, e)

pub fault_at : (kinds : List Kind) (at : ℕ) → whole_item levels (ahead kinds 0) ≡ Err (ahead kinds at) → fault_of kinds ≡ min at (length kinds - 1)
unfolding fault_of
fault_at kinds at e = ap (blamed_in (length kinds)) e ∙ place_of (length kinds) at (length (ahead kinds at)) (length-ahead kinds at)
