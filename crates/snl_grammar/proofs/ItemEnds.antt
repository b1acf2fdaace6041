-- An item is read to the end of its tokens.
use Rattle.std.proofs.Common.{◌≡◌, ℕ, List, [], ◌∷◌, Ok, Err, sym}
use Rattle.snl_grammar.specs.declared.tree.item.Item.{Item}
use Rattle.snl_grammar.specs.Tokens.{NumberedKind}
use Rattle.snl_grammar.specs.Steps.{kind_at}
use Rattle.snl_grammar.specs.Reading.Items.{item, ended, whole_item}
use Rattle.snl_grammar.proofs.Local.{bind_ok, ok_is, err_is}

pub ended_is : (y : Item) (n : List NumberedKind) (x : Item) (m : List NumberedKind) → ended y n ≡ Ok (x, m) → (y ≡ x) × (n ≡ m) × (m ≡ [])
unfolding ended kind_at
ended_is y [] x m e = let v = ok_is y x [] m e in (v.0, v.1, sym v.1)
ended_is y (s ∷ n) x m e = absurd cc

-- where the tokens go on, the next one is blamed
pub ended_blames : (y : Item) (n j : List NumberedKind) → ended y n ≡ Err j → n ≡ j
unfolding ended kind_at
ended_blames y [] j e = absurd cc
ended_blames y (s ∷ n) j e = err_is (s ∷ n) j e

pub whole_ends : (depth : ℕ) (k : List NumberedKind) (x : Item) (m : List NumberedKind) → whole_item depth k ≡ Ok (x, m) → m ≡ []
unfolding whole_item
whole_ends depth k x m e = bind_ok (item depth k) ended (x, m) e (λ y n e1 e2. (ended_is y n x m e2).2)
