-- Declarations in two lists: what the first says counts.
use Rattle.std.proofs.Common.{◌≡◌, ℕ, Bool, true, false, cond, List, [], ◌∷◌, ◌++◌, Some, None, refl}
use Rattle.std.specs.Str.{bytes_eq}
use Rattle.snl_walk.specs.declared.occurrence.Local.{Local}
use Rattle.snl_walk.specs.Scopes.{Names, look_up}

-- what the first list says of a name counts
pub look_up-above : (name : List ℕ) (xs ys : Names) (d : Local) → look_up name xs ≡ Some d → look_up name (xs ++ ys) ≡ Some d
look_up-above name [] ys d h = absurd cc
look_up-above name (e ∷ xs) ys d h = by (look_up-above name xs ys d) (bytes_eq name e.0) h
  where
    by : (look_up name xs ≡ Some d → look_up name (xs ++ ys) ≡ Some d) → (b : Bool) → cond b (Some e.1) (look_up name xs) ≡ Some d → cond b (Some e.1) (look_up name (xs ++ ys)) ≡ Some d
    by rest true is = is
    by rest false is = rest is

-- where it says nothing, what the second says counts
pub look_up-below : (name : List ℕ) (xs ys : Names) → look_up name xs ≡ None → look_up name (xs ++ ys) ≡ look_up name ys
look_up-below name [] ys h = refl
look_up-below name (e ∷ xs) ys h = by (look_up-below name xs ys) (bytes_eq name e.0) h
  where
    by : (look_up name xs ≡ None → look_up name (xs ++ ys) ≡ look_up name ys) → (b : Bool) → cond b (Some e.1) (look_up name xs) ≡ None → cond b (Some e.1) (look_up name (xs ++ ys)) ≡ look_up name ys
    by rest true is = absurd cc
    by rest false is = rest is
