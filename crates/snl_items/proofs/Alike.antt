-- Tokens are spelled alike where their spellings are equal.
use Rattle.std.proofs.Common.{◌≡◌, ℕ, Bool, List, refl, ap, ap₂, Decides, IsTrue}
use denote.Enum.Bare.{same_true, true_same}
use Rattle.std.specs.Str.{bytes_eq}
use Rattle.std.proofs.lemmas.Bool.Decides.{Decides-and, Decides-like, same_from_decides}
use Rattle.std.proofs.lemmas.Slice.Eq.{bytes_eq-Decides, slice_eq-Decides}
use Rattle.snl_lex.specs.declared.piece.Class.{Class}
use Rattle.snl_lex.specs.contracts.piece.Class.{the_type}
use Rattle.snl_lex.specs.contracts.piece.ClassPartialEq.TheImpl as class_eq
use Rattle.snl_items.specs.Fresh.{same_spelling, spelled_alike}

class_Decides : (k l : Class) → Decides (class_eq.eq-value.it k l) (k ≡ l)
class_Decides k l = (same_true the_type tt k l, true_same the_type k l)

same_Decides : (s t : Class × List ℕ) → Decides (same_spelling s t) (s ≡ t)
same_Decides s t =
    Decides-like (same_spelling s t) (λ h. ap₂ (λ (k : Class) (b : List ℕ). let p : Class × List ℕ = (k, b) in p) h.0 h.1) (λ e. (ap (λ p. p.0) e, ap (λ p. p.1) e))
    (Decides-and (class_eq.eq-value.it s.0 t.0) (bytes_eq s.1 t.1) (class_Decides s.0 t.0) (bytes_eq-Decides s.1 t.1))

pub alike_Decides : (xs ys : List (Class × List ℕ)) → Decides (spelled_alike xs ys) (xs ≡ ys)
alike_Decides xs ys = slice_eq-Decides same_Decides xs ys (spelled_alike xs ys) refl

-- A test of whether they are equal is the one of the definition.
pub told_alike : (t : Bool) (xs ys : List (Class × List ℕ)) → (IsTrue t → xs ≡ ys) → (xs ≡ ys → IsTrue t) → t ≡ spelled_alike xs ys
told_alike t xs ys h k = same_from_decides t (spelled_alike xs ys) (h, k) (alike_Decides xs ys)
