-- Bytes said after bytes, and calls of a writer that take some of theirs.
use Rattle.std.proofs.Common.{◌≡◌, ◌==◌, ◌||◌, ◌&&◌, not, Bool, ℕ, List, [], ◌++◌, take, drop, Option, Some, None, Result, Ok, Err, sym, ap, ◌∙◌, append_assoc, arith}
use Rattle.std.proofs.lemmas.Bool.Decides.{nat_tests}
use Rattle.std.proofs.lemmas.List.{append-nil, take-append-drop}
use Rattle.std.specs.Io.KnownBytes.{Appends, Keeps}
use Rattle.snl_script.specs.Said.{AppendsPart, Says, Said, Written}
pub use Rattle.snl_script.specs.SaidLaws.{Appends-on, Appends-same, AppendsPart-after, AppendsPart-front, AppendsPart-on, AppendsPart-same, Said-err, Said-on, Said-part, Says-on, Says-same, pieces-all, pieces-more}

pub Appends-keeps : (o m n : Option (List ℕ)) (xs : List ℕ) → Appends o m xs → Keeps m n → Appends o n xs
Appends-keeps None m n xs h k = tt
Appends-keeps (Some o) None n xs h k = absurd h
Appends-keeps (Some o) (Some m) None xs h k = absurd k
Appends-keeps (Some o) (Some m) (Some n) xs h k = k ∙ h

pub Appends-nothing : (o m n : Option (List ℕ)) (xs ys : List ℕ) → ys ≡ [] → Appends o m xs → Appends m n ys → Appends o n xs
Appends-nothing o m n xs ys e h k = Appends-same o n (xs ++ ys) xs (ap (λ l. xs ++ l) e ∙ append-nil xs) (Appends-on o m n xs ys h k)

-- a front of the bytes was written
pub AppendsPart-take : (o n : Option (List ℕ)) (at : ℕ) (xs : List ℕ) → Appends o n (take at xs) → AppendsPart o n xs
AppendsPart-take o n at xs h = record { written = take at xs; lost = drop at xs; part = take-append-drop at xs; grown = h }

-- all of the bytes were written, and the page is empty
pub Says-written : (o n : Option (List ℕ)) (page bytes : List ℕ) → page ≡ [] → Appends o n bytes → Says o n page bytes
Says-written o n page bytes e h = record { written = bytes; all = ap (λ l. bytes ++ l) e ∙ append-nil bytes; grown = h }

-- all was written after an empty page
pub Said-written : {T E : Type 0} (r : Result T E) (o m n : Option (List ℕ)) (page xs ys : List ℕ) → page ≡ [] → Appends o m xs → Written r m n ys → Said r o n page (xs ++ ys)
Said-written (Ok x) o m n page xs ys e h w = Says-written o n page (xs ++ ys) e (Appends-on o m n xs ys h w)
Said-written (Err x) o m n page xs ys e h w = AppendsPart-after o m n xs ys h w

-- a write that took some of its bytes is no failure
pub failed-same : (before after : Bool) (n len : ℕ) → (n ≡ 0 → ⊥) → after ≡ (before || (n == 0 && not (len == 0))) → after ≡ before
failed-same before after n len some h = grind (arith, nat_tests)

-- what follows the last of some pieces
pub after_last : (said last page whole rest : List ℕ) → said ++ last ≡ page ++ whole → said ++ (last ++ rest) ≡ page ++ (whole ++ rest)
after_last said last page whole rest h = sym (append_assoc said last rest) ∙ ap (λ l. l ++ rest) h ∙ append_assoc page whole rest
