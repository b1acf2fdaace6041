-- Answers that are said piece by piece, and written at their end.
use Rattle.std.proofs.Common.{◌≡◌, ℕ, List, ◌++◌, Option, Result, Ok, Err, append_assoc}
use Rattle.std.specs.Prelude.{IsErr}
use Rattle.std.proofs.lemmas.Result.{MatchResult-from_err}
use Rattle.std.specs.Io.KnownBytes.{Appends}
use Rattle.snl_script.specs.Said.{AppendsPart, Says, Written}
pub use Rattle.snl_script.specs.SaidLaws.{Appends-on, Appends-same, AppendsPart-after, AppendsPart-front, AppendsPart-on, AppendsPart-same, Said-err, Said-on, Said-part, Says-on, Says-same, pieces-all, pieces-more}

-- the page was written, and it held the rest
pub Appends-finished : (o m n : Option (List ℕ)) (p xs : List ℕ) → Says o m p xs → Appends m n p → Appends o n xs
Appends-finished o m n p xs h k = Appends-same o n (h.written ++ p) xs h.all (Appends-on o m n h.written p h.grown k)

pub AppendsPart-finished : (o m n : Option (List ℕ)) (p xs : List ℕ) → Says o m p xs → AppendsPart m n p → AppendsPart o n xs
AppendsPart-finished o m n p xs h k = AppendsPart-same o n (h.written ++ p) xs h.all (AppendsPart-after o m n h.written p h.grown k)

pub Written-err : {T E : Type 0} (r : Result T E) (o n : Option (List ℕ)) (bytes : List ℕ) → IsErr r → AppendsPart o n bytes → Written r o n bytes
Written-err r o n bytes h p = MatchResult-from_err r (λ _. Appends o n bytes) (λ _. AppendsPart o n bytes) h (λ _. p)

pub Written-part : {T E : Type 0} (r : Result T E) (o n : Option (List ℕ)) (xs ys zs : List ℕ) → IsErr r → xs ++ ys ≡ zs → AppendsPart o n xs → Written r o n zs
Written-part r o n xs ys zs h e p = Written-err r o n zs h (AppendsPart-same o n (xs ++ ys) zs e (AppendsPart-front o n xs ys p))

-- all that was said was written
pub Written-finished : {T E : Type 0} (r : Result T E) (o m n : Option (List ℕ)) (p xs zs : List ℕ) → xs ≡ zs → Says o m p xs → Written r m n p → Written r o n zs
Written-finished (Ok x) o m n p xs zs e h w = Appends-same o n xs zs e (Appends-finished o m n p xs h w)
Written-finished (Err x) o m n p xs zs e h w = AppendsPart-same o n xs zs e (AppendsPart-finished o m n p xs h w)

-- a line of four pieces
pub line-1 : (p f g q e : List ℕ) → (p ++ f) ++ (g ++ (q ++ e)) ≡ p ++ (f ++ (g ++ (q ++ e)))
line-1 p f g q e = simp append_assoc

pub line-2 : (p f g q e : List ℕ) → ((p ++ f) ++ g) ++ (q ++ e) ≡ p ++ (f ++ (g ++ (q ++ e)))
line-2 p f g q e = simp append_assoc

pub line-3 : (p f g q e : List ℕ) → (((p ++ f) ++ g) ++ q) ++ e ≡ p ++ (f ++ (g ++ (q ++ e)))
line-3 p f g q e = simp append_assoc
