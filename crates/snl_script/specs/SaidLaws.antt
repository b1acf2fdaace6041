-- Bytes said after bytes.
use Rattle.std.specs.Prelude.{◌≡◌, ℕ, ◌+◌, ◌<◌, List, [], ◌++◌, length, take, drop, Option, Some, None, Result, Ok, Err, IsErr, flat_map}
use Rattle.std.proofs.Common.{sym, ap, ◌∙◌, subst, append_assoc, get_or}
use Rattle.std.proofs.lemmas.List.{append-nil, flat_map_more, take-append-drop, take_more}
use Rattle.std.proofs.lemmas.List.Concat.{flat_map-append}
use Rattle.std.proofs.lemmas.Result.{MatchResult-from_err}
use Rattle.std.specs.Io.KnownBytes.{Appends}
use Rattle.snl_script.specs.Said.{AppendsPart, Said, Says}

-- bytes written after bytes
pub Appends-on : (o m n : Option (List ℕ)) (xs ys : List ℕ) → Appends o m xs → Appends m n ys → Appends o n (xs ++ ys)
Appends-on None m n xs ys h k = tt
Appends-on (Some o) None n xs ys h k = absurd h
Appends-on (Some o) (Some m) None xs ys h k = absurd k
Appends-on (Some o) (Some m) (Some n) xs ys h k = k ∙ ap (λ l. l ++ ys) h ∙ append_assoc o xs ys

pub Appends-none : (o : Option (List ℕ)) → Appends o o []
Appends-none None = tt
Appends-none (Some o) = sym (append-nil o)

pub Appends-same : (o n : Option (List ℕ)) (xs ys : List ℕ) → xs ≡ ys → Appends o n xs → Appends o n ys
Appends-same o n xs ys e h = subst (λ (l : List ℕ). Appends o n l) e h

-- a part of the front of the bytes was written
pub AppendsPart-front : (o n : Option (List ℕ)) (xs ys : List ℕ) → AppendsPart o n xs → AppendsPart o n (xs ++ ys)
AppendsPart-front o n xs ys p = record { written = p.written; lost = p.lost ++ ys; part = sym (append_assoc p.written p.lost ys) ∙ ap (λ l. l ++ ys) p.part; grown = p.grown }

-- nothing was said yet but what is on the page
pub Says-page : (o : Option (List ℕ)) (page bytes : List ℕ) → page ≡ bytes → Says o o page bytes
Says-page o page bytes e = record { written = []; all = e; grown = Appends-none o }

-- bytes were said, and then more
pub Says-on : (o m n : Option (List ℕ)) (p q xs ys : List ℕ) → Says o m p xs → Says m n q (p ++ ys) → Says o n q (xs ++ ys)
Says-on o m n p q xs ys h k = record {
  written = h.written ++ k.written;
  all = append_assoc h.written k.written q ∙ ap (λ l. h.written ++ l) k.all ∙ sym (append_assoc h.written p ys) ∙ ap (λ l. l ++ ys) h.all;
  grown = Appends-on o m n h.written k.written h.grown k.grown;
}

-- bytes were said, and a part of more was written
pub AppendsPart-on : (o m n : Option (List ℕ)) (p xs ys : List ℕ) → Says o m p xs → AppendsPart m n (p ++ ys) → AppendsPart o n (xs ++ ys)
AppendsPart-on o m n p xs ys h k = record {
  written = h.written ++ k.written;
  lost = k.lost;
  part = append_assoc h.written k.written k.lost ∙ ap (λ l. h.written ++ l) k.part ∙ sym (append_assoc h.written p ys) ∙ ap (λ l. l ++ ys) h.all;
  grown = Appends-on o m n h.written k.written h.grown k.grown;
}

pub AppendsPart-same : (o n : Option (List ℕ)) (xs ys : List ℕ) → xs ≡ ys → AppendsPart o n xs → AppendsPart o n ys
AppendsPart-same o n xs ys e p = record { written = p.written; lost = p.lost; part = p.part ∙ e; grown = p.grown }

pub Says-same : (o n : Option (List ℕ)) (p xs ys : List ℕ) → xs ≡ ys → Says o n p xs → Says o n p ys
Says-same o n p xs ys e h = record { written = h.written; all = h.all ∙ e; grown = h.grown }

-- bytes were written, and then a part of more
pub AppendsPart-after : (o m n : Option (List ℕ)) (xs ys : List ℕ) → Appends o m xs → AppendsPart m n ys → AppendsPart o n (xs ++ ys)
AppendsPart-after o m n xs ys h p = record { written = xs ++ p.written; lost = p.lost; part = append_assoc xs p.written p.lost ∙ ap (λ l. xs ++ l) p.part; grown = Appends-on o m n xs p.written h p.grown }

-- the answer of a `?` that passes an error on
pub Said-err : {T E : Type 0} (r : Result T E) (o n : Option (List ℕ)) (page bytes : List ℕ) → IsErr r → AppendsPart o n bytes → Said r o n page bytes
Said-err r o n page bytes h p = MatchResult-from_err r (λ _. Says o n page bytes) (λ _. AppendsPart o n bytes) h (λ _. p)

-- one piece more
pub pieces-more : {X : Type 0} (f : X → List ℕ) (page : List ℕ) (xs : List X) (i : ℕ) (d : X) → i < length xs → (page ++ flat_map f (take i xs)) ++ f (get_or xs i d) ≡ page ++ flat_map f (take (i + 1) xs)
pieces-more {X} f page xs i d h = flat_map_more f page (take i xs) (get_or xs i d) ∙ ap (λ (l : List X). page ++ flat_map f l) (sym (take_more xs i d h))

-- the pieces before one, that one, and those after it
pub pieces-all : {X : Type 0} (f : X → List ℕ) (page : List ℕ) (xs : List X) (i : ℕ) (d : X) → i < length xs → ((page ++ flat_map f (take i xs)) ++ f (get_or xs i d)) ++ flat_map f (drop (i + 1) xs) ≡ page ++ flat_map f xs
pieces-all f page xs i d h =
    ap (λ (l : List ℕ). l ++ flat_map f (drop (i + 1) xs)) (pieces-more f page xs i d h) ∙
    append_assoc page (flat_map f (take (i + 1) xs)) (flat_map f (drop (i + 1) xs)) ∙
    ap (λ (l : List ℕ). page ++ l) (sym (flat_map-append f (take (i + 1) xs) (drop (i + 1) xs)) ∙ ap (flat_map f) (take-append-drop (i + 1) xs))

-- more was said after what was said
pub Said-on : {T E : Type 0} (r : Result T E) (o m n : Option (List ℕ)) (p q xs ys zs : List ℕ) → xs ++ ys ≡ zs → Says o m p xs → Said r m n q (p ++ ys) → Said r o n q zs
Said-on (Ok x) o m n p q xs ys zs e h k = Says-same o n q (xs ++ ys) zs e (Says-on o m n p q xs ys h k)
Said-on (Err x) o m n p q xs ys zs e h k = AppendsPart-same o n (xs ++ ys) zs e (AppendsPart-on o m n p xs ys h k)

-- a part of a front was written
pub Said-part : {T E : Type 0} (r : Result T E) (o n : Option (List ℕ)) (page xs ys zs : List ℕ) → IsErr r → xs ++ ys ≡ zs → AppendsPart o n xs → Said r o n page zs
Said-part r o n page xs ys zs h e p = Said-err r o n page zs h (AppendsPart-same o n (xs ++ ys) zs e (AppendsPart-front o n xs ys p))
