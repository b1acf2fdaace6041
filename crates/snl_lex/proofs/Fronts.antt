-- A word is looked for among those that begin as it does.
use Rattle.std.proofs.Common.{◌≡◌, ℕ, suc, Bool, true, false, cond, List, [], ◌∷◌, length, take, filter, slice_index, ap, sym, ◌∙◌, refl}
use Rattle.std.specs.Str.{bytes_eq}
use Rattle.std.proofs.lemmas.Slice.Eq.{bytes_eq-Decides}
use Rattle.snl_lex.specs.Kinds.{Entry, look_up, words, words_on}

-- A list is not one that begins otherwise.
begins_otherwise : (n : ℕ) (front xs ys : List ℕ) (b : Bool) → bytes_eq xs ys ≡ b → take n xs ≡ front → bytes_eq (take n ys) front ≡ false → b ≡ false
begins_otherwise n front xs ys false e is other = refl
begins_otherwise n front xs ys true e is other =
    let same : xs ≡ ys = (bytes_eq-Decides xs ys).0 e in
    let fronts : take n ys ≡ front = ap (take n) (sym same) ∙ is in
    let tested : bytes_eq (take n ys) front ≡ true = (bytes_eq-Decides (take n ys) front).1 fronts in
    cc

-- One entry more, which begins with the front or not.
one_more : (word front : List ℕ) (e : Entry) (es on : List Entry) (b : Bool) → take (length front) word ≡ front → bytes_eq (take (length front) e.bytes) front ≡ b
    → look_up es word ≡ look_up on word → look_up (e ∷ es) word ≡ look_up (cond b (e ∷ on) on) word
one_more word front e es on true is begins rest = ap (cond (bytes_eq word e.bytes) e.kind) rest
one_more word front e es on false is begins rest =
    ap (λ (b : Bool). cond b e.kind (look_up es word)) (begins_otherwise (length front) front word e.bytes (bytes_eq word e.bytes) refl is begins) ∙ rest

fronts_count : (es : List Entry) (word front : List ℕ) → take (length front) word ≡ front
    → look_up es word ≡ look_up (filter (λ (e : Entry). bytes_eq (take (length front) e.bytes) front) es) word
fronts_count [] word front is = refl
fronts_count (e ∷ es) word front is =
    one_more word front e es (filter (λ (d : Entry). bytes_eq (take (length front) d.bytes) front) es) (bytes_eq (take (length front) e.bytes) front) is refl (fronts_count es word front is)

-- The first byte of a word, and its first two.
first_taken : (word : List ℕ) (a : ℕ) → slice_index word 0 ≡ suc a → take 1 word ≡ suc a ∷ []
first_taken [] a is = cc
first_taken (x ∷ xs) a is = ap (λ (b : ℕ). b ∷ []) is

two_taken : (word : List ℕ) (a b : ℕ) → slice_index word 0 ≡ a → slice_index word 1 ≡ suc b → take 2 word ≡ a ∷ suc b ∷ []
two_taken [] a b is next = cc
two_taken (x ∷ []) a b is next = cc
two_taken (x ∷ y ∷ rest) a b is next = cc

-- Among the words only those count that begin with the first byte, or the first two.
pub first_counts : (word : List ℕ) (a : ℕ) → slice_index word 0 ≡ suc a → look_up words word ≡ look_up (words_on (suc a ∷ [])) word
first_counts word a is = fronts_count words word (suc a ∷ []) (first_taken word a is)

pub two_count : (word : List ℕ) (a b : ℕ) → slice_index word 0 ≡ a → slice_index word 1 ≡ suc b → look_up words word ≡ look_up (words_on (a ∷ suc b ∷ [])) word
two_count word a b is next = fronts_count words word (a ∷ suc b ∷ []) (two_taken word a b is next)
