-- A spelling is looked for among those of its length alone.
use Rattle.std.proofs.Common.{◌≡◌, ◌==◌, ℕ, Bool, true, false, not, nat_eq, ◌||◌, cond, List, [], ◌∷◌, ◌++◌, length, ap, sym, ◌∙◌, refl, arith}
use Rattle.std.specs.List.{list_all}
use Rattle.std.specs.Str.{bytes_eq}
use Rattle.std.proofs.lemmas.Bool.{and_right, not-true, and_parts}
use Rattle.std.proofs.lemmas.Bool.Decides.{nat_tests}
use Rattle.snl_lex.specs.declared.kind.Kind.{Kind}
use Rattle.snl_lex.specs.declared.kind.Kind.TheVariants as kind
use Rattle.snl_lex.specs.Kinds.{Entry, has, look_up}

-- Lists of different lengths are different.
differ : (xs ys : List ℕ) → (length ys == length xs) ≡ false → bytes_eq xs ys ≡ false
differ [] [] h = grind (arith, nat_tests)
differ [] (y ∷ ys) h = refl
differ (x ∷ xs) [] h = refl
differ (x ∷ xs) (y ∷ ys) h = and_right (nat_eq x y) (bytes_eq xs ys) (differ xs ys (grind (arith, nat_tests)))

-- no spelling of the table is n bytes long
abbrev pub none_of_length : ℕ → List Entry → Bool
none_of_length n es = list_all (λ (e : Entry). not (length e.bytes == n)) es

miss : (bytes : List ℕ) (e : Entry) (es : List Entry) → not (length e.bytes == length bytes) ≡ true → look_up (e ∷ es) bytes ≡ look_up es bytes
miss bytes e es h =
    ap (λ (b : Bool). cond b e.kind (look_up es bytes)) (differ bytes e.bytes (not-true (length e.bytes == length bytes) h))

skipped : (bytes : List ℕ) (front rest : List Entry) → none_of_length (length bytes) front ≡ true → look_up (front ++ rest) bytes ≡ look_up rest bytes
skipped bytes [] rest h = refl
skipped bytes (e ∷ es) rest h =
    let parts = and_parts (not (length e.bytes == length bytes)) (none_of_length (length bytes) es) h in
    miss bytes e (es ++ rest) parts.0 ∙ skipped bytes es rest parts.1

none_left : (bytes : List ℕ) (es : List Entry) → none_of_length (length bytes) es ≡ true → look_up es bytes ≡ kind.Bad
none_left bytes [] h = refl
none_left bytes (e ∷ es) h =
    let parts = and_parts (not (length e.bytes == length bytes)) (none_of_length (length bytes) es) h in
    miss bytes e es parts.0 ∙ none_left bytes es parts.1

left_out : (bytes : List ℕ) (group back : List Entry) → none_of_length (length bytes) back ≡ true → look_up (group ++ back) bytes ≡ look_up group bytes
left_out bytes [] back h = none_left bytes back h
left_out bytes (e ∷ es) back h = ap (cond (bytes_eq bytes e.bytes) e.kind) (left_out bytes es back h)

-- Only the spellings of one length count.
pub among : (bytes : List ℕ) (n : ℕ) (front group back : List Entry) → length bytes ≡ n → none_of_length n front ≡ true → none_of_length n back ≡ true
    → look_up (front ++ (group ++ back)) bytes ≡ look_up group bytes
among bytes n front group back e f b =
    skipped bytes front (group ++ back) (ap (λ (k : ℕ). none_of_length k front) e ∙ f)
    ∙ left_out bytes group back (ap (λ (k : ℕ). none_of_length k back) e ∙ b)

-- ---- a table without faulty entries

abbrev pub is_bad : Kind → Bool
is_bad kind.Bad = true
is_bad _ = false

-- no entry is faulty
abbrev pub all_good : List Entry → Bool
all_good es = list_all (λ (e : Entry). not (is_bad e.kind)) es

-- What the table has is looked up as something, and nothing else is.
pub had : (bytes : List ℕ) (es : List Entry) → all_good es ≡ true → has es bytes ≡ not (is_bad (look_up es bytes))
had bytes [] h = refl
had bytes (e ∷ es) h =
    let parts = and_parts (not (is_bad e.kind)) (all_good es) h in
    let rest = had bytes es parts.1 in
    elim (bytes_eq bytes e.bytes) as (λ (b : Bool). (b || has es bytes) ≡ not (is_bad (cond b e.kind (look_up es bytes)))) [ true ↦ sym parts.0 | false ↦ rest ]

-- What the table doesn't have is looked up as faulty.
pub missed : (bytes : List ℕ) (es : List Entry) → has es bytes ≡ false → look_up es bytes ≡ kind.Bad
missed bytes [] h = refl
missed bytes (e ∷ es) h =
    let rest = missed bytes es in
    (elim (bytes_eq bytes e.bytes) as (λ (b : Bool). (b || has es bytes) ≡ false → cond b e.kind (look_up es bytes) ≡ kind.Bad) [ true ↦ λ k. cc | false ↦ rest ]) h

pub not_had : (bytes : List ℕ) (es : List Entry) → all_good es ≡ true → look_up es bytes ≡ kind.Bad → has es bytes ≡ false
not_had bytes es good h = had bytes es good ∙ ap (λ (k : Kind). not (is_bad k)) h

has_one : (bytes : List ℕ) (es : List Entry) (b : Bool) → has es bytes ≡ b → (look_up es bytes ≡ kind.Bad → ⊥) → b ≡ true
has_one bytes es true e h = refl
has_one bytes es false e h = absurd (h (missed bytes es e))

pub had_one : (bytes : List ℕ) (es : List Entry) → (look_up es bytes ≡ kind.Bad → ⊥) → has es bytes ≡ true
had_one bytes es h = has_one bytes es (has es bytes) refl h

pub not_missed : (bytes : List ℕ) (es : List Entry) → all_good es ≡ true → has es bytes ≡ true → look_up es bytes ≡ kind.Bad → ⊥
not_missed bytes es good h bad = let e = not_had bytes es good bad in cc
