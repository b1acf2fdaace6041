-- What makes the cut of a text one that an edit changes only near it: a piece has a byte at least,
-- and no more than there are; and its class and length depend on its own bytes and the one after it
-- alone.
use Rattle.std.specs.Prelude.{◌≡◌, ℕ, zero, suc, ◌+◌, ◌-◌, ◌<◌, ◌≤◌, ◌==◌, Bool, true, false, cond, ◌&&◌, List, [], ◌∷◌, length, take, drop, slice_index, Option, Some, None, refl}
use Rattle.std.specs.Option.{option_map}
use Rattle.std.proofs.Common.{sym, ap, ◌∙◌, subst, arith, get_or, eqb, eqb-true, length-drop, add-one, ◌⊎◌, inl, inr}
use Rattle.std.proofs.lemmas.List.{get_or-take, get_or_past, take-take, drop-take, length-take}
use Rattle.std.proofs.lemmas.Bool.Decides.{nat_tests}
use Rattle.snl_cut.specs.Cut.{IsFront, IsLocal}
use Rattle.snl_lex.specs.declared.piece.Class.{Class}
use Rattle.snl_lex.specs.declared.piece.Class.TheVariants.{White, Comment, Marker, CCode, Name, Word, Text, CharLit, Punct, Bad}
use Rattle.snl_lex.specs.declared.alphabet.Start.{Start}
use Rattle.snl_lex.specs.declared.alphabet.Start.TheVariants.{Blank, Letter, Digit, Dot, Hash, Slash, Percent, Quote, Apostrophe, Sign, Stray}
use Rattle.snl_lex.specs.Alphabet.{is_white, is_digit, is_word_byte, is_in_line, is_stray, start_of}
use Rattle.snl_lex.specs.Runs.{run_of, run_by, begins, close_of}
use Rattle.snl_lex.specs.Kinds.{has, is_word, punctuators_of_2, punctuators_of_3}
use Rattle.snl_lex.specs.Numbers.{number_joins, number_class}
use Rattle.snl_lex.specs.Pieces.{run_piece, name_piece, number_piece, closed_by, closed_piece, string_joins, string_piece, longest_punctuator, punctuator_piece, slash_piece, percent_piece, piece_by, first_piece, piece_length}

-- Pieces of texts that begin with `x`: two that agree after it, so far as one piece reaches and one
-- byte further, have equal first pieces.
abbrev IsAlone : ℕ → (List ℕ → Class × ℕ) → Type 0
IsAlone x f = (xs ys : List ℕ) → take (f (x ∷ xs)).1 xs ≡ take (f (x ∷ xs)).1 ys → f (x ∷ ys) ≡ f (x ∷ xs)

-- A piece has a byte at least, and no more than there are.
abbrev IsInside : ℕ → (List ℕ → Class × ℕ) → Type 0
IsInside x f = (xs : List ℕ) → (1 ≤ (f (x ∷ xs)).1) × ((f (x ∷ xs)).1 ≤ suc (length xs))

take_less : {X : Type 0} (m n : ℕ) (xs ys : List X) → m ≤ n → take n xs ≡ take n ys → take m xs ≡ take m ys
take_less m n xs ys le h = sym (take-take m n xs le) ∙ (ap (take m) h ∙ take-take m n ys le)

same_at : (n k : ℕ) (xs ys : List ℕ) → k < n → take n xs ≡ take n ys → get_or ys k 0 ≡ get_or xs k 0
same_at n k xs ys lt h = sym (get_or-take n ys k 0 lt) ∙ (ap (λ (l : List ℕ). get_or l k 0) (sym h) ∙ get_or-take n xs k 0 lt)

run_by_same : (joins : List ℕ → ℕ → Bool) (before xs ys : List ℕ) → take (suc (run_by joins before xs)) xs ≡ take (suc (run_by joins before xs)) ys
    → run_by joins before ys ≡ run_by joins before xs
run_by_same joins before [] [] h = refl
run_by_same joins before [] (y ∷ ys) h = cc
run_by_same joins before (x ∷ xs) [] h = cc
run_by_same joins before (x ∷ xs) (y ∷ ys) h =
    let same : x ≡ y = cc in
    let rest : take (run_by joins before (x ∷ xs)) xs ≡ take (run_by joins before (x ∷ xs)) ys = cc in
    let m : ℕ = run_by joins (x ∷ before) xs in
    let n : ℕ = run_by joins (x ∷ before) ys in
    let G : Bool → Type 0 = λ (b : Bool). take (cond b (suc m) 0) xs ≡ take (cond b (suc m) 0) ys → cond b (suc n) 0 ≡ cond b (suc m) 0 in
    let here : run_by joins before (x ∷ ys) ≡ run_by joins before (x ∷ xs) =
    (elim (joins before x) as G [ true ↦ λ e. ap suc (run_by_same joins (x ∷ before) xs ys e) | false ↦ λ e. refl ]) rest in
    subst (λ (z : ℕ). run_by joins before (z ∷ ys) ≡ run_by joins before (x ∷ xs)) same here

run_of_same : (p : ℕ → Bool) (xs ys : List ℕ) → take (suc (run_of p xs)) xs ≡ take (suc (run_of p xs)) ys → run_of p ys ≡ run_of p xs
run_of_same p [] [] h = refl
run_of_same p [] (y ∷ ys) h = cc
run_of_same p (x ∷ xs) [] h = cc
run_of_same p (x ∷ xs) (y ∷ ys) h =
    let same : x ≡ y = cc in
    let rest : take (run_of p (x ∷ xs)) xs ≡ take (run_of p (x ∷ xs)) ys = cc in
    let m : ℕ = run_of p xs in
    let n : ℕ = run_of p ys in
    let G : Bool → Type 0 = λ (b : Bool). take (cond b (suc m) 0) xs ≡ take (cond b (suc m) 0) ys → cond b (suc n) 0 ≡ cond b (suc m) 0 in
    let here : run_of p (x ∷ ys) ≡ run_of p (x ∷ xs) = (elim (p x) as G [ true ↦ λ e. ap suc (run_of_same p xs ys e) | false ↦ λ e. refl ]) rest in
    subst (λ (z : ℕ). run_of p (z ∷ ys) ≡ run_of p (x ∷ xs)) same here

pub run_of_inside : (p : ℕ → Bool) (xs : List ℕ) → run_of p xs ≤ length xs
run_of_inside p [] = omega arith
run_of_inside p (x ∷ xs) =
    let rest = run_of_inside p xs in
    elim (p x) as (λ b. cond b (suc (run_of p xs)) 0 ≤ suc (length xs)) [ true ↦ omega arith | false ↦ omega arith ]

pub run_by_inside : (joins : List ℕ → ℕ → Bool) (before xs : List ℕ) → run_by joins before xs ≤ length xs
run_by_inside joins before [] = omega arith
run_by_inside joins before (x ∷ xs) =
    let rest = run_by_inside joins (x ∷ before) xs in
    elim (joins before x) as (λ b. cond b (suc (run_by joins (x ∷ before) xs)) 0 ≤ suc (length xs)) [ true ↦ omega arith | false ↦ omega arith ]

one_more : (n : ℕ) → 1 + n ≡ suc n
one_more n = omega arith

-- Runs.
run_alone : (kind : Class) (p : ℕ → Bool) (x : ℕ) → IsAlone x (run_piece kind p)
run_alone kind p x xs ys h =
    let e : run_of p ys ≡ run_of p xs = run_of_same p xs ys (subst (λ (n : ℕ). take n xs ≡ take n ys) (one_more (run_of p xs)) h) in
    ap (λ (n : ℕ). (kind, 1 + n)) e

run_inside : (kind : Class) (p : ℕ → Bool) (x : ℕ) → IsInside x (run_piece kind p)
run_inside kind p x xs = (omega arith, omega (arith, run_of_inside p xs))

-- Runs whose bytes tell the class.
abbrev tagged : (List ℕ → Class) → List ℕ → ℕ → Class × ℕ
tagged tell u n = (tell (take n u), n)

told : (tell : List ℕ → Class) (x m n : ℕ) (xs ys : List ℕ) → n ≡ m → take (suc m) xs ≡ take (suc m) ys → tagged tell (x ∷ ys) (1 + n) ≡ tagged tell (x ∷ xs) (1 + m)
told tell x m n xs ys e h =
    let less : take m xs ≡ take m ys = take_less m (suc m) xs ys (omega arith) h in
    let front : take (1 + m) (x ∷ ys) ≡ take (1 + m) (x ∷ xs) = rw (one_more m) (ap (λ (l : List ℕ). x ∷ l) (sym less)) in
    let count : tagged tell (x ∷ ys) (1 + n) ≡ tagged tell (x ∷ ys) (1 + m) = ap (λ (k : ℕ). tagged tell (x ∷ ys) (1 + k)) e in
    let kind : tagged tell (x ∷ ys) (1 + m) ≡ tagged tell (x ∷ xs) (1 + m) = let F : List ℕ → Class × ℕ = λ (l : List ℕ). (tell l, 1 + m) in ap F front in
    count ∙ kind

name_alone : (x : ℕ) → IsAlone x name_piece
name_alone x xs ys h =
    let k : take (suc (run_of is_word_byte xs)) xs ≡ take (suc (run_of is_word_byte xs)) ys = subst (λ (n : ℕ). take n xs ≡ take n ys) (one_more (run_of is_word_byte xs)) h in
    told (λ (l : List ℕ). cond (is_word l) Word Name) x (run_of is_word_byte xs) (run_of is_word_byte ys) xs ys (run_of_same is_word_byte xs ys k) k

name_inside : (x : ℕ) → IsInside x name_piece
name_inside x xs = (omega arith, omega (arith, run_of_inside is_word_byte xs))

number_alone : (x : ℕ) → IsAlone x number_piece
number_alone x xs ys h =
    let m : ℕ = run_by number_joins (x ∷ []) xs in
    let k : take (suc m) xs ≡ take (suc m) ys = subst (λ (n : ℕ). take n xs ≡ take n ys) (one_more m) h in
    told number_class x m (run_by number_joins (x ∷ []) ys) xs ys (run_by_same number_joins (x ∷ []) xs ys k) k

number_inside : (x : ℕ) → IsInside x number_piece
number_inside x xs = (omega arith, omega (arith, run_by_inside number_joins (x ∷ []) xs))

-- A choice by the second byte.
abbrev by_second : (ℕ → Bool) → (List ℕ → Class × ℕ) → (List ℕ → Class × ℕ) → List ℕ → Class × ℕ
by_second test f g u = cond (test (slice_index u 1)) (f u) (g u)

choice_at : (test : ℕ → Bool) (f g : List ℕ → Class × ℕ) (x : ℕ) → IsAlone x f → IsAlone x g → IsInside x f → IsInside x g → (xs ys : List ℕ) (b : Bool) → test (slice_index (x ∷ xs) 1) ≡ b
    → take (cond b (f (x ∷ xs)) (g (x ∷ xs))).1 xs ≡ take (cond b (f (x ∷ xs)) (g (x ∷ xs))).1 ys → by_second test f g (x ∷ ys) ≡ cond b (f (x ∷ xs)) (g (x ∷ xs))
choice_at test f g x af ag wf wg xs ys true t h =
    let second : get_or ys 0 0 ≡ get_or xs 0 0 = same_at (f (x ∷ xs)).1 0 xs ys (omega (arith, (wf xs).0)) h in
    ap (λ (b : Bool). cond b (f (x ∷ ys)) (g (x ∷ ys))) (ap test second ∙ t) ∙ af xs ys h
choice_at test f g x af ag wf wg xs ys false t h =
    let second : get_or ys 0 0 ≡ get_or xs 0 0 = same_at (g (x ∷ xs)).1 0 xs ys (omega (arith, (wg xs).0)) h in
    ap (λ (b : Bool). cond b (f (x ∷ ys)) (g (x ∷ ys))) (ap test second ∙ t) ∙ ag xs ys h

choice_alone : (test : ℕ → Bool) (f g : List ℕ → Class × ℕ) (x : ℕ) → IsAlone x f → IsAlone x g → IsInside x f → IsInside x g → IsAlone x (by_second test f g)
choice_alone test f g x af ag wf wg xs ys h = choice_at test f g x af ag wf wg xs ys (test (slice_index (x ∷ xs) 1)) refl h

choice_inside : (test : ℕ → Bool) (f g : List ℕ → Class × ℕ) (x : ℕ) → IsInside x f → IsInside x g → IsInside x (by_second test f g)
choice_inside test f g x wf wg xs =
    elim (test (slice_index (x ∷ xs) 1)) as (λ b. (1 ≤ (cond b (f (x ∷ xs)) (g (x ∷ xs))).1) × ((cond b (f (x ∷ xs)) (g (x ∷ xs))).1 ≤ suc (length xs))) [
      | true ↦ wf xs
      | false ↦ wg xs
    ]

-- Up to a closing pair.
begins_some : (b : ℕ) (xs : List ℕ) → begins b xs ≡ true → 1 ≤ length xs
begins_some b [] h = cc
begins_some b (x ∷ xs) h = omega arith

begins_same : (b m : ℕ) (xs ys : List ℕ) → 1 ≤ m → take m xs ≡ take m ys → begins b ys ≡ begins b xs
begins_same b zero xs ys le h = absurd (omega arith)
begins_same b (suc m) [] [] le h = refl
begins_same b (suc m) [] (y ∷ ys) le h = cc
begins_same b (suc m) (x ∷ xs) [] le h = cc
begins_same b (suc m) (x ∷ xs) (y ∷ ys) le h = let same : y ≡ x = cc in ap (λ (n : ℕ). eqb n b) same

counted : (o : Option ℕ) (n : ℕ) → option_map suc o ≡ Some n → (m : ℕ) × ((o ≡ Some m) × (n ≡ suc m))
counted None n h = cc
counted (Some m) n h = (m, (refl, cc))

close_least_at : (a b : ℕ) (xs : List ℕ) (n : ℕ) (c d : Bool) → begins b xs ≡ d → cond (c && d) (Some 2) (option_map suc (close_of a b xs)) ≡ Some n
    → ((m : ℕ) → close_of a b xs ≡ Some m → (2 ≤ m) × (m ≤ length xs)) → (2 ≤ n) × (n ≤ suc (length xs))
close_least_at a b xs n true true t h again = let same : n ≡ 2 = cc in (omega arith, omega (arith, begins_some b xs t))
close_least_at a b xs n true false t h again = let m = counted (close_of a b xs) n h in let le = again m.0 m.1.0 in (omega (arith, m.1.1, le.0), omega (arith, m.1.1, le.1))
close_least_at a b xs n false d t h again = let m = counted (close_of a b xs) n h in let le = again m.0 m.1.0 in (omega (arith, m.1.1, le.0), omega (arith, m.1.1, le.1))

pub close_least : (a b : ℕ) (u : List ℕ) (n : ℕ) → close_of a b u ≡ Some n → (2 ≤ n) × (n ≤ length u)
close_least a b [] n h = cc
close_least a b (x ∷ xs) n h = close_least_at a b xs n (eqb x a) (begins b xs) refl h (close_least a b xs)

close_same_at : (o q : Option ℕ) (n : ℕ) (c : Bool) → cond c (Some 2) (option_map suc o) ≡ Some n → ((m : ℕ) → o ≡ Some m → n ≡ suc m → q ≡ Some m) → cond c (Some 2) (option_map suc q) ≡ Some n
close_same_at o q n true h again = h
close_same_at o q n false h again = let m = counted o n h in ap (option_map suc) (again m.0 m.1.0 m.1.1) ∙ ap Some (sym m.1.1)

tails_same : (n : ℕ) (x y : ℕ) (xs ys : List ℕ) → take (suc n) (x ∷ xs) ≡ take (suc n) (y ∷ ys) → take n xs ≡ take n ys
tails_same n x y xs ys h = cc

pub close_same : (a b : ℕ) (u v : List ℕ) (n : ℕ) → close_of a b u ≡ Some n → take n u ≡ take n v → close_of a b v ≡ Some n
close_same a b [] v n h e = cc
close_same a b (x ∷ xs) [] n h e =
    let le : 2 ≤ n = (close_least a b (x ∷ xs) n h).0 in
    absurd (omega (arith, ap length e, length-take n (x ∷ xs), length-take {A = ℕ} n []))
close_same a b (x ∷ xs) (y ∷ ys) n h e =
    let le : 2 ≤ n = (close_least a b (x ∷ xs) n h).0 in
    let same : y ≡ x = same_at n 0 (x ∷ xs) (y ∷ ys) (omega arith) e in
    let fit : n ≡ suc (n - 1) = omega arith in
    let tails : take (n - 1) xs ≡ take (n - 1) ys = tails_same (n - 1) x y xs ys (subst (λ (m : ℕ). take m (x ∷ xs) ≡ take m (y ∷ ys)) fit e) in
    let next : begins b ys ≡ begins b xs = begins_same b (n - 1) xs ys (omega arith) tails in
    let test : (eqb y a && begins b ys) ≡ (eqb x a && begins b xs) = ap (λ (m : ℕ). eqb m a && begins b ys) same ∙ ap (λ (d : Bool). eqb x a && d) next in
    ap (λ (c : Bool). cond c (Some 2) (option_map suc (close_of a b ys))) test
    ∙ close_same_at (close_of a b xs) (close_of a b ys) n (eqb x a && begins b xs) h
    (λ m f k. close_same a b xs ys m f (let less : n - 1 ≡ m = omega (arith, k) in subst (λ (z : ℕ). take z xs ≡ take z ys) less tails))

whole : (xs ys : List ℕ) → take (suc (length xs)) xs ≡ take (suc (length xs)) ys → xs ≡ ys
whole [] [] h = refl
whole [] (y ∷ ys) h = cc
whole (x ∷ xs) [] h = cc
whole (x ∷ xs) (y ∷ ys) h =
    let rest : take (suc (length xs)) xs ≡ take (suc (length xs)) ys = cc in
    let same : x ≡ y = cc in
    let all : xs ≡ ys = whole xs ys rest in
    cc

part_same : (n : ℕ) (xs ys : List ℕ) → take (1 + n) xs ≡ take (1 + n) ys → take n (drop 1 xs) ≡ take n (drop 1 ys)
part_same n xs ys h = sym (drop-take 1 n xs) ∙ (ap (drop 1) h ∙ drop-take 1 n ys)

closed_at : (kind : Class) (a b x : ℕ) (xs ys : List ℕ) (o : Option ℕ) → close_of a b (drop 1 xs) ≡ o
    → take (closed_by kind (suc (length xs)) o).1 xs ≡ take (closed_by kind (suc (length xs)) o).1 ys → closed_piece kind a b (x ∷ ys) ≡ closed_by kind (suc (length xs)) o
closed_at kind a b x xs ys None e h = ap (λ (l : List ℕ). closed_piece kind a b (x ∷ l)) (sym (whole xs ys h)) ∙ ap (closed_by kind (suc (length xs))) e
closed_at kind a b x xs ys (Some n) e h =
    let part : take n (drop 1 xs) ≡ take n (drop 1 ys) = part_same n xs ys (take_less (1 + n) (2 + n) xs ys (omega arith) h) in
    ap (closed_by kind (suc (length ys))) (close_same a b (drop 1 xs) (drop 1 ys) n e part)

closed_alone : (kind : Class) (a b x : ℕ) → IsAlone x (closed_piece kind a b)
closed_alone kind a b x xs ys h = closed_at kind a b x xs ys (close_of a b (drop 1 xs)) refl h

closed_inside_at : (kind : Class) (a b x : ℕ) (xs : List ℕ) (o : Option ℕ) → close_of a b (drop 1 xs) ≡ o
    → (1 ≤ (closed_by kind (suc (length xs)) o).1) × ((closed_by kind (suc (length xs)) o).1 ≤ suc (length xs))
closed_inside_at kind a b x xs None e = (omega arith, omega arith)
closed_inside_at kind a b x xs (Some n) e = let le = close_least a b (drop 1 xs) n e in (omega arith, omega (arith, le.0, le.1, length-drop 1 xs))

closed_inside : (kind : Class) (a b x : ℕ) → IsInside x (closed_piece kind a b)
closed_inside kind a b x xs = closed_inside_at kind a b x xs (close_of a b (drop 1 xs)) refl

-- Strings.
abbrev ended : Class → ℕ → Bool → Class × ℕ
ended kind n b = cond b (kind, 1 + (1 + n)) (Bad, 1 + n)

reaches : (kind : Class) (n : ℕ) (b : Bool) → suc n ≤ (ended kind n b).1
reaches kind n true = omega arith
reaches kind n false = omega arith

string_alone : (kind : Class) (quote x : ℕ) → IsAlone x (string_piece kind quote)
string_alone kind quote x xs ys h =
    let m : ℕ = run_by (string_joins quote) [] xs in
    let n : ℕ = run_by (string_joins quote) [] ys in
    let near : take (suc m) xs ≡ take (suc m) ys = take_less (suc m) (string_piece kind quote (x ∷ xs)).1 xs ys (reaches kind m (eqb (slice_index (x ∷ xs) (1 + m)) quote)) h in
    let same : n ≡ m = run_by_same (string_joins quote) [] xs ys near in
    let after : slice_index (x ∷ ys) (1 + m) ≡ slice_index (x ∷ xs) (1 + m) = same_at (suc (suc m)) (1 + m) (x ∷ xs) (x ∷ ys) (omega arith) (ap (λ (l : List ℕ). x ∷ l) near) in
    let count : ended kind n (eqb (slice_index (x ∷ ys) (1 + n)) quote) ≡ ended kind m (eqb (slice_index (x ∷ ys) (1 + m)) quote) = ap (λ (k : ℕ). ended kind k (eqb (slice_index (x ∷ ys) (1 + k)) quote)) same in
    count ∙ ap (λ (b : ℕ). ended kind m (eqb b quote)) after

string_inside_at : (kind : Class) (quote n : ℕ) (xs : List ℕ) (b : Bool) → n ≤ length xs → (b ≡ true → suc n ≤ length xs) → (1 ≤ (ended kind n b).1) × ((ended kind n b).1 ≤ suc (length xs))
string_inside_at kind quote n xs true le more = (omega arith, omega (arith, more refl))
string_inside_at kind quote n xs false le more = (omega arith, omega arith)

past : (x n : ℕ) (xs : List ℕ) → length xs ≤ n → slice_index (x ∷ xs) (1 + n) ≡ 0
past x n xs le = get_or_past (x ∷ xs) (1 + n) 0 (omega arith)

split : (a b : ℕ) → (a < b) ⊎ (b ≤ a)
split a b = grind (arith, nat_tests)

quote_there : (quote x n : ℕ) (xs : List ℕ) → 0 < quote → eqb (slice_index (x ∷ xs) (1 + n)) quote ≡ true → suc n ≤ length xs
quote_there quote x n xs pos t =
    elim (split n (length xs)) [
      | inl less ↦ omega arith
      | inr more ↦ absurd (omega (arith, past x n xs more, eqb-true (slice_index (x ∷ xs) (1 + n)) quote t))
    ]

string_inside : (kind : Class) (quote x : ℕ) → 0 < quote → IsInside x (string_piece kind quote)
string_inside kind quote x pos xs =
    let m : ℕ = run_by (string_joins quote) [] xs in
    string_inside_at kind quote m xs (eqb (slice_index (x ∷ xs) (1 + m)) quote) (run_by_inside (string_joins quote) [] xs) (quote_there quote x m xs pos)

-- Punctuators.
abbrev two : ℕ → ℕ → Bool
two a b = has punctuators_of_2 (a ∷ b ∷ [])

abbrev three : ℕ → ℕ → ℕ → Bool
three a b c = has punctuators_of_3 (a ∷ b ∷ c ∷ [])

abbrev longest : ℕ → ℕ → ℕ → ℕ
longest a b c = cond (three a b c) 3 (cond (two a b) 2 1)

-- The first two bytes of a punctuator of three are a punctuator.
three_needs_two : (a b c : ℕ) → three a b c ≡ true → two a b ≡ true
three_needs_two a b c h = grind (arith, nat_tests)

abbrev sized : Bool → Bool → ℕ
sized p q = cond p 3 (cond q 2 1)

punctuators_same_at : (a b c d : ℕ) (p q r : Bool) → three a b c ≡ p → two a b ≡ q → three a b d ≡ r → (2 ≤ sized p q → d ≡ c) → sized r q ≡ sized p q
punctuators_same_at a b c d true q true hp hq hr same = refl
punctuators_same_at a b c d true q false hp hq hr same = let e : three a b d ≡ three a b c = ap (three a b) (same (omega arith)) in cc
punctuators_same_at a b c d false true true hp hq hr same = let e : three a b d ≡ three a b c = ap (three a b) (same (omega arith)) in cc
punctuators_same_at a b c d false true false hp hq hr same = refl
punctuators_same_at a b c d false false true hp hq hr same = let e : two a b ≡ true = three_needs_two a b d hr in cc
punctuators_same_at a b c d false false false hp hq hr same = refl

punctuators_same : (a b c d : ℕ) → (2 ≤ longest a b c → d ≡ c) → longest a b d ≡ longest a b c
punctuators_same a b c d same = punctuators_same_at a b c d (three a b c) (two a b) (three a b d) refl refl refl same

longest_least : (a b c : ℕ) → 1 ≤ longest a b c
longest_least a b c =
    elim (three a b c) as (λ p. 1 ≤ cond p 3 (cond (two a b) 2 1)) [ true ↦ omega arith | false ↦ elim (two a b) as (λ q. 1 ≤ cond q 2 1) [ true ↦ omega arith | false ↦ omega arith ] ]

punctuator_alone : (x : ℕ) → IsAlone x punctuator_piece
unfolding longest_punctuator
punctuator_alone x xs ys h =
    let a : ℕ = get_or xs 0 0 in
    let b : ℕ = get_or xs 1 0 in
    let n : ℕ = longest x a b in
    let second : get_or ys 0 0 ≡ a = same_at n 0 xs ys (omega (arith, longest_least x a b)) h in
    let third : 2 ≤ n → get_or ys 1 0 ≡ b = λ le. same_at n 1 xs ys (omega arith) h in
    let lengths : longest x (get_or ys 0 0) (get_or ys 1 0) ≡ n = ap (λ (m : ℕ). longest x m (get_or ys 1 0)) second ∙ punctuators_same x a b (get_or ys 1 0) third in
    ap (λ (m : ℕ). (Punct, m)) lengths

no_three : (a b c : ℕ) → three a b c ≡ true → (0 < b) × (0 < c)
no_three a b c h = (grind (arith, nat_tests), grind (arith, nat_tests))

no_two : (a b : ℕ) → two a b ≡ true → 0 < b
no_two a b h = grind (arith, nat_tests)

there : (xs : List ℕ) (k : ℕ) → 0 < get_or xs k 0 → k < length xs
there xs k h = elim (split k (length xs)) [ inl less ↦ less | inr more ↦ absurd (omega (arith, get_or_past xs k 0 more)) ]

punctuator_inside_at : (x : ℕ) (xs : List ℕ) (p q : Bool) → three x (get_or xs 0 0) (get_or xs 1 0) ≡ p → two x (get_or xs 0 0) ≡ q → (1 ≤ cond p 3 (cond q 2 1)) × (cond p 3 (cond q 2 1) ≤ suc (length xs))
punctuator_inside_at x xs true q hp hq = (omega arith, omega (arith, there xs 1 (no_three x (get_or xs 0 0) (get_or xs 1 0) hp).1))
punctuator_inside_at x xs false true hp hq = (omega arith, omega (arith, there xs 0 (no_two x (get_or xs 0 0) hq)))
punctuator_inside_at x xs false false hp hq = (omega arith, omega arith)

punctuator_inside : (x : ℕ) → IsInside x punctuator_piece
unfolding longest_punctuator
punctuator_inside x xs = punctuator_inside_at x xs (three x (get_or xs 0 0) (get_or xs 1 0)) (two x (get_or xs 0 0)) refl refl

-- All pieces.
slash_alone : (x : ℕ) → IsAlone x slash_piece
slash_alone x =
    let closed = closed_alone Comment 42 47 x in
    let rest = choice_alone (λ b. b == 42) (closed_piece Comment 42 47) punctuator_piece x closed (punctuator_alone x) (closed_inside Comment 42 47 x) (punctuator_inside x) in
    choice_alone (λ b. b == 47) (run_piece Comment is_in_line) (by_second (λ b. b == 42) (closed_piece Comment 42 47) punctuator_piece) x (run_alone Comment is_in_line x) rest (run_inside Comment is_in_line x)
    (choice_inside (λ b. b == 42) (closed_piece Comment 42 47) punctuator_piece x (closed_inside Comment 42 47 x) (punctuator_inside x))

slash_inside : (x : ℕ) → IsInside x slash_piece
slash_inside x =
    choice_inside (λ b. b == 47) (run_piece Comment is_in_line) (by_second (λ b. b == 42) (closed_piece Comment 42 47) punctuator_piece) x (run_inside Comment is_in_line x)
    (choice_inside (λ b. b == 42) (closed_piece Comment 42 47) punctuator_piece x (closed_inside Comment 42 47 x) (punctuator_inside x))

percent_alone : (x : ℕ) → IsAlone x percent_piece
percent_alone x =
    let closed = closed_alone CCode 125 37 x in
    let rest = choice_alone (λ b. b == 123) (closed_piece CCode 125 37) punctuator_piece x closed (punctuator_alone x) (closed_inside CCode 125 37 x) (punctuator_inside x) in
    choice_alone (λ b. b == 37) (run_piece CCode is_in_line) (by_second (λ b. b == 123) (closed_piece CCode 125 37) punctuator_piece) x (run_alone CCode is_in_line x) rest (run_inside CCode is_in_line x)
    (choice_inside (λ b. b == 123) (closed_piece CCode 125 37) punctuator_piece x (closed_inside CCode 125 37 x) (punctuator_inside x))

percent_inside : (x : ℕ) → IsInside x percent_piece
percent_inside x =
    choice_inside (λ b. b == 37) (run_piece CCode is_in_line) (by_second (λ b. b == 123) (closed_piece CCode 125 37) punctuator_piece) x (run_inside CCode is_in_line x)
    (choice_inside (λ b. b == 123) (closed_piece CCode 125 37) punctuator_piece x (closed_inside CCode 125 37 x) (punctuator_inside x))

by_alone : (s : Start) (x : ℕ) → IsAlone x (piece_by s)
by_alone Blank x = run_alone White is_white x
by_alone Letter x = name_alone x
by_alone Digit x = number_alone x
by_alone Dot x = choice_alone is_digit number_piece punctuator_piece x (number_alone x) (punctuator_alone x) (number_inside x) (punctuator_inside x)
by_alone Hash x = run_alone Marker is_in_line x
by_alone Slash x = slash_alone x
by_alone Percent x = percent_alone x
by_alone Quote x = string_alone Text 34 x
by_alone Apostrophe x = string_alone CharLit 39 x
by_alone Sign x = punctuator_alone x
by_alone Stray x = run_alone Bad is_stray x

by_inside : (s : Start) (x : ℕ) → IsInside x (piece_by s)
by_inside Blank x = run_inside White is_white x
by_inside Letter x = name_inside x
by_inside Digit x = number_inside x
by_inside Dot x = choice_inside is_digit number_piece punctuator_piece x (number_inside x) (punctuator_inside x)
by_inside Hash x = run_inside Marker is_in_line x
by_inside Slash x = slash_inside x
by_inside Percent x = percent_inside x
by_inside Quote x = string_inside Text 34 x (omega arith)
by_inside Apostrophe x = string_inside CharLit 39 x (omega arith)
by_inside Sign x = punctuator_inside x
by_inside Stray x = run_inside Bad is_stray x

pub piece_front : IsFront piece_length
unfolding first_piece
piece_front [] h = absurd (omega arith)
piece_front (x ∷ xs) h = by_inside (start_of x) x xs

-- The class of the first piece depends on no more than its length does.
pub first_same : (u v : List ℕ) → 0 < length u → take (piece_length u + 1) u ≡ take (piece_length u + 1) v → first_piece v ≡ first_piece u
unfolding first_piece
first_same [] v h e = absurd (omega arith)
first_same (x ∷ xs) [] h e = let k = rw add-one at e in cc
first_same (x ∷ xs) (y ∷ ys) h e =
    let n : ℕ = (piece_by (start_of x) (x ∷ xs)).1 in
    let k : x ∷ take n xs ≡ y ∷ take n ys = rw add-one at e in
    let same : x ≡ y = cc in
    let rest : take n xs ≡ take n ys = cc in
    let here : piece_by (start_of x) (x ∷ ys) ≡ piece_by (start_of x) (x ∷ xs) = by_alone (start_of x) x xs ys rest in
    subst (λ (z : ℕ). piece_by (start_of z) (z ∷ ys) ≡ piece_by (start_of x) (x ∷ xs)) same here

pub piece_local : IsLocal piece_length
piece_local u v h e = ap (λ (p : Class × ℕ). p.1) (first_same u v h e)
