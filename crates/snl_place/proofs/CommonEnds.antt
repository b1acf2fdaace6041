-- Bytes that two lists have in common at their ends.
use Rattle.std.proofs.Common.{◌≡◌, ◌≢◌, ℕ, suc, ◌+◌, ◌-◌, ◌<◌, ◌≤◌, arith}
use Rattle.std.proofs.Common.{List, [], ◌∷◌, ◌++◌, length, take, drop, get_or, append_assoc}
use Rattle.std.proofs.Common.{length-drop, refl, sym, ap, ap₂, ◌∙◌}
use Rattle.std.proofs.Math.Seq.{drop-cons, take-add}
use Rattle.std.proofs.lemmas.List.{drop-append-le, drop-drop, get_or-drop, get_or-take}
use Rattle.std.proofs.lemmas.List.{length-take-le, take-append-drop, take-take, take_all, take_more}

-- One byte more at the front.
pub front_more : (xs ys : List ℕ) (i : ℕ) → i < length xs → i < length ys
    → get_or xs i 0 ≡ get_or ys i 0 → take i xs ≡ take i ys → take (i + 1) xs ≡ take (i + 1) ys
front_more xs ys i h k e same =
    take_more xs i 0 h ∙ ap₂ (λ (l : List ℕ) (b : ℕ). l ++ b ∷ []) same e ∙ sym (take_more ys i 0 k)

-- One byte more at the back.
pub back_more : (xs ys : List ℕ) (i : ℕ) → i < length xs → i < length ys
    → get_or xs (length xs - 1 - i) 0 ≡ get_or ys (length ys - 1 - i) 0
    → drop (length xs - i) xs ≡ drop (length ys - i) ys
    → drop (length xs - (i + 1)) xs ≡ drop (length ys - (i + 1)) ys
back_more xs ys i h k e same =
    let x : ℕ = length xs - 1 - i in
    let y : ℕ = length ys - 1 - i in
    let a : length xs - (i + 1) ≡ x = omega arith in
    let b : length ys - (i + 1) ≡ y = omega arith in
    let an : suc x ≡ length xs - i = omega (arith, h) in
    let bn : suc y ≡ length ys - i = omega (arith, k) in
    let rest : drop (suc x) xs ≡ drop (suc y) ys =
    ap (λ (n : ℕ). drop n xs) an ∙ same ∙ ap (λ (n : ℕ). drop n ys) (sym bn) in
    ap (λ (n : ℕ). drop n xs) a ∙ drop-cons xs x 0 (omega (arith, h))
    ∙ ap₂ (λ (z : ℕ) (l : List ℕ). z ∷ l) e rest
    ∙ sym (drop-cons ys y 0 (omega (arith, k))) ∙ ap (λ (n : ℕ). drop n ys) (sym b)

-- ---- what is left of a change

-- The front and the back of a part go to what is around it.
regrouped : (a f n k b : List ℕ) → (a ++ f) ++ (n ++ (k ++ b)) ≡ a ++ ((f ++ (n ++ k)) ++ b)
regrouped a f n k b =
    append_assoc a f (n ++ (k ++ b))
    ∙ ap (λ (l : List ℕ). a ++ l)
    (ap (λ (l : List ℕ). f ++ l) (sym (append_assoc n k b)) ∙ sym (append_assoc f (n ++ k) b))

-- The bytes before the front of what is left of a change.
first_kept : (text new : List ℕ) (start n front : ℕ) → front ≤ n
    → take front (take n (drop start text)) ≡ take front new
    → take (start + front) text ≡ take start text ++ take front new
first_kept text new start n front f head =
    take-add start front text
    ∙ ap (λ (l : List ℕ). take start text ++ l) (sym (take-take front n (drop start text) f) ∙ head)

-- The bytes from the back of what is left of a change on.
last_kept : (text kept : List ℕ) (start stop front m n back : ℕ) → start + n ≡ stop
    → n ≤ length (drop start text) → front + m ≤ n → stop - back ≡ start + (front + m)
    → drop m (drop front (take n (drop start text))) ≡ kept
    → drop (stop - back) text ≡ kept ++ drop stop text
last_kept text kept start stop front m n back end inside few place is =
    let rest : List ℕ = drop start text in
    let old : List ℕ = take n rest in
    let later : drop n rest ≡ drop stop text =
    drop-drop n start text ∙ ap (λ (i : ℕ). drop i text) end in
    let size : length old ≡ n = length-take-le n rest inside in
    ap (λ (i : ℕ). drop i text) place ∙ sym (drop-drop (front + m) start text)
    ∙ ap (drop (front + m)) (sym (take-append-drop n rest))
    ∙ drop-append-le (front + m) old (drop n rest) (omega (arith, size, few))
    ∙ ap₂ (λ (x y : List ℕ). x ++ y) (sym (drop-drop m front old) ∙ is) later

-- A change without the bytes that stay gives the same text.
trimmed_same : (text new : List ℕ) (start stop front back : ℕ) → start ≤ stop → stop ≤ length text
    → front ≤ stop - start → front ≤ length new
    → back ≤ (stop - start) - front → back ≤ length new - front
    → take front (take (stop - start) (drop start text)) ≡ take front new
    → drop (((stop - start) - front) - back) (drop front (take (stop - start) (drop start text)))
    ≡ drop ((length new - front) - back) (drop front new)
    → take (start + front) text
    ++ (take ((length new - front) - back) (drop front new) ++ drop (stop - back) text)
    ≡ take start text ++ (new ++ drop stop text)
trimmed_same text new start stop front back order inside f g b k head tail =
    let n : ℕ = stop - start in
    let m : ℕ = (n - front) - back in
    let p : ℕ = (length new - front) - back in
    let long : n ≤ length (drop start text) =
    omega (arith, length-drop start text, inside, order) in
    let first : take (start + front) text ≡ take start text ++ take front new =
    first_kept text new start n front f head in
    let place : stop - back ≡ start + (front + m) = omega (arith, order, f, b) in
    let end : start + n ≡ stop = omega (arith, order) in
    let few : front + m ≤ n = omega (arith, f, b) in
    let last : drop (stop - back) text ≡ drop p (drop front new) ++ drop stop text =
    last_kept text (drop p (drop front new)) start stop front m n back end long few place tail in
    let all : take front new ++ (take p (drop front new) ++ drop p (drop front new)) ≡ new =
    ap (λ (l : List ℕ). take front new ++ l) (take-append-drop p (drop front new))
    ∙ take-append-drop front new in
    ap₂ (λ (x y : List ℕ). x ++ (take p (drop front new) ++ y)) first last
    ∙ regrouped (take start text) (take front new) (take p (drop front new))
    (drop p (drop front new)) (drop stop text)
    ∙ ap (λ (l : List ℕ). take start text ++ (l ++ drop stop text)) all

-- What is known of a change and what is left of it, as parts of both: `old` is what it replaces,
-- `old_rest` and `rest` are what comes after the common front.
pub record IsTrim (text new old rest : List ℕ) (start stop front back : ℕ) : Type 0 where
  pub order : start ≤ stop
  pub inside : stop ≤ length text
  pub old_is : old ≡ take (stop - start) (drop start text)
  pub rest_is : rest ≡ take (length new - front) (drop front new)
  pub front_old : front ≤ length old
  pub front_new : front ≤ length new
  pub back_old : back ≤ length (take (length old - front) (drop front old))
  pub back_new : back ≤ length rest

pub trim_of : (text new : List ℕ) (start stop front back : ℕ) → start ≤ stop → stop ≤ length text
    → front ≤ length (take (stop - start) (drop start text)) → front ≤ length new
    → back ≤ length (take
    (length (take (stop - start) (drop start text)) - front)
    (drop front (take (stop - start) (drop start text))))
    → back ≤ length (take (length new - front) (drop front new))
    → IsTrim text new (take (stop - start) (drop start text))
    (take (length new - front) (drop front new)) start stop front back
trim_of text new start stop front back order inside f g b k = record {
  order = order;
  inside = inside;
  old_is = refl;
  rest_is = refl;
  front_old = f;
  front_new = g;
  back_old = b;
  back_new = k;
}

-- The lengths of these parts.
pub record HasSizes (new old rest : List ℕ) (start stop front back : ℕ) : Type 0 where
  pub part_size : length old ≡ stop - start
  pub old_rest : take (length old - front) (drop front old) ≡ drop front old
  pub old_size : length (drop front old) ≡ (stop - start) - front
  pub new_rest : rest ≡ drop front new
  pub size : length rest ≡ length new - front

sizes : (text new old rest : List ℕ) (start stop front back : ℕ)
    → IsTrim text new old rest start stop front back → HasSizes new old rest start stop front back
sizes text new old rest start stop front back h =
    let long : stop - start ≤ length (drop start text) =
    omega (arith, length-drop start text, h.inside, h.order) in
    let size : length old ≡ stop - start =
    ap length h.old_is ∙ length-take-le (stop - start) (drop start text) long in
    let new_size = length-drop front new in
    let new_rest : rest ≡ drop front new =
    h.rest_is ∙ take_all (length new - front) (drop front new) (omega (arith, new_size)) in
    let old_size = length-drop front old in
    record {
      part_size = size;
      old_rest = take_all (length old - front) (drop front old) (omega (arith, old_size));
      old_size = omega (arith, length-drop front old, size);
      new_rest = new_rest;
      size = ap length new_rest ∙ length-drop front new;
    }

-- The same text, where what is left is told as parts.
pub trimmed_parts : (text new old rest : List ℕ) (start stop front back : ℕ)
    → IsTrim text new old rest start stop front back → take front old ≡ take front new
    → drop (length (take (length old - front) (drop front old)) - back)
    (take (length old - front) (drop front old)) ≡ drop (length rest - back) rest
    → take (start + front) text ++ (take (length rest - back) rest ++ drop (stop - back) text)
    ≡ take start text ++ (new ++ drop stop text)
trimmed_parts text new old rest start stop front back h head tail =
    let s = sizes text new old rest start stop front back h in
    let old_size : length (drop front old) ≡ (stop - start) - front = s.old_size in
    let b_old : back ≤ (stop - start) - front =
    omega (arith, h.back_old, ap length s.old_rest, old_size) in
    let b_new : back ≤ length new - front = omega (arith, h.back_new, s.size) in
    let f_old : front ≤ stop - start = omega (arith, h.front_old, s.part_size) in
    let tail_old : drop (((stop - start) - front) - back) (drop front old)
    ≡ drop (length (take (length old - front) (drop front old)) - back)
    (take (length old - front) (drop front old)) =
    ap₂ (λ (n : ℕ) (l : List ℕ). drop (n - back) l)
    (sym old_size ∙ ap length (sym s.old_rest)) (sym s.old_rest) in
    let tail_new : drop (length rest - back) rest
    ≡ drop ((length new - front) - back) (drop front new) =
    ap₂ (λ (n : ℕ) (l : List ℕ). drop (n - back) l) s.size s.new_rest in
    let made = trimmed_same text new start stop front back h.order h.inside f_old h.front_new
    b_old b_new (ap (take front) (sym h.old_is) ∙ head)
    (ap (λ (l : List ℕ). drop (((stop - start) - front) - back) (drop front l)) (sym h.old_is)
    ∙ tail_old ∙ tail ∙ tail_new) in
    let kept : List ℕ = take (start + front) text in
    let later : List ℕ = drop (stop - back) text in
    ap₂ (λ (n : ℕ) (l : List ℕ). kept ++ (take (n - back) l ++ later)) s.size s.new_rest ∙ made

-- ---- what is left begins and ends with other bytes

pub first_apart : (text new old rest : List ℕ) (start stop front back : ℕ)
    → IsTrim text new old rest start stop front back
    → (front < length old → front < length new → get_or old front 0 ≢ get_or new front 0)
    → start + front < stop - back → 0 < length (take (length rest - back) rest)
    → get_or text (start + front) 0 ≢ get_or (take (length rest - back) rest) 0 0
first_apart text new old rest start stop front back h apart some many =
    let s = sizes text new old rest start stop front back h in
    let left : length (take (length rest - back) rest) ≡ length rest - back =
    length-take-le (length rest - back) rest (omega arith) in
    let in_part : front < stop - start = omega (arith, some, h.order) in
    let in_old : front < length old = omega (arith, in_part, s.part_size) in
    let in_new : front < length new = omega (arith, many, left, s.size) in
    let at_old : get_or old front 0 ≡ get_or text (start + front) 0 =
    ap (λ (l : List ℕ). get_or l front 0) h.old_is
    ∙ get_or-take (stop - start) (drop start text) front 0 in_part
    ∙ get_or-drop start text front 0 in
    let none : front + 0 ≡ front = omega arith in
    let at_new : get_or (take (length rest - back) rest) 0 0 ≡ get_or new front 0 =
    get_or-take (length rest - back) rest 0 0 (omega (arith, many, left))
    ∙ ap (λ (l : List ℕ). get_or l 0 0) s.new_rest
    ∙ get_or-drop front new 0 0 ∙ ap (λ (i : ℕ). get_or new i 0) none in
    λ e. apart in_old in_new (at_old ∙ e ∙ at_new)

pub last_apart : (text new old rest : List ℕ) (start stop front back : ℕ)
    → IsTrim text new old rest start stop front back
    → (back < length (take (length old - front) (drop front old)) → back < length rest
    → get_or (take (length old - front) (drop front old))
    (length (take (length old - front) (drop front old)) - 1 - back) 0
    ≢ get_or rest (length rest - 1 - back) 0)
    → start + front < stop - back → 0 < length (take (length rest - back) rest)
    → get_or text (stop - back - 1) 0
    ≢ get_or (take (length rest - back) rest) (length (take (length rest - back) rest) - 1) 0
last_apart text new old rest start stop front back h apart some many =
    let s = sizes text new old rest start stop front back h in
    let part : List ℕ = take (length old - front) (drop front old) in
    let size : length part ≡ (stop - start) - front = ap length s.old_rest ∙ s.old_size in
    let left : length (take (length rest - back) rest) ≡ length rest - back =
    length-take-le (length rest - back) rest (omega arith) in
    let i : ℕ = length part - 1 - back in
    let in_part : back < length part = omega (arith, some, size, h.order) in
    let in_rest : back < length rest = omega (arith, many, left) in
    let in_old : front + i < stop - start = omega (arith, in_part, size, some) in
    let place : start + (front + i) ≡ stop - back - 1 =
    omega (arith, in_part, size, some, h.order) in
    let at_old : get_or part i 0 ≡ get_or text (stop - back - 1) 0 =
    ap (λ (l : List ℕ). get_or l i 0) s.old_rest ∙ get_or-drop front old i 0
    ∙ ap (λ (l : List ℕ). get_or l (front + i) 0) h.old_is
    ∙ get_or-take (stop - start) (drop start text) (front + i) 0 in_old
    ∙ get_or-drop start text (front + i) 0 ∙ ap (λ (k : ℕ). get_or text k 0) place in
    let j : ℕ = length (take (length rest - back) rest) - 1 in
    let last : j ≡ length rest - 1 - back = omega (arith, left) in
    let at_new : get_or (take (length rest - back) rest) j 0
    ≡ get_or rest (length rest - 1 - back) 0 =
    get_or-take (length rest - back) rest j 0 (omega (arith, many, left))
    ∙ ap (λ (k : ℕ). get_or rest k 0) last in
    λ e. apart in_part in_rest (at_old ∙ e ∙ at_new)
