-- Members of a list of which the middle part is replaced: those at the front and at the back are
-- the old ones, each unit mapped.
use Rattle.std.proofs.Common.{◌≡◌, ◌≢◌, ℕ, zero, suc, ◌+◌, ◌-◌, ◌<◌, ◌≤◌, All, List, [], ◌∷◌, ◌++◌, length, map, take, drop, get_or, slice_get, Some, option_map, refl, sym, ap, ap₂, ◌∙◌, subst, arith}
use Rattle.std.specs.List.{AllByRecursion}
use Rattle.std.proofs.lemmas.List.{drop-drop, drop-map, drop-take, take-map, take-take}
use Rattle.std.proofs.lemmas.List.Elements.{All-drop, All-take, recursion_from_All}
use Rattle.std.proofs.lemmas.Option.{slice_get-map}
use Rattle.snl_cut.specs.Cut.{Rises, last_end, members, moved}
use Rattle.snl_cut.specs.CutLaws.{rises_last}

-- ---- ends

pub taken_to_last : (from n : ℕ) (ends : List ℕ) → Rises from ends → last_end from (take n ends) ≤ last_end from ends
taken_to_last from zero ends r = rises_last from ends r
taken_to_last from (suc n) [] r = omega arith
taken_to_last from (suc n) (e ∷ es) r = taken_to_last e n es r.1

pub rises_take : (from n : ℕ) (ends : List ℕ) → Rises from ends → Rises from (take n ends)
rises_take from zero ends r = tt
rises_take from (suc n) [] r = tt
rises_take from (suc n) (e ∷ es) r = (r.0, rises_take e n es r.1)

pub rises_drop : (from n : ℕ) (ends : List ℕ) → Rises from ends → Rises (last_end from (take n ends)) (drop n ends)
rises_drop from zero ends r = r
rises_drop from (suc n) [] r = tt
rises_drop from (suc n) (e ∷ es) r = rises_drop e n es r.1

pub last_of_more : (from : ℕ) (ends : List ℕ) (e : ℕ) → last_end from (ends ++ (e ∷ [])) ≡ e
last_of_more from [] e = refl
last_of_more from (x ∷ xs) e = last_of_more x xs e

pub one_end : (ends : List ℕ) → length ends ≡ 1 → ends ≡ get_or ends 0 0 ∷ []
one_end [] h = absurd (omega (arith, h))
one_end (e ∷ []) h = refl
one_end (e ∷ f ∷ es) h = absurd (omega (arith, h))

-- ---- members

pub members_take : {X : Type 0} (units : List X) (from n : ℕ) (ends : List ℕ) → take n (members units from ends) ≡ members units from (take n ends)
members_take units from zero ends = refl
members_take units from (suc n) [] = refl
members_take {X} units from (suc n) (e ∷ es) = ap (λ (l : List (List X)). take (e - from) (drop from units) ∷ l) (members_take units e n es)

pub members_drop : {X : Type 0} (units : List X) (from n : ℕ) (ends : List ℕ) → drop n (members units from ends) ≡ members units (last_end from (take n ends)) (drop n ends)
members_drop units from zero ends = refl
members_drop units from (suc n) [] = refl
members_drop units from (suc n) (e ∷ es) = members_drop units e n es

-- the member with a number, and those before it and after it
pub members_parts : {X : Type 0} (units : List X) (from k : ℕ) (ends : List ℕ) → k < length ends
    → members units from ends ≡ take k (members units from ends) ++ (take (last_end from (take (suc k) ends) - last_end from (take k ends)) (drop (last_end from (take k ends)) units) ∷ drop (suc k) (members units from ends))
members_parts units from k [] lt = absurd (omega arith)
members_parts units from zero (e ∷ es) lt = refl
members_parts {X} units from (suc k) (e ∷ es) lt = ap (λ (l : List (List X)). take (e - from) (drop from units) ∷ l) (members_parts units e k es (omega arith))

-- members among the first units
pub members_in_front : {X : Type 0} (units : List X) (n from : ℕ) (ends : List ℕ) → Rises from ends → last_end from ends ≤ n → members (take n units) from ends ≡ members units from ends
members_in_front units n from [] r le = refl
members_in_front {X} units n from (e ∷ es) r le =
    let up : e ≤ n = omega (arith, le, rises_last e es r.1) in
    let rest : from + (n - from) ≡ n = omega (arith, up, r.0) in
    ap₂ (λ (m : List X) (ms : List (List X)). m ∷ ms)
    (ap (λ (i : ℕ). take (e - from) (drop from (take i units))) (sym rest)
    ∙ ap (take (e - from)) (drop-take from (n - from) units)
    ∙ take-take (e - from) (n - from) (drop from units) (omega (arith, up)))
    (members_in_front units n e es r.1 le)

-- members of mapped units are mapped members
pub members_map : {X Y : Type 0} (f : X → Y) (units : List X) (from : ℕ) (ends : List ℕ) → members (map f units) from ends ≡ map (map f) (members units from ends)
members_map f units from [] = refl
members_map {Y = Y} f units from (e ∷ es) =
    ap₂ (λ (m : List Y) (ms : List (List Y)). m ∷ ms) (ap (take (e - from)) (drop-map f from units) ∙ take-map f (e - from) (drop from units)) (members_map f units e es)

-- members among the last units, which are mapped and moved
pub members_at_back : {X Y : Type 0} (f : X → Y) (olds : List X) (news : List Y) (b c : ℕ) → drop c news ≡ map f (drop b olds) → (from : ℕ) (ends : List ℕ) → Rises from ends → b ≤ from
    → members news ((from - b) + c) (moved b c ends) ≡ map (map f) (members olds from ends)
members_at_back f olds news b c same from [] r le = refl
members_at_back {Y = Y} f olds news b c same from (e ∷ es) r le =
    let there : (from - b) + c ≡ c + (from - b) = omega arith in
    let back : b + (from - b) ≡ from = omega (arith, le) in
    let units : drop ((from - b) + c) news ≡ map f (drop from olds) =
    ap (λ (i : ℕ). drop i news) there
    ∙ sym (drop-drop (from - b) c news)
    ∙ ap (drop (from - b)) same
    ∙ drop-map f (from - b) (drop b olds)
    ∙ ap (map f) (drop-drop (from - b) b olds ∙ ap (λ (i : ℕ). drop i olds) back) in
    let count : ((e - b) + c) - ((from - b) + c) ≡ e - from = omega (arith, le, r.0) in
    ap₂ (λ (m : List Y) (ms : List (List Y)). m ∷ ms)
    (ap (λ (i : ℕ). take i (drop ((from - b) + c) news)) count ∙ ap (take (e - from)) units ∙ take-map f (e - from) (drop from olds))
    (members_at_back f olds news b c same e es r.1 (omega (arith, le, r.0)))

-- what holds of each unit, and of each of the last ones
pub in_members : {X : Type 0} (P : X → Type 0) (units : List X) → All P units → (from : ℕ) (ends : List ℕ) → AllByRecursion (AllByRecursion P) (members units from ends)
in_members P units h from [] = tt
in_members P units h from (e ∷ es) =
    (recursion_from_All P (take (e - from) (drop from units)) (All-take P (e - from) (drop from units) (All-drop P from units h)), in_members P units h e es)

pub in_last_members : {X : Type 0} (P : X → Type 0) (units : List X) (b : ℕ) → All P (drop b units) → (from : ℕ) (ends : List ℕ) → Rises from ends → b ≤ from
    → AllByRecursion (AllByRecursion P) (members units from ends)
in_last_members P units b h from [] r le = tt
in_last_members {X} P units b h from (e ∷ es) r le =
    let back : b + (from - b) ≡ from = omega (arith, le) in
    let rest : All P (drop from units) =
    subst (λ (l : List X). All P l) (drop-drop (from - b) b units ∙ ap (λ (i : ℕ). drop i units) back) (All-drop P (from - b) (drop b units) h) in
    (recursion_from_All P (take (e - from) (drop from units)) (All-take P (e - from) (drop from units) rest), in_last_members P units b h e es r.1 (omega (arith, le, r.0)))

-- ---- an element between a front and a back

pub same_parts : {X : Type 0} (us bs : List X) (x y : X) (cs ds : List X) → length us ≡ length bs → us ++ (x ∷ cs) ≡ bs ++ (y ∷ ds) → (us ≡ bs) × (x ≡ y) × (cs ≡ ds)
same_parts [] [] x y cs ds many e = (refl, cc, cc)
same_parts [] (b ∷ bs) x y cs ds many e = absurd (omega (arith, many))
same_parts (a ∷ us) [] x y cs ds many e = absurd (omega (arith, many))
same_parts {X} (a ∷ us) (b ∷ bs) x y cs ds many e =
    let first : a ≡ b = cc in
    let others : us ++ (x ∷ cs) ≡ bs ++ (y ∷ ds) = cc in
    let rest = same_parts us bs x y cs ds (omega (arith, many)) others in
    (ap₂ (λ (z : X) (zs : List X). z ∷ zs) first rest.0, rest.1, rest.2)

pub element_at : {X : Type 0} (front : List X) (x : X) (back : List X) (k : ℕ) → length front ≡ k → slice_get (front ++ (x ∷ back)) k ≡ Some x
element_at [] x back zero e = refl
element_at [] x back (suc k) e = absurd (omega (arith, e))
element_at (z ∷ front) x back zero e = absurd (omega (arith, e))
element_at (z ∷ front) x back (suc k) e = element_at front x back k (omega (arith, e))

-- the other elements, mapped
pub others_mapped : {X : Type 0} (f : X → X) (front : List X) (x y : X) (back : List X) (i : ℕ) → i ≢ length front
    → slice_get (map f front ++ (y ∷ map f back)) i ≡ option_map f (slice_get (front ++ (x ∷ back)) i)
others_mapped f [] x y back zero ne = absurd (ne refl)
others_mapped f [] x y back (suc i) ne = slice_get-map f back i
others_mapped f (z ∷ front) x y back zero ne = refl
others_mapped f (z ∷ front) x y back (suc i) ne = others_mapped f front x y back i (λ e. ne (ap suc e))

pub got : {X : Type 0} (P : X → Type 0) (xs : List X) (i : ℕ) (x : X) → AllByRecursion P xs → slice_get xs i ≡ Some x → P x
got P [] i x h e = absurd cc
got P (y ∷ ys) zero x h e = let same : y ≡ x = cc in subst P same h.0
got P (y ∷ ys) (suc i) x h e = got P ys i x h.1 e

-- what holds of the others
pub got_other : {X : Type 0} (P : X → Type 0) (front : List X) (x : X) (back : List X) (i : ℕ) (z : X) → AllByRecursion P front → AllByRecursion P back → i ≢ length front
    → slice_get (front ++ (x ∷ back)) i ≡ Some z → P z
got_other P [] x back zero z h g ne e = absurd (ne refl)
got_other P [] x back (suc i) z h g ne e = got P back i z g e
got_other P (y ∷ front) x back zero z h g ne e = let same : y ≡ z = cc in subst P same h.0
got_other P (y ∷ front) x back (suc i) z h g ne e = got_other P front x back i z h.1 g (λ q. ne (ap suc q)) e

-- an element within the first, and one after some
pub get_taken : {X : Type 0} (n k : ℕ) (xs : List X) → k < n → slice_get (take n xs) k ≡ slice_get xs k
get_taken zero k xs lt = absurd (omega arith)
get_taken (suc n) k [] lt = refl
get_taken (suc n) zero (x ∷ xs) lt = refl
get_taken (suc n) (suc k) (x ∷ xs) lt = get_taken n k xs (omega arith)

pub get_dropped : {X : Type 0} (n k : ℕ) (xs : List X) → slice_get (drop n xs) k ≡ slice_get xs (n + k)
get_dropped zero k xs = ap (slice_get xs) (omega arith)
get_dropped (suc n) k [] = refl
get_dropped {X} (suc n) k (x ∷ xs) = let next : suc n + k ≡ suc (n + k) = omega arith in get_dropped n k xs ∙ sym (ap (slice_get (x ∷ xs)) next)
