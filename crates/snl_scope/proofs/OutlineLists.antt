-- Outlines in flat lists: parts of them, one of them, and the same by more names.
use Rattle.std.proofs.Common.{◌≡◌, ℕ, zero, suc, ◌+◌, ◌≤◌, ◌<◌, List, [], ◌∷◌, ◌++◌, length, length-append, map, option_map, take, drop, Option, Some, None, IfSome, is_some, slice_get, refl, sym, ap, ap₂, ◌∙◌, arith}
use Rattle.std.specs.List.{AllByRecursion as Each}
use Rattle.std.proofs.lemmas.List.{drop-append-le, drop-drop, length-drop, length-map, length-take-le, take-append-le}
use Rattle.snl_facts.specs.Each.{each_drop, each_take, each_weaker}
use Rattle.snl_scope.specs.declared.outlines.flat.FlatClause.{FlatClause}
use Rattle.snl_scope.specs.declared.outlines.flat.FlatDeclared.{FlatDeclared}
use Rattle.snl_scope.specs.declared.outlines.flat.FlatOutline.{FlatOutline}
use Rattle.snl_scope.specs.declared.outlines.flat.FlatRef.{FlatRef}
use Rattle.snl_summary.specs.declared.summary.Outline.{Outline}
use Rattle.snl_scope.specs.OutlineList.{AreNumbered, Extends, IsClauseNumbered, clause_by, clauses_in, declared_by, declares_before, clauses_before, declares_in, name_at, outline_by, outlines_by, ref_by, total}

pub total_append : (cs ds : List ℕ) → total (cs ++ ds) ≡ total cs + total ds
total_append [] ds = omega arith
total_append (c ∷ cs) ds = let rest = total_append cs ds in omega (arith, rest)

-- the first ones and the others have all
total_parts : {A : Type 0} (f : A → ℕ) (k : ℕ) (xs : List A) → total (map f (take k xs)) + total (map f (drop k xs)) ≡ total (map f xs)
total_parts f zero xs = omega arith
total_parts f (suc k) [] = refl
total_parts f (suc k) (x ∷ xs) = let rest = total_parts f k xs in omega (arith, rest)

pub total_within : {A : Type 0} (f : A → ℕ) (k : ℕ) (xs : List A) → total (map f (take k xs)) ≤ total (map f xs)
total_within f k xs = let parts = total_parts f k xs in omega (arith, parts)

-- one more
pub total_more : {A : Type 0} (f : A → ℕ) (i : ℕ) (x : A) (xs : List A) → slice_get xs i ≡ Some x → total (map f (take (suc i) xs)) ≡ total (map f (take i xs)) + f x
total_more f i x [] e = absurd cc
total_more f zero x (y ∷ ys) e = let same : y ≡ x = cc in let value = ap f same in omega (arith, value)
total_more f (suc i) x (y ∷ ys) e = let rest = total_more f i x ys e in omega (arith, rest)

pub total_joined : {A : Type 0} (f : A → ℕ) (xs ys : List A) → total (map f (xs ++ ys)) ≡ total (map f xs) + total (map f ys)
total_joined f [] ys = omega arith
total_joined f (x ∷ xs) ys = let rest = total_joined f xs ys in omega (arith, rest)

-- a list has as many elements as others count: so do its parts
module _ {A B : Type 0} (f : A → ℕ) (k : ℕ) (xs : List A) (ys : List B) (many : total (map f xs) ≡ length ys) where
  pub front_counts : total (map f (take k xs)) ≡ length (take (total (map f (take k xs))) ys)
  front_counts = let few = total_within f k xs in sym (length-take-le (total (map f (take k xs))) ys (omega (arith, few, many)))

  pub back_counts : total (map f (drop k xs)) ≡ length (drop (total (map f (take k xs))) ys)
  back_counts = omega (arith, total_parts f k xs, length-drop (total (map f (take k xs))) ys, many)

pub joined_counts : {A B : Type 0} (f : A → ℕ) (xs xs' : List A) (ys ys' : List B)
    → total (map f xs) ≡ length ys → total (map f xs') ≡ length ys' → total (map f (xs ++ xs')) ≡ length (ys ++ ys')
joined_counts f xs xs' ys ys' one two = omega (arith, total_joined f xs xs', length-append ys ys', one, two)

pub outlines_length : (names : List (List ℕ)) (hs : List FlatOutline) (ds : List FlatDeclared) (cs : List FlatClause) → length (outlines_by names hs ds cs) ≡ length hs
outlines_length names [] ds cs = refl
outlines_length names (h ∷ hs) ds cs = ap suc (outlines_length names hs (drop h.declares ds) (drop h.clauses cs))

-- two lists one after another
pub outlines_append : (names : List (List ℕ)) (hs gs : List FlatOutline) (ds es : List FlatDeclared) (cs fs : List FlatClause)
    → declares_in hs ≡ length ds → clauses_in hs ≡ length cs
    → outlines_by names (hs ++ gs) (ds ++ es) (cs ++ fs) ≡ outlines_by names hs ds cs ++ outlines_by names gs es fs
outlines_append names [] gs [] es [] fs p q = refl
outlines_append names [] gs (d ∷ ds) es cs fs p q = absurd (omega (arith, p))
outlines_append names [] gs [] es (c ∷ cs) fs p q = absurd (omega (arith, q))
outlines_append names (h ∷ hs) gs ds es cs fs p q =
    ap₂ (λ (a : List FlatDeclared) (b : List FlatClause). outline_by names h a b ∷ outlines_by names (hs ++ gs) (drop h.declares (ds ++ es)) (drop h.clauses (cs ++ fs)))
    (take-append-le h.declares ds es (omega (arith, p))) (take-append-le h.clauses cs fs (omega (arith, q)))
    ∙ ap (λ (l : List Outline). outline_by names h (take h.declares ds) (take h.clauses cs) ∷ l)
    (ap₂ (outlines_by names (hs ++ gs)) (drop-append-le h.declares ds es (omega (arith, p))) (drop-append-le h.clauses cs fs (omega (arith, q)))
    ∙ outlines_append names hs gs (drop h.declares ds) es (drop h.clauses cs) fs
    (omega (arith, p, length-drop h.declares ds)) (omega (arith, q, length-drop h.clauses cs)))

-- one of them
pub outline_at : (names : List (List ℕ)) (hs : List FlatOutline) (i : ℕ) (ds : List FlatDeclared) (cs : List FlatClause) (h : FlatOutline) → slice_get hs i ≡ Some h
    → slice_get (outlines_by names hs ds cs) i ≡ Some (outline_by names h (take h.declares (drop (declares_in (take i hs)) ds)) (take h.clauses (drop (clauses_in (take i hs)) cs)))
outline_at names [] i ds cs h e = absurd cc
outline_at names (g ∷ hs) zero ds cs h e = let same : g ≡ h = cc in ap (λ (x : FlatOutline). Some (outline_by names x (take x.declares ds) (take x.clauses cs))) same
outline_at names (g ∷ hs) (suc i) ds cs h e =
    outline_at names hs i (drop g.declares ds) (drop g.clauses cs) h e
    ∙ ap₂ (λ (a : List FlatDeclared) (b : List FlatClause). Some (outline_by names h (take h.declares a) (take h.clauses b)))
    (drop-drop (declares_in (take i hs)) g.declares ds) (drop-drop (clauses_in (take i hs)) g.clauses cs)

-- how many declarations and clauses are before it
pub declares_told : (names : List (List ℕ)) (hs : List FlatOutline) (i : ℕ) (ds : List FlatDeclared) (cs : List FlatClause) → declares_in hs ≡ length ds
    → declares_before (outlines_by names hs ds cs) i ≡ declares_in (take i hs)
declares_told names hs zero ds cs p = refl
declares_told names [] (suc i) ds cs p = refl
declares_told names (h ∷ hs) (suc i) ds cs p =
    let own = length-map (take h.declares ds) (declared_by names) in
    let few = length-take-le h.declares ds (omega (arith, p)) in
    let rest = declares_told names hs i (drop h.declares ds) (drop h.clauses cs) (omega (arith, p, length-drop h.declares ds)) in
    omega (arith, own, few, rest)

pub clauses_told : (names : List (List ℕ)) (hs : List FlatOutline) (i : ℕ) (ds : List FlatDeclared) (cs : List FlatClause) → clauses_in hs ≡ length cs
    → clauses_before (outlines_by names hs ds cs) i ≡ clauses_in (take i hs)
clauses_told names hs zero ds cs p = refl
clauses_told names [] (suc i) ds cs p = refl
clauses_told names (h ∷ hs) (suc i) ds cs p =
    let own = length-map (take h.clauses cs) (clause_by names) in
    let few = length-take-le h.clauses cs (omega (arith, p)) in
    let rest = clauses_told names hs i (drop h.declares ds) (drop h.clauses cs) (omega (arith, p, length-drop h.clauses cs)) in
    omega (arith, own, few, rest)

map_each : {A B : Type 0} (f g : A → B) (xs : List A) → Each (λ x. f x ≡ g x) xs → map f xs ≡ map g xs
map_each f g [] e = refl
map_each {A} {B} f g (x ∷ xs) e = ap₂ (λ (y : B) (ys : List B). y ∷ ys) e.0 (map_each f g xs e.1)

-- the same by more names
module _ (names more : List (List ℕ)) (x : Extends names more) where
  pub second_same : (o : Option ℕ) → IfSome o (λ n. n < length names) → option_map (name_at more) o ≡ option_map (name_at names) o
  second_same None h = refl
  second_same (Some n) h = ap Some (x.same n h)

  pub second_stays : (o : Option ℕ) → IfSome o (λ n. n < length names) → IfSome o (λ n. n < length more)
  second_stays None h = tt
  second_stays (Some n) h = omega (arith, h, x.longer)

  declared_same : (d : FlatDeclared) → d.name < length names → declared_by more d ≡ declared_by names d
  declared_same d h = ap (λ (n : List ℕ). record { name = n; token = d.token; variable = d.variable }) (x.same d.name h)

  ref_same : (m : FlatRef) → m.name < length names → ref_by more m ≡ ref_by names m
  ref_same m h = ap (λ (n : List ℕ). record { name = n; token = m.token }) (x.same m.name h)

  flag_same : (o : Option FlatRef) → IfSome o (λ m. m.name < length names) → option_map (ref_by more) o ≡ option_map (ref_by names) o
  flag_same None h = refl
  flag_same (Some m) h = ap Some (ref_same m h)

  flag_stays : (o : Option FlatRef) → IfSome o (λ m. m.name < length names) → IfSome o (λ m. m.name < length more)
  flag_stays None h = tt
  flag_stays (Some m) h = omega (arith, h, x.longer)

  clause_same : (c : FlatClause) → IsClauseNumbered names c → clause_by more c ≡ clause_by names c
  clause_same c h = λ j. record { variable = ref_same c.variable h.variable j; flag = flag_same c.flag h.flag j; coverage = c.coverage; kind = c.kind }

  clause_stays : (c : FlatClause) → IsClauseNumbered names c → IsClauseNumbered more c
  clause_stays c h = record { variable = omega (arith, h.variable, x.longer); flag = flag_stays c.flag h.flag }

  pub declares_same : (ds : List FlatDeclared) → Each (λ d. d.name < length names) ds → map (declared_by more) ds ≡ map (declared_by names) ds
  declares_same ds e = map_each (declared_by more) (declared_by names) ds (each_weaker (λ d. d.name < length names) (λ d. declared_by more d ≡ declared_by names d) declared_same ds e)

  pub clauses_same : (cs : List FlatClause) → Each (IsClauseNumbered names) cs → map (clause_by more) cs ≡ map (clause_by names) cs
  clauses_same cs e = map_each (clause_by more) (clause_by names) cs (each_weaker (IsClauseNumbered names) (λ c. clause_by more c ≡ clause_by names c) clause_same cs e)

  pub declares_stay : (ds : List FlatDeclared) → Each (λ d. d.name < length names) ds → Each (λ d. d.name < length more) ds
  declares_stay = each_weaker (λ d. d.name < length names) (λ d. d.name < length more) (λ d h. omega (arith, h, x.longer))

  pub clauses_stay : (cs : List FlatClause) → Each (IsClauseNumbered names) cs → Each (IsClauseNumbered more) cs
  clauses_stay = each_weaker (IsClauseNumbered names) (IsClauseNumbered more) clause_stays

  pub numbered_stays : (hs : List FlatOutline) (ds : List FlatDeclared) (cs : List FlatClause) → AreNumbered names hs ds cs → AreNumbered more hs ds cs
  numbered_stays hs ds cs n = record {
    seconds = each_weaker (λ h. IfSome h.second (λ n. n < length names)) (λ h. IfSome h.second (λ n. n < length more)) (λ h i. second_stays h.second i) hs n.seconds;
    declared = declares_stay ds n.declared;
    clauses = clauses_stay cs n.clauses;
  }

  pub outlines_same : (hs : List FlatOutline) (ds : List FlatDeclared) (cs : List FlatClause) → AreNumbered names hs ds cs → outlines_by more hs ds cs ≡ outlines_by names hs ds cs
  outlines_same [] ds cs n = refl
  outlines_same (h ∷ hs) ds cs n =
      let declared = declares_same (take h.declares ds) (each_take (λ d. d.name < length names) h.declares ds n.declared) in
      let clauses = clauses_same (take h.clauses cs) (each_take (IsClauseNumbered names) h.clauses cs n.clauses) in
      let second = second_same h.second n.seconds.0 in
      let own : outline_by more h (take h.declares ds) (take h.clauses cs) ≡ outline_by names h (take h.declares ds) (take h.clauses cs) =
      λ j. record { declares = declared j; clauses = clauses j; second = second j; role = h.role; opening = h.opening } in
      ap₂ (λ (s : Outline) (ss : List Outline). s ∷ ss) own
      (outlines_same hs (drop h.declares ds) (drop h.clauses cs) (record {
        seconds = n.seconds.1;
        declared = each_drop (λ d. d.name < length names) h.declares ds n.declared;
        clauses = each_drop (IsClauseNumbered names) h.clauses cs n.clauses;
      }))

pub named_by : (names : List (List ℕ)) (o : Option ℕ) → is_some (option_map (name_at names) o) ≡ is_some o
named_by names None = refl
named_by names (Some n) = refl
