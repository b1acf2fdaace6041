-- Elements that are added to flat lists, and outlines that are told by them.
use Rattle.std.proofs.Common.{◌≡◌, ℕ, ◌<◌, Bool, true, false, List, [], ◌∷◌, ◌++◌, length, length-append, get_or, map, option_map, take, Option, Some, None, IfSome, is_some, if◌then◌else◌, refl, sym, ap, ap₂, ◌∙◌, arith}
use Rattle.std.specs.List.{AllByRecursion as Each, position}
use Rattle.std.specs.Str.{bytes_eq}
use Rattle.std.proofs.lemmas.List.{append_assoc, get_or_append_left, length-map, map-append, take_all}
use Rattle.std.proofs.lemmas.List.Quantifiers.{position-Some}
use Rattle.std.proofs.lemmas.Slice.Eq.{bytes_eq-Decides}
use Rattle.snl_facts.specs.Each.{each_append}
use Rattle.snl_scope.specs.declared.outlines.flat.FlatClause.{FlatClause}
use Rattle.snl_scope.specs.declared.outlines.flat.FlatDeclared.{FlatDeclared}
use Rattle.snl_scope.specs.declared.outlines.flat.FlatOutline.{FlatOutline}
use Rattle.snl_summary.specs.declared.summary.Declared.{Declared}
use Rattle.snl_summary.specs.declared.summary.Outline.{Outline}
use Rattle.snl_summary.specs.declared.summary.VariableClause.{VariableClause}
use Rattle.snl_names.specs.NameBook.{with_name}
use Rattle.snl_scope.specs.Names.{state_entries}
use Rattle.snl_scope.specs.OutlineList.{Adds, AddsClauses, AddsDeclared, Extends, IsClauseNumbered, clause_by, declared_by, name_at, outline_by}
use Rattle.snl_scope.proofs.JoinedOutlines.{AreTold}
use Rattle.snl_scope.proofs.OutlineLists.{clauses_same, clauses_stay, declares_same, declares_stay}

-- a name that is found has its number
pub name_is : (names : List (List ℕ)) (name : List ℕ) (n : ℕ) → position (bytes_eq name) names ≡ Some n → get_or names n [] ≡ name
name_is names name n h = sym ((bytes_eq-Decides name (get_or names n [])).0 (position-Some (bytes_eq name) names n [] h).1)

pub name_within : (names : List (List ℕ)) (name : List ℕ) (n : ℕ) → position (bytes_eq name) names ≡ Some n → n < length names
name_within names name n h = (position-Some (bytes_eq name) names n [] h).0

pub extends_name : (names : List (List ℕ)) (name : List ℕ) → Extends names (with_name names name)
extends_name names name = by (is_some (position (bytes_eq name) names))
  where
    by : (b : Bool) → Extends names (if b then names else names ++ name ∷ [])
    by true = record { longer = omega arith; same = λ n h. refl }
    by false = record { longer = omega (arith, length-append names (name ∷ [])); same = λ n h. get_or_append_left names (name ∷ []) [] n h }

pub extends_more : (one two three : List (List ℕ)) → Extends one two → Extends two three → Extends one three
extends_more one two three x y = record { longer = omega (arith, x.longer, y.longer); same = λ n h. y.same n (omega (arith, h, x.longer)) ∙ x.same n h }

-- one element more
adds_more : {X Y : Type 0} (tell more : X → Y) (P Q : X → Type 0) (old list : List X) (told : List Y) (x : X) (y : Y)
    → Adds tell P old list told → ((xs : List X) → Each P xs → map more xs ≡ map tell xs) → ((xs : List X) → Each P xs → Each Q xs)
    → more x ≡ y → Q x → Adds more Q old (list ++ x ∷ []) (told ++ y ∷ [])
adds_more {X} {Y} tell more P Q old list told x y a same stay is here = record {
  more = a.more ++ x ∷ [];
  list = ap (λ (l : List X). l ++ x ∷ []) a.list ∙ append_assoc old a.more (x ∷ []);
  as_told = map-append more a.more (x ∷ []) ∙ ap₂ (λ (l : List Y) (z : Y). l ++ z ∷ []) (same a.more a.each ∙ a.as_told) is;
  each = each_append Q a.more (x ∷ []) (stay a.more a.each) (here, tt);
}

pub declared_more : (names more : List (List ℕ)) (x : Extends names more) (old list : List FlatDeclared) (told : List Declared) (d : FlatDeclared) (e : Declared)
    → AddsDeclared names old list told → declared_by more d ≡ e → d.name < length more → AddsDeclared more old (list ++ d ∷ []) (told ++ e ∷ [])
declared_more names more x old list told d e a is here =
    adds_more (declared_by names) (declared_by more) (λ d. d.name < length names) (λ d. d.name < length more) old list told d e a
    (declares_same names more x) (declares_stay names more x) is here

pub clauses_more : (names more : List (List ℕ)) (x : Extends names more) (old list : List FlatClause) (told : List VariableClause) (c : FlatClause) (e : VariableClause)
    → AddsClauses names old list told → clause_by more c ≡ e → IsClauseNumbered more c → AddsClauses more old (list ++ c ∷ []) (told ++ e ∷ [])
clauses_more names more x old list told c e a is here =
    adds_more (clause_by names) (clause_by more) (IsClauseNumbered names) (IsClauseNumbered more) old list told c e a
    (clauses_same names more x) (clauses_stay names more x) is here

-- the same by more names
pub declared_extended : (names more : List (List ℕ)) (x : Extends names more) (old list : List FlatDeclared) (told : List Declared) → AddsDeclared names old list told → AddsDeclared more old list told
declared_extended names more x old list told a = record { more = a.more; list = a.list; as_told = declares_same names more x a.more a.each ∙ a.as_told; each = declares_stay names more x a.more a.each }

-- as many elements are added as are told
adds_many : {X Y : Type 0} {tell : X → Y} {P : X → Type 0} {old new : List X} {told : List Y} (a : Adds tell P old new told) → length a.more ≡ length told
adds_many {X} {Y} {tell} a = sym (length-map a.more tell) ∙ ap length a.as_told

adds_told : {X Y : Type 0} {tell : X → Y} {P : X → Type 0} {old new : List X} {told : List Y} {n : ℕ} (a : Adds tell P old new told) → n ≡ length told → map tell (take n a.more) ≡ told
adds_told {X} {Y} {tell} {P} {old} {new} {told} {n} a many = ap (map tell) (take_all n a.more (omega (arith, many, adds_many a))) ∙ a.as_told

-- one outline is told by the declarations and clauses that are added for it
pub one_told : {names : List (List ℕ)} {ds ds' : List FlatDeclared} {cs cs' : List FlatClause} (h : FlatOutline) (s : Outline)
    (declares : AddsDeclared names ds ds' s.declares) (clauses : AddsClauses names cs cs' s.clauses)
    → option_map (name_at names) h.second ≡ s.second → IfSome h.second (λ n. n < length names)
    → h.declares ≡ length s.declares → h.clauses ≡ length s.clauses → h.role ≡ s.role → h.opening ≡ s.opening
    → AreTold names (h ∷ []) declares.more clauses.more (s ∷ [])
one_told {names} h s declares clauses second numbered many many-2 role opening =
    let d = adds_told declares many in
    let c = adds_told clauses many-2 in
    let own : outline_by names h (take h.declares declares.more) (take h.clauses clauses.more) ≡ s =
    λ j. record { declares = d j; clauses = c j; second = second j; role = role j; opening = opening j } in
    record {
      flat = record {
        numbered = record { seconds = (numbered, tt); declared = declares.each; clauses = clauses.each };
        declares = omega (arith, many, adds_many declares);
        clauses = omega (arith, many-2, adds_many clauses);
      };
      outlines = ap (λ (o : Outline). o ∷ []) own;
    }

-- what the name of a state brings goes by the head of its outline alone
pub state_same : (names : List (List ℕ)) (h : FlatOutline) (ds : List FlatDeclared) (cs : List FlatClause) (p : Option ℕ) (i : ℕ)
    → state_entries p i (outline_by names h [] []) ≡ state_entries p i (outline_by names h ds cs)
state_same names h ds cs None i = refl
state_same names h ds cs (Some k) i = refl
