-- What is found of one sort is told by the leaves, and by the tokens.
use Rattle.std.proofs.Common.{◌≡◌, ℕ, suc, Bool, true, false, not, ◌&&◌, ◌||◌, if◌then◌else◌, List, [], ◌∷◌, ◌++◌, map, filter, Option, Some, None, is_some, refl, ap, sym, ◌∙◌, subst}
use Rattle.std.proofs.lemmas.Bool.{false≢true}
use Rattle.std.proofs.lemmas.List.{map-append}
use Rattle.std.proofs.lemmas.List.Elements.{filter-append}
use Rattle.std.proofs.Math.Path.{fun_ext}
use Rattle.std.specs.List.{flat_map}
use Rattle.snl_lex.specs.declared.kind.Kind.{Kind}
use Rattle.snl_lex.specs.declared.kind.Kind.TheVariants as kind
use Rattle.snl_grammar.specs.declared.tree.item.Item.{Item}
use Rattle.snl_grammar.specs.declared.tree.item.Item.TheVariants as items
use Rattle.snl_grammar.specs.declared.tree.state.StateMember.{StateMember}
use Rattle.snl_grammar.specs.declared.tree.state.StateMember.TheVariants as members
use Rattle.snl_grammar.specs.Spelling.Base.{Matches, Spelled}
use Rattle.snl_grammar.specs.Spelling.Items.{spell_item}
use Rattle.snl_grammar.specs.Tokens.{ahead, numbered}
use Rattle.snl_walk.specs.declared.occurrence.Occurrence.{Occurrence}
use Rattle.snl_walk.specs.declared.occurrence.What.{What}
use Rattle.snl_walk.specs.declared.occurrence.What.TheVariants as what
use Rattle.snl_walk.specs.Declares.{declared_by_state}
use Rattle.snl_walk.specs.Items.{found_in_member, occurrences, outside}
use Rattle.snl_walk.specs.Scopes.{Names, under_names}
use Rattle.snl_walk.specs.Uses.{is_target, targets, tokens_where}
use Rattle.snl_item_laws.specs.Mentions.{hides, is_change, is_jump, is_name, is_named, is_state, jumps, leaves_where, looked_up_in, names_from, names_in, number_if, places, places_from, states_from, states_in, transition_in, transitions_in}
use Rattle.snl_item_laws.proofs.Told.{Case, Sort, a_change, a_jump, a_name, a_target, leading, passing, hidden, is_quiet, jump_here, lead_here, may_pass, name_here, none, passed, quiet, stay_here, target_here}
use Rattle.snl_item_laws.proofs.ToldExpressions.{FoundTold, found_at, found_sort, sort_of}
use Rattle.snl_item_laws.proofs.ToldStatements.{Leads, block_told, declaration_told}
use Rattle.snl_item_laws.proofs.ToldItems.{foreign_told, function_told, in_leads, struct_told, looked_up_told, spelled_told}

abbrev name_sort : Sort → Bool
name_sort a_name = true
name_sort _ = false

abbrev jump_sort : Sort → Bool
jump_sort a_jump = true
jump_sort _ = false

abbrev change_sort : Sort → Bool
change_sort a_change = true
change_sort _ = false

abbrev target_sort : Sort → Bool
target_sort a_target = true
target_sort _ = false

same_name : (w : What) → name_sort (sort_of w) ≡ is_named w
same_name (what.Name m) = refl
same_name (what.Declaration is_wrong) = refl
same_name (what.Jump in_loop) = refl
same_name (what.Change in_transition) = refl
same_name what.Target = refl

same_jump : (w : What) → jump_sort (sort_of w) ≡ is_jump w
same_jump (what.Name m) = refl
same_jump (what.Declaration is_wrong) = refl
same_jump (what.Jump in_loop) = refl
same_jump (what.Change in_transition) = refl
same_jump what.Target = refl

same_change : (w : What) → change_sort (sort_of w) ≡ is_change w
same_change (what.Name m) = refl
same_change (what.Declaration is_wrong) = refl
same_change (what.Jump in_loop) = refl
same_change (what.Change in_transition) = refl
same_change what.Target = refl

same_target : (w : What) → target_sort (sort_of w) ≡ is_target w
same_target (what.Name m) = refl
same_target (what.Declaration is_wrong) = refl
same_target (what.Jump in_loop) = refl
same_target (what.Change in_transition) = refl
same_target what.Target = refl

-- a token at which nothing is found passes none of the tests
record IsQuiet (k : Kind) : Type 0 where
  no_name : is_name k ≡ false
  no_jump : jumps k ≡ false
  no_state : is_state k ≡ false
  shows : hides k ≡ false

quiet_is : (k : Kind) → is_quiet k ≡ true → IsQuiet k
quiet_is k q = by (is_name k) (jumps k) (is_state k) (hides k) refl refl refl refl q
  where
    by : (a b c d : Bool) → is_name k ≡ a → jumps k ≡ b → is_state k ≡ c → hides k ≡ d → not (a || b || c || d) ≡ true → IsQuiet k
    by false false false false n j s h e = record { no_name = n; no_jump = j; no_state = s; shows = h }
    by false false false true n j s h e = absurd (false≢true e)
    by false false true d n j s h e = absurd (false≢true e)
    by false true c d n j s h e = absurd (false≢true e)
    by true b c d n j s h e = absurd (false≢true e)

-- where those of one sort are
abbrev at_sort : (Sort → Bool) → List Occurrence → List ℕ
at_sort p ys = map found_at (filter (λ y. p (found_sort y)) ys)

-- by what is found first
first_found : (p : Sort → Bool) (y : Occurrence) (ys : List Occurrence) (s : Sort) → found_sort y ≡ s → at_sort p (y ∷ ys) ≡ (if p s then found_at y ∷ at_sort p ys else at_sort p ys)
first_found p y ys s is = ap (λ t. map found_at (if p t then y ∷ filter (λ z. p (found_sort z)) ys else filter (λ z. p (found_sort z)) ys)) is ∙ both (p s)
  where
    both : (b : Bool) → map found_at (if b then y ∷ filter (λ z. p (found_sort z)) ys else filter (λ z. p (found_sort z)) ys) ≡ (if b then found_at y ∷ at_sort p ys else at_sort p ys)
    both true = refl
    both false = refl

-- ---- names

next_name : (hidden_here h : Bool) (k : Kind) (o : Option ℕ) (xs : List Spelled) → is_name k ≡ false → hides k ≡ h → names_from hidden_here ((k, o) ∷ xs) ≡ names_from h xs
next_name b h k o xs n e = ap (λ t. number_if (t && not b) o ++ names_from (hides k) xs) n ∙ ap (λ t. names_from t xs) e

names_told : {has : Case → Type 0} → (has passing → ⊥) → {ys : List Occurrence} {xs : List Spelled} → FoundTold has ys xs → at_sort name_sort ys ≡ names_in xs
names_told barred none = refl
names_told barred (quiet {ys} {xs} k o q l) = let is = quiet_is k q in names_told barred l ∙ sym (next_name false false k o xs is.no_name is.shows)
names_told barred (hidden {ys} {xs} k n h e j s l) = names_told barred l ∙ sym (next_name false true k None ((kind.Name, Some n) ∷ xs) e h)
names_told barred (name_here {ys} {xs} y is l) = first_found name_sort y ys a_name is ∙ ap (λ ns. found_at y ∷ ns) (names_told barred l)
names_told barred (jump_here {ys} {xs} k y j e s h is l) = first_found name_sort y ys a_jump is ∙ names_told barred l ∙ sym (next_name false false k (Some (found_at y)) xs e h)
names_told barred (stay_here {ys} {xs} y n p is l) = first_found name_sort y ys a_change is ∙ names_told barred l
names_told barred (lead_here {ys} {xs} y t p is to l) = first_found name_sort y (t ∷ ys) a_change is ∙ first_found name_sort t ys a_target to ∙ names_told barred l
names_told barred (target_here {ys} {xs} t p to l) = first_found name_sort t ys a_target to ∙ names_told barred l
names_told barred (passed x p e l) = absurd (barred p)

-- ---- jumps, by the tokens

not_there : (m : ℕ) (k q : Kind) (qs : List Kind) → k ≡ q → jumps k ≡ false → places_from m jumps (q ∷ qs) ≡ places_from (suc m) jumps qs
not_there m k q qs same j = ap (λ t. (if t then m ∷ [] else []) ++ places_from (suc m) jumps qs) (subst (λ z. jumps z ≡ false) same j)

there : (m : ℕ) (k q : Kind) (qs : List Kind) → k ≡ q → jumps k ≡ true → places_from m jumps (q ∷ qs) ≡ m ∷ places_from (suc m) jumps qs
there m k q qs same j = ap (λ t. (if t then m ∷ [] else []) ++ places_from (suc m) jumps qs) (subst (λ z. jumps z ≡ true) same j)

pass_no_jump : (x : Spelled) → may_pass x ≡ true → jumps x.0 ≡ false
pass_no_jump x e = by (jumps x.0) refl e
  where
    by : (b : Bool) → jumps x.0 ≡ b → not (b || (is_state x.0 && is_some x.1)) ≡ true → jumps x.0 ≡ false
    by false j e = j
    by true j e = absurd (false≢true e)

jumps_told : {has : Case → Type 0} {ys : List Occurrence} {xs : List Spelled} → FoundTold has ys xs → (m : ℕ) (kinds : List Kind) → Matches xs (numbered m kinds) → at_sort jump_sort ys ≡ places_from m jumps kinds
jumps_told none m [] h = refl
jumps_told none m (q ∷ qs) h = absurd h
jumps_told (quiet k o e l) m [] h = absurd h
jumps_told (quiet k o e l) m (q ∷ qs) h = jumps_told l (suc m) qs h.1 ∙ sym (not_there m k q qs h.0.0 (quiet_is k e).no_jump)
jumps_told (hidden k n hi e j s l) m [] h = absurd h
jumps_told (hidden k n hi e j s l) m (a ∷ []) h = absurd h.1
jumps_told (hidden k n hi e j s l) m (a ∷ b ∷ qs) h =
    jumps_told l (suc (suc m)) qs h.1.1 ∙ sym (not_there m k a (b ∷ qs) h.0.0 j ∙ not_there (suc m) kind.Name b qs h.1.0.0 refl)
jumps_told (name_here y is l) m [] h = absurd h
jumps_told (name_here {ys} {xs} y is l) m (q ∷ qs) h = first_found jump_sort y ys a_name is ∙ jumps_told l (suc m) qs h.1 ∙ sym (not_there m kind.Name q qs h.0.0 refl)
jumps_told (jump_here k y j e s hi is l) m [] h = absurd h
jumps_told (jump_here {ys} {xs} k y j e s hi is l) m (q ∷ qs) h =
    first_found jump_sort y ys a_jump is ∙ ap (λ n. n ∷ at_sort jump_sort ys) h.0.1 ∙ ap (λ ns. m ∷ ns) (jumps_told l (suc m) qs h.1) ∙ sym (there m k q qs h.0.0 j)
jumps_told (stay_here y n p is l) m [] h = absurd h
jumps_told (stay_here y n p is l) m (a ∷ []) h = absurd h.1
jumps_told (stay_here {ys} {xs} y n p is l) m (a ∷ b ∷ qs) h =
    first_found jump_sort y ys a_change is ∙ jumps_told l (suc (suc m)) qs h.1.1 ∙ sym (not_there m kind.State a (b ∷ qs) h.0.0 refl ∙ not_there (suc m) kind.Name b qs h.1.0.0 refl)
jumps_told (lead_here y t p is to l) m [] h = absurd h
jumps_told (lead_here y t p is to l) m (a ∷ []) h = absurd h.1
jumps_told (lead_here {ys} {xs} y t p is to l) m (a ∷ b ∷ qs) h =
    first_found jump_sort y (t ∷ ys) a_change is ∙ first_found jump_sort t ys a_target to ∙ jumps_told l (suc (suc m)) qs h.1.1 ∙ sym (not_there m kind.State a (b ∷ qs) h.0.0 refl ∙ not_there (suc m) kind.Name b qs h.1.0.0 refl)
jumps_told (target_here t p to l) m [] h = absurd h
jumps_told (target_here t p to l) m (a ∷ []) h = absurd h.1
jumps_told (target_here {ys} {xs} t p to l) m (a ∷ b ∷ qs) h =
    first_found jump_sort t ys a_target to ∙ jumps_told l (suc (suc m)) qs h.1.1 ∙ sym (not_there m kind.State a (b ∷ qs) h.0.0 refl ∙ not_there (suc m) kind.Name b qs h.1.0.0 refl)
jumps_told (passed x p e l) m [] h = absurd h
jumps_told (passed x p e l) m (q ∷ qs) h = jumps_told l (suc m) qs h.1 ∙ sym (not_there m x.0 q qs h.0.0 (pass_no_jump x e))

-- ---- changes

no_change : (k : Kind) (o : Option ℕ) (xs : List Spelled) → is_state k ≡ false → leaves_where is_state ((k, o) ∷ xs) ≡ leaves_where is_state xs
no_change k o xs s = ap (λ t. number_if t o ++ leaves_where is_state xs) s

pass_no_change : (k : Kind) (o : Option ℕ) (xs : List Spelled) → may_pass (k, o) ≡ true → leaves_where is_state ((k, o) ∷ xs) ≡ leaves_where is_state xs
pass_no_change k None xs e = by (is_state k) refl
  where
    by : (b : Bool) → is_state k ≡ b → leaves_where is_state ((k, None) ∷ xs) ≡ leaves_where is_state xs
    by true s = ap (λ t. number_if t None ++ leaves_where is_state xs) s
    by false s = no_change k None xs s
pass_no_change k (Some n) xs e = by (jumps k) (is_state k) refl refl e
  where
    by : (a b : Bool) → jumps k ≡ a → is_state k ≡ b → not (a || (b && true)) ≡ true → leaves_where is_state ((k, Some n) ∷ xs) ≡ leaves_where is_state xs
    by false false j s e = no_change k (Some n) xs s
    by false true j s e = absurd (false≢true e)
    by true b j s e = absurd (false≢true e)

changes_told : {has : Case → Type 0} {ys : List Occurrence} {xs : List Spelled} → FoundTold has ys xs → at_sort change_sort ys ≡ leaves_where is_state xs
changes_told none = refl
changes_told (quiet {ys} {xs} k o q l) = changes_told l ∙ sym (no_change k o xs (quiet_is k q).no_state)
changes_told (hidden {ys} {xs} k n h e j s l) = changes_told l ∙ sym (no_change k None ((kind.Name, Some n) ∷ xs) s)
changes_told (name_here {ys} {xs} y is l) = first_found change_sort y ys a_name is ∙ changes_told l
changes_told (jump_here {ys} {xs} k y j e s h is l) = first_found change_sort y ys a_jump is ∙ changes_told l ∙ sym (no_change k (Some (found_at y)) xs s)
changes_told (stay_here {ys} {xs} y n p is l) = first_found change_sort y ys a_change is ∙ ap (λ ns. found_at y ∷ ns) (changes_told l)
changes_told (lead_here {ys} {xs} y t p is to l) = first_found change_sort y (t ∷ ys) a_change is ∙ ap (λ ns. found_at y ∷ ns) (first_found change_sort t ys a_target to ∙ changes_told l)
changes_told (target_here {ys} {xs} t p to l) = first_found change_sort t ys a_target to ∙ changes_told l
changes_told (passed {ys} {xs} x p e l) = changes_told l ∙ sym (pass_no_change x.0 x.1 xs e)

-- ---- targets

no_targets : {has : Case → Type 0} → (has leading → ⊥) → {ys : List Occurrence} {xs : List Spelled} → FoundTold has ys xs → at_sort target_sort ys ≡ []
no_targets barred none = refl
no_targets barred (quiet k o q l) = no_targets barred l
no_targets barred (hidden k n h e j s l) = no_targets barred l
no_targets barred (name_here {ys} {xs} y is l) = first_found target_sort y ys a_name is ∙ no_targets barred l
no_targets barred (jump_here {ys} {xs} k y j e s h is l) = first_found target_sort y ys a_jump is ∙ no_targets barred l
no_targets barred (stay_here {ys} {xs} y n p is l) = first_found target_sort y ys a_change is ∙ no_targets barred l
no_targets barred (lead_here y t p is to l) = absurd (barred p)
no_targets barred (target_here t p to l) = absurd (barred p)
no_targets barred (passed x p e l) = no_targets barred l

next_state : (named s : Bool) (k : Kind) (o : Option ℕ) (xs : List Spelled) → is_name k ≡ false → is_state k ≡ s → states_from named ((k, o) ∷ xs) ≡ states_from s xs
next_state named s k o xs n e = ap (λ t. number_if (t && named) o ++ states_from (is_state k) xs) n ∙ ap (λ t. states_from t xs) e

module _ (rest : List Spelled) where
  targets_told : {ys : List Occurrence} {xs : List Spelled} → FoundTold (Leads true) ys xs → at_sort target_sort ys ++ states_in rest ≡ states_in (xs ++ rest)
  targets_told none = refl
  targets_told (quiet {ys} {xs} k o q l) = let is = quiet_is k q in targets_told l ∙ sym (next_state false false k o (xs ++ rest) is.no_name is.no_state)
  targets_told (hidden {ys} {xs} k n h e j s l) = targets_told l ∙ sym (next_state false false k None ((kind.Name, Some n) ∷ xs ++ rest) e s)
  targets_told (name_here {ys} {xs} y is l) = ap (λ ns. ns ++ states_in rest) (first_found target_sort y ys a_name is) ∙ targets_told l
  targets_told (jump_here {ys} {xs} k y j e s h is l) =
      ap (λ ns. ns ++ states_in rest) (first_found target_sort y ys a_jump is) ∙ targets_told l ∙ sym (next_state false false k (Some (found_at y)) (xs ++ rest) e s)
  targets_told (stay_here y n p is l) = absurd p
  targets_told (lead_here {ys} {xs} y t p is to l) =
      ap (λ ns. ns ++ states_in rest) (first_found target_sort y (t ∷ ys) a_change is ∙ first_found target_sort t ys a_target to) ∙ ap (λ ns. found_at t ∷ ns) (targets_told l)
  targets_told (target_here {ys} {xs} t p to l) = ap (λ ns. ns ++ states_in rest) (first_found target_sort t ys a_target to) ∙ ap (λ ns. found_at t ∷ ns) (targets_told l)
  targets_told (passed x p e l) = absurd p

-- ---- items

-- all but names that are passed over
abbrev Counts : Case → Type 0
Counts passing = ⊥
Counts _ = Unit {0}

abbrev Anything : Case → Type 0
Anything c = Unit {0}

abbrev Nothing : Case → Type 0
Nothing c = ⊥

by_sort : (p : Sort → Bool) (test : What → Bool) → ((w : What) → p (sort_of w) ≡ test w) → (found : List Occurrence) → tokens_where (λ o. test o.what) found ≡ at_sort p found
by_sort p test same found = ap (λ (t : Occurrence → Bool). map found_at (filter t found)) (sym (fun_ext (λ (o : Occurrence). same o.what)))

module _ (bytes : ℕ → List ℕ) (t : Item) where
  pub names_found : tokens_where (λ o. is_named o.what) (occurrences bytes t) ≡ names_in (looked_up_in t)
  names_found = by_sort name_sort is_named same_name (occurrences bytes t) ∙ names_told (λ p. p) (looked_up_told bytes Counts tt tt t)

  pub changes_found : tokens_where (λ o. is_change o.what) (occurrences bytes t) ≡ leaves_where is_state (spell_item t)
  changes_found = by_sort change_sort is_change same_change (occurrences bytes t) ∙ changes_told (spelled_told bytes Anything tt tt tt t)

  pub jumps_found : (kinds : List Kind) → Matches (spell_item t) (ahead kinds 0) → tokens_where (λ o. is_jump o.what) (occurrences bytes t) ≡ places jumps kinds
  unfolding ahead
  jumps_found kinds spelled = by_sort jump_sort is_jump same_jump (occurrences bytes t) ∙ jumps_told (spelled_told bytes Anything tt tt tt t) 0 kinds spelled

module _ (bytes : ℕ → List ℕ) where
  member_targets : (visible : Names) (m : StateMember) (rest : List Spelled) → at_sort target_sort (found_in_member bytes visible m) ++ states_in rest ≡ states_in (transition_in m ++ rest)
  member_targets visible (members.Declaration d) rest = ap (λ ns. ns ++ states_in rest) (no_targets (λ p. p) (declaration_told bytes Nothing visible false d))
  member_targets visible (members.Foreign ns) rest = ap (λ ns. ns ++ states_in rest) (no_targets (λ p. p) (foreign_told bytes Nothing visible ns))
  member_targets visible (members.Clause clause) rest = refl
  member_targets visible (members.OptionLine line) rest = refl
  member_targets visible members.Empty rest = refl
  member_targets visible (members.CBlock n) rest = refl
  member_targets visible (members.Entry block) rest = ap (λ ns. ns ++ states_in rest) (no_targets (λ p. p) (block_told bytes block visible outside))
  member_targets visible (members.Exit block) rest = ap (λ ns. ns ++ states_in rest) (no_targets (λ p. p) (block_told bytes block visible outside))
  member_targets visible (members.When t) rest = targets_told rest (in_leads bytes visible t)

  sorted-append : (p : Sort → Bool) (xs ys : List Occurrence) → at_sort p (xs ++ ys) ≡ at_sort p xs ++ at_sort p ys
  sorted-append p xs ys =
      let test : Occurrence → Bool = λ o. p (found_sort o) in
      ap (λ l. map found_at l) (filter-append test xs ys) ∙ map-append found_at (filter test xs) (filter test ys)

  members_targets : (visible : Names) (ms : List StateMember) → at_sort target_sort (flat_map (found_in_member bytes visible) ms) ≡ states_in (flat_map transition_in ms)
  members_targets visible [] = refl
  members_targets visible (m ∷ ms) =
      sorted-append target_sort (found_in_member bytes visible m) (flat_map (found_in_member bytes visible) ms)
      ∙ ap (λ ns. at_sort target_sort (found_in_member bytes visible m) ++ ns) (members_targets visible ms)
      ∙ member_targets visible m (flat_map transition_in ms)

  item_targets : (t : Item) → at_sort target_sort (occurrences bytes t) ≡ states_in (transitions_in t)
  unfolding occurrences
  item_targets (items.Definition d) = no_targets (λ p. p) (declaration_told bytes Nothing [] false d)
  item_targets (items.Entry block) = no_targets (λ p. p) (block_told bytes block [] outside)
  item_targets (items.Exit block) = no_targets (λ p. p) (block_told bytes block [] outside)
  item_targets (items.StateBlock name ms) = members_targets (under_names bytes (declared_by_state bytes ms)) ms
  item_targets (items.Function f) = no_targets (λ p. p) (function_told bytes (Leads false) tt f.parameters f.body)
  item_targets (items.StructDef name ms) = no_targets (λ p. p) (struct_told bytes Nothing ms)
  item_targets t = refl

  pub targets_found : (t : Item) → targets (occurrences bytes t) ≡ states_in (transitions_in t)
  targets_found t = by_sort target_sort is_target same_target (occurrences bytes t) ∙ item_targets t
