-- What is found of items in order, and that items are in order of which nothing is found.
use Rattle.std.proofs.Common.{◌≡◌, ◌⊎◌, inl, inr, ℕ, zero, suc, ◌<◌, ◌≤◌, Bool, true, false, not, ◌||◌, List, [], ◌∷◌, ◌++◌, get_or, length, map, Option, Some, None, refl, ap, ◌∙◌, sym, subst, arith}
use Rattle.std.specs.Prelude.{All, if◌then◌else◌, is_none, option_and_then, slice_get}
use Rattle.std.specs.List.{AllByRecursion as Each, Contains}
use Rattle.std.specs.Option.{option_map_or}
use Rattle.std.proofs.lemmas.Bool.{and_from, and_parts, cases_Bool, cases_eq, cases_lt, lt-ltb, or_left, or_right, true≢false}
use Rattle.std.proofs.lemmas.List.{map-append}
use Rattle.std.proofs.lemmas.List.Elements.{All-from_recursion, Contains-append_left, Contains-append_right}
use Rattle.snl_codes.specs.declared.code.Code.{Code}
use Rattle.snl_codes.specs.declared.code.Code.TheVariants.{E03, E04, E05, E06}
use Rattle.snl_facts.specs.Each.{each_append, each_by, each_map, each_weaker}
use Rattle.snl_scope.specs.declared.facts.LinkFault.{LinkFault}
use Rattle.snl_scope.specs.Below.{all_below, any_below}
use Rattle.snl_scope.specs.BelowLaws.{any_below_none, each_below}
use Rattle.snl_scope.specs.Clauses.{clause_faults}
use Rattle.snl_scope.specs.Linked.{faults_of}
use Rattle.snl_scope.specs.LinkedItems.{LinkedItems, kind_is}
use Rattle.snl_scope.specs.Names.{name_faults}
use Rattle.snl_scope.specs.Order.{at_item, at_items_where, exceeds, found_if, has_begun, header_faults, if_missing, is_barred, is_barred_in_sets, is_faulty, is_late, is_later_program, is_misplaced, is_program_item, is_repeated_header, is_ss_item, is_state, is_stateless, is_unmatched, misplaced_items, missing_states, order_faults, phase, phase_of, unmatched_braces}
use Rattle.snl_scope.specs.Places.{begins_set, enclosing_set, open_before}
use Rattle.snl_summary.specs.declared.summary.ItemKind.{ItemKind}
use Rattle.snl_summary.specs.declared.summary.ItemKind.TheVariants.{Faulty, Header, SsBegin, SsEnd, State, Entry, Exit, Declaration, Foreign, Clause, OptionLine, Function, StructDef, CBlock, Empty}
use Rattle.snl_summary.specs.declared.summary.Outline.{Outline}
use Rattle.snl_table_laws.specs.Order.{AreSetsFree, IsAtProgramLevel, IsBarred, IsDeclared, IsInOrder, MayBe, Parts}
use Rattle.std.proofs.lemmas.Option.{slice_get_within}
use Rattle.snl_table_laws.proofs.OrderCodes.{IsOther, clauses_other, names_other}
use Rattle.snl_table_laws.proofs.Phases.{exceeds_parts, in_place, phase_outside, some_below}

-- ---- an E03 is at an item that is misplaced

abbrev AtMisplaced : LinkedItems → LinkFault → Type 0
AtMisplaced l f = f.code ≡ E03 → (is_misplaced l f.item ≡ true) × (f.item < length l.outlines)

other_items : (l : LinkedItems) (code : Code) (test : ℕ → Bool) (n : ℕ) → (code ≡ E03 → ⊥) → Each (AtMisplaced l) (at_items_where code test n)
other_items l code test n other =
    each_map (AtMisplaced l) (at_item code) (all_below test n) (each_by (λ i. AtMisplaced l (at_item code i)) (λ i e. absurd (other e)) (all_below test n))

other_missing : (l : LinkedItems) (code : Code) (b : Bool) (n : ℕ) → (code ≡ E03 → ⊥) → Each (AtMisplaced l) (found_if b code n)
other_missing l code true n other = ((λ e. absurd (other e)), tt)
other_missing l code false n other = tt

no_e04 : E04 ≡ E03 → ⊥
no_e04 e = absurd cc

no_e05 : E05 ≡ E03 → ⊥
no_e05 e = absurd cc

no_e06 : E06 ≡ E03 → ⊥
no_e06 e = absurd cc

order_found : (l : LinkedItems) → Each (AtMisplaced l) (order_faults l)
order_found l =
    let ss : List Outline = l.outlines in
    let n : ℕ = length ss in
    let P : LinkFault → Type 0 = AtMisplaced l in
    let first : Each P (misplaced_items l) =
    each_map P (at_item E03) (all_below (is_misplaced l) n) (each_below (λ i. P (at_item E03 i)) (is_misplaced l) n (λ k lt is. λ e. (is, lt))) in
    let braces : Each P (unmatched_braces ss) = other_items l E04 (is_unmatched ss) n no_e04 in
    let headers : Each P (header_faults l) =
    each_append P (at_items_where E05 (is_repeated_header l) n) (if_missing E05 (is_program_item ss) n) (other_items l E05 (is_repeated_header l) n no_e05) (other_missing l E05 (not (any_below (is_program_item ss) n)) n no_e05) in
    let states : Each P (missing_states ss) =
    each_append P (at_items_where E06 (is_stateless ss) n) (if_missing E06 (is_ss_item ss) n) (other_items l E06 (is_stateless ss) n no_e06) (other_missing l E06 (not (any_below (is_ss_item ss) n)) n no_e06) in
    each_append P ((misplaced_items l ++ unmatched_braces ss) ++ header_faults l) (missing_states ss)
    (each_append P (misplaced_items l ++ unmatched_braces ss) (header_faults l) (each_append P (misplaced_items l) (unmatched_braces ss) first braces) headers) states

links_found : (l : LinkedItems) → Each (AtMisplaced l) (faults_of l)
links_found l =
    let P : LinkFault → Type 0 = AtMisplaced l in
    let by_other : (f : LinkFault) → IsOther f → P f = λ f other e. absurd (other e) in
    each_append P (order_faults l ++ name_faults l) (clause_faults l.outlines)
    (each_append P (order_faults l) (name_faults l) (order_found l) (each_weaker IsOther P by_other (name_faults l) (names_other l)))
    (each_weaker IsOther P by_other (clause_faults l.outlines) (clauses_other l.outlines))

all_found : (l : LinkedItems) → All (AtMisplaced l) (faults_of l)
all_found l = All-from_recursion (AtMisplaced l) (faults_of l) (links_found l)

pub none_outside : (l : LinkedItems) → IsInOrder l → All (λ f. f.code ≡ E03 → IsAtProgramLevel l f.item → ⊥) (faults_of l)
none_outside l o k d lt e level =
    let told = all_found l k d lt e in
    true≢false (sym told.0 ∙ in_place l o (get_or (faults_of l) k d).item level)

-- ---- items in a state set

phase_inside : (l : LinkedItems) (i set : ℕ) → enclosing_set l.outlines i ≡ Some set → phase l i ≡ None
phase_inside l i set inside = ap (λ o. if is_none o then option_and_then (phase_of (has_begun l i)) (slice_get l.kinds i) else None) inside

exceeds_none : (x : Option ℕ) → exceeds x None ≡ false
exceeds_none None = refl
exceeds_none (Some a) = refl

early_inside : (l : LinkedItems) (i set : ℕ) → enclosing_set l.outlines i ≡ Some set → is_late l i ≡ false
early_inside l i set inside =
    any_below_none (λ j. exceeds (phase l j) (phase l i)) i (λ j lt. ap (exceeds (phase l j)) (phase_inside l i set inside) ∙ exceeds_none (phase l j))

barred_kind : (kind : ItemKind) → is_barred_in_sets kind ≡ true → IsBarred kind
barred_kind Faulty h = absurd cc
barred_kind Header h = inl refl
barred_kind SsBegin h = absurd cc
barred_kind SsEnd h = absurd cc
barred_kind State h = absurd cc
barred_kind Entry h = inr (inr (inl refl))
barred_kind Exit h = inr (inr (inr (inl refl)))
barred_kind Declaration h = absurd cc
barred_kind Foreign h = absurd cc
barred_kind Clause h = absurd cc
barred_kind OptionLine h = inr (inl refl)
barred_kind Function h = inr (inr (inr (inr (inl refl))))
barred_kind StructDef h = inr (inr (inr (inr (inr refl))))
barred_kind CBlock h = absurd cc
barred_kind Empty h = absurd cc

barred_by : (l : LinkedItems) (i set : ℕ) (k : Option ItemKind) → AreSetsFree l → enclosing_set l.outlines i ≡ Some set → slice_get l.kinds i ≡ k → option_map_or is_barred_in_sets k false ≡ true → ⊥
barred_by l i set None free inside is h = absurd cc
barred_by l i set (Some kind) free inside is h = free i set kind inside is (barred_kind kind h)

placed_inside : (l : LinkedItems) (i set : ℕ) → AreSetsFree l → enclosing_set l.outlines i ≡ Some set → is_misplaced l i ≡ true → ⊥
placed_inside l i set free inside h =
    let parts = and_parts (is_late l i || is_barred l i) (not (is_later_program l.outlines i)) h in
    let barred : is_barred l i ≡ true = sym (ap (λ b. b || is_barred l i) (early_inside l i set inside)) ∙ parts.0 in
    let there : is_barred l i ≡ kind_is is_barred_in_sets l i = ap (λ b. kind_is (λ k. if b then is_state k else is_barred_in_sets k) l i) (ap is_none inside) in
    barred_by l i set (slice_get l.kinds i) free inside refl (sym there ∙ barred)

none_at : (l : LinkedItems) (i : ℕ) (o : Option ℕ) → IsInOrder l → AreSetsFree l → i < length l.outlines → enclosing_set l.outlines i ≡ o → is_misplaced l i ≡ true → ⊥
none_at l i None order free within is h = true≢false (sym h ∙ in_place l order i (record { within = within; outside = is }))
none_at l i (Some set) order free within is h = placed_inside l i set free is h

pub none_found : (l : LinkedItems) → IsInOrder l → AreSetsFree l → All (λ f. f.code ≡ E03 → ⊥) (faults_of l)
none_found l order free k d lt e =
    let f : LinkFault = get_or (faults_of l) k d in
    let told = all_found l k d lt e in
    none_at l f.item (enclosing_set l.outlines f.item) order free told.1 refl told.0

-- ---- items of which nothing is found

found_there : (code : Code) (test : ℕ → Bool) (n i : ℕ) → i < n → test i ≡ true → Contains (at_items_where code test n) (at_item code i)
found_there code test zero i lt h = absurd (omega arith)
found_there code test (suc n) i lt h =
    let last : List ℕ = if test n then n ∷ [] else [] in
    let split : at_items_where code test (suc n) ≡ at_items_where code test n ++ map (at_item code) last = map-append (at_item code) (all_below test n) last in
    subst (λ (xs : List LinkFault). Contains xs (at_item code i)) (sym split)
    (elim (cases_eq i n) [
      | inl e ↦
          let is : test n ≡ true = subst (λ (k : ℕ). test k ≡ true) e h in
          let here : Contains (map (at_item code) last) (at_item code n) = subst (λ (b : Bool). Contains (map (at_item code) (if b then n ∷ [] else [])) (at_item code n)) (sym is) (0, omega arith, refl) in
          Contains-append_right (at_items_where code test n) (map (at_item code) last) (at_item code i)
          (subst (λ (k : ℕ). Contains (map (at_item code) last) (at_item code k)) (sym e) here)
      | inr other ↦ Contains-append_left (at_items_where code test n) (map (at_item code) last) (at_item code i) (found_there code test n i (omega arith) h)
    ])

among_is : (fs : List LinkFault) (f : LinkFault) (among : Contains fs f) → get_or fs among.0 f ≡ f
among_is fs f among = among.2

-- None of the findings is an E03 or an E05 at program level.
abbrev pub NoneFound : LinkedItems → Type 0
NoneFound l = All (λ f. (f.code ≡ E03) ⊎ (f.code ≡ E05) → IsAtProgramLevel l f.item → ⊥) (faults_of l)

not_found : (l : LinkedItems) (f : LinkFault) → NoneFound l → Contains (faults_of l) f → (f.code ≡ E03) ⊎ (f.code ≡ E05) → IsAtProgramLevel l f.item → ⊥
not_found l f none among =
    subst (λ (g : LinkFault). (g.code ≡ E03) ⊎ (g.code ≡ E05) → IsAtProgramLevel l g.item → ⊥) (among_is (faults_of l) f among) (none among.0 f among.1)

ordered_found : (l : LinkedItems) (f : LinkFault) → Contains (order_faults l) f → Contains (faults_of l) f
ordered_found l f h =
    Contains-append_left (order_faults l ++ name_faults l) (clause_faults l.outlines) f (Contains-append_left (order_faults l) (name_faults l) f h)

misplaced_found : (l : LinkedItems) (i : ℕ) → i < length l.outlines → is_misplaced l i ≡ true → Contains (faults_of l) (at_item E03 i)
misplaced_found l i within h =
    let ss : List Outline = l.outlines in
    ordered_found l (at_item E03 i)
    (Contains-append_left ((misplaced_items l ++ unmatched_braces ss) ++ header_faults l) (missing_states ss) (at_item E03 i)
    (Contains-append_left (misplaced_items l ++ unmatched_braces ss) (header_faults l) (at_item E03 i)
    (Contains-append_left (misplaced_items l) (unmatched_braces ss) (at_item E03 i) (found_there E03 (is_misplaced l) (length ss) i within h))))

repeated_found : (l : LinkedItems) (i : ℕ) → i < length l.outlines → is_repeated_header l i ≡ true → Contains (faults_of l) (at_item E05 i)
repeated_found l i within h =
    let ss : List Outline = l.outlines in
    ordered_found l (at_item E05 i)
    (Contains-append_left ((misplaced_items l ++ unmatched_braces ss) ++ header_faults l) (missing_states ss) (at_item E05 i)
    (Contains-append_right (misplaced_items l ++ unmatched_braces ss) (header_faults l) (at_item E05 i)
    (Contains-append_left (at_items_where E05 (is_repeated_header l) (length ss)) (if_missing E05 (is_program_item ss) (length ss)) (at_item E05 i)
    (found_there E05 (is_repeated_header l) (length ss) i within h))))

-- What is out of place gives an E03 or an E05, if it isn't faulty.
abbrev NotAt : LinkedItems → ℕ → Type 0
NotAt l i = (f : LinkFault) → Contains (faults_of l) f → (f.code ≡ E03) ⊎ (f.code ≡ E05) → f.item ≡ i → ⊥

out_found : (l : LinkedItems) (i : ℕ) (kind : ItemKind) → i < length l.outlines → slice_get l.kinds i ≡ Some kind → is_faulty kind ≡ false → (is_late l i || is_barred l i) ≡ true → NotAt l i → ⊥
out_found l i kind within is sound out none =
    elim (cases_Bool (is_later_program l.outlines i)) [
      | inl again ↦
          let told : is_repeated_header l i ≡ true =
          and_from (kind_is (λ k. not (is_faulty k)) l i) (is_later_program l.outlines i) (ap (λ o. option_map_or (λ k. not (is_faulty k)) o false) is ∙ ap not sound) again in
          none (at_item E05 i) (repeated_found l i within told) (inr refl) refl
      | inr once ↦
          let told : is_misplaced l i ≡ true = and_from (is_late l i || is_barred l i) (not (is_later_program l.outlines i)) out (ap not once) in
          none (at_item E03 i) (misplaced_found l i within told) (inl refl) refl
    ]

-- The least number that passes a test, or else the number of all.
record Least (test : ℕ → Bool) (n : ℕ) : Type 0 where
  at : ℕ
  within : at ≤ n
  before : (i : ℕ) → i < at → test i ≡ false
  there : at < n → test at ≡ true

up_to : (test : ℕ → Bool) (at n i : ℕ) → at ≡ n → ((j : ℕ) → j < at → test j ≡ false) → test n ≡ false → i < suc n → test i ≡ false
up_to test at n i all before last lt =
    elim (cases_eq i n) [
      | inl e ↦ subst (λ (k : ℕ). test k ≡ false) (sym e) last
      | inr other ↦ before i (omega arith)
    ]

some_same : (a b : ℕ) → Some a ≡ Some b → a ≡ b
some_same a b e = cc

least : (test : ℕ → Bool) (n : ℕ) → Least test n
least test zero = record { at = 0; within = omega arith; before = λ i lt. absurd (omega arith); there = λ lt. absurd (omega arith) }
least test (suc n) =
    let l = least test n in
    elim (cases_lt l.at n) [
      | inl found ↦ record { at = l.at; within = omega (arith, found); before = l.before; there = λ _. l.there found }
      | inr none ↦
          let all : l.at ≡ n = omega (arith, none, l.within) in
          elim (cases_Bool (test n)) [
            | inl is ↦ record { at = n; within = omega arith; before = λ i lt. l.before i (omega arith); there = λ _. is }
            | inr is_not ↦ record { at = suc n; within = omega arith; before = λ i lt. up_to test l.at n i all l.before is_not lt; there = λ lt. absurd (omega arith) }
          ]
    ]

module _ (l : LinkedItems) (none : NoneFound l) where
  -- The item has this phase or a later one.
  abbrev reaches : ℕ → ℕ → Bool
  reaches t i = exceeds (phase l i) (Some t)

  abbrev first : ℕ → ℕ
  first t = (least (reaches t) (length l.outlines)).at

  not_out : (i : ℕ) (kind : ItemKind) → IsAtProgramLevel l i → slice_get l.kinds i ≡ Some kind → is_faulty kind ≡ false → (is_late l i || is_barred l i) ≡ true → ⊥
  not_out i kind level is sound out =
      out_found l i kind level.within is sound out (λ f among code there. not_found l f none among code (subst (IsAtProgramLevel l) (sym there) level))

  not_late : (i : ℕ) (kind : ItemKind) → IsAtProgramLevel l i → slice_get l.kinds i ≡ Some kind → is_faulty kind ≡ false → is_late l i ≡ true → ⊥
  not_late i kind level is sound late = not_out i kind level is sound (or_left (is_late l i) (is_barred l i) late)

  phase_is : (i n : ℕ) (kind : ItemKind) → IsAtProgramLevel l i → slice_get l.kinds i ≡ Some kind → phase_of (has_begun l i) kind ≡ Some n → phase l i ≡ Some n
  phase_is i n kind level is h = phase_outside l i level.outside ∙ (ap (option_and_then (phase_of (has_begun l i))) is ∙ h)

  -- An item is not before the first of its phase.
  low : (i n t : ℕ) → phase l i ≡ Some n → t < n → first t ≤ i
  low i n t h lt =
      let f = least (reaches t) (length l.outlines) in
      let is : reaches t i ≡ true = ap (λ o. exceeds o (Some t)) h ∙ lt-ltb t n lt in
      elim (cases_lt i f.at) [
        | inl before ↦ absurd (true≢false (sym is ∙ f.before i before))
        | inr after ↦ after
      ]

  -- It is before the first of a later phase.
  high : (i n t : ℕ) (kind : ItemKind) → IsAtProgramLevel l i → slice_get l.kinds i ≡ Some kind → is_faulty kind ≡ false → phase l i ≡ Some n → n ≤ t → i < first t
  high i n t kind level is sound h le =
      let f = least (reaches t) (length l.outlines) in
      elim (cases_lt i f.at) [
        | inl before ↦ before
        | inr after ↦
            let reached : reaches t f.at ≡ true = f.there (omega (arith, after, level.within)) in
            let x = exceeds_parts (phase l f.at) (Some t) reached in
            let limit : t ≡ x.1 = some_same t x.1 x.3 in
            elim (cases_lt f.at i) [
              | inl earlier ↦
                  let more : exceeds (phase l f.at) (phase l i) ≡ true = ap (λ o. exceeds o (phase l i)) x.2 ∙ (ap (exceeds (Some x.0)) h ∙ lt-ltb n x.0 (omega (arith, x.4, limit, le))) in
                  absurd (not_late i kind level is sound (some_below (λ j. exceeds (phase l j) (phase l i)) i f.at earlier more))
              | inr same ↦
                  let here : f.at ≡ i = omega (arith, after, same) in
                  let one : x.0 ≡ n = some_same x.0 n (sym x.2 ∙ (ap (phase l) here ∙ h)) in
                  absurd (omega (arith, x.4, limit, le, one))
            ]
      ]

  abbrev parts : Parts
  parts = record { declarations = first 0; entries = first 1; state_sets = first 2; exits = first 3; rest = first 4 }

  rises : (t : ℕ) → first t ≤ first (suc t)
  rises t =
      let f = least (reaches t) (length l.outlines) in
      let g = least (reaches (suc t)) (length l.outlines) in
      elim (cases_lt g.at f.at) [
        | inl less ↦
            let there : reaches (suc t) g.at ≡ true = g.there (omega (arith, less, f.within)) in
            let x = exceeds_parts (phase l g.at) (Some (suc t)) there in
            let limit : suc t ≡ x.1 = some_same (suc t) x.1 x.3 in
            let reached : reaches t g.at ≡ true = ap (λ o. exceeds o (Some t)) x.2 ∙ lt-ltb t x.0 (omega (arith, x.4, limit)) in
            absurd (true≢false (sym reached ∙ f.before g.at less))
        | inr more ↦ more
      ]

  between : (i t : ℕ) (kind : ItemKind) → IsAtProgramLevel l i → slice_get l.kinds i ≡ Some kind → is_faulty kind ≡ false → phase_of (has_begun l i) kind ≡ Some (suc t) → (first t ≤ i) × (i < first (suc t))
  between i t kind level is sound h =
      let there : phase l i ≡ Some (suc t) = phase_is i (suc t) kind level is h in
      (low i (suc t) t there (omega arith), high i (suc t) (suc t) kind level is sound there (omega arith))

  declared_at : (i : ℕ) (kind : ItemKind) (b : Bool) → IsAtProgramLevel l i → slice_get l.kinds i ≡ Some kind → is_faulty kind ≡ false → phase_of (has_begun l i) kind ≡ Some (if b then 5 else 1) → IsDeclared parts i
  declared_at i kind true level is sound h = inr (low i 5 4 (phase_is i 5 kind level is h) (omega arith))
  declared_at i kind false level is sound h = inl (between i 0 kind level is sound h)

  may_be : (i : ℕ) (kind : ItemKind) → IsAtProgramLevel l i → slice_get l.kinds i ≡ Some kind → MayBe parts i kind
  may_be i Faulty level is = tt
  may_be i Header level is = high i 0 0 Header level is refl (phase_is i 0 Header level is refl) (omega arith)
  may_be i SsBegin level is = between i 2 SsBegin level is refl refl
  may_be i SsEnd level is = tt
  may_be i State level is =
      let barred : is_barred l i ≡ true =
      ap (λ b. kind_is (λ k. if b then is_state k else is_barred_in_sets k) l i) (ap is_none level.outside) ∙ ap (λ o. option_map_or is_state o false) is in
      not_out i State level is refl (or_right (is_late l i) (is_barred l i) barred)
  may_be i Entry level is = between i 1 Entry level is refl refl
  may_be i Exit level is = between i 3 Exit level is refl refl
  may_be i Declaration level is = declared_at i Declaration (has_begun l i) level is refl refl
  may_be i Foreign level is = declared_at i Foreign (has_begun l i) level is refl refl
  may_be i Clause level is = declared_at i Clause (has_begun l i) level is refl refl
  may_be i OptionLine level is = declared_at i OptionLine (has_begun l i) level is refl refl
  may_be i Function level is = declared_at i Function (has_begun l i) level is refl refl
  may_be i StructDef level is = declared_at i StructDef (has_begun l i) level is refl refl
  may_be i CBlock level is = tt
  may_be i Empty level is = tt

  pub in_order : IsInOrder l
  in_order = record {
    parts = parts;
    rising = record { entries = rises 0; state_sets = rises 1; exits = rises 2; rest = rises 3 };
    each = may_be;
  }

-- ---- no item in a state set that may not be in one

by_kind : (kind other : ItemKind) → kind ≡ other → is_barred_in_sets other ≡ true → is_faulty other ≡ false → (is_barred_in_sets kind ≡ true) × (is_faulty kind ≡ false)
by_kind kind other e h k = (ap is_barred_in_sets e ∙ h, ap is_faulty e ∙ k)

barred_is : (kind : ItemKind) → IsBarred kind → (is_barred_in_sets kind ≡ true) × (is_faulty kind ≡ false)
barred_is kind h =
    elim h [
      | inl e ↦ by_kind kind Header e refl refl
      | inr h1 ↦ elim h1 [
        | inl e ↦ by_kind kind OptionLine e refl refl
        | inr h2 ↦ elim h2 [
          | inl e ↦ by_kind kind Entry e refl refl
          | inr h3 ↦ elim h3 [
            | inl e ↦ by_kind kind Exit e refl refl
            | inr h4 ↦ elim h4 [ inl e ↦ by_kind kind Function e refl refl | inr e ↦ by_kind kind StructDef e refl refl ]
          ]
        ]
      ]
    ]

within_by : (l : LinkedItems) (i set : ℕ) (o : Option Outline) → slice_get l.outlines i ≡ o → (if option_map_or (λ s. not (begins_set s.role)) o false then open_before l.outlines i else None) ≡ Some set → i < length l.outlines
within_by l i set None is h = absurd cc
within_by l i set (Some s) is h = slice_get_within l.outlines i s is

pub sets_free : (l : LinkedItems) → All (λ f. (f.code ≡ E03) ⊎ (f.code ≡ E05) → ⊥) (faults_of l) → AreSetsFree l
sets_free l none i set kind inside is barred =
    let told = barred_is kind barred in
    let within : i < length l.outlines = within_by l i set (slice_get l.outlines i) refl inside in
    let there : is_barred l i ≡ true =
    ap (λ b. kind_is (λ k. if b then is_state k else is_barred_in_sets k) l i) (ap is_none inside) ∙ (ap (λ o. option_map_or is_barred_in_sets o false) is ∙ told.0) in
    out_found l i kind within is told.1 (or_right (is_late l i) (is_barred l i) there)
    (λ f among code _. subst (λ (g : LinkFault). (g.code ≡ E03) ⊎ (g.code ≡ E05) → ⊥) (among_is (faults_of l) f among) (none among.0 f among.1) code)
