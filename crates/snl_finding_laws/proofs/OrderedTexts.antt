-- E03 and E05 among the diagnostics of a text are those that its links find.
use Rattle.std.proofs.Common.{◌≡◌, ◌⊎◌, inl, inr, ℕ, ◌+◌, Bool, true, false, ◌&&◌, ◌||◌, List, [], ◌∷◌, ◌++◌, All, Option, Some, None, refl, sym, ap, ◌∙◌, arith}
use Rattle.std.specs.Prelude.{count_by, if◌then◌else◌, option_map, slice_get}
use Rattle.std.specs.List.{AllByRecursion as Each, cons_option, enumerate_from}
use Rattle.std.proofs.lemmas.Bool.{true≢false}
use Rattle.std.proofs.lemmas.List.Elements.{All-from_recursion, recursion_from_All}
use Rattle.snl_lex.specs.declared.piece.Piece.{Piece}
use Rattle.snl_grammar.specs.declared.outcome.Parsed.{Parsed}
use Rattle.snl_grammar.specs.declared.outcome.Parsed.TheVariants as parsed
use Rattle.snl_grammar.specs.declared.tree.item.Item.{Item}
use Rattle.snl_grammar.specs.Outcome.{parsed_in}
use Rattle.snl_codes.specs.declared.code.Code.{Code}
use Rattle.snl_codes.specs.declared.code.Code.TheVariants.{E01, E02, E03, E05, W02}
use Rattle.snl_codes.specs.Codes.{is_error, is_item_code}
use Rattle.snl_facts.specs.Each.{each_append, each_by, each_flat, each_front, each_map, each_rear, each_unmap, each_weaker}
use Rattle.snl_scope.specs.declared.facts.LinkFault.{LinkFault}
use Rattle.snl_scope.specs.Linked as links
use Rattle.snl_summary.specs.Summaries.Tokens.{token_bytes}
use Rattle.snl_summary.specs.declared.summary.Outline.{Outline}
use Rattle.snl_tables.specs.declared.rows.SetRow.{SetRow}
use Rattle.snl_tables.specs.declared.rows.StateRow.{StateRow}
use Rattle.snl_check.specs.Tables.{tables_of}
use Rattle.snl_item_check.specs.declared.findings.ItemFault.{ItemFault}
use Rattle.snl_item_check.specs.ItemFaults.{faults_in}
use Rattle.snl_item_check.specs.View.{is_in_set, known_of, leads_to}
use Rattle.snl_kept.specs.declared.found.findings.Diagnostic.{Diagnostic}
use Rattle.snl_kept.specs.declared.found.findings.Finding.{Finding}
use Rattle.snl_kept.specs.Checked.{at_own_token, checked_faults, found_in_item}
use Rattle.snl_kept.specs.Diagnostics.{diagnostics_of, found}
use Rattle.snl_kept.specs.Faults.{at_token, fault_at, faults_of}
use Rattle.snl_kept.specs.Linked.{linked_faults, linked_finding, linked_of, outlines_of, token_of}
use Rattle.snl_kept.specs.Program.{ProgramItem, items_of}
use Rattle.snl_kept.specs.Shifted.{finding_of}
use Rattle.snl_kept.specs.Tables.{found_at_state, found_in_set, is_unreached, walked_faults}
use Rattle.snl_kept.specs.Warnings.{warns_in}
use Rattle.snl_finding_laws.specs.Places.{is_shown}
use Rattle.snl_finding_laws.proofs.Counts.{count, count_none, counted, one_if}
use Rattle.snl_finding_laws.proofs.OtherCodes.{CodesLaw, code_there}
use Rattle.snl_finding_laws.proofs.Shown.{all_shown, each_diagnostic}

-- ---- no other finding is an E03

abbrev NoE03 : Finding → Type 0
NoE03 x = x.code ≡ E03 → ⊥

no_e01 : E01 ≡ E03 → ⊥
no_e01 e = absurd cc

no_e02 : E02 ≡ E03 → ⊥
no_e02 e = absurd cc

no_w02 : W02 ≡ E03 → ⊥
no_w02 e = absurd cc

one_fault : (code : Code) (o : Option Piece) (rest : List Finding) → (code ≡ E03 → ⊥) → Each NoE03 rest → Each NoE03 (cons_option (option_map (at_token code) o) rest)
one_fault code None rest other h = h
one_fault code (Some token) rest other h = (other, h)

item_fault : (tokens : List Piece) (p : Parsed) (rest : List Finding) → Each NoE03 rest → Each NoE03 (cons_option (fault_at tokens p) rest)
item_fault tokens (parsed.Sound tree) rest h = h
item_fault tokens (parsed.BadToken at) rest h = one_fault E01 (slice_get tokens at) rest no_e01 h
item_fault tokens (parsed.NoItem at) rest h = one_fault E02 (slice_get tokens at) rest no_e02 h

faults_other : (text : List ℕ) (xs : List ProgramItem) → Each NoE03 (faults_of text xs)
faults_other text [] = tt
faults_other text (x ∷ xs) = item_fault x.tokens (parsed_in text x.tokens) (faults_of text xs) (faults_other text xs)

not_in_items : (c : Code) → is_item_code c ≡ true → c ≡ E03 → ⊥
not_in_items c h e = true≢false (sym h ∙ ap is_item_code e)

item_other : CodesLaw → (text : List ℕ) (ss : List Outline) (i : ℕ) (x : ProgramItem) → Each NoE03 (found_in_item text ss (i, x))
item_other law text ss i x = by x.tree
  where
    by : (o : Option Item) → Each NoE03 (found_in_item text ss (i, record { tokens = x.tokens; tree = o }))
    by None = tt
    by (Some t) =
        let faults : List ItemFault = faults_in (token_bytes text x.tokens) t (is_in_set ss i) (known_of ss i) (leads_to ss i) in
        each_map NoE03 (at_own_token x.tokens) faults
        (each_weaker (λ f. is_item_code f.code ≡ true) (λ f. NoE03 (at_own_token x.tokens f))
        (λ f h e. not_in_items f.code h (sym (code_there f.code (slice_get x.tokens f.token)) ∙ e)) faults
        (recursion_from_All (λ f. is_item_code f.code ≡ true) faults (law (token_bytes text x.tokens) t (is_in_set ss i) (known_of ss i) (leads_to ss i))))

checked_other : CodesLaw → (text : List ℕ) (xs : List ProgramItem) → Each NoE03 (checked_faults text xs)
checked_other law text xs =
    each_flat (found_in_item text (outlines_of text xs)) NoE03 (λ p. Unit {0}) (λ p _. item_other law text (outlines_of text xs) p.0 p.1)
    (enumerate_from 0 xs) (each_by (λ p. Unit {0}) (λ p. tt) (enumerate_from 0 xs))

state_other : (row : StateRow) → Each NoE03 (found_at_state row)
state_other row = by (is_unreached row.mark)
  where
    by : (b : Bool) → Each NoE03 (if b then record { offset = row.name.start; code = W02; subject = row.name.len } ∷ [] else [])
    by true = (no_w02, tt)
    by false = tt

set_other : (row : SetRow) → Each NoE03 (found_in_set row)
set_other row = each_flat found_at_state NoE03 (λ s. Unit {0}) (λ s _. state_other s) row.states (each_by (λ s. Unit {0}) (λ s. tt) row.states)

walked_other : (text : List ℕ) (xs : List ProgramItem) → Each NoE03 (walked_faults text xs)
walked_other text xs =
    each_flat found_in_set NoE03 (λ s. Unit {0}) (λ s _. set_other s) (tables_of text xs).sets (each_by (λ s. Unit {0}) (λ s. tt) (tables_of text xs).sets)

linked_other : (text : List ℕ) (xs : List ProgramItem) → All (λ f. f.code ≡ E03 → ⊥) (links.faults_of (linked_of text xs)) → Each NoE03 (linked_faults text xs)
linked_other text xs h =
    let faults : List LinkFault = links.faults_of (linked_of text xs) in
    each_map NoE03 (linked_finding xs) faults
    (each_weaker (λ f. f.code ≡ E03 → ⊥) (λ f. NoE03 (linked_finding xs f)) (λ f other e. other (sym (code_there f.code (token_of xs f.item f.token)) ∙ e)) faults
    (recursion_from_All (λ f. f.code ≡ E03 → ⊥) faults h))

found_other : CodesLaw → (text : List ℕ) → All (λ f. f.code ≡ E03 → ⊥) (links.faults_of (linked_of text (items_of text))) → Each NoE03 (found text)
unfolding found
found_other law text h =
    let xs : List ProgramItem = items_of text in
    each_append NoE03 ((faults_of text xs ++ linked_faults text xs) ++ checked_faults text xs) (walked_faults text xs)
    (each_append NoE03 (faults_of text xs ++ linked_faults text xs) (checked_faults text xs)
    (each_append NoE03 (faults_of text xs) (linked_faults text xs) (faults_other text xs) (linked_other text xs h))
    (checked_other law text xs))
    (walked_other text xs)

pub none_misplaced : CodesLaw → (text : List ℕ) → All (λ f. f.code ≡ E03 → ⊥) (links.faults_of (linked_of text (items_of text))) → All (λ d. d.code ≡ E03 → ⊥) (diagnostics_of text)
none_misplaced law text h =
    All-from_recursion (λ d. d.code ≡ E03 → ⊥) (diagnostics_of text) (each_diagnostic text (λ (d : Diagnostic). d.code ≡ E03 → ⊥) (found_other law text h))

-- ---- what the links find is among the diagnostics

abbrev is_of_order : Code → Bool
is_of_order E03 = true
is_of_order E05 = true
is_of_order _ = false

not_of_order : (c : Code) → ((c ≡ E03) ⊎ (c ≡ E05) → ⊥) → is_of_order c ≡ false
not_of_order E03 h = absurd (h (inl refl))
not_of_order E05 h = absurd (h (inr refl))
not_of_order _ h = refl

-- Where no element is counted, none passes.
counted_by : {A : Type 0} (test : A → Bool) (x : A) (xs : List A) (b : Bool) → test x ≡ b → (count test xs ≡ 0 → Each (λ y. test y ≡ false) xs) → one_if b + count test xs ≡ 0 → Each (λ y. test y ≡ false) (x ∷ xs)
counted_by test x xs true is again e = absurd (omega (arith, e))
counted_by test x xs false is again e = (is, again (omega (arith, e)))

none_counted : {A : Type 0} (test : A → Bool) (xs : List A) → count test xs ≡ 0 → Each (λ x. test x ≡ false) xs
none_counted test [] h = tt
none_counted test (x ∷ xs) h = counted_by test x xs (test x) refl (none_counted test xs) h

order_shown : (text : List ℕ) (c : Code) (x : Finding) → x.code ≡ c → is_of_order c ≡ true → is_error c ≡ true → (is_of_order x.code && is_shown text x) ≡ false → ⊥
order_shown text c x same of_order is_wrong h =
    let order : is_of_order x.code ≡ true = ap is_of_order same ∙ of_order in
    let shown : is_shown text x ≡ true = ap (λ (b : Bool). b || warns_in text) (ap is_error same ∙ is_wrong) in
    true≢false (sym (ap (λ (b : Bool). b && is_shown text x) order ∙ shown) ∙ h)

both_errors : (is_error E03 ≡ true) × (is_error E05 ≡ true)
unfolding is_error
both_errors = (refl, refl)

silent_at : (text : List ℕ) (xs : List ProgramItem) (f : LinkFault) → (is_of_order (linked_finding xs f).code && is_shown text (linked_finding xs f)) ≡ false → (f.code ≡ E03) ⊎ (f.code ≡ E05) → ⊥
silent_at text xs f h code =
    let there : (linked_finding xs f).code ≡ f.code = code_there f.code (token_of xs f.item f.token) in
    elim code [
      | inl e ↦ order_shown text E03 (linked_finding xs f) (there ∙ e) refl both_errors.0 h
      | inr e ↦ order_shown text E05 (linked_finding xs f) (there ∙ e) refl both_errors.1 h
    ]

pub links_silent : (text : List ℕ) → All (λ d. (d.code ≡ E03) ⊎ (d.code ≡ E05) → ⊥) (diagnostics_of text) → All (λ f. (f.code ≡ E03) ⊎ (f.code ≡ E05) → ⊥) (links.faults_of (linked_of text (items_of text)))
unfolding found
links_silent text h =
    let xs : List ProgramItem = items_of text in
    let faults : List LinkFault = links.faults_of (linked_of text xs) in
    let test : Finding → Bool = λ x. is_of_order x.code in
    let P : Finding → Type 0 = λ x. (test x && is_shown text x) ≡ false in
    let silent : Each (λ d. test (finding_of d) ≡ false) (diagnostics_of text) =
    each_weaker (λ d. (d.code ≡ E03) ⊎ (d.code ≡ E05) → ⊥) (λ d. test (finding_of d) ≡ false) (λ d none. not_of_order d.code none) (diagnostics_of text)
    (recursion_from_All (λ d. (d.code ≡ E03) ⊎ (d.code ≡ E05) → ⊥) (diagnostics_of text) h) in
    let zero : count_by (λ d. test (finding_of d)) (diagnostics_of text) ≡ 0 = counted (λ d. test (finding_of d)) (diagnostics_of text) ∙ count_none (λ d. test (finding_of d)) (diagnostics_of text) silent in
    let none : count (λ x. test x && is_shown text x) (found text) ≡ 0 = sym (counted (λ x. test x && is_shown text x) (found text)) ∙ (sym (all_shown text test) ∙ zero) in
    let all : Each P (found text) = none_counted (λ x. test x && is_shown text x) (found text) none in
    let front : Each P ((faults_of text xs ++ linked_faults text xs) ++ checked_faults text xs) = each_front P ((faults_of text xs ++ linked_faults text xs) ++ checked_faults text xs) (walked_faults text xs) all in
    let first : Each P (faults_of text xs ++ linked_faults text xs) = each_front P (faults_of text xs ++ linked_faults text xs) (checked_faults text xs) front in
    let linked : Each (λ f. P (linked_finding xs f)) faults = each_unmap P (linked_finding xs) faults (each_rear P (faults_of text xs) (linked_faults text xs) first) in
    All-from_recursion (λ f. (f.code ≡ E03) ⊎ (f.code ≡ E05) → ⊥) faults
    (each_weaker (λ f. P (linked_finding xs f)) (λ f. (f.code ≡ E03) ⊎ (f.code ≡ E05) → ⊥) (silent_at text xs) faults linked)
