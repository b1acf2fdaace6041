-- What links find of names and of clauses is no E03.
use Rattle.std.proofs.Common.{◌≡◌, ℕ, zero, suc, Bool, true, false, not, ◌&&◌, List, [], ◌∷◌, ◌++◌, length, map, Option, Some, None, is_some, ap}
use Rattle.std.specs.Prelude.{if◌then◌else◌, option_to_list, slice_get}
use Rattle.std.specs.List.{AllByRecursion as Each, list_any}
use Rattle.std.specs.Option.{option_map_or}
use Rattle.snl_codes.specs.declared.code.Code.{Code}
use Rattle.snl_codes.specs.declared.code.Code.TheVariants.{E03, E08, E09, E11, E13, E14, E15, E16}
use Rattle.snl_facts.specs.Each.{each_append, each_by, each_filter, each_map}
use Rattle.snl_scope.specs.declared.facts.LinkFault.{LinkFault}
use Rattle.snl_scope.specs.declared.names.namespaces.Namespace.{Namespace}
use Rattle.snl_scope.specs.declared.names.namespaces.Namespace.TheVariants as namespace
use Rattle.snl_summary.specs.declared.summary.ClauseKind.{ClauseKind}
use Rattle.snl_summary.specs.declared.summary.ClauseKind.TheVariants as kind
use Rattle.snl_summary.specs.declared.summary.NameRef.{NameRef}
use Rattle.snl_summary.specs.declared.summary.Outline.{Outline}
use Rattle.snl_summary.specs.declared.summary.Variable.{Variable}
use Rattle.snl_scope.specs.Clauses.{LinkedClause, assigns, at_name_ref, clash, clause_faults, clauses_of, code_on, found_after, found_at, found_at_flag, found_at_variable, has_wrong_flag, is_assign, is_assignable, misfits, repetition_code, variable_at, variable_code, with_clause}
use Rattle.snl_scope.specs.LinkedItems.{LinkedItems}
use Rattle.snl_scope.specs.Names.{Entry, declared_entry, entries, entries_before, entries_of, name_faults, named_entry, number_in, repetition, repetition_at, repetitions, scope_code, scope_of, set_entries, set_name, state_entries, told_by}
use Rattle.snl_scope.specs.Order.{state_name}
use Rattle.snl_scope.specs.Places.{enclosing_set}

abbrev pub IsOther : LinkFault → Type 0
IsOther f = f.code ≡ E03 → ⊥

-- ---- names

abbrev GivesOther : Entry → Type 0
GivesOther e = e.code ≡ Some E03 → ⊥

scope_other : (s : Namespace) → scope_code s ≡ Some E03 → ⊥
scope_other namespace.Program h = absurd cc
scope_other (namespace.StateSet k) h = absurd cc
scope_other (namespace.State i) h = absurd cc
scope_other namespace.Sets h = absurd cc
scope_other (namespace.States k) h = absurd cc

no_e08 : Some E08 ≡ Some E03 → ⊥
no_e08 h = absurd cc

no_e09 : Some E09 ≡ Some E03 → ⊥
no_e09 h = absurd cc

sets_other : (i : ℕ) (s : Outline) → Each GivesOther (set_entries i s)
sets_other i s =
    each_map GivesOther (named_entry namespace.Sets i (Some E08)) (option_to_list (set_name s)) (each_by (λ n. GivesOther (named_entry namespace.Sets i (Some E08) n)) (λ n. no_e08) (option_to_list (set_name s)))

states_other : (o : Option ℕ) (i : ℕ) (s : Outline) → Each GivesOther (state_entries o i s)
states_other None i s = tt
states_other (Some k) i s =
    each_map GivesOther (named_entry (namespace.States k) i (Some E09)) (option_to_list (state_name s)) (each_by (λ n. GivesOther (named_entry (namespace.States k) i (Some E09) n)) (λ n. no_e09) (option_to_list (state_name s)))

item_other : (ss : List Outline) (i : ℕ) (s : Outline) → Each GivesOther (entries_of ss i s)
item_other ss i s =
    let scope : Namespace = scope_of ss i s in
    each_append GivesOther (set_entries i s ++ state_entries (enclosing_set ss i) i s) (map (declared_entry scope i) s.declares)
    (each_append GivesOther (set_entries i s) (state_entries (enclosing_set ss i) i s) (sets_other i s) (states_other (enclosing_set ss i) i s))
    (each_map GivesOther (declared_entry scope i) s.declares (each_by (λ d. GivesOther (declared_entry scope i d)) (λ d. scope_other scope) s.declares))

one_other : (ss : List Outline) (i : ℕ) (o : Option Outline) → Each GivesOther (option_map_or (entries_of ss i) o [])
one_other ss i None = tt
one_other ss i (Some s) = item_other ss i s

entries_other : (ss : List Outline) (n : ℕ) → Each GivesOther (entries_before ss n)
entries_other ss zero = tt
entries_other ss (suc n) =
    each_append GivesOther (entries_before ss n) (option_map_or (entries_of ss n) (slice_get ss n) []) (entries_other ss n) (one_other ss n (slice_get ss n))

repeated_other : (e : Entry) (o : Option Code) → (o ≡ Some E03 → ⊥) → Each IsOther (map (λ code. record { item = e.item; token = e.token; code = code }) (option_to_list o))
repeated_other e None h = tt
repeated_other e (Some code) h = ((λ c. h (ap Some c)), tt)

repetition_other : (e : Entry) (b : Bool) → GivesOther e → Each IsOther (if b then repetition_at e else [])
repetition_other e true h = repeated_other e e.code h
repetition_other e false h = tt

repetitions_other : (earlier es : List Entry) → Each GivesOther es → Each IsOther (repetitions earlier es)
repetitions_other earlier [] h = tt
repetitions_other earlier (e ∷ es) h =
    each_append IsOther (repetition earlier e) (repetitions (earlier ++ e ∷ []) es) (repetition_other e (is_some (number_in earlier e.namespace e.name)) h.0) (repetitions_other (earlier ++ e ∷ []) es h.1)

pub names_other : (l : LinkedItems) → Each IsOther (name_faults l)
names_other l = each_filter IsOther (told_by l.kinds) (repetitions [] (entries l.outlines)) (repetitions_other [] (entries l.outlines) (entries_other l.outlines (length l.outlines)))

-- ---- clauses

kind_other : (k : ClauseKind) → repetition_code k ≡ E03 → ⊥
kind_other kind.Assign h = absurd cc
kind_other kind.Monitor h = absurd cc
kind_other kind.Sync h = absurd cc
kind_other kind.Syncq h = absurd cc

code_other : (a b c d : Bool) (k : ClauseKind) → (if a then Some E15 else if b then Some E16 else if c then Some E13 else if d then Some (repetition_code k) else None) ≡ Some E03 → ⊥
code_other true b c d k h = absurd cc
code_other false true c d k h = absurd cc
code_other false false true d k h = absurd cc
code_other false false false true k h = kind_other k cc
code_other false false false false k h = absurd cc

variable_other : (cs sound : List LinkedClause) (c : LinkedClause) (o : Option Variable) → option_map_or (code_on cs sound c) o (Some E11) ≡ Some E03 → ⊥
variable_other cs sound c None h = absurd cc
variable_other cs sound c (Some v) h =
    code_other (is_assign c.clause.kind && not (is_assignable v.symbol_kind)) (misfits v.dims c.clause.coverage) (not (is_assign c.clause.kind) && not (list_any (assigns c.variable) cs)) (list_any (clash c) sound) c.clause.kind h

coded_other : (c : LinkedClause) (m : NameRef) (o : Option Code) → (o ≡ Some E03 → ⊥) → Each IsOther (map (at_name_ref c.item m) (option_to_list o))
coded_other c m None h = tt
coded_other c m (Some code) h = ((λ e. h (ap Some e)), tt)

no_e14 : E14 ≡ E03 → ⊥
no_e14 h = absurd cc

flag_other : (b : Bool) (c : LinkedClause) (o : Option NameRef) → Each IsOther (if b then map (λ m. at_name_ref c.item m E14) (option_to_list o) else [])
flag_other true c o = each_map IsOther (λ m. at_name_ref c.item m E14) (option_to_list o) (each_by (λ m. IsOther (at_name_ref c.item m E14)) (λ m. no_e14) (option_to_list o))
flag_other false c o = tt

after_other : (es : List Entry) (cs sound ds : List LinkedClause) → Each IsOther (found_after es cs sound ds)
after_other es cs sound [] = tt
after_other es cs sound (d ∷ ds) =
    each_append IsOther (found_at es cs sound d) (found_after es cs (with_clause es cs sound d) ds)
    (each_append IsOther (found_at_variable es cs sound d) (found_at_flag es d)
    (coded_other d d.clause.variable (variable_code es cs sound d) (variable_other cs sound d (variable_at es d.variable)))
    (flag_other (has_wrong_flag es d) d d.clause.flag))
    (after_other es cs (with_clause es cs sound d) ds)

pub clauses_other : (ss : List Outline) → Each IsOther (clause_faults ss)
clauses_other ss = after_other (entries ss) (clauses_of ss) [] (clauses_of ss)
