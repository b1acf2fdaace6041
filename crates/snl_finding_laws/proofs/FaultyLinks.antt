-- The links find nothing at a faulty item.
use Rattle.std.proofs.Common.{◌≡◌, ℕ, zero, suc, ◌+◌, Bool, true, false, not, ◌&&◌, ◌||◌, cond, List, [], ◌∷◌, ◌++◌, length, map, filter, slice_get, Option, None, Some, is_none, option_map, refl, sym, ap, subst, ◌∙◌, arith}
use Rattle.std.specs.Prelude.{if◌then◌else◌, option_and_then, option_to_list}
use Rattle.std.specs.Option.{option_map_or}
use Rattle.std.specs.List.{AllByRecursion as Each}
use Rattle.std.proofs.lemmas.Bool.{and_left, or_from, true≢false}
use Rattle.std.proofs.lemmas.List.{length-map}
use Rattle.std.proofs.lemmas.Option.{same_Some, slice_get_within, slice_get-map}
use Rattle.snl_scope.specs.BelowLaws.{any_below_none, each_passing}
use Rattle.snl_grammar.specs.declared.tree.item.Item.{Item}
use Rattle.snl_codes.specs.declared.code.Code.{Code}
use Rattle.snl_codes.specs.declared.code.Code.TheVariants.{E03, E04, E05, E06, E14}
use Rattle.snl_scope.specs.declared.facts.LinkFault.{LinkFault}
use Rattle.snl_summary.specs.declared.summary.ItemKind.{ItemKind}
use Rattle.snl_summary.specs.declared.summary.ItemKind.TheVariants.{Faulty}
use Rattle.snl_summary.specs.declared.summary.Outline.{Outline}
use Rattle.snl_scope.specs.Below.{all_below, any_below}
use Rattle.snl_scope.specs.Clauses.{LinkedClause, at_name_ref, clause_faults, clauses_before, clauses_of, found_after, found_at, found_at_flag, found_at_variable, has_wrong_flag, linked_clause, variable_code, with_clause}
use Rattle.snl_scope.specs.Linked as links
use Rattle.snl_scope.specs.LinkedItems.{LinkedItems, kind_is}
use Rattle.snl_scope.specs.Names.{Entry, entries, name_faults, repetitions, told_by}
use Rattle.snl_scope.specs.Order as order
use Rattle.snl_scope.specs.Places.{begins_set, enclosing_set, ends_set, is_set_begin, is_set_end}
use Rattle.snl_summary.specs.Summaries.{kind_of, outline_in}
use Rattle.snl_item_check.specs.Items.{outline_of_item}
use Rattle.snl_kept.specs.Linked.{linked_of, outlines_of}
use Rattle.snl_kept.specs.Program.{ProgramItem}
use Rattle.snl_facts.specs.Each.{each_append, each_by, each_map}

-- ---- lists of what passes

each_passed : {A : Type 0} (test : A → Bool) (P : A → Type 0) → ((x : A) → test x ≡ true → P x) → (xs : List A) → Each P (filter test xs)
each_passed test P h [] = tt
each_passed test P h (x ∷ xs) = by (test x) refl (each_passed test P h xs)
  where
    by : (b : Bool) → test x ≡ b → Each P (filter test xs) → Each P (cond b (x ∷ filter test xs) (filter test xs))
    by true e rest = (h x e, rest)
    by false e rest = rest

module _ (text : List ℕ) (xs : List ProgramItem) where
  abbrev ss : List Outline
  ss = outlines_of text xs

  abbrev l : LinkedItems
  l = linked_of text xs

  -- If there is an item with the number, it isn't faulty.
  abbrev pub NotFaulty : ℕ → Type 0
  NotFaulty j = (y : ProgramItem) → slice_get xs j ≡ Some y → is_none y.tree ≡ false

  abbrev pub AtSound : LinkFault → Type 0
  AtSound f = NotFaulty f.item

  sound_if : (j : ℕ) → ((y : ProgramItem) → slice_get xs j ≡ Some y → y.tree ≡ None → ⊥) → NotFaulty j
  sound_if j h = λ y at. by y at y.tree refl
    where
      by : (y : ProgramItem) → slice_get xs j ≡ Some y → (o : Option Item) → y.tree ≡ o → is_none o ≡ false
      by y at None e = absurd (h y at e)
      by y at (Some t) e = refl

  -- ---- a faulty item

  module _ (j : ℕ) (y : ProgramItem) (at : slice_get xs j ≡ Some y) (none : y.tree ≡ None) where
    kind_at : slice_get l.kinds j ≡ Some Faulty
    kind_at = slice_get-map (λ x. kind_of x.tree) xs j ∙ ap (option_map (λ x. kind_of x.tree)) at ∙ ap (λ o. Some (kind_of o)) none

    outline_at : slice_get ss j ≡ Some (outline_in text y.tokens None)
    outline_at = slice_get-map (outline_of_item text) xs j ∙ ap (option_map (outline_of_item text)) at ∙ ap (λ o. Some (outline_in text y.tokens o)) none

    kind_fails : (test : ItemKind → Bool) → test Faulty ≡ false → kind_is test l j ≡ false
    kind_fails test h = ap (λ o. option_map_or test o false) kind_at ∙ h

    no_begin : is_set_begin ss j ≡ false
    no_begin = ap (λ o. option_map_or (λ s. begins_set s.role) o false) outline_at

    no_end : is_set_end ss j ≡ false
    no_end = ap (λ o. option_map_or (λ s. ends_set s.role) o false) outline_at

    no_phase : order.phase l j ≡ None
    no_phase =
        ap (λ o. if is_none (enclosing_set ss j) then option_and_then (order.phase_of (order.has_begun l j)) o else None) kind_at
        ∙ either (is_none (enclosing_set ss j))
      where
        either : (b : Bool) → ◌≡◌ {A = Option ℕ} (if b then None else None) None
        either true = refl
        either false = refl

    not_misplaced : order.is_misplaced l j ≡ false
    not_misplaced =
        let late : order.is_late l j ≡ false =
        any_below_none (λ k. order.exceeds (order.phase l k) (order.phase l j)) j (λ k less. ap (order.exceeds (order.phase l k)) no_phase ∙ exceeds_none (order.phase l k)) in
        let barred : order.is_barred l j ≡ false =
        kind_fails (λ k. if is_none (enclosing_set ss j) then order.is_state k else order.is_barred_in_sets k)
        (elim (is_none (enclosing_set ss j)) as (λ (b : Bool). (if b then order.is_state Faulty else order.is_barred_in_sets Faulty) ≡ false) [ true ↦ refl | false ↦ refl ]) in
        and_left (order.is_late l j || order.is_barred l j) (not (order.is_later_program ss j)) (or_from (order.is_late l j) (order.is_barred l j) late barred)
      where
        exceeds_none : (o : Option ℕ) → order.exceeds o None ≡ false
        exceeds_none None = refl
        exceeds_none (Some n) = refl

    not_unmatched : order.is_unmatched ss j ≡ false
    not_unmatched =
        or_from (is_set_begin ss j && not (order.is_closed ss j)) (is_set_end ss j && is_none (enclosing_set ss j))
        (and_left (is_set_begin ss j) (not (order.is_closed ss j)) no_begin) (and_left (is_set_end ss j) (is_none (enclosing_set ss j)) no_end)

    not_repeated : order.is_repeated_header l j ≡ false
    not_repeated = and_left (kind_is (λ k. not (order.is_faulty k)) l j) (order.is_later_program ss j) (kind_fails (λ k. not (order.is_faulty k)) refl)

    not_stateless : order.is_stateless ss j ≡ false
    not_stateless = and_left (is_set_begin ss j) (not (order.has_state ss j)) no_begin

    not_told : (f : LinkFault) → f.item ≡ j → told_by l.kinds f ≡ false
    not_told f same = ap (λ n. not (option_map_or order.is_faulty (slice_get l.kinds n) false)) same ∙ ap (λ o. not (option_map_or order.is_faulty o false)) kind_at

  -- ---- findings of the order of items

  at_items : (code : Code) (test : ℕ → Bool) → ((j : ℕ) (y : ProgramItem) → slice_get xs j ≡ Some y → y.tree ≡ None → test j ≡ false) → (n : ℕ) → Each AtSound (order.at_items_where code test n)
  at_items code test h n =
      each_map AtSound (order.at_item code) (all_below test n)
      (each_passing NotFaulty test n (λ k passes. sound_if k (λ y at none. true≢false (sym passes ∙ h k y at none))))

  after_last : NotFaulty (length ss)
  after_last = λ y at. absurd (omega (arith, slice_get_within xs (length ss) y at, length-map xs (outline_of_item text)))

  if_missing : (code : Code) (test : ℕ → Bool) → Each AtSound (order.if_missing code test (length ss))
  if_missing code test = by (not (any_below test (length ss)))
    where
      by : (b : Bool) → Each AtSound (order.found_if b code (length ss))
      by true = (after_last, tt)
      by false = tt

  order_sound : Each AtSound (order.order_faults l)
  order_sound =
      each_append AtSound (order.misplaced_items l ++ order.unmatched_braces ss ++ order.header_faults l) (order.missing_states ss)
      (each_append AtSound (order.misplaced_items l ++ order.unmatched_braces ss) (order.header_faults l)
      (each_append AtSound (order.misplaced_items l) (order.unmatched_braces ss)
      (at_items E03 (order.is_misplaced l) not_misplaced (length ss)) (at_items E04 (order.is_unmatched ss) not_unmatched (length ss)))
      (each_append AtSound (order.at_items_where E05 (order.is_repeated_header l) (length ss)) (order.if_missing E05 (order.is_program_item ss) (length ss))
      (at_items E05 (order.is_repeated_header l) not_repeated (length ss)) (if_missing E05 (order.is_program_item ss))))
      (each_append AtSound (order.at_items_where E06 (order.is_stateless ss) (length ss)) (order.if_missing E06 (order.is_ss_item ss) (length ss))
      (at_items E06 (order.is_stateless ss) not_stateless (length ss)) (if_missing E06 (order.is_ss_item ss)))

  -- ---- findings of names

  names_sound : Each AtSound (name_faults l)
  names_sound =
      each_passed (told_by l.kinds) AtSound (λ f told. sound_if f.item (λ y at none. true≢false (sym told ∙ not_told f.item y at none f refl))) (repetitions [] (entries ss))

  -- ---- findings at clauses

  abbrev ClauseSound : LinkedClause → Type 0
  ClauseSound c = NotFaulty c.item

  clauses_at : (n : ℕ) → Each ClauseSound (option_map_or (λ s. map (linked_clause ss n) s.clauses) (slice_get ss n) [])
  clauses_at n =
      let P : Option Outline → Type 0 = λ o. Each ClauseSound (option_map_or (λ s. map (linked_clause ss n) s.clauses) o []) in
      subst P (sym (slice_get-map (outline_of_item text) xs n)) (by_item (slice_get xs n) refl)
    where
      by_tree : (y : ProgramItem) → slice_get xs n ≡ Some y → (o : Option Item) → y.tree ≡ o → Each ClauseSound (map (linked_clause ss n) (outline_in text y.tokens o).clauses)
      by_tree y at None e = tt
      by_tree y at (Some t) e =
          let sound : NotFaulty n = λ z here. let same : y ≡ z = same_Some y z (sym at ∙ here) in ap (λ w. is_none w.tree) (sym same) ∙ ap is_none e in
          each_map ClauseSound (linked_clause ss n) (outline_in text y.tokens (Some t)).clauses
          (each_by (λ c. ClauseSound (linked_clause ss n c)) (λ c. sound) (outline_in text y.tokens (Some t)).clauses)

      by_item : (o : Option ProgramItem) → slice_get xs n ≡ o → Each ClauseSound (option_map_or (λ s. map (linked_clause ss n) s.clauses) (option_map (outline_of_item text) o) [])
      by_item None at = tt
      by_item (Some y) at = by_tree y at y.tree refl

  clauses_sound : (n : ℕ) → Each ClauseSound (clauses_before ss n)
  clauses_sound zero = tt
  clauses_sound (suc n) = each_append ClauseSound (clauses_before ss n) (option_map_or (λ s. map (linked_clause ss n) s.clauses) (slice_get ss n) []) (clauses_sound n) (clauses_at n)

  flag_sound : (es : List Entry) (c : LinkedClause) → ClauseSound c → Each AtSound (found_at_flag es c)
  flag_sound es c h = by (has_wrong_flag es c)
    where
      by : (b : Bool) → Each AtSound (if b then map (λ m. at_name_ref c.item m E14) (option_to_list c.clause.flag) else [])
      by true = each_map AtSound (λ m. at_name_ref c.item m E14) (option_to_list c.clause.flag) (each_by (λ m. AtSound (at_name_ref c.item m E14)) (λ m. h) (option_to_list c.clause.flag))
      by false = tt

  found_sound : (es : List Entry) (cs sound ds : List LinkedClause) → Each ClauseSound ds → Each AtSound (found_after es cs sound ds)
  found_sound es cs sound [] h = tt
  found_sound es cs sound (d ∷ ds) h =
      each_append AtSound (found_at es cs sound d) (found_after es cs (with_clause es cs sound d) ds)
      (each_append AtSound (found_at_variable es cs sound d) (found_at_flag es d)
      (each_map AtSound (at_name_ref d.item d.clause.variable) (option_to_list (variable_code es cs sound d))
      (each_by (λ code. AtSound (at_name_ref d.item d.clause.variable code)) (λ code. h.0) (option_to_list (variable_code es cs sound d))))
      (flag_sound es d h.0))
      (found_sound es cs (with_clause es cs sound d) ds h.1)

  pub links_at_sound : Each AtSound (links.faults_of l)
  links_at_sound =
      each_append AtSound (order.order_faults l ++ name_faults l) (clause_faults ss)
      (each_append AtSound (order.order_faults l) (name_faults l) order_sound names_sound)
      (found_sound (entries ss) (clauses_of ss) [] (clauses_of ss) (clauses_sound (length ss)))
