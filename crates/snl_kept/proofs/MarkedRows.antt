-- Rows of states that are marked one by one, of which one may have another name, and what is found
-- in them.
use Rattle.std.proofs.Common.{◌≡◌, ◌≢◌, ℕ, zero, suc, ◌+◌, ◌≤◌, Bool, true, false, if◌then◌else◌, List, [], ◌∷◌, ◌++◌, length, map, take, drop, slice_get, nat_eq, Option, None, Some, option_map, unwrap_or, inl, inr, refl, sym, subst, ap, ◌∙◌, arith, add-one}
use Rattle.std.specs.List.{flat_map}
use Rattle.std.proofs.lemmas.Bool.{cases_eq, eq-eqb, eqb-true, false_from_ne_true}
use Rattle.std.proofs.lemmas.Grind.{flat_map-append}
use Rattle.std.proofs.lemmas.List.{append-nil, length-map, take_all}
use Rattle.std.proofs.lemmas.Option.{slice_get-map, same_Some}
use Rattle.snl_lex.specs.declared.shift.Shift.{Shift}
use Rattle.snl_tables.specs.declared.rows.StateMark.{StateMark}
use Rattle.snl_tables.specs.declared.rows.StateRow.{StateRow}
use Rattle.snl_tables.specs.Shifted.{changed_at, marked, shifted_state, with_own_mark}
use Rattle.snl_kept.specs.declared.found.findings.Finding.{Finding}
use Rattle.snl_kept.specs.declared.ways.one_item.set_findings.NewName.{NewName}
use Rattle.snl_kept.specs.OwnRows.{named, named_at, with_own_name}
use Rattle.snl_kept.specs.Tables.{found_at_name, found_at_state}
use Rattle.snl_kept.proofs.Steps.{take_more}
use Rattle.snl_facts.specs.Lists.{drop_got}

marked_at : (marks : List StateMark) (rows : List StateRow) (n : ℕ) (row : StateRow) → slice_get rows n ≡ Some row → slice_get (marked marks rows) n ≡ Some (with_own_mark (unwrap_or (slice_get marks n) row.mark) row)
marked_at [] rows n row at = at
marked_at (m ∷ marks) [] n row at = absurd cc
marked_at (m ∷ marks) (r ∷ rows) zero row at = ap (λ (x : StateRow). Some (with_own_mark m x)) (same_Some r row at)
marked_at (m ∷ marks) (r ∷ rows) (suc n) row at = marked_at marks rows n row at

length_marked : (marks : List StateMark) (rows : List StateRow) → length (marked marks rows) ≡ length rows
length_marked [] rows = refl
length_marked (m ∷ marks) [] = refl
length_marked (m ∷ marks) (r ∷ rows) = ap suc (length_marked marks rows)

-- ---- where one may have another name

changed_here : (f : StateRow → StateRow) (rows : List StateRow) (n : ℕ) (row : StateRow) → slice_get rows n ≡ Some row → slice_get (changed_at f n rows) n ≡ Some (f row)
changed_here f [] n row at = absurd cc
changed_here f (r ∷ rows) zero row at = ap (λ (x : StateRow). Some (f x)) (same_Some r row at)
changed_here f (r ∷ rows) (suc n) row at = changed_here f rows n row at

changed_apart : (f : StateRow → StateRow) (rows : List StateRow) (k n : ℕ) → n ≢ k → slice_get (changed_at f k rows) n ≡ slice_get rows n
changed_apart f [] k n apart = refl
changed_apart f (r ∷ rows) zero zero apart = absurd (apart refl)
changed_apart f (r ∷ rows) zero (suc n) apart = refl
changed_apart f (r ∷ rows) (suc k) zero apart = refl
changed_apart f (r ∷ rows) (suc k) (suc n) apart = changed_apart f rows k n (λ e. apart (ap suc e))

length_changed : (f : StateRow → StateRow) (n : ℕ) (rows : List StateRow) → length (changed_at f n rows) ≡ length rows
length_changed f n [] = refl
length_changed f zero (r ∷ rows) = refl
length_changed f (suc n) (r ∷ rows) = ap suc (length_changed f n rows)

named_got : (own : Option NewName) (rows : List StateRow) (n : ℕ) (row : StateRow) → slice_get rows n ≡ Some row → slice_get (named own rows) n ≡ Some (named_at own n row)
named_got None rows n row at = at
named_got (Some own) rows n row at =
    let change : StateRow → StateRow = with_own_name own.name in
    let chosen : Bool → StateRow = λ b. if b then change row else row in
    elim (cases_eq n own.number) [
      | inl here ↦
          subst (λ (k : ℕ). slice_get (changed_at change k rows) n ≡ Some (change row)) here (changed_here change rows n row at)
          ∙ ap (λ (b : Bool). Some (chosen b)) (sym (eq-eqb n own.number here))
      | inr apart ↦
          changed_apart change rows own.number n apart ∙ at
          ∙ ap (λ (b : Bool). Some (chosen b)) (sym (false_from_ne_true (nat_eq n own.number) (λ h. apart (eqb-true n own.number h))))
    ]

mark_kept : (own : Option NewName) (n : ℕ) (row : StateRow) → (named_at own n row).mark ≡ row.mark
mark_kept None n row = refl
mark_kept (Some own) n row = by (nat_eq n own.number)
  where
    by : (b : Bool) → (if b then with_own_name own.name row else row).mark ≡ row.mark
    by true = refl
    by false = refl

length_named : (own : Option NewName) (rows : List StateRow) → length (named own rows) ≡ length rows
length_named None rows = refl
length_named (Some own) rows = length_changed (with_own_name own.name) own.number rows

module _ (own : Option NewName) (marks : List StateMark) (s : Shift) (rows : List StateRow) where
  abbrev after : List StateRow
  after = marked marks (named own (map (shifted_state s) rows))

  -- what is found in one row more
  pub found_more : (n : ℕ) (row : StateRow) → slice_get rows n ≡ Some row
      → flat_map found_at_state (take (n + 1) after) ≡ flat_map found_at_state (take n after) ++ found_at_name (unwrap_or (slice_get marks n) row.mark) (named_at own n (shifted_state s row)).name
  found_more n row at =
      let moved : StateRow = named_at own n (shifted_state s row) in
      let here_is : StateRow = with_own_mark (unwrap_or (slice_get marks n) moved.mark) moved in
      let shifted : slice_get (map (shifted_state s) rows) n ≡ Some (shifted_state s row) = slice_get-map (shifted_state s) rows n ∙ ap (option_map (shifted_state s)) at in
      let here : slice_get after n ≡ Some here_is = marked_at marks (named own (map (shifted_state s) rows)) n moved (named_got own (map (shifted_state s) rows) n (shifted_state s row) shifted) in
      let next : drop n after ≡ here_is ∷ drop (n + 1) after = drop_got after n here_is here ∙ ap (λ (k : ℕ). here_is ∷ drop k after) (sym (add-one n)) in
      ap (flat_map found_at_state) (take_more after n here_is next)
      ∙ flat_map-append found_at_state (take n after) (here_is ∷ [])
      ∙ ap (λ (l : List Finding). flat_map found_at_state (take n after) ++ l)
      (append-nil (found_at_state here_is) ∙ ap (λ (m : StateMark). found_at_name (unwrap_or (slice_get marks n) m) moved.name) (mark_kept own n (shifted_state s row)))

  pub all_found : (n : ℕ) → length rows ≤ n → take n after ≡ after
  all_found n all = take_all n after (omega (
    arith,
    length_marked marks (named own (map (shifted_state s) rows)),
    length_named own (map (shifted_state s) rows),
    length-map rows (shifted_state s),
    all,
  ))
