-- The state that is declared, among those of the sets from one on.
use Rattle.std.proofs.Common.{◌≡◌, ◌+◌, ◌<◌, ◌∙◌, ℕ, List, length, get_or, drop, find, Option, Some, None, ap}
use Rattle.std.specs.List.{flat_map}
use Rattle.std.specs.Option.{option_or}
use Rattle.std.proofs.lemmas.List.Folds.{find-append}
use Rattle.snl_facts.specs.Lists.{drop_here}
use Rattle.snl_tables.specs.declared.rows.SetRow.{SetRow}
use Rattle.snl_tables.specs.declared.rows.Span.{Span}
use Rattle.snl_tables.specs.declared.rows.StateRow.{StateRow}
use Rattle.snl_questions.specs.Hover.{is_state, state_declared}

module _ (declared : Span) (sets : List SetRow) (i : ℕ) (set : SetRow) (within : i < length sets)
    (at : set ≡ get_or sets i set)
  where
    here : state_declared declared (drop i sets) ≡
        option_or (find (is_state declared) set.states) (state_declared declared (drop (i + 1) sets))
    here =
        ap (state_declared declared) (drop_here sets i set within at)
        ∙ find-append (is_state declared) set.states
        (flat_map (λ (s : SetRow). s.states) (drop (i + 1) sets))

    pub found_here : (row : StateRow) → find (is_state declared) set.states ≡ Some row →
        state_declared declared (drop i sets) ≡ Some row
    found_here row found =
        here ∙ ap (λ (o : Option StateRow). option_or o (state_declared declared (drop (i + 1) sets)))
        found

    pub found_later : find (is_state declared) set.states ≡ None →
        state_declared declared (drop i sets) ≡ state_declared declared (drop (i + 1) sets)
    found_later missed =
        here ∙ ap (λ (o : Option StateRow). option_or o (state_declared declared (drop (i + 1) sets)))
        missed
