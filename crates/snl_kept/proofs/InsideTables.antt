-- What the walks find after an edit that changes rows of one state set: all but what is found at
-- the states whose rows change is shifted. The states that no walk reaches are told by the names
-- and the marks of the rows, whatever else the states say and whatever wakes them.
use Rattle.std.proofs.Common.{◌≡◌, ℕ, zero, suc, List, [], ◌∷◌, ◌++◌, map, slice_get, Option, None, Some, refl, ap, ap₂, sym, ◌∙◌, subst, append_assoc}
use Rattle.std.specs.List.{flat_map}
use Rattle.std.specs.Option.{option_and_then, option_map_or}
use Rattle.std.proofs.lemmas.List.{append-nil, map-append}
use Rattle.snl_tables.specs.ShiftedLaws.{changed_twice}
use Rattle.snl_lex.specs.declared.lines.Line.{Line}
use Rattle.snl_lex.specs.declared.shift.Shift.{Shift}
use Rattle.snl_tables.specs.declared.rows.SetRow.{SetRow}
use Rattle.snl_tables.specs.declared.rows.Span.{Span}
use Rattle.snl_tables.specs.declared.rows.StateBody.{StateBody}
use Rattle.snl_tables.specs.declared.rows.StateMark.{StateMark}
use Rattle.snl_tables.specs.declared.rows.StateRow.{StateRow}
use Rattle.snl_tables.specs.declared.rows.Tables.{Tables}
use Rattle.snl_tables.specs.declared.rows.WakeUp.{WakeUp}
use Rattle.snl_tables.specs.Moved.{moved_set, moved_state, moved_tables}
use Rattle.snl_tables.specs.Shifted.{changed_at, marked, shifted_state, with_body_in, with_marks_in, with_own_body, with_own_wake, with_wake_in}
use Rattle.snl_kept.specs.declared.found.findings.Finding.{Finding}
use Rattle.snl_kept.specs.declared.plan.RowChange.{RowChange}
use Rattle.snl_kept.specs.declared.plan.RowChange.TheVariants as changes
use Rattle.snl_kept.specs.declared.ways.one_item.set_findings.NewName.{NewName}
use Rattle.snl_kept.specs.OwnFindings.{WalksAround}
use Rattle.snl_kept.specs.OwnRows.{come_of, gone_of, named, with_own_name, with_row}
use Rattle.snl_kept.specs.Shifted.{shifted_finding}
use Rattle.snl_kept.specs.Tables.{found_at_name, found_at_state, found_in_set, walked_in}
use Rattle.snl_kept.proofs.ShiftedFindings.{state_shifts, states_shift, walked_shift}

-- ---- what tells whether a state is found

-- its name and its mark
abbrev title : StateRow → Span × StateMark
title row = (row.name, row.mark)

abbrev found_by_title : Span × StateMark → List Finding
found_by_title (name, m) = found_at_name m name

abbrev titles_marked : List StateMark → List (Span × StateMark) → List (Span × StateMark)
titles_marked (m ∷ ms) (t ∷ ts) = (t.0, m) ∷ titles_marked ms ts
titles_marked _ ts = ts

by_titles : (marks : List StateMark) (rows : List StateRow) → flat_map found_at_state (marked marks rows) ≡ flat_map found_by_title (titles_marked marks (map title rows))
by_titles [] [] = refl
by_titles [] (row ∷ rows) = ap (λ (l : List Finding). found_at_state row ++ l) (by_titles [] rows)
by_titles (m ∷ marks) [] = refl
by_titles (m ∷ marks) (row ∷ rows) = ap (λ (l : List Finding). found_at_name m row.name ++ l) (by_titles marks rows)

same_titles : (marks : List StateMark) (rows others : List StateRow) → map title rows ≡ map title others → flat_map found_at_state (marked marks rows) ≡ flat_map found_at_state (marked marks others)
same_titles marks rows others same =
    by_titles marks rows
    ∙ ap (λ (ts : List (Span × StateMark)). flat_map found_by_title (titles_marked marks ts)) same
    ∙ sym (by_titles marks others)

-- a change of one row
titles_changed : (f : StateRow → StateRow) (g : Span × StateMark → Span × StateMark) → ((row : StateRow) → title (f row) ≡ g (title row))
    → (n : ℕ) (rows : List StateRow) → map title (changed_at f n rows) ≡ changed_at g n (map title rows)
titles_changed f g told n [] = refl
titles_changed f g told zero (row ∷ rows) = ap (λ (t : Span × StateMark). t ∷ map title rows) (told row)
titles_changed f g told (suc n) (row ∷ rows) = ap (λ (ts : List (Span × StateMark)). title row ∷ ts) (titles_changed f g told n rows)

titles_kept : (f : StateRow → StateRow) → ((row : StateRow) → title (f row) ≡ title row) → (n : ℕ) (rows : List StateRow) → map title (changed_at f n rows) ≡ map title rows
titles_kept f told n [] = refl
titles_kept f told zero (row ∷ rows) = ap (λ (t : Span × StateMark). t ∷ map title rows) (told row)
titles_kept f told (suc n) (row ∷ rows) = ap (λ (ts : List (Span × StateMark)). title row ∷ ts) (titles_kept f told n rows)

-- whatever becomes of lines
titles_moved : (s : Shift) (line : ℕ → Line → Line) (rows : List StateRow) → map title (map (moved_state s line) rows) ≡ map title (map (shifted_state s) rows)
titles_moved s line [] = refl
titles_moved s line (row ∷ rows) = ap (λ (ts : List (Span × StateMark)). title (shifted_state s row) ∷ ts) (titles_moved s line rows)

-- the row of the set after the edit
abbrev remade : ℕ → StateBody → List WakeUp → List StateMark → SetRow → SetRow
remade number body wake marks row = with_marks_in marks (with_wake_in number wake (with_body_in number body row))

-- its states have the titles of those that are shifted, but for the name of one
abbrev own_name : ℕ → StateBody → Option NewName
own_name n body = Some (record { number = n; name = body.name })

remade_titles : (s : Shift) (line : ℕ → Line → Line) (n : ℕ) (body : StateBody) (wake : List WakeUp) (rows : List StateRow)
    → map title (changed_at (with_own_wake wake) n (changed_at (with_own_body body) n (map (moved_state s line) rows))) ≡ map title (named (own_name n body) (map (shifted_state s) rows))
remade_titles s line n body wake rows =
    let renamed : Span × StateMark → Span × StateMark = λ t. (body.name, t.1) in
    titles_kept (with_own_wake wake) (λ (row : StateRow). refl) n (changed_at (with_own_body body) n (map (moved_state s line) rows))
    ∙ titles_changed (with_own_body body) renamed (λ (row : StateRow). refl) n (map (moved_state s line) rows)
    ∙ ap (changed_at renamed n) (titles_moved s line rows)
    ∙ sym (titles_changed (with_own_name body.name) renamed (λ (row : StateRow). refl) n (map (shifted_state s) rows))

-- ---- what is found in all rows

module _ (s : Shift) where
  abbrev sh : Finding → Finding
  sh = shifted_finding s

  -- nothing else is found
  alone : (gone come : List Finding) → WalksAround s gone come gone come
  alone gone come = record { front = []; back = []; were = sym (append-nil gone); are = sym (append-nil come) }

  -- what is found after it, or before it, is shifted
  with_rest : (gone come before after rest moved : List Finding) → WalksAround s gone come before after → moved ≡ map sh rest → WalksAround s gone come (before ++ rest) (after ++ moved)
  with_rest gone come before after rest moved w h = record {
    front = w.front;
    back = w.back ++ rest;
    were = ap (λ (l : List Finding). l ++ rest) w.were
        ∙ append_assoc w.front (gone ++ w.back) rest
        ∙ ap (λ (l : List Finding). w.front ++ l) (append_assoc gone w.back rest);
    are = ap₂ (λ (a b : List Finding). a ++ b) w.are h
        ∙ append_assoc (map sh w.front) (come ++ map sh w.back) (map sh rest)
        ∙ ap (λ (l : List Finding). map sh w.front ++ l)
        (append_assoc come (map sh w.back) (map sh rest) ∙ ap (λ (l : List Finding). come ++ l) (sym (map-append sh w.back rest)));
  }

  after_rest : (gone come before after rest moved : List Finding) → WalksAround s gone come before after → moved ≡ map sh rest → WalksAround s gone come (rest ++ before) (moved ++ after)
  after_rest gone come before after rest moved w h = record {
    front = rest ++ w.front;
    back = w.back;
    were = ap (λ (l : List Finding). rest ++ l) w.were ∙ sym (append_assoc rest w.front (gone ++ w.back));
    are = ap₂ (λ (a b : List Finding). a ++ b) h w.are
        ∙ sym (append_assoc (map sh rest) (map sh w.front) (come ++ map sh w.back))
        ∙ ap (λ (l : List Finding). l ++ (come ++ map sh w.back)) (sym (map-append sh rest w.front));
  }

  -- one of some is changed, the others are shifted
  module _ {X : Type 0} (found : X → List Finding) (move : X → X) (moves : (x : X) → found (move x) ≡ map sh (found x)) (g : X → X) (gone come : X → List Finding)
      (around : (x : X) → WalksAround s (gone x) (come x) (found x) (found (g (move x)))) where
    all_moved : (xs : List X) → flat_map found (map move xs) ≡ map sh (flat_map found xs)
    all_moved [] = refl
    all_moved (x ∷ xs) = ap₂ (λ (a b : List Finding). a ++ b) (moves x) (all_moved xs) ∙ sym (map-append sh (found x) (flat_map found xs))

    among : (k : ℕ) (xs : List X) → WalksAround s (option_map_or gone (slice_get xs k) []) (option_map_or come (slice_get xs k) []) (flat_map found xs) (flat_map found (changed_at g k (map move xs)))
    among k [] = alone [] []
    among zero (x ∷ xs) = with_rest (gone x) (come x) (found x) (found (g (move x))) (flat_map found xs) (flat_map found (map move xs)) (around x) (all_moved xs)
    among (suc k) (x ∷ xs) =
        after_rest (option_map_or gone (slice_get xs k) []) (option_map_or come (slice_get xs k) []) (flat_map found xs) (flat_map found (changed_at g k (map move xs))) (found x) (found (move x)) (among k xs) (moves x)

  module _ (line : ℕ → Line → Line) where
    abbrev sets_around : (g : SetRow → SetRow) (gone come : SetRow → List Finding) → ((row : SetRow) → WalksAround s (gone row) (come row) (found_in_set row) (found_in_set (g (moved_set s line row))))
        → (k : ℕ) (rows : List SetRow) → WalksAround s (option_map_or gone (slice_get rows k) []) (option_map_or come (slice_get rows k) []) (flat_map found_in_set rows) (flat_map found_in_set (changed_at g k (map (moved_set s line) rows)))
    sets_around g gone come around k rows = among found_in_set (moved_set s line) (λ (row : SetRow). states_shift s line row.states) g gone come around k rows

    -- all that is found in the set comes and goes
    set_around : (g : SetRow → SetRow) (come : SetRow → List Finding) → ((row : SetRow) → found_in_set (g (moved_set s line row)) ≡ come row)
        → (k : ℕ) (rows : List SetRow) → WalksAround s (option_map_or found_in_set (slice_get rows k) []) (option_map_or come (slice_get rows k) []) (flat_map found_in_set rows) (flat_map found_in_set (changed_at g k (map (moved_set s line) rows)))
    set_around g come comes k rows =
        sets_around g found_in_set come (λ (row : SetRow). subst (λ (l : List Finding). WalksAround s (found_in_set row) (come row) (found_in_set row) l) (sym (comes row)) (alone (found_in_set row) (come row))) k rows

    -- what is found at one state of it does
    state_around : (n : ℕ) (body : StateBody) (row : SetRow)
        → WalksAround s (option_map_or found_at_state (slice_get row.states n) []) (option_map_or (λ (r : StateRow). found_at_name r.mark body.name) (slice_get row.states n) []) (found_in_set row) (found_in_set (with_body_in n body (moved_set s line row)))
    state_around n body row =
        among found_at_state (moved_state s line) (state_shifts s line) (with_own_body body) found_at_state (λ (r : StateRow). found_at_name r.mark body.name) (λ (r : StateRow). alone (found_at_state r) (found_at_name r.mark body.name)) n row.states

    of_place : (f : StateRow → List Finding) (n : ℕ) (o : Option SetRow)
        → option_map_or (λ (row : SetRow). option_map_or f (slice_get row.states n) []) o [] ≡ option_map_or f (option_and_then (λ (row : SetRow). slice_get row.states n) o) []
    of_place f n None = refl
    of_place f n (Some row) = refl

    pub walks_around : (t : Tables) (change : RowChange) → WalksAround s (gone_of t change) (come_of s t change) (walked_in t) (walked_in (with_row (moved_tables s line t) change))
    walks_around t changes.Nothing = record {
      front = walked_in t;
      back = [];
      were = sym (append-nil (walked_in t));
      are = walked_shift s line t ∙ sym (append-nil (map sh (walked_in t)));
    }
    walks_around t (changes.Body place body) =
        let k : ℕ = place.set in
        let n : ℕ = place.state in
        let renamed : StateRow → List Finding = λ r. found_at_name r.mark body.name in
        let after : List Finding = walked_in (with_row (moved_tables s line t) (changes.Body place body)) in
        subst (λ (g : List Finding). WalksAround s g (come_of s t (changes.Body place body)) (walked_in t) after) (of_place found_at_state n (slice_get t.sets k))
        (subst (λ (c : List Finding). WalksAround s (option_map_or (λ (row : SetRow). option_map_or found_at_state (slice_get row.states n) []) (slice_get t.sets k) []) c (walked_in t) after) (of_place renamed n (slice_get t.sets k))
        (sets_around (with_body_in n body) (λ (row : SetRow). option_map_or found_at_state (slice_get row.states n) []) (λ (row : SetRow). option_map_or renamed (slice_get row.states n) []) (state_around n body) k t.sets))
    walks_around t (changes.State place body wake marks) =
        let k : ℕ = place.set in
        let n : ℕ = place.state in
        let sets : List SetRow = map (moved_set s line) t.sets in
        let joined : changed_at (with_marks_in marks) k (changed_at (with_wake_in n wake) k (changed_at (with_body_in n body) k sets)) ≡ changed_at (remade n body wake marks) k sets =
        changed_twice (with_marks_in marks) (with_wake_in n wake) k (changed_at (with_body_in n body) k sets)
        ∙ changed_twice (λ (r : SetRow). with_marks_in marks (with_wake_in n wake r)) (with_body_in n body) k sets in
        subst (λ (l : List SetRow). WalksAround s (gone_of t (changes.State place body wake marks)) (come_of s t (changes.State place body wake marks)) (walked_in t) (flat_map found_in_set l)) (sym joined)
        (set_around (remade n body wake marks) (λ (r : SetRow). flat_map found_at_state (marked marks (named (own_name n body) (map (shifted_state s) r.states))))
        (λ (r : SetRow). same_titles marks (changed_at (with_own_wake wake) n (changed_at (with_own_body body) n (map (moved_state s line) r.states))) (named (own_name n body) (map (shifted_state s) r.states))
        (remade_titles s line n body wake r.states)) k t.sets)
    walks_around t (changes.Marks set marks) =
        set_around (with_marks_in marks) (λ (r : SetRow). flat_map found_at_state (marked marks (named None (map (shifted_state s) r.states))))
        (λ (r : SetRow). same_titles marks (map (moved_state s line) r.states) (map (shifted_state s) r.states) (titles_moved s line r.states)) set t.sets
