-- Numbers that are put into sets, and what uses cover.
use Rattle.std.proofs.Common.{◌≡◌, ℕ, zero, suc, ◌+◌, ◌<◌, ◌≤◌, nat_eq, ◌||◌, ◌⊎◌, leb, List, [], ◌∷◌, Bool, true, false, cond, length, take, get_or, filter, inl, inr, refl, sym, ap, ◌∙◌, arith, set, length-set, replicate, add-one}
use Rattle.std.proofs.lemmas.Bool.{cases_eq, leb-false, leb-true}
use Rattle.std.proofs.lemmas.Bool.Decides.{nat_tests}
use Rattle.std.proofs.lemmas.List.{length-replicate, get_or-replicate, get_or-set_other, get_or-set_same, get_or_past}
use Rattle.std.proofs.lemmas.List.Folds.{list_any_more}
use Rattle.std.specs.List.{list_any, range_with_len}
use Rattle.std.proofs.Math.Bool.{or-false, or-true}
use Rattle.snl_tables.specs.declared.rows.StateRow.{StateRow}
use Rattle.snl_tables.specs.declared.rows.Tables.{Tables}
use Rattle.snl_tables.specs.declared.rows.WakeUp.{WakeUp}
use Rattle.snl_tables.specs.Marks.{is_marked, marked}
use Rattle.snl_tables.specs.WakeSets.{AreCovered, AreSeen, Inserts, channels_of, covers_channel, covers_flag, holds, wake_channels, wake_flags}
use Rattle.snl_tables.proofs.Marking.{filter_same, marked_none}

-- ---- sets

or_true_right : (a b : Bool) → (a || (b || true)) ≡ true
or_true_right true b = refl
or_true_right false b = or-true b

pub marked_new : (count : ℕ) → marked (replicate count false) ≡ []
marked_new count = marked_none (replicate count false) (λ n a b. get_or-replicate count n false false (omega (arith, length-replicate count false)))

-- where no number passes, each fails
filter_empty : (p : ℕ → Bool) (from count n : ℕ) → filter p (range_with_len from count) ≡ [] → from ≤ n → n < from + count → p n ≡ false
filter_empty p from zero n none a b = absurd (omega arith)
filter_empty p from (suc count) n none a b = by_test (p from) refl none (λ rest less. filter_empty p (from + 1) count n rest less (omega arith))
  where
    by_test : (here : Bool) → p from ≡ here → cond here (from ∷ filter p (range_with_len (from + 1) count)) (filter p (range_with_len (from + 1) count)) ≡ [] → (filter p (range_with_len (from + 1) count) ≡ [] → from + 1 ≤ n → p n ≡ false) → p n ≡ false
    by_test true is h more = cc
    by_test false is h more = elim (cases_eq from n) [ inl same ↦ ap p (sym same) ∙ is | inr other ↦ more h (omega arith) ]

pub marked_empty : (marks : List Bool) (n : ℕ) → marked marks ≡ [] → is_marked marks n ≡ false
unfolding marked
marked_empty marks n none = by_place (leb (length marks) n) refl
  where
    by_place : (c : Bool) → leb (length marks) n ≡ c → is_marked marks n ≡ false
    by_place true t = get_or_past marks n false (leb-true (length marks) n t)
    by_place false t = filter_empty (is_marked marks) 0 (length marks) n none (omega arith) (omega (arith, leb-false (length marks) n t))

-- one number more was put in
pub inserts_more : (old new : List Bool) (numbers : List ℕ) (i number : ℕ) → i < length numbers → get_or numbers i 0 ≡ number → Inserts old new (take i numbers) → Inserts old (set new number true) (take (i + 1) numbers)
inserts_more old new numbers i number h is inserted = record {
  limit = length-set new number true ∙ inserted.limit;
  each = λ n below. each n below (cases_eq n number);
}
  where
    more : (n : ℕ) → holds (take (i + 1) numbers) n ≡ (holds (take i numbers) n || nat_eq n number)
    more n = list_any_more (nat_eq n) numbers i 0 h ∙ ap (λ (m : ℕ). holds (take i numbers) n || nat_eq n m) is

    each : (n : ℕ) → n < length old → (n ≡ number) ⊎ (n ≡ number → ⊥) → is_marked (set new number true) n ≡ (is_marked old n || holds (take (i + 1) numbers) n)
    each n below (inl same) =
        let here : is_marked (set new number true) n ≡ true = ap (is_marked (set new number true)) same ∙ get_or-set_same new number true false (omega (arith, inserted.limit)) in
        let test : nat_eq n number ≡ true = grind (arith, nat_tests) in
        rw (here, more n, test) (sym (or_true_right (is_marked old n) (holds (take i numbers) n)))
    each n below (inr other) =
        let here : is_marked (set new number true) n ≡ is_marked new n = get_or-set_other new number n true false other in
        let test : nat_eq n number ≡ false = grind (arith, nat_tests) in
        rw (here, more n, test, inserted.each n below) (ap (λ (b : Bool). is_marked old n || b) (sym (or-false (holds (take i numbers) n))))

-- what was seen is put in already
pub seen_inserted : (variables : List (List ℕ)) (seen channels : List Bool) (number : ℕ) → AreSeen variables seen channels → is_marked seen number ≡ true → Inserts channels channels (channels_of variables number)
seen_inserted variables seen channels number are here = record { limit = refl; each = λ n below. each n below (holds (channels_of variables number) n) refl }
  where
    each : (n : ℕ) → n < length channels → (held : Bool) → holds (channels_of variables number) n ≡ held → is_marked channels n ≡ (is_marked channels n || holds (channels_of variables number) n)
    each n below true h = rw (are number n here below h) refl
    each n below false h = rw h (sym (or-false (is_marked channels n)))

-- an unknown variable has no channels
pub none_inserted : (variables : List (List ℕ)) (channels : List Bool) (number : ℕ) → length variables ≤ number → Inserts channels channels (channels_of variables number)
none_inserted variables channels number past = record {
  limit = refl;
  each = λ n below. rw (get_or_past variables number [] past) (sym (or-false (is_marked channels n)));
}

-- a variable was put in, and is seen
pub seen_more : (variables : List (List ℕ)) (seen old new : List Bool) (number : ℕ) → AreSeen variables seen old → Inserts old new (channels_of variables number) → AreSeen variables (set seen number true) new
seen_more variables seen old new number are inserted variable n marked_there below held =
    let at : is_marked new n ≡ (is_marked old n || holds (channels_of variables number) n) = inserted.each n (omega (arith, inserted.limit)) in
    at ∙ elim (cases_eq variable number) [ inl same ↦ here same | inr other ↦ there other ]
  where
    here : variable ≡ number → (is_marked old n || holds (channels_of variables number) n) ≡ true
    here same = ap (λ (v : ℕ). is_marked old n || holds (channels_of variables v) n) (sym same) ∙ ap (λ (b : Bool). is_marked old n || b) held ∙ or-true (is_marked old n)

    there : (variable ≡ number → ⊥) → (is_marked old n || holds (channels_of variables number) n) ≡ true
    there other = ap (λ (b : Bool). b || holds (channels_of variables number) n) (are variable n (sym (get_or-set_other seen number variable true false other) ∙ marked_there) (omega (arith, inserted.limit)) held)

-- ---- the wake-up set

covered_flags : (variables : List (List ℕ)) (uses : List WakeUp) (flags channels : List Bool) (count : ℕ) → AreCovered variables uses flags channels → length flags ≡ count + 1 → marked flags ≡ filter (λ n. list_any (covers_flag n) uses) (range_with_len 1 count)
unfolding marked
covered_flags variables uses flags channels count covered limit =
    let all : marked flags ≡ filter (is_marked flags) (range_with_len 0 (suc count)) = ap (λ (m : ℕ). filter (is_marked flags) (range_with_len 0 m)) (limit ∙ add-one count) in
    let rest : filter (is_marked flags) (range_with_len 1 count) ≡ filter (λ n. list_any (covers_flag n) uses) (range_with_len 1 count) = filter_same (is_marked flags) (λ n. list_any (covers_flag n) uses) 1 count (λ n a b. covered.flag_marks n (omega arith) (omega arith)) in
    all ∙ rw covered.no_flag rest

covered_channels : (variables : List (List ℕ)) (uses : List WakeUp) (flags channels : List Bool) (count : ℕ) → AreCovered variables uses flags channels → length channels ≡ count → marked channels ≡ filter (λ n. list_any (covers_channel variables n) uses) (range_with_len 0 count)
unfolding marked
covered_channels variables uses flags channels count covered limit =
    filter_same (is_marked channels) (λ n. list_any (covers_channel variables n) uses) 0 (length channels) (λ n a b. covered.channel_marks n (omega arith)) ∙
    ap (λ (m : ℕ). filter (λ n. list_any (covers_channel variables n) uses) (range_with_len 0 m)) limit

pub marks_flags : (tables : Tables) (state : StateRow) (variables : List (List ℕ)) (uses : List WakeUp) (flags channels : List Bool) → uses ≡ state.wake → AreCovered variables uses flags channels → length flags ≡ length tables.flags + 1 → marked flags ≡ wake_flags tables state
marks_flags tables state variables uses flags channels is covered limit = covered_flags variables uses flags channels (length tables.flags) covered limit ∙ ap (λ (us : List WakeUp). filter (λ n. list_any (covers_flag n) us) (range_with_len 1 (length tables.flags))) is

pub marks_channels : (tables : Tables) (state : StateRow) (variables : List (List ℕ)) (uses : List WakeUp) (flags channels : List Bool) → variables ≡ tables.variables → uses ≡ state.wake → AreCovered variables uses flags channels → length channels ≡ length tables.channels → marked channels ≡ wake_channels tables state
marks_channels tables state variables uses flags channels held is covered limit =
    covered_channels variables uses flags channels (length tables.channels) covered limit ∙
    ap (λ (us : List WakeUp). filter (λ n. list_any (covers_channel variables n) us) (range_with_len 0 (length tables.channels))) is ∙
    ap (λ (vs : List (List ℕ)). filter (λ n. list_any (covers_channel vs n) state.wake) (range_with_len 0 (length tables.channels))) held
