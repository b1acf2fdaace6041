-- The lines of a listing.
use Rattle.std.proofs.Common.{◌≡◌, ℕ, ◌+◌, ◌<◌, false, List, [], ◌∷◌, ◌++◌, length, map, refl, ap, ◌∙◌, sym, subst, arith, lit<}
use Rattle.std.specs.Prelude.{◌==◌, All, codes, count_by, if◌then◌else◌, sum}
use Rattle.std.specs.List.{concat, flat_map}
use Rattle.std.proofs.lemmas.Bool.{ne_eqb}
use Rattle.std.proofs.lemmas.List.{append-nil, append_assoc, length-append}
use Rattle.std.proofs.lemmas.List.Elements.{All-append, All-cons, All-head, All-nil, All-tail, All-weaker}
use Rattle.std.proofs.lemmas.List.Sums.{sum_by-append, sum_by-cons}
use Rattle.snl_tables.specs.declared.rows.SetRow.{SetRow}
use Rattle.snl_tables.specs.declared.rows.StateMark.{StateMark}
use Rattle.snl_tables.specs.declared.rows.StateMark.TheVariants.{Faulty, Repeated, Unknown, Reached, Unreached}
use Rattle.snl_tables.specs.declared.rows.StateRow.{StateRow}
use Rattle.snl_tables.specs.declared.rows.Tables.{Tables}
use Rattle.snl_tables.specs.WakeSets.{wake_channels, wake_flags}
use Rattle.snl_listing.specs.Listing as listing
use Rattle.snl_listing.specs.Listing.{channel_line, flag_line, goto_line, listing_of, numbered, option_line, program_line, set_line, set_text, state_line, state_lines, state_text, wake_line, when_line}
use Rattle.snl_table_laws.specs.Lines.{AreLines, HasByteLetter, HasByteOptions, HasBytePv, HasBytes, IsByte, IsLine, IsPrinted, rows_of, rows_of_set, rows_of_state, state_details, unless_faulty}
use Rattle.snl_table_laws.proofs.Rows.{channel_is_line, flag_is_line, goto_is_line, option_is_line, program_is_line, set_is_line, state_is_line, wake_is_line, when_is_line}
use Rattle.std.proofs.lemmas.List.Folds.{concat-append}

-- ---- lines one after another

no_line : AreLines 0 []
no_line = record { lines = []; each = All-nil IsLine; joined = refl; number = refl }

one_line : (bytes : List ℕ) → IsLine bytes → AreLines 1 bytes
one_line bytes h = record { lines = bytes ∷ []; each = All-cons IsLine bytes [] h (All-nil IsLine); joined = sym (append-nil bytes); number = refl }

then_lines : (m n : ℕ) (a b : List ℕ) → AreLines m a → AreLines n b → AreLines (m + n) (a ++ b)
then_lines m n a b first more = record {
  lines = first.lines ++ more.lines;
  each = All-append IsLine first.lines more.lines first.each more.each;
  joined = ap (λ (l : List ℕ). l ++ b) first.joined ∙ ap (λ (l : List ℕ). concat first.lines ++ l) more.joined ∙ sym (concat-append first.lines more.lines);
  number = omega (arith, length-append first.lines more.lines, first.number, more.number);
}

so_many : (m n : ℕ) (bytes : List ℕ) → m ≡ n → AreLines m bytes → AreLines n bytes
so_many m n bytes e h = subst (λ (k : ℕ). AreLines k bytes) e h

-- ---- lines of rows

each_line : {X : Type 0} (line : X → List ℕ) (P : X → Type 0) → ((x : X) → P x → IsLine (line x)) → (xs : List X) → All P xs → AreLines (length xs) (flat_map line xs)
each_line line P is [] h = no_line
each_line line P is (x ∷ xs) h =
    so_many (1 + length xs) (length (x ∷ xs)) (flat_map line (x ∷ xs)) (omega arith)
    (then_lines 1 (length xs) (line x) (flat_map line xs) (one_line (line x) (is x (All-head P x xs h))) (each_line line P is xs (All-tail P x xs h)))

each_numbered : {X : Type 0} (line : ℕ → X → List ℕ) (P : X → Type 0) → ((n : ℕ) (x : X) → P x → IsLine (line n x)) → (n : ℕ) (xs : List X) → All P xs → AreLines (length xs) (numbered line n xs)
each_numbered line P is n [] h = no_line
each_numbered line P is n (x ∷ xs) h =
    so_many (1 + length xs) (length (x ∷ xs)) (numbered line n (x ∷ xs)) (omega arith)
    (then_lines 1 (length xs) (line n x) (numbered line (n + 1) xs) (one_line (line n x) (is n x (All-head P x xs h))) (each_numbered line P is (n + 1) xs (All-tail P x xs h)))

each_group : {X : Type 0} (text : X → List ℕ) (count : X → ℕ) (P : X → Type 0) → ((x : X) → P x → AreLines (count x) (text x)) → (xs : List X) → All P xs → AreLines (sum (map count xs)) (flat_map text xs)
each_group text count P are [] h = no_line
each_group text count P are (x ∷ xs) h =
    so_many (count x + sum (map count xs)) (sum (map count (x ∷ xs))) (flat_map text (x ∷ xs)) (sym (sum_by-cons (λ n. n) (count x) (map count xs)))
    (then_lines (count x) (sum (map count xs)) (text x) (flat_map text xs) (are x (All-head P x xs h)) (each_group text count P are xs (All-tail P x xs h)))

any : {X : Type 0} (xs : List X) → All (λ (x : X). Unit {0}) xs
any xs = λ k d lt. tt

-- ---- the listing

details_are_lines : (text : List ℕ) → All IsByte text → (tables : Tables) (state : StateRow) → HasByteOptions state → AreLines (state_details state) (state_lines text tables state)
details_are_lines text h tables state letters =
    then_lines (length state.options) (length state.transitions + (length state.gotos + 1)) (flat_map (option_line (codes "  ")) state.options)
    (numbered (when_line text) 0 state.transitions ++ (flat_map (goto_line text) state.gotos ++ (wake_line (wake_flags tables state) (wake_channels tables state) ++ [])))
    (each_line (option_line (codes "  ")) HasByteLetter (option_is_line (codes "  ") refl) state.options letters)
    (then_lines (length state.transitions) (length state.gotos + 1) (numbered (when_line text) 0 state.transitions)
    (flat_map (goto_line text) state.gotos ++ (wake_line (wake_flags tables state) (wake_channels tables state) ++ []))
    (each_numbered (when_line text) (λ d. Unit {0}) (λ k d _. when_is_line text h k d) 0 state.transitions (any state.transitions))
    (then_lines (length state.gotos) 1 (flat_map (goto_line text) state.gotos) (wake_line (wake_flags tables state) (wake_channels tables state) ++ [])
    (each_line (goto_line text) (λ g. Unit {0}) (λ g _. goto_is_line text h g) state.gotos (any state.gotos))
    (then_lines 1 0 (wake_line (wake_flags tables state) (wake_channels tables state)) []
    (one_line (wake_line (wake_flags tables state) (wake_channels tables state)) (wake_is_line (wake_flags tables state) (wake_channels tables state))) no_line)))

unless_faulty_lines : (mark : StateMark) (n : ℕ) (bytes : List ℕ) → AreLines n bytes → AreLines (unless_faulty mark n) (listing.unless_faulty mark bytes)
unless_faulty_lines Faulty n bytes h = no_line
unless_faulty_lines Repeated n bytes h = h
unless_faulty_lines Unknown n bytes h = h
unless_faulty_lines Reached n bytes h = h
unless_faulty_lines Unreached n bytes h = h

state_in_lines : (text : List ℕ) → All IsByte text → (tables : Tables) (state : StateRow) → HasByteOptions state → AreLines (rows_of_state state) (state_text text tables state)
state_in_lines text h tables state letters =
    then_lines 1 (unless_faulty state.mark (state_details state)) (state_line text state) (listing.unless_faulty state.mark (state_lines text tables state))
    (one_line (state_line text state) (state_is_line text h state))
    (unless_faulty_lines state.mark (state_details state) (state_lines text tables state) (details_are_lines text h tables state letters))

set_in_lines : (text : List ℕ) → All IsByte text → (tables : Tables) (set : SetRow) → All HasByteOptions set.states → AreLines (rows_of_set set) (set_text text tables set)
set_in_lines text h tables set letters =
    then_lines 1 (sum (map rows_of_state set.states)) (set_line text set) (flat_map (state_text text tables) set.states)
    (one_line (set_line text set) (set_is_line text h set))
    (each_group (state_text text tables) rows_of_state HasByteOptions (state_in_lines text h tables) set.states letters)

pub in_lines : (text : List ℕ) (tables : Tables) → All IsByte text → HasBytes tables → AreLines (rows_of tables) (listing_of text tables)
unfolding listing_of
in_lines text tables h has =
    then_lines 1 (length tables.options + (length tables.flags + (length tables.channels + sum (map rows_of_set tables.sets)))) (program_line text tables.program)
    (flat_map (option_line []) tables.options ++ (numbered (flag_line text) 1 tables.flags ++ (numbered (channel_line text) 0 tables.channels ++ (flat_map (set_text text tables) tables.sets ++ []))))
    (one_line (program_line text tables.program) (program_is_line text h tables.program))
    (then_lines (length tables.options) (length tables.flags + (length tables.channels + sum (map rows_of_set tables.sets))) (flat_map (option_line []) tables.options)
    (numbered (flag_line text) 1 tables.flags ++ (numbered (channel_line text) 0 tables.channels ++ (flat_map (set_text text tables) tables.sets ++ [])))
    (each_line (option_line []) HasByteLetter (option_is_line [] refl) tables.options has.options)
    (then_lines (length tables.flags) (length tables.channels + sum (map rows_of_set tables.sets)) (numbered (flag_line text) 1 tables.flags)
    (numbered (channel_line text) 0 tables.channels ++ (flat_map (set_text text tables) tables.sets ++ []))
    (each_numbered (flag_line text) (λ f. Unit {0}) (λ n f _. flag_is_line text h n f) 1 tables.flags (any tables.flags))
    (then_lines (length tables.channels) (sum (map rows_of_set tables.sets)) (numbered (channel_line text) 0 tables.channels)
    (flat_map (set_text text tables) tables.sets ++ [])
    (each_numbered (channel_line text) HasBytePv (channel_is_line text h) 0 tables.channels has.channels)
    (so_many (sum (map rows_of_set tables.sets) + 0) (sum (map rows_of_set tables.sets)) (flat_map (set_text text tables) tables.sets ++ []) (omega arith)
    (then_lines (sum (map rows_of_set tables.sets)) 0 (flat_map (set_text text tables) tables.sets) []
    (each_group (set_text text tables) rows_of_set (λ set. All HasByteOptions set.states) (set_in_lines text h tables) tables.sets has.states) no_line)))))

-- ---- what lines are

abbrev IsAscii : ℕ → Type 0
IsAscii b = b < 128

ascii_line : (bytes : List ℕ) → IsLine bytes → All IsAscii bytes
ascii_line bytes h =
    let P : List ℕ → Type 0 = λ l. All IsAscii l in
    subst P (sym h.whole)
    (All-append IsAscii h.shown (10 ∷ []) (All-weaker IsPrinted IsAscii (λ b p. omega (arith, p.0, p.1)) h.shown h.prints) (All-cons IsAscii 10 [] (lit< tt) (All-nil IsAscii)))

all_ascii : (lines : List (List ℕ)) → All IsLine lines → All IsAscii (concat lines)
all_ascii [] h = All-nil IsAscii
all_ascii (line ∷ lines) h = All-append IsAscii line (concat lines) (ascii_line line (All-head IsLine line lines h)) (all_ascii lines (All-tail IsLine line lines h))

pub lines_ascii : (count : ℕ) (bytes : List ℕ) → AreLines count bytes → All (λ b. b < 128) bytes
lines_ascii count bytes h = let P : List ℕ → Type 0 = λ l. All IsAscii l in subst P (sym h.joined) (all_ascii h.lines h.each)

abbrev ends : List ℕ → ℕ
ends bytes = count_by (λ b. b == 10) bytes

no_end : (bytes : List ℕ) → All IsPrinted bytes → ends bytes ≡ 0
no_end [] h = refl
no_end (b ∷ bs) h =
    let p = All-head IsPrinted b bs h in
    let other : (b == 10) ≡ false = ne_eqb b 10 (λ e. omega (arith, p.0, e)) in
    sum_by-cons (λ x. if x == 10 then 1 else 0) b bs ∙ rw (other, no_end bs (All-tail IsPrinted b bs h)) refl

one_end : (bytes : List ℕ) → IsLine bytes → ends bytes ≡ 1
one_end bytes h = ap ends h.whole ∙ sum_by-append (λ x. if x == 10 then 1 else 0) h.shown (10 ∷ []) ∙ rw (no_end h.shown h.prints) refl

all_ends : (lines : List (List ℕ)) → All IsLine lines → ends (concat lines) ≡ length lines
all_ends [] h = refl
all_ends (line ∷ lines) h =
    let here : ends line ≡ 1 = one_end line (All-head IsLine line lines h) in
    let more : ends (concat lines) ≡ length lines = all_ends lines (All-tail IsLine line lines h) in
    sum_by-append (λ x. if x == 10 then 1 else 0) line (concat lines) ∙ omega (arith, here, more)

pub lines_end : (count : ℕ) (bytes : List ℕ) → AreLines count bytes → count_by (λ b. b == 10) bytes ≡ count
lines_end count bytes h = ap ends h.joined ∙ all_ends h.lines h.each ∙ sym h.number
