-- What a diagnostic quotes lies in the text.
use Rattle.std.proofs.Common.{◌≡◌, ◌⊎◌, ℕ, ◌+◌, ◌<◌, ◌≤◌, Bool, true, false, All, List, [], ◌∷◌, ◌++◌, length, drop, slice_get, Option, None, Some, inl, inr, refl, sym, ap, subst, arith}
use Rattle.std.specs.Prelude.{if◌then◌else◌, option_and_then, option_map}
use Rattle.std.specs.List.{AllByRecursion as Each, cons_option, enumerate_from}
use Rattle.std.proofs.lemmas.List.{length-take}
use Rattle.std.proofs.lemmas.List.Elements.{All-from_recursion, recursion_from_All}
use Rattle.snl_cut.specs.Cut.{Rises, last_end}
use Rattle.snl_lex.specs.declared.piece.Piece.{Piece}
use Rattle.snl_lex.specs.Pieces.{LiesIn, pieces_of}
use Rattle.snl_grammar.specs.declared.outcome.Parsed.{Parsed}
use Rattle.snl_grammar.specs.declared.outcome.Parsed.TheVariants as parsed
use Rattle.snl_grammar.specs.declared.tree.clause.OptionLine.{OptionLine}
use Rattle.snl_grammar.specs.declared.tree.item.Item.{Item}
use Rattle.snl_grammar.specs.declared.tree.item.Item.TheVariants as items
use Rattle.snl_grammar.specs.declared.tree.state.StateMember.{StateMember}
use Rattle.snl_grammar.specs.declared.tree.state.StateMember.TheVariants as members
use Rattle.snl_grammar.specs.Outcome.{parsed_in}
use Rattle.snl_grammar.specs.Parsing.{kinds_in}
use Rattle.snl_grammar.specs.Reading.Items.{item_of}
use Rattle.snl_codes.specs.declared.code.Code.{Code}
use Rattle.snl_codes.specs.declared.code.Code.TheVariants.{E01, E02, W02, W04}
use Rattle.snl_codes.specs.Codes.{quoted_bytes}
use Rattle.snl_walk.specs.Items.{occurrences}
use Rattle.snl_walk.specs.Rules.{findings}
use Rattle.snl_walk.specs.Tokens.{bytes_if, token_bytes}
use Rattle.snl_scope.specs.declared.facts.Fact.{Fact}
use Rattle.snl_summary.specs.declared.summary.Outline.{Outline}
use Rattle.snl_scope.specs.Linked as links
use Rattle.snl_tables.specs.declared.rows.SetRow.{SetRow}
use Rattle.snl_tables.specs.declared.rows.StateRow.{StateRow}
use Rattle.snl_items.specs.Items.{item_ends, marks_of}
use Rattle.snl_item_check.specs.declared.findings.ItemFault.{ItemFault}
use Rattle.snl_item_check.specs.ItemFaults.{StandsIn, fault_of, faults_in, faults_of_rules}
use Rattle.snl_item_check.specs.Options.{found_at_letter, is_known, letter_fault, program_letters, state_letters, unknown_in_member, unknown_letters, unknown_options}
use Rattle.snl_moved.specs.Spans.{InSet, InState, SpanLiesIn, TablesLieIn}
use Rattle.snl_item_check.specs.View.{is_in_set, known_of, leads_to, misses_by, outer_by}
use Rattle.snl_kept.specs.declared.found.findings.Finding.{Finding}
use Rattle.snl_kept.specs.Checked.{at_own_token, checked_faults, found_in_item, moved}
use Rattle.snl_kept.specs.Diagnostics.{diagnostic, diagnostics_of, found}
use Rattle.snl_kept.specs.Faults.{at_number, at_token, fault_at, faults_of}
use Rattle.snl_kept.specs.Linked.{finding_at, linked_faults, linked_finding, linked_of, outlines_of, token_of}
use Rattle.snl_kept.specs.Program.{ProgramItem, item_tokens, items_of, program_item}
use Rattle.snl_kept.specs.Tables.{found_at_state, found_in_set, is_unreached, tables_in, walked_faults}
use Rattle.snl_finding_laws.specs.Places.{DiagnosticLiesIn}
use Rattle.snl_finding_laws.proofs.Files.{file_lies}
use Rattle.snl_finding_laws.proofs.Shown.{each_diagnostic}
use Rattle.snl_finding_laws.proofs.Tokens.{items_within, members_lie, missing, tokens_lie}
use Rattle.snl_facts.specs.Each.{each_append, each_by, each_weaker, each_both, each_got, each_map, each_numbered, each_flat}
use Rattle.snl_kept.specs.TokenLaws.{read_tree}

-- What a finding quotes lies in the text.
abbrev Quotes : List ℕ → Finding → Type 0
Quotes text f = f.offset + f.subject ≤ length text

-- The tokens of an item lie in the text, and its tree is the one that is read of them.
record IsSound (text : List ℕ) (x : ProgramItem) : Type 0 where
  lie : Each (LiesIn text) x.tokens
  read : (t : Item) → x.tree ≡ Some t → item_of (kinds_in text x.tokens) ≡ Some t

quoted_within : (code : Code) (len : ℕ) → 1 ≤ len → quoted_bytes code len ≤ len
quoted_within E01 len h = omega (arith, h)
quoted_within _ len h = omega (arith, h)

-- ---- what the parser finds

number_lies : (text : List ℕ) (code : Code) (tokens : List Piece) (n : ℕ) (rest : List Finding) → Each (LiesIn text) tokens → Each (Quotes text) rest → Each (Quotes text) (cons_option (at_number code tokens n) rest)
number_lies text code tokens n rest lie h = by (slice_get tokens n) refl
  where
    by : (o : Option Piece) → slice_get tokens n ≡ o → Each (Quotes text) (cons_option (option_map (at_token code) o) rest)
    by None e = h
    by (Some p) e = let lies : LiesIn text p = each_got (LiesIn text) tokens n p lie e in (omega (arith, lies.1), h)

fault_lies : (text : List ℕ) (tokens : List Piece) (o : Parsed) (rest : List Finding) → Each (LiesIn text) tokens → Each (Quotes text) rest → Each (Quotes text) (cons_option (fault_at tokens o) rest)
fault_lies text tokens (parsed.Sound tree) rest lie h = h
fault_lies text tokens (parsed.BadToken n) rest lie h = number_lies text E01 tokens n rest lie h
fault_lies text tokens (parsed.NoItem n) rest lie h = number_lies text E02 tokens n rest lie h

faults_lie : (text : List ℕ) (xs : List ProgramItem) → Each (IsSound text) xs → Each (Quotes text) (faults_of text xs)
faults_lie text [] h = tt
faults_lie text (x ∷ xs) h = fault_lies text x.tokens (parsed_in text x.tokens) (faults_of text xs) h.0.lie (faults_lie text xs h.1)

-- ---- what the links find

at_piece : (text : List ℕ) (code : Code) (o : Option Piece) → ((p : Piece) → o ≡ Some p → LiesIn text p) → Quotes text (finding_at code o)
at_piece text code None h = omega arith
at_piece text code (Some p) h = let lies = h p refl in omega (arith, lies.0, lies.1, quoted_within code p.len lies.0)

token_lies : (text : List ℕ) (xs : List ProgramItem) (item number : ℕ) → Each (IsSound text) xs → (p : Piece) → token_of xs item number ≡ Some p → LiesIn text p
token_lies text xs item number h p = by (slice_get xs item) refl
  where
    by : (o : Option ProgramItem) → slice_get xs item ≡ o → option_and_then (λ x. slice_get x.tokens number) o ≡ Some p → LiesIn text p
    by None e f = absurd cc
    by (Some x) e f = let sound : IsSound text x = each_got (IsSound text) xs item x h e in each_got (LiesIn text) x.tokens number p sound.lie f

linked_lie : (text : List ℕ) (xs : List ProgramItem) → Each (IsSound text) xs → Each (Quotes text) (linked_faults text xs)
linked_lie text xs h =
    each_map (Quotes text) (linked_finding xs) (links.faults_of (linked_of text xs))
    (each_by (λ f. Quotes text (linked_finding xs f)) (λ f. at_piece text f.code (token_of xs f.item f.token) (token_lies text xs f.item f.token h)) (links.faults_of (linked_of text xs)))

-- ---- what is found in items

-- A finding that isn't where its token begins is at an option's letter.
abbrev pub IsAtLetter : ItemFault → Type 0
IsAtLetter f = (f.byte ≡ 0) ⊎ (f.code ≡ W04)

letter_found : (known : List ℕ) (token byte letter : ℕ) → Each IsAtLetter (found_at_letter known token (byte, letter))
letter_found known token byte letter = by (is_known known letter)
  where
    by : (b : Bool) → Each IsAtLetter (if b then [] else letter_fault token byte ∷ [])
    by true = tt
    by false = (inr refl, tt)

letters_found : (bytes : ℕ → List ℕ) (known : List ℕ) (line : OptionLine) → Each IsAtLetter (unknown_letters bytes known line)
letters_found bytes known line =
    each_flat (found_at_letter known line.letters) IsAtLetter (λ p. Unit {0}) (λ p _. letter_found known line.letters p.0 p.1)
    (enumerate_from 0 (bytes line.letters)) (each_by (λ p. Unit {0}) (λ p. tt) (enumerate_from 0 (bytes line.letters)))

member_found : (bytes : ℕ → List ℕ) (m : StateMember) → Each IsAtLetter (unknown_in_member bytes m)
member_found bytes (members.OptionLine line) = letters_found bytes state_letters line
member_found bytes _ = tt

options_found : (bytes : ℕ → List ℕ) (in_set : Bool) (tree : Item) → Each IsAtLetter (unknown_options bytes in_set tree)
options_found bytes true (items.OptionLine line) = tt
options_found bytes false (items.OptionLine line) = letters_found bytes program_letters line
options_found bytes in_set (items.StateBlock name ms) = each_flat (unknown_in_member bytes) IsAtLetter (λ m. Unit {0}) (λ m _. member_found bytes m) ms (each_by (λ m. Unit {0}) (λ m. tt) ms)
options_found bytes in_set _ = tt

all_found : (bytes : ℕ → List ℕ) (tree : Item) (in_set : Bool) (fact : List ℕ → Option Fact) (target : List ℕ → Bool) → Each IsAtLetter (faults_in bytes tree in_set fact target)
all_found bytes tree in_set fact target =
    each_append IsAtLetter (faults_of_rules bytes tree in_set fact target) (unknown_options bytes in_set tree)
    (each_map IsAtLetter fault_of (findings bytes (outer_by fact) (misses_by in_set target) (occurrences bytes tree))
    (each_by (λ f. IsAtLetter (fault_of f)) (λ f. inl refl) (findings bytes (outer_by fact) (misses_by in_set target) (occurrences bytes tree))))
    (options_found bytes in_set tree)

-- The laws of what is found in an item.
pub record ItemLaws : Type 0 where
  pub at_tokens : (bytes : ℕ → List ℕ) (in_set : Bool) (fact : List ℕ → Option Fact) (target : List ℕ → Bool) (text : List ℕ) (tokens : List Piece) (tree : Item)
      → item_of (kinds_in text tokens) ≡ Some tree → All (λ f. f.token < length tokens) (faults_in bytes tree in_set fact target)
  pub in_tokens : (bytes : ℕ → List ℕ) (tree : Item) (in_set : Bool) (fact : List ℕ → Option Fact) (target : List ℕ → Bool) → All (StandsIn bytes) (faults_in bytes tree in_set fact target)

pub bytes_few : (text : List ℕ) (tokens : List Piece) (n : ℕ) (p : Piece) → slice_get tokens n ≡ Some p → length (token_bytes text tokens n) ≤ p.len
unfolding token_bytes
bytes_few text tokens n p e =
    let few : length (bytes_if text (Some p)) ≤ p.len = omega (arith, length-take p.len (drop p.start text)) in
    subst (λ o. length (bytes_if text o) ≤ p.len) (sym e) few

-- A finding is at a byte of one of the tokens.
pub record IsPlace (text : List ℕ) (tokens : List Piece) (f : ItemFault) : Type 0 where
  pub own : f.token < length tokens
  pub inside : StandsIn (token_bytes text tokens) f
  pub letter : IsAtLetter f

pub places_in : ItemLaws → (text : List ℕ) (ss : List Outline) (i : ℕ) (tokens : List Piece) (t : Item) → item_of (kinds_in text tokens) ≡ Some t
    → Each (IsPlace text tokens) (faults_in (token_bytes text tokens) t (is_in_set ss i) (known_of ss i) (leads_to ss i))
places_in laws text ss i tokens t read =
    let bytes : ℕ → List ℕ = token_bytes text tokens in
    let faults : List ItemFault = faults_in bytes t (is_in_set ss i) (known_of ss i) (leads_to ss i) in
    let own : Each (λ f. f.token < length tokens) faults =
    recursion_from_All (λ f. f.token < length tokens) faults (laws.at_tokens bytes (is_in_set ss i) (known_of ss i) (leads_to ss i) text tokens t read) in
    let inside : Each (StandsIn bytes) faults = recursion_from_All (StandsIn bytes) faults (laws.in_tokens bytes t (is_in_set ss i) (known_of ss i) (leads_to ss i)) in
    let letters : Each IsAtLetter faults = all_found bytes t (is_in_set ss i) (known_of ss i) (leads_to ss i) in
    each_weaker (λ f. (f.token < length tokens) × (StandsIn bytes f × IsAtLetter f)) (IsPlace text tokens) (λ f h. record { own = h.0; inside = h.1.0; letter = h.1.1 }) faults
    (each_both (λ f. f.token < length tokens) (λ f. StandsIn bytes f × IsAtLetter f) faults own (each_both (StandsIn bytes) IsAtLetter faults inside letters))

first_byte_lies : (text : List ℕ) (f : ItemFault) (p : Piece) → LiesIn text p → f.byte ≡ 0 → Quotes text (moved f.byte (finding_at f.code (Some p)))
first_byte_lies text f p lies first = omega (arith, lies.0, lies.1, first, quoted_within f.code p.len lies.0)

own_lies : (text : List ℕ) (tokens : List Piece) → Each (LiesIn text) tokens → (f : ItemFault) → IsPlace text tokens f → Quotes text (at_own_token tokens f)
own_lies text tokens lie f is = by (slice_get tokens f.token) refl
  where
    by : (o : Option Piece) → slice_get tokens f.token ≡ o → Quotes text (moved f.byte (finding_at f.code o))
    by None e = absurd (missing tokens f.token is.own e)
    by (Some p) e =
        let lies : LiesIn text p = each_got (LiesIn text) tokens f.token p lie e in
        elim is.letter [
          | inl first ↦ first_byte_lies text f p lies first
          | inr letter ↦ elim is.inside [
            | inl first ↦ first_byte_lies text f p lies first
            | inr within ↦
                let one : quoted_bytes f.code p.len ≡ 1 = ap (λ c. quoted_bytes c p.len) letter in
                omega (arith, lies.1, within, one, bytes_few text tokens f.token p e)
          ]
        ]

item_lies : ItemLaws → (text : List ℕ) (ss : List Outline) (i : ℕ) (x : ProgramItem) → IsSound text x → Each (Quotes text) (found_in_item text ss (i, x))
item_lies laws text ss i x sound = by x.tree refl
  where
    by : (o : Option Item) → x.tree ≡ o → Each (Quotes text) (found_in_item text ss (i, record { tokens = x.tokens; tree = o }))
    by None e = tt
    by (Some t) e =
        let faults : List ItemFault = faults_in (token_bytes text x.tokens) t (is_in_set ss i) (known_of ss i) (leads_to ss i) in
        each_map (Quotes text) (at_own_token x.tokens) faults
        (each_weaker (IsPlace text x.tokens) (λ f. Quotes text (at_own_token x.tokens f)) (own_lies text x.tokens sound.lie) faults (places_in laws text ss i x.tokens t (sound.read t e)))

checked_lie : ItemLaws → (text : List ℕ) (xs : List ProgramItem) → Each (IsSound text) xs → Each (Quotes text) (checked_faults text xs)
checked_lie laws text xs h =
    each_flat (found_in_item text (outlines_of text xs)) (Quotes text) (λ p. IsSound text p.1) (λ p sound. item_lies laws text (outlines_of text xs) p.0 p.1 sound)
    (enumerate_from 0 xs) (each_numbered (IsSound text) 0 xs h)

-- ---- what the walks find

state_lies : (text : List ℕ) (row : StateRow) → InState (SpanLiesIn text) row → Each (Quotes text) (found_at_state row)
state_lies text row h = by (is_unreached row.mark)
  where
    by : (b : Bool) → Each (Quotes text) (if b then record { offset = row.name.start; code = W02; subject = row.name.len } ∷ [] else [])
    by true = (h.name, tt)
    by false = tt

set_lies : (text : List ℕ) (row : SetRow) → InSet (SpanLiesIn text) row → Each (Quotes text) (found_in_set row)
set_lies text row h = each_flat found_at_state (Quotes text) (InState (SpanLiesIn text)) (state_lies text) row.states h.states

walked_lie : (text : List ℕ) → TablesLieIn text (tables_in text) → Each (Quotes text) (walked_faults text (items_of text))
unfolding tables_in
walked_lie text h = each_flat found_in_set (Quotes text) (InSet (SpanLiesIn text)) (set_lies text) (tables_in text).sets h.sets

-- ---- all

pub record PlaceLaws (text : List ℕ) : Type 0 where
  pub inside : All (LiesIn text) (pieces_of text)
  pub rise : Rises 0 (item_ends text)
  pub last : last_end 0 (item_ends text) ≡ length (marks_of text)
  pub items : ItemLaws
  pub tables : TablesLieIn text (tables_in text)

all_sound : (text : List ℕ) → PlaceLaws text → Each (IsSound text) (items_of text)
unfolding item_tokens
all_sound text laws =
    each_map (IsSound text) (program_item text) (item_tokens text)
    (each_weaker (Each (LiesIn text)) (λ tokens. IsSound text (program_item text tokens)) (λ tokens h. record { lie = h; read = read_tree text tokens })
    (item_tokens text) (members_lie text 0 (item_ends text) (items_within text laws.rise laws.last) (tokens_lie text laws.inside)))

pub diagnostics_lie : (text : List ℕ) → PlaceLaws text → All (DiagnosticLiesIn text) (diagnostics_of text)
unfolding found
diagnostics_lie text laws =
    let xs : List ProgramItem = items_of text in
    let sound : Each (IsSound text) xs = all_sound text laws in
    let quotes : Each (Quotes text) (found text) =
    each_append (Quotes text) (faults_of text xs ++ linked_faults text xs ++ checked_faults text xs) (walked_faults text xs)
    (each_append (Quotes text) (faults_of text xs ++ linked_faults text xs) (checked_faults text xs)
    (each_append (Quotes text) (faults_of text xs) (linked_faults text xs) (faults_lie text xs sound) (linked_lie text xs sound))
    (checked_lie laws.items text xs sound))
    (walked_lie text laws.tables) in
    All-from_recursion (DiagnosticLiesIn text) (diagnostics_of text)
    (each_diagnostic text (DiagnosticLiesIn text)
    (each_weaker (Quotes text) (λ f. DiagnosticLiesIn text (diagnostic text f)) (λ f h. record { subject = h; file = file_lies text laws.inside f.offset }) (found text) quotes))
