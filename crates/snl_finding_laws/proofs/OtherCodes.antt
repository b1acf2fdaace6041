-- What the parser doesn't find has none of its codes.
use Rattle.std.proofs.Common.{◌≡◌, ℕ, ◌<◌, Bool, true, false, All, List, [], ◌∷◌, length, slice_get, Option, None, Some, IfSome, option_map, inl, inr, refl, sym, ap, subst, ◌∙◌}
use Rattle.std.specs.Prelude.{if◌then◌else◌}
use Rattle.std.specs.Option.{option_map_or}
use Rattle.std.specs.List.{AllByRecursion as Each, enumerate_from}
use Rattle.std.proofs.lemmas.List.Elements.{recursion_from_All}
use Rattle.snl_lex.specs.declared.piece.Piece.{Piece}
use Rattle.snl_grammar.specs.declared.tree.item.Item.{Item}
use Rattle.snl_grammar.specs.Parsing.{kinds_in}
use Rattle.snl_grammar.specs.Reading.Items.{item_of}
use Rattle.snl_codes.specs.declared.code.Code.{Code}
use Rattle.snl_codes.specs.declared.code.Code.TheVariants.{W02}
use Rattle.snl_codes.specs.Codes.{Finder, finder_of, finds_by_links, finds_in_items, is_item_code, is_link_code, parser}
use Rattle.snl_scope.specs.declared.facts.Fact.{Fact}
use Rattle.snl_scope.specs.declared.facts.LinkFault.{LinkFault}
use Rattle.snl_summary.specs.declared.summary.Outline.{Outline}
use Rattle.snl_scope.specs.FaultPlaces.{IsMissing, IsPlaced, IsPlacedBy, SpeaksOfTokens}
use Rattle.snl_scope.specs.Linked as links
use Rattle.snl_scope.specs.LinkedItems.{LinkedItems}
use Rattle.snl_summary.specs.Summaries.{outline_in}
use Rattle.snl_tables.specs.declared.rows.SetRow.{SetRow}
use Rattle.snl_tables.specs.declared.rows.StateRow.{StateRow}
use Rattle.snl_item_check.specs.declared.findings.ItemFault.{ItemFault}
use Rattle.snl_item_check.specs.ItemFaults.{faults_in}
use Rattle.snl_item_check.specs.Items.{outline_of_item, tokens_in}
use Rattle.snl_check.specs.Tables.{tables_of}
use Rattle.snl_item_check.specs.View.{is_in_set, known_of, leads_to}
use Rattle.snl_kept.specs.declared.found.findings.Finding.{Finding}
use Rattle.snl_kept.specs.Checked.{at_own_token, checked_faults, found_in_item}
use Rattle.snl_kept.specs.Linked.{finding_at, linked_faults, linked_finding, linked_of, outlines_of, token_of}
use Rattle.snl_kept.specs.Program.{ProgramItem}
use Rattle.snl_kept.specs.Tables.{found_at_state, found_in_set, is_unreached, walked_faults}
use Rattle.snl_summary.specs.Summaries.Tokens.{token_bytes}
use Rattle.snl_finding_laws.specs.OwnFaults.{finds_by_parsing, is_of_parser}
use Rattle.snl_finding_laws.proofs.Tokens.{AreInARow}
use Rattle.snl_facts.specs.Each.{each_by, each_weaker, each_got, each_map, each_flat}
use Rattle.std.proofs.lemmas.Option.{slice_get-map}
use Rattle.snl_kept.specs.TokenLaws.{InARow}

abbrev pub IsNoParserCode : Code → Type 0
IsNoParserCode code = is_of_parser code ≡ false

abbrev pub IsOfOthers : Finding → Type 0
IsOfOthers f = IsNoParserCode f.code

by_links_alone : (f : Finder) → finds_by_links f ≡ true → finds_by_parsing f ≡ false
by_links_alone parser h = absurd cc
by_links_alone _ h = refl

not_linked : (c : Code) → is_link_code c ≡ true → IsNoParserCode c
not_linked c = by_links_alone (finder_of c)

in_items_alone : (f : Finder) → finds_in_items f ≡ true → finds_by_parsing f ≡ false
in_items_alone parser h = absurd cc
in_items_alone _ h = refl

not_in_items : (c : Code) → is_item_code c ≡ true → IsNoParserCode c
not_in_items c = in_items_alone (finder_of c)

-- ---- what the links find

-- The laws of links, of each item and of all.
pub record LinkLaws : Type 0 where
  pub tree : (text : List ℕ) (tokens : List Piece) (t : Item) → 0 < length tokens → item_of (kinds_in text tokens) ≡ Some t → SpeaksOfTokens (length tokens) (outline_in text tokens (Some t))
  pub faulty : (text : List ℕ) (tokens : List Piece) → 0 < length tokens → SpeaksOfTokens (length tokens) (outline_in text tokens None)
  pub places : (l : LinkedItems) (counts : ℕ → ℕ) → ((i : ℕ) → IfSome (slice_get l.outlines i) (SpeaksOfTokens (counts i))) → All (IsPlaced counts l.outlines) (links.faults_of l)

abbrev pub IsRead : List ℕ → ProgramItem → Type 0
IsRead text x = (t : Item) → x.tree ≡ Some t → item_of (kinds_in text x.tokens) ≡ Some t

item_speaks : (laws : LinkLaws) (text : List ℕ) (x : ProgramItem) → InARow text x.tokens → IsRead text x → SpeaksOfTokens (length x.tokens) (outline_of_item text x)
item_speaks laws text x row read = by x.tree refl
  where
    by : (o : Option Item) → x.tree ≡ o → SpeaksOfTokens (length x.tokens) (outline_in text x.tokens o)
    by None e = laws.faulty text x.tokens row.some
    by (Some t) e = laws.tree text x.tokens t row.some (read t e)

pub all_speak : (laws : LinkLaws) (text : List ℕ) (xs : List ProgramItem) → AreInARow text xs → Each (IsRead text) xs
    → (i : ℕ) → IfSome (slice_get (outlines_of text xs) i) (SpeaksOfTokens (length (tokens_in xs i)))
all_speak laws text xs row read i =
    let P : Option Outline → Type 0 = λ o. IfSome o (SpeaksOfTokens (length (tokens_in xs i))) in
    subst P (sym (slice_get-map (outline_of_item text) xs i)) (by (slice_get xs i) refl)
  where
    by : (o : Option ProgramItem) → slice_get xs i ≡ o → IfSome (option_map (outline_of_item text) o) (SpeaksOfTokens (length (option_map_or (λ x. x.tokens) o [])))
    by None e = tt
    by (Some x) e = item_speaks laws text x (each_got (λ z. InARow text z.tokens) xs i x row.each e) (each_got (IsRead text) xs i x read e)

missing_code : (ss : List Outline) (f : LinkFault) → IsMissing ss f → IsNoParserCode f.code
missing_code ss f h = elim h.code [ inl e ↦ ap is_of_parser e.0 | inr e ↦ ap is_of_parser e.0 ]

placed_code : (counts : ℕ → ℕ) (ss : List Outline) (f : LinkFault) → IsPlaced counts ss f → IsNoParserCode f.code
placed_code counts ss f = by (slice_get ss f.item)
  where
    by : (o : Option Outline) → IsPlacedBy counts ss f o → IsNoParserCode f.code
    by None h = missing_code ss f h
    by (Some s) h = not_linked f.code h.code

pub code_there : (code : Code) (o : Option Piece) → (finding_at code o).code ≡ code
code_there code None = refl
code_there code (Some p) = refl

pub linked_codes : (laws : LinkLaws) (text : List ℕ) (xs : List ProgramItem) → AreInARow text xs → Each (IsRead text) xs → Each IsOfOthers (linked_faults text xs)
linked_codes laws text xs row read =
    let counts : ℕ → ℕ = λ i. length (tokens_in xs i) in
    let faults : List LinkFault = links.faults_of (linked_of text xs) in
    let placed : Each (IsPlaced counts (outlines_of text xs)) faults =
    recursion_from_All (IsPlaced counts (outlines_of text xs)) faults (laws.places (linked_of text xs) counts (all_speak laws text xs row read)) in
    each_map IsOfOthers (linked_finding xs) faults
    (each_weaker (IsPlaced counts (outlines_of text xs)) (λ f. IsOfOthers (linked_finding xs f))
    (λ f h. ap is_of_parser (code_there f.code (token_of xs f.item f.token)) ∙ placed_code counts (outlines_of text xs) f h) faults placed)

-- ---- what is found in items

abbrev pub CodesLaw : Type 0
CodesLaw = (bytes : ℕ → List ℕ) (tree : Item) (in_set : Bool) (fact : List ℕ → Option Fact) (target : List ℕ → Bool) → All (λ f. is_item_code f.code ≡ true) (faults_in bytes tree in_set fact target)

item_codes : CodesLaw → (text : List ℕ) (ss : List Outline) (i : ℕ) (x : ProgramItem) → Each IsOfOthers (found_in_item text ss (i, x))
item_codes law text ss i x = by x.tree
  where
    by : (o : Option Item) → Each IsOfOthers (found_in_item text ss (i, record { tokens = x.tokens; tree = o }))
    by None = tt
    by (Some t) =
        let faults : List ItemFault = faults_in (token_bytes text x.tokens) t (is_in_set ss i) (known_of ss i) (leads_to ss i) in
        each_map IsOfOthers (at_own_token x.tokens) faults
        (each_weaker (λ f. is_item_code f.code ≡ true) (λ f. IsOfOthers (at_own_token x.tokens f))
        (λ f h. ap is_of_parser (code_there f.code (slice_get x.tokens f.token)) ∙ not_in_items f.code h) faults
        (recursion_from_All (λ f. is_item_code f.code ≡ true) faults (law (token_bytes text x.tokens) t (is_in_set ss i) (known_of ss i) (leads_to ss i))))

pub checked_codes : CodesLaw → (text : List ℕ) (xs : List ProgramItem) → Each IsOfOthers (checked_faults text xs)
checked_codes law text xs =
    each_flat (found_in_item text (outlines_of text xs)) IsOfOthers (λ p. Unit {0}) (λ p _. item_codes law text (outlines_of text xs) p.0 p.1)
    (enumerate_from 0 xs) (each_by (λ p. Unit {0}) (λ p. tt) (enumerate_from 0 xs))

-- ---- what the walks find

state_codes : (row : StateRow) → Each IsOfOthers (found_at_state row)
state_codes row = by (is_unreached row.mark)
  where
    by : (b : Bool) → Each IsOfOthers (if b then record { offset = row.name.start; code = W02; subject = row.name.len } ∷ [] else [])
    by true = (refl, tt)
    by false = tt

set_codes : (row : SetRow) → Each IsOfOthers (found_in_set row)
set_codes row = each_flat found_at_state IsOfOthers (λ s. Unit {0}) (λ s _. state_codes s) row.states (each_by (λ s. Unit {0}) (λ s. tt) row.states)

pub walked_codes : (text : List ℕ) (xs : List ProgramItem) → Each IsOfOthers (walked_faults text xs)
walked_codes text xs =
    each_flat found_in_set IsOfOthers (λ s. Unit {0}) (λ s _. set_codes s) (tables_of text xs).sets (each_by (λ s. Unit {0}) (λ s. tt) (tables_of text xs).sets)
