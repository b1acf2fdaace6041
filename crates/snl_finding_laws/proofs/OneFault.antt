-- One diagnostic of the parser at a faulty item, and none at a sound one.
use Rattle.std.proofs.Common.{◌≡◌, ℕ, ◌+◌, ◌<◌, Bool, true, false, ◌&&◌, ◌||◌, not, All, List, ◌++◌, length, slice_get, Some, is_none, refl, ap, ◌∙◌, arith}
use Rattle.std.specs.Prelude.{count_by, if◌then◌else◌}
use Rattle.std.specs.List.{AllByRecursion as Each, list_any}
use Rattle.std.proofs.lemmas.Bool.{and_left}
use Rattle.snl_cut.specs.Cut.{Rises, last_end}
use Rattle.snl_lex.specs.declared.piece.Piece.{Piece}
use Rattle.snl_lex.specs.PieceList.{listed_pieces, piece_ends, piece_kinds}
use Rattle.snl_lex.specs.Pieces.{LiesIn, pieces_of}
use Rattle.snl_grammar.specs.declared.tree.item.Item.{Item}
use Rattle.snl_grammar.specs.Outcome.{BlamesWithin, parsed_in}
use Rattle.snl_grammar.specs.Parsing.{is_bad, kinds_in}
use Rattle.snl_grammar.specs.Reading.Items.{item_of}
use Rattle.snl_codes.specs.declared.code.Code.{Code}
use Rattle.snl_codes.specs.declared.code.Code.TheVariants.{E01, E02}
use Rattle.snl_codes.specs.Codes.{is_error}
use Rattle.snl_items.specs.Items.{item_ends, marks_of}
use Rattle.snl_kept.specs.declared.found.findings.Finding.{Finding}
use Rattle.snl_kept.specs.Checked.{checked_faults}
use Rattle.snl_kept.specs.Diagnostics.{diagnostic, diagnostics_of, found}
use Rattle.snl_kept.specs.Faults.{faults_of}
use Rattle.snl_kept.specs.Linked.{linked_faults}
use Rattle.snl_kept.specs.Program.{ProgramItem, item_tokens, items_of, program_item, tree_in}
use Rattle.snl_kept.specs.Tables.{walked_faults}
use Rattle.snl_kept.specs.Warnings.{warns_in}
use Rattle.snl_finding_laws.specs.OwnFaults.{is_at_item, is_bad_token, is_in_span, is_of_parser, is_syntax_error}
use Rattle.snl_finding_laws.specs.Places.{is_shown}
use Rattle.snl_finding_laws.proofs.Counts.{count, count-append, count_none, count_same}
use Rattle.snl_finding_laws.proofs.OtherCodes.{CodesLaw, IsNoParserCode, IsOfOthers, LinkLaws, checked_codes, linked_codes, walked_codes}
use Rattle.snl_finding_laws.proofs.OwnFaults.{bad_by_outcome, by_outcome, faults_counted, one_by_outcome, syntax_by_outcome}
use Rattle.snl_finding_laws.proofs.Shown.{diagnostics_counted}
use Rattle.snl_finding_laws.proofs.Tokens.{AreInARow, items_in_a_row, items_within}
use Rattle.snl_facts.specs.Each.{each_by, each_weaker, each_got, each_map}
use Rattle.std.proofs.Math.Bool.{and-true}
use Rattle.snl_kept.specs.TokenLaws.{InARow, read_tree}

-- A test that only codes of the parser pass, which are errors.
pub record IsParserTest (test : Code → Bool) : Type 0 where
  pub only : (c : Code) → IsNoParserCode c → test c ≡ false
  pub error : (c : Code) → (test c && is_error c) ≡ test c

pub any_code : IsParserTest is_of_parser
unfolding is_error
any_code = record { only = λ c h. h; error = error }
  where
    error : (c : Code) → (is_of_parser c && is_error c) ≡ is_of_parser c
    error E01 = refl
    error E02 = refl
    error _ = refl

pub bad_code : IsParserTest is_bad_token
unfolding is_error
bad_code = record { only = only; error = error }
  where
    only : (c : Code) → IsNoParserCode c → is_bad_token c ≡ false
    only E01 h = absurd cc
    only _ h = refl

    error : (c : Code) → (is_bad_token c && is_error c) ≡ is_bad_token c
    error E01 = refl
    error _ = refl

pub syntax_code : IsParserTest is_syntax_error
unfolding is_error
syntax_code = record { only = only; error = error }
  where
    only : (c : Code) → IsNoParserCode c → is_syntax_error c ≡ false
    only E02 h = absurd cc
    only _ h = refl

    error : (c : Code) → (is_syntax_error c && is_error c) ≡ is_syntax_error c
    error E02 = refl
    error _ = refl

-- ---- whether warnings are shown doesn't matter

shown_anyway : (t e s w : Bool) → (t && e) ≡ t → ((t && s) && (e || w)) ≡ (t && s)
shown_anyway false e s w h = refl
shown_anyway true true s w h = and-true s
shown_anyway true false s w h = absurd cc

-- ---- all that is found

pub record FindingLaws (text : List ℕ) : Type 0 where
  pub listed : listed_pieces 0 (piece_ends text) (piece_kinds text) ≡ pieces_of text
  pub inside : All (LiesIn text) (pieces_of text)
  pub rise : Rises 0 (item_ends text)
  pub last : last_end 0 (item_ends text) ≡ length (marks_of text)
  pub blamed : (tokens : List Piece) → 0 < length tokens → BlamesWithin (length tokens) (parsed_in text tokens)
  pub links : LinkLaws
  pub codes : CodesLaw

pub all_read : (text : List ℕ) → Each (λ x. (t : Item) → x.tree ≡ Some t → item_of (kinds_in text x.tokens) ≡ Some t) (items_of text)
all_read text =
    each_map (λ x. (t : Item) → x.tree ≡ Some t → item_of (kinds_in text x.tokens) ≡ Some t) (program_item text) (item_tokens text)
    (each_by (λ tokens. (t : Item) → tree_in text tokens ≡ Some t → item_of (kinds_in text tokens) ≡ Some t) (read_tree text) (item_tokens text))

abbrev at_item : (Code → Bool) → ProgramItem → Finding → Bool
at_item test x f = test f.code && is_in_span x f.offset

others_none : (test : Code → Bool) → IsParserTest test → (x : ProgramItem) (fs : List Finding) → Each IsOfOthers fs → count (at_item test x) fs ≡ 0
others_none test is x fs h = count_none (at_item test x) fs (each_weaker IsOfOthers (λ f. at_item test x f ≡ false) (λ f g. and_left (test f.code) (is_in_span x f.offset) (is.only f.code g)) fs h)

pub found_at_item : (text : List ℕ) → FindingLaws text → (test : Code → Bool) → IsParserTest test → (i : ℕ) (x : ProgramItem) → slice_get (items_of text) i ≡ Some x
    → count_by (is_at_item test x) (diagnostics_of text) ≡ by_outcome test (parsed_in text x.tokens)
unfolding found
found_at_item text laws test is i x e =
    let xs : List ProgramItem = items_of text in
    let row : AreInARow text xs = items_in_a_row text laws.listed laws.inside (items_within text laws.rise laws.last) in
    let some : InARow text x.tokens = each_got (λ z. InARow text z.tokens) xs i x row.each e in
    let counted : count (at_item test x) (faults_of text xs) ≡ by_outcome test (parsed_in text x.tokens) = faults_counted text test xs i x row e (laws.blamed x.tokens some.some) in
    let linked = others_none test is x (linked_faults text xs) (linked_codes laws.links text xs row (all_read text)) in
    let checked = others_none test is x (checked_faults text xs) (checked_codes laws.codes text xs) in
    let walked = others_none test is x (walked_faults text xs) (walked_codes text xs) in
    let one = count-append (at_item test x) (faults_of text xs) (linked_faults text xs) in
    let two = count-append (at_item test x) (faults_of text xs ++ linked_faults text xs) (checked_faults text xs) in
    let three = count-append (at_item test x) (faults_of text xs ++ linked_faults text xs ++ checked_faults text xs) (walked_faults text xs) in
    diagnostics_counted text (is_at_item test x)
    ∙ count_same (λ f. at_item test x f && is_shown text f) (at_item test x) (λ f. shown_anyway (test f.code) (is_error f.code) (is_in_span x f.offset) (warns_in text) (is.error f.code)) (found text)
    ∙ omega (arith, one, two, three, counted, linked, checked, walked)

-- An item of a text is its tokens, with the tree that is read of them.
item_is : (text : List ℕ) (i : ℕ) (x : ProgramItem) → slice_get (items_of text) i ≡ Some x → tree_in text x.tokens ≡ x.tree
item_is text i x e =
    each_got (λ z. tree_in text z.tokens ≡ z.tree) (items_of text) i x
    (each_map (λ z. tree_in text z.tokens ≡ z.tree) (program_item text) (item_tokens text) (each_by (λ tokens. tree_in text tokens ≡ tree_in text tokens) (λ tokens. refl) (item_tokens text))) e

pub one_fault : (text : List ℕ) → FindingLaws text → (i : ℕ) (x : ProgramItem) → slice_get (items_of text) i ≡ Some x
    → count_by (is_at_item is_of_parser x) (diagnostics_of text) ≡ (if is_none x.tree then 1 else 0)
one_fault text laws i x e =
    found_at_item text laws is_of_parser any_code i x e ∙ one_by_outcome text x.tokens ∙ ap (λ o. if is_none o then 1 else 0) (item_is text i x e)

pub bad_token : (text : List ℕ) → FindingLaws text → (i : ℕ) (x : ProgramItem) → slice_get (items_of text) i ≡ Some x
    → count_by (is_at_item is_bad_token x) (diagnostics_of text) ≡ (if list_any is_bad x.tokens then 1 else 0)
bad_token text laws i x e = found_at_item text laws is_bad_token bad_code i x e ∙ bad_by_outcome text x.tokens

pub syntax_error : (text : List ℕ) → FindingLaws text → (i : ℕ) (x : ProgramItem) → slice_get (items_of text) i ≡ Some x
    → count_by (is_at_item is_syntax_error x) (diagnostics_of text) ≡ (if is_none x.tree && not (list_any is_bad x.tokens) then 1 else 0)
syntax_error text laws i x e =
    found_at_item text laws is_syntax_error syntax_code i x e ∙ syntax_by_outcome text x.tokens
    ∙ ap (λ o. if is_none o && not (list_any is_bad x.tokens) then 1 else 0) (item_is text i x e)
