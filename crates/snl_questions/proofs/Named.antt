-- The name of each symbol lies within its extent.
use Rattle.std.proofs.Common.{◌≡◌, ℕ, zero, suc, ◌≤◌, Bool, true, false, All, List, [], ◌∷◌, length, Some, subst, sym, ◌∙◌, arith}
use Rattle.std.specs.List.{AllByRecursion as Each}
use Rattle.std.proofs.lemmas.List.{length-map}
use Rattle.std.proofs.lemmas.List.Elements.{All-from_recursion, recursion_from_All}
use Rattle.snl_facts.specs.Each.{each_append, each_filter, each_got}
use Rattle.snl_cut.specs.Cut.{Rises, last_end}
use Rattle.snl_cut.specs.CutLaws.{rises_last}
use Rattle.snl_lex.specs.declared.piece.Piece.{Piece}
use Rattle.snl_lex.specs.PieceList.{listed_pieces, piece_ends, piece_kinds}
use Rattle.snl_lex.specs.Pieces.{LiesIn, is_token, pieces_of, tokens_of}
use Rattle.snl_items.specs.Items.{item_ends, mark_in, marks_of}
use Rattle.snl_summary.specs.declared.summary.Declared.{Declared}
use Rattle.snl_summary.specs.declared.summary.Outline.{Outline}
use Rattle.snl_tables.specs.declared.rows.Span.{Span}
use Rattle.snl_kept.specs.Checks.{outlines_in}
use Rattle.snl_kept.specs.Parts.{EndsWithin}
use Rattle.snl_kept.specs.Program.{item_tokens}
use Rattle.snl_kept.specs.TokenLaws.{members_apart, tokens_apart}
use Rattle.snl_questions.specs.Items.{span_at}
use Rattle.snl_questions.specs.declared.document_symbols.symbol.DocumentSymbol.{DocumentSymbol}
use Rattle.snl_questions.specs.Extents.{LiesWithin, NameLiesWithin}
use Rattle.snl_questions.specs.Symbols.{declared_symbol, extent_of, last_within, symbols_before, symbols_of}
use Rattle.snl_questions.proofs.Order.{AreInARow, IsToken, row_of, spans_told, token_told, token_within}
use Rattle.snl_questions.proofs.Parts.{IsWith, each_at, each_symbol, inner_is, outer_is, own_is}

-- ---- the items of a text are one after another

ends_within : (from : ℕ) (es : List ℕ) (to : ℕ) → Rises from es → last_end from es ≤ to →
    EndsWithin from es to
ends_within from [] to h l = tt
ends_within from (e ∷ es) to h l =
    let above = rises_last e es h.1 in (h.0, omega (arith, above, l), ends_within e es to h.1 l)

pub in_a_row : (text : List ℕ) → All (LiesIn text) (pieces_of text) →
    listed_pieces 0 (piece_ends text) (piece_kinds text) ≡ pieces_of text →
    Rises 0 (item_ends text) → last_end 0 (item_ends text) ≡ length (marks_of text) →
    AreInARow text
unfolding item_tokens
in_a_row text inside listed rise last =
    let count : length (marks_of text) ≡ length (tokens_of text) =
    length-map (tokens_of text) (mark_in text) in
    let within : EndsWithin 0 (item_ends text) (length (tokens_of text)) =
    ends_within 0 (item_ends text) (length (tokens_of text)) rise (omega (arith, last, count)) in
    let lie : Each (LiesIn text) (tokens_of text) =
    each_filter (LiesIn text) is_token (pieces_of text)
    (recursion_from_All (LiesIn text) (pieces_of text) inside) in
    let all = members_apart text (tokens_of text) 0 (item_ends text) within
    (tokens_apart text listed inside) lie in
    record { apart = all.0; rows = all.1 }

-- ---- names

module _ (text : List ℕ) (row : AreInARow text) where
  abbrev xs : List (List Piece)
  xs = item_tokens text

  abbrev ss : List Outline
  ss = outlines_in text

  -- each token of an item has a byte
  some_bytes : (i n : ℕ) (s : Span) → IsToken xs i n s → 1 ≤ s.len
  some_bytes i n s token =
      let lies : LiesIn text token.token =
      each_got (LiesIn text) token.own n token.token (row_of text row i token.own token.own_at).lie
      token.token_at in
      subst (λ (o : Span). 1 ≤ o.len) (sym token.is) lies.0

  -- a symbol with the extent of its item
  with_item : (i n d : ℕ) (x : DocumentSymbol) →
      IsWith d (span_at xs i n) (extent_of xs ss i) x → NameLiesWithin x
  with_item i n d x is =
      let name = token_told xs i n x.name is.name in
      record {
        within = token_within text row i i n (last_within ss i) x.extent x.name
            (spans_told xs i (last_within ss i) x.extent is.extent) name (omega arith)
            (omega arith);
        some = some_bytes i n x.name name;
      }

  -- a symbol with the extent of its name
  with_name : (i n d : ℕ) (x : DocumentSymbol) →
      IsWith d (span_at xs i n) (span_at xs i n) x → NameLiesWithin x
  with_name i n d x is =
      let same = same_span x.name x.extent (sym is.name ∙ is.extent) in
      record {
        within = subst (λ (o : Span). LiesWithin o x.name) same
            (record { start = omega arith; stop = omega arith });
        some = some_bytes i n x.name (token_told xs i n x.name is.name);
      }
    where
      same_span : (a b : Span) → Some a ≡ Some b → a ≡ b
      same_span a b h = cc

  declared_named : (i : ℕ) (is_symbol : Bool) (d : Declared) (x : DocumentSymbol) →
      declared_symbol xs ss i is_symbol d ≡ Some x → NameLiesWithin x
  declared_named i true d x h = with_name i d.token _ x (inner_is xs ss i d x h)
  declared_named i false d x h = with_item i d.token _ x (outer_is xs ss i d x h)

  named_before : (n : ℕ) → Each NameLiesWithin (symbols_before xs ss n)
  named_before zero = tt
  named_before (suc i) =
      each_append NameLiesWithin (symbols_before xs ss i) _ (named_before i)
      (each_at xs ss i NameLiesWithin (λ s at.
      each_symbol xs ss i NameLiesWithin s (λ x h. with_item i 1 _ x (own_is xs ss i s x h))
      (declared_named i)))

  pub names_within : All NameLiesWithin (symbols_of text)
  unfolding symbols_of
  names_within =
      All-from_recursion NameLiesWithin (symbols_of text) (named_before (length xs))
