-- The items of a text are one after another, and each has tokens.
use Rattle.std.proofs.Common.{◌≡◌, ℕ, ◌-◌, ◌<◌, ◌≤◌, All, List, [], ◌∷◌, length, slice_get, Option, Some, ap, ap₂, ◌∙◌, arith}
use Rattle.std.specs.List.{AllByRecursion as Each}
use Rattle.std.specs.Option.{option_and_then, option_map}
use Rattle.std.proofs.lemmas.List.{length-map}
use Rattle.std.proofs.lemmas.List.Elements.{recursion_from_All}
use Rattle.snl_facts.specs.Each.{EachTwo, each_filter, each_got}
use Rattle.snl_cut.specs.Cut.{Rises, last_end}
use Rattle.snl_cut.specs.CutLaws.{rises_last}
use Rattle.snl_lex.specs.declared.piece.Piece.{Piece}
use Rattle.snl_lex.specs.PieceList.{listed_pieces, piece_ends, piece_kinds}
use Rattle.snl_lex.specs.Pieces.{LiesIn, is_token, piece_end, pieces_of, tokens_of}
use Rattle.snl_items.specs.Items.{item_ends, mark_in, marks_of}
use Rattle.snl_tables.specs.declared.rows.Span.{Span}
use Rattle.snl_kept.specs.Parts.{EndsWithin}
use Rattle.snl_kept.specs.Program.{item_tokens}
use Rattle.snl_kept.specs.TokenLaws.{AllBefore, InARow, members_apart, tokens_apart}
use Rattle.snl_questions.specs.Items.{start_of, stop_of}
use Rattle.snl_questions.specs.Symbols.{span_between}
use Rattle.snl_outline_laws.proofs.Lists.{get_here}

pub record AreInARow (text : List ℕ) : Type 0 where
  pub apart : EachTwo AllBefore (item_tokens text)
  pub rows : Each (InARow text) (item_tokens text)

ends_within : (from : ℕ) (es : List ℕ) (to : ℕ) → Rises from es → last_end from es ≤ to →
    EndsWithin from es to
ends_within from [] to h l = tt
ends_within from (e ∷ es) to h l =
    let above = rises_last e es h.1 in (h.0, omega (arith, above, l), ends_within e es to h.1 l)

pub in_a_row : (text : List ℕ) → All (LiesIn text) (pieces_of text) →
    listed_pieces 0 (piece_ends text) (piece_kinds text) ≡ pieces_of text →
    Rises 0 (item_ends text) → last_end 0 (item_ends text) ≡ length (marks_of text) →
    AreInARow text
unfolding item_tokens
in_a_row text inside listed rise last =
    let count : length (marks_of text) ≡ length (tokens_of text) =
    length-map (tokens_of text) (mark_in text) in
    let within : EndsWithin 0 (item_ends text) (length (tokens_of text)) =
    ends_within 0 (item_ends text) (length (tokens_of text)) rise (omega (arith, last, count)) in
    let lie : Each (LiesIn text) (tokens_of text) =
    each_filter (LiesIn text) is_token (pieces_of text)
    (recursion_from_All (LiesIn text) (pieces_of text) inside) in
    let all = members_apart text (tokens_of text) 0 (item_ends text) within
    (tokens_apart text listed inside) lie in
    record { apart = all.0; rows = all.1 }

-- ---- spans

abbrev first_start : List Piece → Option ℕ
first_start own = option_map (λ (token : Piece). token.start) (slice_get own 0)

abbrev last_stop : List Piece → Option ℕ
last_stop own = option_map piece_end (slice_get own (length own - 1))

module _ (text : List ℕ) (row : AreInARow text) where
  abbrev xs : List (List Piece)
  xs = item_tokens text

  row_of : (i : ℕ) (x : List Piece) → slice_get xs i ≡ Some x → InARow text x
  row_of i x at = each_got (InARow text) xs i x row.rows at

  -- there is a span from one item to another
  pub span_there : (i m : ℕ) → i < length xs → m < length xs →
      (s : Span) × (span_between (start_of xs i) (stop_of xs m) ≡ Some s)
  span_there i m in_i in_m =
      let own = get_here xs i in_i in
      let later = get_here xs m in_m in
      let first = get_here own.0 0 (row_of i own.0 own.1).some in
      let some : 0 < length later.0 = (row_of m later.0 later.1).some in
      let last = get_here later.0 (length later.0 - 1) (omega (arith, some)) in
      let starts : start_of xs i ≡ Some first.0.start =
      ap (option_and_then first_start) own.1
      ∙ ap (option_map (λ (token : Piece). token.start)) first.1 in
      let stops : stop_of xs m ≡ Some (piece_end last.0) =
      ap (option_and_then last_stop) later.1 ∙ ap (option_map piece_end) last.1 in
      let all : Span =
      record { start = first.0.start; len = piece_end last.0 - first.0.start } in
      (all, ap₂ span_between starts stops)
