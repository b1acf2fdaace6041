-- What the tokens of an item say goes by how they are spelled.
use Rattle.std.proofs.Common.{◌≡◌, ℕ, ◌+◌, ◌||◌, nat_lt, List, [], ◌∷◌, ◌++◌, length, map, take, drop, Option, Some, None, refl, sym, ap, ap₂, ◌∙◌, append_assoc, length-append}
use Rattle.std.proofs.Math.Path.{fun_ext}
use Rattle.std.proofs.Math.Seq.{take-append_seam, drop-append_seam}
use Rattle.std.proofs.lemmas.Option.{slice_get-map}
use Rattle.std.specs.Prelude.{option_map, slice_get}
use Rattle.snl_lex.specs.declared.piece.Class.{Class}
use Rattle.snl_lex.specs.declared.piece.Piece.{Piece}
use Rattle.snl_lex.specs.PieceList.{spelled, spelling}
use Rattle.snl_grammar.specs.declared.tree.item.Item.{Item}
use Rattle.snl_summary.specs.declared.summary.NameRef.{NameRef}
use Rattle.snl_summary.specs.declared.summary.Opening.{Opening}
use Rattle.snl_summary.specs.declared.summary.Opening.TheVariants as openings
use Rattle.snl_summary.specs.SpelledTokens.{bytes_by, bytes_if_spelled, pieces_from, summary_by, text_of}
use Rattle.snl_summary.specs.Summaries.{kind_of, name_by, name_if, occurrences_in, opening_by, opening_if, opening_in, outline_in, role_in, role_of, second_in, summary_in}
use Rattle.snl_summary.specs.Summaries.Tokens.{name_ref_at}
use Rattle.snl_walk.specs.Once.{once}
use Rattle.snl_walk.specs.Tokens.{token_bytes, bytes_if}
use Rattle.snl_walk.specs.Uses.{targets, uses}
use Rattle.snl_summary.proofs.AlikeTokens.{same_clauses, same_declares, same_name_ref}

-- ---- the bytes, and the two tokens that an outline goes by

bytes_spelled : (text : List ℕ) (o : Option Piece) → bytes_if text o ≡ bytes_if_spelled (option_map (spelling text) o)
bytes_spelled text None = refl
bytes_spelled text (Some p) = refl

pub bytes_told : (text : List ℕ) (tokens : List Piece) → token_bytes text tokens ≡ bytes_by (spelled text tokens)
unfolding token_bytes
bytes_told text tokens = fun_ext (λ n. bytes_spelled text (slice_get tokens n) ∙ ap bytes_if_spelled (sym (slice_get-map (spelling text) tokens n)))

opening_by_token : Option (Class × List ℕ) → Opening
opening_by_token None = openings.Other
opening_by_token (Some token) = opening_by token.0 token.1

opening_spelled : (text : List ℕ) (o : Option Piece) → opening_if text o ≡ opening_by_token (option_map (spelling text) o)
unfolding opening_by_token
opening_spelled text None = refl
opening_spelled text (Some p) = refl

opening_told : (text : List ℕ) (tokens : List Piece) → opening_in text tokens ≡ opening_by_token (slice_get (spelled text tokens) 0)
opening_told text tokens = opening_spelled text (slice_get tokens 0) ∙ ap opening_by_token (sym (slice_get-map (spelling text) tokens 0))

name_by_token : Option (Class × List ℕ) → Option (List ℕ)
name_by_token None = None
name_by_token (Some token) = name_by token.0 token.1

name_spelled : (text : List ℕ) (o : Option Piece) → name_if text o ≡ name_by_token (option_map (spelling text) o)
unfolding name_by_token
name_spelled text None = refl
name_spelled text (Some p) = refl

second_told : (text : List ℕ) (tokens : List Piece) → second_in text tokens ≡ name_by_token (slice_get (spelled text tokens) 1)
second_told text tokens = name_spelled text (slice_get tokens 1) ∙ ap name_by_token (sym (slice_get-map (spelling text) tokens 1))

-- the names that an item uses, and the tokens of its targets
abbrev used_by : (ℕ → List ℕ) → Option Item → List (List ℕ)
used_by bytes tree = once (map bytes (uses (occurrences_in bytes tree)))

abbrev target_tokens : (ℕ → List ℕ) → Option Item → List ℕ
target_tokens bytes tree = targets (occurrences_in bytes tree)

module _ (text moved : List ℕ) (tokens shifted : List Piece) (alike : spelled text tokens ≡ spelled moved shifted) where
  pub same_bytes : token_bytes text tokens ≡ token_bytes moved shifted
  same_bytes = bytes_told text tokens ∙ ap bytes_by alike ∙ sym (bytes_told moved shifted)

  each : (n : ℕ) → token_bytes text tokens n ≡ token_bytes moved shifted n
  each n = ap (λ (f : ℕ → List ℕ). f n) same_bytes

  same_opening : opening_in text tokens ≡ opening_in moved shifted
  same_opening = opening_told text tokens ∙ ap (λ (l : List (Class × List ℕ)). opening_by_token (slice_get l 0)) alike ∙ sym (opening_told moved shifted)

  same_second : second_in text tokens ≡ second_in moved shifted
  same_second = second_told text tokens ∙ ap (λ (l : List (Class × List ℕ)). name_by_token (slice_get l 1)) alike ∙ sym (second_told moved shifted)

  pub same_outline : (tree : Option Item) → outline_in text tokens tree ≡ outline_in moved shifted tree
  same_outline tree =
      let declares = same_declares text moved tokens shifted each tree in
      let clauses = same_clauses text moved tokens shifted each tree in
      let role : role_in text tokens tree ≡ role_in moved shifted tree =
      ap₂ (λ d c. role_of (kind_of tree) (nat_lt 0 (length d) || nat_lt 0 (length c))) declares clauses in
      let opening = same_opening in
      let second = same_second in
      cc

  same_targets : (tree : Option Item) → map (name_ref_at text tokens) (target_tokens (token_bytes text tokens) tree) ≡ map (name_ref_at moved shifted) (target_tokens (token_bytes moved shifted) tree)
  same_targets tree =
      ap₂ (λ (f : ℕ → NameRef) ns. map f ns) (fun_ext (same_name_ref text moved tokens shifted each)) (ap (λ (f : ℕ → List ℕ). target_tokens f tree) same_bytes)

  pub same_summary : (tree : Option Item) → summary_in text tokens tree ≡ summary_in moved shifted tree
  same_summary tree =
      let outline = same_outline tree in
      let used : used_by (token_bytes text tokens) tree ≡ used_by (token_bytes moved shifted) tree = ap (λ (f : ℕ → List ℕ). used_by f tree) same_bytes in
      let led_to = same_targets tree in
      cc

-- ---- tokens that stand alone are spelled as they are

first_bytes : (before bytes rest : List ℕ) → take (length bytes) (drop (length before) (before ++ (bytes ++ rest))) ≡ bytes
first_bytes before bytes rest = ap (take (length bytes)) (drop-append_seam before (bytes ++ rest)) ∙ take-append_seam bytes rest

spelled_from : (before : List ℕ) (start : ℕ) (tokens : List (Class × List ℕ)) → start ≡ length before → spelled (before ++ text_of tokens) (pieces_from start tokens) ≡ tokens
spelled_from before start [] e = refl
spelled_from before start (token ∷ tokens) e =
    let here : take (length token.1) (drop start (before ++ (token.1 ++ text_of tokens))) ≡ token.1 =
    ap (λ n. take (length token.1) (drop n (before ++ (token.1 ++ text_of tokens)))) e ∙ first_bytes before token.1 (text_of tokens) in
    let longer : before ++ (token.1 ++ text_of tokens) ≡ (before ++ token.1) ++ text_of tokens = sym (append_assoc before token.1 (text_of tokens)) in
    let after : start + length token.1 ≡ length (before ++ token.1) = ap (λ n. n + length token.1) e ∙ sym (length-append before token.1) in
    let rest : spelled (before ++ (token.1 ++ text_of tokens)) (pieces_from (start + length token.1) tokens) ≡ tokens =
    ap (λ t. spelled t (pieces_from (start + length token.1) tokens)) longer ∙ spelled_from (before ++ token.1) (start + length token.1) tokens after in
    ap₂ (λ (b : List ℕ) (l : List (Class × List ℕ)). (token.0, b) ∷ l) here rest

pub spelled_alone : (tokens : List (Class × List ℕ)) → spelled (text_of tokens) (pieces_from 0 tokens) ≡ tokens
spelled_alone tokens = spelled_from [] 0 tokens refl

pub summary_told : (text : List ℕ) (tokens : List Piece) (tree : Option Item) → summary_in text tokens tree ≡ summary_by (spelled text tokens) tree
summary_told text tokens tree =
    let own : List (Class × List ℕ) = spelled text tokens in
    same_summary text (text_of own) tokens (pieces_from 0 own) (sym (spelled_alone own)) tree
