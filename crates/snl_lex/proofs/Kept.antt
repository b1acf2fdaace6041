-- What an edit keeps of the pieces is spelled as before.
use Rattle.std.proofs.Common.{◌≡◌, ℕ, ◌+◌, ◌-◌, Bool, true, false, cond, List, [], ◌∷◌, length, take, map, filter, refl, sym, ap, ap₂, ◌∙◌, subst, arith}
use Rattle.std.specs.List.{AllByRecursion}
use Rattle.std.proofs.lemmas.List.{length-map}
use Rattle.snl_cut.specs.Cut.{IsEdit, IsRecut, last_end}
use Rattle.snl_lex.specs.declared.piece.Class.{Class}
use Rattle.snl_lex.specs.declared.piece.Piece.{Piece}
use Rattle.snl_lex.specs.PieceList.{last_pieces, piece_ends, spelled, tokens_spelled}
use Rattle.snl_lex.specs.Pieces.{bytes_at, is_token, moved_piece, piece_length, pieces_of}
use Rattle.snl_lex.proofs.Alike.{alike_after, alike_before, leads_back}
use Rattle.snl_lex.proofs.Members.{Leads, pieces_lead}

spelled_alike : (old text : List ℕ) (ps : List Piece) → AllByRecursion (λ p. bytes_at text p ≡ bytes_at old p) ps → spelled text ps ≡ spelled old ps
spelled_alike old text [] h = refl
spelled_alike old text (p ∷ ps) h =
    ap₂ (λ (s : List ℕ) (l : List (Class × List ℕ)). (p.kind, s) ∷ l) h.0 (spelled_alike old text ps h.1)

tokens_alike : (old text : List ℕ) (ps : List Piece) → AllByRecursion (λ p. bytes_at text p ≡ bytes_at old p) ps → tokens_spelled text ps ≡ tokens_spelled old ps
tokens_alike old text [] h = refl
tokens_alike old text (p ∷ ps) h =
    let rest = tokens_alike old text ps h.1 in
    let P : Bool → Type 0 = λ (b : Bool). spelled text (cond b (p ∷ filter is_token ps) (filter is_token ps)) ≡ spelled old (cond b (p ∷ filter is_token ps) (filter is_token ps)) in
    elim (is_token p) as P [ true ↦ ap₂ (λ (s : List ℕ) (l : List (Class × List ℕ)). (p.kind, s) ∷ l) h.0 rest | false ↦ rest ]

spelled_moved : (old text : List ℕ) (b c : ℕ) (ps : List Piece) → AllByRecursion (λ p. bytes_at text (moved_piece b c p) ≡ bytes_at old p) ps → spelled text (map (moved_piece b c) ps) ≡ spelled old ps
spelled_moved old text b c [] h = refl
spelled_moved old text b c (p ∷ ps) h =
    ap₂ (λ (s : List ℕ) (l : List (Class × List ℕ)). (p.kind, s) ∷ l) h.0 (spelled_moved old text b c ps h.1)

tokens_moved : (old text : List ℕ) (b c : ℕ) (ps : List Piece) → AllByRecursion (λ p. bytes_at text (moved_piece b c p) ≡ bytes_at old p) ps → tokens_spelled text (map (moved_piece b c) ps) ≡ tokens_spelled old ps
tokens_moved old text b c [] h = refl
tokens_moved old text b c (p ∷ ps) h =
    let rest = tokens_moved old text b c ps h.1 in
    let m : List Piece = map (moved_piece b c) ps in
    let P : Bool → Type 0 = λ (t : Bool). spelled text (cond t (moved_piece b c p ∷ filter is_token m) (filter is_token m)) ≡ spelled old (cond t (p ∷ filter is_token ps) (filter is_token ps)) in
    elim (is_token p) as P [ true ↦ ap₂ (λ (s : List ℕ) (l : List (Class × List ℕ)). (p.kind, s) ∷ l) h.0 rest | false ↦ rest ]

module _ (old text : List ℕ) (start b c front : ℕ) (made : List ℕ) (back : ℕ) (edit : IsEdit old text start b c) (r : IsRecut piece_length old (piece_ends old) text start b c front made back) where
  -- The bytes of the pieces at the front, and of those at the back.
  pub front_bytes : AllByRecursion (λ p. bytes_at text p ≡ bytes_at old p) (take front (pieces_of old))
  front_bytes =
      subst (λ (n : ℕ). AllByRecursion (λ p. bytes_at text p ≡ bytes_at old p) (take n (pieces_of old))) (sym r.kept) (alike_before old text start (pieces_of old) edit.before)

  pub back_bytes : AllByRecursion (λ p. bytes_at text (moved_piece b c p) ≡ bytes_at old p) (last_pieces old back)
  back_bytes =
      let k : ℕ = length (pieces_of old) - back in
      let from : ℕ = last_end 0 (take k (piece_ends old)) in
      let many : length (piece_ends old) ≡ length (pieces_of old) = length-map (pieces_of old) _ in
      let there : from ≡ (r.meet - c) + b = ap (λ (n : ℕ). last_end 0 (take (n - back) (piece_ends old))) (sym many) ∙ r.from in
      let led : Leads old from (last_pieces old back) (length old) = leads_back old 0 (pieces_of old) (length old) k (pieces_lead old) in
      alike_after old text b c from (last_pieces old back) (length old) edit.after (omega (arith, there)) led

  pub front_spelled : spelled text (take front (pieces_of old)) ≡ spelled old (take front (pieces_of old))
  front_spelled = spelled_alike old text (take front (pieces_of old)) front_bytes

  pub front_tokens : tokens_spelled text (take front (pieces_of old)) ≡ tokens_spelled old (take front (pieces_of old))
  front_tokens = tokens_alike old text (take front (pieces_of old)) front_bytes

  pub back_spelled : spelled text (map (moved_piece b c) (last_pieces old back)) ≡ spelled old (last_pieces old back)
  back_spelled = spelled_moved old text b c (last_pieces old back) back_bytes

  pub back_tokens : tokens_spelled text (map (moved_piece b c) (last_pieces old back)) ≡ tokens_spelled old (last_pieces old back)
  back_tokens = tokens_moved old text b c (last_pieces old back) back_bytes
