use Rattle.std.proofs.Common.{◌≡◌, ℕ, ◌-◌, List, count_by, filter, length, refl, sym, ap, ◌∙◌, take, arith}
use Rattle.std.proofs.lemmas.List.{length-map}
use Rattle.snl_lex.specs.declared.piece.Class.{Class}
use Rattle.snl_lex.specs.declared.piece.Piece.{Piece}
use Rattle.snl_lex.specs.Edit.{edit_of}
use Rattle.snl_lex.specs.PieceList.{is_token_class, piece_kinds}
use Rattle.snl_lex.specs.Pieces.{is_token, pieces_of, tokens_of}
use Rattle.snl_items.specs.OwnTokens.{AreCounted, tokens_before}
use Rattle.snl_items.proofs.OwnParts.{all_tokens, first_tokens, tokens_among}
use Rattle.snl_items.proofs.own_tokens.own_tokens_before.Goals as goal

-- how many tokens are among the first pieces, by a list of the classes
among : (old : List ℕ) (kinds list : List Class) (n m count : ℕ) → kinds ≡ list → list ≡ piece_kinds old → n ≡ m → tokens_before (piece_kinds old) m ≡ count → tokens_before kinds n ≡ count
among old kinds list n m count h i j k = ap (λ (l : List Class). tokens_before l n) (h ∙ i) ∙ ap (tokens_before (piece_kinds old)) j ∙ k

pub tokens_back-from-requires-clause-some : goal.tokens_back-from-requires-clause-some
tokens_back-from-requires-clause-some c =
    let edit = c.args.edit.now in
    let change = c.args.change.now in
    let tokens = c.args.tokens.now in
    let counted : AreCounted edit.old.now change.kept_front change.kept_back tokens.edit =
    c.tokens_counted.ensures (edit_of edit) change c.requires.change tokens c.requires.tokens in
    let starts = ap (λ (l : List Class). tokens_before l change.kept_front) (c.deref.ensures.value ∙ c.requires.kinds) ∙ counted.start in
    omega (arith, starts)

pub tokens_on-to-requires-clause-some : goal.tokens_on-to-requires-clause-some
tokens_on-to-requires-clause-some c =
    let edit = c.args.edit.now in
    let old = edit.old.now in
    let change = c.args.change.now in
    let tokens = c.args.tokens.now in
    let counted : AreCounted old change.kept_front change.kept_back tokens.edit =
    c.tokens_counted.ensures (edit_of edit) change c.requires.change tokens c.requires.tokens in
    let many : c.len.result ≡ length (piece_kinds old) = omega (arith, c.len.ensures, c.args.pieces.now.kinds.ok, ap length c.requires.kinds) in
    let stops =
    among old c.deref-2.result.now c.args.pieces.now.kinds.items (c.len.result - change.kept_back) (length (piece_kinds old) - change.kept_back) tokens.edit.old_stop
    c.deref-2.ensures.value c.requires.kinds (ap (λ (n : ℕ). n - change.kept_back) many) counted.stop in
    let all : count_by is_token_class c.deref-2.result.now ≡ length (tokens_of old) = ap (count_by is_token_class) (c.deref-2.ensures.value ∙ c.requires.kinds) ∙ all_tokens (pieces_of old) in
    omega (arith, stops, all, c.requires.inside, c.requires.stop)

pub returns : goal.returns
returns c =
    let edit = c.args.edit.now in
    let old = edit.old.now in
    let change = c.args.change.now in
    let tokens = c.args.tokens.now in
    let ps : List Piece = pieces_of old in
    let counted : AreCounted old change.kept_front change.kept_back tokens.edit =
    c.tokens_counted.ensures (edit_of edit) change c.requires.change tokens c.requires.tokens in
    let many : c.len.result ≡ length (piece_kinds old) = omega (arith, c.len.ensures, c.args.pieces.now.kinds.ok, ap length c.requires.kinds) in
    let starts = among old c.deref.result.now c.args.pieces.now.kinds.items change.kept_front change.kept_front tokens.edit.start c.deref.ensures.value c.requires.kinds refl counted.start in
    let stops =
    among old c.deref-2.result.now c.args.pieces.now.kinds.items (c.len.result - change.kept_back) (length (piece_kinds old) - change.kept_back) tokens.edit.old_stop
    c.deref-2.ensures.value c.requires.kinds (ap (λ (n : ℕ). n - change.kept_back) many) counted.stop in
    let from : length (filter is_token (take c.tokens_back-from.result ps)) ≡ c.args.first =
    sym (first_tokens ps c.tokens_back-from.result)
    ∙ ap (λ (l : List Class). tokens_before l c.tokens_back-from.result) (sym (c.deref.ensures.value ∙ c.requires.kinds))
    ∙ omega (arith, c.tokens_back-from.ensures.counted, starts, c.requires.first) in
    let to : length (filter is_token (take c.tokens_on-to.result ps)) ≡ c.args.stop =
    sym (first_tokens ps c.tokens_on-to.result)
    ∙ ap (λ (l : List Class). tokens_before l c.tokens_on-to.result) (sym (c.deref-2.ensures.value ∙ c.requires.kinds))
    ∙ omega (arith, c.tokens_on-to.ensures.counted, stops, c.requires.stop) in
    c.in_ok-own.ensures old c.requires.ends c.requires.kinds
    ∙ tokens_among ps c.tokens_back-from.result c.tokens_on-to.result c.args.first c.args.stop
    (omega (arith, c.tokens_back-from.ensures.before, c.tokens_on-to.ensures.after, many, c.requires.change.order, length-map ps (λ (p : Piece). p.kind))) from to
