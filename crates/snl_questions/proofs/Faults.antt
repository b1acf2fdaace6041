-- The token at fault of an item, and what is said of it.
use Rattle.std.proofs.Common.{◌≡◌, ◌<◌, ℕ, true, List, Some, get_or, length, slice_get, option_and_then, option_map, ap, subst, sym, ◌∙◌}
use Rattle.std.specs.List.{All}
use Rattle.std.proofs.lemmas.List.Elements.{All-weaker}
use Rattle.std.proofs.lemmas.Option.{get_or_from_slice_get, slice_get-get_or, slice_get_within}
use Rattle.snl_lex.specs.Pieces.{pieces_of}
use Rattle.snl_lex.specs.Pieces.{LiesIn as IsInText}
use Rattle.snl_lex.specs.declared.piece.Piece.{Piece}
use Rattle.snl_grammar.specs.Parsing.{LiesIn}
use Rattle.snl_notes.specs.Notes.{note_of}
use Rattle.snl_kept.specs.Program.{item_tokens}
use Rattle.snl_questions.specs.FaultNotes.{blamed_in, is_blamed, said_if, told_at_place, told_by, told_in_item, told_of_token}
use Rattle.snl_questions.specs.declared.meanings.items.TokenPlace.{TokenPlace}
use Rattle.snl_questions.proofs.Meant.{items_lie}

-- an element that is read by its number
pub found : {X : Type 0} (xs : List X) (n : ℕ) (x : X) →
    (n < length xs) × ((d : X) → x ≡ get_or xs n d) → slice_get xs n ≡ Some x
found xs n x read = slice_get-get_or xs n x read.0 ∙ ap Some (sym (read.1 x))

module _ (text : List ℕ) (p : TokenPlace) (own : List Piece)
    (at : slice_get (item_tokens text) p.item ≡ Some own)
  where
    pub lie : All (IsInText text) (pieces_of text) → All (LiesIn text) own
    lie inside =
        All-weaker (IsInText text) (LiesIn text) (λ x h. h.1) own
        (items_lie text p.item own inside at)

    module _ (token : Piece) (got : slice_get own p.token ≡ Some token) where
      pub lies : All (IsInText text) (pieces_of text) → LiesIn text token
      lies inside =
          subst (LiesIn text) (get_or_from_slice_get own p.token token token got)
          (lie inside p.token token (slice_get_within own p.token token got))

      pub told_is : is_blamed (blamed_in text own) p.token ≡ true →
          told_at_place text p ≡ option_map (told_by token) (note_of text own p.token)
      told_is blamed =
          ap (option_and_then (told_in_item text p.token)) at
          ∙ ap (option_and_then (told_of_token text own p.token)) got
          ∙ ap (λ b. option_map (told_by token) (said_if b text own p.token)) blamed
