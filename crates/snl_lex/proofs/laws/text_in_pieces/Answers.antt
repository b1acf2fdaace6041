use Rattle.std.proofs.Common.{ℕ, zero, suc, ◌+◌, ◌<◌, List, [], ◌∷◌, length, drop, get_or, refl, sym, subst, arith}
use Rattle.snl_lex.specs.declared.piece.Piece.{Piece}
use Rattle.snl_lex.specs.Classes.{HasItsClass}
use Rattle.snl_lex.specs.Pieces.{piece_at, piece_length, pieces_of}
use Rattle.snl_lex.proofs.Members.{Leads, leads_inside, leads_walk, pieces_lead}
use Rattle.snl_lex.proofs.Own.{leads_joined, leads_own}
use Rattle.snl_lex.proofs.laws.text_in_pieces.Goals as goal

piece_class : (text : List ℕ) (at : ℕ) → HasItsClass text (piece_at text at)
unfolding piece_at
piece_class text at = record { kind = refl; len = refl }

leads_class : (text : List ℕ) (from : ℕ) (ps : List Piece) (to : ℕ) → Leads text from ps to → (k : ℕ) (d : Piece) → k < length ps → HasItsClass text (get_or ps k d)
leads_class text from [] to h k d lt = absurd (omega arith)
leads_class text from (p ∷ ps) to h zero d lt = subst (HasItsClass text) (sym h.1) (piece_class text from)
leads_class text from (p ∷ ps) to h (suc k) d lt = leads_class text (from + piece_length (drop from text)) ps to h.2 k d (omega arith)

pub returns-clause-cut : goal.returns-clause-cut
returns-clause-cut c = λ text. leads_walk text 0 (pieces_of text) (length text) (pieces_lead text)

pub returns-clause-joined : goal.returns-clause-joined
returns-clause-joined c = λ text. leads_joined text 0 (pieces_of text) (pieces_lead text)

pub returns-clause-inside : goal.returns-clause-inside
returns-clause-inside c = λ text. leads_inside text 0 (pieces_of text) (length text) (pieces_lead text)

pub returns-clause-class : goal.returns-clause-class
returns-clause-class c = λ text. leads_class text 0 (pieces_of text) (length text) (pieces_lead text)

pub returns-clause-own_bytes : goal.returns-clause-own_bytes
returns-clause-own_bytes c = λ text. leads_own text 0 (pieces_of text) (length text) (pieces_lead text)
