-- What is found after an edit inside one item: the findings of that item are taken out, the others
-- are shifted, and what is now found at it comes in.
use Rattle.std.specs.Prelude.{◌≡◌, ℕ, Bool, if◌then◌else◌, List, [], ◌∷◌, ◌++◌, map, Option}
use Rattle.std.specs.Ordering.{is_eq}
use Rattle.snl_lex.specs.declared.piece.Piece.{Piece}
use Rattle.snl_lex.specs.declared.shift.Shift.{Shift}
use Rattle.snl_lex.specs.PieceList.{spelled}
use Rattle.snl_summary.specs.declared.summary.Outline.{Outline}
use Rattle.snl_item_check.specs.declared.findings.Checked.{Checked}
use Rattle.snl_kept.specs.declared.found.findings.Finding.{Finding}
use Rattle.snl_kept.specs.Checks.{check_by}
use Rattle.snl_kept.specs.Order.{in_order, order_of}
use Rattle.snl_kept.specs.Shifted.{shifted_finding}

-- Two findings have one offset, one code and one subject.
abbrev pub is_same : Finding → Finding → Bool
is_same x y = is_eq (order_of x y)

-- The findings without the first one that is the same.
abbrev pub taken_out : Finding → List Finding → List Finding
taken_out x [] = []
taken_out x (y ∷ ys) = if is_same x y then ys else y ∷ taken_out x ys

-- The findings without these, each taken out once.
abbrev pub without : List Finding → List Finding → List Finding
without [] ys = ys
without (x ∷ xs) ys = without xs (taken_out x ys)

-- What is found after an edit, in order: what was found, without what is gone, is shifted, and what
-- has come is added.
abbrev pub found_around : Shift → List Finding → List Finding → List Finding → List Finding
found_around s gone come found = in_order (map (shifted_finding s) (without gone found) ++ come)

-- What is found by the walks is shifted, but for that in one state set.
pub record WalksAround (s : Shift) (gone come before after : List Finding) : Type 0 where
  pub front : List Finding
  pub back : List Finding
  pub were : before ≡ front ++ (gone ++ back)
  pub are : after ≡ map (shifted_finding s) front ++ (come ++ map (shifted_finding s) back)

-- What a check of an item gave that is spelled so: the one with some number, by what some items say
-- to each other.
pub record IsOwnCheck (text : List ℕ) (own : List Piece) (check : Option Checked) : Type 0 where
  pub outlines : List Outline
  pub number : ℕ
  pub is : check ≡ check_by outlines number (spelled text own)
