-- In the outlines of a text's items names of one sort are at different tokens.
use Rattle.std.proofs.Common.{◌≡◌, ℕ, Bool, true, false, if◌then◌else◌, List, [], ◌∷◌, map, Option, None, Some, refl}
use Rattle.std.specs.List.{list_any}
use Rattle.std.specs.List.{AllByRecursion as Each}
use Rattle.snl_lex.specs.declared.piece.Piece.{Piece}
use Rattle.snl_grammar.specs.declared.tree.item.Item.{Item}
use Rattle.snl_grammar.specs.Parsing.{is_bad, kinds_in}
use Rattle.snl_grammar.specs.Reading.Items.{item_of}
use Rattle.snl_summary.specs.RisingTokens.{TokensRise}
use Rattle.snl_summary.specs.Summaries.{outline_in}
use Rattle.snl_item_check.specs.Items.{outline_of_item}
use Rattle.snl_kept.specs.Program.{program_item}

-- what is known of a tree that is read, and of a faulty item
module _ (text : List ℕ)
    (of_tree : (tokens : List Piece) (t : Item) → item_of (kinds_in text tokens) ≡ Some t → TokensRise (outline_in text tokens (Some t)))
    (of_fault : (tokens : List Piece) → TokensRise (outline_in text tokens None)) where
  rises : (tokens : List Piece) → TokensRise (outline_of_item text (program_item text tokens))
  rises tokens = by (list_any is_bad tokens)
    where
      read : (o : Option Item) → item_of (kinds_in text tokens) ≡ o → TokensRise (outline_in text tokens o)
      read None h = of_fault tokens
      read (Some t) h = of_tree tokens t h

      by : (b : Bool) → TokensRise (outline_in text tokens (if b then None else item_of (kinds_in text tokens)))
      by true = of_fault tokens
      by false = read (item_of (kinds_in text tokens)) refl

  pub all_rise : (items : List (List Piece)) → Each TokensRise (map (outline_of_item text) (map (program_item text) items))
  all_rise [] = tt
  all_rise (tokens ∷ rest) = (rises tokens, all_rise rest)
