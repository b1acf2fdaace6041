-- The outline of an item speaks of tokens of the item alone, and one that begins a state set begins
-- with `ss`.
use Rattle.std.proofs.Common.{◌≡◌, ℕ, ◌<◌, Bool, true, false, List, [], ◌∷◌, length, None, Some, is_some, sym, subst, arith}
use Rattle.std.specs.List.{AllByRecursion as Each}
use Rattle.std.proofs.lemmas.Bool.{false≢true}
use Rattle.std.proofs.lemmas.List.{length-map}
use Rattle.snl_lex.specs.declared.piece.Piece.{Piece}
use Rattle.snl_grammar.specs.declared.tree.item.Item.{Item}
use Rattle.snl_grammar.specs.declared.tree.item.Item.TheVariants as items
use Rattle.snl_grammar.specs.Parsing.{kind_in, kinds_in}
use Rattle.snl_grammar.specs.Spelling.Base.{Matches}
use Rattle.snl_grammar.specs.Spelling.Items.{spell_item}
use Rattle.snl_grammar.specs.Tokens.{ahead}
use Rattle.snl_scope.specs.FaultPlaces.{SpeaksOfTokens}
use Rattle.snl_summary.specs.RisingTokens.{declared_tokens, flag_tokens, variable_tokens}
use Rattle.snl_scope.specs.Order.{is_ss_word}
use Rattle.snl_scope.specs.Places.{begins_set}
use Rattle.snl_summary.specs.Summaries.{kind_of_tree, opening_in, outline_in, role_of, second_in}
use Rattle.snl_summary.specs.LeafLaws.{AreLeaves, below_count}
use Rattle.snl_summary.specs.MentionedLaws.{declared_leaves, flags_leaves, variable_leaves}
use Rattle.snl_scope.proofs.SsWords.{opening_is_ss}

two_there : (text : List ℕ) (tokens : List Piece) → is_some (second_in text tokens) ≡ true → 1 < length tokens
two_there text [] h = absurd (false≢true h)
two_there text (p ∷ []) h = absurd (false≢true h)
two_there text (p ∷ q ∷ ps) h = omega arith

-- an item that begins a state set is spelled with `ss`
begins_with_ss : (t : Item) (b : Bool) → begins_set (role_of (kind_of_tree t) b) ≡ true → (text : List ℕ) (tokens : List Piece) → Matches (spell_item t) (ahead (kinds_in text tokens) 0)
    → is_ss_word (opening_in text tokens) ≡ true
unfolding ahead
begins_with_ss (items.SsBegin name) b h text [] m = absurd m
begins_with_ss (items.SsBegin name) b h text (p ∷ ps) m = opening_is_ss p.kind _ (sym m.0.0)
begins_with_ss (items.StateBlock name ms) true h text tokens m = absurd (false≢true h)
begins_with_ss (items.StateBlock name ms) false h text tokens m = absurd (false≢true h)
begins_with_ss t b h text tokens m = absurd (false≢true h)

module _ (text : List ℕ) (tokens : List Piece) (some : 0 < length tokens) where
  pub speaks_of_tokens : (t : Item) → Matches (spell_item t) (ahead (kinds_in text tokens) 0) → SpeaksOfTokens (length tokens) (outline_in text tokens (Some t))
  speaks_of_tokens t m = record {
    first = some;
    second = two_there text tokens;
    declared = among (declared_tokens (outline_in text tokens (Some t))) (declared_leaves text tokens t);
    variables = among (variable_tokens (outline_in text tokens (Some t))) (variable_leaves text tokens t);
    flags = among (flag_tokens (outline_in text tokens (Some t))) (flags_leaves text tokens t);
    set = λ h. begins_with_ss t _ h text tokens m;
  }
    where
      among : (ns : List ℕ) → AreLeaves ns (spell_item t) → Each (λ n. n < length tokens) ns
      among ns l = subst (λ count. Each (λ n. n < count) ns) (length-map tokens (kind_in text)) (below_count ns (spell_item t) (kinds_in text tokens) l m)

  pub faulty_speaks_of_tokens : SpeaksOfTokens (length tokens) (outline_in text tokens None)
  faulty_speaks_of_tokens = record {
    first = some;
    second = two_there text tokens;
    declared = tt;
    variables = tt;
    flags = tt;
    set = λ h. absurd (false≢true h);
  }
