-- The name of an item is a leaf of what its tree spells, and leaves are tokens of the item; so its
-- targets are, as all that is found in it.
use Rattle.std.proofs.Common.{ℕ, ◌<◌, List, [], ◌∷◌, ◌++◌, length, map, None, Some, subst, arith}
use Rattle.std.proofs.lemmas.List.{length-map}
use Rattle.std.specs.List.{All, AllByRecursion as Each}
use Rattle.snl_facts.specs.Each.{each_unmap}
use Rattle.snl_lex.specs.declared.piece.Piece.{Piece}
use Rattle.snl_lex.specs.declared.kind.Kind.{Kind}
use Rattle.snl_lex.specs.declared.kind.Kind.TheVariants as kind
use Rattle.snl_grammar.specs.declared.tree.item.Item.{Item}
use Rattle.snl_grammar.specs.declared.tree.item.Item.TheVariants as items
use Rattle.snl_grammar.specs.Parsing.{kind_in, kinds_in}
use Rattle.snl_grammar.specs.Spelling.Base.{Matches, Spelled, joined, perhaps, word}
use Rattle.snl_grammar.specs.Spelling.Items.{spell_header_text, spell_item}
use Rattle.snl_grammar.specs.Spelling.States.{spell_state_member}
use Rattle.snl_grammar.specs.Tokens.{ahead}
use Rattle.snl_walk.specs.Items.{occurrences, tokens_of}
use Rattle.snl_walk.specs.Tokens.{token_bytes}
use Rattle.snl_walk.specs.Uses.{is_target}
use Rattle.snl_summary.specs.NamedTokens.{NamesItsTokens, own_name}
use Rattle.snl_summary.specs.Summaries.Clauses.{clauses_in_tree}
use Rattle.snl_summary.specs.Summaries.Declares.{declared_in_tree}
use Rattle.snl_summary.specs.LeafLaws.{AreLeaves, below_count, leaves_after, leaves_before, one_leaf}
use Rattle.snl_summary.specs.MentionedLaws.{declared_leaves, variable_leaves}
use Rattle.snl_summary.proofs.SomeTokens.{all_where}

-- ---- tokens that are there

two_tokens : (x y : Spelled) (zs : List Spelled) (kinds : List Kind) → Matches (x ∷ y ∷ zs) (ahead kinds 0) → 1 < length kinds
unfolding ahead
two_tokens x y zs [] h = absurd h
two_tokens x y zs (q ∷ []) h = absurd h.1
two_tokens x y zs (q ∷ r ∷ qs) h = omega arith

-- ---- the name of an item

own_below : (t : Item) (kinds : List Kind) → Matches (spell_item t) (ahead kinds 0) → Each (λ n. n < length kinds) (own_name t)
own_below (items.Header name parameters) kinds h =
    below_count (name ∷ []) (spell_item (items.Header name parameters)) kinds (leaves_before (perhaps spell_header_text parameters) (leaves_after (word kind.Program) (one_leaf kind.Name name))) h
own_below (items.SsBegin name) kinds h = (two_tokens (kind.Ss, None) (kind.Name, Some name) (word kind.OpenBrace) kinds h, tt)
own_below (items.StateBlock name ms) kinds h = (two_tokens (kind.State, None) (kind.Name, Some name) (word kind.OpenBrace ++ joined (map spell_state_member ms) ++ word kind.CloseBrace) kinds h, tt)
own_below t kinds h = tt

pub names_tokens : (text : List ℕ) (tokens : List Piece) (t : Item) → Matches (spell_item t) (ahead (kinds_in text tokens) 0)
    → All (λ n. n < length tokens) (tokens_of (occurrences (token_bytes text tokens) t)) → NamesItsTokens text tokens t
names_tokens text tokens t h stand = record {
  own = counted (own_name t) (own_below t kinds h);
  declared = each_unmap (λ n. n < length tokens) (λ d. d.token) (declared_in_tree text tokens t) (among (map (λ d. d.token) (declared_in_tree text tokens t)) (declared_leaves text tokens t));
  variables = each_unmap (λ n. n < length tokens) (λ c. c.variable.token) (clauses_in_tree text tokens t) (among (map (λ c. c.variable.token) (clauses_in_tree text tokens t)) (variable_leaves text tokens t));
  targets = all_where (λ o. is_target o.what) (λ n. n < length tokens) (occurrences (token_bytes text tokens) t) stand;
}
  where
    kinds : List Kind
    kinds = kinds_in text tokens

    counted : (ns : List ℕ) → Each (λ n. n < length kinds) ns → Each (λ n. n < length tokens) ns
    counted ns below = subst (λ count. Each (λ n. n < count) ns) (length-map tokens (kind_in text)) below

    among : (ns : List ℕ) → AreLeaves ns (spell_item t) → Each (λ n. n < length tokens) ns
    among ns l = counted ns (below_count ns (spell_item t) kinds l h)
