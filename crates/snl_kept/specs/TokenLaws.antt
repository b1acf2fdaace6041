-- The tokens of a text and of its items are one after another, and what tree is read of them.
use Rattle.std.proofs.Common.{◌≡◌, ℕ, ◌+◌, ◌-◌, ◌<◌, ◌≤◌, All, List, [], ◌∷◌, length, take, drop, Some, sym, subst, arith, Bool, true, false, if◌then◌else◌, None}
use Rattle.std.specs.List.{AllByRecursion as Each, list_any}
use Rattle.std.proofs.lemmas.List.{length-drop, length-take-le}
use Rattle.std.proofs.lemmas.List.Elements.{recursion_from_All}
use Rattle.snl_cut.specs.Cut.{members}
use Rattle.snl_lex.specs.declared.piece.Class.{Class}
use Rattle.snl_lex.specs.declared.piece.Piece.{Piece}
use Rattle.snl_lex.specs.PieceList.{listed_pieces, piece_ends, piece_kinds}
use Rattle.snl_lex.specs.Pieces.{LiesIn, is_token, pieces_of, tokens_of}
use Rattle.snl_grammar.specs.declared.tree.item.Item.{Item}
use Rattle.snl_grammar.specs.Parsing.{kinds_in, is_bad}
use Rattle.snl_grammar.specs.Reading.Items.{item_of}
use Rattle.snl_kept.specs.Parts.{EndsWithin}
use Rattle.snl_kept.specs.Program.{tree_in}
use Rattle.snl_facts.specs.Each.{each_weaker, each_take, each_drop, two_take, two_drop, two_split, two_filter, EachTwo}
use Rattle.snl_facts.specs.Lists.{drop_further}

-- One token ends before another begins.
abbrev pub Before : Piece → Piece → Type 0
Before p q = p.start + p.len ≤ q.start

-- Each token of one list does so before each of another.
abbrev pub AllBefore : List Piece → List Piece → Type 0
AllBefore ps qs = Each (λ q. Each (λ p. Before p q) ps) qs

pub record InARow (text : List ℕ) (tokens : List Piece) : Type 0 where
  pub apart : EachTwo Before tokens
  pub lie : Each (LiesIn text) tokens
  pub some : 0 < length tokens

pub tiled : (from : ℕ) (es : List ℕ) (ks : List Class) → Each (λ p. 1 ≤ p.len) (listed_pieces from es ks)
    → Each (λ p. from ≤ p.start) (listed_pieces from es ks) × EachTwo Before (listed_pieces from es ks)
tiled from [] ks h = (tt, tt)
tiled from (e ∷ es) [] h = (tt, tt)
tiled from (e ∷ es) (k ∷ ks) h =
    let rest = tiled e es ks h.1 in
    let long : 1 ≤ e - from = h.0 in (
      (omega arith, each_weaker (λ p. e ≤ p.start) (λ p. from ≤ p.start) (λ p l. omega (arith, l, long)) (listed_pieces e es ks) rest.0),
      (each_weaker (λ p. e ≤ p.start) (λ p. from + (e - from) ≤ p.start) (λ p l. omega (arith, l, long)) (listed_pieces e es ks) rest.0, rest.1),
    )

pub tokens_apart : (text : List ℕ) → listed_pieces 0 (piece_ends text) (piece_kinds text) ≡ pieces_of text → All (LiesIn text) (pieces_of text) → EachTwo Before (tokens_of text)
tokens_apart text listed inside =
    two_filter Before is_token (pieces_of text)
    (subst (EachTwo Before) listed (tiled 0 (piece_ends text) (piece_kinds text)
    (subst (Each (λ p. 1 ≤ p.len)) (sym listed)
    (each_weaker (LiesIn text) (λ p. 1 ≤ p.len) (λ p l. l.0) (pieces_of text) (recursion_from_All (LiesIn text) (pieces_of text) inside)))).1)

pub members_later : (P : Piece → Type 0) (ts : List Piece) (e : ℕ) (ends : List ℕ) (to : ℕ) → EndsWithin e ends to → Each P (drop e ts) → Each (Each P) (members ts e ends)
members_later P ts e [] to w h = tt
members_later P ts e (f ∷ fs) to w h =
    (each_take P (f - e) (drop e ts) h, members_later P ts f fs to w.2 (subst (Each P) (drop_further ts e f w.0) (each_drop P (f - e) (drop e ts) h)))

pub members_apart : (text : List ℕ) (ts : List Piece) (from : ℕ) (ends : List ℕ) → EndsWithin from ends (length ts) → EachTwo Before (drop from ts) → Each (LiesIn text) (drop from ts)
    → EachTwo AllBefore (members ts from ends) × Each (InARow text) (members ts from ends)
members_apart text ts from [] w two lie = (tt, tt)
members_apart text ts from (e ∷ es) w two lie =
    let u : List Piece = drop from ts in
    let n : ℕ = e - from in
    let rest : drop n u ≡ drop e ts = drop_further ts from e w.0 in
    let more = members_apart text ts e es w.2 (subst (EachTwo Before) rest (two_drop Before n u two)) (subst (Each (LiesIn text)) rest (each_drop (LiesIn text) n u lie)) in
    let later : Each (λ q. Each (λ p. Before p q) (take n u)) (drop e ts) = subst (Each (λ q. Each (λ p. Before p q) (take n u))) rest (two_split Before n u two) in
    let long : n ≤ length u = omega (arith, w.0, w.1, length-drop from ts) in (
      (members_later (λ q. Each (λ p. Before p q) (take n u)) ts e es (length ts) w.2 later, more.0),
      (record { apart = two_take Before n u two; lie = each_take (LiesIn text) n u lie; some = omega (arith, length-take-le n u long, w.0) }, more.1),
    )

-- a tree is the one that is read
pub read_tree : (text : List ℕ) (ts : List Piece) (t : Item) → tree_in text ts ≡ Some t → item_of (kinds_in text ts) ≡ Some t
read_tree text ts t = by (list_any is_bad ts)
  where
    by : (b : Bool) → (if b then None else item_of (kinds_in text ts)) ≡ Some t → item_of (kinds_in text ts) ≡ Some t
    by true is = absurd cc
    by false is = is
