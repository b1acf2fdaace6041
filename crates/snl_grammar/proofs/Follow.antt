-- What may come after an expression, and what it begins with.
use Rattle.std.proofs.Common.{◌≡◌, ℕ, ◌<◌, ◌≤◌, true, false, eqb, List, [], ◌∷◌, Option, Some, None, refl, sym, ap, subst, ◌∙◌, arith}
use Rattle.std.proofs.lemmas.Bool.{eq-eqb, eqb-true, false_from_ne_true}
use Rattle.snl_lex.specs.declared.kind.Kind.{Kind}
use Rattle.snl_lex.specs.declared.kind.Kind.TheVariants as kind
use Rattle.snl_grammar.specs.declared.operator.Binary.{Binary}
use Rattle.snl_grammar.specs.declared.operator.Binary.TheVariants as binaries
use Rattle.snl_grammar.specs.declared.operator.Assignment.{Assignment}
use Rattle.snl_grammar.specs.declared.operator.Assignment.TheVariants as assignments
use Rattle.snl_grammar.specs.Tokens.{NumberedKind, same}
use Rattle.snl_grammar.specs.Operators.{tier, binary_of, binary_kind, assignment_of, assignment_kind}
use Rattle.snl_grammar.specs.Steps.{kind_at}
use Rattle.snl_grammar.specs.Reading.Expressions.{in_tier, binary_in, assignment_in}
use Rattle.snl_grammar.specs.Grammar.Base.{First}
use Rattle.snl_grammar.proofs.Same.{same_true}
use Rattle.snl_grammar.proofs.Again.{Lacks, kind_first}

-- The level from which on a token continues an expression before it: 0 after an operand, 1 to 10
-- the tiers, 11 a condition, 12 an assignment, 13 a comma.
abbrev pub binds : Kind → ℕ
binds kind.OpenBracket = 0
binds kind.OpenParen = 0
binds kind.Dot = 0
binds kind.Arrow = 0
binds kind.PlusPlus = 0
binds kind.MinusMinus = 0
binds kind.Text = 0
binds kind.BarBar = 10
binds kind.AmpersandAmpersand = 9
binds kind.Bar = 8
binds kind.Caret = 7
binds kind.Ampersand = 6
binds kind.EqualEqual = 5
binds kind.NotEqual = 5
binds kind.Less = 4
binds kind.Greater = 4
binds kind.LessEqual = 4
binds kind.GreaterEqual = 4
binds kind.LessLess = 3
binds kind.GreaterGreater = 3
binds kind.Plus = 2
binds kind.Minus = 2
binds kind.Star = 1
binds kind.Slash = 1
binds kind.Percent = 1
binds kind.Question = 11
binds kind.Equal = 12
binds kind.PlusEqual = 12
binds kind.MinusEqual = 12
binds kind.StarEqual = 12
binds kind.SlashEqual = 12
binds kind.PercentEqual = 12
binds kind.AmpersandEqual = 12
binds kind.BarEqual = 12
binds kind.CaretEqual = 12
binds kind.LessLessEqual = 12
binds kind.GreaterGreaterEqual = 12
binds kind.Comma = 13
binds _ = 14

-- the tokens do not continue an expression of this level
abbrev pub Stops : ℕ → List NumberedKind → Type 0
Stops n [] = Unit {0}
Stops n (s ∷ k) = n < binds s.0

pub stops_less : (n i : ℕ) (k : List NumberedKind) → n ≤ i → Stops i k → Stops n k
stops_less n i [] le h = tt
stops_less n i (s ∷ k) le h = omega arith

pub first_stops : (x : Kind) (n : ℕ) (k rest : List NumberedKind) → n < binds x → First x k rest → Stops n k
first_stops x n k rest lt f = subst (Stops n) (sym f.1) lt

pub stops_lacks : (n : ℕ) (k : List NumberedKind) (x : Kind) → Stops n k → binds x ≤ n → Lacks x k
stops_lacks n [] x h le = tt
stops_lacks n (s ∷ k) x h le = false_from_ne_true (same s.0 x) (λ e. let b : binds s.0 ≡ binds x = ap binds (same_true s.0 x e) in let lt : n < binds s.0 = h in omega arith)

pub binds-mark : (op : Binary) → binds (binary_kind op) ≡ tier op
binds-mark binaries.Or = refl
binds-mark binaries.And = refl
binds-mark binaries.BitOr = refl
binds-mark binaries.BitXor = refl
binds-mark binaries.BitAnd = refl
binds-mark binaries.Equal = refl
binds-mark binaries.NotEqual = refl
binds-mark binaries.Less = refl
binds-mark binaries.Greater = refl
binds-mark binaries.LessEqual = refl
binds-mark binaries.GreaterEqual = refl
binds-mark binaries.ShiftLeft = refl
binds-mark binaries.ShiftRight = refl
binds-mark binaries.Add = refl
binds-mark binaries.Subtract = refl
binds-mark binaries.Multiply = refl
binds-mark binaries.Divide = refl
binds-mark binaries.Remainder = refl

binary_tier : (d : Kind) (op : Binary) → binary_of d ≡ Some op → binds d ≡ tier op
binary_tier kind.BarBar binaries.Or e = refl
binary_tier kind.AmpersandAmpersand binaries.And e = refl
binary_tier kind.Bar binaries.BitOr e = refl
binary_tier kind.Caret binaries.BitXor e = refl
binary_tier kind.Ampersand binaries.BitAnd e = refl
binary_tier kind.EqualEqual binaries.Equal e = refl
binary_tier kind.NotEqual binaries.NotEqual e = refl
binary_tier kind.Less binaries.Less e = refl
binary_tier kind.Greater binaries.Greater e = refl
binary_tier kind.LessEqual binaries.LessEqual e = refl
binary_tier kind.GreaterEqual binaries.GreaterEqual e = refl
binary_tier kind.LessLess binaries.ShiftLeft e = refl
binary_tier kind.GreaterGreater binaries.ShiftRight e = refl
binary_tier kind.Plus binaries.Add e = refl
binary_tier kind.Minus binaries.Subtract e = refl
binary_tier kind.Star binaries.Multiply e = refl
binary_tier kind.Slash binaries.Divide e = refl
binary_tier kind.Percent binaries.Remainder e = refl
binary_tier _ op e = absurd cc

binary-mark : (op : Binary) → binary_of (binary_kind op) ≡ Some op
binary-mark binaries.Or = refl
binary-mark binaries.And = refl
binary-mark binaries.BitOr = refl
binary-mark binaries.BitXor = refl
binary-mark binaries.BitAnd = refl
binary-mark binaries.Equal = refl
binary-mark binaries.NotEqual = refl
binary-mark binaries.Less = refl
binary-mark binaries.Greater = refl
binary-mark binaries.LessEqual = refl
binary-mark binaries.GreaterEqual = refl
binary-mark binaries.ShiftLeft = refl
binary-mark binaries.ShiftRight = refl
binary-mark binaries.Add = refl
binary-mark binaries.Subtract = refl
binary-mark binaries.Multiply = refl
binary-mark binaries.Divide = refl
binary-mark binaries.Remainder = refl

in_tier_none : (n : ℕ) (o : Option Binary) → ((op : Binary) → o ≡ Some op → n < tier op) → in_tier n o ≡ None
in_tier_none n None h = refl
in_tier_none n (Some op) h =
    let no : eqb (tier op) n ≡ false = false_from_ne_true (eqb (tier op) n) (λ e. let q : tier op ≡ n = eqb-true (tier op) n e in let lt : n < tier op = h op refl in omega arith) in
    rw no refl

pub binary_none : (n : ℕ) (k : List NumberedKind) → Stops n k → binary_in n (kind_at k) ≡ None
unfolding kind_at
binary_none n [] h = refl
binary_none n (s ∷ k) h = in_tier_none n (binary_of s.0) (λ op e. let r : binds s.0 ≡ tier op = binary_tier s.0 op e in let lt : n < binds s.0 = h in omega arith)

pub binary_some : (n : ℕ) (op : Binary) (k rest : List NumberedKind) → First (binary_kind op) k rest → tier op ≡ n → binary_in n (kind_at k) ≡ Some op
binary_some n op k rest f r =
    let same : eqb (tier op) n ≡ true = eq-eqb (tier op) n r in
    let here : in_tier n (Some op) ≡ Some op = rw same refl in
    ap (binary_in n) (kind_first (binary_kind op) k rest f) ∙ ap (in_tier n) (binary-mark op) ∙ here

assignment-mark : (op : Assignment) → assignment_of (assignment_kind op) ≡ Some op
assignment-mark assignments.Plain = refl
assignment-mark assignments.Add = refl
assignment-mark assignments.Subtract = refl
assignment-mark assignments.Multiply = refl
assignment-mark assignments.Divide = refl
assignment-mark assignments.Remainder = refl
assignment-mark assignments.BitAnd = refl
assignment-mark assignments.BitOr = refl
assignment-mark assignments.BitXor = refl
assignment-mark assignments.ShiftLeft = refl
assignment-mark assignments.ShiftRight = refl

pub assignment_some : (op : Assignment) (k rest : List NumberedKind) → First (assignment_kind op) k rest → assignment_in (kind_at k) ≡ Some op
assignment_some op k rest f = ap assignment_in (kind_first (assignment_kind op) k rest f) ∙ assignment-mark op

pub binds-assignment : (op : Assignment) → binds (assignment_kind op) ≡ 12
binds-assignment assignments.Plain = refl
binds-assignment assignments.Add = refl
binds-assignment assignments.Subtract = refl
binds-assignment assignments.Multiply = refl
binds-assignment assignments.Divide = refl
binds-assignment assignments.Remainder = refl
binds-assignment assignments.BitAnd = refl
binds-assignment assignments.BitOr = refl
binds-assignment assignments.BitXor = refl
binds-assignment assignments.ShiftLeft = refl
binds-assignment assignments.ShiftRight = refl

-- the next token assigns nothing
abbrev pub Quiet : List NumberedKind → Type 0
Quiet k = assignment_in (kind_at k) ≡ None

quiet_kind : (d : Kind) → 12 < binds d → assignment_of d ≡ None
quiet_kind kind.Equal h = absurd (omega (arith, h))
quiet_kind kind.PlusEqual h = absurd (omega (arith, h))
quiet_kind kind.MinusEqual h = absurd (omega (arith, h))
quiet_kind kind.StarEqual h = absurd (omega (arith, h))
quiet_kind kind.SlashEqual h = absurd (omega (arith, h))
quiet_kind kind.PercentEqual h = absurd (omega (arith, h))
quiet_kind kind.AmpersandEqual h = absurd (omega (arith, h))
quiet_kind kind.BarEqual h = absurd (omega (arith, h))
quiet_kind kind.CaretEqual h = absurd (omega (arith, h))
quiet_kind kind.LessLessEqual h = absurd (omega (arith, h))
quiet_kind kind.GreaterGreaterEqual h = absurd (omega (arith, h))
quiet_kind _ h = refl

pub stops_quiet : (k : List NumberedKind) → Stops 12 k → Quiet k
unfolding kind_at
stops_quiet [] h = refl
stops_quiet (s ∷ k) h = quiet_kind s.0 h

quiet_mark : (op : Binary) → assignment_of (binary_kind op) ≡ None
quiet_mark binaries.Or = refl
quiet_mark binaries.And = refl
quiet_mark binaries.BitOr = refl
quiet_mark binaries.BitXor = refl
quiet_mark binaries.BitAnd = refl
quiet_mark binaries.Equal = refl
quiet_mark binaries.NotEqual = refl
quiet_mark binaries.Less = refl
quiet_mark binaries.Greater = refl
quiet_mark binaries.LessEqual = refl
quiet_mark binaries.GreaterEqual = refl
quiet_mark binaries.ShiftLeft = refl
quiet_mark binaries.ShiftRight = refl
quiet_mark binaries.Add = refl
quiet_mark binaries.Subtract = refl
quiet_mark binaries.Multiply = refl
quiet_mark binaries.Divide = refl
quiet_mark binaries.Remainder = refl

pub binary_quiet : (op : Binary) (k rest : List NumberedKind) → First (binary_kind op) k rest → Quiet k
binary_quiet op k rest f = ap assignment_in (kind_first (binary_kind op) k rest f) ∙ quiet_mark op
