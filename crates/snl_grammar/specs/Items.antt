-- Where the first item of a list of tokens ends: this project's profile, which on correct text
-- agrees with the manual's grammar. All is said of what comes before a place and of the one token
-- after it.
use Rattle.std.specs.Prelude.{ℕ, zero, suc, ◌+◌, ◌-◌, ◌==◌, Bool, true, false, not, ◌&&◌, ◌||◌, cond, List, [], ◌∷◌, ◌++◌, length, take, Option, Some, None}
use Rattle.std.specs.List.{count_by, slice_get}
use Rattle.snl_grammar.specs.declared.marks.Mark.{Mark}
use Rattle.snl_grammar.specs.declared.marks.Mark.TheVariants as mark

abbrev pub is_name : Mark → Bool
is_name mark.Name = true
is_name _ = false

abbrev pub is_text : Mark → Bool
is_text mark.Text = true
is_text _ = false

abbrev pub is_open : Mark → Bool
is_open mark.OpenBrace = true
is_open _ = false

abbrev pub is_close : Mark → Bool
is_close mark.CloseBrace = true
is_close _ = false

abbrev pub is_open_paren : Mark → Bool
is_open_paren mark.OpenParen = true
is_open_paren _ = false

abbrev pub is_close_paren : Mark → Bool
is_close_paren mark.CloseParen = true
is_close_paren _ = false

abbrev pub is_semicolon : Mark → Bool
is_semicolon mark.Semicolon = true
is_semicolon _ = false

-- the words that begin an item wherever they are
abbrev pub is_head : Mark → Bool
is_head mark.Ss = true
is_head mark.Program = true
is_head _ = false

-- the words whose items end after a block
abbrev pub is_body : Mark → Bool
is_body mark.Body = true
is_body _ = false

-- the token is there and passes
abbrev pub some_is : (Mark → Bool) → Option Mark → Bool
some_is p None = false
some_is p (Some x) = p x

-- the last token, the first one given by itself
abbrev pub last_of : Mark → List Mark → Mark
last_of x [] = x
last_of x (y ∷ ys) = last_of y ys

-- as many opening as closing braces
abbrev pub level : List Mark → Bool
level k = count_by is_open k == count_by is_close k

-- the token in front of this place passes
abbrev pub is_after : (Mark → Bool) → List Mark → ℕ → Bool
is_after p k zero = false
is_after p k (suc n) = some_is p (slice_get k n)

-- the opening brace after the first n tokens raises the balance from 0
abbrev pub raises : List Mark → ℕ → Bool
raises k n = level (take n k) && some_is is_open (slice_get k n)

-- the greatest number below n that passes, or 0
abbrev pub greatest_below : (ℕ → Bool) → ℕ → ℕ
greatest_below p zero = 0
greatest_below p (suc n) = cond (p n) n (greatest_below p n)

-- the last brace that raised the balance from 0 directly followed a closing parenthesis
abbrev pub opened_by_paren : List Mark → Bool
opened_by_paren k = is_after is_close_paren k (greatest_below (raises k) (length k))

abbrev pub is_empty : List Mark → Bool
is_empty [] = true
is_empty _ = false

-- The tokens are the front of a list: its first tokens pass these tests, one each, and the rest
-- passes `tail`. A front may break off anywhere.
abbrev pub begins : List (Mark → Bool) → (List Mark → Bool) → List Mark → Bool
begins [] tail k = tail k
begins (p ∷ ps) tail [] = true
begins (p ∷ ps) tail (x ∷ k) = p x && begins ps tail k

-- The tokens after `ss` begin some `NAME {`.
abbrev pub begins_state_set : List Mark → Bool
begins_state_set = begins (is_name ∷ is_open ∷ []) is_empty

-- The tokens begin some `TEXT .. TEXT )`.
abbrev pub begins_texts : List Mark → Bool
begins_texts [] = true
begins_texts (x ∷ k) = cond (is_text x) (begins_texts k) (is_close_paren x && is_empty k)

-- The tokens after `program` begin some `NAME ( TEXT .. TEXT )` with one text or more.
abbrev pub begins_header : List Mark → Bool
begins_header = begins (is_name ∷ is_open_paren ∷ is_text ∷ []) begins_texts

-- An item that begins with no token of its own kind ends after the token `last` and before the
-- token `ahead`: after a `;` at balance 0; after a `}` at balance 0, where it has a body; before
-- `ss` or `program` at any balance; and before a `}` at balance 0.
abbrev pub plain_ends : Bool → Mark → Bool → Mark → Bool
plain_ends is_level last has_body ahead =
    (is_level && is_semicolon last) || (is_level && is_close last && has_body) || is_head ahead || (is_level && is_close ahead)

-- A state, entry or exit, or what looks like a function, has a body.
abbrev pub has_body : Mark → List Mark → Bool
has_body first k = is_body first || opened_by_paren (first ∷ k)

abbrev pub ends_by : Mark → List Mark → Mark → Bool
ends_by mark.Ss k ahead = not (begins_state_set (k ++ ahead ∷ []))
ends_by mark.Program k ahead = not (begins_header (k ++ ahead ∷ []))
ends_by mark.CloseBrace k ahead = true
ends_by mark.CCode k ahead = true
ends_by mark.Semicolon k ahead = true
ends_by first k ahead = plain_ends (level (first ∷ k)) (last_of first k) (has_body first k) ahead

-- The item that begins with `before` ends there, where this token comes next, or none.
abbrev pub ends_before : List Mark → Option Mark → Bool
ends_before before None = true
ends_before [] (Some ahead) = false
ends_before (first ∷ k) (Some ahead) = ends_by first k ahead

abbrev pub ends_after : List Mark → ℕ → Bool
ends_after k n = ends_before (take n k) (slice_get k n)

-- the least number from n on that passes, if it is found in so many turns
abbrev pub least_from : (ℕ → Bool) → ℕ → ℕ → ℕ
least_from p n zero = n
least_from p n (suc turns) = cond (p n) n (least_from p (suc n) turns)

-- The length of the first item: the least number of tokens, at least 1, after which it ends.
abbrev pub item : List Mark → ℕ
item k = least_from (ends_after k) 1 (length k)

-- What the code asks while it reads the tokens one by one.

-- The token begins no item of its own kind.
abbrev pub is_plain : Mark → Bool
is_plain mark.Ss = false
is_plain mark.Program = false
is_plain mark.CloseBrace = false
is_plain mark.CCode = false
is_plain mark.Semicolon = false
is_plain _ = true

-- The balance of the braces after one more token.
abbrev pub balance_after : ℕ → Mark → ℕ
balance_after balance token = cond (is_open token) (balance + 1) (cond (is_close token) (balance - 1) balance)

-- A plain item ends after this token, whatever comes next.
abbrev pub plain_ends_at : Bool → Mark → Bool → Option Mark → Bool
plain_ends_at is_level last has_body None = true
plain_ends_at is_level last has_body (Some ahead) = plain_ends is_level last has_body ahead
