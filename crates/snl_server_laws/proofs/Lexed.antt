-- The strings among the tokens of JSON are UTF-8 where the text is.
use Rattle.std.proofs.Common.{◌≡◌, ◌==◌, ℕ, suc, ◌+◌, ◌<◌, Bool, true, false, cond, List, [], ◌∷◌, drop, get_or, length, Option, None, Some, IsUtf8, refl, subst, arith}
use Rattle.std.specs.Prelude.{⊤}
use Rattle.std.specs.List.{AllByRecursion as Each}
use Rattle.std.proofs.lemmas.Bool.Decides.{nat_tests}
use Rattle.std.proofs.lemmas.Str.{IsCharBoundary-after_ascii, IsUtf8-drop}
use Rattle.json.specs.Ascii as ascii
use Rattle.json.specs.Lex.{Class, Lexeme, Mode, Place, after_comma, after_key, after_value, backslash, begins_colon, between, class, colon, comma, fresh, if_allowed, in_escape, in_string, in_word, lex, lex_byte, may_begin, may_close, operator, operator_lexeme, other, place_token, punctuate, quote, space, string_token, token, tokens}
use Rattle.json.specs.Text.{content, plain}
use Rattle.json.specs.Token as json
use Rattle.json.specs.Token.{Token}
use Rattle.json.specs.Word.{after_number, head, is_operator, is_space, literal, number_before, word}
use Rattle.snl_server_laws.proofs.Content.{content_utf8}

-- its string, if it has one, is UTF-8
abbrev pub IsTextToken : Token → Type 0
IsTextToken (json.key s) = IsUtf8 s
IsTextToken (json.string s) = IsUtf8 s
IsTextToken _ = ⊤

abbrev IsTextLexeme : Lexeme → Type 0
IsTextLexeme (token t) = IsTextToken t
IsTextLexeme comma = ⊤
IsTextLexeme colon = ⊤

-- ---- lexemes

-- what follows an ASCII byte is UTF-8
abbrev Tails : List ℕ → Type 0
Tails xs = (k : ℕ) → k < length xs → get_or xs k 0 < 128 → IsUtf8 (drop (suc k) xs)

tails_of : (xs : List ℕ) → IsUtf8 xs → Tails xs
tails_of xs utf8 k inside small =
    let next : k + 1 ≡ suc k = omega arith in
    subst (λ (n : ℕ). IsUtf8 (drop n xs)) next
    (IsUtf8-drop xs (k + 1) utf8 (IsCharBoundary-after_ascii xs k utf8 inside small))

tails_later : (x : ℕ) (xs : List ℕ) → Tails (x ∷ xs) → Tails xs
tails_later x xs tails k inside small = tails (suc k) (omega (arith, inside)) small

quote_is : (x : ℕ) → class x ≡ quote → x < 128
quote_is x h = by (x == ascii.quote) refl (x == ascii.backslash) (is_operator x) (is_space x) h
  where
    by : (p : Bool) → (x == ascii.quote) ≡ p → (q r s : Bool) →
        cond p quote (cond q backslash (cond r operator (cond s space other))) ≡ quote → x < 128
    by true e q r s h = grind (arith, nat_tests, e)
    by false e true r s h = absurd cc
    by false e false true s h = absurd cc
    by false e false false true h = absurd cc
    by false e false false false h = absurd cc

if_literal : (b : Bool) (t : Token) → IsTextToken t → IsTextToken (cond b t json.bad)
if_literal true t h = h
if_literal false t h = tt

number_text : (t : List ℕ) (o : Option (List ℕ)) → IsTextToken (number_before t o)
number_text t None = tt
number_text t (Some rest) = if_literal _ (json.number _) tt

word_text : (t : List ℕ) → IsTextToken (word t)
unfolding word
word_text t =
    by (head t == ascii.lower_t) (head t == ascii.lower_f) (head t == ascii.lower_n)
  where
    by : (p q r : Bool) → IsTextToken (cond p (literal ascii.true_text (json.boolean true) t)
        (cond q (literal ascii.false_text (json.boolean false) t)
        (cond r (literal ascii.null_text json.null t) (number_before t (after_number t)))))
    by true q r = if_literal _ (json.boolean true) tt
    by false true r = if_literal _ (json.boolean false) tt
    by false false true = if_literal _ json.null tt
    by false false false = number_text t (after_number t)

operator_text : (x : ℕ) → IsTextLexeme (operator_lexeme x)
operator_text x =
    by (x == ascii.open_brace) (x == ascii.close_brace) (x == ascii.open_bracket)
    (x == ascii.close_bracket) (x == ascii.comma)
  where
    by : (p q r s t : Bool) → IsTextLexeme (cond p (token json.begin_object)
        (cond q (token json.end_object) (cond r (token json.begin_array)
        (cond s (token json.end_array) (cond t comma colon)))))
    by true q r s t = tt
    by false true r s t = tt
    by false false true s t = tt
    by false false false true t = tt
    by false false false false true = tt
    by false false false false false = tt

string_text : (xs : List ℕ) → IsUtf8 xs → IsTextToken (string_token (content plain xs))
string_text xs utf8 = by (content plain xs) refl
  where
    by : (o : Option (List ℕ)) → content plain xs ≡ o → IsTextToken (string_token o)
    by None e = tt
    by (Some s) e = content_utf8 xs s utf8 e

-- a byte in each mode
byte_text : (m : Mode) (c : Class) (x : ℕ) (xs : List ℕ) → (c ≡ quote → IsUtf8 xs) →
    (k : Mode → List Lexeme) → ((next : Mode) → Each IsTextLexeme (k next)) →
    Each IsTextLexeme (lex_byte m c x xs k)
byte_text between quote x xs utf8 k rest = (string_text xs (utf8 refl), rest in_string)
byte_text between backslash x xs utf8 k rest = (tt, rest in_word)
byte_text between operator x xs utf8 k rest = (operator_text x, rest between)
byte_text between space x xs utf8 k rest = rest between
byte_text between other x xs utf8 k rest = (word_text (x ∷ xs), rest in_word)
byte_text in_word quote x xs utf8 k rest = rest in_word
byte_text in_word backslash x xs utf8 k rest = rest in_word
byte_text in_word operator x xs utf8 k rest = (operator_text x, rest between)
byte_text in_word space x xs utf8 k rest = rest between
byte_text in_word other x xs utf8 k rest = rest in_word
byte_text in_string quote x xs utf8 k rest = rest between
byte_text in_string backslash x xs utf8 k rest = rest in_escape
byte_text in_string operator x xs utf8 k rest = rest in_string
byte_text in_string space x xs utf8 k rest = rest in_string
byte_text in_string other x xs utf8 k rest = rest in_string
byte_text in_escape c x xs utf8 k rest = rest in_string

lexemes_text : (m : Mode) (xs : List ℕ) → Tails xs → Each IsTextLexeme (lex m xs)
unfolding lex
lexemes_text m [] tails = tt
lexemes_text m (x ∷ xs) tails =
    byte_text m (class x) x xs (λ is. tails 0 (omega arith) (quote_is x is))
    (λ next. lex next xs) (λ next. lexemes_text next xs (tails_later x xs tails))

-- ---- tokens

allowed_text : (b : Bool) (t : Token) (k : Place → List Token) (next : Place) → IsTextToken t →
    ((p : Place) → Each IsTextToken (k p)) → Each IsTextToken (if_allowed b t k next)
allowed_text true t k next h rest = (h, rest next)
allowed_text false t k next h rest = (tt, tt)

placed_text : (p : Place) (t : Token) (b : Bool) (k : Place → List Token) → IsTextToken t →
    ((q : Place) → Each IsTextToken (k q)) → Each IsTextToken (place_token p t b k)
placed_text p json.begin_object b k h rest = allowed_text (may_begin p) _ k _ tt rest
placed_text p json.end_object b k h rest = allowed_text (may_close p) _ k _ tt rest
placed_text p json.begin_array b k h rest = allowed_text (may_begin p) _ k _ tt rest
placed_text p json.end_array b k h rest = allowed_text (may_close p) _ k _ tt rest
placed_text p (json.key s) b k h rest = (tt, tt)
placed_text p (json.string s) true k h rest = allowed_text (may_begin p) (json.key s) k _ h rest
placed_text p (json.string s) false k h rest = allowed_text (may_begin p) (json.string s) k _ h rest
placed_text p (json.number s) b k h rest = allowed_text (may_begin p) _ k _ tt rest
placed_text p (json.boolean c) b k h rest = allowed_text (may_begin p) _ k _ tt rest
placed_text p json.null b k h rest = allowed_text (may_begin p) _ k _ tt rest
placed_text p json.bad b k h rest = (tt, tt)

punctuated_text : (p : Place) (ls : List Lexeme) → Each IsTextLexeme ls →
    Each IsTextToken (punctuate p ls)
unfolding punctuate
punctuated_text fresh [] h = tt
punctuated_text after_value [] h = tt
punctuated_text after_comma [] h = (tt, tt)
punctuated_text after_key [] h = (tt, tt)
punctuated_text fresh (token t ∷ ls) h =
    placed_text fresh t (begins_colon ls) (λ next. punctuate next ls) h.0
    (λ next. punctuated_text next ls h.1)
punctuated_text after_value (token t ∷ ls) h =
    placed_text after_value t (begins_colon ls) (λ next. punctuate next ls) h.0
    (λ next. punctuated_text next ls h.1)
punctuated_text after_comma (token t ∷ ls) h =
    placed_text after_comma t (begins_colon ls) (λ next. punctuate next ls) h.0
    (λ next. punctuated_text next ls h.1)
punctuated_text after_key (token t ∷ ls) h =
    placed_text after_key t (begins_colon ls) (λ next. punctuate next ls) h.0
    (λ next. punctuated_text next ls h.1)
punctuated_text fresh (comma ∷ ls) h = (tt, tt)
punctuated_text after_value (comma ∷ ls) h = punctuated_text after_comma ls h.1
punctuated_text after_comma (comma ∷ ls) h = (tt, tt)
punctuated_text after_key (comma ∷ ls) h = (tt, tt)
punctuated_text fresh (colon ∷ ls) h = (tt, tt)
punctuated_text after_value (colon ∷ ls) h = (tt, tt)
punctuated_text after_comma (colon ∷ ls) h = (tt, tt)
punctuated_text after_key (colon ∷ ls) h = punctuated_text fresh ls h.1

pub tokens_text : (text : List ℕ) → IsUtf8 text → Each IsTextToken (tokens text)
tokens_text text utf8 =
    punctuated_text fresh (lex between text) (lexemes_text between text (tails_of text utf8))
