-- A token that is `ss` to the grammar is the word `ss`.
use Rattle.std.proofs.Common.{◌≡◌, ℕ, Bool, true, false, cond, List, [], ◌∷◌, drop, refl, sym, ap, ◌∙◌, subst}
use Rattle.std.specs.Prelude.{codes}
use Rattle.std.specs.Str.{bytes_eq}
use Rattle.std.proofs.lemmas.Slice.Eq.{bytes_eq-Decides}
use Rattle.std.proofs.lemmas.Bool.{false≢true}
use Rattle.snl_lex.specs.declared.piece.Class.{Class}
use Rattle.snl_lex.specs.declared.piece.Class.TheVariants as class
use Rattle.snl_lex.specs.declared.kind.Kind.{Kind}
use Rattle.snl_lex.specs.declared.kind.Kind.TheVariants as kind
use Rattle.snl_lex.specs.Kinds.{Entry, kind_of, look_up, punctuators, words}
use Rattle.snl_scope.specs.Order.{is_ss_word}
use Rattle.snl_summary.specs.Summaries.{opening_by, opening_by_word}

is_ss : Kind → Bool
is_ss kind.Ss = true
is_ss _ = false

-- entries that are none of `ss`
no_ss : List Entry → Bool
no_ss [] = true
no_ss (e ∷ es) = cond (is_ss e.kind) false (no_ss es)

not_found : (es : List Entry) (bytes : List ℕ) → no_ss es ≡ true → is_ss (look_up es bytes) ≡ false
unfolding is_ss no_ss
not_found [] bytes h = refl
not_found (e ∷ es) bytes h = by (is_ss e.kind) refl (not_found es bytes) h
  where
    here : is_ss e.kind ≡ false → is_ss (look_up es bytes) ≡ false → (c : Bool) → is_ss (cond c e.kind (look_up es bytes)) ≡ false
    here is rest true = is
    here is rest false = rest

    by : (b : Bool) → is_ss e.kind ≡ b → (no_ss es ≡ true → is_ss (look_up es bytes) ≡ false) → cond b false (no_ss es) ≡ true → is_ss (cond (bytes_eq bytes e.bytes) e.kind (look_up es bytes)) ≡ false
    by true is rest g = absurd (false≢true g)
    by false is rest g = here is (rest g) (bytes_eq bytes e.bytes)

-- what is found is the first entry, where no other is of `ss`
first_is : (e : Entry) (es : List Entry) (bytes : List ℕ) → no_ss es ≡ true → is_ss (look_up (e ∷ es) bytes) ≡ true → bytes_eq bytes e.bytes ≡ true
first_is e es bytes h = by (bytes_eq bytes e.bytes)
  where
    by : (c : Bool) → is_ss (cond c e.kind (look_up es bytes)) ≡ true → c ≡ true
    by true is = refl
    by false is = absurd (false≢true (sym (not_found es bytes h) ∙ is))

word_is : (bytes : List ℕ) → look_up words bytes ≡ kind.Ss → is_ss_word (opening_by_word bytes) ≡ true
unfolding is_ss no_ss
word_is bytes h =
    let e = first_is (record { bytes = codes "ss"; kind = kind.Ss }) (drop 1 words) bytes refl (ap is_ss h) in
    subst (λ (l : List ℕ). is_ss_word (opening_by_word l) ≡ true) (sym ((bytes_eq-Decides bytes (codes "ss")).0 e)) refl

pub opening_is_ss : (c : Class) (bytes : List ℕ) → kind_of c bytes ≡ kind.Ss → is_ss_word (opening_by c bytes) ≡ true
unfolding kind_of is_ss no_ss
opening_is_ss class.Word bytes h = word_is bytes h
opening_is_ss class.Punct bytes h = absurd (false≢true (sym (not_found punctuators bytes refl) ∙ ap is_ss h))
opening_is_ss class.Name bytes h = absurd cc
opening_is_ss c bytes h = absurd cc
