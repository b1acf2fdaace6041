-- What holds of each punctuator, and the starts that punctuators have.
use Rattle.std.proofs.Common.{◌≡◌, ◌==◌, ℕ, zero, suc, Bool, true, false, cond, List, [], ◌∷◌, take, refl, sym, ap, ◌∙◌, inl, inr}
use Rattle.std.specs.Prelude.{slice_index}
use Rattle.std.specs.List.{list_all, list_any}
use Rattle.std.specs.Str.{bytes_eq}
use Rattle.std.proofs.lemmas.Bool.{and_parts, or_cases}
use Rattle.snl_lex.specs.declared.alphabet.Start.{Start}
use Rattle.snl_lex.specs.declared.alphabet.Start.TheVariants.{Blank, Letter, Digit, Dot, Hash, Slash, Percent, Quote, Apostrophe, Sign, Stray}
use Rattle.snl_lex.specs.Alphabet.{is_digit, is_letter, is_punctuator, is_white, start_of}
use Rattle.snl_lex.specs.Kinds.{punctuators, spellings}
use Rattle.std.proofs.Math.Seq.{take-nil}
use Rattle.snl_facts.specs.Bytes.{same_bytes}

-- What holds of each of some spellings holds of bytes that are one of them.
any_told : (P : List ℕ → Bool) (s : List ℕ) (ms : List (List ℕ)) → list_all P ms ≡ true → list_any (bytes_eq s) ms ≡ true → P s ≡ true
any_told P s [] h e = cc
any_told P s (m ∷ ms) h e =
    let parts = and_parts (P m) (list_all P ms) h in
    elim (or_cases (bytes_eq s m) (list_any (bytes_eq s) ms) e) [
      | inl here ↦ ap P (same_bytes s m here) ∙ parts.0
      | inr later ↦ any_told P s ms parts.1 later
    ]

punctuator_told : (P : List ℕ → Bool) → list_all P (spellings punctuators) ≡ true → (s : List ℕ) → is_punctuator s ≡ true → P s ≡ true
unfolding is_punctuator
punctuator_told P all s h = any_told P s (spellings punctuators) all h

abbrev pub begins_punctuator : Start → Bool
begins_punctuator Dot = true
begins_punctuator Slash = true
begins_punctuator Percent = true
begins_punctuator Sign = true
begins_punctuator _ = false

pub punctuator_begins : (b : ℕ) → is_punctuator (b ∷ []) ≡ true → begins_punctuator (start_of b) ≡ true
unfolding is_punctuator start_of is_white is_letter is_digit
punctuator_begins b h = punctuator_told (λ s. begins_punctuator (start_of (slice_index s 0))) refl (b ∷ []) h

punctuator_again : (s : List ℕ) → is_punctuator s ≡ true → is_punctuator (take 1 s) ≡ true
unfolding is_punctuator
punctuator_again s h = punctuator_told (λ m. is_punctuator (take 1 m)) refl s h

pub no_empty : is_punctuator [] ≡ true → ⊥
unfolding is_punctuator
no_empty h = cc

pub first_byte : (text : List ℕ) (n : ℕ) → is_punctuator (take n text) ≡ true → is_punctuator (take 1 text) ≡ true
first_byte [] n h = let e : take n [] ≡ [] = take-nil n in punctuator_again [] (sym (ap is_punctuator e) ∙ h)
first_byte (x ∷ xs) zero h = absurd (no_empty h)
first_byte (x ∷ xs) (suc n) h = punctuator_again (x ∷ take n xs) h

-- ---- starts

-- What the start of a piece says of its first byte.
abbrev pub says : Start → ℕ → Bool
says Digit b = is_digit b
says Dot b = b == 46
says Slash b = b == 47
says Percent b = b == 37
says Sign b = is_punctuator (b ∷ [])
says _ b = true

says_if : (c : Bool) (s t : Start) (b : ℕ) → (c ≡ true → says s b ≡ true) → says t b ≡ true → says (cond c s t) b ≡ true
says_if true s t b h k = h refl
says_if false s t b h k = k

pub start_says : (b : ℕ) → says (start_of b) b ≡ true
unfolding start_of
start_says b =
    says_if (is_white b) Blank _ b (λ e. refl)
    (says_if (is_letter b) Letter _ b (λ e. refl)
    (says_if (is_digit b) Digit _ b (λ e. e)
    (says_if (b == 46) Dot _ b (λ e. e)
    (says_if (b == 35) Hash _ b (λ e. refl)
    (says_if (b == 47) Slash _ b (λ e. e)
    (says_if (b == 37) Percent _ b (λ e. e)
    (says_if (b == 34) Quote _ b (λ e. refl)
    (says_if (b == 39) Apostrophe _ b (λ e. refl)
    (says_if (is_punctuator (b ∷ [])) Sign Stray b (λ e. e) refl)))))))))
