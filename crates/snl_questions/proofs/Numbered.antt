-- The piece with a number, by the lists of ends and classes.
use Rattle.std.proofs.Common.{◌≡◌, ℕ, zero, suc, ◌-◌, ◌<◌, ◌≤◌, List, [], ◌∷◌, length, get_or, take, Some, None, true, false, cond, refl, sym, ap, ◌∙◌, arith}
use Rattle.snl_cut.specs.Cut.{last_end}
use Rattle.snl_lex.specs.PieceList.{is_token_class}
use Rattle.snl_lex.specs.declared.piece.Class.{Class}
use Rattle.snl_questions.specs.Tokens.{token_numbered}

-- a piece begins where the one before it ends
pub begin_after : (from : ℕ) (ends : List ℕ) (number : ℕ) → number < length ends →
    get_or ends number 0 ≡ last_end from (take (suc number) ends)
begin_after from [] number within = absurd (omega arith)
begin_after from (e ∷ ends) zero within = refl
begin_after from (e ∷ ends) (suc number) within = begin_after e ends number (omega arith)

pub past_all : (from : ℕ) (ends : List ℕ) (kinds : List Class) (number : ℕ) → length ends ≤ number →
    None ≡ token_numbered from ends kinds number
past_all from [] kinds number past = refl
past_all from (e ∷ ends) [] number past = refl
past_all from (e ∷ ends) (k ∷ kinds) zero past = absurd (omega arith)
past_all from (e ∷ ends) (k ∷ kinds) (suc number) past = past_all e ends kinds number (omega arith)

pub no_token : (from : ℕ) (ends : List ℕ) (kinds : List Class) (number : ℕ) (k : Class) →
    number < length ends → length ends ≡ length kinds → k ≡ get_or kinds number k →
    is_token_class k ≡ false → None ≡ token_numbered from ends kinds number
no_token from [] kinds number k within same is not_it = refl
no_token from (e ∷ ends) [] number k within same is not_it = refl
no_token from (e ∷ ends) (c ∷ kinds) zero k within same is not_it =
    sym (ap (λ b. cond b (Some (record { kind = c; start = from; len = e - from })) None)
    (ap is_token_class (sym is) ∙ not_it))
no_token from (e ∷ ends) (c ∷ kinds) (suc number) k within same is not_it =
    no_token e ends kinds number k (omega arith) (omega arith) is not_it

pub a_token : (from : ℕ) (ends : List ℕ) (kinds : List Class) (number : ℕ) (k : Class) (end : ℕ) →
    number < length ends → length ends ≡ length kinds → k ≡ get_or kinds number k →
    end ≡ get_or ends number 0 → is_token_class k ≡ true →
    Some (record { kind = k; start = last_end from (take number ends); len = end - last_end from (take number ends) }) ≡
    token_numbered from ends kinds number
a_token from [] kinds number k end within same is ends_at it_is = absurd (omega arith)
a_token from (e ∷ ends) [] number k end within same is ends_at it_is = absurd (omega arith)
a_token from (e ∷ ends) (c ∷ kinds) zero k end within same is ends_at it_is =
    rw (is, ends_at)
    (sym (ap (λ b. cond b (Some (record { kind = c; start = from; len = e - from })) None)
    (ap is_token_class (sym is) ∙ it_is)))
a_token from (e ∷ ends) (c ∷ kinds) (suc number) k end within same is ends_at it_is =
    a_token e ends kinds number k end (omega arith) (omega arith) is ends_at it_is
