-- A step along bytes that are written.
use Rattle.std.proofs.Common.{◌≡◌, ℕ, suc, ◌+◌, ◌<◌, List, ◌∷◌, ◌++◌, length, drop, get_or, refl, sym, ap, ◌∙◌, append_assoc, arith}
use Rattle.std.proofs.Math.Seq.{drop-cons}
use Rattle.snl_forms.specs.declared.escape.Escape.{Escape}
use Rattle.snl_forms.specs.Escapes.{inside_after, written, written_at}

-- the first of some bytes, and those after it
one : (how : Escape) (inside : ℕ) (bytes more : List ℕ) (b : ℕ) → bytes ≡ b ∷ more →
    written how inside bytes ≡ written_at how inside bytes ++ written how (inside_after inside bytes) more
one how inside bytes more b is = rw is refl

pub one_more : (old new all bytes rest : List ℕ) (how : Escape) (inside after at : ℕ) →
    at < length bytes → rest ≡ drop at bytes → new ≡ old ++ written_at how inside rest →
    after ≡ inside_after inside rest → old ++ written how inside (drop at bytes) ≡ all →
    new ++ written how after (drop (at + 1) bytes) ≡ all
one_more old new all bytes rest how inside after at less here put inside_is h =
    let next : suc at ≡ at + 1 = omega arith in
    let cut : drop at bytes ≡ get_or bytes at 0 ∷ drop (at + 1) bytes =
    drop-cons bytes at 0 less ∙ ap (λ (n : ℕ). get_or bytes at 0 ∷ drop n bytes) next in
    let step : written how inside rest
    ≡ written_at how inside rest ++ written how (inside_after inside rest) (drop (at + 1) bytes) =
    one how inside rest (drop (at + 1) bytes) (get_or bytes at 0) (here ∙ cut) in
    ap (λ (n : ℕ). new ++ written how n (drop (at + 1) bytes)) inside_is
    ∙ ap (λ (l : List ℕ). l ++ written how (inside_after inside rest) (drop (at + 1) bytes)) put
    ∙ append_assoc old (written_at how inside rest)
    (written how (inside_after inside rest) (drop (at + 1) bytes))
    ∙ ap (λ (l : List ℕ). old ++ l) (sym step)
    ∙ ap (λ (l : List ℕ). old ++ written how inside l) here ∙ h
