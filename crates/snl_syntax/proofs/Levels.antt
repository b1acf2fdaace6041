-- One level of declarations and of statements, beside the code that counts levels down.
use Rattle.std.proofs.Common.{◌≡◌, ℕ, suc, List, ◌-◌, ◌<◌, refl, subst, arith}
use Rattle.snl_grammar.specs.Tokens.{NumberedKind}
use Rattle.snl_grammar.specs.Reading.Expressions.{assignx}
use Rattle.snl_grammar.specs.Reading.Functions.{parameter, parameter_in}
use Rattle.snl_grammar.specs.Reading.Declarations.{init, init_of, declaration, declaration_in}
use Rattle.snl_grammar.specs.Reading.Statements.{stmt, stmt_of, block, block_of}

pub init_step : (n : ℕ) (k : List NumberedKind) → 0 < n → init n k ≡ init_of (assignx n) (init (n - 1)) k
unfolding init
init_step n k lt =
    let e : suc (n - 1) ≡ n = omega arith in
    subst (λ i. init i k ≡ init_of (assignx i) (init (n - 1)) k) e refl

pub declaration_step : (n : ℕ) (k : List NumberedKind) → 0 < n → declaration n k ≡ declaration_in (assignx (n - 1)) (init n) k
unfolding declaration
declaration_step n k lt =
    let e : suc (n - 1) ≡ n = omega arith in
    subst (λ i. declaration i k ≡ declaration_in (assignx (n - 1)) (init i) k) e refl

pub parameter_step : (n : ℕ) (k : List NumberedKind) → 0 < n → parameter n k ≡ parameter_in (assignx (n - 1)) k
unfolding parameter
parameter_step n k lt =
    let e : suc (n - 1) ≡ n = omega arith in
    subst (λ i. parameter i k ≡ parameter_in (assignx (n - 1)) k) e refl

pub stmt_deeper : (n : ℕ) (k : List NumberedKind) → 0 < n → stmt n k ≡ stmt_of (n - 1) (stmt (n - 1)) n k
unfolding stmt
stmt_deeper n k lt = let e : suc (n - 1) ≡ n = omega arith in subst (λ i. stmt i k ≡ stmt_of (n - 1) (stmt (n - 1)) i k) e refl

pub block_deeper : (n : ℕ) (k : List NumberedKind) → 0 < n → block n k ≡ block_of (n - 1) (stmt (n - 1)) k
unfolding block
block_deeper n k lt = let e : suc (n - 1) ≡ n = omega arith in subst (λ i. block i k ≡ block_of (n - 1) (stmt (n - 1)) k) e refl
