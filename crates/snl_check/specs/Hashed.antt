-- The numbers by which the key of an element is hashed, and that equal keys have equal ones.
use Rattle.std.specs.Prelude.{◌≡◌, ℕ, ◌++◌, true}
use Rattle.std.specs.Hash as fed
use Rattle.std.specs.Hash.{HashWrites}
use Rattle.std.proofs.Common.{refl, sym, ap, ◌∙◌, true≢false}
use Rattle.std.specs.Cmp.{first_so, second_so}
use Rattle.std.proofs.lemmas.Bool.Decides.{Decides-eqb}
use Rattle.snl_check.specs.declared.rows.channel_numbers.ElementKey.{ElementKey}
use Rattle.snl_check.specs.declared.rows.channel_numbers.Which.{Which}
use Rattle.snl_check.specs.declared.rows.channel_numbers.Which.TheVariants as which
use Rattle.snl_check.specs.contracts.rows.channel_numbers.ElementKeyPartialEq.TheImpl as key_eq
use Rattle.snl_check.specs.contracts.rows.channel_numbers.WhichPartialEq.TheImpl as which_eq

abbrev pub which_number : Which → ℕ
which_number which.Any = 18446744073709551615
which_number (which.Element n) = n

abbrev pub key_fed : ElementKey → HashWrites
key_fed k = fed.usize k.variable ++ fed.u64 (which_number k.which)

same_number : (a b : Which) → which_eq.eq-value.it a b ≡ true → which_number a ≡ which_number b
same_number which.Any which.Any h = refl
same_number which.Any (which.Element b) h = absurd (true≢false (sym h))
same_number (which.Element a) which.Any h = absurd (true≢false (sym h))
same_number (which.Element a) (which.Element b) h = (Decides-eqb a b).0 h

pub same_key_fed : (a b : ElementKey) → key_eq.eq-value.it a b ≡ true → key_fed a ≡ key_fed b
same_key_fed a b h =
    let variables = (Decides-eqb a.variable b.variable).0 (first_so _ _ h) in
    let elements = same_number a.which b.which (second_so _ _ h) in
    ap (λ n. fed.usize n ++ fed.u64 (which_number a.which)) variables ∙ ap (λ n. fed.usize b.variable ++ fed.u64 n) elements
