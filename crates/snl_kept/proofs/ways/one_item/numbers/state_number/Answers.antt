use Rattle.std.proofs.Common.{◌≡◌, ℕ, zero, suc, ◌<◌, ◌≤◌, Bool, false, ◌&&◌, cond, List, Option, None, Some, [], ◌∷◌, ◌++◌, length, nat_eq, refl, sym, ap, ◌∙◌, arith}
use Rattle.std.specs.Option.{option_map_or}
use Rattle.std.proofs.lemmas.List.{append-nil}
use Rattle.std.proofs.lemmas.Bool.Decides.{nat_tests}
use Rattle.snl_summary.specs.declared.summary.Outline.{Outline}
use Rattle.snl_scope.specs.Below.{all_below}
use Rattle.snl_scope.specs.Order.{is_named_state}
use Rattle.snl_scope.specs.Places.{enclosing_set, stands_in}
use Rattle.snl_kept.proofs.ways.one_item.numbers.state_number.Goals as goal
use Rattle.std.proofs.Math.Bool.{and-false}

other : (set k : ℕ) → k < set → nat_eq set k ≡ false
other set k lt = grind (arith, nat_tests)

not_in : (set n : ℕ) (o : Option ℕ) → ((k : ℕ) → o ≡ Some k → k < n) → n < set → option_map_or (nat_eq set) o false ≡ false
not_in set n None within lt = refl
not_in set n (Some k) within lt = other set k (omega (arith, within k refl))

-- No item before the one that begins a set is in it.
none_before : (ss : List Outline) (set n : ℕ) → ((i k : ℕ) → enclosing_set ss i ≡ Some k → k < i) → n ≤ set → all_below (λ i. is_named_state ss i && stands_in ss set i) n ≡ []
none_before ss set zero within le = refl
none_before ss set (suc n) within le =
    let not : is_named_state ss n && stands_in ss set n ≡ false =
    ap (λ (b : Bool). is_named_state ss n && b) (not_in set n (enclosing_set ss n) (λ k e. within n k e) (omega arith)) ∙ and-false (is_named_state ss n) in
    ap (λ (b : Bool). all_below (λ i. is_named_state ss i && stands_in ss set i) n ++ cond b (n ∷ []) []) not
    ∙ append-nil (all_below (λ i. is_named_state ss i && stands_in ss set i) n)
    ∙ none_before ss set n within (omega arith)

pub loop-number-init : goal.loop-number-init
loop-number-init c =
    let first : c.min-number.result ≤ c.args.set = omega (arith, c.min-number.ensures) in
    (sym (ap length (none_before c.args.links.now.outlines c.args.set c.min-number.result (c.sets_open_in_turn.ensures.within c.args.links.now.outlines) first)), omega arith)
