use Rattle.std.proofs.Common.{◌≡◌, ℕ, ◌||◌, ◌<◌, [], Bool, List, true, ap, ap₂, arith, length, subst, sym, ◌∙◌}
use Rattle.snl_names.specs.Keys.{AreKeys, has_number}
use Rattle.snl_names.specs.NameBook.{AllDiffer}
use Rattle.snl_names.specs.declared.keys.Key.{Key}
use Rattle.snl_names.proofs.name_book.NameBook.copied.Goals as goal

pub invariant_of-result : goal.invariant_of-result
invariant_of-result c =
    let names : List (List ℕ) = c.self.inside.names in
    let all : List Key = c.merge.new.all.items in
    let same : c.in_ok-names.names ≡ names = c.in_ok-names.ensures in
    let none : c.new.result.items ≡ [] = c.new.ensures.items in
    let sorted : AreKeys names all = c.in_ok-merge.ensures.keys in
    let keyed : (n : ℕ) → n < length names → has_number n all ≡ true =
    λ n lt. c.in_ok-merge.ensures.numbers n ∙ ap₂ (λ (a b : List Key). has_number n a || has_number n b) c.deref.ensures.value c.deref-2.ensures.value ∙ c.self.invariant.keyed n lt in
    record {
      different = subst AllDiffer (sym same) c.self.invariant.different;
      sorted_keys = subst (λ (ns : List (List ℕ)). AreKeys ns all) (sym same) sorted;
      recent_keys = subst (AreKeys c.in_ok-names.names) (sym none) (record { each = λ k d lt. absurd (omega (arith, lt)); order = λ i j le lt. absurd (omega (arith, lt)) });
      keyed = λ n lt. ap₂ (λ (a b : Bool). a || b) (keyed n (omega (arith, lt, ap length same))) (ap (has_number n) none);
    }
