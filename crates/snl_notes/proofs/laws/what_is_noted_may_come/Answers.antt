use Rattle.std.proofs.Common.{◌≡◌, Bool, true, false, refl, subst}
use Rattle.snl_expected.specs.Expected.{IsWhether, MayCome, comes}
use Rattle.snl_notes.proofs.laws.what_is_noted_may_come.Goals as goal

holds : (b : Bool) (A : Type 0) → IsWhether b A → b ≡ true → A
holds b A w e = subst (λ t. IsWhether t A) e w

told : (b : Bool) (A : Type 0) → IsWhether b A → A → b ≡ true
told true A w a = refl
told false A w a = absurd (w a)

pub returns : goal.returns
returns c before next there = record {
  only = λ d. holds (comes before next) (MayCome before next) (c.what_comes_is_viable.ensures before next) (c.what_is_described_may_come.ensures.described before next there d);
  all = λ m. c.what_is_described_may_come.ensures.all before next there (told (comes before next) (MayCome before next) (c.what_comes_is_viable.ensures before next) m);
}
