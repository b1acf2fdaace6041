use Rattle.std.proofs.Common.{◌≡◌, ◌∙◌, ◌++◌, ◌||◌, Bool, false, true, List, ap, sym}
use Rattle.std.proofs.lemmas.List.Folds.{list_any-append}
use Rattle.std.specs.List.{list_any}
use Rattle.std.specs.Str.{bytes_eq}
use Rattle.snl_lex.specs.Numbers.{is_int_suffix, lone_suffixes, long_suffixes, short_suffixes}
use Rattle.snl_lex.proofs.numbers.is_int_suffix.Goals as goal

first : {X : Type 0} (p : X → Bool) (xs ys : List X) → list_any p xs ≡ true → list_any p (xs ++ ys) ≡ true
first p xs ys e = list_any-append p xs ys ∙ ap (λ b. b || list_any p ys) e

later : {X : Type 0} (p : X → Bool) (xs ys : List X) → list_any p xs ≡ false → list_any p (xs ++ ys) ≡ list_any p ys
later p xs ys e = list_any-append p xs ys ∙ ap (λ b. b || list_any p ys) e

pub returns-then-is_lone_suffix : goal.returns-then-is_lone_suffix
returns-then-is_lone_suffix c =
    unfold is_int_suffix in
    c.if-is_lone_suffix.true ∙ sym (first (bytes_eq c.args.bytes.now) lone_suffixes (short_suffixes ++ long_suffixes) (sym c.is_lone_suffix.ensures ∙ c.if-is_lone_suffix.true))

pub returns-else-is_lone_suffix : goal.returns-else-is_lone_suffix
returns-else-is_lone_suffix c =
    unfold is_int_suffix in
    c.is_mixed_suffix.ensures ∙ sym (later (bytes_eq c.args.bytes.now) lone_suffixes (short_suffixes ++ long_suffixes) (sym c.is_lone_suffix.ensures ∙ c.if-is_lone_suffix.false))
