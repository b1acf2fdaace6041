-- Where the token at fault may come, the tokens are cut short.
use Rattle.std.proofs.Common.{◌≡◌, ℕ, zero, suc, ◌<◌, Bool, true, false, List, [], ◌∷◌, ◌++◌, Some, length, take, refl, sym, ap, subst, ◌∙◌, inl, inr, arith}
use Rattle.std.specs.List.{slice_get}
use Rattle.std.proofs.Math.Seq.{length-take-le, take-suc}
use Rattle.std.proofs.lemmas.Option.{get_or_from_slice_get, slice_get_within}
use Rattle.snl_lex.specs.declared.kind.Kind.{Kind}
use Rattle.snl_grammar.specs.Tokens.{ahead}
use Rattle.snl_grammar.specs.Grammar.Items.{IsItemWithin}
use Rattle.snl_grammar.specs.Viability.{AreCutShort, IsFaultAt, IsViable}
use Rattle.snl_expected.specs.Expected.{IsWhether, MayCome, comes}

-- only the first n tokens count
viable_by : (a b : List Kind) (n : ℕ) → take n a ≡ take n b → IsViable a n → IsViable b n
viable_by a b n e v =
    record { to_come = v.to_come; tree = v.tree; free = v.free; extra = v.extra; held = v.held; item = subst (λ (l : List Kind). IsItemWithin v.free v.extra 99 v.tree (ahead (l ++ v.to_come) 0) []) e v.item }

take_all_again : {X : Type 0} (n : ℕ) (xs : List X) → take n (take n xs) ≡ take n xs
take_all_again zero xs = refl
take_all_again (suc n) [] = refl
take_all_again (suc n) (x ∷ xs) = ap (λ l. x ∷ l) (take_all_again n xs)

module _ (kinds : List Kind) (at : ℕ) (fault : Kind) (is : slice_get kinds at ≡ Some fault) where
  inside : at < length kinds
  inside = slice_get_within kinds at fault is

  -- the tokens up to the one at fault
  front : take at kinds ++ fault ∷ [] ≡ take (suc at) kinds
  front = ap (λ k. take at kinds ++ k ∷ []) (sym (get_or_from_slice_get kinds at fault fault is)) ∙ sym (take-suc kinds at fault inside)

  count : length (take at kinds) ≡ at
  count = length-take-le at kinds (let low = inside in omega (arith, low))

  forth : IsViable kinds (suc at) → MayCome (take at kinds) fault
  forth v =
      subst (λ n. IsViable (take at kinds ++ fault ∷ []) (suc n)) (sym count)
      (subst (λ l. IsViable l (suc at)) (sym front)
      (viable_by kinds (take (suc at) kinds) (suc at) (sym (take_all_again (suc at) kinds)) v))

  back : MayCome (take at kinds) fault → IsViable kinds (suc at)
  back m =
      viable_by (take (suc at) kinds) kinds (suc at) (take_all_again (suc at) kinds)
      (subst (λ l. IsViable l (suc at)) front
      (subst (λ n. IsViable (take at kinds ++ fault ∷ []) (suc n)) count m))

  cut : IsFaultAt kinds at → IsViable kinds (suc at) → AreCutShort kinds at
  cut f v = elim f.here [ inl never ↦ absurd (never v) | inr already ↦ already ]

  told : IsFaultAt kinds at → (b : Bool) → IsWhether b (MayCome (take at kinds) fault) → IsWhether b (AreCutShort kinds at)
  told f true m = cut f (back m)
  told f false never = λ s. never (forth s.viable)

  pub cut_short : IsFaultAt kinds at → IsWhether (comes (take at kinds) fault) (MayCome (take at kinds) fault) → IsWhether (comes (take at kinds) fault) (AreCutShort kinds at)
  cut_short f w = told f (comes (take at kinds) fault) w
