use Rattle.std.proofs.Common.{◌≡◌, ◌<◌, ℕ, ◌+◌, ◌-◌, ◌++◌, ◌∷◌, [], ◌∙◌, List, ap, arith, drop, get_or, length, subst, sym, take}
use Rattle.std.proofs.lemmas.List.{get_or_default, take_rest}
use Rattle.std.proofs.lemmas.Option.{get_or_from_slice_get}
use Rattle.snl_names.specs.Keys.{AreKeys, has_number}
use Rattle.snl_names.specs.declared.keys.Key.{Key}
use Rattle.snl_names.proofs.Merges.{IsMerging, merged_keys, merged_numbers, merging_more}
use Rattle.snl_names.proofs.merging.merge.Goals as goal

pub loop-key-preserved : goal.loop-key-preserved
loop-key-preserved c =
    let recent : List Key = c.args.recent.now in
    let at : ℕ = c.loop-key.key-index in
    let key : Key = get_or recent at (record { print = 0; number = 0 }) in
    let run : List Key = take (c.place_from-to.result - c.loop-key.from) (drop c.loop-key.from c.args.sorted.now) in
    let there : at < length recent = omega arith in
    let pushed : c.push.new.self.items ≡ (c.loop-key.all.items ++ run) ++ key ∷ [] =
    c.in_ok-push.ensures.items ∙ ap (λ (ks : List Key). ks ++ key ∷ []) c.in_ok-extend_from_slice.ensures.items in
    subst (λ (ks : List Key). IsMerging c.args.names.now c.args.sorted.now recent ks c.place_from-to.result (at + 1)) (sym pushed)
    (merging_more c.args.names.now c.args.sorted.now recent c.loop-key.all.items c.loop-key.from at c.place_from-to.result key c.get.result.now
    c.requires.sorted c.requires.recent c.loop-key.invariant there (get_or_default recent at (record { print = 0; number = 0 }) key there)
    (sym (get_or_from_slice_get c.args.names.now key.number c.get.result.now [] c.get.ensures))
    c.place_from-to.ensures.from c.place_from-to.ensures.within c.place_from-to.ensures.before c.place_from-to.ensures.rest)

pub returns-clause-keys : goal.returns-clause-keys
returns-clause-keys c =
    let all : c.extend_from_slice-2.new.self.items ≡ c.loop-key.all.items ++ drop c.loop-key.from c.args.sorted.now =
    c.in_ok-extend_from_slice-2.ensures.items ∙ ap (λ (ks : List Key). c.loop-key.all.items ++ ks) (take_rest c.args.sorted.now c.loop-key.from) in
    subst (AreKeys c.args.names.now) (sym all)
    (merged_keys c.args.names.now c.args.sorted.now c.args.recent.now c.loop-key.all.items c.loop-key.from c.loop-key.key-index c.requires.sorted c.loop-key.invariant)

pub returns-clause-numbers : goal.returns-clause-numbers
returns-clause-numbers c = λ n.
    let all : c.extend_from_slice-2.new.self.items ≡ c.loop-key.all.items ++ drop c.loop-key.from c.args.sorted.now =
    c.in_ok-extend_from_slice-2.ensures.items ∙ ap (λ (ks : List Key). c.loop-key.all.items ++ ks) (take_rest c.args.sorted.now c.loop-key.from) in
    ap (has_number n) all
    ∙ merged_numbers c.args.names.now c.args.sorted.now c.args.recent.now c.loop-key.all.items c.loop-key.from c.loop-key.key-index n (omega arith) c.loop-key.invariant
