use Rattle.std.proofs.Common.{◌≡◌, ℕ, ◌+◌, ◌++◌, ◌∷◌, [], List, ap, ap₂, append_assoc, arith, map, sym, take, ◌∙◌}
use Rattle.std.proofs.lemmas.List.{map_more, map_push}
use Rattle.snl_summary.specs.declared.summary.Declared.{Declared}
use Rattle.snl_scope.proofs.edited_names.add_declared.Goals as goal

abbrev name_of : Declared → List ℕ
name_of d = d.name

pub loop-declared-preserved : goal.loop-declared-preserved
loop-declared-preserved c =
    let declares = c.args.declares.now in
    let i = c.loop-declared.declared-index in
    let declared = c.declared-item.result in
    let before : List (List ℕ) = map (λ n. n.now) c.args.names.now.items in
    let here : List (List ℕ) = map name_of (take i declares) in
    let more : map name_of (take (i + 1) declares) ≡ here ++ name_of declared ∷ [] =
    map_more name_of declares i declared (omega (arith, c.loop-declared-test.true)) ∙ ap (λ d. here ++ name_of d ∷ []) (sym c.declared-item.is) in
    ap (map (λ n. n.now)) c.in_ok-push.ensures.items ∙ map_push (λ n. n.now) c.loop-declared.names.items _
    ∙ ap₂ (λ (l : List (List ℕ)) (n : List ℕ). l ++ n ∷ []) c.loop-declared.invariant c.bytes.ensures ∙ append_assoc before here (name_of declared ∷ [])
    ∙ ap (λ l. before ++ l) (sym more)
