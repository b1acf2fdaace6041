use Rattle.std.proofs.Common.{arith, ◌≡◌, ℕ, ◌+◌, ◌<◌, ◌++◌, ◌∷◌, [], List, length, take, drop, slice_get, Some, option_map, option_copied, ap, sym, ◌∙◌, add-one}
use Rattle.std.proofs.lemmas.List.{length-map, take_all}
use Rattle.std.proofs.lemmas.Option.{slice_get-map}
use Rattle.snl_summary.specs.declared.summary.ItemKind.{ItemKind}
use Rattle.snl_kept.specs.declared.entries.Entry.{Entry}
use Rattle.snl_kept.specs.ItemPlan.{kinds_kept}
use Rattle.snl_kept.proofs.Replaced.{none_missing}
use Rattle.snl_kept.proofs.Steps.{take_more}
use Rattle.snl_kept.proofs.ways.one_item.own_links.kinds_kept.Goals as goal
use Rattle.snl_kept.proofs.ways.one_item.own_links.kinds_kept.Goals.{in-Some+in_ok-push, in_default}
use Rattle.snl_facts.specs.Lists.{drop_got}

one_more : (es : List Entry) (n : ℕ) (e : Entry) → slice_get es n ≡ Some e → take (n + 1) (kinds_kept es) ≡ take n (kinds_kept es) ++ (e.summary.kind ∷ [])
one_more es n e at =
    let ks : List ItemKind = kinds_kept es in
    let here : slice_get ks n ≡ Some e.summary.kind = slice_get-map (λ (x : Entry). x.summary.kind) es n ∙ ap (option_map (λ (x : Entry). x.summary.kind)) at in
    take_more ks n e.summary.kind (drop_got ks n e.summary.kind here ∙ ap (λ (k : ℕ). e.summary.kind ∷ drop k ks) (sym (add-one n)))

pub loop-number-preserved : goal.loop-number-preserved
loop-number-preserved c =
    let es : List Entry = c.args.entries.now.values in
    let n = c.loop-number.number in
    let lt : n < length es = omega (arith, c.loop-number-test.true, c.len-number-end.ensures) in
    elim c.match-get.branch [
      | in-Some+in_ok-push w ↦
          let at : slice_get es n ≡ Some w.in-Some.entry.now = sym (sym (ap option_copied w.in-Some.is) ∙ c.get.ensures) in
          rw w.kinds-is
          (w.in_ok-push.ensures.items
          ∙ ap (λ (x : Entry). c.loop-number.kinds.items ++ (x.summary.kind ∷ [])) w.get-in-Some.ensures
          ∙ ap (λ (l : List ItemKind). l ++ (w.in-Some.entry.now.summary.kind ∷ [])) c.loop-number.invariant
          ∙ sym (one_more es n w.in-Some.entry.now at))
      | in_default w ↦ absurd (none_missing es n lt (sym (sym (ap option_copied w.in_default.is) ∙ c.get.ensures)))
    ]

pub returns : goal.returns
returns c =
    let es : List Entry = c.args.entries.now.values in
    c.loop-number.invariant ∙ take_all c.loop-number.number (kinds_kept es) (omega (arith, c.loop-number-test.false, c.len-number-end.ensures, length-map es (λ (x : Entry). x.summary.kind)))
