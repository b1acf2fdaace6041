use Rattle.std.proofs.Common.{All, List, ℕ, ◌≡◌, sym, subst, ◌∙◌}
use Rattle.std.proofs.lemmas.List.Elements.{All-push}
use Rattle.snl_lex.specs.PieceList.{spelled}
use Rattle.snl_lex.specs.Pieces.{LiesIn}
use Rattle.snl_kept.specs.declared.entries.CommonEntry.{CommonEntry}
use Rattle.snl_kept.specs.Entries.{IsCommon, entry_by}
use Rattle.snl_kept.proofs.entries.CommonEntries.add.Goals as goal

pub invariant_of-self-2 : goal.invariant_of-self-2
invariant_of-self-2 c =
    let text = c.self.inside.text.now in
    let new : CommonEntry = record { own = c.args.own; entry = c.in_ok-entry.entry } in
    subst (All (IsCommon text)) (sym c.in_ok-push.ensures.items)
    (All-push (IsCommon text) c.self.inside.entries.items new c.self.invariant
    (record {
      within = subst (λ (t : List ℕ). All (LiesIn t) c.args.own.items) (sym c.self.view_is) c.requires.within;
      entry = c.in_ok-entry.ensures ∙ subst (λ (t : List ℕ). c.args.entry.now ≡ entry_by (spelled t c.args.own.items)) (sym c.self.view_is) c.requires.entry;
    }))
