use Rattle.std.proofs.Common.{◌≡◌, ◌++◌, ◌∷◌, [], ap, length, subst, sym, ◌∙◌}
use Rattle.std.proofs.lemmas.List.{append-nil, length-map}
use Rattle.std.specs.Prelude.{if◌then◌else◌}
use Rattle.snl_scope.specs.declared.names.name_tables.NameTables.{NameTables}
use Rattle.snl_scope.specs.NameTables.{Follows, entry_of, symbol_of}
use Rattle.snl_scope.proofs.Entries.{follows_again, follows_new}
use Rattle.snl_scope.proofs.names.name_tables.NameTables.add.Goals as goal
use Rattle.snl_scope.proofs.names.name_tables.NameTables.add.Goals.{then-came_before+in_ok-add_repetition, else-came_before}

pub returns : goal.returns
returns c = λ names es differ there f.
    let old = c.args.self.now in
    let e = entry_of names c.args.named in
    let k = c.args.named.name in
    let symbols = c.push.new.self.items in
    let first = c.add.new.self in
    let added = c.in_ok-came_before.ensures in
    let P : NameTables → Type 0 = λ t. Follows names t.first symbols t.faults.items (es ++ e ∷ []) in
    let F : NameTables → Type 0 = λ t. symbols ≡ t.symbols.items ++ symbol_of e ∷ [] in
    let pushed : symbols ≡ c.if-came_before.self.symbols.items ++ symbol_of e ∷ [] =
    c.in_ok-push.ensures.items ∙ ap (λ x. c.if-came_before.self.symbols.items ++ x ∷ []) c.symbol_of.ensures in
    elim c.if-came_before.branch [
      | then-came_before+in_ok-add_repetition w ↦
          subst P (sym w.self-is)
          (follows_again names old.first old.symbols.items old.faults.items es f e k (differ k there)
          (sym added.seen ∙ w.if-came_before.true) first (added.stays w.if-came_before.true)
          (added.numbers ∙ ap (λ b. old.first.numbers.items ++ (if b then [] else c.len-number.result ∷ [])) w.if-came_before.true ∙ append-nil old.first.numbers.items)
          symbols w.add_repetition.new.faults.items (subst F w.self-is pushed) (w.in_ok-add_repetition.ensures names))
      | else-came_before w ↦
          subst P (sym w.self-is)
          (follows_new names old.first old.symbols.items old.faults.items es f e k (differ k there)
          first c.len-number.result (sym added.seen ∙ w.if-came_before.false)
          (added.put w.if-came_before.false)
          (added.numbers ∙ ap (λ b. old.first.numbers.items ++ (if b then [] else c.len-number.result ∷ [])) w.if-came_before.false)
          (c.len-number.ensures ∙ old.symbols.ok.0 ∙ ap length f.tabled.known ∙ length-map es symbol_of) symbols (subst F w.self-is pushed))
    ]
