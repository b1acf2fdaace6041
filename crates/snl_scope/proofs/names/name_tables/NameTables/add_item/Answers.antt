use Rattle.std.proofs.Common.{◌≡◌, ◌++◌, List, append_assoc, ap, if◌then◌else◌, map, subst, ◌∙◌}
use Rattle.snl_scope.specs.declared.names.namespaces.Namespace.TheVariants as namespace
use Rattle.snl_scope.specs.Names.{Entry, declared_entry, has_own_scope, scope_at, set_entries, state_entries}
use Rattle.snl_scope.specs.Places.{enclosing_set}
use Rattle.snl_scope.specs.NameTables.{Follows}
use Rattle.snl_scope.specs.OutlineList.{declared_by, outline_of}
use Rattle.snl_scope.proofs.AddedOutlines.{state_same}
use Rattle.snl_scope.proofs.names.name_tables.NameTables.add_item.Goals as goal

pub returns : goal.returns
returns c = λ names ss es differ numbered p f.
    let i = c.args.item in
    let s = outline_of names c.args.told in
    let new = c.add_declared.new.self in
    let first = set_entries i s in
    let second = state_entries c.args.enclosing_set i s in
    let declares = map (declared_by names) c.args.told.declares.now in
    let state = c.add_state.new.self in
    let named : Follows names state.first state.symbols.items state.faults.items ((es ++ first) ++ second) =
    subst (λ l. Follows names state.first state.symbols.items state.faults.items ((es ++ first) ++ l))
    (state_same names c.args.told.head c.args.told.declares.now c.args.told.clauses.now c.args.enclosing_set i)
    (c.in_ok-add_state.ensures names (es ++ first) differ numbered.seconds.0 (c.in_ok-add_set.ensures names es differ numbered.seconds.0 f)) in
    let made = c.in_ok-add_declared.ensures names ((es ++ first) ++ second) differ numbered.declared named in
    let Q : List Entry → Type 0 = λ l. Follows names new.first new.symbols.items new.faults.items l in
    let scope : c.scope_of-scope.result ≡ (if has_own_scope s.role then namespace.State i else scope_at (enclosing_set ss i)) =
    c.scope_of-scope.ensures ∙ ap (λ q. if has_own_scope s.role then namespace.State i else scope_at q) p in
    let joined : ((es ++ first) ++ second) ++ map (declared_entry c.scope_of-scope.result i) declares ≡ es ++ (first ++ second ++ map (declared_entry c.scope_of-scope.result i) declares) =
    simp append_assoc in
    subst Q (joined ∙ (λ j. es ++ (first ++ state_entries (p j) i s ++ map (declared_entry (scope j) i) declares))) made
