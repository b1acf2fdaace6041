use Rattle.std.proofs.Common.{◌≡◌, ℕ, ◌+◌, ◌++◌, ◌∷◌, [], ◌<◌, List, Option, Some, ap, append_assoc, arith, get_or, length, map, slice_get, subst, sym, take, ◌∙◌}
use Rattle.std.proofs.lemmas.List.{map_more}
use Rattle.std.proofs.lemmas.Simd.{map-map}
use Rattle.snl_codes.specs.declared.code.Code.{Code}
use Rattle.snl_facts.specs.Each.{each_got}
use Rattle.snl_scope.specs.Names.{Entry, declared_entry}
use Rattle.snl_scope.specs.NameTables.{Follows}
use Rattle.snl_scope.specs.OutlineList.{declared_by, name_at}
use Rattle.snl_scope.proofs.Searches.{index-at}
use Rattle.snl_scope.specs.declared.outlines.flat.FlatDeclared.{FlatDeclared}
use Rattle.snl_summary.specs.declared.summary.Dims.TheVariants as dims
use Rattle.snl_summary.specs.declared.summary.SymbolKind.TheVariants as symbol_kind
use Rattle.snl_scope.proofs.names.name_tables.NameTables.add_declared.Goals as goal

-- what a read after the end would give
abbrev none : FlatDeclared
none = record { name = 0; token = 0; variable = record { dims = dims.Plain; symbol_kind = symbol_kind.EventFlag } }

pub loop-declared-preserved : goal.loop-declared-preserved
loop-declared-preserved c = λ names es differ each f.
    let entry : FlatDeclared → Entry = λ d. declared_entry c.args.scope c.args.item (declared_by names d) in
    let declares = c.args.declares.now in
    let i = c.loop-declared.declared-index in
    let d = get_or declares i none in
    let new = c.add.new.self in
    let here : List Entry = map entry (take i declares) in
    let apart : (n : ℕ) → map (declared_entry c.args.scope c.args.item) (map (declared_by names) (take n declares)) ≡ map entry (take n declares) =
    λ n. map-map (declared_entry c.args.scope c.args.item) (declared_by names) (take n declares) in
    let more : map entry (take (i + 1) declares) ≡ here ++ entry d ∷ [] =
    map_more entry declares i none (omega (arith, c.loop-declared-test.true)) in
    let at : slice_get declares i ≡ Some d = index-at declares i none (omega (arith, c.loop-declared-test.true)) in
    let there : d.name < length names = each_got (λ d. d.name < length names) declares i d each at in
    let made : Option Code → Entry =
    λ code. record { namespace = c.args.scope; name = name_at names d.name; item = c.args.item; token = d.token; code = code; variable = Some d.variable } in
    let same : made c.scope_code.result ≡ entry d = ap made c.scope_code.ensures in
    let before = subst (λ (l : List Entry). Follows names c.loop-declared.self.first c.loop-declared.self.symbols.items c.loop-declared.self.faults.items (es ++ l)) (apart i) (c.loop-declared.invariant names es differ each f) in
    subst (λ (l : List Entry). Follows names new.first new.symbols.items new.faults.items l)
    (append_assoc es here (made c.scope_code.result ∷ []) ∙ ap (λ x. es ++ (here ++ x ∷ [])) same ∙ ap (λ l. es ++ l) (sym more ∙ sym (apart (i + 1))))
    (c.in_ok-add.ensures names (es ++ here) differ there before)
