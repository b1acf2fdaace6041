use Rattle.std.proofs.Common.{◌≡◌, ℕ, ◌+◌, ◌++◌, ◌∷◌, [], ◌&&◌, Bool, cond, get_or, Global, List, None, Option, Some, Vec, false, length, map, option_map, refl, slice_get, sym, take, ap, ◌∙◌, arith}
use Rattle.std.proofs.lemmas.List.{append-nil, take_all}
use Rattle.std.proofs.lemmas.List.Elements.{filter_more}
use Rattle.std.proofs.lemmas.Option.{slice_get-map}
use Rattle.std.specs.List.{filter}
use Rattle.std.specs.Option.{option_map_or}
use Rattle.snl_scope.specs.BelowLaws.{all_below_same, filter_below}
use Rattle.snl_scope.specs.Below.{all_below}
use Rattle.snl_scope.specs.Flags.{declares_flag, is_first, is_first_at, is_flag}
use Rattle.snl_scope.specs.Names.{Entry, entries}
use Rattle.snl_scope.specs.NameTables.{flag_stands, symbol_of}
use Rattle.snl_scope.proofs.clauses.flags.flags_of.Goals as goal
use Rattle.snl_scope.proofs.clauses.flags.flags_of.Goals.{then-flag_stands+in_ok-push, else-flag_stands}

-- a flag by what the tables have at its number
flag_at : (es : List Entry) (k : ℕ) → (flag_stands (map symbol_of es) k && is_first_at es k) ≡ is_flag es k
flag_at es k = ap (λ o. option_map_or (λ s. declares_flag s.variable) o false && is_first_at es k) (slice_get-map symbol_of es k) ∙ by (slice_get es k)
  where
    by : (o : Option Entry) → (option_map_or (λ s. declares_flag s.variable) (option_map symbol_of o) false && option_map_or (is_first es k) o false)
        ≡ option_map_or (λ e. declares_flag e.variable && is_first es k e) o false
    by None = refl
    by (Some e) = refl

pub loop-number-preserved : goal.loop-number-preserved
loop-number-preserved c =
    let stands = flag_stands c.args.tables.now.symbols.items in
    let numbers = c.as_slice-numbers.result.now in
    let i = c.loop-number.number-index in
    let number = get_or numbers i 0 in
    let here : List ℕ = filter stands (take i numbers) in
    let more : filter stands (take (i + 1) numbers) ≡ here ++ cond c.flag_stands.result (number ∷ []) [] =
    filter_more stands numbers i 0 (omega (arith, c.loop-number-test.true))
    ∙ ap (λ (b : Bool). here ++ cond b (number ∷ []) []) (sym (c.flag_stands.ensures ∙ ap (λ l. flag_stands l number) c.deref.ensures.value)) in
    elim c.if-flag_stands.branch [
      | then-flag_stands+in_ok-push w ↦
          ap (λ (v : Vec ℕ Global). v.items) w.flags-is ∙ w.in_ok-push.ensures.items ∙ ap (λ l. l ++ number ∷ []) c.loop-number.invariant
          ∙ sym (more ∙ ap (λ (b : Bool). here ++ cond b (number ∷ []) []) w.if-flag_stands.true)
      | else-flag_stands w ↦
          ap (λ (v : Vec ℕ Global). v.items) w.flags-is ∙ c.loop-number.invariant
          ∙ sym (more ∙ ap (λ (b : Bool). here ++ cond b (number ∷ []) []) w.if-flag_stands.false ∙ append-nil here)
    ]

pub returns : goal.returns
returns c = λ names ss f.
    let es = entries ss in
    let symbols = c.args.tables.now.symbols.items in
    c.loop-number.invariant ∙ ap (filter (flag_stands symbols)) (take_all c.loop-number.number-index c.as_slice-numbers.result.now (omega (arith, c.loop-number-test.false)) ∙ c.as_slice-numbers.ensures.value ∙ f.firsts) ∙ filter_below (flag_stands symbols) (is_first_at es) (length es)
    ∙ ap (λ l. all_below (λ k. flag_stands l k && is_first_at es k) (length es)) f.tabled.known
    ∙ all_below_same (λ k. flag_stands (map symbol_of es) k && is_first_at es k) (is_flag es) (length es) (λ k l. flag_at es k)
