use Rattle.std.proofs.Common.{◌≡◌, ℕ, ◌++◌, ◌∷◌, [], Bool, List, None, true, false, ap, arith, is_ok, length, subst, sym, ◌∙◌}
use Rattle.std.specs.Prelude.{if◌then◌else◌, insert}
use Rattle.std.specs.List.{AllWithin, position}
use Rattle.std.specs.Str.{bytes_eq}
use Rattle.snl_names.specs.Keys.{comes_before, spelled}
use Rattle.snl_names.specs.NameBook.{IsBook}
use Rattle.snl_names.specs.declared.keys.Key.{Key}
use Rattle.snl_names.proofs.Books.{book_more}
use Rattle.snl_names.proofs.name_book.NameBook.add_new.Goals as goal

pub invariant_of-self-2 : goal.invariant_of-self-2
invariant_of-self-2 c =
    let names : List (List ℕ) = c.self.inside.names in
    let recent : List Key = c.self.inside.recent.items in
    let name : List ℕ = c.args.name.now in
    let at : ℕ = c.place-at.result in
    let key : Key = record { print = c.args.print; number = c.count-number.result } in
    let new : position (bytes_eq name) names ≡ None = ap (position (bytes_eq name)) (c.self.view_is ∙ c.in_ok-make_slots.ensures ∙ c.in_ok-settle.ensures) ∙ c.requires.new in
    let seen : c.deref.result.now ≡ recent = c.deref.ensures.value ∙ c.in_ok-reserve.ensures.items in
    let stored : c.insert.new.self.items ≡ insert c.reserve.new.self.items at key =
    c.insert.ensures.items ∙ ap (λ (b : Bool). if b then insert c.reserve.new.self.items at key else c.reserve.new.self.items) (ap is_ok c.unwrap.ensures) in
    subst (λ (ns : List (List ℕ)). IsBook ns c.self.inside.sorted.items c.insert.new.self.items) (sym c.in_ok-push.ensures.ok)
    (subst (λ (ks : List Key). IsBook (names ++ name ∷ []) c.self.inside.sorted.items ks) (sym (stored ∙ ap (λ (ks : List Key). insert ks at key) c.in_ok-reserve.ensures.items))
    (book_more names c.self.inside.sorted.items recent name at key c.self.invariant new c.requires.print c.count-number.ensures
    (omega (arith, c.place-at.ensures.within, ap length seen))
    (subst (λ (ks : List Key). AllWithin (λ n. comes_before n name ≡ true) (spelled names ks) 0 at) seen c.place-at.ensures.before)
    (subst (λ (ks : List Key). AllWithin (λ n. comes_before n name ≡ false) (spelled names ks) at (length ks)) seen c.place-at.ensures.rest)))
