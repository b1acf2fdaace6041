use Rattle.std.proofs.Common.{arith, ◌≡◌, ℕ, ◌+◌, ◌-◌, ◌≤◌, ◌||◌, ◌++◌, Bool, true, false, nat_lt, if◌then◌else◌, List, length, take, drop, Some, None, refl, ap, ap₂, sym, subst, ◌∙◌, length-append, length-drop}
use Rattle.std.proofs.lemmas.Bool.{ltb-false}
use Rattle.std.proofs.lemmas.List.{length-take-le}
use Rattle.snl_items.specs.Fresh.{fresh_items_of, fresh_pieces_of}
use Rattle.snl_lex.specs.Edit.{Edit}
use Rattle.snl_session.specs.declared.edits.Refused.TheVariants.{Range, Size}
use Rattle.snl_session.specs.Edit.{limit, refusal_of, spliced}
use Rattle.snl_kept.specs.Kept.{IsKept}
use Rattle.snl_kept.specs.Stirred.{stirred_of}
use Rattle.snl_session.proofs.sessions.Session.replace.Goals as goal

-- an edit that isn't refused gives a text that isn't too long
allowed : (a b c : Bool) → (if a || b then Some Range else if c then Some Size else None) ≡ None → (a ≡ false) × (b ≡ false) × (c ≡ false)
allowed false false false h = (refl, refl, refl)
allowed true b c h = absurd cc
allowed false true c h = absurd cc
allowed false false true h = absurd cc

short_of : (text new : List ℕ) (start stop : ℕ) → refusal_of text start stop (length new) ≡ None → length (spliced text start stop new) ≤ limit
short_of text new start stop h =
    let tests = allowed (nat_lt stop start) (nat_lt (length text) stop) (nat_lt limit (length text - (stop - start) + length new)) h in
    let order : start ≤ stop = ltb-false stop start tests.0 in
    let inside : stop ≤ length text = ltb-false (length text) stop tests.1 in
    let few : length text - (stop - start) + length new ≤ limit = ltb-false limit (length text - (stop - start) + length new) tests.2 in
    omega (arith, few, order, inside, length-append (take start text ++ new) (drop stop text), length-append (take start text) new, length-take-le start text (omega (arith, order, inside)), length-drop stop text)

pub invariant_of-self-2 : goal.invariant_of-self-2
invariant_of-self-2 c =
    let text = c.in_ok-text.text.items in
    let text_is : text ≡ spliced c.args.self.now c.args.start c.args.stop c.args.new.now =
    c.in_ok-text.ensures ∙ ap (λ (t : List ℕ). spliced t c.args.start c.args.stop c.args.new.now) (c.deref.ensures.value ∙ c.self.view_is) in
    record {
      short = subst (λ (t : List ℕ). length t ≤ limit) (sym text_is) (short_of c.args.self.now c.args.new.now c.args.start c.args.stop c.requires);
      kept = subst (λ (t : List ℕ). IsKept t c.edit.new.self) c.deref-3.ensures.value c.in_ok-work.ensures.kept;
    }

pub returns : goal.returns
returns c =
    let text_is : c.in_ok-text.text.items ≡ spliced c.args.self.now c.args.start c.args.stop c.args.new.now =
    c.in_ok-text.ensures ∙ ap (λ (t : List ℕ). spliced t c.args.start c.args.stop c.args.new.now) (c.deref.ensures.value ∙ c.self.view_is) in
    let old_is : c.deref-2.result.now ≡ c.args.self.now = c.deref-2.ensures.value ∙ c.self.view_is in
    let new_is : c.deref-3.result.now ≡ spliced c.args.self.now c.args.start c.args.stop c.args.new.now = c.deref-3.ensures.value ∙ text_is in
    let edit : List ℕ → List ℕ → Edit =
    λ (was is : List ℕ). record { old = was; text = is; start = c.args.start; old_stop = c.args.stop; new_stop = c.args.start + length c.args.new.now } in
    let cost = c.in_ok-work.ensures.cost in
    record {
      ok = text_is;
      lexed = cost.lexed ∙ ap₂ (λ (old text : List ℕ). fresh_pieces_of (edit old text)) old_is new_is;
      parsed = cost.parsed ∙ ap₂ (λ (old text : List ℕ). length (fresh_items_of (edit old text))) old_is new_is;
      checked = cost.checked ∙ ap₂ (λ (old text : List ℕ). stirred_of (edit old text)) old_is new_is;
      err = tt;
    }
