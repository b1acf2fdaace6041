use Rattle.std.proofs.Common.{arith, ◌≡◌, ℕ, ◌+◌, ◌-◌, ◌≤◌, ◌++◌, List, length, take, drop, IfOk, IfSome, Ok, Err, Some, None, Option, Result, ap, ap₂, sym, subst, ◌∙◌}
use Rattle.std.proofs.lemmas.List.{drop-drop, drop-map, map-append, take-append-drop, take-map}
use Rattle.snl_scope.specs.Spoken.{AreEditedNames, KeepsViews}
use Rattle.snl_summary.specs.declared.summary.Outline.{Outline}
use Rattle.snl_kept.specs.declared.entries.Entry.{Entry}
use Rattle.snl_kept.specs.Checks.{outlines_in}
use Rattle.snl_kept.specs.Entries.{entries_of}
use Rattle.snl_kept.specs.ItemPlan.{outlines_kept}
use Rattle.snl_kept.proofs.InsideMade.{kept_outlines}
use Rattle.snl_kept.proofs.Members.{entries_count}
use Rattle.snl_kept.proofs.ways.whole.edited.edited_names.Goals as goal

pub overflow_sub-back : goal.overflow_sub-back
overflow_sub-back c =
    let old = c.args.editing.now.edit.now.old.now in
    omega (arith, c.len.ensures, ap (λ l. length l.values) c.requires.entries, ap length c.requires.editing.lists.entries, entries_count old, c.requires.editing.changes.items.order)

pub edited_between-requires-clause-order : goal.edited_between-requires-clause-order
edited_between-requires-clause-order c =
    let old = c.args.editing.now.edit.now.old.now in
    omega (arith, c.len.ensures, ap (λ l. length l.values) c.requires.entries, ap length c.requires.editing.lists.entries, entries_count old, c.requires.editing.changes.items.order)

-- what the old items said, with those that are replaced between the others
whole : (front n : ℕ) (values : List Entry) → front ≤ n
    → take front (outlines_kept values) ++ (outlines_kept (take (n - front) (drop front values)) ++ drop n (outlines_kept values)) ≡ outlines_kept values
whole front n values order =
    let ks : List Outline = outlines_kept values in
    let f = λ (e : Entry). e.summary.outline in
    let stop : front + (n - front) ≡ n = omega (arith, order) in
    ap₂ (λ (a b : List Outline). take front ks ++ (a ++ b))
    (sym (take-map f (n - front) (drop front values)) ∙ ap (take (n - front)) (sym (drop-map f front values)))
    (ap (λ (k : ℕ). drop k ks) (sym stop) ∙ sym (drop-drop (n - front) front ks))
    ∙ ap (λ (l : List Outline). take front ks ++ l) (take-append-drop (n - front) (drop front ks))
    ∙ take-append-drop front ks

-- and what the new ones say
with_made : (front n : ℕ) (made values : List Entry)
    → take front (outlines_kept values) ++ (outlines_kept made ++ drop n (outlines_kept values)) ≡ outlines_kept (take front values ++ (made ++ drop n values))
with_made front n made values =
    let f = λ (e : Entry). e.summary.outline in
    ap₂ (λ (a b : List Outline). a ++ (outlines_kept made ++ b)) (take-map f front values) (drop-map f n values)
    ∙ ap (λ (l : List Outline). outlines_kept (take front values) ++ l) (sym (map-append f made (drop n values)))
    ∙ sym (map-append f (take front values) (made ++ drop n values))

-- the views of the old text are kept in the new one
keeps : (old text : List ℕ) (kept : (text : List ℕ) → outlines_kept (entries_of text) ≡ outlines_in text) (front back n : ℕ) (made values : List Entry) → values ≡ entries_of old → n ≡ length values - back → front ≤ n
    → entries_of text ≡ take front (entries_of old) ++ (made ++ drop (length (entries_of old) - back) (entries_of old))
    → ((before olds news after : List Outline) (names : List (List ℕ)) → AreEditedNames olds news names → KeepsViews (before ++ (olds ++ after)) (before ++ (news ++ after)) names)
    → (names : List (List ℕ)) → AreEditedNames (outlines_kept (take (n - front) (drop front values))) (outlines_kept made) names → KeepsViews (outlines_in old) (outlines_in text) names
keeps old text kept front back n made values values_are n_is order are views names edited =
    let ks : List Outline = outlines_kept values in
    let was : take front ks ++ (outlines_kept (take (n - front) (drop front values)) ++ drop n ks) ≡ outlines_in old = whole front n values order ∙ ap outlines_kept values_are ∙ kept old in
    let now : take front ks ++ (outlines_kept made ++ drop n ks) ≡ outlines_in text =
    with_made front n made values
    ∙ ap (λ (k : ℕ). outlines_kept (take front values ++ (made ++ drop k values))) n_is
    ∙ ap (λ (l : List Entry). outlines_kept (take front l ++ (made ++ drop (length l - back) l))) values_are
    ∙ ap outlines_kept (sym are)
    ∙ kept text in
    subst (λ (l : List Outline). KeepsViews (outlines_in old) l names) now
    (subst (λ (l : List Outline). KeepsViews l (take front ks ++ (outlines_kept made ++ drop n ks)) names) was
    (views (take front ks) (outlines_kept (take (n - front) (drop front values))) (outlines_kept made) (drop n ks) names edited))

if_some : {E A : Type 0} (P Q : A → Type 0) → ((a : A) → P a → Q a) → (r : Result (Option A) E) → IfOk r (λ o. IfSome o P) → IfOk r (λ o. IfSome o Q)
if_some P Q f (Err e) h = h
if_some P Q f (Ok None) h = h
if_some P Q f (Ok (Some a)) h = f a h

pub returns : goal.returns
returns c =
    let old = c.args.editing.now.edit.now.old.now in
    let text = c.args.editing.now.edit.now.text.now in
    let items = c.args.editing.now.changes.now.items in
    let values = c.args.entries.now.values in
    let made = c.args.made.now in
    let n = c.len.result - items.kept_back in
    let kept = kept_outlines c.outcome_told.ensures.tree c.same_spelling_same_tree.ensures.by_spelling c.same_spelling_same_summary.ensures.summary_by_spelling c.same_spelling_same_summary.ensures.bytes_by_spelling in
    let order : items.kept_front ≤ n = omega (arith, c.len.ensures, ap (λ l. length l.values) c.requires.entries, ap length c.requires.editing.lists.entries, entries_count old, c.requires.editing.changes.items.order) in
    if_some (AreEditedNames (outlines_kept (take (n - items.kept_front) (drop items.kept_front values))) (outlines_kept made)) (KeepsViews (outlines_in old) (outlines_in text))
    (keeps old text kept items.kept_front items.kept_back n made values (ap (λ l. l.values) c.requires.entries ∙ c.requires.editing.lists.entries) (ap (λ (k : ℕ). k - items.kept_back) c.len.ensures) order c.requires.made c.unspoken_names.ensures.views)
    c.edited_between.result c.edited_between.ensures
