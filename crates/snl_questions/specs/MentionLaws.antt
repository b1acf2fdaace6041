-- What holds of each reference of what is at a place, by the mention that it is.
use Rattle.std.proofs.Common.{◌≡◌, ℕ, ◌==◌, Bool, true, false, cond, List, [], ◌∷◌, Option, None, Some, option_map, refl, ap₂, subst}
use Rattle.std.proofs.lemmas.Bool.{eqb-true}
use Rattle.std.specs.List.{AllByRecursion as Each, cons_option, filter_map}
use Rattle.snl_facts.specs.Booleans.{and_first, and_second}
use Rattle.snl_tables.specs.declared.rows.Span.{Span}
use Rattle.snl_kept.specs.Program.{item_tokens}
use Rattle.snl_questions.specs.declared.meanings.items.TokenPlace.{TokenPlace}
use Rattle.snl_questions.specs.declared.mentions.mention.Mention.{Mention}
use Rattle.snl_questions.specs.declared.mentions.mention.Reference.{Reference}
use Rattle.snl_questions.specs.Items.{span_at}
use Rattle.snl_questions.specs.Mentions.{mentions_in, reference_at, reference_by, reference_to, references_of, same_place}

-- what comes of the elements of a list
each_made : {X Y : Type 0} (h : X → Option Y) (P : X → Type 0) (Q : Y → Type 0) →
    ((x : X) (y : Y) → P x → h x ≡ Some y → Q y) → (xs : List X) → Each P xs →
    Each Q (filter_map h xs)
each_made h P Q step [] all = tt
each_made {Y = Y} h P Q step (x ∷ xs) all = by (h x) refl (each_made h P Q step xs all.1)
  where
    by : (o : Option Y) → h x ≡ o → Each Q (filter_map h xs) →
        Each Q (cons_option o (filter_map h xs))
    by None is rest = rest
    by (Some y) is rest = (step x y all.0 is, rest)

chosen : {X : Type 0} (b : Bool) (o : Option X) (x : X) → cond b o None ≡ Some x →
    (b ≡ true) × (o ≡ Some x)
chosen true o x e = (refl, e)
chosen false o x e = absurd cc

same_places : (p q : TokenPlace) → same_place p q ≡ true → p ≡ q
same_places p q e =
    ap₂ (λ (i n : ℕ). let place : TokenPlace = record { item = i; token = n } in place)
    (eqb-true p.item q.item (and_first (p.item == q.item) (p.token == q.token) e))
    (eqb-true p.token q.token (and_second (p.item == q.item) (p.token == q.token) e))

pub each_reference : (text : List ℕ) (q : TokenPlace) (P : Mention → Type 0)
    (Q : Reference → Type 0) → ((m : Mention) (s : Span) → P m → m.means ≡ q →
    span_at (item_tokens text) m.at.item m.at.token ≡ Some s → Q (reference_by m s)) →
    Each P (mentions_in text) → Each Q (references_of text q)
each_reference text q P Q step all =
    each_made (reference_to (item_tokens text) q) P Q one (mentions_in text) all
  where
    by_span : (m : Mention) (r : Reference) → P m → m.means ≡ q → (o : Option Span) →
        span_at (item_tokens text) m.at.item m.at.token ≡ o →
        option_map (reference_by m) o ≡ Some r → Q r
    by_span m r holds means None at h = absurd cc
    by_span m r holds means (Some s) at h =
        let is : reference_by m s ≡ r = cc in subst Q is (step m s holds means at)

    one : (m : Mention) (r : Reference) → P m → reference_to (item_tokens text) q m ≡ Some r → Q r
    one m r holds e =
        let parts = chosen (same_place m.means q) (reference_at (item_tokens text) m) r e in
        by_span m r holds (same_places m.means q parts.0)
        (span_at (item_tokens text) m.at.item m.at.token) refl parts.1
