-- One more replacement: what follows it, what is made of the text, and where it stops there.
use Rattle.std.proofs.Common.{◌≡◌, ℕ, ◌+◌, ◌-◌, ◌<◌, ◌≤◌, List, [], ◌∷◌, ◌++◌, drop, length, get_or, take, sym, ap, subst, ◌∙◌, arith, append_assoc, length-drop}
use Rattle.std.proofs.lemmas.List.{drop_more, length-take-le}
use Rattle.snl_alike.specs.declared.replacement.Replacement.{Replacement}
use Rattle.snl_alike.specs.Edits.{Rise, edit_of, edited_from, edits_of, new_stop, new_stops}

pub rise_more : (base end : ℕ) (rs : List Replacement) (i : ℕ) (d : Replacement) → i < length rs →
    Rise base end (edits_of (drop i rs)) → (base ≤ (get_or rs i d).start) ×
    ((get_or rs i d).start ≤ (get_or rs i d).stop) ×
    Rise (get_or rs i d).stop end (edits_of (drop (i + 1) rs))
rise_more base end rs i d inside rise =
    subst (λ (l : List Replacement). Rise base end (edits_of l)) (drop_more rs i d inside) rise

pub text_more : (text : List ℕ) (base : ℕ) (rs : List Replacement) (i : ℕ) (d : Replacement)
    (made all : List ℕ) → i < length rs →
    made ++ edited_from text base (edits_of (drop i rs)) ≡ all →
    ((made ++ take ((get_or rs i d).start - base) (drop base text)) ++ (get_or rs i d).new.now)
    ++ edited_from text (get_or rs i d).stop (edits_of (drop (i + 1) rs)) ≡ all
text_more text base rs i d made all inside so_far =
    let r = get_or rs i d in
    let kept : List ℕ = take (r.start - base) (drop base text) in
    let rest : List ℕ = edited_from text r.stop (edits_of (drop (i + 1) rs)) in
    append_assoc (made ++ kept) r.new.now rest
    ∙ append_assoc made kept (r.new.now ++ rest)
    ∙ ap (λ (l : List Replacement). made ++ edited_from text base (edits_of l))
    (sym (drop_more rs i d inside))
    ∙ so_far

pub stops_more : (base made : ℕ) (rs : List Replacement) (i : ℕ) (d : Replacement) (stop : ℕ)
    (stops all : List ℕ) → i < length rs → stop ≡ new_stop base made (edit_of (get_or rs i d)) →
    stops ++ new_stops base made (edits_of (drop i rs)) ≡ all →
    (stops ++ stop ∷ []) ++ new_stops (get_or rs i d).stop stop (edits_of (drop (i + 1) rs)) ≡ all
stops_more base made rs i d stop stops all inside is so_far =
    let r = get_or rs i d in
    append_assoc stops (stop ∷ []) (new_stops r.stop stop (edits_of (drop (i + 1) rs)))
    ∙ ap (λ (n : ℕ). stops ++ (n ∷ new_stops r.stop n (edits_of (drop (i + 1) rs)))) is
    ∙ ap (λ (l : List Replacement). stops ++ new_stops base made (edits_of l))
    (sym (drop_more rs i d inside))
    ∙ so_far

pub length_between : (text : List ℕ) (base start : ℕ) → start ≤ length text →
    length (take (start - base) (drop base text)) ≡ start - base
length_between text base start inside =
    let left : start - base ≤ length (drop base text) =
    omega (arith, inside, length-drop base text) in
    length-take-le (start - base) (drop base text) left
