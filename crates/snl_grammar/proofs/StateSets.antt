-- Where an item ends that begins with `ss`.
use Rattle.std.proofs.Common.{◌≡◌, ℕ, Bool, true, false, not, ◌&&◌, List, [], ◌∷◌, length, Some, refl, ap, ◌∙◌}
use Rattle.std.specs.List.{slice_get}
use Rattle.snl_grammar.specs.declared.marks.Mark.{Mark}
use Rattle.snl_grammar.specs.declared.marks.Mark.TheVariants as mark
use Rattle.snl_grammar.specs.Items.{ends_after, is_name, is_open, item, some_is}
use Rattle.snl_grammar.specs.ItemLaws.{least_here, least_next}

-- after `ss` there is a name
on_one : (k : List Mark) → some_is is_name (slice_get k 0) ≡ true → ends_after (mark.Ss ∷ k) 1 ≡ false
on_one [] h = cc
on_one (y ∷ k) h = ap (λ (b : Bool). not (b && true)) h

-- after `ss NAME` there is no brace
ends_two : (k : List Mark) → some_is is_name (slice_get k 0) ≡ true → some_is is_open (slice_get k 1) ≡ false → ends_after (mark.Ss ∷ k) 2 ≡ true
ends_two [] h o = cc
ends_two (y ∷ []) h o = refl
ends_two (y ∷ z ∷ k) h o = ap (λ (b : Bool). not (b && (is_open z && true))) h ∙ ap (λ (b : Bool). not (b && true)) o

on_two : (k : List Mark) → some_is is_name (slice_get k 0) ≡ true → some_is is_open (slice_get k 1) ≡ true → ends_after (mark.Ss ∷ k) 2 ≡ false
on_two [] h o = cc
on_two (y ∷ []) h o = cc
on_two (y ∷ z ∷ k) h o = ap (λ (b : Bool). not (b && (is_open z && true))) h ∙ ap (λ (b : Bool). not (b && true)) o

ends_three : (k : List Mark) → some_is is_name (slice_get k 0) ≡ true → some_is is_open (slice_get k 1) ≡ true → ends_after (mark.Ss ∷ k) 3 ≡ true
ends_three [] h o = cc
ends_three (y ∷ []) h o = cc
ends_three (y ∷ z ∷ []) h o = refl
ends_three (y ∷ z ∷ w ∷ k) h o = ap (λ (b : Bool). not (b && (is_open z && false))) h ∙ ap (λ (b : Bool). not (b && false)) o

state_set_two : (k : List Mark) → some_is is_name (slice_get k 0) ≡ true → some_is is_open (slice_get k 1) ≡ false → item (mark.Ss ∷ k) ≡ 2
state_set_two [] h o = cc
state_set_two (y ∷ k) h o =
    let p : ℕ → Bool = ends_after (mark.Ss ∷ y ∷ k) in
    least_next p 1 (length (y ∷ k)) (on_one (y ∷ k) h) ∙ least_here p 2 (length k) (ends_two (y ∷ k) h o)

state_set_three : (k : List Mark) → some_is is_name (slice_get k 0) ≡ true → some_is is_open (slice_get k 1) ≡ true → item (mark.Ss ∷ k) ≡ 3
state_set_three [] h o = cc
state_set_three (y ∷ []) h o = cc
state_set_three (y ∷ z ∷ k) h o =
    let p : ℕ → Bool = ends_after (mark.Ss ∷ y ∷ z ∷ k) in
    least_next p 1 (length (y ∷ z ∷ k)) (on_one (y ∷ z ∷ k) h)
    ∙ least_next p 2 (length (z ∷ k)) (on_two (y ∷ z ∷ k) h o)
    ∙ least_here p 3 (length k) (ends_three (y ∷ z ∷ k) h o)

pub state_set_named : (u : List Mark) → slice_get u 0 ≡ Some mark.Ss → some_is is_name (slice_get u 1) ≡ true → some_is is_open (slice_get u 2) ≡ false → item u ≡ 2
state_set_named [] f h o = cc
state_set_named (x ∷ k) f h o = let same : x ≡ mark.Ss = cc in ap (λ (y : Mark). item (y ∷ k)) same ∙ state_set_two k h o

pub state_set_whole : (u : List Mark) → slice_get u 0 ≡ Some mark.Ss → some_is is_name (slice_get u 1) ≡ true → some_is is_open (slice_get u 2) ≡ true → item u ≡ 3
state_set_whole [] f h o = cc
state_set_whole (x ∷ k) f h o = let same : x ≡ mark.Ss = cc in ap (λ (y : Mark). item (y ∷ k)) same ∙ state_set_three k h o
