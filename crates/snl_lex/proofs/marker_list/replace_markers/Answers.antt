use Rattle.std.proofs.Common.{◌≡◌, ℕ, ◌+◌, ◌≤◌, ◌++◌, List, length, take, drop, map, nat_lt, count_by, arith, sym, ap, ◌∙◌, subst, append_assoc}
use Rattle.std.specs.Prelude.{All}
use Rattle.snl_lex.specs.declared.marker_list.Marker.{Marker}
use Rattle.snl_lex.specs.LineList.{IsShort, moved_marker}
use Rattle.snl_lex.proofs.Halving.{count_more}
use Rattle.snl_lex.proofs.MarkerLists.{short_after, split_there}
use Rattle.snl_lex.proofs.marker_list.replace_markers.Goals as goal

pub replace-requires-clause-range : goal.replace-requires-clause-range
replace-requires-clause-range c =
    let ms : List Marker = c.args.markers.now.items in
    let count : ℕ → List Marker → ℕ = λ (n : ℕ) (l : List Marker). count_by (λ m. nat_lt m.end n) l in
    let front : c.markers_before-front.result ≡ count c.args.start ms = c.markers_before-front.ensures.count ∙ ap (count c.args.start) c.deref.ensures.value in
    let back : c.markers_before-back.result ≡ count (c.args.kept_from + 1) ms = c.markers_before-back.ensures.count ∙ ap (count (c.args.kept_from + 1)) c.deref-2.ensures.value in
    omega (arith, front, back, count_more (λ (m : Marker). m.end) c.args.start (c.args.kept_from + 1) ms (omega (arith, c.requires.order)))

pub move_from-requires-clause-short : goal.move_from-requires-clause-short
move_from-requires-clause-short c =
    let ms : List Marker = c.args.markers.now.items in
    let made : List Marker = c.args.made.now in
    let front : ℕ = c.markers_before-front.result in
    let back : ℕ = c.markers_before-back.result in
    let inside : front ≤ length ms = omega (arith, c.markers_before-front.ensures.inside, ap length c.deref.ensures.value) in
    let rest : drop (front + length made) c.replace.new.list.items ≡ drop back ms = ap (drop (front + length made)) c.replace.ensures ∙ (split_there ms made front back inside).1 in
    subst (All IsShort) (sym rest) (short_after ms back c.requires.short)

pub returns : goal.returns
returns c =
    let ms : List Marker = c.args.markers.now.items in
    let made : List Marker = c.args.made.now in
    let f : ℕ = c.markers_before-front.result in
    let b : ℕ = c.markers_before-back.result in
    let count : ℕ → List Marker → ℕ = λ (n : ℕ) (l : List Marker). count_by (λ m. nat_lt m.end n) l in
    let front : f ≡ count c.args.start ms = c.markers_before-front.ensures.count ∙ ap (count c.args.start) c.deref.ensures.value in
    let back : b ≡ count (c.args.kept_from + 1) ms = c.markers_before-back.ensures.count ∙ ap (count (c.args.kept_from + 1)) c.deref-2.ensures.value in
    let inside : f ≤ length ms = omega (arith, c.markers_before-front.ensures.inside, ap length c.deref.ensures.value) in
    let parts = split_there ms made f b inside in
    let M : List Marker → List Marker = map (moved_marker c.args.old_stop c.args.new_stop) in
    c.move_from.ensures
    ∙ ap (λ (l : List Marker). take (f + length made) l ++ M (drop (f + length made) l)) c.replace.ensures
    ∙ ap (λ (l : List Marker). l ++ M (drop (f + length made) (take f ms ++ (made ++ drop b ms)))) parts.0
    ∙ ap (λ (l : List Marker). (take f ms ++ made) ++ M l) parts.1
    ∙ append_assoc (take f ms) made (M (drop b ms))
    ∙ ap (λ (n : ℕ). take n ms ++ (made ++ M (drop b ms))) front
    ∙ ap (λ (n : ℕ). take (count c.args.start ms) ms ++ (made ++ M (drop n ms))) back
