use Rattle.std.proofs.Common.{◌≡◌, ℕ, suc, ◌-◌, List, take, None, nat_lt, count_by, sym, ap, ◌∙◌, arith}
use Rattle.snl_lex.specs.declared.marker_list.Marker.{Marker}
use Rattle.snl_lex.specs.Lines.{last_of}
use Rattle.snl_lex.proofs.Halving.{filter_taken, last_taken}
use Rattle.snl_lex.proofs.marker_list.last_before.Goals as goal

pub returns-then-count-eq0 : goal.returns-then-count-eq0
returns-then-count-eq0 c =
    let ms : List Marker = c.args.markers.now in
    let none : count_by (λ (m : Marker). nat_lt m.end c.args.place) ms ≡ 0 = sym c.markers_before-count.ensures.count ∙ c.if-count-eq0.true in
    sym (ap last_of (filter_taken (λ (m : Marker). m.end) c.args.place ms c.requires) ∙ ap (λ (n : ℕ). last_of (take n ms)) none)

pub returns-else-count-eq0 : goal.returns-else-count-eq0
returns-else-count-eq0 c =
    let ms : List Marker = c.args.markers.now in
    let k : ℕ = c.markers_before-count.result - 1 in
    let some : count_by (λ (m : Marker). nat_lt m.end c.args.place) ms ≡ suc k = omega (arith, c.markers_before-count.ensures.count, c.if-count-eq0.false) in
    sym (ap last_of (filter_taken (λ (m : Marker). m.end) c.args.place ms c.requires) ∙ ap (λ (n : ℕ). last_of (take n ms)) some
    ∙ last_taken None ms k _ (omega (arith, c.markers_before-count.ensures.inside, c.if-count-eq0.false)))
