use Rattle.std.proofs.Common.{◌≡◌, ◌<◌, ◌≤◌, ◌*◌, ◌-◌, ℕ, List, false, true, sym, subst, arith}
use Rattle.std.proofs.Common.{length, take, drop, get_or, sum_by, length-take}
use Rattle.std.proofs.lemmas.List.Sums.{sum_by-le}
use Rattle.snl_lex.specs.LineList.{line_ends}
use Rattle.snl_place.specs.declared.places.Place.{Place}
use Rattle.snl_place.specs.Places.{units}
use Rattle.snl_lex.specs.LineLaws.{below, ends_order}
use Rattle.snl_place.proofs.ByLines.{went_on}
use Rattle.snl_place.proofs.Ended.{ended_counts}
use Rattle.snl_place.proofs.LineEnds.{IsEnded}
use Rattle.snl_place.proofs.Walks.{few_characters, few_units}
use Rattle.snl_place.proofs.line_places.place_from.Goals as goal

-- Before the earlier offset and after it, each byte counts at most 4.
pub overflow_add-result : goal.overflow_add-result
overflow_add-result c =
    let e = c.args.encoding in
    let from : ℕ = c.args.earlier in
    let text : List ℕ = c.args.text.now in
    let before : List ℕ = take from text in
    let few : c.args.earlier_place.character ≤ 4 * length before =
    subst (λ (p : Place). p.character ≤ 4 * length before) (sym c.requires.place)
    (few_characters e before) in
    let size = length-take from text in
    let part : List ℕ = take (c.args.offset - from) (drop from text) in
    let part_size = length-take (c.args.offset - from) (drop from text) in
    let most : sum_by (units e) part ≤ length part * 4 =
    sum_by-le (units e) 4 part (λ k d lt. few_units e (get_or part k d)) in
    let more : c.units_in-more.result ≤ length part * 4 =
    subst (λ (n : ℕ). n ≤ length part * 4) (sym c.units_in-more.ensures) most in
    omega (arith, few, size, part_size, more, c.requires.small, c.requires.inside)

pub returns : goal.returns
returns c =
    let text : List ℕ = c.args.text.now in
    let line : ℕ = c.args.earlier_place.line in
    let offset : ℕ = c.args.offset in
    let none : IsEnded (line_ends text) line offset → ⊥ = λ h.
    let counted = ended_counts (line_ends text) line offset (ends_order text) h.0 h.1 in
    let counted_here : line < below offset c.args.ends.now =
    subst (λ (es : List ℕ). line < below offset es) (sym c.requires.lines) counted in
    let no : false ≡ true = c.if-is_ended.ensures.1 counted_here in
    cc in
    went_on c.args.encoding text c.args.earlier c.args.offset c.args.earlier_place
    c.units_in-more.result c.if-offset-earlier.false c.requires.place none c.units_in-more.ensures
