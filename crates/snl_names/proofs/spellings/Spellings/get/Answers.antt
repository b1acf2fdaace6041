use Rattle.std.proofs.Common.{◌≡◌, ℕ, ◌-◌, ◌<◌, ◌∙◌, ap, arith, drop, get_or, length, sym, take, List, Some}
use Rattle.std.specs.Prelude.{slice_get}
use Rattle.std.proofs.lemmas.List.{get_or_default}
use Rattle.snl_cut.specs.Cut.{last_end}
use Rattle.snl_names.proofs.Ends.{IsMember, member_at, same_count}
use Rattle.snl_names.proofs.spellings.Spellings.get.Goals as goal

pub start_of-start-requires : goal.start_of-start-requires
start_of-start-requires c =
    omega (arith, c.deref.ensures.len, c.self.inside.ends.ok, same_count c.self.inside.bytes.items c.self.inside.ends.items c.args.self.now c.self.view_is)

pub index-requires : goal.index-requires
index-requires c =
    omega (arith, c.self.inside.ends.ok, same_count c.self.inside.bytes.items c.self.inside.ends.items c.args.self.now c.self.view_is)

pub slice_bounds-result-count : goal.slice_bounds-result-count
slice_bounds-result-count c =
    let bytes : List ℕ = c.self.inside.bytes.items in
    let ends : List ℕ = c.self.inside.ends.items in
    let there : c.args.number < length ends = omega (arith, same_count bytes ends c.args.self.now c.self.view_is) in
    let start : c.start_of-start.result ≡ last_end 0 (take c.args.number ends) = c.start_of-start.ensures ∙ ap (λ (es : List ℕ). last_end 0 (take c.args.number es)) c.deref.ensures.value in
    let end : c.index.result.now ≡ get_or ends c.args.number 0 = c.index.ensures ∙ get_or_default ends c.args.number c.index.result.now 0 there in
    let it : IsMember bytes ends c.args.number c.start_of-start.result c.index.result.now = member_at bytes ends c.args.number c.start_of-start.result c.index.result.now c.self.invariant there start end in
    it.first

pub slice_bounds-result-start : goal.slice_bounds-result-start
slice_bounds-result-start c = slice_bounds-result-count c

pub slice_bounds-result-end : goal.slice_bounds-result-end
slice_bounds-result-end c =
    let bytes : List ℕ = c.self.inside.bytes.items in
    let ends : List ℕ = c.self.inside.ends.items in
    let there : c.args.number < length ends = omega (arith, same_count bytes ends c.args.self.now c.self.view_is) in
    let start : c.start_of-start.result ≡ last_end 0 (take c.args.number ends) = c.start_of-start.ensures ∙ ap (λ (es : List ℕ). last_end 0 (take c.args.number es)) c.deref.ensures.value in
    let end : c.index.result.now ≡ get_or ends c.args.number 0 = c.index.ensures ∙ get_or_default ends c.args.number c.index.result.now 0 there in
    let it : IsMember bytes ends c.args.number c.start_of-start.result c.index.result.now = member_at bytes ends c.args.number c.start_of-start.result c.index.result.now c.self.invariant there start end in
    omega (arith, it.last, c.deref-2.ensures.len, c.self.inside.bytes.ok)

pub returns : goal.returns
returns c =
    let bytes : List ℕ = c.self.inside.bytes.items in
    let ends : List ℕ = c.self.inside.ends.items in
    let there : c.args.number < length ends = omega (arith, same_count bytes ends c.args.self.now c.self.view_is) in
    let start : c.start_of-start.result ≡ last_end 0 (take c.args.number ends) = c.start_of-start.ensures ∙ ap (λ (es : List ℕ). last_end 0 (take c.args.number es)) c.deref.ensures.value in
    let end : c.index.result.now ≡ get_or ends c.args.number 0 = c.index.ensures ∙ get_or_default ends c.args.number c.index.result.now 0 there in
    let it : IsMember bytes ends c.args.number c.start_of-start.result c.index.result.now = member_at bytes ends c.args.number c.start_of-start.result c.index.result.now c.self.invariant there start end in
    ap (λ (ns : List (List ℕ)). slice_get ns c.args.number) (sym c.self.view_is)
    ∙ it.value
    ∙ ap (λ (bs : List ℕ). Some (take (c.index.result.now - c.start_of-start.result) (drop c.start_of-start.result bs))) (sym c.deref-2.ensures.value)
