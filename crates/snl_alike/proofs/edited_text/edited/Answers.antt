use Rattle.std.proofs.Common.{◌≡◌, ℕ, ◌+◌, ◌-◌, ◌<◌, ◌≤◌, List, [], ◌∷◌, ◌++◌, drop, get_or, length, take, vec_len, ap, ◌∙◌, arith}
use Rattle.snl_alike.specs.declared.replacement.Replacement.{Replacement}
use Rattle.snl_alike.specs.Edits.{edit_of, edited_from, edits_of, new_stop, new_stops, with_edits}
use Rattle.snl_alike.proofs.Rising.{within}
use Rattle.snl_alike.proofs.Steps.{length_between, rise_more, stops_more, text_more}
use Rattle.snl_alike.proofs.edited_text.edited.Goals as goal

-- what the list's reads fall back to, which they never do
abbrev nothing : Replacement
nothing = record { start = 0; stop = 0; new = record { ref_ptr = (0, 0); now = [] } }

pub bytes_between-requires-clause-inside : goal.bytes_between-requires-clause-inside
bytes_between-requires-clause-inside c =
    let rs = c.args.replacements.now in
    let i = c.loop-replacement.replacement-index in
    let more = rise_more c.loop-replacement.base (length c.args.old.now) rs i nothing
    c.loop-replacement-test.true c.loop-replacement.invariant.rise in
    omega (
      arith,
      more.1,
      within (get_or rs i nothing).stop (length c.args.old.now)
          (edits_of (drop (i + 1) rs)) more.2,
    )

pub loop-replacement-preserved : goal.loop-replacement-preserved
loop-replacement-preserved c =
    let rs = c.args.replacements.now in
    let old = c.args.old.now in
    let i = c.loop-replacement.replacement-index in
    let base = c.loop-replacement.base in
    let made = c.loop-replacement.text in
    let r = get_or rs i nothing in
    let inside : i < length rs = c.loop-replacement-test.true in
    let more = rise_more base (length old) rs i nothing inside c.loop-replacement.invariant.rise in
    let start_inside : r.start ≤ length old =
    omega (arith, more.1, within r.stop (length old) (edits_of (drop (i + 1) rs)) more.2) in
    let kept : length c.bytes_between.result.now ≡ r.start - base =
    ap (λ (l : List ℕ). length l) c.bytes_between.ensures
    ∙ length_between old base r.start start_inside in
    let text : c.extend_from_slice-in-loop-replacement.new.self.items
    ≡ (made.items ++ take (r.start - base) (drop base old)) ++ r.new.now =
    c.in_ok-extend_from_slice-2.ensures.items
    ∙ ap (λ (l : List ℕ). l ++ r.new.now) (c.in_ok-extend_from_slice.ensures.items
    ∙ ap (λ (l : List ℕ). made.items ++ l) c.bytes_between.ensures) in
    let len : vec_len c.extend_from_slice-in-loop-replacement.new.self
    ≡ new_stop base (vec_len made) (edit_of r) =
    omega (
      arith,
      kept,
      c.in_ok-extend_from_slice.ensures.len,
      c.in_ok-extend_from_slice-2.ensures.len,
    ) in
    record {
      rise = more.2;
      text = ap (λ (l : List ℕ). l ++ edited_from old r.stop (edits_of (drop (i + 1) rs))) text
          ∙ text_more old base rs i nothing made.items (with_edits old (edits_of rs)) inside
          c.loop-replacement.invariant.text;
      stops = ap (λ (l : List ℕ). l ++ new_stops r.stop
          (vec_len c.extend_from_slice-in-loop-replacement.new.self) (edits_of (drop (i + 1) rs)))
          (c.in_ok-push.ensures.items
          ∙ ap (λ (n : ℕ). c.loop-replacement.stops.items ++ n ∷ []) c.len.ensures)
          ∙ stops_more base (vec_len made) rs i nothing
          (vec_len c.extend_from_slice-in-loop-replacement.new.self) c.loop-replacement.stops.items
          (new_stops 0 0 (edits_of rs)) inside len c.loop-replacement.invariant.stops;
    }
