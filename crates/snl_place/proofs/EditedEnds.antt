-- The line ends of a text that has other bytes in the place of some, and where LFs are among bytes.
use Rattle.std.proofs.Common.{◌≡◌, ℕ, ◌+◌, ◌≤◌}
use Rattle.std.proofs.Common.{List, ◌++◌, length, take, drop, nat_lt}
use Rattle.std.proofs.Common.{sym, ap, ap₂, ◌∙◌, arith}
use Rattle.std.proofs.Math.Seq.{take-append_seam, drop-append_seam}
use Rattle.std.proofs.lemmas.List.{drop_at, length-take-le, take-append-le}
use Rattle.std.proofs.lemmas.List.{take-take}
use Rattle.snl_lex.specs.LineList.{line_ends, line_ends_from}
use Rattle.snl_lists.specs.Moves.{moved, replaced, replaced_and_moved}
use Rattle.snl_facts.specs.Counts.{count_parts}
use Rattle.snl_lex.specs.LineLaws.{below, ends_climb, below_none, ends_append, all_below, ends_moved, two_parts}

-- ---- line ends of parts

counted_front : (text : List ℕ) (offset : ℕ) → offset ≤ length text
    → below offset (line_ends text) ≡ length (line_ends_from 0 (take offset text))
counted_front text offset le =
    let front : List ℕ = line_ends_from 0 (take offset text) in
    let back : List ℕ = line_ends_from offset (drop offset text) in
    let size : 0 + length (take offset text) ≤ offset =
    omega (arith, length-take-le offset text le) in
    ap (below offset) (two_parts text offset le)
    ∙ count_parts (λ e. nat_lt e offset) front back
    (all_below offset 0 (take offset text) size)
    (below_none offset offset back (ends_climb offset (drop offset text)) (omega arith))

ends_front : (text : List ℕ) (offset : ℕ) → offset ≤ length text
    → take (below offset (line_ends text)) (line_ends text) ≡ line_ends_from 0 (take offset text)
ends_front text offset le =
    let front : List ℕ = line_ends_from 0 (take offset text) in
    let back : List ℕ = line_ends_from offset (drop offset text) in
    ap₂ (λ (n : ℕ) (l : List ℕ). take n l) (counted_front text offset le) (two_parts text offset le)
    ∙ take-append_seam front back

ends_back : (text : List ℕ) (offset : ℕ) → offset ≤ length text
    → drop (below offset (line_ends text)) (line_ends text)
    ≡ line_ends_from offset (drop offset text)
ends_back text offset le =
    let front : List ℕ = line_ends_from 0 (take offset text) in
    let back : List ℕ = line_ends_from offset (drop offset text) in
    ap₂ (λ (n : ℕ) (l : List ℕ). drop n l) (counted_front text offset le) (two_parts text offset le)
    ∙ drop-append_seam front back

-- ---- other bytes in the place of some

pub edited_ends : (text new : List ℕ) (start stop : ℕ) → start ≤ stop → stop ≤ length text
    → replaced_and_moved (line_ends text) (below start (line_ends text))
    (below stop (line_ends text)) (line_ends_from start new) stop (start + length new)
    ≡ line_ends (replaced text start stop new)
edited_ends text new start stop order inside =
    let es : List ℕ = line_ends text in
    let c : ℕ = start + length new in
    let rest : List ℕ = drop stop text in
    let first : List ℕ = line_ends_from 0 (take start text) in
    let made : List ℕ = line_ends_from start new in
    let in_start : start ≤ length text = omega (arith, order, inside) in
    let head : take (below start es) es ≡ first = ends_front text start in_start in
    let zero_stop : stop + 0 ≡ stop = omega arith in
    let zero_c : c + 0 ≡ c = omega arith in
    let moves : line_ends_from c rest ≡ moved stop c (line_ends_from stop rest) =
    ap (λ (n : ℕ). line_ends_from n rest) (sym zero_c) ∙ ends_moved stop c 0 rest
    ∙ ap (λ (n : ℕ). moved stop c (line_ends_from n rest)) zero_stop in
    let tail : moved stop c (drop (below stop es) es) ≡ line_ends_from c rest =
    ap (moved stop c) (ends_back text stop inside) ∙ sym moves in
    let size : 0 + length (take start text) ≡ start =
    omega (arith, length-take-le start text in_start) in
    let whole : line_ends (replaced text start stop new)
    ≡ first ++ (made ++ line_ends_from c rest) =
    ends_append 0 (take start text) (new ++ rest)
    ∙ ap (λ (n : ℕ). first ++ line_ends_from n (new ++ rest)) size
    ∙ ap (λ (l : List ℕ). first ++ l) (ends_append start new rest) in
    ap₂ (λ (x y : List ℕ). x ++ (made ++ y)) head tail ∙ sym whole

-- The places after a number are moved first, and then others put in the place of some before it.
pub moved_then_replaced : (es made : List ℕ) (front back b c : ℕ) → front ≤ back → back ≤ length es
    → replaced (take back es ++ moved b c (drop back es)) front back made
    ≡ replaced_and_moved es front back made b c
moved_then_replaced es made front back b c order inside =
    let kept : List ℕ = take back es in
    let later : List ℕ = moved b c (drop back es) in
    let size : length kept ≡ back = length-take-le back es inside in
    let head : take front (kept ++ later) ≡ take front es =
    take-append-le front kept later (omega (arith, size, order)) ∙ take-take front back es order in
    let tail : drop back (kept ++ later) ≡ later = drop_at kept later back size in
    ap₂ (λ (x y : List ℕ). x ++ (made ++ y)) head tail
