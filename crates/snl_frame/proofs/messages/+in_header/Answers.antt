use Rattle.std.proofs.Common.{◌++◌, ◌≡◌, ◌≢◌, ◌∙◌, refl, ℕ, ◌+◌, ◌-◌, ◌≤◌, List, [], ◌∷◌, length, take, drop, sym, ap, subst, arith, rules, length-drop, length-take, Some, position, Option, ◌==◌}
use Rattle.std.proofs.lemmas.List.{take_all}
use Rattle.std.proofs.lemmas.Bool.Decides.{nat_tests}
use Rattle.snl_frame.specs.declared.messages.Front.{Front}
use Rattle.snl_frame.specs.Front.{IsFrontBy}
use Rattle.snl_frame.specs.Frame.{AtFront, after_header, after_line, in_header, length_after}
use Rattle.snl_frame.proofs.Lines.{front_further, in_header-line, in_header-long, in_header-none, in_header-short, place_inside}
use Rattle.snl_frame.proofs.messages.+in_header.Goals as goal
use Rattle.snl_frame.proofs.messages.+in_header.Goals.{then-is_empty, else-is_empty}

pub returns-then-lines-eq0-clause-front : goal.returns-then-lines-eq0-clause-front
returns-then-lines-eq0-clause-front t c =
    λ more. ap (λ (n : ℕ). in_header n c.args.body_length (c.args.bytes.now ++ more))
    c.if-lines-eq0.true ∙ in_header-none c.args.body_length (c.args.bytes.now ++ more)

pub returns-in-None-clause-front : goal.returns-in-None-clause-front
returns-in-None-clause-front t c =
    λ more. in_header-long c.args.lines c.args.body_length c.min.result c.args.bytes.now more
    c.if-lines-eq0.false (search rules) (sym c.in-None.ensures) (omega arith)

pub returns-in-None-2-clause-front : goal.returns-in-None-2-clause-front
returns-in-None-2-clause-front t c =
    in_header-short c.args.lines c.args.body_length c.min.result c.args.bytes.now
    c.if-lines-eq0.false (search rules) (sym c.in-None-2.ensures) (omega arith)

-- a line that is found ends inside
inside : (n : ℕ) (bytes : List ℕ) (end : ℕ) → position (λ c. c == 10) (take n bytes) ≡ Some end →
    end + 1 ≤ length bytes
inside n bytes end h =
    let at = place_inside (take n bytes) end h in
    omega (arith, at, length-take n bytes)

-- an empty line is followed by a body, another one by more lines
empty : (next : Option ℕ → List ℕ → AtFront) (before : Option ℕ) (line after : List ℕ)
    (front : Front) → length line ≡ 0 → IsFrontBy (after_header before) after front →
    IsFrontBy (after_line next before line) after front
empty next before [] after front e f = f
empty next before (b ∷ line) after front e f = absurd (omega (arith, e))

filled : (next : Option ℕ → List ℕ → AtFront) (before : Option ℕ) (line after : List ℕ)
    (front : Front) → length line ≢ 0 → IsFrontBy (next (length_after before line)) after front →
    IsFrontBy (after_line next before line) after front
filled next before [] after front some f = absurd (some refl)
filled next before (b ∷ line) after front some f = f

pub returns-clause-front : goal.returns-clause-front
returns-clause-front t c =
    let bytes : List ℕ = c.args.bytes.now in
    let end : ℕ = c.in-Some.end in
    let line : List ℕ = c.without_return-line.result.now in
    let next : Option ℕ → List ℕ → AtFront = in_header (c.args.lines - 1) in
    let inner : List ℕ → AtFront = after_line next c.args.body_length line in
    let front : Front = c.if-is_empty.front in
    let few : c.min.result ≤ 257 = omega arith in
    let found : position (λ c. c == 10) (take c.min.result bytes) ≡ Some end =
    sym c.in-Some.ensures in
    let size : end + 1 ≤ length bytes = inside c.min.result bytes end found in
    let whole : take (length bytes - (end + 1)) (drop (end + 1) bytes) ≡ drop (end + 1) bytes =
    take_all (length bytes - (end + 1)) (drop (end + 1) bytes)
    (omega (arith, length-drop (end + 1) bytes)) in
    let same : (more : List ℕ) →
    in_header c.args.lines c.args.body_length (bytes ++ more)
    ≡ inner (drop (end + 1) bytes ++ more) =
    λ more. in_header-line c.args.lines c.args.body_length c.min.result bytes more end
    c.if-lines-eq0.false few found
    ∙ ap (λ (l : List ℕ). after_line next c.args.body_length l (drop (end + 1) bytes ++ more))
    (sym c.without_return-line.ensures) in
    let told : IsFrontBy inner (drop (end + 1) bytes) front = elim c.if-is_empty.branch [
      | then-is_empty w ↦
          let f : IsFrontBy (after_header c.args.body_length) (drop (end + 1) bytes)
          w.after_header-front.result =
          subst (λ (l : List ℕ). IsFrontBy (after_header c.args.body_length) l
          w.after_header-front.result) whole w.after_header-front.ensures in
          subst (IsFrontBy inner (drop (end + 1) bytes)) (sym w.front-is)
          (empty next c.args.body_length line (drop (end + 1) bytes) w.after_header-front.result
          (grind (arith, nat_tests)) f)
      | else-is_empty w ↦
          let f : IsFrontBy (next w.length_after.result) (drop (end + 1) bytes)
          w.in_header-front.result =
          subst (λ (l : List ℕ). IsFrontBy (next w.length_after.result) l
          w.in_header-front.result) whole w.in_header-front.ensures.front in
          let g : IsFrontBy (next (length_after c.args.body_length line)) (drop (end + 1) bytes)
          w.in_header-front.result =
          subst (λ (o : Option ℕ). IsFrontBy (next o) (drop (end + 1) bytes)
          w.in_header-front.result) w.length_after.ensures f in
          subst (IsFrontBy inner (drop (end + 1) bytes)) (sym w.front-is)
          (filled next c.args.body_length line (drop (end + 1) bytes) w.in_header-front.result
          (grind (arith, nat_tests)) g)
    ] in
    subst (λ (x : Front). IsFrontBy (in_header c.args.lines c.args.body_length) bytes x)
    (sym c.moved.ensures)
    (front_further (in_header c.args.lines c.args.body_length) inner bytes (end + 1) front size
    same told)
